-- The relays that a router has chosen depend on no moment.
use Rattle.mesh_bases.proofs.Common.{◌≡◌, ℕ, sym, ◌∙◌, ap, subst, length, Some, slice_get, Relays, AreRelaysOf, AreRelays, State, SameWays, SameTwoHops, graphs_stay}

-- the same neighbours, ways and 2-hop tuples keep the relays
pub relays_stay : {s t : State} {now later : ℕ} → SameWays s now t later → SameTwoHops s t → length t.settings.interfaces ≡ length s.settings.interfaces → t.relays ≡ s.relays → AreRelays s now → AreRelays t later
relays_stay {s} {t} {now} {later} ways two_hops count same are = record {
  interfaces = ap (λ (r : Relays). length r.flooding) same ∙ (are.interfaces ∙ sym count);
  flooding = λ i relays at.
      let (g, is, chosen) = are.flooding i relays (subst (λ (r : Relays). slice_get r.flooding i ≡ Some relays) same at) in (g, (graphs_stay s t now later g ways two_hops).1 i is, chosen);
  routing = let (g, is, chosen) = are.routing in (g, (graphs_stay s t now later g ways two_hops).0 is, subst (λ (r : Relays). AreRelaysOf g r.routing) (sym same) chosen);
}

-- The row of an address says what is shown of it.
use Rattle.mesh_hello.proofs.Common.{◌≡◌, ℕ, Bool, true, false, refl, sym, ap, ◌∙◌, subst, arith, Contains, Option, Some, None, slice_get, IsTrue, IfSome, IfNone, ◌↔◌, is_some, common_steps, false≢true, place_from_lookup, lookup-from_Contains, Addr4, HelloRow, RouterSettings, LinkKey, Link, Lost, Neighbour, Relays, Base, Has, HasDistinctKeys, addr_eq, link_eq, find, host, entry_of, value_of, Bor, has_found, addr_equiv, same_addr, link_equiv, same_link, IsHelloRow, IsValue, State, IsLinkWith, IsNeighbourWith, AreDisjoint, IsLocalOn, IsRelayOf, IsFloodingRelayOver, IsHelloRowOf, said_addresses, link_status_said, other_said, link_in_said, link_out_said, near_in_said, near_out_said, contains_at, same_some, none_not}
use Rattle.mesh_links.specs.Links.{HasLinkWith}
use Rattle.mesh_hello.proofs.SayingLemmas.Parts.{IsStatus, is_status, is_only, local_told, link_told, other_told, link_in_told, link_out_told, near_in_told, near_out_told, flooding_told, routing_told}
use Rattle.mesh_hello.proofs.SayingLemmas.Somewhere.{told_some}
use Rattle.mesh_hello.proofs.Collect.{iff_on}

-- what the row is made of: the tuples that have the address, and what they show
pub record IsMadeOf (settings : RouterSettings) (links : Base LinkKey Link) (neighbours : Base Addr4 Neighbour) (losts : Base Addr4 Lost) (relays : Relays) (i now : ℕ) (row : HelloRow) (a : Addr4) : Type 0 where
  pub linked : Option (LinkKey × (Link × ℕ))
  pub near : Option (Addr4 × (Neighbour × ℕ))
  pub is_near : Bool
  pub is_lost : Bool
  pub linked_is : IsValue (IsLinkWith links a) linked
  pub near_is : IsValue (IsNeighbourWith neighbours a) near
  pub is_near_so : is_near ≡ is_some near
  pub is_lost_so : IsTrue is_lost ↔ ((l : Lost) × Has losts a l)
  pub addr : row.addr ≡ host a
  pub local : IsValue (IsLocalOn settings i a) row.local
  pub link : row.link ≡ link_status_said linked now
  pub other : row.other ≡ other_said row.link is_near is_lost
  pub link_in : row.metrics.link_in ≡ link_in_said row.link linked
  pub link_out : row.metrics.link_out ≡ link_out_said row.link linked
  pub near_in : row.metrics.near_in ≡ near_in_said near
  pub near_out : row.metrics.near_out ≡ near_out_said near
  pub flooding : IsTrue row.mpr.flooding ↔ IsFloodingRelayOver relays.flooding i row.link near
  pub routing : IsTrue row.mpr.routing ↔ IsRelayOf relays.routing near

row_here : (s : State) (links : Base LinkKey Link) (i now : ℕ) (row : HelloRow) (a : Addr4) → slice_get s.bases.neighbourhood.links i ≡ Some links →
    AreDisjoint links s.bases.neighbourhood.neighbours s.bases.neighbourhood.losts →
    Contains (said_addresses s.settings links s.bases.neighbourhood.neighbours s.bases.neighbourhood.losts) a →
    IsMadeOf s.settings links s.bases.neighbourhood.neighbours s.bases.neighbourhood.losts s.relays i now row a → IsHelloRow s i now row a
row_here s links i now row a at apart told made =
    let link = made.linked in
    let near = made.near in
    let is : IsStatus s i now a link row.link = subst (λ x. IsStatus s i now a link x) (sym made.link) (is_status s i now a links at apart link made.linked_is) in
    let only = is_only s i now a links at apart near made.near_is in
    record {
      addr = made.addr;
      some = told_some s i now a links at link row.link is told;
      local = local_told s i now a links at apart row.local made.local;
      link = link_told s i now a links at apart link row.link is;
      other = rw (made.other, made.is_near_so) (other_told s i now a links at apart link row.link near made.is_lost is only made.is_lost_so);
      link_in = rw made.link_in (link_in_told s i now a links at apart link row.link is);
      link_out = rw made.link_out (link_out_told s i now a links at apart link row.link is);
      near_in = rw made.near_in (near_in_told s i now a links at apart near only);
      near_out = rw made.near_out (near_out_told s i now a links at apart near only);
      flooding = iff_on made.flooding (flooding_told s i now a links at apart link row.link near is only);
      routing = iff_on made.routing (routing_told s i now a links at apart near only);
    }

-- in each state that has these settings, tuples and relays
pub row_of : (settings : RouterSettings) (links : Base LinkKey Link) (neighbours : Base Addr4 Neighbour) (losts : Base Addr4 Lost) (relays : Relays) (i now : ℕ) (row : HelloRow) (a : Addr4) →
    AreDisjoint links neighbours losts → Contains (said_addresses settings links neighbours losts) a → IsMadeOf settings links neighbours losts relays i now row a →
    IsHelloRowOf settings links neighbours losts relays i now row a
row_of settings links neighbours losts relays i now row a apart told made = record {
  says = λ s seen. row_here s links i now row a seen.links_are
      (rw (seen.neighbours_are, seen.losts_are) apart)
      (rw (seen.settings_are, seen.neighbours_are, seen.losts_are) told)
      (rw (seen.settings_are, seen.neighbours_are, seen.losts_are, seen.relays_are) made);
}

-- whether a look-up finds the address is whether it is lost
pub lost_by : (losts : Base Addr4 Lost) (a : Addr4) (o : Option (Bor Lost × ℕ)) (b : Bool) → HasDistinctKeys addr_eq losts → value_of o ≡ find addr_eq losts a → b ≡ is_some o →
    IsTrue b ↔ ((l : Lost) × Has losts a l)
lost_by losts a None b distinct is so = (
  (λ h. absurd (false≢true (sym so ∙ h))),
  (λ w. let (until, found) = (has_found addr_equiv same_addr losts a w.0 distinct).0 w.1 in none_not refl (is ∙ found)),
)
lost_by losts a (Some e) b distinct is so = ((λ h. (e.0.now, (has_found addr_equiv same_addr losts a e.0.now distinct).1 (e.1, sym is))), (λ w. so))

pub lent_some : {K V : Type 0} (o : Option (Bor K × Bor V × ℕ)) → is_some o ≡ is_some (entry_of o)
lent_some o = grind (arith, common_steps)

-- Tuples that have an address

-- what is found at a key stands in the base
stands : {K V : Type 0} {eq : K → K → Bool} → ((k l : K) → eq k l ≡ true → k ≡ l) → (base : Base K V) (key : K) (e : V × ℕ) → find eq base key ≡ Some e → Contains base (key, e)
stands {K} {V} {eq} exact base key e is = grind (arith, common_steps, place_from_lookup, contains_at)

-- the link that has the address, or none
pub link_by : (links : Base LinkKey Link) (a : Addr4) (o : Option (Bor LinkKey × Bor Link × ℕ)) → HasDistinctKeys link_eq links → IfSome o (λ e. HasLinkWith links a e.0.now (e.1.now, e.2)) →
    IfNone o ((key : LinkKey) (e : Link × ℕ) → HasLinkWith links a key e → ⊥) → IsValue (IsLinkWith links a) (entry_of o)
link_by links a None distinct some none = λ e with. none e.0 e.1 (lookup-from_Contains link_equiv e.0 e.1 links distinct with.0, with.1)
link_by links a (Some e) distinct some none = (stands same_link links e.0.now (e.1.now, e.2) some.0, some.1)

-- a neighbour that has the address, where it is symmetric
pub near_by : (neighbours : Base Addr4 Neighbour) (a o : Addr4) (n : Neighbour) (until : ℕ) → find addr_eq neighbours o ≡ Some (n, until) → Contains n.addrs a → IsTrue n.symmetric → IsNeighbourWith neighbours a (o, (n, until))
near_by neighbours a o n until is has symmetric = (stands same_addr neighbours o (n, until) is, symmetric, has)

-- none is, where the only one that has it isn't
pub not_near : (neighbours : Base Addr4 Neighbour) (a o : Addr4) (n : Neighbour) (until : ℕ) → HasDistinctKeys addr_eq neighbours → find addr_eq neighbours o ≡ Some (n, until) →
    ((p : Addr4) (f : Neighbour × ℕ) → find addr_eq neighbours p ≡ Some f → Contains f.0.addrs a → p ≡ o) → n.symmetric ≡ false → (e : Addr4 × (Neighbour × ℕ)) → IsNeighbourWith neighbours a e → ⊥
not_near neighbours a o n until distinct is only not e with =
    let at = lookup-from_Contains addr_equiv e.0 e.1 neighbours distinct with.0 in
    let same : e.1 ≡ (n, until) = same_some (ap (λ (p : Addr4). find addr_eq neighbours p) (sym (only e.0 e.1 at with.2)) ∙ at) is in
    false≢true (sym not ∙ (ap (λ (x : Neighbour × ℕ). x.0.symmetric) (sym same) ∙ with.1))

-- nor where none has it
pub none_near : (neighbours : Base Addr4 Neighbour) (a : Addr4) → HasDistinctKeys addr_eq neighbours → ((p : Addr4) (f : Neighbour × ℕ) → find addr_eq neighbours p ≡ Some f → Contains f.0.addrs a → ⊥) → (e : Addr4 × (Neighbour × ℕ)) → IsNeighbourWith neighbours a e → ⊥
none_near neighbours a distinct none e with = none e.0 e.1 (lookup-from_Contains addr_equiv e.0 e.1 neighbours distinct with.0) with.2

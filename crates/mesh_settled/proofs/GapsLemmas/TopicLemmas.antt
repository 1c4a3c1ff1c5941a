-- Topology tuples on both sides, of any kind.
use Rattle.mesh_settled.proofs.Common.{arith, common_steps, ◌≡◌, ℕ, ◌<◌, ◌⊎◌, inl, inr, refl, sym, ◌∙◌, ap, subst, length, List, Option, Some, None, slice_get, map, ◌↔◌, option_map, Addr4, NetAddr, RadioGraph, RouterSettings, Scenario, Base, Has, host, Joined, At, IsPeer, IsStray, Sound, State, IsOriginator, has_found, router_equiv, same_router, address_equiv, same_address, network_equiv, same_network, sound_scenario, originator_address, Found, GapKey, Claim, TopologyKind, Routers, Addresses, Networks, Field, AllSame, IsSide, IsLeastGap, lesser, Look, look, IsHeldTuple, IsPresentTuple, IsExcepted, AreSame, IsNetwork, IsPeerOriginator, IsValueOf, claim, claim_fields, key_at, ends_at, IsClaimBy, IsPresentClaim, held_claim, IsHeldAt, IsTupleHeld, IsToRows, IsByRows, IsByAllRows, IsTopicKey, same_some, place_of as place_in, one_originator}
use Rattle.mesh_atoms.specs.declared.tuples.RouterKey.{RouterKey}
use Rattle.mesh_atoms.specs.declared.tuples.AddressKey.{AddressKey}
use Rattle.mesh_atoms.specs.declared.tuples.NetworkKey.{NetworkKey}
use Rattle.mesh_topo.specs.TcSets.Tuples.{router_says, address_says, network_says}
use Rattle.mesh_settled.proofs.GapsLemmas.JointLemmas.{same_state}
use Rattle.mesh_settled.proofs.GapsLemmas.Leasts.{least_as, least_all, least_lesser}
use Rattle.mesh_settled.proofs.GapsLemmas.PeerLemmas.{within}
use Rattle.mesh_settled.proofs.GapsLemmas.RowLemmas.{dest_is, same_key, of_row}
use Rattle.mesh_settled.proofs.GapsLemmas.Sides.{all_self, held_in}

-- What is held

module _ (l : Look) (sound : Sound l.p) (from : Addr4) (net : NetAddr) where
  pub held_side : (topic : TopologyKind) → IsSide (IsHeldTuple l (key_at topic from net)) (option_map claim_fields (held_claim l.p topic from net))
  held_side Routers =
      let key : RouterKey = record { from = from; to = net.addr } in
      held_in (λ t. claim t.ansn (router_says t)) claim_fields (Has l.p.bases.topology.routers key) _ (λ t. has_found router_equiv same_router l.p.bases.topology.routers key t sound.topology.routers.distinct)
  held_side Addresses =
      let key : AddressKey = record { from = from; addr = net.addr } in
      held_in (λ t. claim t.ansn (address_says t)) claim_fields (Has l.p.bases.topology.addresses key) _ (λ t. has_found address_equiv same_address l.p.bases.topology.addresses key t sound.topology.addresses.distinct)
  held_side Networks =
      let key : NetworkKey = record { from = from; net = net } in
      held_in (λ t. claim t.ansn (network_says t)) claim_fields (Has l.p.bases.topology.networks key) _ (λ t. has_found network_equiv same_network l.p.bases.topology.networks key t sound.topology.networks.distinct)

-- What is given

origin_of : (q : State) (topic : TopologyKind) (from : Addr4) (net : NetAddr) (t : Claim) → IsClaimBy q topic from net t → IsOriginator q.settings from
origin_of q Routers from net t w = w.1.from
origin_of q Addresses from net t w = w.1.from
origin_of q Networks from net t w = w.1.from

module _ (s : Scenario) (graph : RadioGraph) (states : List State) (now x : ℕ) (net : IsNetwork s graph states now) (p : State) (topic : TopologyKind) (from : Addr4) (dest : NetAddr) where
  abbrev seen : Look
  seen = look s states now x p

  pub none_given : ((w : ℕ) → IsPeerOriginator s states x from w → ⊥) → IsSide (IsPresentClaim seen topic from dest) None
  none_given none = λ gs h. none h.0 (h.1, h.3, origin_of h.1 topic from dest h.2 h.4)

  module _ (w : ℕ) (q : State) (at : At states w q) (sender : IsPeerOriginator s states x from w) where
    pub its_origin : IsOriginator q.settings from
    its_origin = subst (λ (r : State). IsOriginator r.settings from) (same_state sender.1.at at) sender.2

    -- a sender of that originator is this one
    same_sender : (gs : List Field) (h : IsPresentClaim seen topic from dest gs) → IsClaimBy q topic from dest h.2
    same_sender gs (v, r, t, peer, by, same) =
        let mine = originator_address q.settings from its_origin in
        let theirs = originator_address r.settings from (origin_of r topic from dest t by) in
        let ends = (sound_scenario s).addresses v w theirs.0 mine.0 r.settings q.settings from (net.routers.settings v r peer.at) (net.routers.settings w q at) theirs.1 mine.1 in
        let r_is : r ≡ q = same_state (subst (λ (n : ℕ). At states n r) ends.0 peer.at) at in
        subst (λ (z : State). IsClaimBy z topic from dest t) r_is by

    pub given_side : (o : Option Claim) → IsValueOf (IsClaimBy q topic from dest) o → IsSide (IsPresentClaim seen topic from dest) (option_map claim_fields o)
    given_side None none = λ gs h. none h.2 (same_sender gs h)
    given_side (Some t) one =
        let peer : IsPeer s states x w q = subst (λ (r : State). IsPeer s states x w r) (same_state sender.1.at at) sender.1 in (
          (w, q, t, peer, one.0, refl),
          λ gs h.
              let same : h.2 ≡ t = one.1 h.2 (same_sender gs h) in
              subst (λ (hs : List Field). AllSame hs (claim_fields t)) (sym (h.5 ∙ ap claim_fields same)) (all_self (claim_fields t)),
        )

-- Any kind of key

module _ (l : Look) (from : Addr4) (net : NetAddr) where
  gives_claim : (topic : TopologyKind) (gs : List Field) → IsPresentTuple l (key_at topic from net) gs → IsPresentClaim l topic from net gs
  gives_claim Routers gs (w, q, u, peer, by, same) = (w, q, claim u.ansn (router_says u), peer, (u, by, refl), same)
  gives_claim Addresses gs (w, q, u, peer, by, same) = (w, q, claim u.ansn (address_says u), peer, (u, by, refl), same)
  gives_claim Networks gs (w, q, u, peer, by, same) = (w, q, claim u.ansn (network_says u), peer, (u, by, refl), same)

  claim_gives : (topic : TopologyKind) (gs : List Field) → IsPresentClaim l topic from net gs → IsPresentTuple l (key_at topic from net) gs
  claim_gives Routers gs (w, q, t, peer, (u, by, is), same) = (w, q, u, peer, by, same ∙ ap claim_fields is)
  claim_gives Addresses gs (w, q, t, peer, (u, by, is), same) = (w, q, u, peer, by, same ∙ ap claim_fields is)
  claim_gives Networks gs (w, q, t, peer, (u, by, is), same) = (w, q, u, peer, by, same ∙ ap claim_fields is)

  pub given_as : (topic : TopologyKind) (o : Option (List Field)) → IsSide (IsPresentClaim l topic from net) o → IsSide (IsPresentTuple l (key_at topic from net)) o
  given_as topic None none = λ gs h. none gs (gives_claim topic gs h)
  given_as topic (Some fs) one = (claim_gives topic fs one.0, λ gs h. one.1 gs (gives_claim topic gs h))

  pub excepted_is : (topic : TopologyKind) → IsExcepted l (key_at topic from net) ↔ IsStray l.s l.x from
  excepted_is topic = grind (arith, common_steps)

pub stray_same : (s : Scenario) (graph : RadioGraph) (states : List State) (now x : ℕ) → IsNetwork s graph states now → (p : State) (topic : TopologyKind) (from : Addr4) (dest : NetAddr) → IsStray s x from →
    AreSame (look s states now x p) (key_at topic from dest)
stray_same s graph states now x net p topic from dest stray =
    let l = look s states now x p in record {
      held = λ fs h. inl ((excepted_is l from dest topic).1 stray);
      present = λ gs w.
          let h = gives_claim l from dest topic gs w in
          let theirs = originator_address h.1.settings from (origin_of h.1 topic from dest h.2 h.4) in
          let (r, is, mine) = stray.3 in
          let ends = (sound_scenario s).addresses h.0 stray.0 theirs.0 mine.0 h.1.settings r from (net.routers.settings h.0 h.1 h.3.at) is theirs.1 mine.1 in
          absurd (stray.2 (subst (Joined s x) ends.0 h.3.joined));
    }

-- The keys that are looked at

pub key_place : (l : Look) (p : State) (topic : TopologyKind) (place : ℕ) (from : Addr4) (net : NetAddr) (f : Option Found) → ends_at p topic place ≡ Some (from, net) →
    IsLeastGap l (λ k. k ≡ key_at topic from net) f → IsLeastGap l (IsHeldAt p topic place) f
key_place l p topic place from net f at least =
    least_as l (λ k. k ≡ key_at topic from net) (IsHeldAt p topic place) (λ k is. (from, net, at, is))
    (λ k w. w.3 ∙ ap (λ (e : Addr4 × NetAddr). key_at topic e.0 e.1) (same_some w.2 at)) f least

module _ (l : Look) (states : List State) (topic : TopologyKind) (w : ℕ) (q : State) (at : At states w q) (settings : RouterSettings) (same : settings ≡ q.settings) where
  pub by_rows : (from : Addr4) → IsOriginator settings from → (f : Option Found) → IsLeastGap l (IsToRows topic from q.rows) f → IsLeastGap l (IsByRows states topic w) f
  by_rows from origin f least =
      let mine : IsOriginator q.settings from = subst (λ (r : RouterSettings). IsOriginator r from) same origin in
      least_as l (IsToRows topic from q.rows) (IsByRows states topic w) (λ k h. (q, at, from, mine, h))
      (λ k h.
      let q_is : h.0 ≡ q = same_state h.1 at in
      let theirs : IsOriginator q.settings h.2 = subst (λ (r : State). IsOriginator r.settings h.2) q_is h.3 in
      let from_is : h.2 ≡ from = one_originator q.settings h.2 from theirs mine in
      subst (λ (a : Addr4). IsToRows topic a q.rows k) from_is (subst (λ (r : State). IsToRows topic h.2 r.rows k) q_is h.4)) f least

-- the ends of an entry are those that its place has
ends_there : {K V : Type 0} (base : Base K V) (ends : K → Addr4 × NetAddr) (k : K) (v : V) → Has base k v → (place : ℕ) × (place < length base) × (option_map (λ e. ends e.0) (slice_get base place) ≡ Some (ends k))
ends_there base ends k v has = let w = place_in base (k, (v, has.0)) has.1 in (w.0, w.1, ap (option_map (λ e. ends e.0)) w.2)

held_tried : (l : Look) (topic : TopologyKind) (from : Addr4) (net : NetAddr) (fs : List Field) → IsHeldTuple l (key_at topic from net) fs → IsTupleHeld l.p topic (key_at topic from net)
held_tried l Routers from net fs w = let at = ends_there l.p.bases.topology.routers (λ k. (k.from, host k.to)) _ w.0 w.1 in (at.0, at.1, (from, host net.addr, at.2, refl))
held_tried l Addresses from net fs w = let at = ends_there l.p.bases.topology.addresses (λ k. (k.from, host k.addr)) _ w.0 w.1 in (at.0, at.1, (from, host net.addr, at.2, refl))
held_tried l Networks from net fs w = let at = ends_there l.p.bases.topology.networks (λ k. (k.from, k.net)) _ w.0 w.1 in (at.0, at.1, (from, net, at.2, refl))

module _ {A : Type 0} (f : A → State) (routers : List A) (s : Scenario) (graph : RadioGraph) (now x : ℕ) (net : IsNetwork s graph (map f routers) now) (p : State) (topic : TopologyKind) where
  abbrev here : Look
  here = look s (map f routers) now x p

  abbrev IsGiven : GapKey → Type 0
  IsGiven = IsByAllRows (map f routers) topic (length routers)

  abbrev IsTried : GapKey → Type 0
  IsTried k = IsTupleHeld p topic k ⊎ IsGiven k

  given_tried : (from : Addr4) (dest : NetAddr) (gs : List Field) → IsPresentClaim here topic from dest gs → IsGiven (key_at topic from dest)
  given_tried from dest gs g =
      let q = g.1 in
      let row = of_row q (net.sound g.0 q g.3.at) from topic dest g.2 g.4 in
      let w = place_in q.rows row.0 row.1.0 in
      (g.0, within f routers g.0 q g.3.at, (q, g.3.at, from, origin_of q topic from dest g.2 g.4, (w.0, w.1, (row.0, w.2, same_key topic from dest row.0.dest (dest_is topic dest row.0 row.1.1)))))

  pub all_claim : (a b : Option Found) → IsLeastGap here (IsTupleHeld p topic) a → IsLeastGap here IsGiven b → IsLeastGap here (IsTopicKey topic) (lesser a b)
  all_claim a b held given =
      least_all here IsTried (IsTopicKey topic) (lesser a b)
      (λ k w. elim w [ inl h ↦ (h.2.0, h.2.1, h.2.3) | inr g ↦ let r = g.2.4.2 in (g.2.2, r.0.dest, r.2) ])
      (λ k fs (from, net, same) h. inl (subst (IsTupleHeld p topic) (sym same) (held_tried here topic from net fs (subst (λ (j : GapKey). IsHeldTuple here j fs) same h))))
      (λ k gs (from, net, same) g. inr (subst IsGiven (sym same) (given_tried from net gs (gives_claim here from net topic gs (subst (λ (j : GapKey). IsPresentTuple here j gs) same g)))))
      (least_lesser here (IsTupleHeld p topic) IsGiven a b held given)

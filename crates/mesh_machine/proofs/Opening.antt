-- The opening state of a router is sound.
use Rattle.mesh_machine.proofs.Common.{◌≡◌, ℕ, zero, suc, refl, sym, ◌∙◌, ap, subst, arith, List, [], ◌∷◌, length, replicate, Contains, Some, Bool, slice_get, common_steps, length-replicate, none-some, Addr4, NetAddr, RouterSettings, Neighbour, Base, Has, base_of, host, Sound, SoundNeighbourhood, SoundTopology, SoundNoted, IsWithin, State, Bases, Frame, no_bases, no_relays, IsOpening, Event, Steps, No_events, First_event, Run, contains_at}
use Rattle.std.specs.List.{IsDistinct}
use Rattle.mesh_atoms.specs.RelayGraphs.{AreRelays, AreRelaysOf, IsFloodingGraph, IsRoutingGraph}
use Rattle.mesh_atoms.specs.Routes.{AreRoutes, RouteArc}
use Rattle.mesh_atoms.specs.Walk.{Walk}
use Rattle.mesh_nhdp.specs.NhdpState.{empty_near}
use Rattle.mesh_nhdp.proofs.Empty.{empty_parts, empty_base}
use Rattle.mesh_machine.proofs.Originators.{some_originator}
use Rattle.mesh_machine.proofs.Soundness.{step_sound}

none_among : {X B : Type 0} (xs : List X) (x : X) → xs ≡ [] → Contains xs x → B
none_among xs x empty has = let l = has.1 in let e = ap length empty in absurd (omega (arith, l, e))

none_has : {K V B : Type 0} (base : Base K V) (key : K) (v : V) → base ≡ [] → Has base key v → B
none_has base key v empty has = none_among base (key, (v, has.0)) empty has.1

in_replicate : {X : Type 0} (n i : ℕ) (x y : X) → slice_get (replicate n x) i ≡ Some y → y ≡ x
in_replicate zero i x y at = absurd (none-some y at)
in_replicate (suc n) zero x y at = let both : Some x ≡ Some y = at in cc
in_replicate (suc n) (suc i) x y at = in_replicate n i x y at

-- sets that are all empty
pub all_empty : {K V : Type 0} (sets : List (Base K V)) (n : ℕ) → length sets ≡ n → ((i : ℕ) → base_of sets i ≡ []) → sets ≡ replicate n []
all_empty [] zero count none = refl
all_empty [] (suc n) count none = absurd (omega (arith, count))
all_empty (set ∷ sets) zero count none = absurd (omega (arith, count))
all_empty {K} {V} (set ∷ sets) (suc n) count none =
    let first : set ≡ [] = none 0 in
    let others : sets ≡ replicate n [] = all_empty sets n (omega (arith, count)) (λ i. none (suc i)) in
    ap (λ (s : Base K V). s ∷ sets) first ∙ ap (λ (ss : List (Base K V)). [] ∷ ss) others

within_none : {K V : Type 0} (eq : K → K → Bool) (now most : ℕ) (base : Base K V) → base ≡ [] → IsWithin eq now most base
unfolding IsDistinct
within_none {K} {V} eq now most base empty = grind (arith, common_steps, none-some)

module _ (s : State) (n : ℕ) (bases : s.bases ≡ no_bases n) where
  no_neighbour : {B : Type 0} (o : Addr4) (m : Neighbour) → Has s.bases.neighbourhood.neighbours o m → B
  no_neighbour o m has = none_has s.bases.neighbourhood.neighbours o m (ap (λ (b : Bases). b.neighbourhood.neighbours) bases) has

  no_arc : (a b : NetAddr) (c : ℕ) → RouteArc s a b c → ⊥
  no_arc a b c h3 = grind (arith, common_steps, no_neighbour, none_has)

  stays : (a b : NetAddr) (c : ℕ) → Walk (RouteArc s) a b c → b ≡ a
  stays a b c h3 = grind (arith, common_steps, no_arc)

  no_routes : (now : ℕ) → s.routes ≡ [] → (self : Addr4) × AreRoutes s now self
  no_routes now none =
      let (self, is) = some_originator s.settings in
      let (face, at_face, at) = is in (
        self,
        record {
          is_self = is;
          reached = λ node c walk outside. absurd (outside.no_address self (0, (face, at_face, contains_at face.addrs 0 self at)) (stays (host self) node c walk));
          outside = λ row has. none_among s.routes row none has;
          least = λ row has. none_among s.routes row none has;
          parent = λ row has. none_among s.routes row none has;
          next_hop = λ row has. none_among s.routes row none has;
          ordered = λ i j d below within. let e = ap length none in absurd (omega (arith, below, within, e));
        },
      )

  empty_flooding : (now i : ℕ) → IsFloodingGraph s now i (record { near = []; direct = []; far = [] })
  empty_flooding now i = grind (arith, common_steps, none_among, no_neighbour)

  empty_routing : IsRoutingGraph s (record { near = []; direct = []; far = [] })
  empty_routing = grind (arith, common_steps, none_among, no_neighbour)

  none_of : AreRelaysOf (record { near = []; direct = []; far = [] }) []
  none_of = grind (arith, common_steps, none_among)

  no_relays_needed : (now : ℕ) → s.relays ≡ no_relays n → n ≡ length s.settings.interfaces → AreRelays s now
  no_relays_needed now none count = grind (arith, common_steps, length-replicate, in_replicate, empty_flooding, none_of, empty_routing)

-- a router before its first event is sound
pub opening_sound : (settings : RouterSettings) (s : State) → IsOpening settings s → Sound s
opening_sound settings s is =
    let n : ℕ = length settings.interfaces in
    let count : n ≡ length s.settings.interfaces = ap (λ (r : RouterSettings). length r.interfaces) (sym is.settings_are) in
    let (self, routes) = no_routes s n is.bases s.last is.routes in
    record {
      neighbourhood = subst (λ (b : Bases). SoundNeighbourhood s.settings s.last b.neighbourhood) (sym is.bases) (empty_parts s.settings s.last n (no_bases n).neighbourhood count refl refl refl refl);
      topology = subst (λ (b : Bases). SoundTopology s.settings s.last b.topology) (sym is.bases) (record {
        advertisers = within_none _ _ _ _ refl;
        routers = within_none _ _ _ _ refl;
        addresses = within_none _ _ _ _ refl;
        networks = within_none _ _ _ _ refl;
        not_my_advertiser = λ o mine. refl;
        not_my_router = λ key mine. refl;
        not_my_address = λ key mine. refl;
        not_my_network = λ key mine. refl;
      });
      noted = subst (λ (b : Bases). SoundNoted s.settings s.last b.noted) (sym is.bases) (record {
        interfaces = length-replicate n [] ∙ count;
        received = λ i. within_none _ _ _ _ (empty_base n i);
        processed = within_none _ _ _ _ refl;
        forwarded = within_none _ _ _ _ refl;
      });
      relays = no_relays_needed s n is.bases s.last is.relays count;
      self = self;
      routes = routes;
      rows = is.rows;
    }

-- bases are those of the opening state by their parts
pub empties : (n : ℕ) (bases : Bases) → bases.neighbourhood ≡ empty_near n →
    bases.topology.advertisers ≡ [] → bases.topology.routers ≡ [] → bases.topology.addresses ≡ [] → bases.topology.networks ≡ [] →
    length bases.noted.received ≡ n → ((i : ℕ) → base_of bases.noted.received i ≡ []) → bases.noted.processed ≡ [] → bases.noted.forwarded ≡ [] → bases ≡ no_bases n
empties n bases near advertisers routers addresses networks counts received processed forwarded = grind (arith, common_steps, all_empty)

-- and so is every router after it
steps_sound : (old : State) (events : List Event) (sent : List (List Frame)) (new : State) → Sound old → Steps old events sent new → Sound new
steps_sound old events sent new sound No_events = sound
steps_sound old events sent new sound (First_event {mid = mid} {event = event} {events = others} {sent = frames} {more = more} step steps) = steps_sound mid others more new (step_sound old event frames mid sound step) steps

pub runs_sound : (settings : RouterSettings) (events : List Event) (sent : List (List Frame)) (new : State) → Run settings events sent new → Sound new
runs_sound settings events sent new (opening, is, steps) = steps_sound opening events sent new (opening_sound settings opening is) steps

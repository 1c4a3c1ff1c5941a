-- A router with a sound neighbourhood has relays.
mod Ascending
mod Graphs
mod Listings
mod Offers
mod Reduced
use Rattle.mesh_bases.proofs.Common.{◌≡◌, ℕ, ◌+◌, zero, suc, inl, inr, refl, subst, arith, List, [], ◌∷◌, ◌++◌, length, slice_get, Some, Addr4, NeighbourGraph, AreRelaysOf, IsFloodingGraph, SoundNeighbourhood, State, get_pushed, length_pushed}
use Rattle.mesh_bases.specs.Existing.{RoutersHaveRelays}
use Rattle.mesh_bases.proofs.Existing.Graphs.{flooding_graph, routing_graph}
use Rattle.mesh_bases.proofs.Existing.Reduced.{relays_of_graph}

module _ (s : State) (now : ℕ) (sound : SoundNeighbourhood s.settings now s.bases.neighbourhood) where
  -- these may be the flooding relays of the interface
  abbrev MayFlood : ℕ → List Addr4 → Type 0
  MayFlood i relays = (g : NeighbourGraph) × IsFloodingGraph s now i g × AreRelaysOf g relays

  flooding_on : (i : ℕ) → (relays : List Addr4) × MayFlood i relays
  flooding_on i =
      let (g, is, distinct) = flooding_graph s now i sound.distinct_neighbours in
      let (relays, are) = relays_of_graph g distinct in
      (relays, (g, is, are))

  flooding_on_all : (n : ℕ) → (lists : List (List Addr4)) × (length lists ≡ n)
      × ((i : ℕ) (relays : List Addr4) → slice_get lists i ≡ Some relays → MayFlood i relays)
  flooding_on_all zero = ([], refl, λ i relays at. absurd cc)
  flooding_on_all (suc n) =
      let (lists, long, each) = flooding_on_all n in
      let (last, may) = flooding_on n in (
        lists ++ last ∷ [],
        (let more : length (lists ++ last ∷ []) ≡ n + 1 = length_pushed n lists last long in omega arith),
        λ i relays at. elim (get_pushed lists last i relays at) [
          | inl before ↦ each i relays before
          | inr (place, is) ↦
              let here : n ≡ i = omega arith in
              subst (λ (j : ℕ). MayFlood j relays) here (subst (λ (r : List Addr4). MayFlood n r) is may)
        ],
      )

pub relays_exist : RoutersHaveRelays
relays_exist s now sound =
    let (lists, long, each) = flooding_on_all s now sound (length s.settings.interfaces) in
    let (g, is, distinct) = routing_graph s sound.distinct_neighbours in
    let (relays, are) = relays_of_graph g distinct in (
      record { flooding = lists; routing = relays },
      record {
        interfaces = long;
        flooding = λ i chosen at.
            let (h, is_graph, serve) = each i chosen at in
            (h, record { near = is_graph.near; direct = is_graph.direct; far = is_graph.far }, serve);
        routing = (g, record { near = is.near; direct = is.direct; far = is.far }, are);
      },
    )

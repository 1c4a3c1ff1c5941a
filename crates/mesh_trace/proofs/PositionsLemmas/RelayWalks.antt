-- The relay lines of an event.
use Rattle.mesh_trace.proofs.Common.{common_steps, set-set, ◌≡◌, ℕ, ◌+◌, List, [], ◌∷◌, ◌++◌, length, length-append, map, Some, refl, sym, ap, ◌∙◌, subst, append_assoc, arith, slice_get, flat_map, enumerate_from, append-nil, get_or_from_slice_get, Addr4, Interface, AreRelays, IsFloodingGraph, IsRoutingGraph, State, set_here, flooding_text, flooding_relays_line, routing_relays_line, relays_lines, NetState, none_told, Tells_flooding, Tells_routing, Item, Flooding, Routing, with_state, relay_items, LineLeads}
use Rattle.mesh_trace.proofs.PositionsLemmas.Leading.{at, to_item}
use Rattle.mesh_trace.proofs.PositionsLemmas.TextLines.{flooding_one, routing_one}
use Rattle.mesh_trace.proofs.PositionsLemmas.Walks.{Walks, walks_nowhere, walks_one, walks_on}

-- the router with the relays of so many interfaces told
abbrev pub told_so : State → List (List Addr4) → State
told_so s told = record s { relays = record { flooding = told; routing = [] } }

-- what stands behind some
pub behind_some : {A : Type 0} (front : List A) (x : A) (rest : List A) → slice_get (front ++ x ∷ rest) (length front) ≡ Some x
behind_some [] x rest = refl
behind_some (y ∷ ys) x rest = behind_some ys x rest

-- a state that is set twice
pub set_again : (net : NetState) (x : ℕ) (a b : State) → with_state (with_state net x a) x b ≡ with_state net x b
set_again net x a b = ap (λ (routers : List State). record net { routers = routers }) (set-set net.routers x a b)

-- the line of an interface, by its relays
pub flooding_by : (s : State) (relays : List (List Addr4)) (n : ℕ) (face : Interface) (one : List Addr4) → slice_get relays n ≡ Some one →
    flooding_relays_line s.settings.name relays (n, face) ≡ flooding_text s.settings.name face.name one
unfolding flooding_relays_line
flooding_by s relays n face one stands =
    ap (λ (l : List Addr4). flooding_text s.settings.name face.name l) (get_or_from_slice_get relays n one [] stands)

module _ (net : NetState) (x : ℕ) (was is : State) (stood : slice_get net.routers x ≡ Some was) (are : AreRelays is is.last) where
  floods_walk : (rest : List Item) (front faces : List Interface) (n : ℕ) (told todo : List (List Addr4)) → is.settings.interfaces ≡ front ++ faces → length front ≡ n →
      is.relays.flooding ≡ told ++ todo → length told ≡ n → length todo ≡ length faces →
      Walks (at (with_state net x (told_so is told)) x (map (λ f. Flooding f.0) (enumerate_from n faces) ++ rest)) (at (with_state net x (told_so is (told ++ todo))) x rest)
      (flat_map (flooding_relays_line is.settings.name is.relays.flooding) (enumerate_from n faces))
  floods_walk rest front [] n told [] faces_are front_is flooding_is told_is same = grind (arith, common_steps, append-nil, walks_nowhere)
  floods_walk rest front [] n told (one ∷ todo) faces_are front_is flooding_is told_is same = absurd (omega (arith, same))
  floods_walk rest front (face ∷ faces) n told [] faces_are front_is flooding_is told_is same = absurd (omega (arith, same))
  floods_walk rest front (face ∷ faces) n told (one ∷ todo) faces_are front_is flooding_is told_is same =
      let here = with_state net x (told_so is told) in
      let there = told_so is (told ++ one ∷ []) in
      let text = flooding_relays_line is.settings.name is.relays.flooding (n, face) in
      let items : List Item = map (λ f. Flooding f.0) (enumerate_from (n + 1) faces) ++ rest in
      let face_at : slice_get is.settings.interfaces n ≡ Some face = rw (faces_are, ← front_is) (behind_some front face faces) in
      let one_at : slice_get is.relays.flooding n ≡ Some one = rw (flooding_is, ← told_is) (behind_some told one todo) in
      let (g, graph, chosen) = are.flooding n one one_at in
      let graph_too : IsFloodingGraph (told_so is told) is.last n g = record { near = graph.near; direct = graph.direct; far = graph.far } in
      let stands_here : slice_get here.routers x ≡ Some (told_so is told) = set_here net.routers x (told_so is told) was stood in
      let longer : (told ++ one ∷ []) ++ todo ≡ told ++ (one ∷ todo) = append_assoc told (one ∷ []) todo in
      let more = floods_walk rest (front ++ face ∷ []) faces (n + 1) (told ++ one ∷ []) todo
      (faces_are ∙ sym (append_assoc front (face ∷ []) faces)) (let h = length-append front (face ∷ []) in omega (arith, h, front_is))
      (flooding_is ∙ sym longer) (let h = length-append told (one ∷ []) in omega (arith, h, told_is)) (omega (arith, same)) in
      walks_on (at here x (Flooding n ∷ items)) (at (with_state net x there) x items) (at (with_state net x (told_so is (told ++ one ∷ todo))) x rest) text _
      (walks_one _ _ text (flooding_one is.settings is.relays.flooding (n, face))
      (λ line line_is. subst (λ (m : NetState). LineLeads (at here x (Flooding n ∷ items)) line (at m x items)) (set_again net x (told_so is told) there)
      (to_item here x (Flooding n) items line (told_so is told) (with_state here x there) [] stands_here
      (Tells_flooding face one g face_at graph_too chosen (line_is ∙ flooding_by is is.relays.flooding n face one one_at)))))
      (subst (λ (l : List (List Addr4)). Walks (at (with_state net x there) x items) (at (with_state net x (told_so is l)) x rest) (flat_map (flooding_relays_line is.settings.name is.relays.flooding) (enumerate_from (n + 1) faces))) longer more)

  routing_walk : (rest : List Item) → Walks (at (with_state net x (told_so is is.relays.flooding)) x (Routing ∷ rest)) (at (with_state net x is) x rest) (routing_relays_line is.settings.name is.relays.routing)
  unfolding routing_relays_line
  routing_walk rest =
      let s = told_so is is.relays.flooding in
      let here = with_state net x s in
      let (g, graph, chosen) = are.routing in
      let graph_too : IsRoutingGraph s g = record { near = graph.near; direct = graph.direct; far = graph.far } in
      let stands_here : slice_get here.routers x ≡ Some s = set_here net.routers x s was stood in
      walks_one _ _ (routing_relays_line is.settings.name is.relays.routing) (routing_one is.settings is.relays.routing)
      (λ line line_is. subst (λ (m : NetState). LineLeads (at here x (Routing ∷ rest)) line (at m x rest)) (set_again net x s is)
      (to_item here x Routing rest line s (with_state here x is) [] stands_here (Tells_routing is.relays.routing g graph_too chosen line_is)))

  pub relays_walk : (rest : List Item) → Walks (at (with_state net x (record is { relays = none_told })) x (relay_items is.settings ++ rest)) (at (with_state net x is) x rest) (relays_lines is)
  unfolding relays_lines
  relays_walk rest =
      let floods : List Item = map (λ f. Flooding f.0) (enumerate_from 0 is.settings.interfaces) in
      subst (λ (l : List Item). Walks (at (with_state net x (told_so is [])) x l) (at (with_state net x is) x rest) (relays_lines is)) (sym (append_assoc floods (Routing ∷ []) rest))
      (walks_on _ (at (with_state net x (told_so is is.relays.flooding)) x (Routing ∷ rest)) _ _ _
      (floods_walk (Routing ∷ rest) [] is.settings.interfaces 0 [] is.relays.flooding refl refl refl refl are.interfaces) (routing_walk rest))

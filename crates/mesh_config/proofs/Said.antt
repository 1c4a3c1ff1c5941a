-- The whole scenario: from what the tables state to what they say of settings.
use Rattle.mesh_config.proofs.Common.{arith, common_steps, ◌≡◌, ℕ, List, [], ◌∷◌, map, refl, flat_map, Data, Members, Addr4, StatedRouter, StatedArc, listed, Each, table_of, addresses, RouterIs, ArcIs, Identifiers, table_identifiers, places_table, stated_identifiers, arc_places}

-- what each table says, of all of them
pub map_said : {X B : Type 0} (Is : Members → X → Type 0) (F : Members → B) (G : X → B) → ((t : Members) (x : X) → Is t x → F t ≡ G x) → (ds : List Data) (xs : List X) → Each Is ds xs
    → map F (map table_of ds) ≡ map G xs
map_said Is F G h [] [] all = refl
map_said Is F G h (d ∷ ds) (x ∷ xs) all = rw (h (table_of d) x all.0, map_said Is F G h ds xs all.1)
map_said Is F G h [] (x ∷ xs) all = absurd all
map_said Is F G h (d ∷ ds) [] all = absurd all

pub flat_said : {X B : Type 0} (Is : Members → X → Type 0) (F : Members → List B) (G : X → List B) → ((t : Members) (x : X) → Is t x → F t ≡ G x) → (ds : List Data) (xs : List X) → Each Is ds xs
    → flat_map F (map table_of ds) ≡ flat_map G xs
flat_said Is F G h [] [] all = refl
flat_said Is F G h (d ∷ ds) (x ∷ xs) all = rw (h (table_of d) x all.0, flat_said Is F G h ds xs all.1)
flat_said Is F G h [] (x ∷ xs) all = absurd all
flat_said Is F G h (d ∷ ds) [] all = absurd all

pub named_of : (a a' : List ℕ) (b b' : List (List ℕ)) (c c' : List Addr4) (d d' : List (Addr4 × ℕ)) → a ≡ a' → b ≡ b' → c ≡ c' → d ≡ d'
    → (let x : Identifiers = record { router_name = a; interface_names = b; addrs = c; nets = d } in x) ≡ (let y : Identifiers = record { router_name = a'; interface_names = b'; addrs = c'; nets = d' } in y)
named_of a a' b b' c c' d d' p q r s = rw (p, q, r, s)

-- what must not stand twice of a router's table is that of the stated router
pub named_same : (t : Members) (d : StatedRouter) → RouterIs t d → table_identifiers t ≡ stated_identifiers d
named_same t d is = grind (arith, common_steps, listed, map_said, addresses, flat_said, named_of)

pub all_named_same : (ds : List Data) (rs : List StatedRouter) → Each RouterIs ds rs → map table_identifiers (map table_of ds) ≡ map stated_identifiers rs
all_named_same ds rs all = map_said RouterIs table_identifiers stated_identifiers named_same ds rs all

pub places_same : (ds : List Data) (arcs : List StatedArc) → Each ArcIs ds arcs → map places_table (map table_of ds) ≡ map arc_places arcs
places_same ds arcs all = map_said ArcIs places_table arc_places (λ t x h. rw (h.are_ends.is_from, h.are_ends.is_to)) ds arcs all

-- A network before its first event.
use Rattle.mesh_radio.proofs.Common.{common_steps, ◌≡◌, ℕ, ◌+◌, ◌<◌, List, [], ◌∷◌, ◌++◌, refl, sym, ◌∙◌, ap, subst, length, get_or, map, arith, Some, None, length-append, slice_get, map-append, slice_get_read, All-nil, State, RouterSettings, Scenario, IsOpening, Due, Scene, IsFirstDue, AreOpeningUpTo, AreOpening, IsOpeningScene, IsOpeningNet, IsSound, net_of, each_more, same_at}

pub none_opening : {A : Type 0} (state : A → State) (settings : List RouterSettings) (routers : List A) → routers ≡ [] → AreOpeningUpTo settings 0 (map state routers)
none_opening {A = A} state settings routers none = subst (λ (l : List A). AreOpeningUpTo settings 0 (map state l)) (sym none) (record { count_is = refl; each = λ x s at. absurd (let no : None ≡ Some s = at in cc) })

pub opening_more : {A : Type 0} (state : A → State) (settings : List RouterSettings) (k : ℕ) (r : RouterSettings) (router : A) (old new : List A) → k < length settings → r ≡ get_or settings k r → new ≡ old ++ router ∷ [] →
    IsOpening r (state router) → AreOpeningUpTo settings k (map state old) → AreOpeningUpTo settings (k + 1) (map state new)
opening_more {A = A} state settings k r router old new lt is p fresh h =
    let one_more : map state new ≡ map state old ++ state router ∷ [] = ap (map state) p ∙ map-append state old (router ∷ []) in
    rw one_more (record {
      count_is = let e = length-append (map state old) (state router ∷ []) in let f = h.count_is in omega (arith, e, f);
      each = each_more (λ x t. (q : RouterSettings) × (slice_get settings x ≡ Some q) × IsOpening q t) (map state old) (state router) h.each
          (rw h.count_is (r, slice_get_read settings (length settings) k r refl lt is, fresh));
    })

-- there is a router
pub some_router : {A : Type 0} (state : A → State) (s : Scenario) (routers : List A) → AreOpening s.routers (map state routers) → 0 < length routers
some_router state s routers h = grind (arith, common_steps)

pub opening_sound : (scenario : Scenario) (routers : List State) (due : Due) (s : Scene) → AreOpening scenario.routers routers → IsFirstDue routers due.router due.moment → IsOpeningScene scenario due s → IsSound routers s
opening_sound scenario routers due s h first opens = grind (arith, common_steps, All-nil)

pub opening_net : (scenario : Scenario) (routers : List State) (due : Due) (s : Scene) → AreOpening scenario.routers routers → IsOpeningScene scenario due s → IsOpeningNet scenario (net_of routers s)
opening_net scenario routers due s h opens = grind (arith, common_steps, same_at)

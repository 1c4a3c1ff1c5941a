-- Arcs by the interfaces that they leave.
use Rattle.mesh_machine.proofs.Common.{◌≡◌, ℕ, ◌+◌, ◌<◌, List, [], ◌∷◌, ◌++◌, ◌∙◌, subst, length, get_or, Some, slice_get, RadioArc, get_or_from_slice_get, RouterSettings, AreArcsOut, AreWaysOf, length_pushed as longer}
use Rattle.mesh_machine.proofs.Places.{each_more}

pub all_more : (arcs : List RadioArc) (routers : List RouterSettings) (x : ℕ) (router : RouterSettings) (old new : List (List (List (ℕ × RadioArc)))) (list : List (List (ℕ × RadioArc))) →
    x < length routers → router ≡ get_or routers x router → new ≡ old ++ list ∷ [] → AreWaysOf arcs x (length router.interfaces) list → AreArcsOut arcs routers x old → AreArcsOut arcs routers (x + 1) new
all_more arcs routers x router old new list lt is p ways h = rw p (record {
  count_is = longer x old list h.count_is;
  leave = each_more (λ y l. (r : RouterSettings) → slice_get routers y ≡ Some r → AreWaysOf arcs y (length r.interfaces) l) old list h.leave
      (rw h.count_is (λ r at. subst (λ (q : RouterSettings). AreWaysOf arcs x (length q.interfaces) list) (is ∙ get_or_from_slice_get routers x r router at) ways));
})

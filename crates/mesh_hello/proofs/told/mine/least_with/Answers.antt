use Rattle.mesh_hello.proofs.Common.{refl, inl, inr, least_same}
use Rattle.mesh_hello.proofs.told.mine.least_with.Goals as goal

pub returns-then-is_row_of : goal.returns-then-is_row_of
returns-then-is_row_of c = least_same c.least_metric.result
    (λ m h. elim h [ inl so_far ↦ inl so_far | inr more ↦ inr (c.if-is_row_of.ensures.0 refl, more) ]) (λ m h. elim h [ inl so_far ↦ inl so_far | inr more ↦ inr more.1 ]) c.least_metric.ensures

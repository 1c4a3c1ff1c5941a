use Rattle.mesh_hello.proofs.Common.{Contains, refl, sym, subst}
use Rattle.mesh_hello.proofs.told.mine.has_own_row.Goals as goal

pub returns-then-is_row_of : goal.returns-then-is_row_of
returns-then-is_row_of c = (
  λ h. (
    c.row-item.result,
    subst (λ rows. Contains rows c.row-item.result) c.as_slice-row-items.ensures (c.loop-row.row-index, c.loop-row-test.true, sym c.row-item.is),
    c.if-is_row_of.ensures.0 refl,
    c.if-has_sign.ensures.0 refl,
  ),
  λ h. refl,
)

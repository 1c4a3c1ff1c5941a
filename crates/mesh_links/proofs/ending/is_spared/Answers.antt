use Rattle.mesh_links.proofs.Common.{arith, common_steps, Bool, ◌↔◌, IsTrue, not}
use Rattle.mesh_links.proofs.ending.is_spared.Goals as goal

not_so : (b : Bool) (P : Type 0) → (IsTrue b ↔ P) → (IsTrue (not b) ↔ (P → ⊥))
not_so b P h = grind (arith, common_steps)

pub returns-in-Outside : goal.returns-in-Outside
returns-in-Outside c = rw c.in-Outside.is (not_so c.are_outside.result _ (rw c.as_slice-addrs.ensures at c.are_outside.ensures))

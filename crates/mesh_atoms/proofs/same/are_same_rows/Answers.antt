use Rattle.std.proofs.lemmas.Slice.Eq.{slice_eq-Decides}
use Rattle.mesh_atoms.proofs.Rows.{rows}
use Rattle.mesh_atoms.proofs.same.are_same_rows.Goals as goal

pub returns : goal.returns
returns c = slice_eq-Decides (λ a b. rows a b) c.args.rows.now c.args.others.now c.eq.result c.eq.ensures

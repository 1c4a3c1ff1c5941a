use Rattle.mesh_bases.proofs.Common.{sym, subst, List, TcRow, AreTcRows}
use Rattle.mesh_bases.proofs.derived.Derived.renew_rows.Goals as goal

pub returns-clause-rows : goal.returns-clause-rows
returns-clause-rows g c = λ s settings near. subst (λ (rows : List TcRow). AreTcRows s rows) (sym c.take_rows.ensures.rows) (c.in_ok-rows.ensures s settings near)

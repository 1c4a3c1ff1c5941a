use Rattle.mesh_report.proofs.reading.put_content.Goals as goal
use Rattle.mesh_report.proofs.Common.{four_appended}

pub returns-clause-text : goal.returns-clause-text
returns-clause-text c =
    four_appended c.args.line.now _ _ _ _ c.put_router.ensures.text (rw c.from.ensures at c.put_numbered.ensures.text) (rw c.from-2.ensures at c.put_numbered-2.ensures.text) c.put_choice.ensures.text

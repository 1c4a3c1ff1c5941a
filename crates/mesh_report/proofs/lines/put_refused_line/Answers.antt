use Rattle.mesh_report.proofs.Common.{refused_line, three_appended}
use Rattle.mesh_report.proofs.lines.put_refused_line.Goals as goal

pub returns : goal.returns
unfolding refused_line
returns c = three_appended c.args.line.now _ _ _ c.put_numbered.ensures.text c.put_numbered-2.ensures.text c.put_rule.ensures.text

use Rattle.mesh_dump.proofs.Common.{is_byte}
use Rattle.mesh_dump.proofs.LineFeeds.{first_passing}
use Rattle.mesh_dump.proofs.lines.line_feed.Goals as goal

pub returns : goal.returns
returns c = first_passing (is_byte 10) c.args.text.now c.memchr.result c.memchr.ensures

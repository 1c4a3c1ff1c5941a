use Rattle.mesh_nbrs.proofs.Common.{take, List, LinkNote, HasNote, IsNotesSummary, AreSummariesOf}
use Rattle.mesh_nbrs.proofs.parts.together.Given as goal

abbrev pub invariant-loop-addr : goal.invariant-loop-addr
invariant-loop-addr l = (notes : List LinkNote) → AreSummariesOf notes l.parts.entries → IsNotesSummary (HasNote notes (take l.addr-index l.addrs)) l.summary

use Rattle.mesh_emulate.proofs.Common.{take, AreMadeArcs}
use Rattle.mesh_emulate.proofs.making.arcs.arcs_of.Given as goal

abbrev pub invariant-loop-i : goal.invariant-loop-i
invariant-loop-i l = AreMadeArcs l.kind l.routers l.seed 0 (take l.i l.pairs) l.arcs

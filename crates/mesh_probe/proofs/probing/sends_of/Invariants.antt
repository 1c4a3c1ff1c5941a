use Rattle.mesh_probe.proofs.Common.{◌≡◌, map, take, sending_of}
use Rattle.mesh_probe.proofs.probing.sends_of.Given as goal

abbrev pub invariant-loop-frame : goal.invariant-loop-frame
invariant-loop-frame l = l.sends ≡ map sending_of (take l.frame-index l.frames)

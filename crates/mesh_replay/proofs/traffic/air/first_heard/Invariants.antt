use Rattle.mesh_replay.proofs.Common.{IsNextFrame}
use Rattle.mesh_replay.proofs.traffic.air.first_heard.Given as goal

abbrev pub invariant-loop-place : goal.invariant-loop-place
invariant-loop-place l = IsNextFrame l.flights.items l.place l.first

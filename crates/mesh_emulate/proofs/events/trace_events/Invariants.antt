use Rattle.mesh_emulate.proofs.Common.{◌≡◌, ◌≤◌, true, ℕ, List, Appends, concat, RunWithPieces}
use Rattle.mesh_emulate.proofs.events.trace_events.Given as goal

-- what was done so far is told
abbrev pub invariant-events : goal.invariant-events
invariant-events g l = record {
  scenario : (g.N.Network.net l.net).scenario ≡ l.scenario;
  later : g.O.Sink.faults l.fn.out ≤ g.O.Sink.faults l.out;
  told : (pieces : List (List ℕ)) × RunWithPieces true (g.N.Network.net l.fn.net) (g.N.Network.net l.net) pieces × Appends (g.O.Sink.content l.fn.out) (g.O.Sink.content l.out) (concat pieces);
}

use Rattle.mesh_texts.proofs.Common.{◌≡◌, ◌++◌, take, flat_map, sent_lines}
use Rattle.mesh_texts.proofs.trace.put_all_sent.Given as goal

abbrev pub invariant-loop-emission : goal.invariant-loop-emission
invariant-loop-emission l = record { wrote : l.out ≡ l.initial.out ++ flat_map (sent_lines l.scenario l.moment l.router) (take l.emission-index l.sent) }

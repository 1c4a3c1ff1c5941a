use Rattle.mesh_texts.proofs.Common.{◌≡◌, ◌++◌, take, codes, flat_map, dotted}
use Rattle.mesh_texts.proofs.lines.pieces.put_spaced.Given as goal

abbrev pub invariant-loop-addr : goal.invariant-loop-addr
invariant-loop-addr l = record { wrote : l.out ≡ l.initial.out ++ flat_map (λ a. codes " " ++ dotted a) (take l.addr-index l.addrs) }

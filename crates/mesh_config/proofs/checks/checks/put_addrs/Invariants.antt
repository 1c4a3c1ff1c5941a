use Rattle.mesh_config.proofs.Common.{◌≡◌, ◌++◌, take}
use Rattle.mesh_config.proofs.checks.checks.put_addrs.Given as goal

abbrev pub invariant-loop-addr : goal.invariant-loop-addr
invariant-loop-addr l = l.out ≡ l.initial.out ++ take l.addr-index l.addrs

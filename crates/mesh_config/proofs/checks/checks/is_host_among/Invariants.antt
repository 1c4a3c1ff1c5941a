use Rattle.mesh_config.proofs.Common.{◌≡◌, drop, list_any, is_host}
use Rattle.mesh_config.proofs.checks.checks.is_host_among.Given as goal

abbrev pub invariant-loop-addr : goal.invariant-loop-addr
invariant-loop-addr l = list_any (is_host l.attached.net) l.addrs ≡ list_any (is_host l.attached.net) (drop l.addr-index l.addrs)

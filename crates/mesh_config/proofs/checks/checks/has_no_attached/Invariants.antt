use Rattle.mesh_config.proofs.Common.{◌≡◌, drop, not, list_all, list_any, is_host, attaches_no_host}
use Rattle.mesh_config.proofs.checks.checks.has_no_attached.Given as goal

abbrev pub invariant-loop-attached : goal.invariant-loop-attached
invariant-loop-attached l = attaches_no_host l.addrs l.router ≡ list_all (λ a. not (list_any (is_host a.net) l.addrs)) (drop l.attached-index l.attached-items)

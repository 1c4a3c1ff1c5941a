use Rattle.mesh_links.proofs.Common.{◌≡◌, nat_eq, length, drop, list_all}
use Rattle.mesh_links.proofs.admittance.is_steady.Given as goal

abbrev pub invariant-loop-sender : goal.invariant-loop-sender
invariant-loop-sender l = list_all (λ s. nat_eq (length s.steps) 0) (drop l.sender-index l.rule.senders) ≡ list_all (λ s. nat_eq (length s.steps) 0) l.rule.senders

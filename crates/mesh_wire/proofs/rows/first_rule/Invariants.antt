use Rattle.mesh_wire.proofs.Common.{◌≡◌, None, drop, first_rule, rule_of}
use Rattle.mesh_wire.proofs.rows.first_rule.Given as goal

abbrev pub invariant-loop-i : goal.invariant-loop-i
invariant-loop-i l = first_rule (rule_of l.kind) l.found (drop l.i l.told) ≡ first_rule (rule_of l.kind) None l.told

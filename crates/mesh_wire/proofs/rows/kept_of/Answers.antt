use Rattle.mesh_wire.proofs.Common.{refl, sym, ap, ◌∙◌, List, None, AddressParts, first_rule, rule_of}
use Rattle.mesh_wire.proofs.rows.kept_of.Goals as goal

pub returns-in-Some-clause-broken : goal.returns-in-Some-clause-broken
returns-in-Some-clause-broken g c = rw c.in-Ok.is (record {
  told = c.in_ok-told.told.items;
  collected = c.in_ok-told.ensures;
  net = c.in-Some.net;
  found = ap (λ (rows : List AddressParts). first_rule (rule_of c.args.kind) None rows) (sym c.as_slice.ensures.value) ∙ sym c.in-Some.ensures;
  at = refl;
})

pub returns-clause-kept : goal.returns-clause-kept
returns-clause-kept g c = record {
  collected = c.in_ok-told.ensures;
  clean = ap (λ (kept : List AddressParts). first_rule (rule_of c.args.kind) None kept) (sym c.as_slice.ensures.value) ∙ sym c.in_default.ensures;
}

use Rattle.mesh_atoms.proofs.Common.{◌≡◌, ◌++◌, ◌∷◌, [], List, ℕ, ap, sym, subst, ◌∙◌, arith, drop_all, NearHold, IsTimeValue, Everywhere, IsValidity, Far}
use Rattle.mesh_atoms.proofs.TimeValues.{next_size, next_sent, next_value}
use Rattle.mesh_atoms.proofs.settings.RouterSettings.validity.Goals as goal

pub loop-near-preserved : goal.loop-near-preserved
loop-near-preserved c =
    let is : c.push-in-loop-near.new.self ≡ (c.loop-near.value ++ c.least_code.result ∷ []) ++ c.near-item.result.hops ∷ [] =
    c.in_ok-push-2.ensures.ok ∙ ap (λ (l : List ℕ). l ++ c.near-item.result.hops ∷ []) c.in_ok-push.ensures.ok in
    record {
      size = next_size c.loop-near.value c.push-in-loop-near.new.self c.least_code.result c.near-item.result.hops c.loop-near.near-index is c.loop-near.invariant.size;
      sent = next_sent c.loop-near.value c.push-in-loop-near.new.self c.least_code.result c.near-item.result.hops is c.least_code.ensures.sent c.loop-near.invariant.sent;
      value = next_value c.args.self.now.times.topology_hold c.as_slice-near-items.result.now c.loop-near.near-index c.near-item.result c.loop-near.value
          c.push-in-loop-near.new.self c.least_code.result c.near-item.is c.loop-near-test.true is c.least_code.ensures c.loop-near.invariant.value;
    }

pub returns-clause-value : goal.returns-clause-value
returns-clause-value c =
    subst (λ (l : List NearHold). IsValidity c.args.self.now.times.topology_hold l c.push-2.new.self) c.as_slice-near-items.ensures
    (subst (IsValidity c.args.self.now.times.topology_hold c.as_slice-near-items.result.now) (sym c.in_ok-push-3.ensures.ok)
    (c.loop-near.invariant.value (c.least_code-2.result ∷ [])
    (subst (λ (l : List NearHold). IsValidity c.args.self.now.times.topology_hold l (c.least_code-2.result ∷ []))
    (sym (drop_all c.loop-near.near-index c.as_slice-near-items.result.now (omega (arith, c.loop-near-test.false)))) (Far c.least_code-2.ensures))))

pub returns-clause-sent : goal.returns-clause-sent
returns-clause-sent c =
    subst IsTimeValue (sym c.in_ok-push-3.ensures.ok) (c.loop-near.invariant.sent (c.least_code-2.result ∷ []) (Everywhere c.least_code-2.ensures.sent))

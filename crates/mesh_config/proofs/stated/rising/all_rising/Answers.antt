use Rattle.mesh_config.proofs.StatedLemmas.Elements.{tables_said}
use Rattle.mesh_config.proofs.StatedLemmas.RisingTables.{rising_fail, rising_pass}
use Rattle.mesh_config.proofs.Common.{◌∙◌, length_pushed}
use Rattle.mesh_config.proofs.stated.rising.all_rising.Goals as goal

pub returns-in-Err-clause-answer : goal.returns-in-Err-clause-answer
returns-in-Err-clause-answer g c =
    rw c.loop-value.invariant.faults
    (rising_fail g.T.FromRising.visits g.T.FromRising.number c.args.key.now c.args.values.now c.loop-value.value-index c.loop-value.least c.value-item.result c.in-Err.e c.value-item.is c.loop-value-test.true c.in-Err.ensures)

pub loop-value-preserved : goal.loop-value-preserved
loop-value-preserved g c =
    let vs = c.args.values.now in let i = c.loop-value.value-index in let v = c.value-item.result in let met = c.in-Ok.ensures in
    record {
      said = rw c.in_ok-push-in-Ok.ensures.ok (tables_said g.T.FromRising.says vs i v c.loop-value.all c.in-Ok.one c.value-item.is c.loop-value-test.true c.loop-value.invariant.said met.1.0);
      faults = rw c.from-least.ensures (c.loop-value.invariant.faults ∙ rising_pass g.T.FromRising.visits g.T.FromRising.number c.args.key.now vs i c.loop-value.least c.in-Ok.number v c.value-item.is c.loop-value-test.true met.0 met.1.1);
      size = rw c.in_ok-push-in-Ok.ensures.ok (length_pushed i c.loop-value.all c.in-Ok.one c.loop-value.invariant.size);
    }

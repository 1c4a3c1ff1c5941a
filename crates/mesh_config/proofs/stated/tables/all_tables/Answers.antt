use Rattle.mesh_config.proofs.StatedLemmas.Elements.{tables_fail, tables_pass, tables_said}
use Rattle.mesh_config.proofs.Common.{◌∙◌, length_pushed}
use Rattle.mesh_config.proofs.stated.tables.all_tables.Goals as goal

pub returns-in-Err-clause-answer : goal.returns-in-Err-clause-answer
returns-in-Err-clause-answer g c =
    rw c.loop-value.invariant.faults
    (tables_fail g.T.FromTable.visits c.args.key.now c.args.values.now c.loop-value.value-index c.value-item.result c.in-Err.e c.value-item.is c.loop-value-test.true c.in-Err.ensures)

pub loop-value-preserved : goal.loop-value-preserved
loop-value-preserved g c =
    let vs = c.args.values.now in let i = c.loop-value.value-index in let v = c.value-item.result in let met = c.in-Ok.ensures in
    record {
      said = rw c.in_ok-push-in-Ok.ensures.ok (tables_said g.T.FromTable.says vs i v c.loop-value.all c.in-Ok.one c.value-item.is c.loop-value-test.true c.loop-value.invariant.said met.1);
      faults = c.loop-value.invariant.faults ∙ tables_pass g.T.FromTable.visits c.args.key.now vs i v c.value-item.is c.loop-value-test.true met.0;
      size = rw c.in_ok-push-in-Ok.ensures.ok (length_pushed i c.loop-value.all c.in-Ok.one c.loop-value.invariant.size);
    }

use Rattle.mesh_config.proofs.Common.{Option, codes, refl, sym, ◌∙◌, subst, table_view, Fault, FailsAt, senders_checked}
use Rattle.mesh_config.proofs.RunLaws.{same_count, sound_senders, last_passed, setup_same, setup_says}
use Rattle.mesh_config.proofs.reading.RunSetupFromTable.from_table.Goals as goal

pub invariant_of-result : goal.invariant_of-result
invariant_of-result c =
    let d = c.in_ok-stated.stated in let made = c.in-Ok.ensures.1 in
    record {
      end_in_range = d.end_in_range;
      sound_senders = sound_senders c.in-Ok.router.interfaces d.router.costs made.same_costs (last_passed _ (senders_checked d.router.costs) (codes "address") c.in-Ok.ensures.0);
      ports_of_interfaces = d.router.port_each ∙ same_count d.times d.router.router c.in-Ok.router made.same_parts;
    }

pub returns-in-Ok : goal.returns-in-Ok
returns-in-Ok c =
    let t = table_view c.args.table.now in let d = c.in_ok-stated.stated in let is = c.in_ok-stated.ensures.1 in
    (setup_same t d c.in_ok-stated.ensures.0 is ∙ c.in-Ok.ensures.0, setup_says t d _ is (record { same_end = refl; is_router = c.in-Ok.ensures.1; same_ports = refl }))

pub returns-in-Err : goal.returns-in-Err
returns-in-Err c =
    let fails : Option Fault → Type 0 = λ found. FailsAt c.in-Err.e found in
    subst fails (sym (setup_same (table_view c.args.table.now) c.in_ok-stated.stated c.in_ok-stated.ensures.0 c.in_ok-stated.ensures.1)) c.in-Err.ensures

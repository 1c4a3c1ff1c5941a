use Rattle.mesh_nhdp.proofs.sending_link.update_two_hops.Goals as goal

pub returns-clause-updates : goal.returns-clause-updates
returns-clause-updates g c = record {
  distinct = c.keys_are_distinct.ensures;
  started = c.start_two_hops.new.two_hops;
  goes_on = c.start_two_hops.ensures.stood;
  anew = c.start_two_hops.ensures.anew;
  rows = c.in_ok-repeats.ensures.rows;
  no_rows = c.in_ok-repeats.ensures.no_rows;
}

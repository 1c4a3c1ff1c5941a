-- The copies are equal to what they are copied from, of which the facts hold.
use Rattle.mesh_atoms.proofs.settings.RouterSettings.copy.Goals as goal

pub invariant_of-result : goal.invariant_of-result
invariant_of-result c = record {
  sound = rw (c.in_ok-name.ensures, c.in_ok-interfaces.ensures, c.in_ok-attached.ensures) c.args.self.now.sound;
  rows_in_range = c.args.self.now.rows_in_range;
  few_near_holds = rw (c.in_ok-near_hold.ensures) c.args.self.now.few_near_holds;
  near_holds_in_order = rw (c.in_ok-near_hold.ensures) c.args.self.now.near_holds_in_order;
}

-- The copies are equal to what they are copied from, of which the facts hold.
use Rattle.mesh_atoms.proofs.settings.Interface.copy.Goals as goal

pub invariant_of-result : goal.invariant_of-result
invariant_of-result c = record {
  sound = rw (c.in_ok-copy.ensures, c.in_ok-copy-2.ensures) c.args.self.now.sound;
  few_senders = rw (c.in_ok-copy-3.ensures) c.args.self.now.few_senders;
  distinct_senders = rw (c.in_ok-copy-3.ensures) c.args.self.now.distinct_senders;
  same_senders = rw (c.in_ok-copy-3.ensures, c.in_ok-copy-4.ensures) c.args.self.now.same_senders;
}

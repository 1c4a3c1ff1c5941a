use Rattle.mesh_replay.proofs.Common.{if_ok_weaker}
use Rattle.mesh_replay.proofs.FramesLemmas.Items.{tc_named}
use Rattle.mesh_replay.proofs.checking.tcs.tell_span.Goals as goal

pub returns : goal.returns
returns c = if_ok_weaker c.tell_tc.result (λ fits tells. tc_named (λ s is ansn. c.in_ok-tc.ensures.is s is.settings ansn) tells) c.tell_tc.ensures

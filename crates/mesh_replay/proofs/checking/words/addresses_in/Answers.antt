use Rattle.mesh_replay.proofs.Common.{arith, common_steps}
use Rattle.mesh_replay.proofs.RelaysLemmas.Words.{one_less, none_wrong, none_left, has_octets, has_none}
use Rattle.mesh_replay.proofs.checking.words.addresses_in.Goals as goal

pub returns-in_default : goal.returns-in_default
returns-in_default c addrs wide is = grind (arith, common_steps, has_octets, none_wrong, c.is_empty.ensures, c.loop-left.invariant, c.in_default.ensures.none)

pub loop-left-preserved : goal.loop-left-preserved
loop-left-preserved c addrs wide is = grind (arith, common_steps, has_octets, one_less, c.is_empty.ensures, c.in_ok-push.ensures.ok, c.loop-left.invariant, c.in-Some.ensures.some)

pub returns : goal.returns
returns c addrs wide is = grind (arith, common_steps, has_none, none_left, c.is_empty.ensures, c.loop-left.invariant)

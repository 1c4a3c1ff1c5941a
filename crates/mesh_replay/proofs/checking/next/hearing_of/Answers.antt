use Rattle.mesh_replay.proofs.Common.{refl, arc_ends}
use Rattle.mesh_replay.proofs.CheckingLemmas.Opened.{read_at}
use Rattle.mesh_replay.proofs.checking.next.hearing_of.Goals as goal

pub sender_of-sender-requires : goal.sender_of-sender-requires
sender_of-sender-requires c =
    (arc_ends c.args.scenario.now c.args.landed.arc c.index-as_slice-landed.result (read_at c.as_slice.ensures c.requires c.index-as_slice-landed.is)).0

pub returns : goal.returns
returns c = record {
  arc = c.index-as_slice-landed.result;
  arc_is = read_at c.as_slice.ensures c.requires c.index-as_slice-landed.is;
  sender = c.sender_of-sender.result;
  sender_is = c.sender_of-sender.ensures;
  next_is = refl;
}

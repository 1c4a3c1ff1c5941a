use Rattle.mesh_replay.proofs.Common.{if_ok_weaker, lines_of}
use Rattle.mesh_replay.proofs.SceneLemmas.Answering.{no_exactly, yes_exactly}
use Rattle.mesh_replay.proofs.checking.whole.replay.Goals as goal

pub returns-clause-yes : goal.returns-clause-yes
returns-clause-yes g c = if_ok_weaker c.replay_with.result (yes_exactly c.args.scenario.now (lines_of c.args.trace.now)) c.replay_with.ensures

pub returns-clause-no : goal.returns-clause-no
returns-clause-no g c = if_ok_weaker c.replay_with.result (no_exactly c.args.scenario.now (lines_of c.args.trace.now)) c.replay_with.ensures

use Rattle.mesh_replay.proofs.Common.{arith, common_steps, if_ok_weaker, is_nothing}
use Rattle.mesh_replay.proofs.CheckingLemmas.Texts.{takes_later, takes_so}
use Rattle.mesh_replay.proofs.RelaysLemmas.Chosen.{again_may}
use Rattle.mesh_replay.proofs.checking.relays.told_relays.Goals as goal

pub returns-in-Some : goal.returns-in-Some
returns-in-Some g c = grind (arith, common_steps, takes_so, again_may, c.in_ok-relays.ensures, c.in-Some.is, c.requires.begun.stand)

pub returns : goal.returns
returns g c = if_ok_weaker c.other_relays.result (λ told takes. takes_later (c.in_ok-relays.ensures.still (is_nothing c.in_ok-relays.field-0 c.in_default.is)) takes) c.other_relays.ensures

use Rattle.mesh_replay.proofs.Common.{◌≡◌, ℕ, List, Some, rules, ◌∙◌, ap, if_ok_weaker}
use Rattle.mesh_replay.proofs.CheckingLemmas.Telling.{tells_not, tells_on, tells_where}
use Rattle.mesh_replay.proofs.FramesLemmas.Items.{tc_told, tc_not}
use Rattle.mesh_replay.proofs.checking.tcs.tell_tc.Goals as goal

pub returns-in_default : goal.returns-in_default
returns-in_default c = tc_not c.requires.validity c.in_ok-octets.ensures c.requires.progress c.in_default.is

pub returns-then-not-branch : goal.returns-then-not-branch
returns-then-not-branch c =
    let octets : c.in-Some.octets ≡ c.in_ok-frame.frame.value = search rules in
    tells_not (tc_told c.requires.validity c.in_ok-octets.ensures (c.in-Some.is ∙ ap (λ (l : List ℕ). Some l) octets) c.in_ok-send_out.ensures) c.if-not-branch.true

pub returns : goal.returns
returns c =
    let octets : c.in-Some.octets ≡ c.in_ok-frame.frame.value = search rules in
    if_ok_weaker c.tell_further.result (λ fits tells. tells_on (tc_told c.requires.validity c.in_ok-octets.ensures (c.in-Some.is ∙ ap (λ (l : List ℕ). Some l) octets) c.in_ok-send_out.ensures) c.if-not-branch.false
    (tells_where tells (λ s is has. tt))) c.tell_further.ensures

use Rattle.mesh_replay.proofs.Common.{◌≡◌, List, ℕ, rules, ◌∙◌, ap, Some, if_ok_weaker}
use Rattle.mesh_replay.proofs.FramesLemmas.Items.{hello_told, hello_not}
use Rattle.mesh_replay.proofs.checking.hellos.tell_hello.Goals as goal

pub returns-in_default : goal.returns-in_default
returns-in_default c = hello_not c.requires.progress c.in_ok-octets.ensures c.in_default.is

pub returns : goal.returns
returns c =
    let octets : c.in-Some.octets ≡ c.in_ok-frame.frame.value = search rules in
    if_ok_weaker c.send_out.result (λ fits out. hello_told c.in_ok-octets.ensures (c.in-Some.is ∙ ap (λ (l : List ℕ). Some l) octets) out) c.send_out.ensures

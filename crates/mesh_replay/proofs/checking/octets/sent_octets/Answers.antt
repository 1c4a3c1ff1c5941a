use Rattle.mesh_replay.proofs.Common.{List, ℕ, encode_lower, if_ok_weaker, face_name, sent_front}
use Rattle.mesh_replay.proofs.CheckingLemmas.Texts.{reads_none, reads_some}
use Rattle.mesh_replay.proofs.FramesLemmas.Items.{sent_parts}
use Rattle.mesh_replay.proofs.checking.octets.sent_octets.Goals as goal

pub returns-in-Some : goal.returns-in-Some
returns-in-Some c =
    let event = c.args.event.now in
    let face : List ℕ = face_name event.settings.now.interfaces c.args.iface in
    if_ok_weaker c.octets_in.result (λ told reads. reads_some encode_lower (sent_front event.moment event.settings.now.name face) (sent_parts event.moment event.settings.now.name face) c.requires
    c.in_ok-look_for_sent.ensures.still c.in_ok-look_for_sent.ensures.text c.in-Some.digits told c.in-Some.ensures reads) c.octets_in.ensures

pub returns-in-None : goal.returns-in-None
returns-in-None c =
    let event = c.args.event.now in
    let face : List ℕ = face_name event.settings.now.interfaces c.args.iface in
    reads_none encode_lower (sent_front event.moment event.settings.now.name face) (sent_parts event.moment event.settings.now.name face) c.requires
    c.in_ok-look_for_sent.ensures.still c.in_ok-look_for_sent.ensures.text c.in-None.ensures

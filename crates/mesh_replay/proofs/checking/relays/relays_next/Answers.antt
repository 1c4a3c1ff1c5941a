use Rattle.mesh_replay.proofs.Common.{refl, ◌∙◌, ap, ◌++◌, List, ℕ, if_ok_weaker, relays_text, front_text}
use Rattle.mesh_replay.proofs.CheckingLemmas.Texts.{reads_none, reads_some}
use Rattle.mesh_replay.proofs.checking.relays.relays_next.Goals as goal

pub returns-in-Some : goal.returns-in-Some
returns-in-Some c =
    let front : List ℕ = front_text c.args.settings.now c.args.iface in
    if_ok_weaker c.relays_in.result (λ told reads. reads_some relays_text front (λ relays. refl) c.requires (record { place = refl; taken = refl })
    (c.in_ok-put_front.ensures ∙ ap (λ (l : List ℕ). l ++ front) c.clear.ensures) c.in-Some.rest told c.in-Some.ensures reads) c.relays_in.ensures

pub returns-in-None : goal.returns-in-None
returns-in-None c =
    let front : List ℕ = front_text c.args.settings.now c.args.iface in
    reads_none relays_text front (λ relays. refl) c.requires (record { place = refl; taken = refl })
    (c.in_ok-put_front.ensures ∙ ap (λ (l : List ℕ). l ++ front) c.clear.ensures) c.in-None.ensures

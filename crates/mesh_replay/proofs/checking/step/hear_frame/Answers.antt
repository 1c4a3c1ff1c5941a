use Rattle.mesh_replay.proofs.Common.{List, ℕ, subst, ◌∙◌, if_ok_weaker, HearsBy, event_items, Refused}
use Rattle.mesh_bases.specs.Reading.Content.{IsContentOf}
use Rattle.mesh_replay.proofs.CheckingLemmas.Opened.{begun_by, refused_ends}
use Rattle.mesh_replay.proofs.checking.step.hear_frame.Goals as goal

pub returns-in-Refused : goal.returns-in-Refused
returns-in-Refused g c =
    let reads : IsContentOf c.args.heard.now.frame.value c.in_ok-content.content = subst (λ (l : List ℕ). IsContentOf l c.in_ok-content.content) (c.as_slice-bytes.ensures ∙ c.as_ref.ensures) c.in_ok-content.ensures.content in
    refused_ends c.requires.begins c.requires.progress (Refused c.in-Refused.field-0.place c.in-Refused.field-0.reason (subst (IsContentOf c.args.heard.now.frame.value) c.in-Refused.is reads))

pub tell_event-requires-clause-begun : goal.tell_event-requires-clause-begun
tell_event-requires-clause-begun g c =
    begun_by c.requires.begins c.in_ok-lines-in-Packet.ensures.begins c.requires.comes.now (c.requires.begins.addresses _ _
    (subst (λ (l : List ℕ). HearsBy (g.R.RouterOfTrace.state c.args.router.now) c.args.heard.now.arrival l (g.R.RouterOfTrace.state c.hear.new.self) (event_items (g.R.RouterOfTrace.state c.hear.new.self) c.in_ok-lines-in-Packet.lines)) (c.as_slice-bytes.ensures ∙ c.as_ref.ensures) c.in_ok-lines-in-Packet.ensures.hears))

pub returns : goal.returns
returns g c =
    let hears = subst (λ (l : List ℕ). HearsBy (g.R.RouterOfTrace.state c.args.router.now) c.args.heard.now.arrival l (g.R.RouterOfTrace.state c.hear.new.self) (event_items (g.R.RouterOfTrace.state c.hear.new.self) c.in_ok-lines-in-Packet.lines)) (c.as_slice-bytes.ensures ∙ c.as_ref.ensures) c.in_ok-lines-in-Packet.ensures.hears in
    if_ok_weaker c.tell_event.result (λ fits tells. record { is = g.R.RouterOfTrace.state c.hear.new.self; left = _; by = hears; tells = tells }) c.tell_event.ensures

use Rattle.mesh_core.proofs.Common.{◌∙◌, le-leb, refl, router_state}
use Rattle.mesh_core.proofs.EventLemmas.Hearing.{alone_to}
use Rattle.mesh_core.proofs.Until.{heard_until}
use Rattle.mesh_core.proofs.event.until.hear_until.Goals as goal

pub hear_content-requires-clause-ready : goal.hear_content-requires-clause-ready
hear_content-requires-clause-ready g c = c.requires.ready c.if-spent.false

pub hear_content-requires-clause-content : goal.hear_content-requires-clause-content
hear_content-requires-clause-content g c = rw (c.as_slice-octets.ensures, c.octets.ensures) c.content.ensures.content

pub returns : goal.returns
returns g c =
    let late = le-leb c.args.until c.args.arrival.now in
    let (answer, to) = alone_to _ (router_state c.args.router.now.holding c.args.router.now.derived) c.args.arrival (c.as_slice-octets.ensures ∙ c.octets.ensures) c.clear.ensures c.in_ok-hear_content.ensures.hears in
    record { does = heard_until _ c.args.until late late to; unspent = c.if-spent.false; spent = refl }

use Rattle.mesh_radio.proofs.Common.{◌<◌, ◌≤◌, ℕ, List, OnOk, length, map, subst, slice_set, State, Hear, Stepped, KeepsDue}
use Rattle.mesh_radio.proofs.Steps.{its_state, hears}
use Rattle.mesh_radio.proofs.routers.hear.Goals as goal

pub hear_until-requires-clause-now : goal.hear_until-requires-clause-now
hear_until-requires-clause-now g c = c.requires.early

pub hear_until-requires-clause-later : goal.hear_until-requires-clause-later
hear_until-requires-clause-later g c =
    let (was, at, late, less) = c.requires.stands in
    subst (λ (q : State). q.last ≤ c.args.landed.now.moment) (its_state g.R.DeferringRouter.state c.args.routers.now.items c.args.arc.now.to was at c.index_mut-router.result.now c.index_mut-router.ensures.value) late

pub hear_until-requires-clause-iface : goal.hear_until-requires-clause-iface
hear_until-requires-clause-iface g c =
    let (was, at, late, less) = c.requires.stands in
    subst (λ (q : State). c.args.arc.now.to_iface < length q.settings.interfaces)
    (its_state g.R.DeferringRouter.state c.args.routers.now.items c.args.arc.now.to was at c.index_mut-router.result.now c.index_mut-router.ensures.value) less

pub returns : goal.returns
returns g c =
    let (was, at, late, less) = c.requires.stands in
    let state = g.R.DeferringRouter.state in
    let x = c.args.arc.now.to in
    let routers = c.args.routers.now.items in
    let heard = c.hear_until.ensures in
    subst (λ (octets : List ℕ). OnOk c.hear_until.result (Stepped c.args.until (map state routers) (map state (slice_set routers x c.hear_until.new.self)) x c.args.landed.now.moment
    (Hear (record { now = c.args.landed.now.moment; iface = c.args.arc.now.to_iface; sender = c.args.sender }) octets) c.hear_until.new.out KeepsDue))
    c.as_ref.ensures
    (hears state routers x was at c.hear_until.result c.args.until c.args.landed.now.moment _ c.hear_until.new.out c.index_mut-router.result.now c.hear_until.new.self
    c.index_mut-router.ensures.value heard.step heard.sendable heard.settings heard.last heard.no_earlier heard.due)

use Rattle.mesh_config.proofs.Common.{◌≡◌, ◌+◌, length, arith, sym, subst, RouterSettings, length_pushed, stated_lists, settings_parts, stated_parts, IsClear, with_steps, stated_steps, HaveSenders, HaveQualities}
use Rattle.mesh_config.proofs.Builds.{each_more, maps_more, clear_at}
use Rattle.mesh_config.proofs.build.make_routers.Goals as goal

pub make_router-requires-clause-clear : goal.make_router-requires-clause-clear
make_router-requires-clause-clear c =
    subst IsClear (sym c.index-routers-at.is) (clear_at c.args.routers.now c.loop-at.at c.index-routers-at.result c.loop-at-test.true c.requires.clear)

pub loop-at-preserved : goal.loop-at-preserved
loop-at-preserved c =
    let all = c.loop-at.all in let i = c.loop-at.at in let x = c.in_ok-make_router.field-0 in let made = c.in_ok-make_router.ensures in
    let size : 0 + length all ≡ i = omega (arith, c.loop-at.invariant.size) in
    rw c.in_ok-push.ensures.ok (record {
      fields = maps_more settings_parts (stated_parts c.args.times) all c.args.routers.now i x c.index-routers-at.result c.index-routers-at.is c.loop-at-test.true c.loop-at.invariant.fields made.parts;
      qualities = each_more (λ n (r : RouterSettings). HaveQualities (stated_lists c.args.routers.now) (with_steps c.args.arcs.now (stated_steps c.args.stated_arcs.now)) n 0 r.interfaces) 0 i all x c.loop-at.invariant.qualities size made.qualities;
      senders = each_more (λ n (r : RouterSettings). HaveSenders (stated_lists c.args.routers.now) c.args.arcs.now n 0 r.interfaces) 0 i all x c.loop-at.invariant.senders size made.senders;
      size = length_pushed i all x c.loop-at.invariant.size;
    })

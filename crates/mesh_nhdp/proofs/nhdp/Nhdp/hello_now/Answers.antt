use Rattle.mesh_nhdp.proofs.Common.{◌∙◌, ap, refl, IfOk-weaker, Neighbourhood, NhdpState, few_rows}
use Rattle.mesh_nhdp.proofs.InterfaceTables.{apart_held, seen_held}
use Rattle.mesh_hello.proofs.SayingLemmas.OwnRows.{own_rows}
use Rattle.mesh_nhdp.proofs.nhdp.Nhdp.hello_now.Goals as goal

pub make_hello-requires : goal.make_hello-requires
make_hello-requires g c =
    let is = ap (λ (n : Neighbourhood). let held : NhdpState = record { settings = c.self.inside.settings; near = n } in held) c.sets.view_is ∙ c.self.view_is in
    apart_held c.args.self.now _ c.args.now c.args.iface _ c.index.result.now _ _ is c.requires.sound c.requires.iface refl c.index.ensures refl c.table.ensures.content

pub returns : goal.returns
returns g c =
    let held = c.args.self.now in
    let is = ap (λ (n : Neighbourhood). let held : NhdpState = record { settings = c.self.inside.settings; near = n } in held) c.sets.view_is ∙ c.self.view_is in
    let seen = seen_held held _ c.args.now c.args.iface _ c.index.result.now c.sets.inside.neighbours _ is c.requires.sound c.requires.iface refl c.index.ensures refl c.table.ensures.content c.args.relays.now in
    record {
      ok = IfOk-weaker c.make_hello.result _ _ (λ hello says s own near chosen. says s (seen s own near chosen)) c.make_hello.ensures;
      few = IfOk-weaker c.make_hello.result _ _ (λ hello says. few_rows held.settings held.near c.args.relays.now c.args.iface c.args.now hello c.requires.sound (λ s own near chosen. says s (seen s own near chosen))) c.make_hello.ensures;
      own = IfOk-weaker c.make_hello.result _ _ (λ hello says. own_rows held.settings held.near c.args.relays.now c.args.iface c.args.now hello c.requires.sound (λ s own near chosen. says s (seen s own near chosen))) c.make_hello.ensures;
    }

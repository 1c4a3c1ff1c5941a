use Rattle.mesh_emulate.proofs.Common.{◌≡◌, sym, one_put, one_cut, MadeEmulation}
use Rattle.mesh_emulate.proofs.making.emulation.make.Goals as goal

pub returns-in-Ok-write_all-clause-leaves : goal.returns-in-Ok-write_all-clause-leaves
returns-in-Ok-write_all-clause-leaves g c =
    let (m, is) = c.in-Ok.ensures in
    one_put (λ (u : Unit {0}) text. (m : MadeEmulation c.args.kind c.args.routers c.args.seed) × (text ≡ m.text)) (g.O.Sink.content c.args.out.now) (g.O.Sink.content c.write_all.new.out) tt
    c.in-Ok.text (m, sym is) (rw (← c.as_slice.ensures) c.in-Ok-write_all.ensures.whole)

pub returns-in-Ok-clause-leaves : goal.returns-in-Ok-clause-leaves
returns-in-Ok-clause-leaves g c =
    let (m, is) = c.in-Ok.ensures in
    one_cut (λ (u : Unit {0}) text. (m : MadeEmulation c.args.kind c.args.routers c.args.seed) × (text ≡ m.text)) (g.O.Sink.content c.args.out.now) (g.O.Sink.content c.write_all.new.out)
    (g.O.Sink.faults c.args.out.now) (g.O.Sink.faults c.write_all.new.out) tt c.in-Ok.text (m, sym is) c.in-Err-write_all.ensures.failed (rw (← c.as_slice.ensures) c.in-Err-write_all.ensures.part)

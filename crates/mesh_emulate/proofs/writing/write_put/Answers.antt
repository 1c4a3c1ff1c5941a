use Rattle.mesh_emulate.proofs.Common.{◌≡◌, [], Ok, refl, appends_none, one_put, one_cut}
use Rattle.mesh_emulate.proofs.writing.write_put.Goals as goal

pub returns-in-Ok-write_all-clause-leaves : goal.returns-in-Ok-write_all-clause-leaves
returns-in-Ok-write_all-clause-leaves g c =
    one_put (λ (u : Unit {0}) piece. (c.args.put ≡ Ok tt) × (piece ≡ c.args.text.now)) (g.O.Sink.content c.args.out.now) (g.O.Sink.content c.write_all.new.out) tt
    c.args.text.now (c.in-Ok.is, refl) (rw (← c.as_slice.ensures) c.in-Ok-write_all.ensures.whole)

pub returns-in-Err-write_all-clause-leaves : goal.returns-in-Err-write_all-clause-leaves
returns-in-Err-write_all-clause-leaves g c =
    one_cut (λ (u : Unit {0}) piece. (c.args.put ≡ Ok tt) × (piece ≡ c.args.text.now)) (g.O.Sink.content c.args.out.now) (g.O.Sink.content c.write_all.new.out)
    (g.O.Sink.faults c.args.out.now) (g.O.Sink.faults c.write_all.new.out) tt c.args.text.now (c.in-Ok.is, refl) c.in-Err-write_all.ensures.failed (rw (← c.as_slice.ensures) c.in-Err-write_all.ensures.part)

pub returns-in-Err-clause-leaves : goal.returns-in-Err-clause-leaves
returns-in-Err-clause-leaves g c = ([], refl, appends_none (g.O.Sink.content c.args.out.now))

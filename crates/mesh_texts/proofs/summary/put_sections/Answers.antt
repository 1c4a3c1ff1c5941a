use Rattle.mesh_texts.proofs.Common.{◌≡◌, [], ◌++◌, drop, refl, arith, append_assoc, append-nil, drop_all, all_read, grows_on}
use Rattle.mesh_atoms.specs.Sound.{Sound}
use Rattle.mesh_texts.proofs.States.{next_state}
use Rattle.mesh_texts.proofs.summary.put_sections.Goals as goal

pub put_section-requires : goal.put_section-requires
put_section-requires g c =
    all_read g.R.RouterView.state Sound c.args.routers.now c.loop-router.router-index c.router-item.result c.requires c.loop-router-test.true c.router-item.is

pub loop-router-preserved : goal.loop-router-preserved
loop-router-preserved g c =
    let w = c.in_ok-put_section.ensures.ok in
    let at = next_state g.R.RouterView.state c.args.routers.now c.loop-router.router-index c.router-item.result c.loop-router-test.true c.router-item.is in
    record {
      kept = grows_on c.loop-router.invariant.kept c.in_ok-put_section.ensures.kept;
      text = λ rest h. rw (w.1, append_assoc) (c.loop-router.invariant.text (w.0 ++ rest) (rw at (w.0, rest, w.2, h, refl)));
    }

pub returns-clause-ok : goal.returns-clause-ok
returns-clause-ok g c =
    let none : drop c.loop-router.router-index c.args.routers.now ≡ [] = drop_all c.loop-router.router-index c.args.routers.now (omega arith) in
    rw append-nil at (c.loop-router.invariant.text [] (rw none refl))

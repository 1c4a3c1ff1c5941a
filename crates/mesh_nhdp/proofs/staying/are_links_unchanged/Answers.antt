use Rattle.mesh_nhdp.proofs.Common.{refl, sym, subst, ◌∙◌, below_more, arith, false≢true, LinkKey, Link, Base, base_of, rule_of, AllStay}
use Rattle.mesh_nhdp.proofs.AllHears.{is_base}
use Rattle.mesh_nhdp.proofs.Unchanged.{links_stay_all}
use Rattle.mesh_nhdp.proofs.staying.are_links_unchanged.Goals as goal

pub returns-then-not-are_unchanged_on : goal.returns-then-not-are_unchanged_on
returns-then-not-are_unchanged_on g c =
    let settings = c.args.settings.now in rw (← c.sets.view_is) (
      λ h. absurd (false≢true h),
      λ all. (
          let here = is_base c.sets.inside.links.items c.loop-i.i c.index.result.now (omega (arith, c.loop-i-test.true, c.len-i-end.ensures)) c.index.ensures in
          let yes = c.are_unchanged_on.ensures.1 (subst (λ (b : Base LinkKey Link). AllStay (rule_of settings c.loop-i.i) settings.times.link_hold c.args.last c.args.now b) here (all c.loop-i.i)) in
          absurd (false≢true (sym c.if-not-are_unchanged_on.true ∙ yes))),
    )

pub loop-i-preserved : goal.loop-i-preserved
loop-i-preserved g c =
    let settings = c.args.settings.now in
    let here = is_base c.sets.inside.links.items c.loop-i.i c.index.result.now (omega (arith, c.loop-i-test.true, c.len-i-end.ensures)) c.index.ensures in
    below_more (λ k. AllStay (rule_of settings k) settings.times.link_hold c.args.last c.args.now (base_of c.sets.inside.links.items k)) c.loop-i.i c.loop-i.invariant
    (subst (λ (b : Base LinkKey Link). AllStay (rule_of settings c.loop-i.i) settings.times.link_hold c.args.last c.args.now b) (sym here) (c.are_unchanged_on.ensures.0 c.if-not-are_unchanged_on.false))

pub returns : goal.returns
returns g c = rw (← c.sets.view_is) (λ h. links_stay_all c.args.settings.now c.args.last c.args.now c.sets.inside.links.items c.loop-i.i (omega (arith, c.loop-i-test.false, c.len-i-end.ensures)) c.loop-i.invariant, λ all. refl)

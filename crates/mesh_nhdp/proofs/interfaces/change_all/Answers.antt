use Rattle.mesh_nhdp.proofs.Common.{◌≡◌, ◌<◌, ◌∙◌, length, sym, subst, refl, arith, length-set, Neighbourhood, ChangesOn}
use Rattle.mesh_nhdp.proofs.AllHears.{is_base, written_other, changed_more}
use Rattle.mesh_nhdp.proofs.interfaces.change_all.Goals as goal

pub loop-i-preserved : goal.loop-i-preserved
loop-i-preserved g c =
    let old = c.loop-i.invariant in
    let i = c.loop-i.i in
    let links = c.loop-i.sets-inside.links.items in
    let two_hops = c.loop-i.sets-inside.two_hops.items in
    let same = subst (λ (n : Neighbourhood). length n.links ≡ length n.two_hops) (sym c.sets.view_is) c.requires.length in
    let within : i < length links = omega (arith, c.loop-i-test.true, c.len-i-end.ensures, old.links) in
    let within_too : i < length two_hops = omega (arith, c.loop-i-test.true, c.len-i-end.ensures, old.two_hops, same) in
    record {
      neighbours = old.neighbours;
      losts = old.losts;
      links = length-set links i c.change_on.new.links ∙ old.links;
      two_hops = length-set two_hops i c.change_on.new.two_hops ∙ old.two_hops;
      done = changed_more (ChangesOn c.args.change.now) c.sets.inside.links.items links c.sets.inside.two_hops.items two_hops i c.index_mut.result.now c.change_on.new.links c.index_mut-in-loop-i.result.now c.change_on.new.two_hops
          within within_too (is_base links i c.index_mut.result.now within c.index_mut.ensures.value) (is_base two_hops i c.index_mut-in-loop-i.result.now within_too c.index_mut-in-loop-i.ensures.value)
          old.links_left old.two_hops_left old.done c.in_ok-change_on.ensures;
      links_left = λ k past. written_other links i k c.change_on.new.links (λ e. omega (arith, e, past)) ∙ old.links_left k (omega (arith, past));
      two_hops_left = λ k past. written_other two_hops i k c.change_on.new.two_hops (λ e. omega (arith, e, past)) ∙ old.two_hops_left k (omega (arith, past));
    }

pub returns : goal.returns
returns g c =
    let all = c.loop-i.invariant in
    rw (← c.sets.view_is) (record { rest = rw (all.neighbours, all.losts) refl; links = all.links; two_hops = all.two_hops; each = λ i lt. all.done i (omega (arith, lt, c.loop-i-test.false, c.len-i-end.ensures)) })

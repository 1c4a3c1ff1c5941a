use Rattle.mesh_emulate.proofs.Common.{◌≡◌, ◌≤◌, ◌∙◌, refl, ap, arith, length, List, [], stated_duplicates, sound_routers, with_steps, StatedRouter, first}
use Rattle.mesh_emulate.proofs.MakingLemmas.Apart.{pairs_apart}
use Rattle.mesh_emulate.proofs.MakingLemmas.ArcEnds.{arcs_few, arcs_distinct}
use Rattle.mesh_emulate.proofs.MakingLemmas.MadeOnes.{made_routers, made_count, made_arcs, made_senders, made_qualities}
use Rattle.mesh_emulate.proofs.MakingLemmas.StatedOnes.{stated_clear, stated_addrs}
use Rattle.mesh_emulate.proofs.making.scenario.made.Goals as goal

pub arcs_of-requires-clause-few : goal.arcs_of-requires-clause-few
arcs_of-requires-clause-few c =
    let apart = pairs_apart c.args.kind c.args.routers c.args.seed c.in_ok-pairs.pairs c.requires.count.at_least c.in_ok-pairs.ensures in
    rw c.as_slice.ensures (omega (arith, apart.few, c.requires.count.at_most))

pub make_routers-requires-clause-few : goal.make_routers-requires-clause-few
make_routers-requires-clause-few c =
    let apart = pairs_apart c.args.kind c.args.routers c.args.seed c.in_ok-pairs.pairs c.requires.count.at_least c.in_ok-pairs.ensures in
    let made = rw c.as_slice.ensures at c.in_ok-arcs.ensures in
    rw c.as_slice-3.ensures (arcs_few c.args.kind c.args.routers c.args.seed c.in_ok-pairs.pairs c.in_ok-arcs.arcs c.requires.count.at_most apart made)

pub make_routers-requires-clause-apart : goal.make_routers-requires-clause-apart
make_routers-requires-clause-apart c =
    let apart = pairs_apart c.args.kind c.args.routers c.args.seed c.in_ok-pairs.pairs c.requires.count.at_least c.in_ok-pairs.ensures in
    let made = rw c.as_slice.ensures at c.in_ok-arcs.ensures in
    rw (c.as_slice-2.ensures, c.as_slice-3.ensures) (record {
      distinct_addrs = stated_addrs c.in_ok-stated.stated c.in_ok-stated.ensures.stated;
      distinct_arcs = arcs_distinct c.args.kind c.args.routers c.args.seed c.in_ok-pairs.pairs c.in_ok-arcs.arcs c.requires.count.at_most apart made;
    })

pub make_routers-requires-clause-clear : goal.make_routers-requires-clause-clear
make_routers-requires-clause-clear c =
    let few : length c.in_ok-stated.stated ≤ 64 = omega (arith, c.in_ok-stated.ensures.count, c.requires.count.at_most) in
    ap (λ (ds : List StatedRouter). first (stated_duplicates ds)) c.as_slice-2.ensures ∙ stated_clear c.in_ok-stated.stated c.in_ok-stated.ensures.stated few

pub invariant_of-result : goal.invariant_of-result
invariant_of-result c =
    let ds = c.in_ok-stated.stated in
    let all = c.in_ok-stated.ensures.stated in
    let count = c.in_ok-stated.ensures.count in
    let n = c.requires.count in
    let apart = pairs_apart c.args.kind c.args.routers c.args.seed c.in_ok-pairs.pairs n.at_least c.in_ok-pairs.ensures in
    let made = rw c.as_slice.ensures at c.in_ok-arcs.ensures in
    let same = rw c.as_slice-2.ensures at c.in_ok-routers.ensures.parts in
    record {
      end_in_range = record { least = omega arith; most = omega arith };
      seed_in_range = c.requires.seed;
      loss_in_range = λ x e. let is : 163840 ≡ x = cc in omega (arith, is);
      sound_routers = sound_routers _ c.in_ok-routers.routers ds (record { at_least = omega (arith, count, n.at_least); at_most = omega (arith, count, n.at_most) })
          (stated_clear ds all (omega (arith, count, n.at_most))) same;
      sound_arcs = made_arcs _ c.in_ok-routers.routers ds same c.args.kind c.args.routers c.args.seed c.in_ok-pairs.pairs c.in_ok-arcs.arcs n.at_most apart made all count;
    }

pub returns : goal.returns
returns c =
    let ss = c.in_ok-routers.routers in
    let ds = c.in_ok-stated.stated in
    let arcs = c.in_ok-arcs.arcs in
    let same = rw c.as_slice-2.ensures at c.in_ok-routers.ensures.parts in
    let have = rw (c.as_slice-2.ensures, c.as_slice-3.ensures) at c.in_ok-routers.ensures.senders in
    let admit = rw (c.as_slice-2.ensures, c.as_slice-3.ensures) at c.in_ok-routers.ensures.qualities in
    record {
      end = refl;
      loss_until = refl;
      seed_is = refl;
      count = made_count _ ss ds same ∙ c.in_ok-stated.ensures.count;
      routers = made_routers _ (record { are_intervals = refl; is_hop_limit = refl }) ss ds same c.in_ok-stated.ensures.stated;
      senders = made_senders _ ss ds same arcs have;
      qualities = made_qualities _ ss ds same (with_steps arcs []) admit;
      pairs = c.in_ok-pairs.pairs;
      are_pairs = c.in_ok-pairs.ensures;
      arcs = rw c.as_slice.ensures at c.in_ok-arcs.ensures;
    }

use Rattle.mesh_topo.proofs.Common.{◌≤◌, sym, ap, subst, ◌∙◌, Addr4, NetAddr, AllByRecursion, IsStrictlySortedBy, is_outdated}
use Rattle.std.specs.declared.ops.Bound.TheVariants.{Included, Unbounded}
use Rattle.std.specs.BTreeMap.Range.{range_contains}
use Rattle.std.proofs.lemmas.List.Kept.{IsStrictlySortedBy-filter}
use Rattle.mesh_topo.proofs.TcSetsLemmas.Originators.{walk_begins, walk_finds, walk_passes, walk_stops, rest_sorted, rest_all, all_filter, in_range, of_range, outdated_of, outdated_there, outdated_is, of_another, any_key}
use Rattle.mesh_topo.proofs.tc_sets.outdated.outdated.Goals as goal

pub loop-key-init : goal.loop-key-init
loop-key-init g c =
    let eq = g.K.PartialEq.eq in
    let cmp = g.K.Ord.cmp in
    let base = g.T.Table.content c.args.table.now in
    let out = is_outdated eq c.args.originator c.args.ansn g.V.KeyedTuple.kind.origin g.V.KeyedTuple.kind.number base in
    let test = range_contains cmp (Included c.first_key.result) Unbounded in
    let is = c.into_iter-key-iterator.ensures.into_iter_gives ∙ c.range-key-items.ensures.between tt in
    record {
      walks = walk_begins {eq = eq} g.met.K.Eq.laws g.met.K.Key.exact out test c.args.keys.now.keys _ _ c.new-found.ensures is (λ q h. (
        sym (any_key eq cmp g.met.K.Ord.matches_eq c.args.keys.now q) ∙ c.requires q ∙ outdated_there eq c.args.originator c.args.ansn g.V.KeyedTuple.kind.origin g.V.KeyedTuple.kind.number base q h,
        in_range (cmp c.first_key.result q) (c.first_key.ensures.first q (outdated_of eq c.args.originator c.args.ansn g.V.KeyedTuple.kind.origin g.V.KeyedTuple.kind.number base q h)),
      ));
      sorted = subst (IsStrictlySortedBy cmp) (sym is) (IsStrictlySortedBy-filter cmp test c.args.keys.now.keys c.range-key-items.ensures.ordered);
      from = subst (AllByRecursion (λ k. c.args.originator.0 ≤ (g.V.KeyedTuple.kind.origin k).0)) (sym is) (all_filter _ test c.args.keys.now.keys (λ k passes.
          subst (λ a. a.0 ≤ (g.V.KeyedTuple.kind.origin k).0) c.first_key.ensures.of (g.met.V.KeyedTuple.by_origin c.first_key.result k (of_range (cmp c.first_key.result k) passes))));
    }

pub returns-then-ne : goal.returns-then-ne
returns-then-ne g c =
    let eq = g.K.PartialEq.eq in
    let base = g.T.Table.content c.args.table.now in
    let out = is_outdated eq c.args.originator c.args.ansn g.V.KeyedTuple.kind.origin g.V.KeyedTuple.kind.number base in
    walk_stops {eq = eq} g.met.K.Eq.laws g.met.K.Key.exact out g.K.Ord.cmp g.V.KeyedTuple.kind.origin c.args.originator g.met.V.KeyedTuple.by_origin (outdated_of eq c.args.originator c.args.ansn g.V.KeyedTuple.kind.origin g.V.KeyedTuple.kind.number base)
    c.loop-key.found c.loop-key.key-iterator c.next.new.self c.in-Some.key.now c.in-Some.ensures.steps c.loop-key.invariant.from
    (of_another eq c.args.originator c.args.ansn g.V.KeyedTuple.kind.origin g.V.KeyedTuple.kind.number base c.in-Some.key.now c.ends_of.result.0 c.ne.result c.ne.ensures (ap (λ (e : Addr4 × NetAddr). e.0) c.ends_of.ensures) c.if-ne.true)
    c.loop-key.invariant.sorted c.loop-key.invariant.walks

pub loop-key-preserved-in-Continue-1 : goal.loop-key-preserved-in-Continue-1
loop-key-preserved-in-Continue-1 g c =
    let eq = g.K.PartialEq.eq in
    let base = g.T.Table.content c.args.table.now in
    let out = is_outdated eq c.args.originator c.args.ansn g.V.KeyedTuple.kind.origin g.V.KeyedTuple.kind.number base in
    let is = outdated_is eq c.args.originator c.args.ansn g.V.KeyedTuple.kind.origin g.V.KeyedTuple.kind.number base c.in-Some.key.now c.ends_of.result.0 c.ne.result c.has_other_number.result
    c.ne.ensures (ap (λ (e : Addr4 × NetAddr). e.0) c.ends_of.ensures) c.if-ne.false c.has_other_number.ensures ∙ c.if-has_other_number.true in
    record {
      walks = rw c.in_ok-push.ensures.ok (walk_finds {eq = eq} g.met.K.Eq.laws g.met.K.Key.exact out c.loop-key.found c.loop-key.key-iterator c.next.new.self c.in-Some.key.now c.in-Some.ensures.steps is c.loop-key.invariant.walks);
      sorted = rest_sorted g.K.Ord.cmp c.loop-key.key-iterator c.next.new.self c.in-Some.key.now c.in-Some.ensures.steps c.loop-key.invariant.sorted;
      from = rest_all _ c.loop-key.key-iterator c.next.new.self c.in-Some.key.now c.in-Some.ensures.steps c.loop-key.invariant.from;
    }

pub loop-key-preserved : goal.loop-key-preserved
loop-key-preserved g c =
    let eq = g.K.PartialEq.eq in
    let base = g.T.Table.content c.args.table.now in
    let out = is_outdated eq c.args.originator c.args.ansn g.V.KeyedTuple.kind.origin g.V.KeyedTuple.kind.number base in
    let is = outdated_is eq c.args.originator c.args.ansn g.V.KeyedTuple.kind.origin g.V.KeyedTuple.kind.number base c.in-Some.key.now c.ends_of.result.0 c.ne.result c.has_other_number.result
    c.ne.ensures (ap (λ (e : Addr4 × NetAddr). e.0) c.ends_of.ensures) c.if-ne.false c.has_other_number.ensures ∙ c.if-has_other_number.false in
    record {
      walks = walk_passes {eq = eq} g.met.K.Eq.laws g.met.K.Key.exact out c.loop-key.found c.loop-key.key-iterator c.next.new.self c.in-Some.key.now c.in-Some.ensures.steps is c.loop-key.invariant.walks;
      sorted = rest_sorted g.K.Ord.cmp c.loop-key.key-iterator c.next.new.self c.in-Some.key.now c.in-Some.ensures.steps c.loop-key.invariant.sorted;
      from = rest_all _ c.loop-key.key-iterator c.next.new.self c.in-Some.key.now c.in-Some.ensures.steps c.loop-key.invariant.from;
    }

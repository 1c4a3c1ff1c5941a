-- The definitions refuse spoiled neighbours and lost addresses.
use Rattle.mesh_laws.proofs.Common.{common_steps, ◌≡◌, ◌≢◌, ℕ, ◌≤◌, refl, sym, ap, subst, arith, Option, Some, None, true, Metric, Link, Lost, if_live, metric_value, HasSymmetricOf, SettlesLost, IsLeastMetric, RefusesNeighbourOutOfNothing, RefusesNeighbourGone, RefusesSelectorKept, RefusesNeighbourTooShort, RefusesLostThoughBack, RefusesLossUntold, RefusesLostOutOfNothing, RefusesLostAtAnotherMoment, RefusesLostSymmetric, RefusesOwnLost, RefusesNeighbourTooLong, RefusesOtherAddresses, RefusesOtherWillingness, RefusesSelectorCleared, RefusesSymmetricUntold, RefusesSymmetricOutOfNothing, RefusesOtherMetricIn, RefusesOtherMetricOut, RefusesLostGone, RefusesLostMoved, cond_true, none_is_some, none_not, same_some, some_equal}

-- Neighbours as their links have them

pub neighbour_out_of_nothing : RefusesNeighbourOutOfNothing
neighbour_out_of_nothing near now e h = none_is_some (sym h)

pub neighbour_gone : RefusesNeighbourGone
neighbour_gone near now i e key f has h = h i key f has

pub selector_kept : RefusesSelectorKept
selector_kept near now e f off on h = grind (arith, common_steps)

pub neighbour_too_short : RefusesNeighbourTooShort
neighbour_too_short near now i e f key link until has less h =
    let most = h.by_links.no_later i key link until has in
    omega (arith, less, most)

pub neighbour_too_long : RefusesNeighbourTooLong
neighbour_too_long near now e f sooner h =
    let (i, key, link, has) = h.by_links.latest in
    let less = sooner i key link f.1 has in
    omega (arith, less)

pub other_addresses : RefusesOtherAddresses
other_addresses near now e f other h = other h.addrs

pub other_willingness : RefusesOtherWillingness
other_willingness near now e f other h = other h.willing

pub selector_cleared : RefusesSelectorCleared
selector_cleared near now e f stood on off h = grind (arith, common_steps)

pub symmetric_untold : RefusesSymmetricUntold
symmetric_untold near now e f link has off h =
    let on : f.0.symmetric ≡ true = h.by_links.symmetric.1 (link, has) in
    absurd (cc)

pub symmetric_out_of_nothing : RefusesSymmetricOutOfNothing
symmetric_out_of_nothing near now e f none on h = let (link, has) = h.by_links.symmetric.0 on in none link has

-- whatever is the least costs as much as what is told as the least
least_cost : (P : Metric → Type 0) (told : Option Metric) (m : Metric) → IsLeastMetric P told → P m → ((k : Metric) → P k → metric_value m ≤ metric_value k) →
    ((k : Metric) → told ≡ Some k → metric_value k ≢ metric_value m) → ⊥
least_cost P told m none there least other = grind (arith, common_steps)

pub other_metric_in : RefusesOtherMetricIn
other_metric_in near now e f link has least other h =
    least_cost (λ m. (l : Link) × HasSymmetricOf near now f.0.addrs l × (l.link_in ≡ m)) f.0.metric_in link.link_in h.by_links.metric_in (link, has, refl)
    (λ k given. (let P : Metric → Type 0 = λ b. metric_value link.link_in ≤ metric_value b in subst P given.2 (least given.0 given.1)))
    other

pub other_metric_out : RefusesOtherMetricOut
other_metric_out near now e f link m has tells least other h =
    least_cost (λ k. (l : Link) × HasSymmetricOf near now f.0.addrs l × (l.link_out ≡ Some k)) f.0.metric_out m h.by_links.metric_out (link, has, tells)
    (λ k given. least given.0 k given.1 given.2) other

-- Lost addresses

-- the tuple of an address, by whether the address was and is a symmetric neighbour's
module _ {was is : Type 0} {until : ℕ} {stood new : Option (Lost × ℕ)} where
  not_lost : (e : Lost × ℕ) → SettlesLost was is until stood new → is → new ≡ Some e → ⊥
  not_lost e h1 here some = grind (arith, common_steps, none_not)

  told_lost : SettlesLost was is until stood new → was → (is → ⊥) → new ≡ None → ⊥
  told_lost h0 before not_now gone = grind (arith, common_steps, none_not)

  not_new : (e : Lost × ℕ) → SettlesLost was is until stood new → (was → ⊥) → stood ≡ None → new ≡ Some e → ⊥
  not_new e h1 never before some = grind (arith, common_steps, none_not)

  ends_so : (e : Lost × ℕ) → SettlesLost was is until stood new → was → new ≡ Some e → e.1 ≡ until
  ends_so e h1 before some = grind (arith, common_steps, none_not, same_some)

  is_left : SettlesLost was is until stood new → (was → ⊥) → (is → ⊥) → new ≡ stood
  is_left h0 never not_now = grind (arith, common_steps)

pub lost_though_back : RefusesLostThoughBack
lost_though_back settings now old new a e some here live = not_lost e (live.losts a) here some

pub loss_untold : RefusesLossUntold
loss_untold settings now old new a before not_now none live = told_lost (live.losts a) before not_now none

pub lost_out_of_nothing : RefusesLostOutOfNothing
lost_out_of_nothing settings now old new a e never stood some live = not_new e (live.losts a) never (ap (if_live now) stood) some

pub lost_at_another_moment : RefusesLostAtAnotherMoment
lost_at_another_moment settings now old new a e before some other live = other (ends_so e (live.losts a) before some)

pub lost_gone : RefusesLostGone
lost_gone settings now old new a e never not_now stood late gone live = grind (arith, common_steps, none_not, is_left, cond_true)

pub lost_moved : RefusesLostMoved
lost_moved settings now old new a e f never not_now stood stands other live = grind (arith, common_steps, is_left, some_equal, none_is_some)

pub lost_symmetric : RefusesLostSymmetric
lost_symmetric settings now near a e at symmetric sound = sound.lost a e at symmetric

pub own_lost : RefusesOwnLost
own_lost settings now near a e at mine sound = sound.lost_not_mine a e at mine

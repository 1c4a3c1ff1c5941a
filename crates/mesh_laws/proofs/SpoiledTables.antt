-- The definitions refuse spoiled topologies and noted messages.
use Rattle.mesh_laws.proofs.Common.{arith, common_steps, ◌≡◌, ℕ, ◌+◌, refl, sym, ◌∙◌, ap, subst, Option, Some, None, Bool, true, false, cond, not, ◌&&◌, eq-eqb, Metric, Tc, AddressKey, Advertiser, RouterTuple, AddressTuple, NetworkTuple, Noted, AfterTc, Becomes, GivesAddress, Base, find, addr_eq, address_eq, flood_eq, TopologyBase, key_of, RefusesNumberUnnoted, RefusesNumberAtAnotherMoment, RefusesGivenOtherwise, RefusesGivenAtAnotherMoment, RefusesRouterUntaken, RefusesNetworkUntaken, RefusesRouterOfOldNumber, RefusesNetworkOfOldNumber, RefusesTupleGoneByPart, RefusesTupleGoneOfAnother, RefusesProcessedUnnoted, RefusesProcessedOutOfNothing, RefusesProcessedAtAnotherMoment, RefusesReceivedOutOfNothing, RefusesReceivedAtAnotherMoment, RefusesReceivedElsewhere, RefusesForwardedUnsent, RefusesForwardedAtAnotherMoment, cond_true, none_not, none_is_some, same_some}
use Rattle.mesh_atoms.specs.declared.tuples.FloodKey.{FloodKey}
use Rattle.mesh_flood.specs.Noting.{Notes}
use Rattle.mesh_laws.proofs.Members.{both_same}
use Rattle.mesh_laws.proofs.TcSets.{given_so, numbered_so}

-- TCs

-- a TC's number is noted until its validity is over
number_noted : {now : ℕ} {tc : Tc} {old new : TopologyBase} (t : Advertiser × ℕ) → AfterTc now tc old new → find addr_eq new.advertisers tc.originator ≡ Some t →
    t ≡ (record { ansn = tc.ansn }, now + tc.validity)
number_noted {tc = tc} t after at =
    same_some at (after.advertisers tc.originator ∙ cond_true (addr_eq tc.originator tc.originator) _ _ (eq-eqb tc.originator.0 tc.originator.0 refl))

pub number_unnoted : RefusesNumberUnnoted
number_unnoted now tc old new t at other after = other (ap (λ (e : Advertiser × ℕ). e.0.ansn) (number_noted t after at))

pub number_at_another_moment : RefusesNumberAtAnotherMoment
number_at_another_moment now tc old new t at other after = other (ap (λ (e : Advertiser × ℕ). e.1) (number_noted t after at))

-- a tuple of an address that a row gives is as a row gives it
address_given : {now : ℕ} {tc : Tc} {old new : TopologyBase} (key : AddressKey) (m : Metric) (t : AddressTuple × ℕ) → AfterTc now tc old new → GivesAddress tc key m →
    find address_eq new.addresses key ≡ Some t → (GivesAddress tc key t.0.metric × (t.0.ansn ≡ tc.ansn)) × (t.1 ≡ now + tc.validity)
address_given {now} {tc} key m t after given stands =
    let (w, by_row, is) = given_so tc (now + tc.validity) _ _ _ key (after.addresses.at key) (record { ansn = tc.ansn; metric = m }) (given, refl) in
    let same : t ≡ (w, now + tc.validity) = same_some stands is in (
      subst (λ (v : AddressTuple). GivesAddress tc key v.metric × (v.ansn ≡ tc.ansn)) (sym (ap (λ (e : AddressTuple × ℕ). e.0) same)) by_row,
      ap (λ (e : AddressTuple × ℕ). e.1) same,
    )

pub given_otherwise : RefusesGivenOtherwise
given_otherwise now tc old new key m t given stands other after = other (address_given key m t after given stands).0

pub given_at_another_moment : RefusesGivenAtAnotherMoment
given_at_another_moment now tc old new key m t given stands other after = other (address_given key m t after given stands).1

pub router_untaken : RefusesRouterUntaken
router_untaken now tc old new key m given only untaken after =
    let until = now + tc.validity in
    let (w, by_row, is) = given_so tc until _ _ _ key (after.routers.at key) (record { ansn = tc.ansn; metric = m }) (given, refl) in
    let make : ℕ → Metric → RouterTuple = λ n k. record { ansn = n; metric = k } in
    let same : w ≡ record { ansn = tc.ansn; metric = m } = both_same make w.ansn tc.ansn w.metric m by_row.1 (only w.metric by_row.0) in
    untaken (is ∙ ap (λ (v : RouterTuple). Some (v, until)) same)

pub network_untaken : RefusesNetworkUntaken
network_untaken now tc old new key distance m given only untaken after =
    let until = now + tc.validity in
    let (w, by_row, is) = given_so tc until _ _ _ key (after.networks.at key) (record { ansn = tc.ansn; distance = distance; metric = m }) (given, refl) in
    let (d, k) = only w.distance w.metric by_row.0 in
    let make : ℕ → ℕ × Metric → NetworkTuple = λ n v. record { ansn = n; distance = v.0; metric = v.1 } in
    let pair : ℕ → Metric → ℕ × Metric = λ a b. (a, b) in
    let parts : pair w.distance w.metric ≡ pair distance m = both_same pair w.distance distance w.metric m d k in
    let same : w ≡ record { ansn = tc.ansn; distance = distance; metric = m } = both_same make w.ansn tc.ansn (pair w.distance w.metric) (pair distance m) by_row.1 parts in
    untaken (is ∙ ap (λ (v : NetworkTuple). Some (v, until)) same)

pub router_of_old_number : RefusesRouterOfOldNumber
router_of_old_number now tc old new key t complete mine stands other after = grind (arith, common_steps, numbered_so)

pub network_of_old_number : RefusesNetworkOfOldNumber
network_of_old_number now tc old new key t complete mine stands other after = grind (arith, common_steps, numbered_so)

left_of : {A : Type 0} (mine complete same : Bool) (e : A) → cond (mine && (complete && not same)) None (Some e) ≡ None → (mine ≡ true) × (complete ≡ true)
left_of mine complete same e h = grind (arith, common_steps, none_is_some)

-- a tuple that is gone was of the originator, and the TC was complete
gone_of : (now : ℕ) (tc : Tc) (key : AddressKey) (old new : Option (AddressTuple × ℕ)) (t : AddressTuple × ℕ) →
    Becomes tc (now + tc.validity) (λ (k : AddressKey). k.from) (λ v. v.ansn) (λ k v. GivesAddress tc k v.metric × (v.ansn ≡ tc.ansn)) key old new →
    old ≡ Some t → new ≡ None → (addr_eq key.from tc.originator ≡ true) × (tc.complete ≡ true)
gone_of now tc key old new t h6 stood gone = grind (arith, common_steps, none_not, left_of)

pub tuple_gone_by_part : RefusesTupleGoneByPart
tuple_gone_by_part now tc old new key t part stood gone after = grind (arith, common_steps, gone_of)

pub tuple_gone_of_another : RefusesTupleGoneOfAnother
tuple_gone_of_another now tc old new key t other stood gone after = grind (arith, common_steps, gone_of)

-- Messages

flood_itself : (k : FloodKey) → flood_eq k k ≡ true
flood_itself k = grind (arith, common_steps)

-- what is noted of a key, by whether it is noted
noted_at : (k : FloodKey) (until : ℕ) (old new : Base FloodKey Noted) → Notes true k until old new → find flood_eq new k ≡ Some (record {}, until)
noted_at k until old new notes = notes k ∙ cond_true (flood_eq k k) (Some (record {}, until)) (find flood_eq old k) (flood_itself k)

module _ (b : Bool) (k : FloodKey) (until : ℕ) (old new : Base FloodKey Noted) (e : Noted × ℕ) where
  not_noted : b ≡ false → Notes b k until old new → find flood_eq old k ≡ None → find flood_eq new k ≡ Some e → ⊥
  not_noted is notes none some = let same : Notes false k until old new = subst (λ a. Notes a k until old new) is notes in none_not (same k ∙ none) some

  noted_until : b ≡ true → Notes b k until old new → find flood_eq new k ≡ Some e → e.1 ≡ until
  noted_until is notes some = grind (arith, common_steps, noted_at, same_some)

pub processed_unnoted : RefusesProcessedUnnoted
processed_unnoted times now i heading answer old new none after = grind (arith, common_steps, none_not, noted_at, key_of)

pub processed_out_of_nothing : RefusesProcessedOutOfNothing
processed_out_of_nothing times now i heading answer old new e none some after = not_noted false (key_of heading) (now + times.processed_hold) old.processed new.processed e refl after.processed none some

pub processed_at_another_moment : RefusesProcessedAtAnotherMoment
processed_at_another_moment times now i heading answer old new e some other after = other (noted_until true (key_of heading) (now + times.processed_hold) old.processed new.processed e refl after.processed some)

pub received_out_of_nothing : RefusesReceivedOutOfNothing
received_out_of_nothing times now i heading is_processed answer old new e unasked none some after = grind (arith, common_steps, not_noted, key_of)

pub received_at_another_moment : RefusesReceivedAtAnotherMoment
received_at_another_moment times now i heading is_processed answer old new e asked some other after = grind (arith, common_steps, noted_until, key_of)

pub received_elsewhere : RefusesReceivedElsewhere
received_elsewhere times now i j heading is_processed answer old new e other none some after = grind (arith, common_steps, none_not, key_of)

pub forwarded_unsent : RefusesForwardedUnsent
forwarded_unsent times now i heading is_processed answer old new e not_sent none some after = grind (arith, common_steps, not_noted, key_of)

pub forwarded_at_another_moment : RefusesForwardedAtAnotherMoment
forwarded_at_another_moment times now i heading is_processed answer old new e sent some other after = grind (arith, common_steps, noted_until, key_of)

-- The definitions refuse spoiled links, qualities, limits and metrics of 2-hop tuples.
use Rattle.mesh_laws.proofs.Common.{common_steps, ◌≡◌, ℕ, ◌⊎◌, inl, inr, ◌∙◌, ap, subst, arith, Option, Some, None, Contains, true, lt-ltb, Addr4, Metric, LinkStatus, Link, GoesOn, LinkKeptOrMade, Stood, Made, by_status, renewed, if_live, Says, IsSaid, Near_in, Near_out, Link_in, Link_out, or_else, trim, trimmed, quality_at, rule_of, admitted, link_at, IsHeld, Takes, Overfull_two_hops, IsKept, none_is_some, none_not, same_some, some_equal, few_of_one, RefusesLinksTogether, RefusesLinkOfUnlisted, RefusesLinkOfSharedAddress, RefusesLinkGone, RefusesOtherQuality, RefusesLostLinkKept, RefusesMadeUnadmitted, RefusesFullOfOne, RefusesTakenThoughFull, RefusesTakenThoughManyRows, RefusesFullThoughFits, RefusesLinkMetricFirst, RefusesMetricUnsaid, RefusesRowByLinkMetric, RefusesRowWithoutMetric}
use Rattle.mesh_atoms.specs.declared.hello.Shown.{Shown}
use Rattle.mesh_laws.proofs.Qualities.{quality_by}

-- Links

pub links_together : RefusesLinksTogether
links_together settings now i near k l e f a at at' has has' other sound = other (sound.links_apart i k l e f a at at' has has')

-- a link that stood and stands goes on
goes_on : (P : Link × ℕ → Type 0) {old new : Option (Link × ℕ)} (e f : Link × ℕ) → IsKept P old new → old ≡ Some e → new ≡ Some f → P e
goes_on P {old} {new} e f kept stood stands = by_case (subst (λ (o : Option (Link × ℕ)). IsKept P o new) stood kept)
  where
    by_case : IsKept P (Some e) new → P e
    by_case (inl h) = h.0
    by_case (inr h) = none_not h.1 stands

gone_not : (P : Link × ℕ → Type 0) {old new : Option (Link × ℕ)} (e : Link × ℕ) → IsKept P old new → old ≡ Some e → new ≡ None → P e → ⊥
gone_not P {old} {new} e kept stood gone goes = by_case (subst (λ (o : Option (Link × ℕ)). IsKept P o new) stood kept)
  where
    by_case : IsKept P (Some e) new → ⊥
    by_case (inl h) = none_not gone h.1
    by_case (inr h) = h.0 goes

pub link_of_unlisted : RefusesLinkOfUnlisted
link_of_unlisted settings now i j told hello old new key e f a other stood stands has theirs beyond after =
    (goes_on (λ t. GoesOn old told i j t.0) e f (after.other_links j key (inl other)) stood stands).listed (a, has, theirs) beyond

pub link_of_shared_address : RefusesLinkOfSharedAddress
link_of_shared_address settings now i told hello old new key e f other stood stands together after = grind (arith, common_steps, goes_on)

pub link_gone : RefusesLinkGone
link_gone settings now i j told hello old new key e other stood gone goes after = grind (arith, common_steps, gone_not)

-- Qualities

pub other_quality : RefusesOtherQuality
other_quality settings now i near key e at other sound = grind (arith, common_steps, admitted, some_equal, quality_by)

-- expiry leaves the moment of a link that stays
left_moment : (now : ℕ) (o : Option (Link × ℕ)) (g f : Link × ℕ) → o ≡ Some g → trim now (if_live now o) ≡ Some f → f.1 ≡ g.1
left_moment now o g f is left = grind (arith, common_steps, some_equal, none_is_some)

pub lost_link_kept : RefusesLostLinkKept
lost_link_kept settings now i old new key e f stood ready kept low stands late live = grind (arith, common_steps, admitted, left_moment)

pending_by_status : (shown : Shown) (hold now : ℕ) (status : Option LinkStatus) (e : Link × ℕ) → (by_status shown hold now status e).0.pending ≡ e.0.pending
pending_by_status shown hold now status e = grind (arith, common_steps)

pending_trimmed : (now : ℕ) (e : Link × ℕ) → (trimmed now e).0.pending ≡ e.0.pending
pending_trimmed now e = grind (arith, common_steps)

-- a HELLO leaves whether a link is PENDING
pending_renewed : (shown : Shown) (hold now : ℕ) (e : Link × ℕ) → (renewed shown hold now e).0.pending ≡ e.0.pending
pending_renewed shown hold now e = pending_trimmed now (by_status shown hold now shown.status e) ∙ pending_by_status shown hold now shown.status e

pub made_unadmitted : RefusesMadeUnadmitted
made_unadmitted settings now i told hello old new e none low stands admitted after =
    let (start, begins, at) = after.link in
    let same : e ≡ renewed told.shown settings.times.link_hold now start = same_some stands at in
    let pending : e.0.pending ≡ true = ap (λ (t : Link × ℕ). t.0.pending) same ∙ (pending_renewed told.shown settings.times.link_hold now start ∙ is_pending start begins) in
    absurd (cc)
  where
    is_pending : (start : Link × ℕ) → LinkKeptOrMade (rule_of settings i) told.shown now (link_at old i told.least) start → start.0.pending ≡ true
    is_pending start (Stood _ stood same) = none_not none stood
    is_pending start (Made new_one) = lt-ltb (quality_at (rule_of settings i) told.shown.sending now) (rule_of settings i).accept low

-- Limits

pub full_of_one : RefusesFullOfOne
full_of_one near told none one (some, distinct, each, more) = few_of_one told.originator some distinct (λ a has. by_case a (each a has)) more
  where
    by_case : (a : Addr4) → IsHeld near a ⊎ (Contains told.listed a ⊎ (a ≡ told.originator)) → a ≡ told.originator
    by_case a (inl held) = absurd (none a held)
    by_case a (inr (inl listed)) = one a listed
    by_case a (inr (inr is)) = is

pub taken_though_full : RefusesTakenThoughFull
taken_though_full settings now i sender hello old new full (Takes told fault tells room fits after) = room (full told tells)

pub taken_though_many_rows : RefusesTakenThoughManyRows
taken_though_many_rows settings now i sender hello old new many (Takes told fault tells room (count, rows, fits) after) =
    let more = many told count rows in omega (arith, fits, more)

pub full_though_fits : RefusesFullThoughFits
full_though_fits settings now i sender hello old new few (Overfull_two_hops told fault tells room (count, rows, more)) =
    let fits = few told count rows in omega (arith, fits, more)

-- Metrics of 2-hop tuples

-- of two metrics that may be said, one is
said_so : (near link : Metric → Type 0) {said : Option Metric} (m n : Metric) → IsSaid near link said → near m → ((k : Metric) → near k → k ≡ m) → said ≡ Some n → n ≡ m
said_so near link m n said there only is = grind (arith, common_steps)

not_unsaid : (near link : Metric → Type 0) {said : Option Metric} (m : Metric) → IsSaid near link said → link m → said ≡ None → ⊥
not_unsaid near link m said there is = let none = subst (λ (o : Option Metric). IsSaid near link o) is said in none.1 m there

pub link_metric_first : RefusesLinkMetricFirst
link_metric_first p q j now key t m n there only is other by =
    other (said_so (λ k. Says q j now key.addr (Near_in k)) (λ k. Says q j now key.addr (Link_in k)) m n by.metric_in there only is)

pub metric_unsaid : RefusesMetricUnsaid
metric_unsaid p q j now key t m there is by =
    not_unsaid (λ k. Says q j now key.addr (Near_out k)) (λ k. Says q j now key.addr (Link_out k)) m by.metric_out there is

by_near : (near link : Option Metric) (m n : Metric) → near ≡ Some m → or_else near link ≡ Some n → n ≡ m
by_near near link m n e h = grind (arith, common_steps, none_is_some, same_some)

pub row_by_link_metric : RefusesRowByLinkMetric
row_by_link_metric row m n has other is = other (by_near row.metrics.near_in row.metrics.link_in m n has is)

by_link : (near link : Option Metric) (m : Metric) → link ≡ Some m → or_else near link ≡ None → ⊥
by_link near link m e h = grind (arith, common_steps, none_not, none_is_some)

pub row_without_metric : RefusesRowWithoutMetric
row_without_metric row m has is = by_link row.metrics.near_out row.metrics.link_out m has is

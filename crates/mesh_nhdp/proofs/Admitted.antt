-- A link that is as its quality has it stays so, whatever else of it changes.
use Rattle.mesh_nhdp.proofs.Common.{common_steps, ◌≡◌, ℕ, ◌+◌, min, arith, refl, sym, ◌∙◌, ap, subst, Option, Some, None, Bool, true, false, cond, not, nat_le, nat_lt, ◌&&◌, ◌||◌, false≢true, Admit, Shown, LinkStatus, RouterSettings, Link, quality_at, admitted, rule_of, admit_on, trimmed, made, by_status, renewed, same_some, none_not}

-- What quality asks of a link

-- it has the quality, is admitted where that is accepted, and is PENDING or lost where that is rejected
pub record HasQuality (rule : Admit) (quality : ℕ) (link : Link) : Type 0 where
  pub quality_is : link.quality ≡ quality
  pub accepted : nat_le rule.accept quality ≡ true → (link.pending ≡ false) × (link.lost ≡ false)
  pub rejected : nat_le rule.accept quality ≡ false → nat_lt quality rule.reject ≡ true → (link.pending || link.lost) ≡ true

abbrev pub FollowsQuality : Admit → ℕ → Link → Type 0
FollowsQuality rule now link = HasQuality rule (quality_at rule link.addrs now) link

or_true : (b : Bool) → (b || true) ≡ true
or_true b = grind (arith, common_steps)

not_rejected : (low out : Bool) → (low && not out) ≡ false → low ≡ true → out ≡ true
not_rejected low out h k = grind (arith, common_steps)

is_out : (low out : Bool) → (low && not out) ≡ true → (low ≡ true) × (out ≡ false)
is_out low out h = grind (arith, common_steps)

-- what quality makes of a link has what it asks
pub admitted_follows : (rule : Admit) (hold now : ℕ) (e : Link × ℕ) → FollowsQuality rule now (admitted rule hold now e).0
admitted_follows rule hold now e = by_case (quality_at rule e.0.addrs now) refl (nat_le rule.accept (quality_at rule e.0.addrs now)) (nat_lt (quality_at rule e.0.addrs now) rule.reject && not (e.0.pending || e.0.lost)) refl refl where
  by_case : (q : ℕ) → quality_at rule e.0.addrs now ≡ q → (b c : Bool) → nat_le rule.accept q ≡ b → (nat_lt q rule.reject && not (e.0.pending || e.0.lost)) ≡ c
      → FollowsQuality rule now (cond {A = Link × ℕ} b (record e.0 { quality = q; pending = false; lost = false }, e.1) (cond c (record e.0 { quality = q; lost = true }, min e.1 (now + hold)) (record e.0 { quality = q }, e.1))).0
  by_case q at true c accept out = record { quality_is = sym at; accepted = λ h. (refl, refl); rejected = λ h k. absurd (false≢true (sym h ∙ (ap (λ (n : ℕ). nat_le rule.accept n) at ∙ accept))) }
  by_case q at false true accept out = record {
    quality_is = sym at;
    accepted = λ h. absurd (false≢true (sym (ap (λ (n : ℕ). nat_le rule.accept n) at ∙ accept) ∙ h));
    rejected = λ h k. or_true e.0.pending;
  }
  by_case q at false false accept out = record {
    quality_is = sym at;
    accepted = λ h. absurd (false≢true (sym (ap (λ (n : ℕ). nat_le rule.accept n) at ∙ accept) ∙ h));
    rejected = λ h k. not_rejected (nat_lt q rule.reject) (e.0.pending || e.0.lost) out (sym (ap (λ (n : ℕ). nat_lt n rule.reject) at) ∙ k);
  }

not_below : (q accept : ℕ) → nat_le accept q ≡ true → nat_lt q accept ≡ false
not_below q accept h = grind (arith, common_steps)

-- a made link has it too
pub made_follows : (rule : Admit) (shown : Shown) (now : ℕ) → FollowsQuality rule now (made rule shown now).0
made_follows rule shown now = grind (arith, common_steps, not_below)

-- of a link that has what it asks quality makes nothing else
pub admitted_again : (rule : Admit) (hold now : ℕ) (e : Link × ℕ) → FollowsQuality rule now e.0 → admitted rule hold now e ≡ e
admitted_again rule hold now e h = grind (arith, common_steps, is_out)

pub follows_same : (rule : Admit) (hold now : ℕ) (e : Link × ℕ) → admitted rule hold now e ≡ e → FollowsQuality rule now e.0
follows_same rule hold now e is = subst (λ (x : Link × ℕ). FollowsQuality rule now x.0) is (admitted_follows rule hold now e)

-- Changes that quality doesn't look at

-- the link has the same addresses and quality, and is PENDING or lost as it was
pub record IsAlike (a b : Link) : Type 0 where
  pub addrs : b.addrs ≡ a.addrs
  pub quality : b.quality ≡ a.quality
  pub pending : b.pending ≡ a.pending
  pub lost : b.lost ≡ a.lost

pub alike_twice : (a b c : Link) → IsAlike a b → IsAlike b c → IsAlike a c
alike_twice a b c p q = record { addrs = q.addrs ∙ p.addrs; quality = q.quality ∙ p.quality; pending = q.pending ∙ p.pending; lost = q.lost ∙ p.lost }

pub trimmed_alike : (now : ℕ) (e : Link × ℕ) → IsAlike e.0 (trimmed now e).0
trimmed_alike now e = grind (arith, common_steps)

status_alike : (shown : Shown) (hold now : ℕ) (status : Option LinkStatus) (e : Link × ℕ) → IsAlike e.0 (by_status shown hold now status e).0
status_alike shown hold now status e = grind (arith, common_steps)

pub renewed_alike : (shown : Shown) (hold now : ℕ) (e : Link × ℕ) → IsAlike e.0 (renewed shown hold now e).0
renewed_alike shown hold now e = grind (arith, common_steps, alike_twice, status_alike, trimmed_alike)

pub follows_alike : (rule : Admit) (now : ℕ) (a b : Link) → IsAlike a b → FollowsQuality rule now a → FollowsQuality rule now b
follows_alike rule now a b like h = grind (arith, common_steps)

-- The links of an interface

-- links that have what quality asks stay as they are
pub admit_stays : (settings : RouterSettings) (i now : ℕ) (o : Option (Link × ℕ)) → ((e : Link × ℕ) → o ≡ Some e → FollowsQuality (rule_of settings i) now e.0) → admit_on settings i now o ≡ o
admit_stays settings i now o follows = grind (arith, common_steps, admitted_again)

-- and those that stay have it
pub follows_if_stays : (settings : RouterSettings) (i now : ℕ) (o : Option (Link × ℕ)) (e : Link × ℕ) → admit_on settings i now o ≡ o → o ≡ Some e → FollowsQuality (rule_of settings i) now e.0
follows_if_stays settings i now o e stays at = grind (arith, common_steps, none_not, follows_same, same_some)

-- what a link was before
pub admit_from : (settings : RouterSettings) (i now : ℕ) (o : Option (Link × ℕ)) (e : Link × ℕ) → admit_on settings i now o ≡ Some e → (f : Link × ℕ) × (o ≡ Some f) × (e ≡ admitted (rule_of settings i) settings.times.link_hold now f)
admit_from settings i now None e h = none_not refl h
admit_from settings i now (Some f) e h = (f, refl, sym (same_some refl h))

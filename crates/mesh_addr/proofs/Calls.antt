-- The laws of a block, as callers of the reader see them.
use Rattle.mesh_addr.proofs.Common.{◌≡◌, ℕ, ◌+◌, ◌-◌, ◌<◌, ◌≤◌, List, ◌++◌, length, Result, Ok, sym, ap, subst, arith, IfOk, IfErr, MatchResult, slice_range, MatchResult-weaker, Refusal, Gives, IfRefused, refuse, front_is, RawAddr, SpellsBlock, BlockFault, block_at}
use Rattle.mesh_atoms.specs.declared.refusal.DecodeFault.{DecodeFault}
use Rattle.mesh_atoms.proofs.Given.{given, given_so}
use Rattle.mesh_addr.proofs.Taking.{IsBlock, IsFault, block_takes}
use Rattle.mesh_addr.proofs.ReadAgain.{block_again}
use Rattle.mesh_addr.proofs.Refusing.{block_fault}

abbrev pub IsRead : ℕ → List ℕ → ℕ → ℕ → List RawAddr × ℕ → Type 0
IsRead width s at end x = (at < x.1) × (x.1 ≤ end) × SpellsBlock width x.0 (slice_range s at x.1)

abbrev pub IsRefused : ℕ → List ℕ → ℕ → ℕ → Refusal → Type 0
IsRefused width s at end e = (at ≤ e.place) × BlockFault width (slice_range s at end) (e.place - at) e.reason

block_told : (width : ℕ) (s : List ℕ) (at end : ℕ) → at ≤ end → end ≤ length s → MatchResult (block_at s at end width) (IsRead width s at end) (IsRefused width s at end)
block_told width s at end le fits = MatchResult-weaker (block_at s at end width) {P = IsBlock width s at end} {P' = IsRead width s at end} {Q = IsFault width s at end} {Q' = IsRefused width s at end} (block_takes width s at end fits)
    (λ x h. let text : slice_range s at x.1 ≡ h.0 = subst (λ (n : ℕ). slice_range s at n ≡ h.0) (sym h.2.len) (front_is s at h.0 (slice_range s x.1 end) end (record { parts = h.2.parts; at_end = le; fits = fits })) in
    (omega (arith, h.2.len, ap length h.1.whole), h.2.within, rw text h.1))
    (λ e h. let back : at + h.0 - at ≡ h.0 = omega arith in rw (h.3, back) (omega arith, h.2))

-- what a call gave is spelled, or is the first fault
pub spelled_or_refused : {X : Type 0} (view : X → List RawAddr × ℕ) (r : Result X DecodeFault) (s : List ℕ) (at end width : ℕ) → Gives view r (block_at s at end width) → at ≤ end → end ≤ length s → IfOk r (λ x. IsRead width s at end (view x)) × IfErr r (IfRefused (IsRefused width s at end))
spelled_or_refused view r s at end width gives le fits = given view (IsRead width s at end) (IsRefused width s at end) r (block_at s at end width) gives (block_told width s at end le fits)

-- what is spelled so is given
pub only : {X : Type 0} (view : X → List RawAddr × ℕ) (r : Result X DecodeFault) (s : List ℕ) (at end width : ℕ) → Gives view r (block_at s at end width) → at ≤ end → end ≤ length s → (addrs : List RawAddr) (text rest : List ℕ) → SpellsBlock width addrs text → slice_range s at end ≡ text ++ rest → Gives view r (Ok (addrs, at + length text))
only view r s at end width gives le fits addrs text rest h e = given_so view r _ _ gives (block_again s at width addrs text rest end h (record { parts = e; at_end = le; fits = fits }))

-- what has its first fault there is refused so
pub first : {X : Type 0} (view : X → List RawAddr × ℕ) (r : Result X DecodeFault) (s : List ℕ) (at end width : ℕ) → Gives view r (block_at s at end width) → at ≤ end → end ≤ length s → (place reason : ℕ) → BlockFault width (slice_range s at end) place reason → Gives view r (refuse (at + place) reason)
first view r s at end width gives le fits place reason f = given_so view r _ _ gives (block_fault s end fits width at place reason le f)

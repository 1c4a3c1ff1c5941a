-- What readers take of a frame, and that they take again what stands there.
use Rattle.mesh_atoms.proofs.Common.{common_steps, ◌≡◌, ℕ, suc, ◌+◌, ◌-◌, ◌<◌, ◌≤◌, Bool, true, false, cond, ltb, List, [], ◌∷◌, ◌++◌, length, get_or, take, drop, Result, Ok, refl, sym, ap, subst, ◌∙◌, arith, append_assoc, drop-cons, MatchResult, slice_range, length-append, ltb-false, ltb-true, le-ltb, lt-ltb, length-drop, length-take, take_at, drop_at, drop_split, Refusal, ◌>>=◌, refuse, octet_at, short_at, piece_at}
use Rattle.std.proofs.Math.Seq.{take-append-add}
use Rattle.mesh_atoms.specs.Grammar.{SpellsShort}

-- ---- what holds of a reading: of what is read, or of the fault

pub meets_bind : {A B : Type 0} (r : Result A Refusal) (f : A → Result B Refusal) (P : A → Type 0) (P' : B → Type 0) (Q Q' : Refusal → Type 0) → MatchResult r P Q → ((e : Refusal) → Q e → Q' e) → ((x : A) → P x → MatchResult (f x) P' Q') → MatchResult (r >>= f) P' Q'
meets_bind r f P P' Q Q' h q k = grind (arith, common_steps)

pub meets_if : {A : Type 0} (b : Bool) (x y : Result A Refusal) (P : A → Type 0) (Q : Refusal → Type 0) → (b ≡ true → MatchResult x P Q) → (b ≡ false → MatchResult y P Q) → MatchResult (cond b x y) P Q
meets_if b x y P Q h k = grind (arith, common_steps)

-- ---- the octets between two places

pub range_length : (s : List ℕ) (at end : ℕ) → end ≤ length s → length (slice_range s at end) ≡ end - at
range_length s at end le = omega (arith, length-take (end - at) (drop at s), length-drop at s)

pub range_cons : (s : List ℕ) (at end : ℕ) → at < end → end ≤ length s → slice_range s at end ≡ get_or s at 0 ∷ slice_range s (at + 1) end
range_cons s at end lt le =
    let one : suc at ≡ at + 1 = omega arith in
    let first : drop at s ≡ get_or s at 0 ∷ drop (at + 1) s = subst (λ (n : ℕ). drop at s ≡ get_or s at 0 ∷ drop n s) one (drop-cons s at 0 (omega arith)) in
    let more : end - at ≡ suc (end - (at + 1)) = omega arith in
    rw (first, more) refl

pub range_nil : (s : List ℕ) (at end : ℕ) → end ≤ at → slice_range s at end ≡ []
range_nil s at end le = let none : end - at ≡ 0 = omega arith in rw none refl

pub range_split : (s : List ℕ) (at n end : ℕ) → at + n ≤ end → end ≤ length s → slice_range s at end ≡ slice_range s at (at + n) ++ slice_range s (at + n) end
range_split s at n end le fits =
    let front : List ℕ = slice_range s at (at + n) in
    let size : end - at ≡ length front + (end - (at + n)) = omega (arith, range_length s at (at + n) (omega arith)) in
    ap (λ (l : List ℕ). take (end - at) l) (drop_split s at (at + n) (omega arith))
    ∙ ap (λ (k : ℕ). take k (front ++ drop (at + n) s)) size
    ∙ take-append-add front (drop (at + n) s) (end - (at + n))

cons_is : (a b : ℕ) (k l : List ℕ) → a ∷ k ≡ b ∷ l → (a ≡ b) × (k ≡ l)
cons_is a b k l e = (cc, cc)

-- the octet that stands there, and what stands after it
pub next_is : (s : List ℕ) (at end x : ℕ) (rest : List ℕ) → end ≤ length s → slice_range s at end ≡ x ∷ rest → (at < end) × (get_or s at 0 ≡ x) × (slice_range s (at + 1) end ≡ rest)
next_is s at end x rest le e =
    let some : length (slice_range s at end) ≡ suc (length rest) = ap length e in
    let lt : at < end = omega (arith, range_length s at end le) in
    let both = cons_is (get_or s at 0) x (slice_range s (at + 1) end) rest (sym (range_cons s at end lt le) ∙ e) in
    (lt, both.0, both.1)

-- the text that stands there, and what stands after it
pub text_is : (s : List ℕ) (at end : ℕ) (text rest : List ℕ) → at ≤ end → end ≤ length s → slice_range s at end ≡ text ++ rest → (at + length text ≤ end) × (slice_range s at (at + length text) ≡ text) × (slice_range s (at + length text) end ≡ rest)
text_is s at end text rest le fits e =
    let n : ℕ = length text in
    let all : length (slice_range s at end) ≡ length text + length rest = ap length e ∙ length-append text rest in
    let within : at + n ≤ end = omega (arith, range_length s at end fits) in
    let front : List ℕ = slice_range s at (at + n) in
    let back : List ℕ = slice_range s (at + n) end in
    let size : length front ≡ n = omega (arith, range_length s at (at + n) (omega arith)) in
    let same : front ++ back ≡ text ++ rest = sym (range_split s at n end within fits) ∙ e in (
      within,
      sym (take_at front back n size) ∙ ap (λ (l : List ℕ). take n l) same ∙ take_at text rest n refl,
      sym (drop_at front back n size) ∙ ap (λ (l : List ℕ). drop n l) same ∙ drop_at text rest n refl,
    )

-- ---- what a reader took: the text between the places

pub record Takes (s : List ℕ) (at : ℕ) (text : List ℕ) (after end : ℕ) : Type 0 where
  pub parts : slice_range s at end ≡ text ++ slice_range s after end
  pub within : after ≤ end
  pub len : after ≡ at + length text

pub takes_none : (s : List ℕ) (at end : ℕ) → at ≤ end → Takes s at [] at end
takes_none s at end le = record { parts = refl; within = le; len = omega arith }

pub takes_both : (s : List ℕ) (at : ℕ) (front : List ℕ) (place : ℕ) (back : List ℕ) (after end : ℕ) → Takes s at front place end → Takes s place back after end → Takes s at (front ++ back) after end
takes_both s at front place back after end h k = grind (arith, common_steps)

pub takes_range : (s : List ℕ) (at n end : ℕ) → at + n ≤ end → end ≤ length s → Takes s at (slice_range s at (at + n)) (at + n) end
takes_range s at n end le fits = record { parts = range_split s at n end le fits; within = le; len = omega (arith, range_length s at (at + n) (omega arith)) }

-- ---- octets and numbers

pub octet_takes : (reason : ℕ) (s : List ℕ) (at end : ℕ) → end ≤ length s → MatchResult (octet_at reason s at end) (λ x. Takes s at (x.0 ∷ []) x.1 end) (λ e. (e ≡ record { place = at; reason = reason }) × (slice_range s at end ≡ []))
octet_takes reason s at end le = grind (arith, common_steps, meets_if, range_cons, range_nil)

pub octet_again : (reason : ℕ) (s : List ℕ) (at end x : ℕ) (rest : List ℕ) → end ≤ length s → slice_range s at end ≡ x ∷ rest → octet_at reason s at end ≡ Ok (x, at + 1)
octet_again reason s at end x rest le e =
    let there = next_is s at end x rest le e in
    rw (lt-ltb at end there.0, there.1) refl

pub octet_cut : (reason : ℕ) (s : List ℕ) (at end : ℕ) → end ≤ length s → slice_range s at end ≡ [] → octet_at reason s at end ≡ refuse at reason
octet_cut reason s at end le e = grind (arith, common_steps, range_length)

pub short_takes : (reason : ℕ) (s : List ℕ) (at end : ℕ) → end ≤ length s → MatchResult (short_at reason s at end) (λ x. (text : List ℕ) × SpellsShort x.0 text × Takes s at text x.1 end) (λ e. (e ≡ record { place = at; reason = reason }) × (length (slice_range s at end) < 2))
short_takes reason s at end le = meets_if (ltb (at + 1) end) _ _ (λ (x : ℕ × ℕ). (text : List ℕ) × SpellsShort x.0 text × Takes s at text x.1 end) (λ e. (e ≡ record { place = at; reason = reason }) × (length (slice_range s at end) < 2))
    (λ p. let lt : at + 1 < end = ltb-true _ _ p in
    let two : at + 1 + 1 ≡ at + 2 = omega arith in (
      get_or s at 0 ∷ (get_or s (at + 1) 0 ∷ []),
      (get_or s at 0, get_or s (at + 1) 0, refl, refl),
      record {
        parts = range_cons s at end (omega arith) le ∙ ap (λ (l : List ℕ). get_or s at 0 ∷ l) (range_cons s (at + 1) end lt le ∙ ap (λ (n : ℕ). get_or s (at + 1) 0 ∷ slice_range s n end) two);
        within = omega arith;
        len = refl;
      },
    ))
    (λ p. (refl, omega (arith, ltb-false _ _ p, range_length s at end le)))

pub short_again : (reason : ℕ) (s : List ℕ) (at end n : ℕ) (text rest : List ℕ) → end ≤ length s → SpellsShort n text → slice_range s at end ≡ text ++ rest → short_at reason s at end ≡ Ok (n, at + 2)
short_again reason s at end n text rest le h e =
    let parts : slice_range s at end ≡ h.0 ∷ (h.1 ∷ rest) = e ∙ ap (λ (l : List ℕ). l ++ rest) h.3 in
    let first = next_is s at end h.0 (h.1 ∷ rest) le parts in
    let second = next_is s (at + 1) end h.1 rest le first.2 in
    rw (lt-ltb (at + 1) end second.0, first.1, second.1, ← h.2) refl

pub short_cut : (reason : ℕ) (s : List ℕ) (at end : ℕ) → end ≤ length s → length (slice_range s at end) < 2 → short_at reason s at end ≡ refuse at reason
short_cut reason s at end le cut = rw (le-ltb (at + 1) end (omega (arith, range_length s at end le))) refl

pub two_long : (n : ℕ) (text : List ℕ) → SpellsShort n text → length text ≡ 2
two_long n text h = ap length h.3

-- ---- a text that stands at a place

-- `text` stands at `at`, and `rest` behind it up to `end`
pub record Stands (s : List ℕ) (at : ℕ) (text rest : List ℕ) (end : ℕ) : Type 0 where
  pub parts : slice_range s at end ≡ text ++ rest
  pub at_end : at ≤ end
  pub fits : end ≤ length s

-- what stands behind the text, and how far
pub behind : (s : List ℕ) (at : ℕ) (text rest : List ℕ) (end : ℕ) → Stands s at text rest end → (slice_range s (at + length text) end ≡ rest) × (at + length text + length rest ≡ end)
behind s at text rest end h =
    let t = text_is s at end text rest h.at_end h.fits h.parts in
    (t.2, omega (arith, t.0, ap length t.2, range_length s (at + length text) end h.fits))

pub front_is : (s : List ℕ) (at : ℕ) (text rest : List ℕ) (end : ℕ) → Stands s at text rest end → slice_range s at (at + length text) ≡ text
front_is s at text rest end h = (text_is s at end text rest h.at_end h.fits h.parts).1

-- the first part of a text that stands there, and the part behind it
pub stands_first : (s : List ℕ) (at : ℕ) (text more rest : List ℕ) (end : ℕ) → Stands s at (text ++ more) rest end → Stands s at text (more ++ rest) end
stands_first s at text more rest end h = record { parts = h.parts ∙ append_assoc text more rest; at_end = h.at_end; fits = h.fits }

pub stands_next : (s : List ℕ) (at : ℕ) (text more rest : List ℕ) (end : ℕ) → Stands s at (text ++ more) rest end → Stands s (at + length text) more rest end
stands_next s at text more rest end h =
    let b = behind s at text (more ++ rest) end (stands_first s at text more rest end h) in
    record { parts = b.0; at_end = omega (arith, b.1); fits = h.fits }

-- a fault of a part that begins at `at`
abbrev pub Faulty : ℕ → (ℕ → ℕ → Type 0) → Refusal → Type 0
Faulty at Fault e = (place : ℕ) × (reason : ℕ) × Fault place reason × (e ≡ record { place = at + place; reason = reason })

-- ---- pieces

pub piece_takes : (reason : ℕ) (s : List ℕ) (at end len : ℕ) → at ≤ end → end ≤ length s → MatchResult (piece_at reason s at end len) (λ x. (length x.0 ≡ len) × Takes s at x.0 x.1 end) (λ e. (e ≡ record { place = at; reason = reason }) × (length (slice_range s at end) < len))
piece_takes reason s at end len le fits = grind (arith, common_steps, range_length, meets_if, takes_range)

pub piece_again : (reason : ℕ) (s : List ℕ) (at : ℕ) (text rest : List ℕ) (end : ℕ) → Stands s at text rest end → piece_at reason s at end (length text) ≡ Ok (text, at + length text)
piece_again reason s at text rest end h =
    rw (le-ltb (end - at) (length text) (omega (arith, (behind s at text rest end h).1)), front_is s at text rest end h) refl

pub piece_cut : (reason : ℕ) (s : List ℕ) (at end len : ℕ) → end ≤ length s → length (slice_range s at end) < len → piece_at reason s at end len ≡ refuse at reason
piece_cut reason s at end len fits short = rw (lt-ltb (end - at) len (omega (arith, range_length s at end fits))) refl

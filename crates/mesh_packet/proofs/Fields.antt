-- The fields of a fixed size that a flag says are there: read, spelled and cut off.
use Rattle.mesh_packet.proofs.Common.{common_steps, ◌≡◌, ℕ, ◌+◌, ◌*◌, ◌<◌, ◌≤◌, Bool, true, false, List, [], ◌∷◌, length, Option, Some, None, Ok, refl, sym, ap, subst, ◌∙◌, arith, MatchResult, slice_range, MatchResult-weaker, Refusal, SpellsShort, Reading, refuse, octet_at, short_at, piece_at, meets_bind, Takes, takes_none, Stands, octet_takes, octet_again, octet_cut, short_takes, short_again, short_cut, two_long, piece_takes, piece_again, piece_cut, single_of, RawAddr, padded, SpellsIf, SpellsOctet, SpellsNumber, SpellsAddress, SpellsOriginator, size_if, if_flagged, octet_if, short_if, address_at, originator_if}

-- the fault of a field that is cut off
abbrev pub IsCut : List ℕ → ℕ → ℕ → ℕ → Refusal → Type 0
IsCut s at end size e = (e ≡ record { place = at; reason = 1 }) × (length (slice_range s at end) < size)

-- what a reader took, and what it spells
abbrev pub Took : {A : Type 0} → List ℕ → ℕ → ℕ → (A → List ℕ → Type 0) → A × ℕ → Type 0
Took s at end Says x = (text : List ℕ) × Says x.0 text × Takes s at text x.1 end

-- What the reader of a field of that size keeps: it takes what is spelled, is refused only where it is cut off, takes again
-- what is spelled, and any octets of that size spell some value.
pub record IsField {A : Type 0} (read : List ℕ → ℕ → ℕ → Reading A) (Says : A → List ℕ → Type 0) (size : ℕ) : Type 0 where
  pub takes : (s : List ℕ) (at end : ℕ) → at ≤ end → end ≤ length s → MatchResult (read s at end) (Took s at end Says) (IsCut s at end size)
  pub again : (s : List ℕ) (at : ℕ) (x : A) (text rest : List ℕ) (end : ℕ) → Stands s at text rest end → Says x text → read s at end ≡ Ok (x, at + length text)
  pub cut : (s : List ℕ) (at end : ℕ) → end ≤ length s → length (slice_range s at end) < size → read s at end ≡ refuse at 1
  pub long : (x : A) (text : List ℕ) → Says x text → length text ≡ size
  pub some : (text : List ℕ) → length text ≡ size → (x : A) × Says x text

-- what is read so is read so where it is flagged
pub flagged : {A : Type 0} (set : Bool) (read : List ℕ → ℕ → ℕ → Reading A) (Says : A → List ℕ → Type 0) (size : ℕ) → IsField read Says size → IsField (λ s at end. if_flagged set at (read s at end)) (SpellsIf set Says) (size_if set size)
unfolding if_flagged
flagged {A} true read Says size field = record {
  takes = λ s at end le fits. meets_bind (read s at end) _ _ (Took s at end (SpellsIf true Says)) _ (IsCut s at end size) (field.takes s at end le fits) (λ e h. h) (λ x t. t);
  again = again;
  cut = λ s at end fits short. rw (field.cut s at end fits short) refl;
  long = long;
  some = λ text e. let x = field.some text e in (Some x.0, x.1);
} where
  again : (s : List ℕ) (at : ℕ) (x : Option A) (text rest : List ℕ) (end : ℕ) → Stands s at text rest end → SpellsIf true Says x text → if_flagged true at (read s at end) ≡ Ok (x, at + length text)
  again s at (Some n) text rest end h e = rw (field.again s at n text rest end h e) refl
  again s at None text rest end h e = absurd e

  long : (x : Option A) (text : List ℕ) → SpellsIf true Says x text → length text ≡ size
  long (Some n) text e = field.long n text e
  long None text e = absurd e
flagged {A} false read Says size field = grind (arith, common_steps, takes_none)

octet : IsField (octet_at 1) (λ n bytes. bytes ≡ n ∷ []) 1
octet = record {
  takes = λ s at end le fits. MatchResult-weaker (octet_at 1 s at end) {P' = Took s at end (λ n bytes. bytes ≡ n ∷ [])} {Q' = IsCut s at end 1} (octet_takes 1 s at end fits) (λ x t. (x.0 ∷ [], refl, t)) (λ e h. (h.0, omega (arith, ap length h.1)));
  again = λ s at n text rest end h e. rw (octet_again 1 s at end n rest h.fits (rw e at h.parts), e) refl;
  cut = λ s at end fits short. octet_cut 1 s at end fits (none (slice_range s at end) short);
  long = λ n text e. ap length e;
  some = single_of;
} where
  none : (l : List ℕ) → length l < 1 → l ≡ []
  none [] h = refl
  none (x ∷ l) h = absurd (omega arith)

pub octet_field : (set : Bool) → IsField (octet_if set) (SpellsOctet set) (size_if set 1)
octet_field set = flagged set (octet_at 1) (λ n bytes. bytes ≡ n ∷ []) 1 octet

short : IsField (short_at 1) SpellsShort 2
short = record {
  takes = λ s at end le fits. short_takes 1 s at end fits;
  again = λ s at n text rest end h e. rw (short_again 1 s at end n text rest h.fits e h.parts, two_long n text e) refl;
  cut = λ s at end fits cut. short_cut 1 s at end fits cut;
  long = two_long;
  some = some;
} where
  some : (text : List ℕ) → length text ≡ 2 → (n : ℕ) × SpellsShort n text
  some (a ∷ b ∷ []) e = (256 * a + b, (a, b, refl, refl))
  some [] e = absurd (omega arith)
  some (a ∷ []) e = absurd (omega arith)
  some (a ∷ b ∷ c ∷ l) e = absurd (omega arith)

pub number_field : (set : Bool) → IsField (short_if set) (SpellsNumber set) (size_if set 2)
number_field set = flagged set (short_at 1) SpellsShort 2 short

same : (a : RawAddr) (octets : List ℕ) (prefix : ℕ) → a.octets ≡ octets → a.prefix ≡ prefix → record { octets = octets; prefix = prefix } ≡ a
same a octets prefix h k = ap (λ (l : List ℕ). record { octets = l; prefix = prefix }) (sym h) ∙ ap (λ (n : ℕ). record { octets = a.octets; prefix = n }) (sym k)

address : (width : ℕ) → IsField (address_at width) (SpellsAddress width) width
unfolding address_at
address width = record {
  takes = λ s at end le fits. meets_bind (piece_at 1 s at end width) _ _ (Took s at end (SpellsAddress width)) _ (IsCut s at end width) (piece_takes 1 s at end width le fits) (λ e h. h) (λ x t. (x.0, (t.0, refl, refl), t.1));
  again = again;
  cut = λ s at end fits cut. rw (piece_cut 1 s at end width fits cut) refl;
  long = λ a text e. e.0;
  some = λ text e. (record { octets = padded text; prefix = 8 * width }, (e, refl, refl));
} where
  again : (s : List ℕ) (at : ℕ) (a : RawAddr) (text rest : List ℕ) (end : ℕ) → Stands s at text rest end → SpellsAddress width a text → address_at width s at end ≡ Ok (a, at + length text)
  again s at a text rest end h e =
      let piece : piece_at 1 s at end width ≡ Ok (text, at + length text) = subst (λ (n : ℕ). piece_at 1 s at end n ≡ Ok (text, at + length text)) e.0 (piece_again 1 s at text rest end h) in
      rw piece (ap (λ (r : RawAddr). Ok (r, at + length text)) (same a (padded text) (8 * width) e.1 e.2))

pub originator_field : (set : Bool) (width : ℕ) → IsField (originator_if set width) (SpellsOriginator set width) (size_if set width)
originator_field set width = flagged set (address_at width) (SpellsAddress width) width (address width)

-- Addresses are read back from their texts.
use Rattle.mesh_replay.proofs.Common.{common_steps, ◌≡◌, ℕ, zero, suc, ◌+◌, ◌-◌, ◌<◌, ◌^◌, true, false, Bool, eqb, List, [], ◌∷◌, ◌++◌, length, length-append, take, drop, refl, sym, ap, ◌∙◌, subst, arith, append_assoc, codes, decimal, Some, None, Option, below_more, All, ◌==◌, ◌&&◌, slice_range, slice_index, append-nil, position_from, cases_Bool, eqb-true, lt-ltb, eq-eqb, and_parts as both, drop_at, take_all, Addr4, number_of, cut, dotted_of, address_of, dotted, spaced, relays_text, All-head, All-tail, contains_none, same_relays}
use Rattle.std.specs.Fmt.{digits}
use Rattle.std.proofs.lemmas.Iterator.Adapters.{position_from-zero}
use Rattle.mesh_texts.proofs.Cuts.{lacks, lacks_rest, not_here}
use Rattle.mesh_texts.proofs.Marked.{decimal_lacks, dotted_lacks}
use Rattle.mesh_texts.proofs.RouteLines.{in_order, same_dotted}

-- ---- Addresses are read back from their texts.

-- ---- numbers

abbrev is_number : ℕ → Option ℕ → Bool
is_number n None = false
is_number n (Some m) = m == n

number_is : (n : ℕ) (read : Option ℕ) → is_number n read ≡ true → read ≡ Some n
number_is n read e = grind (arith, common_steps)

-- each of so many numbers is read back
abbrev are_read : ℕ → Bool
are_read zero = true
are_read (suc n) = is_number n (number_of 255 (decimal n)) && are_read n

all_are_read : are_read 256 ≡ true
unfolding digits
all_are_read = refl

read_below : (k n : ℕ) → are_read k ≡ true → n < k → number_of 255 (decimal n) ≡ Some n
read_below zero n are less = absurd (omega (arith, less))
read_below (suc k) n are less =
    let (here, more) = both (is_number k (number_of 255 (decimal k))) (are_read k) are in
    below_more (λ m. number_of 255 (decimal m) ≡ Some m) k (λ m inside. read_below k m more inside) (number_is k (number_of 255 (decimal k)) here) n (omega (arith, less))

number_read : (n : ℕ) → n < 256 → number_of 255 (decimal n) ≡ Some n
number_read n small = read_below 256 n all_are_read small

-- ---- texts that are cut

some_same : (m n : ℕ) → m ≡ n → let one : Option ℕ = Some m in let other : Option ℕ = Some n in one ≡ other
some_same m n e = ap (λ (k : ℕ). let some : Option ℕ = Some k in some) e

first_mark : (mark i : ℕ) (a x : List ℕ) → lacks mark a ≡ true → position_from (λ octet. octet == mark) i (a ++ mark ∷ x) ≡ Some (i + length a)
first_mark mark i [] x none = rw (eq-eqb mark mark refl) (some_same i (i + 0) (omega arith))
first_mark mark i (c ∷ a) x none = grind (arith, common_steps, not_here, lacks_rest, some_same, (first_mark mark (i + 1) a x (lacks_rest mark c a none) ∙ some_same ((i + 1) + length a) (i + suc (length a)) (omega arith)))

behind_mark : (mark k : ℕ) (a x : List ℕ) → k ≡ length a + 1 → slice_range (a ++ mark ∷ x) k (length (a ++ mark ∷ x)) ≡ x
behind_mark mark k a x place =
    let whole : a ++ mark ∷ x ≡ (a ++ mark ∷ []) ++ x = sym (append_assoc a (mark ∷ []) x) in
    let long : length (a ++ mark ∷ []) ≡ k = (let h = length-append a (mark ∷ []) in omega (arith, h, place)) in
    let rest : drop k (a ++ mark ∷ x) ≡ x = ap (λ (l : List ℕ). drop k l) whole ∙ drop_at (a ++ mark ∷ []) x k long in
    ap (λ (l : List ℕ). take (length (a ++ mark ∷ x) - k) l) rest ∙ take_all (length (a ++ mark ∷ x) - k) x (let h = length-append a (mark ∷ x) in omega (arith, h, place))

cut_first : (mark : ℕ) (a x : List ℕ) → lacks mark a ≡ true → cut mark (a ++ mark ∷ x) ≡ Some (a, x)
cut_first mark a x none = grind (arith, common_steps, behind_mark, position_from-zero, first_mark)

-- ---- addresses

dotted_read : (a : Addr4) → a.0 < 2 ^ 32 → dotted_of (dotted a) ≡ Some a.0
dotted_read a small = grind (arith, common_steps, cut_first, decimal_lacks, in_order, number_read, some_same)

-- one that isn't 0.0.0.0
pub address_read : (a : Addr4) → a.0 < 2 ^ 32 → 0 < a.0 → address_of (dotted a) ≡ Some a
address_read a small some = rw (dotted_read a small, lt-ltb 0 a.0 some) refl

zero_text : dotted (record { 0 = 0 }) ≡ codes "0.0.0.0"
unfolding dotted digits
zero_text = refl

-- and that
pub zero_read : (a : Addr4) → a.0 < 2 ^ 32 → dotted a ≡ codes "0.0.0.0" → a ≡ record { 0 = 0 }
zero_read a small is = same_dotted a (record { 0 = 0 }) small (is ∙ sym zero_text)

pub not_zero : (a : Addr4) → (dotted a ≡ codes "0.0.0.0" → ⊥) → 0 < a.0
not_zero a other = grind (arith, common_steps, cases_Bool, zero_text)

-- ---- the word that an address is

word_at : (w : List ℕ) (more : List Addr4) (k : ℕ) → lacks 32 w ≡ true → k < length (w ++ spaced more) → eqb (slice_index (w ++ spaced more) k) 32 ≡ true →
    ((j : ℕ) → j < k → eqb (slice_index (w ++ spaced more) j) 32 ≡ true → ⊥) → (take k (w ++ spaced more) ≡ w) × (drop k (w ++ spaced more) ≡ spaced more)
word_at [] [] k none within is first = absurd (omega (arith, within))
word_at [] (b ∷ more) zero none within is first = (refl, refl)
word_at [] (b ∷ more) (suc k) none within is first = absurd (first 0 (omega arith) refl)
word_at (c ∷ w) more zero none within is first = absurd (not_here 32 c w none (eqb-true c 32 is))
word_at (c ∷ w) more (suc k) none within is first =
    let (front, behind) = word_at w more k (lacks_rest 32 c w none) (omega (arith, within)) is (λ j less here. first (suc j) (omega (arith, less)) here) in
    (ap (λ (l : List ℕ). c ∷ l) front, behind)

word_whole : (w : List ℕ) (more : List Addr4) → ((j : ℕ) → j < length (w ++ spaced more) → eqb (slice_index (w ++ spaced more) j) 32 ≡ true → ⊥) → (w ++ spaced more ≡ w) × ([] ≡ spaced more)
word_whole w [] none = (append-nil w, refl)
word_whole [] (b ∷ more) none = absurd (none 0 (omega arith) refl)
word_whole (c ∷ w) (b ∷ more) none =
    let (front, behind) = word_whole w (b ∷ more) (λ j less here. none (suc j) (omega (arith, less)) here) in (ap (λ (l : List ℕ). c ∷ l) front, behind)

-- the same of a text that is so
pub word_before : (text : List ℕ) (a : Addr4) (more : List Addr4) (k : ℕ) → text ≡ dotted a ++ spaced more → k < length text → eqb (slice_index text k) 32 ≡ true →
    ((j : ℕ) → j < k → eqb (slice_index text j) 32 ≡ true → ⊥) → (take k text ≡ dotted a) × (drop k text ≡ spaced more)
word_before text a more k is =
    subst (λ (l : List ℕ). k < length l → eqb (slice_index l k) 32 ≡ true → ((j : ℕ) → j < k → eqb (slice_index l j) 32 ≡ true → ⊥) → (take k l ≡ dotted a) × (drop k l ≡ spaced more)) (sym is)
    (word_at (dotted a) more k (dotted_lacks 32 (omega arith) refl a))

pub word_alone : (text : List ℕ) (a : Addr4) (more : List Addr4) → text ≡ dotted a ++ spaced more → ((j : ℕ) → j < length text → eqb (slice_index text j) 32 ≡ true → ⊥) →
    (text ≡ dotted a) × ([] ≡ spaced more)
word_alone text a more is = grind (arith, common_steps, spaced, word_whole)

-- ---- Addresses that are read one after the other.

-- what is left of the addresses when some were read
pub record IsLeft (addrs read : List Addr4) (text : List ℕ) : Type 0 where
  pub more : List Addr4
  pub wide : All (λ a. a.0 < 2 ^ 32) more
  pub whole : addrs ≡ read ++ more
  pub text_is : text ≡ spaced more

-- one more is read
pub one_less : (addrs read : List Addr4) (text rest : List ℕ) (addr : Addr4) → IsLeft addrs read text → 0 < length text →
    ((a : Addr4) (more : List Addr4) → a.0 < 2 ^ 32 → text ≡ spaced (a ∷ more) → (addr ≡ a) × (rest ≡ spaced more)) → IsLeft addrs (read ++ addr ∷ []) rest
one_less addrs read text rest addr left some first = by left.more left.wide left.whole left.text_is where
  by : (more : List Addr4) → All (λ a. a.0 < 2 ^ 32) more → addrs ≡ read ++ more → text ≡ spaced more → IsLeft addrs (read ++ addr ∷ []) rest
  by [] wide whole is = absurd (let nothing : length text ≡ 0 = ap length is in omega (arith, some, nothing))
  by (a ∷ more) wide whole is =
      let (same, rest_is) = first a more (All-head (λ (b : Addr4). b.0 < 2 ^ 32) a more wide) is in
      record {
        more = more;
        wide = All-tail (λ (b : Addr4). b.0 < 2 ^ 32) a more wide;
        whole = whole ∙ (ap (λ (b : Addr4). read ++ b ∷ more) (sym same) ∙ sym (append_assoc read (addr ∷ []) more));
        text_is = rest_is;
      }

-- none can't be read
pub none_wrong : (addrs read : List Addr4) (text : List ℕ) → IsLeft addrs read text → 0 < length text →
    ((a : Addr4) (more : List Addr4) → a.0 < 2 ^ 32 → text ≡ spaced (a ∷ more) → ⊥) → ⊥
none_wrong addrs read text left some never = by left.more left.wide left.text_is where
  by : (more : List Addr4) → All (λ a. a.0 < 2 ^ 32) more → text ≡ spaced more → ⊥
  by [] wide is = let nothing : length text ≡ 0 = ap length is in omega (arith, some, nothing)
  by (a ∷ more) wide is = never a more (All-head (λ (b : Addr4). b.0 < 2 ^ 32) a more wide) is

-- all are read
pub none_left : (addrs read : List Addr4) (text : List ℕ) → IsLeft addrs read text → length text ≡ 0 → read ≡ addrs
none_left addrs read text left nothing = by left.more left.whole left.text_is where
  by : (more : List Addr4) → addrs ≡ read ++ more → text ≡ spaced more → read ≡ addrs
  by [] whole is = sym (append-nil read) ∙ sym whole
  by (a ∷ more) whole is = absurd (let some : length text ≡ suc (length (dotted a ++ spaced more)) = ap length is in omega (arith, nothing, some))

-- ---- texts of relays

pub none_text : relays_text [] ≡ codes " none"
unfolding relays_text
none_text = refl

pub none_alone : (relays : List Addr4) → relays_text relays ≡ codes " none" → [] ≡ relays
none_alone relays is = same_relays [] relays (λ a has. absurd (contains_none a has)) (none_text ∙ sym is)

pub spaced_text : (relays : List Addr4) (text : List ℕ) → relays_text relays ≡ text → (text ≡ codes " none" → ⊥) → text ≡ spaced relays
unfolding relays_text
spaced_text relays text is other = grind (arith, common_steps)

-- ---- texts that are empty, or aren't

pub has_octets : (b : Bool) (n : ℕ) → b ≡ (n == 0) → b ≡ false → 0 < n
has_octets b n e none = grind (arith, common_steps)

pub has_none : (b : Bool) (n : ℕ) → b ≡ (n == 0) → b ≡ true → n ≡ 0
has_none b n e full = eqb-true n 0 (sym e ∙ full)

-- The TLV of a run says of each address what its line says.
use Rattle.mesh_wire.proofs.Common.{common_steps, ◌≡◌, ℕ, zero, suc, ◌+◌, ◌-◌, ◌*◌, ◌/◌, ◌%◌, ◌<◌, ◌≤◌, inl, inr, List, [], ◌∷◌, ◌++◌, length, take, drop, refl, sym, ap, subst, ◌∙◌, arith, append_assoc, length-append, length-take, length-drop, append-nil, map, get_or, min, ◌==◌, slice_range, slice_get, Bool, true, false, not, cond, Option, Some, unwrap_or, flat_map, option_map, option_eq, mul-div_right, mul-mod_right, cases_Bool, cases_lt, cases_eq, eq-eqb, and_parts as both, and_right, not_from_true, take_all, map-append, take-append-drop, drop-drop, AddrTlv, AddrTlvFields, addr_fields, octet_if, covers_all, is_several, least_length, least_addr_tlv, least_value, HasEqualParts, AddressTlvKind, AddressRecord, is_wide, width_of, most_of, octet_pair, value_of, laid, column_text, share_of, value_at, has_part, leading, present, is_same_pair, have_pair, first_pair, run_of, Adds, IsColumnTlv, LaysFirst, Lays, LaysAll, IsBlock, AreBlocks, Block, BlockFields, fields_of_block, Contains-push, Contains-append_left, Contains-push_cases, flat_map-append, item_at as there, some_of}
use Rattle.mesh_tlv.specs.Least.{least_head}
use Rattle.mesh_wire.specs.Lines.{octets_of}
use Rattle.mesh_wire.proofs.Standing.{get_drop, get_take, taken}
use Rattle.mesh_wire.proofs.Texts.{take_more, between, column_wide, column_narrow}

-- ---- shares of a text

pub column_long : (c : AddressTlvKind) (lines : List AddressRecord) → length (column_text c lines) ≡ length lines * width_of c
column_long c lines = grind (arith, common_steps, cases_Bool, column_wide, column_narrow)

-- the list of one item at a place
one_at : {X : Type 0} (xs : List X) (k : ℕ) (x : X) → slice_get xs k ≡ Some x → take 1 (drop k xs) ≡ x ∷ []
one_at [] k x e = cc
one_at (y ∷ ys) zero x e = let same : y ≡ x = cc in ap (λ (z : _). z ∷ []) same
one_at (y ∷ ys) (suc k) x e = one_at ys k x e

take_long : {X : Type 0} (k : ℕ) (xs : List X) → k ≤ length xs → length (take k xs) ≡ k
take_long k xs le = omega (arith, length-take k xs)

-- a share of the text is what is laid for the line at that place
share_is : (c : AddressTlvKind) (lines : List AddressRecord) (n k : ℕ) (line : AddressRecord) → length lines ≡ n → k < n → slice_get lines k ≡ Some line → share_of n k (column_text c lines) ≡ laid c line
share_is c lines n k line long lt at =
    let text = column_text c lines in
    let w = width_of c in
    let total : length text ≡ n * w = column_long c lines ∙ ap (λ (m : ℕ). m * w) long in
    let size : length text / n ≡ w = ap (λ (m : ℕ). m / n) total ∙ mul-div_right w {m = n} (omega arith) in
    let from : length (column_text c (take k lines)) ≡ k * w = column_long c (take k lines) ∙ ap (λ (m : ℕ). m * w) (take_long k lines (omega arith)) in
    let to : length (column_text c (take (k + 1) lines)) ≡ (k + 1) * w = column_long c (take (k + 1) lines) ∙ ap (λ (m : ℕ). m * w) (take_long (k + 1) lines (omega arith)) in
    let part = between (laid c) k (k + 1) lines (omega arith) in
    let here : take ((k + 1) * w - k * w) (drop (k * w) text) ≡ column_text c (slice_range lines k (k + 1)) = rw (from, to) at part in
    let one : k + 1 - k ≡ 1 = omega arith in
    let single : slice_range lines k (k + 1) ≡ line ∷ [] = ap (λ (m : ℕ). take m (drop k lines)) one ∙ one_at lines k line at in
    rw size (here ∙ ap (column_text c) single ∙ append-nil (laid c line))

-- ---- runs of lines

pub leading_has : (c : AddressTlvKind) (lines : List AddressRecord) (k : ℕ) (line : AddressRecord) → k < leading c lines → slice_get lines k ≡ Some line → has_part c line ≡ true
leading_has c [] k line lt at = absurd (omega arith)
leading_has c (l ∷ lines) zero line lt at = grind (arith, common_steps, cases_Bool, leading)
leading_has c (l ∷ lines) (suc k) line lt at = elim (cases_Bool (has_part c l)) [
  | inl e ↦ let less : suc k < 1 + leading c lines = subst (λ (b : Bool). suc k < cond b (1 + leading c lines) 0) e lt in leading_has c lines k line (omega arith) at
  | inr e ↦ let none : suc k < 0 = subst (λ (b : Bool). suc k < cond b (1 + leading c lines) 0) e lt in absurd (omega arith)
]

pub leading_ends : (c : AddressTlvKind) (lines : List AddressRecord) (line : AddressRecord) → slice_get lines (leading c lines) ≡ Some line → has_part c line ≡ false
leading_ends c [] line at = cc
leading_ends c (l ∷ lines) line at = elim (cases_Bool (has_part c l)) [
  | inl e ↦
      let next : 1 + leading c lines ≡ suc (leading c lines) = omega arith in
      let from : slice_get (l ∷ lines) (1 + leading c lines) ≡ Some line = subst (λ (b : Bool). slice_get (l ∷ lines) (cond b (1 + leading c lines) 0) ≡ Some line) e at in
      let there : slice_get (l ∷ lines) (suc (leading c lines)) ≡ Some line = subst (λ (k : ℕ). slice_get (l ∷ lines) k ≡ Some line) next from in
      leading_ends c lines line there
  | inr e ↦
      let here : slice_get (l ∷ lines) 0 ≡ Some line = subst (λ (b : Bool). slice_get (l ∷ lines) (cond b (1 + leading c lines) 0) ≡ Some line) e at in
      let same : l ≡ line = cc in subst (λ (x : AddressRecord). has_part c x ≡ false) same e
]

pub leading_within : (c : AddressTlvKind) (lines : List AddressRecord) → leading c lines ≤ length lines
leading_within c [] = omega arith
leading_within c (l ∷ lines) = elim (has_part c l) as (λ (b : Bool). cond b (1 + leading c lines) 0 ≤ length (l ∷ lines)) [ true ↦ omega (arith, leading_within c lines) | false ↦ omega arith ]

present_append : (c : AddressTlvKind) (xs ys : List AddressRecord) → present c (xs ++ ys) ≡ present c xs + present c ys
present_append c [] ys = omega arith
present_append c (x ∷ xs) ys = omega (arith, present_append c xs ys)

pub present_leading : (c : AddressTlvKind) (lines : List AddressRecord) → present c (take (leading c lines) lines) ≡ leading c lines
present_leading c [] = refl
present_leading c (l ∷ lines) = elim (cases_Bool (has_part c l)) [
  | inl e ↦
      let one : ◌≡◌ {A = ℕ} (cond (has_part c l) 1 0) 1 = ap (λ (b : Bool). cond b 1 0) e in
      let next : suc (leading c lines) ≡ 1 + leading c lines = omega arith in
      let from : present c (take (suc (leading c lines)) (l ∷ lines)) ≡ suc (leading c lines) = omega (arith, one, present_leading c lines) in
      let there : present c (take (1 + leading c lines) (l ∷ lines)) ≡ 1 + leading c lines = subst (λ (k : ℕ). present c (take k (l ∷ lines)) ≡ k) next from in
      subst (λ (b : Bool). present c (take (cond b (1 + leading c lines) 0) (l ∷ lines)) ≡ cond b (1 + leading c lines) 0) (sym e) there
  | inr e ↦ subst (λ (b : Bool). present c (take (cond b (1 + leading c lines) 0) (l ∷ lines)) ≡ cond b (1 + leading c lines) 0) (sym e) refl
]

-- up to the end of a run, and to what is behind it
pub present_run : (c : AddressTlvKind) (lines : List AddressRecord) (first : ℕ) → present c (take first lines) + leading c (drop first lines) ≤ present c (take (first + leading c (drop first lines) + 1) lines)
present_run c lines first = grind (arith, common_steps, leading, take_more, present_append, present_leading)

-- ---- the TLV of a run

same_option : (a b : Option (ℕ × ℕ)) → option_eq is_same_pair a b ≡ true → a ≡ b
same_option a b e = grind (arith, common_steps)

all_there : (c : AddressTlvKind) (n : Option (ℕ × ℕ)) (lines : List AddressRecord) → have_pair c n lines ≡ true → (k : ℕ) (line : AddressRecord) → slice_get lines k ≡ Some line → octet_pair c line ≡ n
all_there c n [] e k line at = cc
all_there c n (l ∷ lines) e zero line at = grind (arith, common_steps, same_option)
all_there c n (l ∷ lines) e (suc k) line at = all_there c n lines (both (option_eq is_same_pair (octet_pair c l) n) (have_pair c n lines) e).1 k line at

-- lines that all have the part, of a block from a place on
pub record Stands (c : AddressTlvKind) (lines : List AddressRecord) (first : ℕ) (run : List AddressRecord) : Type 0 where
  pub some : 0 < length run
  pub fits : first + length run ≤ length lines
  pub at : (k : ℕ) → k < length run → slice_get lines (first + k) ≡ slice_get run k
  pub has : (k : ℕ) (line : AddressRecord) → slice_get run k ≡ Some line → has_part c line ≡ true

value_case : (a : Bool) (one each x : List ℕ) (share : List ℕ → List ℕ) → (a ≡ true → one ≡ x) → (a ≡ false → share each ≡ x) →
    cond (not a) (option_map share (Some (cond a one each))) (Some (cond a one each)) ≡ Some x
value_case a one each x share h k = grind (arith, common_steps)

fit_case : (a : Bool) (one each : List ℕ) (first last : ℕ) → length each % (last + 1 - first) ≡ 0 → HasEqualParts (not a) first last (Some (cond a one each))
fit_case a one each first last h = grind (arith, common_steps)

laid_pair : (c : AddressTlvKind) (line : AddressRecord) (n : ℕ × ℕ) → octet_pair c line ≡ Some n → laid c line ≡ octets_of c n
laid_pair c line n e = ap (λ (o : Option (ℕ × ℕ)). octets_of c (unwrap_or o (0, 0))) e

one_value : (c : AddressTlvKind) (run : List AddressRecord) (k : ℕ) (line : AddressRecord) (n : ℕ × ℕ) → have_pair c (first_pair c run) run ≡ true → slice_get run k ≡ Some line → octet_pair c line ≡ Some n → column_text c (take 1 run) ≡ octets_of c n
one_value c run k line n same at is = grind (arith, common_steps, laid, laid_pair, all_there)

pub is_run : (c : AddressTlvKind) (lines : List AddressRecord) (first : ℕ) (run : List AddressRecord) → Stands c lines first run → IsColumnTlv c lines (run_of c first run)
is_run c lines first run s = record {
  kind = refl;
  ext = refl;
  fit = (omega arith, omega (arith, s.some, s.fits), fit_case same (column_text c (take 1 run)) (column_text c run) first last even);
  says = says;
} where
  same : Bool
  same = have_pair c (first_pair c run) run

  last : ℕ
  last = first + (length run - 1)

  count : last + 1 - first ≡ length run
  count = omega (arith, s.some)

  even : length (column_text c run) % (last + 1 - first) ≡ 0
  even = rw count (ap (λ (m : ℕ). m % length run) (column_long c run) ∙ mul-mod_right (length run) (width_of c))

  says : (place : ℕ) → first ≤ place → place ≤ last → (line : AddressRecord) × (octets : List ℕ) × (slice_get lines place ≡ Some line) × (value_of c line ≡ Some octets) × (value_at (run_of c first run) place ≡ Some octets)
  says place low high =
      let k = place - first in
      let lt : k < length run = omega (arith, s.some) in
      let (line, at) = there run k lt in
      let back : first + k ≡ place = omega arith in
      let (n, is) = some_of (octet_pair c line) (s.has k line at) in
      let each : share_of (last + 1 - first) k (column_text c run) ≡ octets_of c n = rw count (share_is c run (length run) k line refl lt at ∙ laid_pair c line n is) in (
        line,
        octets_of c n,
        ap (slice_get lines) (sym back) ∙ s.at k lt ∙ at,
        ap (option_map (octets_of c)) is,
        value_case same (column_text c (take 1 run)) (column_text c run) (octets_of c n) (share_of (last + 1 - first) k) (λ e. one_value c run k line n e at is) (λ e. each),
      )

-- ---- how long it is

octet_short : (set : Bool) (x : ℕ) → length (octet_if set x) ≤ 1
octet_short set x = grind (arith, common_steps)

head_short : (count : ℕ) (tlv : AddrTlvFields) → tlv.ext ≡ 0 → length (least_head count tlv) ≤ 4
unfolding least_head
head_short count tlv e = grind (arith, common_steps, covers_all, octet_short)

-- a single index at most where one address is covered
several_none : (count first last : ℕ) → first ≡ last → is_several count first last ≡ false
several_none count first last e = and_right (not (covers_all count first last)) (not (first == last)) (not_from_true (first == last) (eq-eqb first last e))

head_one : (count : ℕ) (tlv : AddrTlvFields) → tlv.ext ≡ 0 → tlv.first ≡ tlv.last → length (least_head count tlv) ≤ 3
unfolding least_head
head_one count tlv e same = grind (arith, common_steps, covers_all, several_none, octet_short)

pub head_long : (count : ℕ) (tlv : AddrTlvFields) → length (least_head count tlv) ≤ 5
unfolding least_head
head_long count tlv = grind (arith, common_steps, covers_all, octet_short)

pub length_short : (n : ℕ) → length (least_length n) ≤ 1 + n / 256
length_short n = grind (arith, common_steps)

text_short : (c : AddressTlvKind) (lines : List AddressRecord) → length (column_text c lines) ≤ width_of c * length lines
text_short c lines = grind (arith, common_steps, cases_Bool, column_wide, column_narrow)

-- by whether values have two octets
wider : (b : Bool) (x m n : ℕ) → x ≤ cond b 2 1 * m → m ≤ n → x ≤ cond b 2 1 * n
wider b x m n le up = grind (arith, common_steps)

run_most : (b : Bool) (head len text n : ℕ) → 0 < n → n ≤ 255 → head ≤ 4 → (n ≡ 1 → head ≤ 3) → len ≤ 1 + text / 256 → text ≤ cond b 2 1 * n → head + (len + text) ≤ cond b 6 5 * n
run_most b head len text n some few le one short long = grind (arith, common_steps, cases_eq)

more_most : (b : Bool) (x m n : ℕ) → x ≤ cond b 6 5 * m → m ≤ n → x ≤ cond b 6 5 * n
more_most b x m n le up = grind (arith, common_steps)

both_most : (b : Bool) (x y m n k : ℕ) → x ≤ cond b 6 5 * m → y ≤ cond b 6 5 * n → m + n ≤ k → x + y ≤ cond b 6 5 * k
both_most b x y m n k le least up = grind (arith, common_steps)

pub run_short : (c : AddressTlvKind) (first : ℕ) (run : List AddressRecord) (count : ℕ) → 0 < length run → length run ≤ 255 → length (least_addr_tlv count (run_of c first run)) ≤ most_of c * length run
run_short c first run count some few =
    let tlv = run_of c first run in
    let text = cond (have_pair c (first_pair c run) run) (column_text c (take 1 run)) (column_text c run) in
    let long : length text ≤ width_of c * length run = elim (have_pair c (first_pair c run) run) as (λ (b : Bool). length (cond b (column_text c (take 1 run)) (column_text c run)) ≤ width_of c * length run) [
      | true ↦ wider (is_wide c) (length (column_text c (take 1 run))) (length (take 1 run)) (length run) (text_short c (take 1 run)) (omega (arith, length-take 1 run))
      | false ↦ text_short c run
    ] in
    let head = least_head count tlv in
    let whole : length (head ++ least_value tlv.value) ≡ length head + (length (least_length (length text)) + length text) =
    length-append head (least_value tlv.value) ∙ ap (λ (n : ℕ). length head + n) (length-append (least_length (length text)) text) in
    subst (λ (n : ℕ). n ≤ most_of c * length run) (sym whole)
    (run_most (is_wide c) (length head) (length (least_length (length text))) (length text) (length run) some few (head_short count tlv refl) (λ e. head_one count tlv refl (omega (arith, e))) (length_short (length text)) long)

-- ---- run after run

pub lays_none : (c : AddressTlvKind) (lines : List AddressRecord) → LaysFirst c lines 0 []
lays_none c lines = grind (arith, common_steps)

none_said : (c : AddressTlvKind) (line : AddressRecord) (octets : List ℕ) → has_part c line ≡ false → value_of c line ≡ Some octets → ⊥
none_said c line octets e is = grind (arith, common_steps)

-- past a line that hasn't the part
pub lays_skip : (c : AddressTlvKind) (lines : List AddressRecord) (first : ℕ) (tlvs : List AddrTlvFields) → leading c (drop first lines) ≡ 0 → LaysFirst c lines first tlvs → LaysFirst c lines (first + 0 + 1) tlvs
lays_skip c lines first tlvs none h = record {
  each = h.each;
  all = λ place line octets lt at is. elim (cases_lt place first) [
    | inl before ↦ h.all place line octets before at is
    | inr from ↦
        let here : slice_get (drop first lines) (leading c (drop first lines)) ≡ Some line =
        ap (slice_get (drop first lines)) none ∙ get_drop first lines 0 ∙ ap (slice_get lines) (omega arith) ∙ at in
        absurd (none_said c line octets (leading_ends c (drop first lines) line here) is)
  ];
  short = λ count.
      let p = present_run c lines first in
      more_most (is_wide c) (length (flat_map (least_addr_tlv count) tlvs)) (present c (take first lines)) (present c (take (first + 0 + 1) lines)) (h.short count) (omega (arith, rw none at p));
}

pub run_stands : (c : AddressTlvKind) (lines : List AddressRecord) (first n : ℕ) → first ≤ length lines → leading c (drop first lines) ≡ n → 0 < n → Stands c lines first (slice_range lines first (first + n))
run_stands c lines first n le is some = grind (arith, common_steps, leading_within, take_long, get_drop, get_take, taken, leading_has)

-- past a run and the line behind it
pub lays_run : (c : AddressTlvKind) (lines : List AddressRecord) (first n : ℕ) (tlvs : List AddrTlvFields) → first ≤ length lines → length lines ≤ 255 → leading c (drop first lines) ≡ n → 0 < n →
    LaysFirst c lines first tlvs → LaysFirst c lines (first + n + 1) (tlvs ++ run_of c first (slice_range lines first (first + n)) ∷ [])
lays_run c lines first n tlvs le few is some h = record {
  each = λ t has. elim (Contains-push_cases tlvs tlv t has) [
    | inl old ↦ h.each t old
    | inr e ↦ subst (IsColumnTlv c lines) e (is_run c lines first run s)
  ];
  all = λ place line octets lt at said. elim (cases_lt place first) [
    | inl before ↦ let (t, has, low, high) = h.all place line octets before at said in (t, Contains-append_left tlvs (tlv ∷ []) t has, low, high)
    | inr from ↦ elim (cases_lt place (first + n)) [
      | inl inside ↦ (tlv, Contains-push tlvs tlv, from, omega (arith, long, some))
      | inr behind ↦
          let here : slice_get (drop first lines) (leading c (drop first lines)) ≡ Some line =
          ap (slice_get (drop first lines)) is ∙ get_drop first lines n ∙ ap (slice_get lines) (omega arith) ∙ at in
          absurd (none_said c line octets (leading_ends c (drop first lines) line here) said)
    ]
  ];
  short = λ count.
      let p = present_run c lines first in
      let q : present c (take first lines) + n ≤ present c (take (first + n + 1) lines) = rw is at p in
      let least = least_addr_tlv count in
      let whole : length (flat_map least (tlvs ++ tlv ∷ [])) ≡ length (flat_map least tlvs) + length (least tlv) =
      ap length (flat_map-append least tlvs (tlv ∷ [])) ∙ length-append (flat_map least tlvs) (least tlv ++ []) ∙ ap (λ (k : ℕ). length (flat_map least tlvs) + k) (ap length (append-nil (least tlv))) in
      subst (λ (k : ℕ). k ≤ most_of c * present c (take (first + n + 1) lines)) (sym whole)
      (both_most (is_wide c) (length (flat_map least tlvs)) (length (least tlv)) (present c (take first lines)) (length run) (present c (take (first + n + 1) lines))
      (h.short count) (run_short c first run count s.some (omega (arith, long, s.fits, few))) (omega (arith, q, long)));
} where
  run : List AddressRecord
  run = slice_range lines first (first + n)

  tlv : AddrTlvFields
  tlv = run_of c first run

  s : Stands c lines first run
  s = run_stands c lines first n le is some

  size : first + n - first ≡ n
  size = omega arith

  long : length run ≡ n
  long = rw size (take_long n (drop first lines) (omega (arith, length-drop first lines, leading_within c (drop first lines), is)))

-- at the end
pub lays_all : (c : AddressTlvKind) (lines : List AddressRecord) (first : ℕ) (tlvs : List AddrTlvFields) → length lines ≤ first → LaysFirst c lines first tlvs → Lays c lines tlvs
lays_all c lines first tlvs le h = grind (arith, common_steps, take_all)

-- ---- the same of TLVs as they lie in memory

pub adds_run : (old mid new : List AddrTlv) (tlv : AddrTlv) (c : AddressTlvKind) (lines : List AddressRecord) (first n : ℕ) → first ≤ length lines → length lines ≤ 255 → leading c (drop first lines) ≡ n → 0 < n →
    addr_fields tlv ≡ run_of c first (slice_range lines first (first + n)) → new ≡ mid ++ tlv ∷ [] →
    Adds (LaysFirst c lines first) (map addr_fields old) (map addr_fields mid) → Adds (LaysFirst c lines (first + n + 1)) (map addr_fields old) (map addr_fields new)
adds_run old mid new tlv c lines first n le few is some fields added (more, whole, h) =
    let run = run_of c first (slice_range lines first (first + n)) in (
      more ++ run ∷ [],
      ap (map addr_fields) added ∙ map-append addr_fields mid (tlv ∷ []) ∙ ap (λ (t : AddrTlvFields). map addr_fields mid ++ t ∷ []) fields ∙ ap (λ (l : List AddrTlvFields). l ++ run ∷ []) whole ∙ append_assoc (map addr_fields old) more (run ∷ []),
      lays_run c lines first n more le few is some h,
    )

pub adds_skip : (old mid : List AddrTlv) (c : AddressTlvKind) (lines : List AddressRecord) (first n : ℕ) → leading c (drop first lines) ≡ n → n ≡ 0 →
    Adds (LaysFirst c lines first) (map addr_fields old) (map addr_fields mid) → Adds (LaysFirst c lines (first + n + 1)) (map addr_fields old) (map addr_fields mid)
adds_skip old mid c lines first n is none h8 = grind (arith, common_steps, lays_skip)

pub adds_none : (old : List AddrTlv) (c : AddressTlvKind) (lines : List AddressRecord) → Adds (LaysFirst c lines 0) (map addr_fields old) (map addr_fields old)
adds_none old c lines = ([], sym (append-nil (map addr_fields old)), lays_none c lines)

pub adds_all : (old new : List AddrTlvFields) (c : AddressTlvKind) (lines : List AddressRecord) (first : ℕ) → length lines ≤ first → Adds (LaysFirst c lines first) old new → Adds (Lays c lines) old new
adds_all old new c lines first le (more, whole, h) = (more, whole, lays_all c lines first more le h)

-- ---- column after column, and block after block

pub columns_added : (cs : List AddressTlvKind) (lines : List AddressRecord) (d : AddressTlvKind) (old mid new : List AddrTlvFields) → 1 ≤ length cs → Adds (Lays (get_or cs 0 d) lines) old mid →
    Adds (LaysAll (take (length cs - 1) (drop 1 cs)) lines) mid new → Adds (LaysAll cs lines) old new
columns_added cs lines d old mid new some h k = grind (arith, common_steps, take_all)

pub blocks_added : (lines : List AddressRecord) (start n : ℕ) (old mid new : List Block) (block : Block) → start ≤ length lines → (start ≡ length lines → ⊥) → n ≡ min (length lines - start) 255 →
    IsBlock (slice_range lines start (n + start)) (fields_of_block block) → mid ≡ old ++ block ∷ [] → Adds (AreBlocks (drop (n + start) lines)) (map fields_of_block mid) (map fields_of_block new) →
    Adds (AreBlocks (drop start lines)) (map fields_of_block old) (map fields_of_block new)
blocks_added lines start n old mid new block le other is h added (more, are, k) =
    let front = slice_range lines start (n + start) in
    let b = fields_of_block block in
    let size : n + start - start ≡ n = omega arith in
    let swap : start + n ≡ n + start = omega arith in
    let long : length front ≡ n = rw size (take_long n (drop start lines) (omega (arith, length-drop start lines, is))) in
    let whole : drop start lines ≡ front ++ drop (n + start) lines =
    sym (take-append-drop n (drop start lines)) ∙ ap (λ (l : List AddressRecord). take n (drop start lines) ++ l) (drop-drop n start lines ∙ ap (λ (m : ℕ). drop m lines) swap) ∙ ap (λ (m : ℕ). take m (drop start lines) ++ drop (n + start) lines) (sym size) in (
      b ∷ more,
      are ∙ ap (λ (l : List BlockFields). l ++ more) (ap (map fields_of_block) added ∙ map-append fields_of_block old (block ∷ [])) ∙ append_assoc (map fields_of_block old) (b ∷ []) more,
      (front, drop (n + start) lines, whole, omega (arith, long, is, le, other), h, k),
    )

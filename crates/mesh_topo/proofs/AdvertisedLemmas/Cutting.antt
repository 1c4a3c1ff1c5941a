-- Rows that are cut into runs.
use Rattle.mesh_topo.proofs.Common.{◌≡◌, ℕ, suc, ◌+◌, ◌-◌, ◌*◌, ◌<◌, ◌≤◌, inl, inr, List, [], ◌∷◌, ◌++◌, length, take, drop, map, sym, ap, subst, ◌∙◌, arith, length-append, length-take, length-drop, Some, slice_get, slice_range, flat_map, option_map, min, common_steps, flat_map-append, cases_lt, take-append-drop, nil_from_length, append-nil, length-map, flat_map-map, slice_get-map, slice_get_within, TcRow, AreParts, PartSpan, part_of, AreSpans, item_at as there, get_pushed as push_at}
use Rattle.std.proofs.Math.Nat.{mul-le-mul_right, suc-mul}
use Rattle.std.proofs.Math.Seq.{take-append-add, take-length}

-- full runs up to a place, which is not the last
pub record AreFull (rows most first : ℕ) (spans : List PartSpan) : Type 0 where
  pub reached : first ≡ length spans * most
  pub within : first ≤ rows
  pub more : 0 < length spans → first < rows
  pub each : (i : ℕ) (span : PartSpan) → slice_get spans i ≡ Some span → (span.first ≡ i * most) × (span.len ≡ most)
  pub joined : (list : List TcRow) → length list ≡ rows → flat_map (part_of list) spans ≡ take first list

-- ---- lists

take_on : {A : Type 0} (a n : ℕ) (xs : List A) → a ≤ length xs → take (a + n) xs ≡ take a xs ++ take n (drop a xs)
take_on a n xs le =
    let e : length (take a xs) ≡ a = omega (arith, length-take a xs, le) in
    ap (λ (m : ℕ). take (m + n) xs) (sym e) ∙ ap (take (length (take a xs) + n)) (sym (take-append-drop a xs)) ∙ take-append-add (take a xs) (drop a xs) n

range_is : {A : Type 0} (a n : ℕ) (xs : List A) → slice_range xs a (a + n) ≡ take n (drop a xs)
range_is a n xs = let e : (a + n) - a ≡ n = omega arith in ap (λ (m : ℕ). take m (drop a xs)) e

-- ---- one run more

joined_more : (list : List TcRow) (spans : List PartSpan) (first n : ℕ) → first ≤ length list → flat_map (part_of list) spans ≡ take first list →
    flat_map (part_of list) (spans ++ record { first = first; len = n } ∷ []) ≡ take (first + n) list
joined_more list spans first n le before = grind (arith, common_steps, flat_map-append, append-nil, range_is, take_on)

pub one_full : (rows most first : ℕ) (spans : List PartSpan) → AreFull rows most first spans → most < rows - first → AreFull rows most (first + most) (spans ++ record { first = first; len = most } ∷ [])
one_full rows most first spans h left = record {
  reached = (let e : length (spans ++ span ∷ []) ≡ suc (length spans) = omega (arith, length-append spans (span ∷ [])) in rw e (omega (arith, h.reached, suc-mul (length spans) most)));
  within = omega (arith, left);
  more = λ some. omega (arith, left);
  each = λ i s at. elim (push_at spans span i s at) [
    | inl before ↦ h.each i s before
    | inr (last, is) ↦ (sym (ap (λ (t : PartSpan). t.first) is) ∙ h.reached ∙ ap (λ (n : ℕ). n * most) (sym last), sym (ap (λ (t : PartSpan). t.len) is))
  ];
  joined = λ list long. joined_more list spans first most (omega (arith, h.within, long)) (h.joined list long);
} where
  span : PartSpan
  span = record { first = first; len = most }

-- ---- the last run

module _ (rows most first : ℕ) (spans : List PartSpan) (h : AreFull rows most first spans) (left : rows - first ≤ most) (above : 0 < most) where
  abbrev pub last : PartSpan
  last = record { first = first; len = rows - first }

  abbrev pub all : List PartSpan
  all = spans ++ last ∷ []

  counted : length all ≡ suc (length spans)
  counted = omega (arith, length-append spans (last ∷ []))

  -- a run before the last is full
  ends_before : (i : ℕ) → i < length spans → i * most + most ≤ rows
  ends_before i lt = let le : suc i * most ≤ length spans * most = mul-le-mul_right most lt in omega (arith, le, h.reached, h.within, suc-mul i most)

  each : (i : ℕ) (span : PartSpan) → slice_get all i ≡ Some span → (span.first ≡ i * most) × (span.len ≡ min most (rows - i * most))
  each i span at = grind (arith, common_steps, push_at, ends_before, slice_get_within)

  pub spans_are : AreSpans rows most all
  spans_are = record {
    each = each;
    some = omega (arith, counted);
    enough = rw counted (omega (arith, h.reached, left, suc-mul (length spans) most));
    needed = λ several. (let e : length all - 1 ≡ length spans = omega (arith, counted) in rw e (omega (arith, h.reached, h.more (omega (arith, counted, several)))));
  }

  module _ (list : List TcRow) (long : length list ≡ rows) where
    -- the length of a part
    part_long : (i : ℕ) (part : List TcRow) → slice_get (map (part_of list) all) i ≡ Some part → length part ≡ min most (rows - i * most)
    part_long i part at =
        let lt : i < length all = omega (arith, slice_get_within (map (part_of list) all) i part at, length-map all (part_of list)) in
        let (span, is) = there all i lt in
        let same : part_of list span ≡ part = (let e : Some (part_of list span) ≡ Some part = sym (slice_get-map (part_of list) all i ∙ ap (option_map (part_of list)) is) ∙ at in cc) in
        let (begins, size) = each i span is in
        let range = range_is span.first span.len list in
        omega (arith, ap length same, ap length range, length-take span.len (drop span.first list), length-drop span.first list, begins, size, long)

    count : length (map (part_of list) all) ≡ suc (length spans)
    count = omega (arith, length-map all (part_of list), counted)

    at_last : length (map (part_of list) all) - 1 ≡ length spans
    at_last = omega (arith, count)

    whole : flat_map (λ (part : List TcRow). part) (map (part_of list) all) ≡ list
    whole =
        let ends : first + (rows - first) ≡ length list = omega (arith, h.within, long) in
        flat_map-map (λ (part : List TcRow). part) (part_of list) all ∙ joined_more list spans first (rows - first) (omega (arith, h.within, long)) (h.joined list long)
        ∙ ap (λ (n : ℕ). take n list) ends ∙ take-length list

    no_rows : rows ≤ first → length list ≡ 0
    no_rows le = elim (cases_lt 0 (length spans)) [
      | inl some ↦ absurd (omega (arith, le, h.more some))
      | inr none ↦
          let zero_runs : length spans ≡ 0 = omega (arith, none) in
          let zero_rows : length spans * most ≡ 0 * most = ap (λ (n : ℕ). n * most) zero_runs in
          omega (arith, zero_rows, h.reached, le, long)
    ]

    pub parts_are : AreParts most list (map (part_of list) all)
    parts_are = record {
      some = omega (arith, count);
      whole = whole;
      full = λ i part at before. omega (arith, part_long i part at, ends_before i (omega (arith, count, before)));
      last = λ part at. omega (arith, part_long (length (map (part_of list) all) - 1) part at);
      no_more = λ part at none. (
          let size = part_long (length spans) part (subst (λ (n : ℕ). slice_get (map (part_of list) all) n ≡ Some part) at_last at) in
          nil_from_length list (no_rows (omega (arith, size, ap length none, h.reached, above))));
    }

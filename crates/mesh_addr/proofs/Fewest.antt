-- The cheapest choice is spelled, and no spelling has fewer octets.
use Rattle.mesh_addr.proofs.Common.{◌≡◌, ℕ, ◌+◌, ◌-◌, ◌*◌, ◌<◌, ◌≤◌, Bool, true, false, cond, eqb, List, [], ◌∷◌, ◌++◌, length, take, refl, sym, ap, subst, ◌∙◌, arith, append_assoc, length-append, slice_range, replicate, not, ◌&&◌, length-take, common_steps, eq-eqb, eqb-true, take_at, drop_at, length-replicate, length-take-le, nil_from_length, between_from_start, has, range_length, RawAddr, Choice, TailForm, PrefixForm, padded, SpellsHead, SpellsTail, SpellsMids, SpellsPrefixes, AreAll, AreAtMost, prefixes, SpellsBlock, AreRaw, IsWritable, tail_len, last_octets, ShareHead, ShareTail, TailFits, IsPossible, head_cost, tail_cost, cost, tail_rank, choice_rank, weight, IsBestOf, have_prefix, form_of, tail_flag, form_flag, flags_of, head_text, tail_text, mids_text, prefixes_text, text_of, IsLeast, known_flags, rank, IsFirst}
use Rattle.mesh_addr.proofs.Padding.{split_at}
use Rattle.mesh_addr.proofs.Choosing.{rank_below}
use Rattle.mesh_addr.specs.declared.choices.TailForm.TheVariants as tails
use Rattle.mesh_addr.specs.declared.choices.PrefixForm.TheVariants as forms
use Rattle.mesh_addr.proofs.ReadAgain.{mids_long, first_all}

both_true : (a b : Bool) → a ≡ true → b ≡ true → a && b ≡ true
both_true a b h k = rw (h, k) refl

-- the tail of a spelling with these flags
abbrev tail_for : Bool → Bool → ℕ → TailForm
tail_for full zeros n = cond full (tails.Full n) (cond zeros (tails.Zeros n) tails.Absent)

-- where an address has its head and its tail
ends_are : (head mid tail : List ℕ) (w : ℕ) (octets : List ℕ) → length head + (length mid + length tail) ≡ w → octets ≡ padded (head ++ (mid ++ tail)) → (take (length head) octets ≡ head) × (slice_range octets (w - length tail) w ≡ tail)
ends_are head mid tail w octets long is =
    let z : List ℕ = replicate (16 - length (head ++ (mid ++ tail))) 0 in
    let front : octets ≡ head ++ ((mid ++ tail) ++ z) = is ∙ append_assoc head (mid ++ tail) z in
    let back : octets ≡ (head ++ mid) ++ (tail ++ z) = front ∙ ap (λ (l : List ℕ). head ++ l) (append_assoc mid tail z) ∙ sym (append_assoc head mid (tail ++ z)) in
    let from : length (head ++ mid) ≡ w - length tail = length-append head mid ∙ omega arith in
    let size : length tail ≡ w - (w - length tail) = omega arith in (
      rw front (take_at head ((mid ++ tail) ++ z) (length head) refl),
      ap (λ (l : List ℕ). slice_range l (w - length tail) w) back ∙ ap (λ (l : List ℕ). take (w - (w - length tail)) l) (drop_at (head ++ mid) (tail ++ z) (w - length tail) from) ∙ take_at tail z (w - (w - length tail)) size,
    )

module _ (w : ℕ) (head tail : List ℕ) (fits : length head + length tail ≤ w) where
  pub one_ends : (a : RawAddr) (mid : List ℕ) → length mid ≡ w - (length head + length tail) → a.octets ≡ padded (head ++ (mid ++ tail)) → (take (length head) a.octets ≡ head) × (slice_range a.octets (w - length tail) w ≡ tail)
  one_ends a mid long is = ends_are head mid tail w a.octets (omega arith) is

  shared_so : (first : RawAddr) → take (length head) first.octets ≡ head → last_octets w (length tail) first ≡ tail → (addrs : List RawAddr) (text : List ℕ) → SpellsMids head tail (w - (length head + length tail)) addrs text → ShareHead first addrs (length head) × ShareTail w first addrs (length tail)
  shared_so first is is' [] text h = (tt, tt)
  shared_so first is is' (a ∷ addrs) text h =
      let ends = one_ends a h.0 h.2 h.3 in
      let more = shared_so first is is' addrs h.1 h.4 in
      ((is ∙ sym ends.0, more.0), (is' ∙ sym ends.1, more.1))

head_cost_most : (n : ℕ) → head_cost n ≤ 1 + n
head_cost_most n = grind (arith, common_steps)

head_least : (b : Bool) (head text : List ℕ) → SpellsHead b head text → head_cost (length head) ≤ length text
head_least b head text h = grind (arith, common_steps, head_cost_most)

-- what a tail's spelling tells of its form
record FormIs (w : ℕ) (first : RawAddr) (full zeros : Bool) (tail text : List ℕ) : Type 0 where
  len_is : tail_len (tail_for full zeros (length tail)) ≡ length tail
  rank_is : tail_rank (tail_for full zeros (length tail)) ≡ cond full 2 (cond zeros 1 0)
  costs : tail_cost (tail_for full zeros (length tail)) ≤ length text
  fits : last_octets w (length tail) first ≡ tail → TailFits w first (tail_for full zeros (length tail))

form_is : (w : ℕ) (first : RawAddr) (full zeros : Bool) (tail text : List ℕ) → SpellsTail full zeros tail text → FormIs w first full zeros tail text
form_is w first full zeros tail text h = grind (arith, common_steps)

-- the choice of a spelling
record Chosen (w : ℕ) (first : RawAddr) (addrs : List RawAddr) (text prefix_text : List ℕ) (rank : ℕ) : Type 0 where
  choice : Choice
  is_possible : IsPossible w first addrs choice
  costs : 2 + cost w (length addrs) choice + length prefix_text ≤ length text
  ranked : choice_rank choice ≡ rank

abbrev spelled_rank : {w : ℕ} {addrs : List RawAddr} {text : List ℕ} → SpellsBlock w addrs text → ℕ
spelled_rank h = (length h.head * 3 + cond (has h.flags 64) 2 (cond (has h.flags 32) 1 0)) * 17 + length h.tail

chosen : (w : ℕ) (first : RawAddr) (more : List RawAddr) (text : List ℕ) (h : SpellsBlock w (first ∷ more) text) → Chosen w first (first ∷ more) text h.prefixes_text (spelled_rank h)
unfolding cost
chosen w first more text h =
    let full : Bool = has h.flags 64 in
    let zeros : Bool = has h.flags 32 in
    let form = form_is w first full zeros h.tail h.tail_text h.tail_is in
    let ends = one_ends w h.head h.tail h.fits first h.mids_is.0 h.mids_is.2 h.mids_is.3 in
    let shared = shared_so w h.head h.tail h.fits first ends.0 ends.1 (first ∷ more) h.mids_text h.mids_is in
    let long = mids_long h.head h.tail (w - (length h.head + length h.tail)) (first ∷ more) h.mids_text h.mids_is in
    record {
      choice = record { head = length h.head; tail = tail_for full zeros (length h.tail) };
      is_possible = record { fits = omega (arith, form.len_is, h.fits); heads = shared.0; tails = rw form.len_is shared.1; zeros = form.fits ends.1 };
      costs = rw form.len_is (omega (arith, ap length h.whole, length-append h.head_text (h.tail_text ++ (h.mids_text ++ h.prefixes_text)), length-append h.tail_text (h.mids_text ++ h.prefixes_text), length-append h.mids_text h.prefixes_text, head_least (has h.flags 128) h.head h.head_text h.head_is, form.costs, long));
      ranked = omega (arith, form.len_is, form.rank_is);
    }

-- ---- what a possible choice writes is a spelling

false_true : false ≡ true → ⊥
false_true e = absurd cc

raw_long : (w : ℕ) (a : RawAddr) → w ≤ 16 → a.octets ≡ padded (take w a.octets) → w ≤ length a.octets
raw_long w a small is = grind (arith, common_steps, length-append, length-replicate, length-take)

three_parts : (w head tail : ℕ) (octets : List ℕ) → head + tail ≤ w → w ≤ length octets → take w octets ≡ take head octets ++ (slice_range octets head (w - tail) ++ slice_range octets (w - tail) w)
three_parts w head tail octets fits long =
    sym (between_from_start octets w) ∙ split_at octets 0 head w (omega arith) (omega arith) long
    ∙ ap (λ (l : List ℕ). l ++ slice_range octets head w) (between_from_start octets head)
    ∙ ap (λ (l : List ℕ). take head octets ++ l) (split_at octets head (w - tail) w (omega arith) (omega arith) long)

both_are : (a b : Bool) → a && b ≡ true → (a ≡ true) × (b ≡ true)
both_are a b e = grind (arith, common_steps)

head_spelled : (head : ℕ) (first : RawAddr) → length (take head first.octets) ≡ head → SpellsHead (not (eqb head 0)) (take head first.octets) (head_text head first)
head_spelled head first long = grind (arith, common_steps)

abbrev is_full : TailForm → Bool
is_full tails.Absent = false
is_full (tails.Zeros n) = false
is_full (tails.Full n) = true

abbrev is_zeros : TailForm → Bool
is_zeros tails.Absent = false
is_zeros (tails.Zeros n) = true
is_zeros (tails.Full n) = false

tail_spelled : (w : ℕ) (first : RawAddr) (t : TailForm) → length (last_octets w (tail_len t) first) ≡ tail_len t → TailFits w first t → SpellsTail (is_full t) (is_zeros t) (last_octets w (tail_len t) first) (tail_text t w first)
tail_spelled w first t long fit = grind (arith, common_steps, nil_from_length)

module _ (w head tail : ℕ) (first : RawAddr) (small : w ≤ 16) (fits : head + tail ≤ w) (long_first : w ≤ length first.octets) where
  mids_spelled : (addrs : List RawAddr) → AreRaw w addrs → ShareHead first addrs head → ShareTail w first addrs tail → SpellsMids (take head first.octets) (last_octets w tail first) (w - (length (take head first.octets) + length (last_octets w tail first))) addrs (mids_text head (w - tail) addrs)
  mids_spelled [] raw heads tails = refl
  mids_spelled (a ∷ addrs) raw heads tails =
      let long : w ≤ length a.octets = raw_long w a small raw.0 in
      let mid : List ℕ = slice_range a.octets head (w - tail) in
      let size : length mid ≡ w - tail - head = range_length a.octets head (w - tail) (omega arith) in
      let one : length (take head first.octets) ≡ head = length-take-le head first.octets (omega arith) in
      let two : length (last_octets w tail first) ≡ w - (w - tail) = range_length first.octets (w - tail) w long_first in
      let split : take w a.octets ≡ take head a.octets ++ (mid ++ last_octets w tail a) = three_parts w head tail a.octets fits long in
      (mid, mids_text head (w - tail) addrs, omega (arith, size, one, two), raw.0 ∙ ap padded (split ∙ ap (λ (l : List ℕ). l ++ (mid ++ last_octets w tail a)) (sym heads.0) ∙ ap (λ (l : List ℕ). take head first.octets ++ (mid ++ l)) (sym tails.0)), mids_spelled addrs raw.2 heads.1 tails.1, refl)

all_have_so : (p : ℕ) (addrs : List RawAddr) → have_prefix p addrs ≡ true → AreAll p (prefixes addrs)
all_have_so p [] e = refl
all_have_so p (a ∷ addrs) e =
    let both = both_are (eqb a.prefix p) (have_prefix p addrs) e in
    rw (eqb-true _ _ both.0) (ap (λ (l : List ℕ). p ∷ l) (all_have_so p addrs both.1))

so_all_have : (p : ℕ) (addrs : List RawAddr) → AreAll p (prefixes addrs) → have_prefix p addrs ≡ true
so_all_have p [] h = refl
so_all_have p (a ∷ addrs) h = let all = first_all p a.prefix (prefixes addrs) h in both_true (eqb a.prefix p) (have_prefix p addrs) (eq-eqb _ _ all.0) (so_all_have p addrs all.1)

raw_most : (w : ℕ) (addrs : List RawAddr) → AreRaw w addrs → AreAtMost (8 * w) (prefixes addrs)
raw_most w [] raw = tt
raw_most w (a ∷ addrs) raw = (raw.1, raw_most w addrs raw.2)

abbrev form_for : Bool → Bool → PrefixForm
form_for none one = cond none forms.Absent (cond one forms.One forms.Each)

abbrev is_one : PrefixForm → Bool
is_one forms.Absent = false
is_one forms.One = true
is_one forms.Each = false

abbrev is_each : PrefixForm → Bool
is_each forms.Absent = false
is_each forms.One = false
is_each forms.Each = true

-- the form of the prefix lengths is one of the block, and the shortest one
form_spelled : (w : ℕ) (first : RawAddr) (more : List RawAddr) (none one : Bool) → AreRaw w (first ∷ more) → have_prefix (8 * w) (first ∷ more) ≡ none → have_prefix first.prefix (first ∷ more) ≡ one
    → SpellsPrefixes (is_one (form_for none one)) (is_each (form_for none one)) (8 * w) (prefixes (first ∷ more)) (prefixes_text (form_for none one) first (first ∷ more))
form_spelled w first more none one raw is is' = grind (arith, common_steps, all_have_so, raw_most)

form_least : (w : ℕ) (first : RawAddr) (more : List RawAddr) (none one b16 b8 : Bool) (text : List ℕ) → have_prefix (8 * w) (first ∷ more) ≡ none → have_prefix first.prefix (first ∷ more) ≡ one → SpellsPrefixes b16 b8 (8 * w) (prefixes (first ∷ more)) text → length (prefixes_text (form_for none one) first (first ∷ more)) ≤ length text
form_least w first more none one b16 b8 text is is' h = grind (arith, common_steps, so_all_have, false_true, first_all)

abbrev head_bit : Bool → ℕ
head_bit none = cond none 0 128

-- which flags are set in the sum
bits_are : (none : Bool) (t : TailForm) (form : PrefixForm)
    → (has (head_bit none + tail_flag t + form_flag form) 128 ≡ not none) × (has (head_bit none + tail_flag t + form_flag form) 64 ≡ is_full t) × (has (head_bit none + tail_flag t + form_flag form) 32 ≡ is_zeros t)
    × (has (head_bit none + tail_flag t + form_flag form) 16 ≡ is_one form) × (has (head_bit none + tail_flag t + form_flag form) 8 ≡ is_each form)
bits_are true tails.Absent forms.Absent = (refl, refl, refl, refl, refl)
bits_are true tails.Absent forms.One = (refl, refl, refl, refl, refl)
bits_are true tails.Absent forms.Each = (refl, refl, refl, refl, refl)
bits_are true (tails.Zeros n) forms.Absent = (refl, refl, refl, refl, refl)
bits_are true (tails.Zeros n) forms.One = (refl, refl, refl, refl, refl)
bits_are true (tails.Zeros n) forms.Each = (refl, refl, refl, refl, refl)
bits_are true (tails.Full n) forms.Absent = (refl, refl, refl, refl, refl)
bits_are true (tails.Full n) forms.One = (refl, refl, refl, refl, refl)
bits_are true (tails.Full n) forms.Each = (refl, refl, refl, refl, refl)
bits_are false tails.Absent forms.Absent = (refl, refl, refl, refl, refl)
bits_are false tails.Absent forms.One = (refl, refl, refl, refl, refl)
bits_are false tails.Absent forms.Each = (refl, refl, refl, refl, refl)
bits_are false (tails.Zeros n) forms.Absent = (refl, refl, refl, refl, refl)
bits_are false (tails.Zeros n) forms.One = (refl, refl, refl, refl, refl)
bits_are false (tails.Zeros n) forms.Each = (refl, refl, refl, refl, refl)
bits_are false (tails.Full n) forms.Absent = (refl, refl, refl, refl, refl)
bits_are false (tails.Full n) forms.One = (refl, refl, refl, refl, refl)
bits_are false (tails.Full n) forms.Each = (refl, refl, refl, refl, refl)

head_text_long : (head : ℕ) (first : RawAddr) → length (take head first.octets) ≡ head → length (head_text head first) ≡ head_cost head
head_text_long head first long = grind (arith, common_steps)

tail_text_long : (w : ℕ) (first : RawAddr) (t : TailForm) → length (last_octets w (tail_len t) first) ≡ tail_len t → length (tail_text t w first) ≡ tail_cost t
tail_text_long w first t long = grind (arith, common_steps)

module _ (w : ℕ) (first : RawAddr) (more : List RawAddr) (choice : Choice) (small : w ≤ 16) (raw : AreRaw w (first ∷ more)) (can : IsPossible w first (first ∷ more) choice) where
  abbrev none : Bool
  none = have_prefix (8 * w) (first ∷ more)

  abbrev one : Bool
  one = have_prefix first.prefix (first ∷ more)

  abbrev text : List ℕ
  text = text_of w first (first ∷ more) choice (form_for none one)

  abbrev head : List ℕ
  head = take choice.head first.octets

  abbrev tail : List ℕ
  tail = last_octets w (tail_len choice.tail) first

  head_long : length head ≡ choice.head
  head_long = let long = raw_long w first small raw.0 in length-take-le choice.head first.octets (omega (arith, can.fits))

  tail_long : length tail ≡ tail_len choice.tail
  tail_long = let long = raw_long w first small raw.0 in range_length first.octets (w - tail_len choice.tail) w long ∙ omega (arith, can.fits)

  mids_are : SpellsMids head tail (w - (length head + length tail)) (first ∷ more) (mids_text choice.head (w - tail_len choice.tail) (first ∷ more))
  mids_are = mids_spelled w choice.head (tail_len choice.tail) first small can.fits (raw_long w first small raw.0) (first ∷ more) raw can.heads can.tails

  unfoldable text_spelled : SpellsBlock w (first ∷ more) text
  unfolding text_of
  text_spelled =
      let form : PrefixForm = form_for none one in
      let are = bits_are (eqb choice.head 0) choice.tail form in
      record {
        flags = flags_of choice form;
        head = head;
        tail = tail;
        head_text = head_text choice.head first;
        tail_text = tail_text choice.tail w first;
        mids_text = mids_text choice.head (w - tail_len choice.tail) (first ∷ more);
        prefixes_text = prefixes_text form first (first ∷ more);
        some = omega arith;
        fits = omega (arith, can.fits, head_long, tail_long);
        head_is = subst (λ (b : Bool). SpellsHead b head (head_text choice.head first)) (sym are.0) (head_spelled choice.head first head_long);
        tail_is = rw (are.1, are.2) (tail_spelled w first choice.tail tail_long can.zeros);
        mids_is = mids_are;
        prefixes_is = rw (are.3, are.4) (form_spelled w first more none one raw refl refl);
        whole = refl;
      }

  text_long : length text ≡ 2 + cost w (length (first ∷ more)) choice + length (prefixes_text (form_for none one) first (first ∷ more))
  unfolding text_of cost
  text_long = grind (arith, common_steps, choice, head_long, tail_long, mids_long, mids_are, head_text_long, tail_text_long, length-append)

tail_bits : (t : TailForm) → cond (is_full t) 2 (cond (is_zeros t) 1 0) ≡ tail_rank t
tail_bits t = grind (arith, common_steps)

abbrev form_rank : Bool → Bool → ℕ
form_rank one each = cond one 1 (cond each 2 0)

abbrev rank_of_form : PrefixForm → ℕ
rank_of_form form = form_rank (is_one form) (is_each form)

-- no form that comes before is one of the block
form_first : (w : ℕ) (first : RawAddr) (more : List RawAddr) (none one b16 b8 : Bool) (text : List ℕ) → have_prefix (8 * w) (first ∷ more) ≡ none → have_prefix first.prefix (first ∷ more) ≡ one → SpellsPrefixes b16 b8 (8 * w) (prefixes (first ∷ more)) text → rank_of_form (form_for none one) ≤ form_rank b16 b8
form_first w first more none one b16 b8 text is is' h = grind (arith, common_steps, so_all_have, false_true, first_all)

text_rank : (w : ℕ) (first : RawAddr) (more : List RawAddr) (choice : Choice) (small : w ≤ 16) (raw : AreRaw w (first ∷ more)) (can : IsPossible w first (first ∷ more) choice)
    → rank (text_spelled w first more choice small raw can) ≡ choice_rank choice * 3 + rank_of_form (form_for (have_prefix (8 * w) (first ∷ more)) (have_prefix first.prefix (first ∷ more)))
unfolding text_spelled
text_rank w first more choice small raw can =
    let form : PrefixForm = form_for (have_prefix (8 * w) (first ∷ more)) (have_prefix first.prefix (first ∷ more)) in
    let are = bits_are (eqb choice.head 0) choice.tail form in
    rw (are.1, are.2, are.3, are.4, tail_bits choice.tail, head_long w first more choice small raw can, tail_long w first more choice small raw can) (omega arith)

-- what a spelling tells of a choice that is best
module _ (w : ℕ) (first : RawAddr) (more : List RawAddr) (choice : Choice) (small : w ≤ 16) (raw : AreRaw w (first ∷ more)) (best : IsBestOf w (length (first ∷ more)) (IsPossible w first (first ∷ more)) choice) (other : List ℕ) (h : SpellsBlock w (first ∷ more) other) where
  abbrev best_form : PrefixForm
  best_form = form_for (have_prefix (8 * w) (first ∷ more)) (have_prefix first.prefix (first ∷ more))

  abbrev best_text : List ℕ
  best_text = text_of w first (first ∷ more) choice best_form

  spelled_choice : Chosen w first (first ∷ more) other h.prefixes_text (spelled_rank h)
  spelled_choice = chosen w first more other h

  -- its choice weighs no less, and a rank is less than one octet weighs
  no_lighter : weight w (length (first ∷ more)) choice ≤ weight w (length (first ∷ more)) spelled_choice.choice
  no_lighter = best.least spelled_choice.choice spelled_choice.is_possible

  rank_small : choice_rank spelled_choice.choice < 867
  rank_small = let c = spelled_choice in rank_below w c.choice small c.is_possible.fits

  prefixes_short : length (prefixes_text best_form first (first ∷ more)) ≤ length h.prefixes_text
  prefixes_short = form_least w first more (have_prefix (8 * w) (first ∷ more)) (have_prefix first.prefix (first ∷ more)) (has h.flags 16) (has h.flags 8) h.prefixes_text refl refl h.prefixes_is

  not_longer : length best_text ≤ length other
  not_longer = omega (arith, text_long w first more choice small raw best.among, spelled_choice.costs, no_lighter, rank_small, prefixes_short)

  not_later : length other ≡ length best_text → rank (text_spelled w first more choice small raw best.among) ≤ rank h
  not_later same = grind (arith, common_steps, form_first, spelled_choice, text_long, prefixes_short, no_lighter, text_rank)

-- no reserved flag is written
flag_of_head : (none : Bool) → cond (not none) 128 0 ≡ head_bit none
flag_of_head none = grind (arith, common_steps)

flags_of_tail : (t : TailForm) → cond (is_full t) 64 0 + cond (is_zeros t) 32 0 ≡ tail_flag t
flags_of_tail t = grind (arith, common_steps)

flags_of_form : (f : PrefixForm) → cond (is_one f) 16 0 + cond (is_each f) 8 0 ≡ form_flag f
flags_of_form f = grind (arith, common_steps)

unreserved_flags : (choice : Choice) (form : PrefixForm) → flags_of choice form ≡ known_flags (flags_of choice form)
unreserved_flags choice form = grind (arith, common_steps, bits_are, choice, flag_of_head, flags_of_tail, flags_of_form)

least_text : (w : ℕ) (first : RawAddr) (more : List RawAddr) (choice : Choice) → w ≤ 16 → AreRaw w (first ∷ more) → IsBestOf w (length (first ∷ more)) (IsPossible w first (first ∷ more)) choice → IsLeast w (first ∷ more) (text_of w first (first ∷ more) choice (form_of w first (first ∷ more)))
unfolding form_of text_spelled
least_text w first more choice small raw best = record {
  spelled = text_spelled w first more choice small raw best.among;
  narrow = small;
  unreserved = unreserved_flags choice (form_for (have_prefix (8 * w) (first ∷ more)) (have_prefix first.prefix (first ∷ more)));
  least = not_longer w first more choice small raw best;
  preferred = not_later w first more choice small raw best;
}

pub least_of_first : (w : ℕ) (first : RawAddr) (addrs : List RawAddr) (choice : Choice) → IsFirst first addrs → IsWritable w addrs → IsBestOf w (length addrs) (IsPossible w first addrs) choice → IsLeast w addrs (text_of w first addrs choice (form_of w first addrs))
least_of_first w first addrs choice is h best = grind (arith, common_steps, least_text)

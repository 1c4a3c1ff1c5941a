-- The first line of a text, and those after it.
use Rattle.mesh_dump.proofs.Common.{common_steps, ◌≡◌, ℕ, ◌+◌, ◌-◌, ◌<◌, ◌≤◌, Bool, false, cond, eqb, ltb, List, [], ◌∷◌, length, take, drop, Some, None, refl, sym, ap, ◌∙◌, arith, position, All, position_or_len, after_first, lines, lines_of_parts, strip_carriage_return, ltb-false, ne_eqb, drop_all, take_all}
use Rattle.std.proofs.lemmas.List.Elements.{All-from_get_or}
use Rattle.std.proofs.lemmas.List.Splits.{slice_split_first, slice_split_none, length-slice_split}
use Rattle.std.proofs.lemmas.List.Sums.{fails_before_first}

-- a part before another is a line
part_line : (x : List ℕ) (parts : List (List ℕ)) → 0 < length parts → lines_of_parts (x ∷ parts) ≡ strip_carriage_return x ∷ lines_of_parts parts
part_line x parts some = grind (arith, common_steps)

missing : (b : Bool) (k : ℕ) → cond b (Some k) None ≡ None → b ≡ false
missing b k e = grind (arith, common_steps)

pub lines-feed : (text : List ℕ) (n : ℕ) → position (λ octet. eqb octet 10) text ≡ Some n → lines text ≡ strip_carriage_return (take n text) ∷ lines (drop (n + 1) text)
lines-feed text n e = grind (arith, common_steps, slice_split_first, after_first, length-slice_split, part_line, lines)

one_part : (text : List ℕ) → 0 < length text → lines_of_parts (text ∷ []) ≡ text ∷ []
one_part text some = rw (ne_eqb (length text) 0 (λ none. absurd (omega (arith, none)))) refl

pub lines-no_feed : (text : List ℕ) → 0 < length text → position (λ octet. eqb octet 10) text ≡ None → lines text ≡ text ∷ lines (drop (length text) text)
lines-no_feed text some e =
    let p : ℕ → Bool = λ octet. eqb octet 10 in
    let past : length text ≤ position_or_len p text = ltb-false _ _ (missing (ltb (position_or_len p text) (length text)) (position_or_len p text) e) in
    let none : All (λ octet. p octet ≡ false) text = All-from_get_or (λ octet. p octet ≡ false) text 0 (λ i lt. fails_before_first p text i 0 (omega (arith, lt, past))) in
    ap lines_of_parts (slice_split_none p text none)
    ∙ one_part text some
    ∙ ap (λ (rest : List ℕ). text ∷ lines rest) (sym (drop_all (length text) text (omega arith)))

-- the same from a place in an input
pub lines-at : (input line : List ℕ) (at used : ℕ) → lines (take (length input - at) (drop at input)) ≡ line ∷ lines (drop used (take (length input - at) (drop at input))) → lines (drop at input) ≡ line ∷ lines (drop (at + used) input)
lines-at input line at used e = grind (arith, common_steps, take_all, lines)

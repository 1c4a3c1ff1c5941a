-- The listings of some first lines, of one line more, and of all with the line that counts.
use Rattle.mesh_dump.proofs.Common.{common_steps, ◌≡◌, ℕ, ◌+◌, ◌≤◌, Bool, List, [], ◌∷◌, ◌++◌, length, take, Option, Some, None, refl, sym, ap, subst, ◌∙◌, arith, append_assoc, length-append, option_map, lines, append-nil, take_all, take_at, MakesOne, AreListings, AreFirstListings, LinesMake, DumpMakes, total_text, IsListing, LineCounts}

-- these are the listings of so many lines, after which the rest comes
pub record Listed (recode : Bool) (all rest : List (List ℕ)) (number refused : ℕ) (pieces : List (List ℕ)) : Type 0 where
  pub done : List (List ℕ)
  pub all_is : all ≡ done ++ rest
  pub number_is : length done ≡ number
  pub are : AreListings recode 1 done refused pieces

lines_more : (recode : Bool) (number at : ℕ) (done : List (List ℕ)) (refused count : ℕ) (line : List ℕ) (pieces : List (List ℕ)) (last : List ℕ) → at ≡ number + length done
    → AreListings recode number done refused pieces → IsListing recode at line count last → AreListings recode number (done ++ line ∷ []) (refused + count) (pieces ++ last ∷ [])
lines_more recode number at [] refused count line pieces last e (none, empty) this =
    let here : at ≡ number = omega (arith, e) in
    (count, last, 0, [], subst (λ (n : ℕ). IsListing recode n line count last) here this, (refl, refl), omega (arith, none), ap (λ (ps : List (List ℕ)). ps ++ last ∷ []) empty)
lines_more recode number at (l ∷ done) refused count line pieces last e (first, piece, others, rest, is, more, sum, whole) this = (
  first,
  piece,
  others + count,
  rest ++ last ∷ [],
  is,
  lines_more recode (number + 1) at done others count line rest last (omega (arith, e)) more this,
  omega (arith, sum),
  ap (λ (ps : List (List ℕ)). ps ++ last ∷ []) whole,
)

pub at_most_one : (recode : Bool) (number : ℕ) (line : List ℕ) (count : ℕ) (text : List ℕ) → IsListing recode number line count text → count ≤ 1
at_most_one recode number line count text is = grind (arith, common_steps)

-- one line more
pub one_more_line : (recode : Bool) (all rest more : List (List ℕ)) (number refused count : ℕ) (line : List ℕ) (pieces : List (List ℕ)) (last : List ℕ) → rest ≡ line ∷ more
    → Listed recode all rest number refused pieces → IsListing recode (number + 1) line count last → Listed recode all more (number + 1) (refused + count) (pieces ++ last ∷ [])
one_more_line recode all rest more number refused count line pieces last cut so_far this = record {
  done = so_far.done ++ line ∷ [];
  all_is = so_far.all_is ∙ ap (λ (l : List (List ℕ)). so_far.done ++ l) cut ∙ sym (append_assoc so_far.done (line ∷ []) more);
  number_is = length-append so_far.done (line ∷ []) ∙ ap (λ (n : ℕ). n + 1) so_far.number_is;
  are = lines_more recode 1 (number + 1) so_far.done refused count line pieces last (omega (arith, so_far.number_is)) so_far.are this;
}

-- the lines before the rest are some first lines of all
first_lines : (input : List ℕ) (recode : Bool) (rest : List (List ℕ)) (number refused : ℕ) (pieces : List (List ℕ))
    → Listed recode (lines input) rest number refused pieces → AreFirstListings input recode pieces
first_lines input recode rest number refused pieces so_far =
    (number, refused, rw (so_far.all_is, take_at so_far.done rest number so_far.number_is) so_far.are)

-- so are they with what the next line makes
pub first_lines_more : (input : List ℕ) (recode : Bool) (rest more : List (List ℕ)) (number refused : ℕ) (line : List ℕ) (before : List (List ℕ)) → rest ≡ line ∷ more
    → Listed recode (lines input) rest number refused before → (pieces : List (List ℕ)) (x : Option ℕ) → MakesOne (IsListing recode (number + 1) line) pieces x → AreFirstListings input recode (before ++ pieces)
first_lines_more input recode rest more number refused line before cut so_far pieces (Some count) (text, is, same) =
    first_lines input recode more (number + 1) (refused + count) (before ++ pieces) (rw same (one_more_line recode (lines input) rest more number refused count line before text cut so_far is))
first_lines_more input recode rest more number refused line before cut so_far pieces None none =
    first_lines input recode rest number refused (before ++ pieces) (rw (none, append-nil) so_far)

-- all lines are some first ones
pub lines_first : (input : List ℕ) (recode : Bool) (pieces : List (List ℕ)) (x : Option LineCounts) → LinesMake input recode pieces x → AreFirstListings input recode pieces
lines_first input recode pieces (Some counts) (all, are) =
    let whole : take (length (lines input)) (lines input) ≡ lines input = take_all (length (lines input)) (lines input) (omega arith) in
    (length (lines input), counts.refused, rw whole are)
lines_first input recode pieces None are = are

-- all lines, and then what the line that counts makes
pub total_more : (input : List ℕ) (recode : Bool) (counts : LineCounts) (listings : List (List ℕ)) → LinesMake input recode listings (Some counts)
    → (pieces : List (List ℕ)) (x : Option (Unit {0})) → MakesOne (λ (u : Unit {0}) (text : List ℕ). text ≡ total_text counts.lines counts.refused) pieces x
    → DumpMakes input recode (listings ++ pieces) (option_map (λ (u : Unit {0}). counts.refused) x)
total_more input recode counts listings (all, are) pieces (Some u) (text, is, same) = grind (arith, common_steps)
total_more input recode counts listings made pieces None none = rw (none, append-nil) (lines_first input recode listings (Some counts) made)

-- What a command line asks for is in its range.
use Rattle.mesh_tool.proofs.Common.{common_steps, ◌≡◌, ℕ, ◌+◌, ◌-◌, ◌*◌, ◌≤◌, List, [], ◌∷◌, Option, Some, Result, Ok, Err, Bool, true, ◌&&◌, sym, subst, arith, IfOk, nat_le, ◌>>=◌, only_if, is_digit, digits_of, number_of, Job, number_from, words_of, AskFor, IsJobInRange, cond_none_some as if_found}
use Rattle.mesh_tool.proofs.WordsLemmas.CommandLines.{read_is_asked}

both_within : (a : Bool) (n most : ℕ) → (a && nat_le n most) ≡ true → n ≤ most
both_within a n most h = grind (arith, common_steps)

digits_within : (most k : ℕ) (s : List ℕ) (n : ℕ) → k ≤ most → digits_of most k s ≡ Some n → n ≤ most
digits_within most k [] n le h = let e : k ≡ n = cc in subst (λ (m : ℕ). m ≤ most) e le
digits_within most k (c ∷ cs) n le h =
    let f = if_found (is_digit c && nat_le (10 * k + (c - 48)) most) (digits_of most (10 * k + (c - 48)) cs) n h in
    digits_within most (10 * k + (c - 48)) cs n (both_within (is_digit c) (10 * k + (c - 48)) most f.0) f.1

number_within : (most : ℕ) (s : List ℕ) (n : ℕ) → number_of most s ≡ Some n → n ≤ most
number_within most s n h = grind (arith, common_steps, if_found, digits_within)

at_least : (least m n : ℕ) → only_if (nat_le least m) m ≡ Some n → (least ≤ n) × (m ≡ n)
at_least least m n h = grind (arith, common_steps, if_found)

from_within : (least most : ℕ) (read : Option ℕ) (n : ℕ) → ((m : ℕ) → read ≡ Some m → m ≤ most) → (read >>= λ m. only_if (nat_le least m) m) ≡ Some n → (least ≤ n) × (n ≤ most)
from_within least most read n within h = grind (arith, common_steps, at_least)

number_in_range : (least most : ℕ) (word : List ℕ) (n : ℕ) → number_from least most word ≡ Some n → (least ≤ n) × (n ≤ most)
number_in_range least most word n h = from_within least most (number_of most word) n (λ m k. number_within most word m k) h

in_range : (words : List (List ℕ)) (j : Job) → AskFor words j → IsJobInRange j
in_range words j asks = grind (arith, common_steps, number_in_range, at_least)

pub read_in_range : (words : List (List ℕ)) (r : Result Job ℕ) → r ≡ words_of words → IfOk r IsJobInRange
read_in_range words (Ok j) h = in_range words j (read_is_asked words j (sym h))
read_in_range words (Err place) h = tt

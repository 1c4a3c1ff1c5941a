-- The listing of an empty line.
use Rattle.std.specs.Prelude.{◌≡◌, ◌≤◌, ℕ, List, ◌++◌, drop, codes, decimal}

-- what is listed of an empty line of this number, where no octet stands where a packet begins
unfoldable pub empty_line : ℕ → List ℕ
empty_line number = codes "line " ++ decimal number ++ codes " refused at 0 reason 1 Short\n"

-- from a place on stands the listing of the empty line of this number, whose digits end before the place 25
pub record HoldsEmptyLine (number start : ℕ) (text : List ℕ) : Type 0 where
  pub within : start ≤ 25
  pub listing : drop start text ≡ empty_line number
  pub behind : drop 25 text ≡ codes " refused at 0 reason 1 Short\n"

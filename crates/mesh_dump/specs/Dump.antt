-- The listing of `dump`.
use Rattle.std.specs.Prelude.{◌≡◌, ℕ, ◌+◌, List, [], ◌∷◌, ◌++◌, length, take, Bool, Option, Some, None, codes, decimal}
use Rattle.std.specs.Str.Lines.{lines}
use Rattle.mesh_dump.specs.Lines.{IsListing}
use Rattle.mesh_dump.specs.declared.listing.LineCounts.{LineCounts}

-- the listings of lines, of which the first has this number and so many are refused: one for each line, in order
abbrev pub AreListings : Bool → ℕ → List (List ℕ) → ℕ → List (List ℕ) → Type 0
AreListings recode number [] refused pieces = (refused ≡ 0) × (pieces ≡ [])
AreListings recode number (line ∷ more) refused pieces =
    (count : ℕ) × (piece : List ℕ) × (others : ℕ) × (rest : List (List ℕ))
    × IsListing recode number line count piece × AreListings recode (number + 1) more others rest
    × (refused ≡ count + others) × (pieces ≡ piece ∷ rest)

-- the listings of some first lines of the input
abbrev pub AreFirstListings : List ℕ → Bool → List (List ℕ) → Type 0
AreFirstListings input recode pieces = (count : ℕ) × (refused : ℕ) × AreListings recode 1 (take count (lines input)) refused pieces

-- the listings of all lines of the input, with their number and that of the refused ones; or those of some first lines
abbrev pub LinesMake : List ℕ → Bool → List (List ℕ) → Option LineCounts → Type 0
LinesMake input recode pieces (Some counts) = (counts.lines ≡ length (lines input)) × AreListings recode 1 (lines input) counts.refused pieces
LinesMake input recode pieces None = AreFirstListings input recode pieces

-- what is listed last: the number of lines, and of those that were refused
unfoldable pub total_text : ℕ → ℕ → List ℕ
total_text count refused = codes "lines " ++ decimal count ++ codes " refused " ++ decimal refused ++ codes "\n"

-- the pieces that `dump` makes of the input, so many lines of which are refused, with each packet written again or without: the
-- listings of all lines, and then the line that counts; or the listings of some first lines. Lines end at line feeds, and lose one
-- carriage return directly before it; a last line without a line feed counts where it isn't empty
abbrev pub DumpMakes : List ℕ → Bool → List (List ℕ) → Option ℕ → Type 0
DumpMakes input recode pieces (Some refused) =
    (listings : List (List ℕ)) × AreListings recode 1 (lines input) refused listings
    × (pieces ≡ listings ++ total_text (length (lines input)) refused ∷ [])
DumpMakes input recode pieces None = AreFirstListings input recode pieces

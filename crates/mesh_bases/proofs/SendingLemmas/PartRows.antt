-- The rows of a part.
use Rattle.mesh_bases.proofs.Common.{common_steps, ◌≡◌, ℕ, ◌+◌, ◌-◌, ◌%◌, ◌≤◌, ◌<◌, arith, ap, ◌∙◌, List, ◌∷◌, length, drop, get_or, map, Contains, Some, slice_get, slice_range, get_or-map, length-map, drop_more, slice_get_within, Contains-append_left, Contains-append_right, TcRow, State, AreOneType, HaveTypeWhole, PartSpan, part_of, AreSpans, Derived, HasRowsOf}

pub part_has : {X : Type 0} (xs : List X) (first len : ℕ) (x : X) → Contains (slice_range xs first (first + len)) x → Contains xs x
part_has xs first len x has = grind (arith, common_steps, Contains-append_right, Contains-append_left)

pub part_one_type : (rows : List TcRow) (first len : ℕ) → AreOneType rows → AreOneType (slice_range rows first (first + len))
part_one_type rows first len are row has says = are row (part_has rows first len row has) says

pub part_whole : (rows : List TcRow) (first len : ℕ) → HaveTypeWhole rows → HaveTypeWhole (slice_range rows first (first + len))
part_whole rows first len are row has = are row (part_has rows first len row has)

-- the runs of rows lie among them
pub runs_within : (rows most : ℕ) (spans : List PartSpan) → AreSpans rows most spans → (i : ℕ) (span : PartSpan) → slice_get spans i ≡ Some span → span.first + span.len ≤ rows
runs_within rows most spans are i span at = grind (arith, common_steps, slice_get_within)

-- the part of the run at a place, and those behind it
pub parts_behind : (rows : List TcRow) (spans : List PartSpan) (i : ℕ) (d : PartSpan) → i < length spans → drop i (map (part_of rows) spans) ≡ part_of rows (get_or spans i d) ∷ drop (i + 1) (map (part_of rows) spans)
parts_behind rows spans i d below =
    let mapped : List (List TcRow) = map (part_of rows) spans in
    drop_more mapped i (part_of rows d) (let size = length-map spans (part_of rows) in omega (arith, size, below))
    ∙ ap (λ (part : List TcRow). part ∷ drop (i + 1) mapped) (get_or-map (part_of rows) spans i d (part_of rows d) below)

-- sequence numbers go round
pub next_number : (first n number next : ℕ) → number ≡ (first + n) % 65536 → next ≡ (number + 1) % 65536 → next ≡ (first + (n + 1)) % 65536
next_number first n number next is one = omega (arith, is, one)

-- what a TC takes its number from is nothing that an event ends with
pub has_before : (s : State) (derived : Derived) (number : ℕ) → HasRowsOf s (record derived { sequence = number }) → HasRowsOf s derived
has_before s derived number has = record { rows = has.rows; ansn = has.ansn; emptied = has.emptied; last = has.last }

-- The listing of an empty line, made anew and from that of the line before.
use Rattle.mesh_dump.proofs.Common.{common_steps, ◌≡◌, ℕ, ◌+◌, ◌-◌, ◌<◌, ◌≤◌, ◌^◌, ◌/◌, ◌%◌, ◌⊎◌, inl, inr, List, [], ◌∷◌, ◌++◌, length, take, drop, set, codes, decimal, Bool, refl, sym, ap, ◌∙◌, arith, length-append, append_assoc, cases_lt, decimal_digit, decimal_step, drop-drop, drop_at, set_at, length-take-le, take-append-drop, Refusal, empty_line, IsListing}
use Rattle.std.proofs.Math.Seq.{drop-append_seam}
use Rattle.std.proofs.lemmas.Slice.{drop-put_mid}
use borrow.Rule.Slice.PartMut.{put_mid}
use Rattle.mesh_report.specs.Lines.{refused_line}
use Rattle.mesh_report.specs.Pieces.{numbered, named, reason_name}
use Rattle.mesh_dump.specs.Empty.{HoldsEmptyLine}
use Rattle.mesh_dump.proofs.Listed.{empty_reads}

abbrev label : List ℕ
label = codes "line "

abbrev last : List ℕ
last = codes " refused at 0 reason 1 Short\n"

-- the label put before the digits
pub laid : (number at : ℕ) (old text piece : List ℕ) → at + length (decimal number) ≡ 25 → 5 ≤ at → length text ≡ 54 → drop 25 old ≡ last
    → drop at text ≡ decimal number ++ drop 25 old → piece ≡ label → HoldsEmptyLine number (at - 5) (put_mid (at - 5) (at - (at - 5)) text piece)
unfolding empty_line
laid number at old text piece end room size behind digits is =
    let start : ℕ = at - 5 in
    let five : at - (at - 5) ≡ 5 = omega (arith, room) in
    let place : start + 5 ≡ at = omega (arith, room) in
    let written : drop at text ≡ decimal number ++ last = digits ∙ ap (λ (l : List ℕ). decimal number ++ l) behind in
    let rest : drop 5 (drop start text) ≡ decimal number ++ last = drop-drop 5 start text ∙ ap (λ (k : ℕ). drop k text) place ∙ written in
    rw (is, five) (record {
      within = omega (arith, end);
      listing = drop_at (take start text) (label ++ drop 5 (drop start text)) start (length-take-le start text (omega (arith, end, size))) ∙ ap (λ (l : List ℕ). label ++ l) rest;
      behind = drop-put_mid start 5 text label 25 (omega (arith, end, place)) (omega (arith, end, size)) refl
          ∙ ap (λ (k : ℕ). drop k text) (sym end) ∙ sym (drop-drop (length (decimal number)) at text)
          ∙ ap (drop (length (decimal number))) written ∙ drop-append_seam (decimal number) last;
    })

-- two numbers, one behind the other, have their digits but the last in common
record AreNext (old new : ℕ) : Type 0 where
  digits : List ℕ
  old_is : decimal old ≡ digits ++ (48 + old % 10) ∷ []
  new_is : decimal new ≡ digits ++ (48 + new % 10) ∷ []

are_next : (old new : ℕ) → new ≡ old + 1 → 0 < new % 10 → new < 2 ^ 64 → (old < 9) ⊎ (9 ≤ old) → AreNext old new
are_next old new is more fits (inl few) = grind (arith, common_steps, decimal_digit)
are_next old new is more fits (inr many) =
    let front : new / 10 ≡ old / 10 = omega (arith, is, more) in
    record {
      digits = decimal (old / 10);
      old_is = decimal_step old (omega (arith, many, is, more)) (omega (arith, is, fits));
      new_is = decimal_step new (omega (arith, is, many)) fits ∙ ap (λ (k : ℕ). decimal k ++ (48 + new % 10) ∷ []) front;
    }

-- another octet directly before the last part
record Replaced (front : List ℕ) (octet start : ℕ) (text : List ℕ) : Type 0 where
  listing : drop start (set text 24 octet) ≡ front ++ octet ∷ last
  behind : drop 25 (set text 24 octet) ≡ last

replaced : (front text : List ℕ) (octet old start : ℕ) → length text ≡ 54 → start ≤ 25 → drop start text ≡ front ++ old ∷ last → Replaced front octet start text
replaced front text octet old start size within listing =
    let before : List ℕ = take start text ++ front in
    let taken : length (take start text) ≡ start = length-take-le start text (omega (arith, within, size)) in
    let whole : text ≡ before ++ old ∷ last =
    sym (take-append-drop start text) ∙ ap (λ (l : List ℕ). take start text ++ l) listing ∙ sym (append_assoc (take start text) front (old ∷ last)) in
    let all : length text ≡ length before + 30 = ap length whole ∙ length-append before (old ∷ last) in
    let place : length before ≡ 24 = omega (arith, all, size) in
    let now : set text 24 octet ≡ before ++ octet ∷ last = ap (λ (l : List ℕ). set l 24 octet) whole ∙ set_at before old last octet 24 place in
    let one : length (before ++ octet ∷ []) ≡ 25 = length-append before (octet ∷ []) ∙ omega (arith, place) in
    record {
      listing = ap (drop start) (now ∙ append_assoc (take start text) front (octet ∷ last)) ∙ drop_at (take start text) (front ++ octet ∷ last) start taken;
      behind = ap (drop 25) (now ∙ sym (append_assoc before (octet ∷ []) last)) ∙ drop_at (before ++ octet ∷ []) last 25 one;
    }

line_is : (number : ℕ) (digits : List ℕ) → decimal number ≡ digits ++ (48 + number % 10) ∷ [] → empty_line number ≡ (label ++ digits) ++ (48 + number % 10) ∷ last
unfolding empty_line
line_is number digits is =
    ap (λ (l : List ℕ). label ++ (l ++ last)) is ∙ ap (λ (l : List ℕ). label ++ l) (append_assoc digits ((48 + number % 10) ∷ []) last)
    ∙ sym (append_assoc label digits ((48 + number % 10) ∷ last))

-- the last digit of the number made that of the next one
pub stepped : (old new start : ℕ) (text : List ℕ) → HoldsEmptyLine old start text → new - 1 ≡ old → 0 < new % 10 → new < 2 ^ 64 → length text ≡ 54 → HoldsEmptyLine new start (set text 24 (48 + new % 10))
stepped old new start text holds before more fits size =
    let is : new ≡ old + 1 = omega (arith, before, more) in
    let next = are_next old new is more fits (cases_lt old 9) in
    let changed = replaced (label ++ next.digits) text (48 + new % 10) (48 + old % 10) start size holds.within (holds.listing ∙ line_is old next.digits next.old_is) in
    record { within = holds.within; listing = changed.listing ∙ sym (line_is new next.digits next.new_is); behind = changed.behind }

-- ---- what the listing says

abbrev no_octet_at : Refusal
no_octet_at = record { place = 0; reason = 1 }

refused_is : (number : ℕ) → empty_line number ≡ refused_line number no_octet_at
unfolding empty_line refused_line numbered named reason_name
refused_is number =
    let place : List ℕ = codes " refused at " ++ decimal 0 in
    let reason : List ℕ = ((codes " reason " ++ decimal 1) ++ codes " Short") ++ codes "\n" in
    let place_is : last ≡ place ++ codes " reason 1 Short\n" =
    ap (λ (l : List ℕ). (codes " refused at " ++ l) ++ codes " reason 1 Short\n") (sym (decimal_digit 0 (omega arith))) in
    let reason_is : codes " reason 1 Short\n" ≡ reason = ap (λ (l : List ℕ). ((codes " reason " ++ l) ++ codes " Short") ++ codes "\n") (sym (decimal_digit 1 (omega arith))) in
    let rest : last ≡ place ++ reason = place_is ∙ ap (λ (l : List ℕ). place ++ l) reason_is in
    ap (λ (l : List ℕ). label ++ l) (ap (λ (l : List ℕ). decimal number ++ l) rest ∙ sym (append_assoc (decimal number) place reason))

-- an empty line is refused, and this is its listing
pub empty_listing : (recode : Bool) (number : ℕ) (line text : List ℕ) → length line ≡ 0 → text ≡ empty_line number → IsListing recode number line 1 text
empty_listing recode number line text none is = grind (arith, common_steps, empty_reads, refused_is)

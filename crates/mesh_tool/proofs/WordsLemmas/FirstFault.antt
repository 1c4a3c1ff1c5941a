-- Words are refused exactly at the first word at fault.
use Rattle.mesh_tool.proofs.Common.{common_steps, ◌≡◌, ℕ, ◌+◌, ◌<◌, ◌≤◌, ◌⊎◌, inl, inr, List, [], ◌∷◌, ◌++◌, length, take, drop, Option, Some, None, Result, Ok, Err, refl, sym, ap, subst, ◌∙◌, arith, append_assoc, length-append, codes, IsOk, IsErr, cases_order, take-append-drop, take-take, Job, Kind, Parsing, read_on, takes, or_at, words_of}
use Rattle.std.proofs.Math.Seq.{take-append_seam, take-append-add}
use Rattle.mesh_emulate.specs.declared.making.kind.Kind.TheVariants as kind
use Rattle.mesh_tool.specs.declared.words.asked.Parsing.TheVariants as asked
use Rattle.mesh_tool.specs.declared.words.asked.EmulateValue.TheVariants as emulates
use Rattle.mesh_tool.specs.declared.words.asked.MakeValue.TheVariants as value
use Rattle.mesh_tool.specs.Words.FirstFault.{IsCommandLine, BeginACommandLine, IsFirstAtFault}

-- ---- whatever is asked for, some words complete it

abbrev Completes : Parsing → ℕ → Type 0
Completes asked place = (more : List (List ℕ)) × IsOk (read_on asked place more)

seed_missing : (k : Kind) (n : ℕ) (seed : Option ℕ) (place : ℕ) → Completes (asked.Make (record { kind = Some k; routers = Some n; seed = seed })) place
seed_missing k n (Some seed) place = ([], refl)
seed_missing k n None place = (codes "--seed" ∷ codes "0" ∷ [], refl)

routers_missing : (k : Kind) (routers seed : Option ℕ) (place : ℕ) → Completes (asked.Make (record { kind = Some k; routers = routers; seed = seed })) place
routers_missing k (Some n) seed place = seed_missing k n seed place
routers_missing k None seed place =
    let rest = seed_missing k 2 seed (place + 1 + 1) in (codes "--routers" ∷ codes "2" ∷ rest.0, rest.1)

kind_missing : (kind : Option Kind) (routers seed : Option ℕ) (place : ℕ) → Completes (asked.Make (record { kind = kind; routers = routers; seed = seed })) place
kind_missing (Some k) routers seed place = routers_missing k routers seed place
kind_missing None routers seed place =
    let rest = routers_missing kind.Grid routers seed (place + 1 + 1) in (codes "--make" ∷ codes "grid" ∷ rest.0, rest.1)

completes : (asked : Parsing) (place : ℕ) → Completes asked place
completes asked.Nothing place = (codes "dump" ∷ [], refl)
completes (asked.Run None) place = (codes "--turns" ∷ codes "1" ∷ [], refl)
completes asked.Turns place = (codes "1" ∷ [], refl)
completes (asked.EmulateAwaits o emulates.From) place = (codes "a" ∷ codes "1.1.1.1" ∷ [], refl)
completes (asked.EmulateAwaits o (emulates.Dest from)) place = (codes "1.1.1.1" ∷ [], refl)
completes (asked.EmulateAwaits o emulates.Name) place = (codes "a" ∷ [], refl)
completes (asked.Make o) place = kind_missing o.kind o.routers o.seed place
completes (asked.MakeAwaits o value.Kind) place =
    let rest = kind_missing (Some kind.Grid) o.routers o.seed (place + 1) in (codes "grid" ∷ rest.0, rest.1)
completes (asked.MakeAwaits o value.Routers) place =
    let rest = kind_missing o.kind (Some 2) o.seed (place + 1) in (codes "2" ∷ rest.0, rest.1)
completes (asked.MakeAwaits o value.Seed) place =
    let rest = kind_missing o.kind o.routers (Some 0) (place + 1) in (codes "0" ∷ rest.0, rest.1)
completes asked place = ([], refl)

-- ---- where reading stops

-- no words behind these and the next one are right
abbrev Ends : Parsing → ℕ → List (List ℕ) → List (List ℕ) → Type 0
Ends asked place front [] = Unit {0}
Ends asked place front (word ∷ rest) = (more : List (List ℕ)) → IsErr (read_on asked place (front ++ word ∷ more))

-- the words before the place at fault can be completed, and no longer with the word there
record Stops (asked : Parsing) (place : ℕ) (words : List (List ℕ)) (fault : ℕ) : Type 0 where
  front : List (List ℕ)
  rest : List (List ℕ)
  whole : words ≡ front ++ rest
  here : fault ≡ place + length front
  goes : (more : List (List ℕ)) × IsOk (read_on asked place (front ++ more))
  ends : Ends asked place front rest

ends_on : (asked next : Parsing) (place : ℕ) (word : List ℕ) (front rest : List (List ℕ)) → takes asked place word ≡ Some next → Ends next (place + 1) front rest → Ends asked place (word ∷ front) rest
ends_on asked next place word front rest taken ends = grind (arith, common_steps)

same_place : (a b : ℕ) → (let x : Result Job ℕ = Err a in x) ≡ Err b → b ≡ a
same_place a b h = let e : a ≡ b = cc in sym e

missing_at : (place fault : ℕ) (job : Option Job) → or_at place job Ok ≡ Err fault → fault ≡ place
missing_at place fault job h = grind (arith, common_steps, same_place)

stops_on : (asked : Parsing) (place : ℕ) (word : List ℕ) (words : List (List ℕ)) (fault : ℕ) (next : Option Parsing) → takes asked place word ≡ next
    → or_at place next (λ n. read_on n (place + 1) words) ≡ Err fault
    → ((n : Parsing) → read_on n (place + 1) words ≡ Err fault → Stops n (place + 1) words fault) → Stops asked place (word ∷ words) fault
stops_on asked place word words fault None taken h on = grind (arith, common_steps, same_place, completes)
stops_on asked place word words fault (Some next) taken h on =
    let s = on next h in
    record {
      front = word ∷ s.front;
      rest = s.rest;
      whole = ap (λ (l : List (List ℕ)). word ∷ l) s.whole;
      here = let e : fault ≡ place + 1 + length s.front = s.here in omega (arith, e);
      goes = (s.goes.0, rw taken s.goes.1);
      ends = ends_on asked next place word s.front s.rest taken s.ends;
    }

stops : (asked : Parsing) (place : ℕ) (words : List (List ℕ)) (fault : ℕ) → read_on asked place words ≡ Err fault → Stops asked place words fault
stops asked place [] fault h = grind (arith, common_steps, missing_at, completes)
stops asked place (word ∷ words) fault h = stops_on asked place word words fault (takes asked place word) refl h (λ n k. stops n (place + 1) words fault k)

-- ---- words that are refused are refused at the first word at fault

not_both : (r : Result Job ℕ) → IsOk r → IsErr r → ⊥
not_both r ok err = grind (arith, common_steps)

begun_ends : (words : List (List ℕ)) (place : ℕ) (front : List (List ℕ)) (word : List ℕ) (rest : List (List ℕ)) → words ≡ front ++ word ∷ rest → place ≡ length front
    → Ends asked.Nothing 0 front (word ∷ rest) → BeginACommandLine (take (place + 1) words) → ⊥
begun_ends words place front word rest whole here ends h8 = grind (arith, common_steps, take-append-add, not_both)

fault_of : (words : List (List ℕ)) (place : ℕ) (front rest : List (List ℕ)) → words ≡ front ++ rest → place ≡ length front → words_of words ≡ Err place → Ends asked.Nothing 0 front rest
    → ((place < length words) × (BeginACommandLine (take (place + 1) words) → ⊥)) ⊎ ((place ≡ length words) × (IsCommandLine words → ⊥))
fault_of words place front [] whole here h ends = grind (arith, common_steps)
fault_of words place front (word ∷ rest) whole here h ends =
    let e : length words ≡ length front + length (word ∷ rest) = ap length whole ∙ length-append front (word ∷ rest) in
    inl (omega (arith, e, here), begun_ends words place front word rest whole here ends)

pub first_at_fault : (words : List (List ℕ)) (place : ℕ) → words_of words ≡ Err place → IsFirstAtFault words place
first_at_fault words place h =
    let s = stops asked.Nothing 0 words place h in
    let here : place ≡ length s.front = let e : place ≡ 0 + length s.front = s.here in omega (arith, e) in
    let front_is : take place words ≡ s.front = ap (λ n. take n words) here ∙ ap (take (length s.front)) s.whole ∙ take-append_seam s.front s.rest in
    record {
      before = (s.goes.0, subst (λ (l : List (List ℕ)). IsOk (words_of (l ++ s.goes.0))) (sym front_is) s.goes.1);
      fault = fault_of words place s.front s.rest s.whole here h s.ends;
    }

-- ---- and there is one such place alone

shorter : (words : List (List ℕ)) (m n : ℕ) → m ≤ n → BeginACommandLine (take n words) → BeginACommandLine (take m words)
shorter words m n le (more, ok) =
    let parts : take m words ++ drop m (take n words) ≡ take n words =
    ap (λ (l : List (List ℕ)). l ++ drop m (take n words)) (sym (take-take m n words le)) ∙ take-append-drop m (take n words) in
    let same : take n words ++ more ≡ take m words ++ (drop m (take n words) ++ more) =
    ap (λ (l : List (List ℕ)). l ++ more) (sym parts) ∙ append_assoc (take m words) (drop m (take n words)) more in
    (drop m (take n words) ++ more, subst (λ (l : List (List ℕ)). IsOk (words_of l)) same ok)

not_before : (words : List (List ℕ)) (p q : ℕ) → IsFirstAtFault words p → IsFirstAtFault words q → p < q → ⊥
not_before words p q a b lt = elim a.fault [
  | inl (within, not) ↦ not (shorter words (p + 1) q (omega (arith, lt)) b.before)
  | inr (end, none) ↦ elim b.fault [
    | inl (within, not) ↦ omega (arith, lt, end, within)
    | inr (end', none') ↦ omega (arith, lt, end, end')
  ]
]

one_place : (words : List (List ℕ)) (p q : ℕ) → IsFirstAtFault words p → IsFirstAtFault words q → p ≡ q
one_place words p q a b = elim (cases_order p q) [
  | inl same ↦ same
  | inr (inl lt) ↦ absurd (not_before words p q a b lt)
  | inr (inr lt) ↦ absurd (not_before words q p b a lt)
]

not_a_command : (words : List (List ℕ)) (place : ℕ) → IsFirstAtFault words place → IsCommandLine words → ⊥
not_a_command words place first ok = elim first.fault [
  | inl (within, not) ↦ not (drop (place + 1) words, subst (λ (l : List (List ℕ)). IsOk (words_of l)) (sym (take-append-drop (place + 1) words)) ok)
  | inr (end, none) ↦ none ok
]

refused_at : (words : List (List ℕ)) (place : ℕ) (r : Result Job ℕ) → words_of words ≡ r → IsFirstAtFault words place → r ≡ Err place
refused_at words place (Ok j) h first = absurd (not_a_command words place first (rw h refl))
refused_at words place (Err q) h first = ap (λ (n : ℕ). Err n) (one_place words q place (first_at_fault words q h) first)

pub refused_at_first : (words : List (List ℕ)) (place : ℕ) → IsFirstAtFault words place → words_of words ≡ Err place
refused_at_first words place first = refused_at words place (words_of words) refl first

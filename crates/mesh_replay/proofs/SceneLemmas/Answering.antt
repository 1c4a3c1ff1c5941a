-- What is answered where lines that were read lead to.
use Rattle.mesh_replay.proofs.Common.{common_steps, ◌≡◌, ℕ, ◌+◌, ◌<◌, ◌↔◌, List, [], ◌∷◌, ◌++◌, refl, sym, ◌∙◌, ap, subst, length, drop, append_assoc, append-nil, length-append, arith, drop_all, length-drop, Scenario, NetState, IsOver, Replay, Case, Progress, Outcome, Fits, Unfit, Over, at, Went, HasRead, Comes, Reader, Reaches, IsWholeTrace, IsUnfit, At_line, Behind_all, TracePosition, lines_of, lines_from, leads_on}
use Rattle.mesh_replay.specs.declared.answer.Replay.TheVariants.{Yes, No}
use Rattle.mesh_replay.specs.Checking.Answers.{ReplayAnswers}
use Rattle.mesh_trace.specs.Positions.Leading.{Fits as FitsBehind}
use Rattle.mesh_trace.proofs.PositionsLemmas.Fixed.{one_decides_fit, one_decides_end, unfit_is_not_whole, one_unfit, nothing_follows}
use Rattle.mesh_replay.proofs.CommandLemmas.Rules.{no_lines}

-- lines that were read behind others
record HasReadTo (case : Case) (reader : Reader) (p : TracePosition) : Type 0 where
  lines : List (List ℕ)
  reaches : Reaches case.scenario.now lines p
  read : lines_of case.trace.now ≡ lines ++ lines_from case.trace.now reader.at
  taken : reader.taken ≡ length lines

more_read : (case : Case) (old new : Reader) (net : NetState) (q : TracePosition) → (h : HasRead case old net) → Went case.trace.now old new (at net h.router []) q → HasReadTo case new q
more_read case old new net q h went = record {
  lines = h.lines ++ went.lines;
  reaches = let (first, is, leads) = h.reaches in (first, is, leads_on first (at net h.router []) q h.lines went.lines leads went.leads);
  read = h.read ∙ (ap (λ (l : List (List ℕ)). h.lines ++ l) went.read ∙ sym (append_assoc h.lines went.lines (lines_from case.trace.now new.at)));
  taken = let a = h.taken in let b = went.taken in let c = length-append h.lines went.lines in omega (arith, a, b, c);
}

-- the lines of an event that fit lead on to the next network between events
pub read_on : (case : Case) (old new : Progress) (before after : NetState) (outcome : Outcome) → HasRead case old.reader before → Comes case old new before after outcome → outcome ≡ Fits → HasRead case new.reader after
read_on case old new before after outcome h comes is =
    let (y, went) = subst (Comes case old new before after) is comes h.router in
    let more = more_read case old.reader new.reader before (at after y []) h went in
    record { lines = more.lines; router = y; reaches = more.reaches; read = more.read; taken = more.taken }

-- where no event is left, the lines lead to a network whose run is over
pub read_to_end : (case : Case) (old new : Progress) (before after : NetState) (outcome : Outcome) → HasRead case old.reader before → Comes case old new before after outcome → outcome ≡ Over → (net : NetState) × HasRead case new.reader net × IsOver net
read_to_end case old new before after outcome h comes is =
    let (over, same, stays) = subst (Comes case old new before after) is comes in
    (before, subst (λ (r : Reader). HasRead case r before) (sym stays) h, over)

-- lines of which the next doesn't fit, or is missing
unfit_at : (s : Scenario) (all lines left : List (List ℕ)) (p : TracePosition) → Reaches s lines p → all ≡ lines ++ left → ((line : List ℕ) (rest : List (List ℕ)) → left ≡ line ∷ rest → FitsBehind s lines line → ⊥) →
    (IsWholeTrace s lines → ⊥) → IsUnfit s all (length lines + 1)
unfit_at s all lines [] p reaches is none undone =
    let same : all ≡ lines = is ∙ append-nil lines in
    subst (λ (l : List (List ℕ)). IsUnfit s l (length lines + 1)) (sym same) (Behind_all p reaches undone)
unfit_at s all lines (line ∷ rest) p reaches is none undone = At_line p lines line rest is reaches (none line rest refl)

-- the lines of an event that don't fit
pub stopped : (case : Case) (old new : Progress) (before after : NetState) (outcome : Outcome) → HasRead case old.reader before → Comes case old new before after outcome → outcome ≡ Unfit →
    IsUnfit case.scenario.now (lines_of case.trace.now) (new.reader.taken + 1)
stopped case old new before after outcome h comes is =
    let s = case.scenario.now in
    let stops = subst (Comes case old new before after) is comes h.router in
    let more = more_read case old.reader new.reader before stops.stop h stops.went in
    rw more.taken (unfit_at s (lines_of case.trace.now) more.lines (lines_from case.trace.now new.reader.at) stops.stop more.reaches more.read
    (λ line rest left. one_decides_fit s more.lines line stops.stop more.reaches (λ q leads. stops.holds line rest q left leads)) (one_decides_end s more.lines stops.stop more.reaches stops.undone))

-- at the end of a run
module _ (case : Case) (reader : Reader) (net : NetState) (h : HasRead case reader net) (over : IsOver net) where
  whole_there : IsWholeTrace case.scenario.now h.lines
  whole_there = (at net h.router [], h.reaches, record { over = over; none = refl })

  -- no line is left
  pub whole_if_done : (count : ℕ) → length case.trace.now ≡ reader.at → count ≡ reader.taken → ReplayAnswers case.scenario.now (lines_of case.trace.now) (Yes count)
  whole_if_done count done is =
      let none : lines_from case.trace.now reader.at ≡ [] = ap lines_of (drop_all reader.at case.trace.now (omega (arith, done))) in
      let all : lines_of case.trace.now ≡ h.lines = h.read ∙ (ap (λ (l : List (List ℕ)). h.lines ++ l) none ∙ append-nil h.lines) in
      rw all (whole_there, is ∙ h.taken)

  -- some line is left
  pub longer_if_not : reader.at < length case.trace.now → IsUnfit case.scenario.now (lines_of case.trace.now) (reader.taken + 1)
  longer_if_not left = by_lines (lines_from case.trace.now reader.at) refl
    where
      by_lines : (more : List (List ℕ)) → lines_from case.trace.now reader.at ≡ more → IsUnfit case.scenario.now (lines_of case.trace.now) (reader.taken + 1)
      by_lines [] e = absurd (let long = length-drop reader.at case.trace.now in let none = ap length (no_lines (drop reader.at case.trace.now) e) in omega (arith, long, none, left))
      by_lines (line ∷ rest) e =
          rw h.taken (At_line (at net h.router []) h.lines line rest (h.read ∙ ap (λ (l : List (List ℕ)). h.lines ++ l) e) h.reaches (nothing_follows case.scenario.now h.lines line whole_there))

-- Each answer comes exactly where it says

pub yes_exactly : (s : Scenario) (lines : List (List ℕ)) (answer : Replay) → ReplayAnswers s lines answer → (count : ℕ) → answer ≡ Yes count ↔ IsWholeTrace s lines × (count ≡ length lines)
yes_exactly s lines answer h3 count = grind (arith, common_steps, unfit_is_not_whole)

pub no_exactly : (s : Scenario) (lines : List (List ℕ)) (answer : Replay) → ReplayAnswers s lines answer → (line : ℕ) → answer ≡ No line ↔ IsUnfit s lines line
no_exactly s lines answer h3 line = grind (arith, common_steps, unfit_is_not_whole, one_unfit)

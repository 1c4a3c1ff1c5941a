-- What a run leaves by its answer, part by part.
use Rattle.mesh_run.proofs.Common.{common_steps, ◌≡◌, ℕ, ◌^◌, ◌<◌, ◌≤◌, List, map, take, length, Option, Some, None, Result, Ok, Err, refl, sym, ap, subst, arith, inl, inr, OnOk, RunSetup, Sound, State, IsKeptOf, keeps_same, stops_in, Report, TellsMore, Completes, FinishesTurns, Spends, ToldNothing, RouterMakes, RouterEnds, EndsRun, StatesSetup, ToldInCall, told, ArePortsAttached, IsTold, WholeRouterRun, SpendsTurns, RunsShort, RouterRunMakes, IsReport, RunFault, attached_report, moment_of, DoesTurns, StopsTurns, Ended}
use Rattle.mesh_config.specs.RunSettings.{run_refusals}
use Rattle.mesh_io.specs.Faults.{Rose, RoseByOne}
use Rattle.mesh_io.specs.Pieces.{MakesOne, PutsAll, PutsPieces}
use Rattle.mesh_io.specs.declared.stop.Stop.{Stop}
use Rattle.mesh_run.specs.Run.RunsShort.{Before_turns, In_turns}
use Rattle.mesh_run.specs.declared.fault.RunFault.TheVariants as fault
use Rattle.mesh_run.proofs.Moments.{below_end, reaches_end}
use Rattle.mesh_config.specs.Keys.Faults.{first}
use Rattle.mesh_run.proofs.TurnsLemmas.Kept.{whole_at_end}
use Rattle.mesh_run.proofs.TurnsLemmas.Runs.{keep_sound}
use Rattle.mesh_run.proofs.TurnsLemmas.Tellings.{tells_more}
use Rattle.mesh_run.proofs.TurnsLemmas.Whole.{stops_behind}

-- Behind the attaches

module _ (setup : RunSetup) (most : ℕ) (state : State) (ended : Ended) (k l : Option (List ℕ)) (a b : Option (List Report))
    (does : DoesTurns setup state ended k l a b) where
  early : setup.end < 2 ^ 62
  early = omega (arith, setup.end_in_range.most)

  some : 0 < setup.end
  some = omega (arith, setup.end_in_range.least)

  -- of the router all is kept, where the turns come to the end
  whole_left : setup.end ≤ ended.greatest → (rest : State) → IsKeptOf setup.end state rest → state ≡ rest
  whole_left reached rest kept = whole_at_end setup.end (length setup.ports) _ some does.moments does.reports _ rest does.turns.goes (omega (arith, early, reached)) kept

  -- it is sound
  pub sound_left : setup.end ≤ ended.greatest → (rest : State) → IsKeptOf setup.end state rest → Sound rest
  sound_left reached rest kept = subst Sound (whole_left reached rest kept) (keep_sound setup does.moments does.reports _ does.turns)

  -- its turns were done, and its text is put
  finishes : ended.turns ≤ most → setup.end ≤ ended.greatest → (rest : State) → IsKeptOf setup.end state rest → (text : List ℕ) →
      IsReport setup.end ended rest text → FinishesTurns setup most k l a b text
  finishes within reached rest kept text report = record {
    moments = does.moments;
    reports = does.reports;
    clock_tells = does.clock_tells;
    air_tells = does.air_tells;
    within = omega (arith, within, ap (λ (e : Ended). e.turns) does.ended_is);
    is_text = record {
      now = moment_of 0 ended.greatest;
      state = state;
      turns = does.turns;
      ends = reaches_end setup.end (length setup.ports) early _ some does.moments does.reports _ does.turns.goes (omega (arith, early, reached));
      report = subst (λ (e : Ended). IsReport setup.end e state text) does.ended_is
          (subst (λ (s : State). IsReport setup.end ended s text) (sym (whole_left reached rest kept)) report);
    };
  }

  -- what the report of what is kept of it makes
  report_makes : ended.turns ≤ most → setup.end ≤ ended.greatest → (rest : State) → IsKeptOf setup.end state rest → (pieces : List (List ℕ)) (x : Option (Unit {0})) →
      MakesOne (λ (u : Unit {0}) (text : List ℕ). IsReport setup.end ended rest text) pieces x → RouterMakes setup most k l a b pieces x
  report_makes within reached rest kept pieces (Some u) (text, report, is) = (text, finishes within reached rest kept text report, is)
  report_makes within reached rest kept pieces None none = (none, inr (stops_behind setup most state ended k l a b within does))

  -- what is left by it
  pub report_left : ended.turns ≤ most → setup.end ≤ ended.greatest → (rest : State) → IsKeptOf setup.end state rest → (o o' : Option (List ℕ)) (f f' : ℕ) →
      PutsAll (MakesOne (λ (u : Unit {0}) (text : List ℕ). IsReport setup.end ended rest text)) o o' tt → RouterEnds setup most k l a b o o' f f' (Ok tt)
  report_left within reached rest kept o o' f f' (pieces, made, stands) = (pieces, report_makes within reached rest kept pieces (Some tt) made, stands)

  pub report_stops : ended.turns ≤ most → setup.end ≤ ended.greatest → (rest : State) → IsKeptOf setup.end state rest → (o o' : Option (List ℕ)) (f f' : ℕ) (why : Stop) →
      PutsPieces (MakesOne (λ (u : Unit {0}) (text : List ℕ). IsReport setup.end ended rest text)) o o' f f' (Err why) → RouterEnds setup most k l a b o o' f f' (Err (fault.Stopped why))
  report_stops within reached rest kept o o' f f' why stops =
      stops_in (MakesOne (λ (u : Unit {0}) (text : List ℕ). IsReport setup.end ended rest text)) (RouterMakes setup most k l a b) (λ x. x) o o' f f' why refl stops (report_makes within reached rest kept)

  -- all its turns were done, below the end
  pub spends : ended.greatest < setup.end → Spends setup ended.turns ended.greatest setup.end k l a b
  spends below = record {
    end_is = refl;
    moments = does.moments;
    reports = does.reports;
    clock_tells = does.clock_tells;
    air_tells = does.air_tells;
    now = moment_of 0 ended.greatest;
    state = state;
    is_turns = does.turns;
    count = sym (ap (λ (e : Ended). e.turns) does.ended_is);
    below = below_end setup.end (length setup.ports) early _ some does.moments does.reports _ does.turns.goes (omega (arith, early, below));
    greatest_is = ap (λ (e : Ended). e.greatest) does.ended_is;
  }

-- In all

module _ (input : List ℕ) (setup : RunSetup) (stated : StatesSetup input setup) (most : ℕ) (k l : Option (List ℕ)) (a b c : Option (List Report)) (n : ℕ)
    (ports_told : TellsMore a b (map attached_report setup.ports)) (attached : n ≡ length setup.ports) where
  -- the attaches, and then what was told in the turns
  is_told : (moments : List ℕ) (reports : List Report) → TellsMore k l moments → TellsMore b c reports → IsTold setup moments reports (told k l a c n)
  is_told moments reports clock air = grind (arith, common_steps, tells_more)

  whole_run : (text : List ℕ) → FinishesTurns setup most k l b c text → WholeRouterRun input most (told k l a c n)
  whole_run text f = record {
    setup = setup;
    stated = stated;
    moments = f.moments;
    reports = f.reports;
    is_told = is_told f.moments f.reports f.clock_tells f.air_tells;
    within = f.within;
    text = text;
    is_text = f.is_text;
  }

  spends_turns : (turns greatest end : ℕ) → Spends setup turns greatest end k l b c → SpendsTurns input turns greatest end (told k l a c n)
  spends_turns turns greatest end s = record {
    setup = setup;
    stated = stated;
    end_is = s.end_is;
    moments = s.moments;
    reports = s.reports;
    is_told = is_told s.moments s.reports s.clock_tells s.air_tells;
    now = s.now;
    state = s.state;
    is_turns = s.is_turns;
    count = s.count;
    below = s.below;
    greatest_is = s.greatest_is;
  }

  attached_alone : ToldNothing k l b c → ArePortsAttached setup (length setup.ports) (told k l a c n)
  attached_alone h0 = grind (arith, common_steps)

  stops_short : StopsTurns setup most k l b c → RunsShort input most (told k l a c n)
  stops_short s = In_turns setup s.moments s.reports stated (is_told s.moments s.reports s.clock_tells s.air_tells) s.within s.stops

  -- what is made behind the attaches is what the run makes
  run_made : (pieces : List (List ℕ)) (x : Option (Unit {0})) → RouterMakes setup most k l b c pieces x → RouterRunMakes input most (told k l a c n) pieces x
  unfolding whole_run
  run_made pieces (Some u) (text, finishes, is) = (whole_run text finishes, is)
  run_made pieces None (none, inl quiet) = (none, Before_turns setup stated (attached_alone quiet))
  run_made pieces None (none, inr s) = (none, stops_short s)

  pub ends_behind : (o o' : Option (List ℕ)) (f f' af af' : ℕ) (r : Result (Unit {0}) RunFault) →
      RouterEnds setup most k l b c o o' f f' r → EndsRun input most (told k l a c n) o o' f f' af af' r
  ends_behind o o' f f' af af' (Ok u) (pieces, made, stands) = (pieces, run_made pieces (Some u) made, stands)
  ends_behind o o' f f' af af' (Err (fault.Refused number key)) h = absurd h
  ends_behind o o' f f' af af' (Err (fault.Attach interface)) h = absurd h
  ends_behind o o' f f' af af' (Err (fault.Turns turns greatest end)) (all, s, keeps) = (all, spends_turns turns greatest end s, keeps)
  ends_behind o o' f f' af af' (Err (fault.Stopped why)) stops =
      stops_in (RouterMakes setup most k l b c) (RouterRunMakes input most (told k l a c n)) (λ x. x) o o' f f' why refl stops run_made

-- an attach failed
pub attach_left : (input : List ℕ) (setup : RunSetup) (most : ℕ) (k : Option (List ℕ)) (a b : Option (List Report)) (o : Option (List ℕ)) (n f af af' i : ℕ) →
    StatesSetup input setup → i < length setup.ports → n ≡ i → TellsMore a b (map attached_report (take i setup.ports)) → RoseByOne af af' →
    EndsRun input most (told k k a b n) o o f f af af' (Err (fault.Attach i))
attach_left input setup most k a b o n f af af' i stated fewer number tells rose = (
  record { setup = setup; stated = stated; fewer = fewer; is_attached = record { moments = refl; reports = tells; attached = number } },
  rose,
  keeps_same o,
)

-- By the answer

module _ (input : List ℕ) (most : ℕ) (t : ToldInCall) (o o' : Option (List ℕ)) (f f' af af' : ℕ) where
  pub done_left : (r : Result (Unit {0}) RunFault) → EndsRun input most t o o' f f' af af' r → OnOk r (PutsAll (RouterRunMakes input most t) o o' tt)
  done_left r h = grind (arith, common_steps)

  pub by_answer : (r s : Result (Unit {0}) RunFault) → r ≡ s → EndsRun input most t o o' f f' af af' r → EndsRun input most t o o' f f' af af' s
  by_answer r s e h = subst (λ (x : Result (Unit {0}) RunFault). EndsRun input most t o o' f f' af af' x) e h

  pub completes : (r : Result (Unit {0}) RunFault) → EndsRun input most t o o' f f' af af' r → first (run_refusals input) ≡ None →
      ((setup : RunSetup) → StatesSetup input setup → t.attached' ≡ length setup.ports) → (Rose f f' → ⊥) → Completes r
  completes r h clear attached whole = grind (arith, common_steps)

-- What the clauses of an event say of a core to which all is kept, put together.
use Rattle.mesh_core.proofs.Common.{arith, common_steps, ◌≡◌, ◌<◌, ◌≤◌, ◌++◌, ℕ, List, length, take, take_at, sym, ap, ◌∙◌, Result, Ok, Err, Bool, true, subst, All, IfOk, OnOk, OnErr, Sound, State, Arrival, Heard, Frame, sent_since, OnlyAppends, Hear, Tick, Step, Heard_frame, Ticked, Hears, TicksAt, due, IsSendable, since_same, step_sound, EventWants, Outdated, IsKeptFor, KeepsWanted, HearsAndKeeps, HearsTo, TicksTo, TakesBack, kept_answer, CoreValue}

-- a core has heard a frame, or met an allocation failure
pub record HearClauses {E : Type 0} (came : Result Heard E) (fates : Bool) (old : State) (arrival : Arrival) (bytes : List ℕ) (before after : List Frame) (new : State) : Type 0 where
  pub step : IfOk came (λ answer. Step old (Hear arrival bytes) (sent_since before after) new)
  pub answer : IfOk came (λ kept. (answer : Heard) × (kept ≡ kept_answer fates answer) × Hears old arrival bytes answer (sent_since before after) new)
  pub appended : after ≡ before ++ sent_since before after
  pub sendable : OnOk came (All (IsSendable old.settings) (sent_since before after))
  pub settings : OnOk came (new.settings ≡ old.settings)
  pub last : OnOk came (new.last ≤ arrival.now)
  pub due : OnOk came (due new ≡ due old)
  pub sound : OnOk came (Sound new)
  pub wanting : OnErr came (after ≡ before)

-- its clock has ticked, or it met an allocation failure
pub record TickClauses {A E : Type 0} (came : Result A E) (old : State) (now : ℕ) (before after : List Frame) (new : State) : Type 0 where
  pub step : OnOk came (Step old (Tick now) (sent_since before after) new)
  pub appended : after ≡ before ++ sent_since before after
  pub sendable : OnOk came (All (IsSendable old.settings) (sent_since before after))
  pub settings : OnOk came (new.settings ≡ old.settings)
  pub last : OnOk came (new.last ≡ now)
  pub due : OnOk came (now < due new)
  pub sound : OnOk came (Sound new)
  pub wanting : OnErr came (after ≡ before)

-- what an event that met an allocation failure has put at the end is taken out again
back_on_err : {A E : Type 0} (came : Result A E) (count : ℕ) (before mid after : List Frame) → count ≡ length before → OnlyAppends before mid → TakesBack came count mid after → OnErr came (after ≡ before)
back_on_err (Ok x) count before mid after counted only back = tt
back_on_err (Err e) count before mid after counted (sent, is) back = back.err ∙ (ap (λ (f : List Frame). take count f) is ∙ take_at before sent count (sym counted))

-- where fates are wanted, all of an answer is kept
all_of_kept : (kept answer : Heard) → kept ≡ kept_answer true answer → kept ≡ answer
all_of_kept kept answer is = grind (arith, common_steps)

pub whole_answer : {E : Type 0} (came : Result Heard E) (P : Heard → Type 0) → IfOk came (λ kept. (answer : Heard) × (kept ≡ kept_answer true answer) × P answer) → IfOk came P
whole_answer came P h2 = grind (arith, common_steps, all_of_kept)

-- where both are wanted, all is kept
pub all_kept : (wants : EventWants) (whole rest : State) → wants.relays ≡ true → wants.routes ≡ true → IsKeptFor wants whole rest → whole ≡ rest
all_kept wants whole rest relays routes kept = grind (arith, common_steps)

pub keeps_all : (LeadsTo : State → Type 0) (wants : EventWants) (outdated : Outdated) (new : State) → wants.relays ≡ true → wants.routes ≡ true → KeepsWanted LeadsTo wants outdated new → LeadsTo new
keeps_all LeadsTo wants outdated new relays routes keeps = subst LeadsTo (all_kept wants keeps.whole new relays routes keeps.rest) keeps.leads

module _ {E : Type 0} (wants : EventWants) (arrival : Arrival) (bytes : List ℕ) (before after : List Frame) (outdated : Outdated) (new : State) where
  hears_here : (came : Result Heard E) → wants.relays ≡ true → wants.routes ≡ true → (old : State) → Sound old → OnErr came (after ≡ before) →
      IfOk came (λ kept. HearsAndKeeps wants old arrival bytes kept before after outdated new) → HearClauses came wants.fates old arrival bytes before after new
  hears_here (Ok kept) relays routes old sound wanting heard =
      let answer : Heard = heard.answer in
      let to : HearsTo wants old arrival bytes answer before after outdated new = heard.hears in
      let hears : Hears old arrival bytes answer (sent_since before after) new = keeps_all (Hears old arrival bytes answer (sent_since before after)) wants outdated new relays routes to.leaves in
      let step : Step old (Hear arrival bytes) (sent_since before after) new = Heard_frame answer hears in
      record {
        step = step;
        answer = (answer, heard.kept_is, hears);
        appended = to.appended;
        sendable = to.sendable;
        settings = to.settings;
        last = to.last;
        due = to.due;
        sound = step_sound old (Hear arrival bytes) (sent_since before after) new sound step;
        wanting = tt;
      }
  hears_here (Err e) relays routes old sound wanting to = grind (arith, common_steps, since_same)

  hears_left : (count : ℕ) (came : Result Heard E) (old : State) (mid : List Frame) → TakesBack came count mid after → IfOk came (λ kept. HearsAndKeeps wants old arrival bytes kept before mid outdated new) →
      IfOk came (λ kept. HearsAndKeeps wants old arrival bytes kept before after outdated new)
  hears_left count (Ok kept) old mid left to = subst (λ (f : List Frame). HearsAndKeeps wants old arrival bytes kept before f outdated new) (sym left.ok) to
  hears_left count (Err e) old mid left to = tt

  pub hear_clauses : {shown core : CoreValue} {mid : List Frame} {count : ℕ} (came : Result Heard E) → wants.relays ≡ true → wants.routes ≡ true → shown ≡ core → Sound shown.state → count ≡ length before → OnlyAppends before mid → TakesBack came count mid after →
      IfOk came (λ kept. HearsAndKeeps wants shown.state arrival bytes kept before mid outdated new) → HearClauses came wants.fates core.state arrival bytes before after new
  hear_clauses {shown} {core} {mid} {count} came relays routes is sound counted only left to =
      subst (λ (v : CoreValue). HearClauses came wants.fates v.state arrival bytes before after new) is
      (hears_here came relays routes shown.state sound (back_on_err came count before mid after counted only left) (hears_left count came shown.state mid left to))

module _ {A E : Type 0} (wants : EventWants) (now : ℕ) (before after : List Frame) (outdated : Outdated) (new : State) where
  ticks_here : (came : Result A E) → wants.relays ≡ true → wants.routes ≡ true → (old : State) → Sound old → OnErr came (after ≡ before) →
      OnOk came (TicksTo wants old now before after outdated new) → TickClauses came old now before after new
  ticks_here (Ok x) relays routes old sound wanting to =
      let step : Step old (Tick now) (sent_since before after) new = Ticked (keeps_all (TicksAt old now (sent_since before after)) wants outdated new relays routes to.leaves) in
      record {
        step = step;
        appended = to.appended;
        sendable = to.sendable;
        settings = to.settings;
        last = to.last;
        due = to.due;
        sound = step_sound old (Tick now) (sent_since before after) new sound step;
        wanting = tt;
      }
  ticks_here (Err e) relays routes old sound wanting to = record { step = tt; appended = since_same before after wanting; sendable = tt; settings = tt; last = tt; due = tt; sound = tt; wanting = wanting }

  ticks_left : (count : ℕ) (came : Result A E) (old : State) (mid : List Frame) → TakesBack came count mid after → OnOk came (TicksTo wants old now before mid outdated new) →
      OnOk came (TicksTo wants old now before after outdated new)
  ticks_left count (Ok x) old mid left to = subst (λ (f : List Frame). TicksTo wants old now before f outdated new) (sym left.ok) to
  ticks_left count (Err e) old mid left to = tt

  pub tick_clauses : {shown core : CoreValue} {mid : List Frame} {count : ℕ} (came : Result A E) → wants.relays ≡ true → wants.routes ≡ true → shown ≡ core → Sound shown.state → count ≡ length before → OnlyAppends before mid → TakesBack came count mid after →
      OnOk came (TicksTo wants shown.state now before mid outdated new) → TickClauses came core.state now before after new
  tick_clauses {shown} {core} {mid} {count} came relays routes is sound counted only left to =
      subst (λ (v : CoreValue). TickClauses came v.state now before after new) is
      (ticks_here came relays routes shown.state sound (back_on_err came count before mid after counted only left) (ticks_left count came shown.state mid left to))

-- Lines that are read lead on, and so items of an event are told.
use Rattle.mesh_replay.proofs.Common.{ℕ, List, [], ◌∷◌, ◌++◌, refl, sym, ◌∙◌, ap, append_assoc, length-append, arith, Bool, true, false, ◌≡◌, zero, suc, subst, set-set, slice_get, slice_set, Some, Reader, LineLeads, TracePosition, IsDone, Item, with_state, with_traffic, lines_from, IsReaderOf, leads_on as walks_on, Went, NothingLeadsOn, StopsBefore, FitsOrStops, at, IsStill, TookText, State, Traffic as Flights, Case, CheckedEvent, Progress, MayBeIn, IsProgress, LeadsPast, TellsItems, set_here}

-- ---- Lines that are read lead on, one after the other.

-- no line was read
pub went_nowhere : {trace : List ℕ} {reader : Reader} {p : TracePosition} → Went trace reader reader p p
went_nowhere = record { lines = []; leads = refl; read = refl; taken = omega arith }

-- one line was read, which leads on
pub went_one : {trace : List ℕ} {old new : Reader} {text : List ℕ} {p q : TracePosition} → (took : TookText trace old new text) → LineLeads p took.line q → Went trace old new p q
went_one {q = q} took leads = record { lines = took.line ∷ []; leads = (q, leads, refl); read = took.lines; taken = took.taken }

-- then more lines
pub went_on : {trace : List ℕ} {old mid new : Reader} {p q r : TracePosition} → Went trace old mid p q → Went trace mid new q r → Went trace old new p r
went_on {trace} {new = new} {p = p} {q = q} {r = r} one more = record {
  lines = one.lines ++ more.lines;
  leads = walks_on p q r one.lines more.lines one.leads more.leads;
  read = one.read ∙ (ap (λ (l : List (List ℕ)). one.lines ++ l) more.read ∙ sym (append_assoc one.lines more.lines (lines_from trace new.at)));
  taken = let a = one.taken in let b = more.taken in let c = length-append one.lines more.lines in omega (arith, a, b, c);
}

-- lines lead to where they stop
pub stops_on : {trace : List ℕ} {old mid new : Reader} {p q : TracePosition} → Went trace old mid p q → StopsBefore trace mid new q → StopsBefore trace old new p
stops_on went stops = record { stop = stops.stop; went = went_on went stops.went; holds = stops.holds; undone = stops.undone }

-- no line is read where the next one doesn't fit
pub stops_here : {trace : List ℕ} {old new : Reader} {p : TracePosition} → IsStill old new → NothingLeadsOn trace old p → (IsDone p → ⊥) → StopsBefore trace old new p
stops_here {trace} {p = p} still holds undone = record {
  stop = p;
  went = record { lines = []; leads = refl; read = ap (lines_from trace) (sym still.place); taken = let same = still.taken in omega (arith, same) };
  holds = λ line rest q there leads. holds line rest q (ap (lines_from trace) (sym still.place) ∙ there) leads;
  undone = undone;
}

-- lines that fit, then more lines
pub goes_on : {trace : List ℕ} {old mid new : Reader} {p q r : TracePosition} {fits : Bool} → Went trace old mid p q → FitsOrStops trace mid new q r fits → FitsOrStops trace old new p r fits
goes_on went goes = record { goes = λ yes. went_on went (goes.goes yes); stops = λ no. stops_on went (goes.stops no) }

-- they fit, so they lead there
pub goes_there : {trace : List ℕ} {old new : Reader} {p q : TracePosition} → Went trace old new p q → FitsOrStops trace old new p q true
goes_there went = record { goes = λ yes. went; stops = λ no. absurd cc }

-- they stop on the way to wherever
pub goes_not : {trace : List ℕ} {old new : Reader} {p q : TracePosition} → StopsBefore trace old new p → FitsOrStops trace old new p q false
goes_not stops = record { goes = λ yes. absurd cc; stops = λ no. stops }

-- ---- Items of an event that are told, one after the other.

-- ---- of one state of the router

pub set_itself : {A : Type 0} (xs : List A) (i : ℕ) (a : A) → slice_get xs i ≡ Some a → slice_set xs i a ≡ xs
set_itself [] i a at = refl
set_itself (x ∷ xs) zero a at = let same : x ≡ a = cc in ap (λ z. z ∷ xs) (sym same)
set_itself (x ∷ xs) (suc i) a at = ap (λ (l : List _). x ∷ l) (set_itself xs i a at)

-- items are told, then more
pub leads_on : {case : Case} {old mid new : Progress} {x : ℕ} {s t u : State} {a b c : List Item} {reads fits : Bool} → LeadsPast case old mid x s t a b reads → reads ≡ true →
    LeadsPast case mid new x t u b c fits → LeadsPast case old new x s u a c fits
leads_on {case} {old} {mid} {new} {x} {s} {t} {u} {a} {b} {c} {reads} {fits} one good two = record {
  leads = λ net rest is. (let here = with_traffic (with_state net x t) mid.traffic.traffic in
      subst (λ (l : List State). FitsOrStops case.trace.now old.reader new.reader (at net x (a ++ rest)) (at (record net { routers = l; traffic = new.traffic.traffic }) x (c ++ rest)) fits)
      (set-set net.routers x t u) (goes_on ((one.leads net rest is).goes good) (two.leads here rest (record { scenario = is.scenario; traffic = refl; stands = set_here net.routers x t s is.stands }))));
}

-- items behind those that are told
pub leads_before : {case : Case} {old new : Progress} {x : ℕ} {s t : State} {a b : List Item} {fits : Bool} (more : List Item) → LeadsPast case old new x s t a b fits → LeadsPast case old new x s t (a ++ more) (b ++ more) fits
leads_before {a = a} {b = b} more one = record { leads = λ net rest is. rw (append_assoc a more rest, append_assoc b more rest) (one.leads net (more ++ rest) is) }

-- they stop on the way to wherever
pub leads_not : {case : Case} {old new : Progress} {x : ℕ} {s t u : State} {a b c : List Item} {fits : Bool} → LeadsPast case old new x s t a b fits → fits ≡ false → LeadsPast case old new x s u a c false
leads_not one bad = record { leads = λ net rest is. goes_not ((one.leads net rest is).stops bad) }

-- no items
pub leads_nowhere : {case : Case} {progress : Progress} {x : ℕ} {s : State} {a : List Item} → LeadsPast case progress progress x s s a a true
leads_nowhere {case} {progress} {x} {s} {a} = record {
  leads = λ net rest is. (let p = at net x (a ++ rest) in
      subst (λ (l : List State). FitsOrStops case.trace.now progress.reader progress.reader p (at (record net { routers = l; traffic = progress.traffic.traffic }) x (a ++ rest)) true) (sym (set_itself net.routers x s is.stands))
      (subst (λ (t : Flights). FitsOrStops case.trace.now progress.reader progress.reader p (at (record net { traffic = t }) x (a ++ rest)) true) is.traffic (goes_there went_nowhere)));
}

-- one item more, or it stops
pub leads_next : {case : Case} {start here there : Progress} {x : ℕ} {s t u : State} {all left more : List Item} {item : Item} {fits : Bool} → LeadsPast case start here x s t all left true → left ≡ item ∷ more →
    LeadsPast case here there x t u (item ∷ []) [] fits → LeadsPast case start there x s u all more fits
leads_next {case} {start} {here} {x = x} {s = s} {t = t} {all = all} {more = more} before is one =
    leads_on (subst (λ (l : List Item). LeadsPast case start here x s t all l true) is before) refl (leads_before more one)

-- ---- of each state that is so

-- the reader alone went on
pub progress_read : {case : Case} {old : Progress} {reader : Reader} → IsProgress case old → IsReaderOf case.trace.now reader → IsProgress case (record old { reader = reader })
progress_read is reading = record { reading = reading; seed = is.seed; flying = is.flying }

pub tells_on : {case : Case} {old mid new : Progress} {event : CheckedEvent} {IsSo : State → Type 0} {a b c : State → List Item} {reads fits : Bool} → TellsItems case old mid event IsSo a b reads → reads ≡ true →
    TellsItems case mid new event IsSo b c fits → TellsItems case old new event IsSo a c fits
tells_on one good two = record { progress = two.progress; told = λ s is so. leads_on (one.told s is so) good (two.told s is so) }

-- items, then others
pub tells_append : {case : Case} {old mid new : Progress} {event : CheckedEvent} {IsSo : State → Type 0} {a b : State → List Item} {reads fits : Bool} → TellsItems case old mid event IsSo a (λ s. []) reads → reads ≡ true →
    TellsItems case mid new event IsSo b (λ s. []) fits → TellsItems case old new event IsSo (λ s. a s ++ b s) (λ s. []) fits
tells_append {b = b} one good two = record { progress = two.progress; told = λ s is so. leads_on (leads_before (b s) (one.told s is so)) good (two.told s is so) }

-- items that stop, and so do those behind them
pub tells_not : {case : Case} {old new : Progress} {event : CheckedEvent} {IsSo : State → Type 0} {a b c : State → List Item} {fits : Bool} → TellsItems case old new event IsSo a b fits → fits ≡ false →
    TellsItems case old new event IsSo a c false
tells_not one bad = record { progress = one.progress; told = λ s is so. leads_not (one.told s is so) bad }

pub tells_not_behind : {case : Case} {old new : Progress} {event : CheckedEvent} {IsSo : State → Type 0} {a c : State → List Item} {fits : Bool} (b : State → List Item) → TellsItems case old new event IsSo a (λ s. []) fits →
    fits ≡ false → TellsItems case old new event IsSo (λ s. a s ++ b s) c false
tells_not_behind b one bad = record { progress = one.progress; told = λ s is so. leads_not (leads_before (b s) (one.told s is so)) bad }

-- no items
pub tells_nowhere : {case : Case} {progress : Progress} {event : CheckedEvent} {IsSo : State → Type 0} {a : State → List Item} → IsProgress case progress → TellsItems case progress progress event IsSo a a true
tells_nowhere is = record { progress = is; told = λ s at so. leads_nowhere }

-- one item more
pub tells_more : {case : Case} {start here there : Progress} {event : CheckedEvent} {IsSo : State → Type 0} {all left more : State → List Item} {item : State → Item} {fits : Bool} →
    TellsItems case start here event IsSo all left true → ((s : State) → left s ≡ item s ∷ more s) → TellsItems case here there event IsSo (λ s. item s ∷ []) (λ s. []) fits → fits ≡ true →
    TellsItems case start there event IsSo all more true
tells_more {case} {start} {there = there} {event = event} {all = all} {more = more} before is one good = record {
  progress = one.progress;
  told = λ s at so. subst (λ (b : Bool). LeadsPast case start there event.router s s (all s) (more s) b) good (leads_next (before.told s at so) (is s) (one.told s at so));
}

-- one item that stops
pub tells_stop : {case : Case} {start here there : Progress} {event : CheckedEvent} {IsSo : State → Type 0} {all left more none : State → List Item} {item : State → Item} {fits : Bool} →
    TellsItems case start here event IsSo all left true → ((s : State) → left s ≡ item s ∷ more s) → TellsItems case here there event IsSo (λ s. item s ∷ []) (λ s. []) fits → fits ≡ false →
    TellsItems case start there event IsSo all none false
tells_stop before is one bad = record { progress = one.progress; told = λ s at so. leads_not (leads_next (before.told s at so) (is s) (one.told s at so)) bad }

-- the same by other words
pub tells_as : {case : Case} {old new : Progress} {event : CheckedEvent} {IsSo : State → Type 0} {a b c d : State → List Item} {fits : Bool} → TellsItems case old new event IsSo a c fits → ((s : State) → a s ≡ b s) → ((s : State) → c s ≡ d s) →
    TellsItems case old new event IsSo b d fits
tells_as one items left = record { progress = one.progress; told = λ s is so. rw (← items s, ← left s) (one.told s is so) }

-- with what is left
pub tells_to : {case : Case} {old new : Progress} {event : CheckedEvent} {IsSo : State → Type 0} {a b c : State → List Item} {fits : Bool} → TellsItems case old new event IsSo a b fits → ((s : State) → b s ≡ c s) →
    TellsItems case old new event IsSo a c fits
tells_to one left = tells_as one (λ s. refl) left

-- the same of fewer states
pub tells_where : {case : Case} {old new : Progress} {event : CheckedEvent} {IsSo Others : State → Type 0} {a b : State → List Item} {fits : Bool} → TellsItems case old new event IsSo a b fits →
    ((s : State) → MayBeIn event s → Others s → IsSo s) → TellsItems case old new event Others a b fits
tells_where one so = record { progress = one.progress; told = λ s is other. one.told s is (so s is other) }

-- What follows of a step for its callers.
use Rattle.mesh_machine.proofs.Common.{◌≡◌, ℕ, ◌≤◌, ◌<◌, sym, ap, ◌∙◌, arith, List, [], ◌++◌, length, drop, append-nil, common_steps, drop-append_seam, State, Arrival, Heard, Frame, SendsHellos, SendsTcs, Hears, TicksAt, due, sent_since}

-- what an outbox has got
pub since_is : (old new sent : List Frame) → new ≡ old ++ sent → sent_since old new ≡ sent
since_is old new sent is = ap (λ (frames : List Frame). drop (length old) frames) is ∙ drop-append_seam old sent

pub since_appends : (old new sent : List Frame) → new ≡ old ++ sent → new ≡ old ++ sent_since old new
since_appends old new sent is = is ∙ ap (λ (frames : List Frame). old ++ frames) (sym (since_is old new sent is))

pub since_same : (old new : List Frame) → new ≡ old → new ≡ old ++ sent_since old new
since_same old new same = since_appends old new [] (same ∙ sym (append-nil old))

-- a frame that is heard
pub hears_settings : (old : State) (arrival : Arrival) (bytes : List ℕ) (answer : Heard) (sent : List Frame) (new : State) → Hears old arrival bytes answer sent new → new.settings ≡ old.settings
hears_settings old arrival bytes answer sent new hears = grind (arith, common_steps)

pub hears_last : (old : State) (arrival : Arrival) (bytes : List ℕ) (answer : Heard) (sent : List Frame) (new : State) → old.last ≤ arrival.now → Hears old arrival bytes answer sent new → new.last ≤ arrival.now
hears_last old arrival bytes answer sent new later hears = grind (arith, common_steps)

pub hears_due : (old : State) (arrival : Arrival) (bytes : List ℕ) (answer : Heard) (sent : List Frame) (new : State) → Hears old arrival bytes answer sent new → due new ≡ due old
hears_due old arrival bytes answer sent new hears = grind (arith, common_steps)

-- a tick
hello_later : (old new : State) (sent : List Frame) → SendsHellos old new sent → new.last < new.next_hello
hello_later old new sent h3 = grind (arith, common_steps)

tcs_later : (old new : State) (sent : List Frame) → SendsTcs old new sent → new.last < new.next_tc
tcs_later old new sent h3 = grind (arith, common_steps)

pub ticks_due : (old : State) (now : ℕ) (sent : List Frame) (new : State) → TicksAt old now sent new → now < due new
ticks_due old now sent new ticks = grind (arith, common_steps, hello_later, tcs_later)

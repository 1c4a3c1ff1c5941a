-- What the program answers, from what was done and the line that was put on err.
use Rattle.mesh_tool.proofs.Common.{common_steps, ◌≡◌, ℕ, ◌+◌, ◌<◌, ◌≤◌, ◌⊎◌, inl, inr, List, [], length, Option, Some, None, Result, Ok, refl, sym, subst, ◌∙◌, arith, IsErr, codes, same_ok, run_refusals, StatesSetup, SpendsTurns, FailsToAttach, first, SourceUse, SinkUse, Call, UsesNoAir, Asks, ReadsNothing, IsInput, IsInputTooLong, IsWorkedOn, PutsText, PutsNothing, Command, RunsSoFar, command_in, StopsReading, Leaves, DoesJob, Unread, Worked, Does, No_command, Did, TellsLine, TellsEnding, words_line, read_line, refused_line, attach_line, turns_line, memory_line, Job, Kind, words_of}
use Rattle.mesh_dump.specs.Dump.{DumpMakes}
use Rattle.mesh_io.specs.Faults.{Rose}
use Rattle.mesh_io.specs.Pieces.{MakesOne, PutsAll}
use Rattle.mesh_replay.specs.declared.answer.Replay.TheVariants.{No}
use Rattle.mesh_replay.specs.Command.Replays.{IsAnswerText}
use Rattle.mesh_tool.specs.declared.jobs.ending.Ending.{Ending}
use Rattle.mesh_tool.specs.declared.jobs.ending.Ending.TheVariants as ending
use Rattle.mesh_tool.specs.declared.jobs.status.Status.{Status}
use Rattle.mesh_tool.specs.declared.jobs.status.Status.TheVariants as status
use Rattle.mesh_tool.specs.Answers.Answers.{FaultLine, Wrong_words, Read_fault, Refusal, Attach_fault, Turns_spent, Allocation_failure, Whole, All_well, Some_refused, Is_no_run, On_out, On_err, OutputStands, Is_whole, Is_told, Is_failed, Answers}
use Rattle.mesh_tool.specs.Jobs.Works.{WorksOn, Refuses, Too_long, By_rule, TakesUpTo, TakesInput, Finishes, Before_reading, On_the_way}
use Rattle.mesh_tool.specs.declared.words.job.Job.TheVariants as job
use Rattle.mesh_tool.proofs.JobsLemmas.Outputs.{clear_not_refused}
use Rattle.mesh_tool.proofs.AnswersLemmas.Reads.{works_within, works_short, whole_input, long_not_taken}

-- ---- the job that the words ask for is one, or none

none_asked : (r : Result Job ℕ) (j : Job) → IsErr r → r ≡ Ok j → ⊥
none_asked r j err h = grind (arith, common_steps)

-- ---- what stands on out and err

-- a line stands on err, or a front of it
told : (call : Call) (line : List ℕ) (due answer : Status) → FaultLine call due line → TellsLine call.err line due answer → OutputStands call answer
told call line due answer cause (inl (same, stands)) = Is_told (record { line = line; due = rw same cause; stands = stands })
told call line due answer cause (inr (failed, rose, size, stands)) = Is_failed failed (On_err due line cause rose size stands)

ends_unread : (call : Call) (j : Job) (most : ℕ) (how : Ending) (answer : Status) → Asks call j → (command_in call j).most ≡ Some most → StopsReading most call.input how → PutsNothing call.out
    → TellsEnding call.words call.err how answer → OutputStands call answer
ends_unread call j most ending.Read answer asks is stops keeps tells = told call read_line status.Read answer (Read_fault j asks stops.0 keeps) tells
ends_unread call j most ending.TooLong answer asks is stops keeps tells =
    told call (refused_line 47 (codes "input")) status.Refused answer (Refusal 47 (codes "input") j asks (Too_long most is stops) keeps) tells
ends_unread call j most ending.Memory answer asks is stops keeps tells = told call memory_line status.Memory answer (Allocation_failure j asks (Before_reading keeps)) tells
ends_unread call j most other answer asks is stops keeps tells = absurd stops

-- an interface couldn't be attached, or the turns are spent: the job is `run`
unattached : (call : Call) (j : Job) (octets : List ℕ) (interface : ℕ) (answer : Status) → Asks call j → WorksOn j call octets → (command_in call j).is_unattached octets interface → PutsNothing call.out
    → TellsLine call.err (attach_line interface) status.Attach answer → OutputStands call answer
unattached call (job.Run turns) octets interface answer asks works (rose, fails) keeps tells =
    told call (attach_line interface) status.Attach answer (Attach_fault turns interface octets asks works fails rose keeps) tells
unattached call j octets interface answer asks works is keeps tells = absurd is

spent : (call : Call) (j : Job) (octets : List ℕ) (count greatest end : ℕ) (answer : Status) → Asks call j → WorksOn j call octets → (command_in call j).is_spent octets count greatest end → PutsNothing call.out
    → TellsLine call.err (turns_line count greatest end) status.Turns answer → OutputStands call answer
spent call (job.Run turns) octets count greatest end answer asks works (same, spends) keeps tells =
    told call (turns_line count greatest end) status.Turns answer
    (subst (λ (n : ℕ). FaultLine call status.Turns (turns_line n greatest end)) (sym same) (Turns_spent turns greatest end octets asks works (subst (λ (n : ℕ). SpendsTurns octets n greatest end call.air.told) same spends) keeps)) tells
spent call j octets count greatest end answer asks works is keeps tells = absurd is

ends_worked : (call : Call) (j : Job) (octets : List ℕ) (how : Ending) (answer : Status) → Asks call j → WorksOn j call octets
    → Leaves (command_in call j) octets call.out how → TellsEnding call.words call.err how answer → OutputStands call answer
unfolding Leaves
ends_worked call j octets ending.Done answer asks works puts (same, quiet) =
    Is_whole (rw same (All_well j asks (record { octets = octets; works_on = works; puts = puts }))) quiet
ends_worked call j octets ending.Packets answer asks works puts (same, quiet) =
    Is_whole (rw same (Some_refused j asks (record { octets = octets; works_on = works; puts = puts }))) quiet
ends_worked call j octets ending.NotARun answer asks works puts (same, quiet) =
    Is_whole (rw same (Is_no_run j asks (record { octets = octets; works_on = works; puts = puts }))) quiet
ends_worked call j octets (ending.Refused number key) answer asks works (refuses, keeps) tells =
    told call (refused_line number key) status.Refused answer (Refusal number key j asks (By_rule octets works refuses) keeps) tells
ends_worked call j octets (ending.Attach interface) answer asks works (is, keeps) tells = unattached call j octets interface answer asks works is keeps tells
ends_worked call j octets (ending.Turns turns moment end) answer asks works (is, keeps) tells = spent call j octets turns moment end answer asks works is keeps tells
ends_worked call j octets ending.Write answer asks works puts (same, quiet) =
    Is_failed same (On_out j asks (record { octets = octets; works_on = works; puts = puts }) quiet)
ends_worked call j octets ending.Memory answer asks works puts tells =
    told call memory_line status.Memory answer (Allocation_failure j asks (On_the_way octets works puts)) tells
ends_worked call j octets other answer asks works leaves tells = absurd leaves

ends : (call : Call) (how : Ending) (answer : Status) → Does call how → TellsEnding call.words call.err how answer → OutputStands call answer
ends call how answer (No_command is err reads keeps air) tells =
    told call (words_line call.words) status.Words answer (Wrong_words err reads keeps) (subst (λ (e : Ending). TellsEnding call.words call.err e answer) is tells)
ends call how answer (Did j asks (Unread most is stops keeps air)) tells = ends_unread call j most how answer asks is stops keeps tells
ends call how answer (Did j asks (Worked octets works leaves uses)) tells = ends_worked call j octets how answer asks works leaves tells

-- ---- what a job left whose output is whole

-- a status of which a fault's line is told
abbrev IsFault : Status → Type 0
IsFault status.Done = ⊥
IsFault status.NotARun = ⊥
IsFault other = Unit {0}

fault_told : {call : Call} {answer : Status} {line : List ℕ} → FaultLine call answer line → IsFault answer
fault_told h0 = grind (arith, common_steps)

-- the job, and how it ended
whole_finishes : {call : Call} {answer : Status} → Whole call answer → (j : Job) × (how : Ending) × Asks call j × Finishes call j how
whole_finishes (All_well j asks fin) = (j, ending.Done, asks, fin)
whole_finishes (Some_refused j asks fin) = (j, ending.Packets, asks, fin)
whole_finishes (Is_no_run j asks fin) = (j, ending.NotARun, asks, fin)

whole_done : (call : Call) {answer : Status} (j : Job) → Whole call answer → answer ≡ status.Done → Asks call j → Finishes call j ending.Done
whole_done call j h2 same asks = grind (arith, common_steps, same_ok)

finishes : (call : Call) (answer : Status) (j : Job) → OutputStands call answer → answer ≡ status.Done → Asks call j → Finishes call j ending.Done
finishes call answer j h3 same asks = grind (arith, common_steps, whole_done, fault_told)

-- ---- what `replay` left where it isn't done

-- no other job ends so
is_replay : (call : Call) (j : Job) → Finishes call j ending.NotARun → j ≡ job.Replay
is_replay call job.Replay fin = refl
is_replay call j fin = let (answer, all, ends, clear) = fin.puts in absurd ends

whole_no_run : {call : Call} {answer : Status} → Whole call answer → answer ≡ status.NotARun → Asks call job.Replay × Finishes call job.Replay ending.NotARun
whole_no_run (All_well j asks fin) same = let bad : ⊥ = cc in absurd bad
whole_no_run (Some_refused j asks fin) same = let bad : ⊥ = cc in absurd bad
whole_no_run {call} (Is_no_run j asks fin) same = subst (λ (k : Job). Asks call k × Finishes call k ending.NotARun) (is_replay call j fin) (asks, fin)

not_a_run : (call : Call) (answer : Status) → OutputStands call answer → answer ≡ status.NotARun → Asks call job.Replay
    × (octets : List ℕ) × IsInput 67108864 call.input octets × (line : ℕ)
    × PutsAll (MakesOne (IsAnswerText octets)) call.out.content call.out.content' (No line) × PutsText call.err []
not_a_run call answer (Is_whole whole quiet) same =
    let (asks, fin) = whole_no_run whole same in
    let (found, all, (line, is), clear) = fin.puts in
    (asks, fin.octets, fin.works_on, line, subst (PutsAll (MakesOne (IsAnswerText fin.octets)) call.out.content call.out.content') is all, quiet)
not_a_run call answer (Is_told t) same = absurd (subst IsFault same (fault_told t.due))
not_a_run call answer (Is_failed failed f) same = let bad : ⊥ = cc in absurd bad

no_refusal : {call : Call} {answer : Status} → Whole call answer → answer ≡ status.Refused → ⊥
no_refusal h0 same = grind (arith, common_steps)

-- a refusal of `replay`, whose line stands on err
abbrev pub Unreplayed : Call → Type 0
Unreplayed call = (number : ℕ) × (key : List ℕ) × Refuses job.Replay call number key × PutsNothing call.out × PutsText call.err (refused_line number key)

refusal_told : {call : Call} {answer : Status} {line : List ℕ} → FaultLine call answer line → answer ≡ status.Refused → Asks call job.Replay → PutsText call.err line → Unreplayed call
refusal_told h0 same asks stands = grind (arith, common_steps, same_ok)

not_replayed : (call : Call) (answer : Status) → OutputStands call answer → answer ≡ status.Refused → Asks call job.Replay → Unreplayed call
not_replayed call answer h2 same asks = grind (arith, common_steps, no_refusal, refusal_told)

-- ---- words that are no command line

wrong_words : {call : Call} {answer : Status} {line : List ℕ} → FaultLine call answer line → IsErr (words_of call.words) → (answer ≡ status.Words) × ReadsNothing call.input
wrong_words h0 wrong = grind (arith, common_steps, none_asked)

no_command : (call : Call) (answer : Status) → OutputStands call answer → IsErr (words_of call.words) → ((answer ≡ status.Words) ⊎ (answer ≡ status.Write)) × ReadsNothing call.input
no_command call answer h2 wrong = grind (arith, common_steps, whole_finishes, none_asked, wrong_words)

-- ---- what a job reads

made_reads : (call : Call) (how : Ending) (kind : Kind) (routers seed : ℕ) → DoesJob (job.Make kind routers seed) call how → ReadsNothing call.input
made_reads call how kind routers seed h5 = grind (arith, common_steps)

unread : (call : Call) (how : Ending) → Does call how → (kind : Kind) (routers seed : ℕ) → Asks call (job.Make kind routers seed) → ReadsNothing call.input
unread call how h2 kind routers seed asks = grind (arith, common_steps, made_reads, same_ok)

told_or_failed : (err : SinkUse) (line : List ℕ) (due answer : Status) → TellsLine err line due answer → (answer ≡ due) ⊎ (answer ≡ status.Write)
told_or_failed err line due answer h4 = grind (arith, common_steps)

long_unread : (call : Call) (most : ℕ) (how : Ending) (answer : Status) → StopsReading most call.input how → TellsEnding call.words call.err how answer
    → call.input.taken' ≡ call.input.taken + (most + 1) → (answer ≡ status.Refused) ⊎ (answer ≡ status.Write)
long_unread call most how answer stops tells long = grind (arith, common_steps, told_or_failed)

long_input : (call : Call) (how : Ending) (answer : Status) (j : Job) (most : ℕ) → DoesJob j call how → TellsEnding call.words call.err how answer → (command_in call j).most ≡ Some most
    → call.input.taken' ≡ call.input.taken + (most + 1) → (answer ≡ status.Refused) ⊎ (answer ≡ status.Write)
long_input call how answer j most h5 tells is long = grind (arith, common_steps, long_unread, works_within)

one_too_many : (call : Call) (how : Ending) (answer : Status) → Does call how → TellsEnding call.words call.err how answer
    → (j : Job) (most : ℕ) → Asks call j → (command_in call j).most ≡ Some most → call.input.taken' ≡ call.input.taken + (most + 1) → (answer ≡ status.Refused) ⊎ (answer ≡ status.Write)
one_too_many call how answer h3 tells j most asks limit long = grind (arith, common_steps, none_asked, long_input, same_ok)

-- ---- an input that has more octets than its job takes

-- no job works on a part of it
long_works : (call : Call) (j : Job) (most : ℕ) (all : List ℕ) → Asks call j → (command_in call j).most ≡ Some most → call.input.left ≡ Some all → most < length all →
    (i : Job) (octets : List ℕ) → Asks call i → WorksOn i call octets → ⊥
long_works call j most all asks limit is long i octets asked works = grind (arith, common_steps, works_short, same_ok)

long_due : {call : Call} {answer : Status} {line : List ℕ} (j : Job) → FaultLine call answer line → Asks call j →
    ((i : Job) (octets : List ℕ) → Asks call i → WorksOn i call octets → ⊥) → (Rose call.input.faults call.input.faults' → ⊥)
    → (answer ≡ status.Refused) ⊎ ((answer ≡ status.Write) ⊎ (answer ≡ status.Memory))
long_due {call} j (Wrong_words err reads keeps) asks none calm = absurd (none_asked (words_of call.words) j err asks)
long_due j (Read_fault i asked rose keeps) asks none calm = absurd (calm rose)
long_due j (Refusal n k i asked refuses keeps) asks none calm = inl refl
long_due j (Attach_fault turns interface octets asked works fails rose keeps) asks none calm = absurd (none (job.Run turns) octets asked works)
long_due j (Turns_spent turns greatest end octets asked works spends keeps) asks none calm = absurd (none (job.Run turns) octets asked works)
long_due j (Allocation_failure i asked stops) asks none calm = inr (inr refl)

too_long : (call : Call) (answer : Status) → OutputStands call answer → (j : Job) (most : ℕ) (all : List ℕ) → Asks call j → (command_in call j).most ≡ Some most → call.input.left ≡ Some all → most < length all
    → (Rose call.input.faults call.input.faults' → ⊥) → (answer ≡ status.Refused) ⊎ ((answer ≡ status.Write) ⊎ (answer ≡ status.Memory))
too_long call answer h2 j most all asks limit is long calm = grind (arith, common_steps, whole_finishes, long_works, long_due)

-- a job refuses what it reads
refused_read : (call : Call) (j : Job) (octets all : List ℕ) (number : ℕ) (key : List ℕ) → WorksOn j call octets → call.input.left ≡ Some all → (command_in call j).refuses all number key
    → (command_in call j).refuses octets number key
refused_read call j octets all number key works is refuses = grind (arith, common_steps, whole_input)

whole_not_refused : {call : Call} {answer : Status} (j : Job) (all : List ℕ) (number : ℕ) (key : List ℕ) → Whole call answer → Asks call j → call.input.left ≡ Some all → (command_in call j).refuses all number key → ⊥
whole_not_refused {call} j all number key whole asks is refused =
    let (i, how, asked, fin) = whole_finishes whole in
    let (found, put, ends, clear) = fin.puts in
    clear number key (refused_read call i fin.octets all number key fin.works_on is (subst (λ (k : Job). (command_in call k).refuses all number key) (same_ok {r = words_of call.words} {a = j} {b = i} asks asked) refused))

-- nor are octets refused of a router that is run
run_not_refused : (call : Call) (turns : ℕ) (j : Job) (octets all : List ℕ) (number : ℕ) (key : List ℕ) → Asks call (job.Run turns) → Asks call j → IsInput 1048576 call.input octets → call.input.left ≡ Some all →
    first (run_refusals octets) ≡ None → (command_in call j).refuses all number key → ⊥
run_not_refused call turns j octets all number key asked asks works is clear refused =
    clear_not_refused all number key (subst (λ (o : List ℕ). first (run_refusals o) ≡ None) (whole_input all is works) clear)
    (subst (λ (k : Job). (command_in call k).refuses all number key) (same_ok {r = words_of call.words} {a = j} {b = job.Run turns} asks asked) refused)

refusal_due : {call : Call} {answer : Status} {line : List ℕ} (j : Job) (all : List ℕ) (number : ℕ) (key : List ℕ) → FaultLine call answer line → Asks call j → call.input.left ≡ Some all →
    (command_in call j).refuses all number key → (Rose call.input.faults call.input.faults' → ⊥)
    → (answer ≡ status.Refused) ⊎ ((answer ≡ status.Write) ⊎ (answer ≡ status.Memory))
refusal_due {call} j all number key (Wrong_words err reads keeps) asks is refused calm = absurd (none_asked (words_of call.words) j err asks)
refusal_due j all number key (Read_fault i asked rose keeps) asks is refused calm = absurd (calm rose)
refusal_due j all number key (Refusal n k i asked refuses keeps) asks is refused calm = inl refl
refusal_due {call} j all number key (Attach_fault turns interface octets asked works fails rose keeps) asks is refused calm =
    absurd (run_not_refused call turns j octets all number key asked asks works is fails.stated.clear refused)
refusal_due {call} j all number key (Turns_spent turns greatest end octets asked works spends keeps) asks is refused calm =
    absurd (run_not_refused call turns j octets all number key asked asks works is spends.stated.clear refused)
refusal_due j all number key (Allocation_failure i asked stops) asks is refused calm = inr (inr refl)

refuses : (call : Call) (answer : Status) → OutputStands call answer → (j : Job) (octets : List ℕ) (number : ℕ) (key : List ℕ) → Asks call j → call.input.left ≡ Some octets → (command_in call j).refuses octets number key
    → (Rose call.input.faults call.input.faults' → ⊥) → (answer ≡ status.Refused) ⊎ ((answer ≡ status.Write) ⊎ (answer ≡ status.Memory))
refuses call answer h2 j octets number key asks is refused calm = grind (arith, common_steps, whole_not_refused, refusal_due)

-- ---- an input that a job takes isn't refused

takes_rule : (reads : Option ℕ) (command : Command) (input : SourceUse) (octets : List ℕ) (number : ℕ) (key : List ℕ) → TakesUpTo reads command input → IsWorkedOn reads input octets →
    command.refuses octets number key → ⊥
takes_rule reads command input octets number key takes works refused = grind (arith, common_steps, whole_input)

takes_short : (reads : Option ℕ) (most : ℕ) (command : Command) (input : SourceUse) → reads ≡ Some most → TakesUpTo reads command input → IsInputTooLong most input → ⊥
takes_short reads most command input limit takes long = grind (arith, common_steps, long_not_taken)

takes_all : (call : Call) (number : ℕ) (key : List ℕ) (j : Job) → TakesInput j call → Refuses j call number key → ⊥
takes_all call number key j takes (Too_long most is long) = takes_short (command_in call j).most most (command_in call j) call.input is takes long
takes_all call number key j takes (By_rule octets works refused) = takes_rule (command_in call j).most (command_in call j) call.input octets number key takes works refused

-- an input of which each port is attached
attached_all : (call : Call) (turns : ℕ) (j : Job) (interface : ℕ) (octets : List ℕ) → Asks call (job.Run turns) → Asks call j → TakesInput j call → IsInput 1048576 call.input octets →
    FailsToAttach octets interface call.air.told → ⊥
attached_all call turns j interface octets asked asks takes works fails =
    let (all, is, few, takes_octets) = subst (λ (k : Job). TakesInput k call) (same_ok {r = words_of call.words} {a = j} {b = job.Run turns} asks asked) takes in
    let stated : StatesSetup all fails.setup = subst (λ (o : List ℕ). StatesSetup o fails.setup) (whole_input all is works) fails.stated in
    omega (arith, takes_octets.1 fails.setup stated, fails.is_attached.attached, fails.fewer)

memory_due : {call : Call} {answer : Status} {line : List ℕ} (j : Job) → FaultLine call answer line → Asks call j → TakesInput j call → ((number : ℕ) (key : List ℕ) → Refuses j call number key → ⊥)
    → (Rose call.input.faults call.input.faults' → ⊥) → (answer ≡ status.Turns) ⊎ (answer ≡ status.Memory)
memory_due {call} j (Wrong_words err reads keeps) asks input takes calm = absurd (none_asked (words_of call.words) j err asks)
memory_due j (Read_fault i asked rose keeps) asks input takes calm = absurd (calm rose)
memory_due {call} j (Refusal number key i asked refused keeps) asks input takes calm = grind (arith, common_steps, same_ok)
memory_due {call} j (Attach_fault turns interface octets asked works fails rose keeps) asks input takes calm = absurd (attached_all call turns j interface octets asked asks input works fails)
memory_due j (Turns_spent turns greatest end octets asked works spends keeps) asks input takes calm = inl refl
memory_due j (Allocation_failure i asked stops) asks input takes calm = inr refl

-- the statuses of a job that ran to its end, or for which memory was wanting
abbrev pub IsThrough : Job → Status → Type 0
IsThrough j answer = (answer ≡ status.Done) ⊎ ((answer ≡ status.Packets) ⊎ ((answer ≡ status.Turns) ⊎ (((answer ≡ status.NotARun) × (j ≡ job.Replay)) ⊎ (answer ≡ status.Memory))))

whole_status : {call : Call} {answer : Status} (j : Job) → Asks call j → Whole call answer → IsThrough j answer
whole_status j asks (All_well i asked fin) = inl refl
whole_status j asks (Some_refused i asked fin) = inr (inl refl)
whole_status {call} j asks (Is_no_run i asked fin) = inr (inr (inr (inl (refl, same_ok {r = words_of call.words} {a = j} {b = i} asks asked ∙ is_replay call i fin))))

due_status : (j : Job) (answer : Status) → (answer ≡ status.Turns) ⊎ (answer ≡ status.Memory) → IsThrough j answer
due_status j answer h2 = grind (arith, common_steps)

complete : (call : Call) (answer : Status) → OutputStands call answer → (j : Job) → Asks call j → TakesInput j call → ((number : ℕ) (key : List ℕ) → Refuses j call number key → ⊥)
    → (Rose call.input.faults call.input.faults' → ⊥) → (Rose call.out.faults call.out.faults' → ⊥) → (Rose call.err.faults call.err.faults' → ⊥)
    → IsThrough j answer
complete call answer h2 j asks input takes calm out err = grind (arith, common_steps, whole_status, due_status, memory_due)

-- ---- what clock and air tell

hands_worked : (call : Call) (how : Ending) (turns : ℕ) → DoesJob (job.Run turns) call how → UsesNoAir call.air ⊎ ((octets : List ℕ) × IsInput 1048576 call.input octets × RunsSoFar octets turns call.air.told)
hands_worked call how turns h3 = grind (arith, common_steps)

hands : (call : Call) (how : Ending) → Does call how → (turns : ℕ) → Asks call (job.Run turns) → UsesNoAir call.air ⊎ ((octets : List ℕ) × IsInput 1048576 call.input octets × RunsSoFar octets turns call.air.told)
hands call how h2 turns asks = grind (arith, common_steps, hands_worked, same_ok)

airless_worked : (call : Call) (how : Ending) (j : Job) → DoesJob j call how → ((turns : ℕ) → j ≡ job.Run turns → ⊥) → UsesNoAir call.air
airless_worked call how j h3 other = grind (arith, common_steps)

airless : (call : Call) (how : Ending) → Does call how → (j : Job) → Asks call j → ((turns : ℕ) → j ≡ job.Run turns → ⊥) → UsesNoAir call.air
airless call how h2 j asks other = grind (arith, common_steps, airless_worked, same_ok)

no_words_airless : (call : Call) (how : Ending) → Does call how → IsErr (words_of call.words) → UsesNoAir call.air
no_words_airless call how h2 wrong = grind (arith, common_steps, none_asked)

-- ---- all of it

pub answers : (call : Call) (how : Ending) (answer : Status) → Does call how → TellsEnding call.words call.err how answer
    → call.input.faults ≤ call.input.faults' → call.out.faults ≤ call.out.faults' → call.err.faults ≤ call.err.faults' → call.air.faults ≤ call.air.faults' → Answers call answer
answers call how answer does tells later_input later_out later_err later_air =
    let e : OutputStands call answer = ends call how answer does tells in
    record {
      ends = e;
      dumped = λ recode same asks.
          let fin = finishes call answer (job.Dump recode) e same asks in
          let (refused, all, none, clear) = fin.puts in
          (fin.octets, fin.works_on, subst (PutsAll (DumpMakes fin.octets recode) call.out.content call.out.content') none all);
      ran = λ turns same asks. let fin = finishes call answer (job.Run turns) e same asks in (fin.octets, fin.works_on, fin.puts.1);
      hands = λ turns asks. hands call how does turns asks;
      airless = λ j asks other. airless call how does j asks other;
      emulated = λ trace send probe same asks. let fin = finishes call answer (job.Emulate trace send probe) e same asks in (fin.octets, fin.works_on, fin.puts.1);
      made = λ kind routers seed same asks. let fin = finishes call answer (job.Make kind routers seed) e same asks in (fin.puts.1, fin.works_on.1);
      replayed = λ same asks.
          let fin = finishes call answer job.Replay e same asks in
          let (found, all, (lines, is), clear) = fin.puts in
          (fin.octets, fin.works_on, lines, subst (PutsAll (MakesOne (IsAnswerText fin.octets)) call.out.content call.out.content') is all);
      not_a_run = λ same. not_a_run call answer e same;
      not_replayed = λ same asks. not_replayed call answer e same asks;
      unread = λ kind routers seed asks. unread call how does kind routers seed asks;
      no_command = λ wrong. let w = no_command call answer e wrong in (w.0, w.1, no_words_airless call how does wrong);
      too_long = λ j most octets asks limit is long calm. too_long call answer e j most octets asks limit is long calm;
      one_too_many = λ j most asks limit long. one_too_many call how answer does tells j most asks limit long;
      refuses = λ j octets number key asks is refused calm. refuses call answer e j octets number key asks is refused calm;
      complete = λ j asks takes calm out err. complete call answer e j asks takes (λ number key refused. takes_all call number key j takes refused) calm out err;
      later_input = later_input;
      later_out = later_out;
      later_err = later_err;
      later_air = later_air;
    }

-- What the words of a command line say.
use Rattle.std.specs.Prelude.{ℕ, ◌+◌, List, [], ◌∷◌, Result, Ok, Err, String, string_bytes, map, codes, if◌then◌else◌, nat_eq, nat_le, Bool, true, false, not, ◌&&◌, Option, Some, None, is_none, option_map, slice_get, unwrap_or}
use Rattle.std.specs.Cmp.Lexicographic.{pointwise}
use Rattle.std.specs.declared.alloc.Global.{Global}
use Rattle.mesh_atoms.specs.Literals.{◌>>=◌, only_if, number_of, address_of}
use Rattle.mesh_tool.specs.declared.words.job.Job.{Job}
use Rattle.mesh_tool.specs.declared.words.job.Job.TheVariants as job
use Rattle.mesh_emulate.specs.declared.making.kind.Kind.{Kind}
use Rattle.mesh_emulate.specs.declared.making.kind.Kind.TheVariants as kind
use Rattle.mesh_tool.specs.declared.words.asked.Parsing.{Parsing}
use Rattle.mesh_tool.specs.declared.words.asked.Parsing.TheVariants as asked
use Rattle.mesh_tool.specs.declared.words.asked.EmulateOptions.{EmulateOptions}
use Rattle.mesh_tool.specs.declared.words.asked.EmulateValue.{EmulateValue}
use Rattle.mesh_tool.specs.declared.words.asked.EmulateValue.TheVariants as emulates
use Rattle.mesh_tool.specs.declared.words.asked.MakeOptions.{MakeOptions}
use Rattle.mesh_tool.specs.declared.words.asked.MakeValue.{MakeValue}
use Rattle.mesh_tool.specs.declared.words.asked.MakeValue.TheVariants as value

-- ---- words

-- the octets of each word
abbrev pub texts : List (String Global) → List (List ℕ)
texts words = map string_bytes words

-- whether two words are the same
abbrev pub is_word : List ℕ → List ℕ → Bool
is_word word other = pointwise nat_eq word other

-- a number from `least` to `most`, in decimal digits with no needless zero in front
abbrev pub number_from : ℕ → ℕ → List ℕ → Option ℕ
number_from least most word = number_of most word >>= λ n. only_if (nat_le least n) n

-- a number of turns, from 1 to 4,294,967,295
abbrev pub turns_of : List ℕ → Option ℕ
turns_of = number_from 1 4294967295

-- a number of routers, from 2 to 64
abbrev pub routers_of : List ℕ → Option ℕ
routers_of = number_from 2 64

-- the seed of what is drawn, from 0 to 4,294,967,295
abbrev pub seed_of : List ℕ → Option ℕ
seed_of = number_from 0 4294967295

-- a way to make a scenario
abbrev pub kind_of : List ℕ → Option Kind
kind_of word =
    if is_word word (codes "grid") then Some kind.Grid
    else if is_word word (codes "ring") then Some kind.Ring
    else only_if (is_word word (codes "random")) kind.Random

-- ---- the options of `emulate` of a made scenario: each stands once, in any order, and none may be missing

-- none stood yet
abbrev pub no_make_options : MakeOptions
no_make_options = record { kind = None; routers = None; seed = None }

-- an option's own word
abbrev pub make_option : MakeOptions → List ℕ → Option Parsing
make_option o word =
    if is_word word (codes "--make") && is_none o.kind then Some (asked.MakeAwaits o value.Kind)
    else if is_word word (codes "--routers") && is_none o.routers then Some (asked.MakeAwaits o value.Routers)
    else only_if (is_word word (codes "--seed") && is_none o.seed) (asked.MakeAwaits o value.Seed)

-- the value of the option whose word stood before
abbrev pub make_value : MakeOptions → MakeValue → List ℕ → Option MakeOptions
make_value o value.Kind word = kind_of word >>= λ kind. Some (record { kind = Some kind; routers = o.routers; seed = o.seed })
make_value o value.Routers word = routers_of word >>= λ routers. Some (record { kind = o.kind; routers = Some routers; seed = o.seed })
make_value o value.Seed word = seed_of word >>= λ seed. Some (record { kind = o.kind; routers = o.routers; seed = Some seed })

-- the job, where all three stood
abbrev pub make_job : MakeOptions → Option Job
make_job o = o.kind >>= λ kind. o.routers >>= λ routers. o.seed >>= λ seed. Some (job.Make kind routers seed)

-- ---- the options of `emulate` of a scenario that is read: each stands once at most, in any order, and beside none of a made one

-- none stood yet
abbrev pub no_emulate_options : EmulateOptions
no_emulate_options = record { trace = false; send = None; probe = None }

-- none stood
abbrev pub is_without : EmulateOptions → Bool
is_without o = (not o.trace && is_none o.send) && is_none o.probe

-- an option's own word
abbrev pub emulate_option : EmulateOptions → List ℕ → Option Parsing
emulate_option o word =
    if is_word word (codes "--trace") && not o.trace then Some (asked.Emulate (record { trace = true; send = o.send; probe = o.probe }))
    else if is_word word (codes "--send") && is_none o.send then Some (asked.EmulateAwaits o emulates.From)
    else if is_word word (codes "--probe") && is_none o.probe then Some (asked.EmulateAwaits o emulates.Name)
    else if is_without o then make_option no_make_options word
    else None

-- an option's value, which has that place: FROM and NAME are any word, and DEST is an address
abbrev pub emulate_value : EmulateOptions → EmulateValue → ℕ → List ℕ → Option Parsing
emulate_value o emulates.From place word = Some (asked.EmulateAwaits o (emulates.Dest place))
emulate_value o (emulates.Dest from) place word =
    address_of word >>= λ dest. Some (asked.Emulate (record { trace = o.trace; send = Some (from, dest); probe = o.probe }))
emulate_value o emulates.Name place word = Some (asked.Emulate (record { trace = o.trace; send = o.send; probe = Some place }))

-- ---- command lines

-- the first word of each job
abbrev pub command_of : Job → List ℕ
command_of (job.Dump recode) = codes "dump"
command_of (job.Run turns) = codes "run"
command_of (job.Emulate trace send probe) = codes "emulate"
command_of (job.Make kind routers seed) = codes "emulate"
command_of job.Replay = codes "replay"

-- the jobs whose commands have no options: the first word is the whole command line
abbrev pub plain_jobs : List Job
plain_jobs = job.Replay ∷ []

-- the first of these jobs whose word this is
abbrev pub plain_word : List Job → List ℕ → Option Parsing
plain_word [] word = None
plain_word (job ∷ jobs) word = if is_word word (command_of job) then Some (asked.Whole job) else plain_word jobs word

-- the first word
abbrev pub command_word : List ℕ → Option Parsing
command_word word =
    if is_word word (codes "dump") then Some (asked.Dump false)
    else if is_word word (codes "run") then Some (asked.Run None)
    else if is_word word (codes "emulate") then Some (asked.Emulate no_emulate_options)
    else plain_word plain_jobs word

-- what is asked for after one more word, which has that place, where it begins a command line with the words before it
abbrev pub takes : Parsing → ℕ → List ℕ → Option Parsing
takes asked.Nothing place word = command_word word
takes (asked.Dump recode) place word = only_if (is_word word (codes "--recode") && not recode) (asked.Dump true)
takes (asked.Run turns) place word = only_if (is_word word (codes "--turns") && is_none turns) asked.Turns
takes asked.Turns place word = option_map (λ turns. asked.Run (Some turns)) (turns_of word)
takes (asked.Emulate o) place word = emulate_option o word
takes (asked.EmulateAwaits o value) place word = emulate_value o value place word
takes (asked.Make o) place word = make_option o word
takes (asked.MakeAwaits o value) place word = option_map asked.Make (make_value o value word)
takes (asked.Whole job) place word = None

-- the job, where no word is missing
abbrev pub job_of : Parsing → Option Job
job_of asked.Nothing = None
job_of (asked.Dump recode) = Some (job.Dump recode)
job_of (asked.Run turns) = option_map job.Run turns
job_of asked.Turns = None
job_of (asked.Emulate o) = Some (job.Emulate o.trace o.send o.probe)
job_of (asked.EmulateAwaits o value) = None
job_of (asked.Make o) = make_job o
job_of (asked.MakeAwaits o value) = None
job_of (asked.Whole job) = Some job

-- the job of words behind others that ask for this, where the first of them has that place
abbrev pub or_at : {A B : Type 0} → ℕ → Option A → (A → Result B ℕ) → Result B ℕ
or_at place (Some x) f = f x
or_at place None f = Err place

-- the job of more words, behind others that ask for this; the next word has that place
abbrev pub read_on : Parsing → ℕ → List (List ℕ) → Result Job ℕ
read_on asked place [] = or_at place (job_of asked) Ok
read_on asked place (word ∷ more) = or_at place (takes asked place word) (λ next. read_on next (place + 1) more)

-- the job, or the place of the first word that, with all words before it, begins no command line; the number of words
-- where one is missing
abbrev pub words_of : List (List ℕ) → Result Job ℕ
words_of words = read_on asked.Nothing 0 words

-- the place of the first word at fault
abbrev pub place_of : Result Job ℕ → ℕ
place_of (Ok job) = 0
place_of (Err place) = place

-- the first word at fault, or `none` where one is missing
abbrev pub word_at_fault : List (List ℕ) → List ℕ
word_at_fault words = unwrap_or (slice_get words (place_of (words_of words))) (codes "none")

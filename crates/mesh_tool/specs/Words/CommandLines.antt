-- How command lines are written.
use Rattle.std.specs.Prelude.{◌≡◌, ℕ, ◌+◌, ◌≤◌, List, [], ◌∷◌, ◌++◌, length, Bool, true, false, Option, Some, None, Ok, codes, ◌↔◌}
use Rattle.std.specs.List.{flat_map}
use Rattle.mesh_atoms.specs.declared.addr.Addr4.{Addr4}
use Rattle.mesh_atoms.specs.Literals.{address_of}
use Rattle.mesh_atoms.specs.Settings.{IsCount}
use Rattle.mesh_tool.specs.declared.words.job.Job.{Job}
use Rattle.mesh_tool.specs.declared.words.job.Job.TheVariants as job
use Rattle.mesh_tool.specs.Words.Words.{command_of, words_of, turns_of, kind_of, routers_of, seed_of}

-- these, each once, in any order
abbrev pub InAnyOrder : {A : Type 0} → List A → List A → Type 0
InAnyOrder [] ys = ys ≡ []
InAnyOrder {A = A} (x ∷ xs) ys = (front : List A) × (back : List A) × (ys ≡ front ++ x ∷ back) × InAnyOrder xs (front ++ back)

-- an option: its own word, and behind it that of its value, where it has one
abbrev pub OptionWords : Type 0
OptionWords = List (List ℕ)

-- an option, and the place of its own word
pub record PlacedOption : Type 0 where
  pub place : ℕ
  pub words : OptionWords

-- an option whose own word has that place
abbrev pub at_place : ℕ → OptionWords → PlacedOption
at_place place words = record { place = place; words = words }

-- options one behind the other, of which the first has this place
abbrev pub placed : ℕ → List OptionWords → List PlacedOption
placed place [] = []
placed place (option ∷ options) = at_place place option ∷ placed (place + length option) options

-- `--trace`, where it is asked for
abbrev pub IsTraceOption : Bool → List PlacedOption → Type 0
IsTraceOption false options = options ≡ []
IsTraceOption true options = (place : ℕ) × (options ≡ at_place place (codes "--trace" ∷ []) ∷ [])

-- `--send` with FROM and DEST, where a packet is asked for: FROM has the packet's place, and DEST is its address
abbrev pub IsSend : Option (ℕ × Addr4) → List PlacedOption → Type 0
IsSend None options = options ≡ []
IsSend (Some packet) options =
    (place : ℕ) × (from : List ℕ) × (dest : List ℕ) × (packet.0 ≡ place + 1) × (address_of dest ≡ Some packet.1)
    × (options ≡ at_place place (codes "--send" ∷ from ∷ dest ∷ []) ∷ [])

-- `--probe` with NAME, where a probe is asked for: NAME has that place
abbrev pub IsProbe : Option ℕ → List PlacedOption → Type 0
IsProbe None options = options ≡ []
IsProbe (Some at) options =
    (place : ℕ) × (name : List ℕ) × (at ≡ place + 1) × (options ≡ at_place place (codes "--probe" ∷ name ∷ []) ∷ [])

-- the options of `emulate`, behind one word
pub record AreEmulateOptions (trace : Bool) (send : Option (ℕ × Addr4)) (probe : Option ℕ) (options : List OptionWords) : Type 0 where
  pub traces : List PlacedOption
  pub sends : List PlacedOption
  pub probes : List PlacedOption
  pub is_trace : IsTraceOption trace traces
  pub is_send : IsSend send sends
  pub is_probe : IsProbe probe probes
  pub any : InAnyOrder (traces ++ (sends ++ probes)) (placed 1 options)

-- the options of `emulate --make`, with these words for values
abbrev pub make_options : List ℕ → List ℕ → List ℕ → List OptionWords
make_options kind routers seed =
    (codes "--make" ∷ kind ∷ []) ∷ (codes "--routers" ∷ routers ∷ []) ∷ (codes "--seed" ∷ seed ∷ []) ∷ []

-- the options that a job is asked for by
abbrev pub AreOptions : Job → List OptionWords → Type 0
AreOptions (job.Dump false) options = options ≡ []
AreOptions (job.Dump true) options = options ≡ (codes "--recode" ∷ []) ∷ []
AreOptions (job.Run turns) options = (n : List ℕ) × (turns_of n ≡ Some turns) × (options ≡ (codes "--turns" ∷ n ∷ []) ∷ [])
AreOptions (job.Emulate trace send probe) options = AreEmulateOptions trace send probe options
AreOptions (job.Make kind routers seed) options =
    (k : List ℕ) × (n : List ℕ) × (s : List ℕ) × (kind_of k ≡ Some kind) × (routers_of n ≡ Some routers) × (seed_of s ≡ Some seed)
    × InAnyOrder (make_options k n s) options
AreOptions other options = options ≡ []

-- the words ask for this job: its command, and behind it its options
pub record AskFor (words : List (List ℕ)) (job : Job) : Type 0 where
  pub options : List OptionWords
  pub are : AreOptions job options
  pub whole : words ≡ command_of job ∷ flat_map (λ option. option) options

-- so many turns, so many routers, and such a seed, as command lines ask for
abbrev pub IsJobInRange : Job → Type 0
IsJobInRange (job.Run turns) = 1 ≤ turns
IsJobInRange (job.Make kind routers seed) = IsCount 2 64 routers × (seed ≤ 4294967295)
IsJobInRange other = Unit {0}

-- words are read as a job exactly where they ask for it
abbrev pub CommandLinesAreRead : Type 0
CommandLinesAreRead = (words : List (List ℕ)) (job : Job) → (words_of words ≡ Ok job) ↔ AskFor words job

-- Words are read as a job exactly where they ask for it.
use Rattle.mesh_tool.proofs.Common.{common_steps, ◌≡◌, ℕ, inl, inr, List, [], ◌∷◌, length, Option, Some, None, Result, Ok, Bool, true, false, ◌&&◌, refl, sym, ap, subst, ◌∙◌, arith, codes, option_map, flat_map, AllByRecursion, bytes_decides, Addr4, only_if, Job, Kind, Parsing, is_word, turns_of, kind_of, routers_of, seed_of, no_emulate_options, plain_jobs, plain_word, command_word, takes, or_at, read_on, words_of, InAnyOrder, OptionWords, make_options, AreEmulateOptions, AreOptions, AskFor}
use Rattle.mesh_tool.specs.declared.words.job.Job.TheVariants as job
use Rattle.mesh_tool.specs.declared.words.asked.Parsing.TheVariants as asked
use Rattle.mesh_tool.specs.Words.Words.{command_of}
use Rattle.mesh_tool.proofs.WordsLemmas.EmulateLines.{ReadFrom, comes_read, all_read, option_on, reads_on}
use Rattle.mesh_tool.proofs.WordsLemmas.MakeLines.{makes_from, make_asked}
use Rattle.mesh_tool.proofs.WordsLemmas.Orders.{in_each_order}
use Rattle.mesh_tool.proofs.WordsLemmas.Reading.{or_at_ok, if_some, only_stands, same_job}

-- ---- what is asked for is read

abbrev behind : List ℕ → List OptionWords → List (List ℕ)
behind command options = command ∷ flat_map (λ option. option) options

made : (k n s : List ℕ) (kind : Kind) (routers seed : ℕ) (options : List OptionWords) → kind_of k ≡ Some kind → routers_of n ≡ Some routers → seed_of s ≡ Some seed
    → InAnyOrder (make_options k n s) options → words_of (behind (codes "emulate") options) ≡ Ok (job.Make kind routers seed)
made k n s kind routers seed options is_kind are_routers is_seed any =
    in_each_order (λ o. words_of (behind (codes "emulate") o) ≡ Ok (job.Make kind routers seed)) (codes "--make" ∷ k ∷ []) (codes "--routers" ∷ n ∷ []) (codes "--seed" ∷ s ∷ []) options
    (rw (is_kind, are_routers, is_seed) refl) (rw (are_routers, is_kind, is_seed) refl) (rw (are_routers, is_seed, is_kind) refl)
    (rw (is_kind, is_seed, are_routers) refl) (rw (is_seed, is_kind, are_routers) refl) (rw (is_seed, are_routers, is_kind) refl) any

emulated : (trace : Bool) (send : Option (ℕ × Addr4)) (probe : Option ℕ) (options : List OptionWords) → AreEmulateOptions trace send probe options
    → words_of (behind (codes "emulate") options) ≡ Ok (job.Emulate trace send probe)
emulated trace send probe options are = comes_read trace send probe options false None None 1
    (record { traces = are.traces; sends = are.sends; probes = are.probes; is_trace = are.is_trace; is_send = are.is_send; is_probe = are.is_probe; any = are.any })

pub asked_is_read : (words : List (List ℕ)) (j : Job) → AskFor words j → words_of words ≡ Ok j
asked_is_read words (job.Dump false) asks = ap words_of (asks.whole ∙ ap (behind (codes "dump")) asks.are)
asked_is_read words (job.Dump true) asks = ap words_of (asks.whole ∙ ap (behind (codes "dump")) asks.are)
asked_is_read words (job.Run turns) asks = ap words_of (asks.whole ∙ ap (behind (codes "run")) asks.are.2) ∙ rw asks.are.1 refl
asked_is_read words (job.Emulate trace send probe) asks = ap words_of asks.whole ∙ emulated trace send probe asks.options asks.are
asked_is_read words (job.Make kind routers seed) asks =
    let a = asks.are in
    ap words_of asks.whole ∙ made a.0 a.1 a.2 kind routers seed asks.options a.3 a.4 a.5 a.6
asked_is_read words j asks = ap words_of (asks.whole ∙ ap (behind (command_of j)) asks.are)

-- ---- what is read is asked for

-- where nothing more is taken
none_more : (asked : Parsing) (j : Job) (place : ℕ) (words : List (List ℕ)) (got : Job) → ((word : List ℕ) (next : Parsing) → takes asked place word ≡ Some next → ⊥)
    → or_at place (Some j) Ok ≡ read_on asked place [] → read_on asked place words ≡ Ok got → (words ≡ []) × (got ≡ j)
none_more asked j place [] got none is h = (refl, sym (same_job j got (is ∙ h)))
none_more asked j place (word ∷ words) got none is h = grind (arith, common_steps, or_at_ok)

never : (word name : List ℕ) (next found : Parsing) → only_if (is_word word name && false) next ≡ Some found → ⊥
never word name next found h = let s = only_stands word name false next found h in let bad : false ≡ true = s.1 in cc

dump_asked : (word : List ℕ) (words : List (List ℕ)) (j : Job) → word ≡ codes "dump" → read_on (asked.Dump false) 1 words ≡ Ok j → AskFor (word ∷ words) j
dump_asked word [] j is h = subst (AskFor (word ∷ [])) (same_job _ j h) (record { options = []; are = refl; whole = ap (λ w. w ∷ []) is })
dump_asked word (w ∷ words) j is h =
    let step = or_at_ok 1 (takes (asked.Dump false) 1 w) (λ next. read_on next 2 words) j h in
    let s = only_stands w (codes "--recode") true (asked.Dump true) step.0 step.1 in
    let end = none_more (asked.Dump true) (job.Dump true) 2 words j (λ v next k. never v (codes "--recode") (asked.Dump true) next k) refl (subst (λ (next : Parsing). read_on next 2 words ≡ Ok j) s.2 step.2) in
    subst (AskFor (word ∷ w ∷ words)) (sym end.1) (record { options = (codes "--recode" ∷ []) ∷ []; are = refl; whole = rw (is, s.0, end.0) refl })

turns_read : (place : ℕ) (read : Option ℕ) (f : Parsing → Result Job ℕ) (j : Job) → or_at place (option_map (λ turns. asked.Run (Some turns)) read) f ≡ Ok j
    → (turns : ℕ) × (read ≡ Some turns) × (f (asked.Run (Some turns)) ≡ Ok j)
turns_read place (Some turns) f j h = (turns, refl, h)
turns_read place None f j h = let bad : ⊥ = cc in absurd bad

turns_asked : (word w : List ℕ) (words : List (List ℕ)) (j : Job) → word ≡ codes "run" → w ≡ codes "--turns" → read_on asked.Turns 2 words ≡ Ok j → AskFor (word ∷ w ∷ words) j
turns_asked word w [] j is its h = let bad : ⊥ = cc in absurd bad
turns_asked word w (n ∷ words) j is its h =
    let step = turns_read 2 (turns_of n) (λ next. read_on next 3 words) j h in
    let end = none_more (asked.Run (Some step.0)) (job.Run step.0) 3 words j (λ v next k. never v (codes "--turns") asked.Turns next k) refl step.2 in
    subst (AskFor (word ∷ w ∷ n ∷ words)) (sym end.1) (record { options = (codes "--turns" ∷ n ∷ []) ∷ []; are = (n, step.1, refl); whole = rw (is, its, end.0) refl })

run_asked : (word : List ℕ) (words : List (List ℕ)) (j : Job) → word ≡ codes "run" → read_on (asked.Run None) 1 words ≡ Ok j → AskFor (word ∷ words) j
run_asked word [] j is h = let bad : ⊥ = cc in absurd bad
run_asked word (w ∷ words) j is h = grind (arith, common_steps, or_at_ok, only_stands, turns_asked)

read_asked : (word : List ℕ) (words : List (List ℕ)) (j : Job) → word ≡ codes "emulate" → ReadFrom false None None 1 words j → AskFor (word ∷ words) j
read_asked word words j is r = grind (arith, common_steps)

emulate_asked : (word : List ℕ) (words : List (List ℕ)) (j : Job) → word ≡ codes "emulate" → read_on (asked.Emulate no_emulate_options) 1 words ≡ Ok j → AskFor (word ∷ words) j
emulate_asked word [] j is h = read_asked word [] j is (all_read false None None 1 j h)
emulate_asked word (w ∷ words) j is h =
    elim (option_on (length words) j false None None 1 w words (omega arith) h (reads_on (length words) j)) [
      | inl r ↦ read_asked word (w ∷ words) j is r
      | inr (without, (next, option, rest)) ↦ make_asked word (w ∷ words) j is (makes_from None None None 1 (w ∷ words) j (rw option rest))
    ]

no_word : (next : Parsing) → (let x : Option Parsing = None in x) ≡ Some next → ⊥
no_word next h = cc

-- of jobs without options
plain_asked : (jobs : List Job) (word : List ℕ) (words : List (List ℕ)) (next : Parsing) (j : Job) → AllByRecursion (λ job. AreOptions job []) jobs → plain_word jobs word ≡ Some next
    → read_on next 1 words ≡ Ok j → AskFor (word ∷ words) j
plain_asked [] word words next j without found h = let bad : ⊥ = cc in absurd bad
plain_asked (job ∷ jobs) word words next j without found h =
    elim (if_some (is_word word (command_of job)) (asked.Whole job) _ next found) [
      | inl (test, e) ↦
          let end = none_more (asked.Whole job) job 1 words j (λ v found k. no_word found k) refl (subst (λ (n : Parsing). read_on n 1 words ≡ Ok j) e h) in
          subst (AskFor (word ∷ words)) (sym end.1) (record { options = []; are = without.0; whole = rw ((bytes_decides word (command_of job)).0 test, end.0) refl })
      | inr (other, rest) ↦ plain_asked jobs word words next j without.1 rest h
    ]

pub read_is_asked : (words : List (List ℕ)) (j : Job) → words_of words ≡ Ok j → AskFor words j
read_is_asked [] j h = let bad : ⊥ = cc in absurd bad
read_is_asked (word ∷ words) j h =
    let step = or_at_ok 0 (command_word word) (λ next. read_on next 1 words) j h in
    elim (if_some (is_word word (codes "dump")) (asked.Dump false) _ step.0 step.1) [
      | inl (test, e) ↦ dump_asked word words j ((bytes_decides word (codes "dump")).0 test) (subst (λ (next : Parsing). read_on next 1 words ≡ Ok j) e step.2)
      | inr (other, rest) ↦ elim (if_some (is_word word (codes "run")) (asked.Run None) _ step.0 rest) [
        | inl (test, e) ↦ run_asked word words j ((bytes_decides word (codes "run")).0 test) (subst (λ (next : Parsing). read_on next 1 words ≡ Ok j) e step.2)
        | inr (other', rest') ↦ elim (if_some (is_word word (codes "emulate")) (asked.Emulate no_emulate_options) _ step.0 rest') [
          | inl (test, e) ↦ emulate_asked word words j ((bytes_decides word (codes "emulate")).0 test) (subst (λ (next : Parsing). read_on next 1 words ≡ Ok j) e step.2)
          | inr (other'', rest'') ↦ plain_asked plain_jobs word words step.0 j (search) rest'' step.2
        ]
      ]
    ]

-- The options of a made scenario, read.
use Rattle.mesh_tool.proofs.Common.{arith, common_steps, ◌≡◌, ℕ, ◌+◌, inl, inr, List, [], ◌∷◌, ◌++◌, Option, Some, None, Result, Ok, true, ◌&&◌, refl, sym, ap, subst, ◌∙◌, codes, is_none, option_map, flat_map, ◌>>=◌, Job, Kind, Parsing, is_word, kind_of, routers_of, seed_of, make_option, make_job, or_at, read_on, InAnyOrder, OptionWords, AskFor}
use Rattle.mesh_tool.specs.declared.words.job.Job.TheVariants as job
use Rattle.mesh_tool.specs.declared.words.asked.Parsing.TheVariants as asked
use Rattle.mesh_tool.specs.declared.words.asked.MakeOptions.{MakeOptions}
use Rattle.mesh_tool.specs.declared.words.asked.MakeValue.{MakeValue}
use Rattle.mesh_tool.specs.declared.words.asked.MakeValue.TheVariants as value
use Rattle.mesh_tool.proofs.WordsLemmas.Orders.{later, last}
use Rattle.mesh_tool.proofs.WordsLemmas.Reading.{or_at_ok, if_some, stands, only_stands, same_job}

-- ---- the options of a made scenario, where some stood before

abbrev opts : Option Kind → Option ℕ → Option ℕ → MakeOptions
opts kind routers seed = record { kind = kind; routers = routers; seed = seed }

-- an option that hasn't stood
abbrev missing : {A : Type 0} → Option A → OptionWords → List OptionWords
missing None words = words ∷ []
missing (Some x) words = []

-- its value: that which stood, or that which is read
abbrev Given : {A : Type 0} → Option A → Option A → A → Type 0
Given (Some v) read x = v ≡ x
Given None read x = read ≡ Some x

pub record MakesFrom (kind : Option Kind) (routers seed : Option ℕ) (words : List (List ℕ)) (j : Job) : Type 0 where
  k : List ℕ
  n : List ℕ
  s : List ℕ
  in_kind : Kind
  of_routers : ℕ
  by_seed : ℕ
  is_job : j ≡ job.Make in_kind of_routers by_seed
  is_kind : Given kind (kind_of k) in_kind
  are_routers : Given routers (routers_of n) of_routers
  is_seed : Given seed (seed_of s) by_seed
  options : List OptionWords
  whole : words ≡ flat_map (λ option. option) options
  any : InAnyOrder (missing kind (codes "--make" ∷ k ∷ []) ++ (missing routers (codes "--routers" ∷ n ∷ []) ++ (missing seed (codes "--seed" ∷ s ∷ []) ++ []))) options

all_given : (kind : Option Kind) (routers seed : Option ℕ) (j : Job) → make_job (opts kind routers seed) ≡ Some j → MakesFrom kind routers seed [] j
all_given (Some k) (Some n) (Some s) j h = record {
  k = [];
  n = [];
  s = [];
  in_kind = k;
  of_routers = n;
  by_seed = s;
  is_job = let e : job.Make k n s ≡ j = cc in sym e;
  is_kind = refl;
  are_routers = refl;
  is_seed = refl;
  options = [];
  whole = refl;
  any = refl;
}
all_given None routers seed j h = let bad : ⊥ = cc in absurd bad
all_given (Some k) None seed j h = let bad : ⊥ = cc in absurd bad
all_given (Some k) (Some n) None j h = let bad : ⊥ = cc in absurd bad

-- the option whose own word this is, which hasn't stood
abbrev Chosen : MakeValue → Option Kind → Option ℕ → Option ℕ → List ℕ → Type 0
Chosen value.Kind kind routers seed word = (word ≡ codes "--make") × (is_none kind ≡ true)
Chosen value.Routers kind routers seed word = (word ≡ codes "--routers") × (is_none routers ≡ true)
Chosen value.Seed kind routers seed word = (word ≡ codes "--seed") × (is_none seed ≡ true)

chosen : (kind : Option Kind) (routers seed : Option ℕ) (word : List ℕ) (next : Parsing) → make_option (opts kind routers seed) word ≡ Some next
    → (v : MakeValue) × (next ≡ asked.MakeAwaits (opts kind routers seed) v) × Chosen v kind routers seed word
chosen kind routers seed word next h = elim (if_some (is_word word (codes "--make") && is_none kind) (asked.MakeAwaits (opts kind routers seed) value.Kind) _ next h) [
  | inl (test, is) ↦ (value.Kind, is, stands word (codes "--make") (is_none kind) test)
  | inr (other, rest) ↦ elim (if_some (is_word word (codes "--routers") && is_none routers) (asked.MakeAwaits (opts kind routers seed) value.Routers) _ next rest) [
    | inl (test, is) ↦ (value.Routers, is, stands word (codes "--routers") (is_none routers) test)
    | inr (other', rest') ↦ let s = only_stands word (codes "--seed") (is_none seed) (asked.MakeAwaits (opts kind routers seed) value.Seed) next rest' in (value.Seed, s.2, (s.0, s.1))
  ]
]

value_read : {A : Type 0} (place : ℕ) (read : Option A) (g : A → MakeOptions) (f : Parsing → Result Job ℕ) (j : Job) → or_at place (option_map asked.Make (read >>= λ x. Some (g x))) f ≡ Ok j
    → (x : A) × (read ≡ Some x) × (f (asked.Make (g x)) ≡ Ok j)
value_read place (Some x) g f j h = (x, refl, h)
value_read place None g f j h = let bad : ⊥ = cc in absurd bad

two_on : (kind : Option Kind) (routers seed : Option ℕ) (place : ℕ) (word v : List ℕ) (words : List (List ℕ)) (j : Job) (awaited : MakeValue) → Chosen awaited kind routers seed word
    → read_on (asked.MakeAwaits (opts kind routers seed) awaited) (place + 1) (v ∷ words) ≡ Ok j
    → ((kind : Option Kind) (routers seed : Option ℕ) → read_on (asked.Make (opts kind routers seed)) (place + 1 + 1) words ≡ Ok j → MakesFrom kind routers seed words j)
    → MakesFrom kind routers seed (word ∷ v ∷ words) j
two_on None routers seed place word v words j value.Kind is h on =
    let x = value_read (place + 1) (kind_of v) (λ k. opts (Some k) routers seed) (λ next. read_on next (place + 1 + 1) words) j h in
    let r = on (Some x.0) routers seed x.2 in
    record {
      k = v;
      n = r.n;
      s = r.s;
      in_kind = r.in_kind;
      of_routers = r.of_routers;
      by_seed = r.by_seed;
      is_job = r.is_job;
      is_kind = x.1 ∙ ap (λ (y : Kind). Some y) r.is_kind;
      are_routers = r.are_routers;
      is_seed = r.is_seed;
      options = (codes "--make" ∷ v ∷ []) ∷ r.options;
      whole = ap (λ (w : List ℕ). w ∷ v ∷ words) is.0 ∙ ap (λ (l : List (List ℕ)). codes "--make" ∷ v ∷ l) r.whole;
      any = ([], r.options, refl, r.any);
    }
two_on kind None seed place word v words j value.Routers is h on =
    let x = value_read (place + 1) (routers_of v) (λ n. opts kind (Some n) seed) (λ next. read_on next (place + 1 + 1) words) j h in
    let r = on kind (Some x.0) seed x.2 in
    record {
      k = r.k;
      n = v;
      s = r.s;
      in_kind = r.in_kind;
      of_routers = r.of_routers;
      by_seed = r.by_seed;
      is_job = r.is_job;
      is_kind = r.is_kind;
      are_routers = x.1 ∙ ap (λ (y : ℕ). Some y) r.are_routers;
      is_seed = r.is_seed;
      options = (codes "--routers" ∷ v ∷ []) ∷ r.options;
      whole = ap (λ (w : List ℕ). w ∷ v ∷ words) is.0 ∙ ap (λ (l : List (List ℕ)). codes "--routers" ∷ v ∷ l) r.whole;
      any = later (missing kind (codes "--make" ∷ r.k ∷ [])) (codes "--routers" ∷ v ∷ []) (missing seed (codes "--seed" ∷ r.s ∷ []) ++ []) r.options r.any;
    }
two_on kind routers None place word v words j value.Seed is h on =
    let x = value_read (place + 1) (seed_of v) (λ s. opts kind routers (Some s)) (λ next. read_on next (place + 1 + 1) words) j h in
    let r = on kind routers (Some x.0) x.2 in
    record {
      k = r.k;
      n = r.n;
      s = v;
      in_kind = r.in_kind;
      of_routers = r.of_routers;
      by_seed = r.by_seed;
      is_job = r.is_job;
      is_kind = r.is_kind;
      are_routers = r.are_routers;
      is_seed = x.1 ∙ ap (λ (y : ℕ). Some y) r.is_seed;
      options = (codes "--seed" ∷ v ∷ []) ∷ r.options;
      whole = ap (λ (w : List ℕ). w ∷ v ∷ words) is.0 ∙ ap (λ (l : List (List ℕ)). codes "--seed" ∷ v ∷ l) r.whole;
      any = last (missing kind (codes "--make" ∷ r.k ∷ [])) (missing routers (codes "--routers" ∷ r.n ∷ [])) (codes "--seed" ∷ v ∷ []) r.options r.any;
    }
two_on (Some k) routers seed place word v words j value.Kind is h on = let bad : ⊥ = cc in absurd bad
two_on kind (Some n) seed place word v words j value.Routers is h on = let bad : ⊥ = cc in absurd bad
two_on kind routers (Some s) place word v words j value.Seed is h on = let bad : ⊥ = cc in absurd bad

pub makes_from : (kind : Option Kind) (routers seed : Option ℕ) (place : ℕ) (words : List (List ℕ)) (j : Job) → read_on (asked.Make (opts kind routers seed)) place words ≡ Ok j
    → MakesFrom kind routers seed words j
makes_from kind routers seed place [] j h = grind (arith, common_steps, or_at_ok, all_given, same_job)
makes_from kind routers seed place (word ∷ []) j h = grind (arith, common_steps, or_at_ok)
makes_from kind routers seed place (word ∷ v ∷ words) j h =
    let step = or_at_ok place (make_option (opts kind routers seed) word) (λ next. read_on next (place + 1) (v ∷ words)) j h in
    let c = chosen kind routers seed word step.0 step.1 in
    two_on kind routers seed place word v words j c.0 c.2 (subst (λ (next : Parsing). read_on next (place + 1) (v ∷ words) ≡ Ok j) c.1 step.2)
    (λ a b d k. makes_from a b d (place + 1 + 1) words j k)

pub make_asked : (word : List ℕ) (words : List (List ℕ)) (j : Job) → word ≡ codes "emulate" → MakesFrom None None None words j → AskFor (word ∷ words) j
make_asked word words j is m = grind (arith, common_steps)

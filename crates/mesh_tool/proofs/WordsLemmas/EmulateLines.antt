-- The options of `emulate` of a scenario that is read: asked for, and read.
use Rattle.mesh_tool.proofs.Common.{common_steps, ◌≡◌, ℕ, zero, suc, ◌+◌, ◌≤◌, ◌⊎◌, inl, inr, List, [], ◌∷◌, ◌++◌, length, Option, Some, None, Result, Ok, Bool, true, false, not, ◌&&◌, refl, sym, ap, subst, ◌∙◌, arith, codes, is_none, flat_map, append-nil, Addr4, ◌>>=◌, address_of, Job, Parsing, is_word, is_without, make_option, no_make_options, emulate_option, or_at, read_on, InAnyOrder, OptionWords, PlacedOption, at_place, placed, IsTraceOption, IsSend, IsProbe, cond_none_some}
use Rattle.mesh_tool.specs.declared.words.job.Job.TheVariants as job
use Rattle.mesh_tool.specs.declared.words.asked.Parsing.TheVariants as asked
use Rattle.mesh_tool.specs.declared.words.asked.EmulateOptions.{EmulateOptions}
use Rattle.mesh_tool.specs.declared.words.asked.EmulateValue.TheVariants as value
use Rattle.mesh_tool.proofs.WordsLemmas.Orders.{later, last, none_left, taken_out, IsFew, first_or_later}
use Rattle.mesh_tool.proofs.WordsLemmas.Reading.{or_at_ok, if_some, stands, same_job}

abbrev pub options_of : Bool → Option (ℕ × Addr4) → Option ℕ → EmulateOptions
options_of trace send probe = record { trace = trace; send = send; probe = probe }

abbrev pub packet_words : ℕ → Addr4 → ℕ × Addr4
packet_words from dest = (from, dest)

abbrev send_words : List ℕ → List ℕ → OptionWords
send_words from dest = codes "--send" ∷ from ∷ dest ∷ []

abbrev probe_words : List ℕ → OptionWords
probe_words name = codes "--probe" ∷ name ∷ []

-- what is still to come of an option, where it stood before, or not
abbrev MoreTrace : Bool → Bool → List PlacedOption → Type 0
MoreTrace true trace options = (trace ≡ true) × (options ≡ [])
MoreTrace false trace options = IsTraceOption trace options

abbrev More : {A : Type 0} → (Option A → List PlacedOption → Type 0) → Option A → Option A → List PlacedOption → Type 0
More Is (Some stood) now options = (now ≡ Some stood) × (options ≡ [])
More Is None now options = Is now options

-- where these stood before, these options at this place are asked for by the job of these
pub record Comes (t : Bool) (s : Option (ℕ × Addr4)) (p : Option ℕ) (trace : Bool) (send : Option (ℕ × Addr4)) (probe : Option ℕ) (place : ℕ) (options : List OptionWords) : Type 0 where
  pub traces : List PlacedOption
  pub sends : List PlacedOption
  pub probes : List PlacedOption
  pub is_trace : MoreTrace t trace traces
  pub is_send : More IsSend s send sends
  pub is_probe : More IsProbe p probe probes
  pub any : InAnyOrder (traces ++ (sends ++ probes)) (placed place options)

-- ---- one option, or none

abbrev first_words : List PlacedOption → OptionWords
first_words [] = []
first_words (x ∷ xs) = x.words

abbrev first_place : List PlacedOption → ℕ
first_place [] = 0
first_place (x ∷ xs) = x.place

few_trace : (t trace : Bool) (xs : List PlacedOption) → MoreTrace t trace xs → IsFew xs
few_trace t trace xs more = grind (arith, common_steps, at_place)

few_send : (send : Option (ℕ × Addr4)) (xs : List PlacedOption) → IsSend send xs → IsFew xs
few_send send xs none = grind (arith, common_steps, at_place)

few_probe : (probe : Option ℕ) (xs : List PlacedOption) → IsProbe probe xs → IsFew xs
few_probe probe xs none = grind (arith, common_steps, at_place)

few_more : {A : Type 0} (Is : Option A → List PlacedOption → Type 0) → ((now : Option A) (xs : List PlacedOption) → Is now xs → IsFew xs) → (stood now : Option A) (xs : List PlacedOption)
    → More Is stood now xs → IsFew xs
few_more Is few stood now xs more = grind (arith, common_steps)

-- none is left
trace_done : (t trace : Bool) (xs : List PlacedOption) → MoreTrace t trace xs → xs ≡ [] → trace ≡ t
trace_done t trace xs more none = grind (arith, common_steps)

send_done : (send : Option (ℕ × Addr4)) (xs : List PlacedOption) → IsSend send xs → xs ≡ [] → send ≡ None
send_done send xs is none = grind (arith, common_steps)

probe_done : (probe : Option ℕ) (xs : List PlacedOption) → IsProbe probe xs → xs ≡ [] → probe ≡ None
probe_done probe xs is none = grind (arith, common_steps)

more_done : {A : Type 0} (Is : Option A → List PlacedOption → Type 0) → ((now : Option A) (xs : List PlacedOption) → Is now xs → xs ≡ [] → now ≡ None) → (stood now : Option A) (xs : List PlacedOption)
    → More Is stood now xs → xs ≡ [] → now ≡ stood
more_done Is done stood now xs more none = grind (arith, common_steps)

not_none : {A : Type 0} (front : List A) (y : A) (back : List A) → [] ≡ front ++ y ∷ back → ⊥
not_none [] y back e = cc
not_none (f ∷ front) y back e = cc

-- ---- what is asked for is read

module _ (trace : Bool) (send : Option (ℕ × Addr4)) (probe : Option ℕ) where
  -- one of the options is read, where the rest is
  abbrev pub Reads : Bool → Option (ℕ × Addr4) → Option ℕ → ℕ → List OptionWords → Type 0
  Reads t s p place options = read_on (asked.Emulate (options_of t s p)) place (flat_map (λ option. option) options) ≡ Ok (job.Emulate trace send probe)

reads_trace : (t : Bool) (s : Option (ℕ × Addr4)) (p : Option ℕ) (trace : Bool) (send : Option (ℕ × Addr4)) (probe : Option ℕ) (place : ℕ) (option : OptionWords) (options : List OptionWords) (xs : List PlacedOption)
    → MoreTrace t trace xs → xs ≡ at_place place option ∷ []
    → (MoreTrace true trace [] → Reads trace send probe true s p (place + length option) options) → Reads trace send probe t s p place (option ∷ options)
reads_trace t s p trace send probe place option options xs more is on = grind (arith, common_steps)

reads_send : (t : Bool) (s : Option (ℕ × Addr4)) (p : Option ℕ) (trace : Bool) (send : Option (ℕ × Addr4)) (probe : Option ℕ) (place : ℕ) (option : OptionWords) (options : List OptionWords) (xs : List PlacedOption)
    → More IsSend s send xs → xs ≡ at_place place option ∷ []
    → ((w : ℕ × Addr4) → More IsSend (Some w) send [] → Reads trace send probe t (Some w) p (place + length option) options) → Reads trace send probe t s p place (option ∷ options)
reads_send t (Some w) p trace send probe place option options xs more is on = let none : xs ≡ [] = more.1 in let bad : ⊥ = cc in absurd bad
reads_send t None p trace None probe place option options xs none is on = let bad : ⊥ = cc in absurd bad
reads_send t None p trace (Some w) probe place option options xs (at, from, dest, behind, is_dest, one) is on =
    let words : option ≡ send_words from dest = ap first_words (sym is ∙ one) in
    let here : place ≡ at = ap first_place (sym is ∙ one) in
    let count : place + length option ≡ place + 1 + 1 + 1 = ap (λ (o : OptionWords). place + length o) words ∙ omega arith in
    let from_is : w.0 ≡ place + 1 = behind ∙ ap (λ (n : ℕ). n + 1) (sym here) in
    let packet : packet_words (place + 1) w.1 ≡ w = ap (λ (n : ℕ). packet_words n w.1) (sym from_is) in
    let rest = subst (λ (n : ℕ). Reads trace (Some w) probe t (Some w) p n options) count (on w (refl, refl)) in
    rw words (subst (λ (r : Option Addr4). or_at (place + 1 + 1) (r >>= λ x. Some (asked.Emulate (options_of t (Some (packet_words (place + 1) x)) p))) (λ next. read_on next (place + 1 + 1 + 1) (flat_map (λ o. o) options)) ≡ Ok (job.Emulate trace (Some w) probe)) (sym is_dest)
    (subst (λ (k : ℕ × Addr4). Reads trace (Some w) probe t (Some k) p (place + 1 + 1 + 1) options) (sym packet) rest))

reads_probe : (t : Bool) (s : Option (ℕ × Addr4)) (p : Option ℕ) (trace : Bool) (send : Option (ℕ × Addr4)) (probe : Option ℕ) (place : ℕ) (option : OptionWords) (options : List OptionWords) (xs : List PlacedOption)
    → More IsProbe p probe xs → xs ≡ at_place place option ∷ []
    → ((k : ℕ) → More IsProbe (Some k) probe [] → Reads trace send probe t s (Some k) (place + length option) options) → Reads trace send probe t s p place (option ∷ options)
reads_probe t s p trace send probe place option options xs more is on = grind (arith, common_steps)

pub comes_read : (trace : Bool) (send : Option (ℕ × Addr4)) (probe : Option ℕ) (options : List OptionWords) (t : Bool) (s : Option (ℕ × Addr4)) (p : Option ℕ) (place : ℕ)
    → Comes t s p trace send probe place options → Reads trace send probe t s p place options
comes_read trace send probe [] t s p place c = grind (arith, common_steps, none_left, trace_done, more_done, send_done, probe_done)
comes_read trace send probe (option ∷ options) t s p place c =
    let x = at_place place option in
    let next = place + length option in
    let out = taken_out (c.traces ++ (c.sends ++ c.probes)) x (placed next options) c.any in
    let Rest : List PlacedOption → Type 0 = λ l. InAnyOrder l (placed next options) in
    elim (first_or_later c.traces (c.sends ++ c.probes) out.0 x out.1 (few_trace t trace c.traces c.is_trace) out.2) [
      | inl (here, rest) ↦ reads_trace t s p trace send probe place option options c.traces c.is_trace here
          (λ more. comes_read trace send probe options true s p next
          (record { traces = []; sends = c.sends; probes = c.probes; is_trace = more; is_send = c.is_send; is_probe = c.is_probe; any = subst Rest rest out.3 }))
      | inr (behind, is, rest) ↦ elim (first_or_later c.sends c.probes behind x out.1 (few_more IsSend few_send s send c.sends c.is_send) is) [
        | inl (here, rest') ↦ reads_send t s p trace send probe place option options c.sends c.is_send here
            (λ w more. comes_read trace send probe options t (Some w) p next
            (record { traces = c.traces; sends = []; probes = c.probes; is_trace = c.is_trace; is_send = more; is_probe = c.is_probe; any = subst Rest (rest ∙ ap (λ l. c.traces ++ l) rest') out.3 }))
        | inr (behind', is', rest') ↦ elim (first_or_later c.probes [] behind' x out.1 (few_more IsProbe few_probe p probe c.probes c.is_probe) (append-nil c.probes ∙ is')) [
          | inl (here, rest'') ↦ reads_probe t s p trace send probe place option options c.probes c.is_probe here
              (λ k more. comes_read trace send probe options t s (Some k) next
              (record { traces = c.traces; sends = c.sends; probes = []; is_trace = c.is_trace; is_send = c.is_send; is_probe = more; any = subst Rest (rest ∙ ap (λ l. c.traces ++ l) (rest' ∙ ap (λ l. c.sends ++ l) rest'')) out.3 }))
          | inr (behind'', is'', rest'') ↦ absurd (not_none behind'' x out.1 is'')
        ]
      ]
    ]

-- ---- what is read is asked for

-- these words, at this place, are options that a job is asked for by, where these stood before
pub record ReadFrom (t : Bool) (s : Option (ℕ × Addr4)) (p : Option ℕ) (place : ℕ) (words : List (List ℕ)) (j : Job) : Type 0 where
  pub trace : Bool
  pub send : Option (ℕ × Addr4)
  pub probe : Option ℕ
  pub is_job : j ≡ job.Emulate trace send probe
  pub options : List OptionWords
  pub whole : words ≡ flat_map (λ option. option) options
  pub comes : Comes t s p trace send probe place options

none_more_trace : (t : Bool) → MoreTrace t t []
none_more_trace t = grind (arith, common_steps)

none_more_send : (s : Option (ℕ × Addr4)) → More IsSend s s []
none_more_send s = grind (arith, common_steps)

none_more_probe : (p : Option ℕ) → More IsProbe p p []
none_more_probe p = grind (arith, common_steps)

pub all_read : (t : Bool) (s : Option (ℕ × Addr4)) (p : Option ℕ) (place : ℕ) (j : Job) → read_on (asked.Emulate (options_of t s p)) place [] ≡ Ok j → ReadFrom t s p place [] j
all_read t s p place j h = record {
  trace = t;
  send = s;
  probe = p;
  is_job = sym (same_job (job.Emulate t s p) j h);
  options = [];
  whole = refl;
  comes = record { traces = []; sends = []; probes = []; is_trace = none_more_trace t; is_send = none_more_send s; is_probe = none_more_probe p; any = refl };
}

with_trace : (t : Bool) (s : Option (ℕ × Addr4)) (p : Option ℕ) (place : ℕ) (w : List ℕ) (words : List (List ℕ)) (j : Job) → w ≡ codes "--trace" → not t ≡ true
    → ReadFrom true s p (place + 1) words j → ReadFrom t s p place (w ∷ words) j
with_trace true s p place w words j is free r = let bad : ⊥ = cc in absurd bad
with_trace false s p place w words j is free r =
    let c = r.comes in
    let option : OptionWords = codes "--trace" ∷ [] in
    let stood : r.trace ≡ true = c.is_trace.0 in
    record {
      trace = r.trace;
      send = r.send;
      probe = r.probe;
      is_job = r.is_job;
      options = option ∷ r.options;
      whole = ap (λ v. v ∷ words) is ∙ ap (λ l. codes "--trace" ∷ l) r.whole;
      comes = record {
        traces = at_place place option ∷ [];
        sends = c.sends;
        probes = c.probes;
        is_trace = subst (λ (b : Bool). IsTraceOption b (at_place place option ∷ [])) (sym stood) (place, refl);
        is_send = c.is_send;
        is_probe = c.is_probe;
        any = ([], placed (place + 1) r.options, refl, subst (λ l. InAnyOrder (l ++ (c.sends ++ c.probes)) (placed (place + 1) r.options)) c.is_trace.1 c.any);
      };
    }

with_send : (t : Bool) (p : Option ℕ) (place : ℕ) (w from dest : List ℕ) (to : Addr4) (words : List (List ℕ)) (j : Job) → w ≡ codes "--send" → address_of dest ≡ Some to
    → ReadFrom t (Some (packet_words (place + 1) to)) p (place + 1 + 1 + 1) words j → ReadFrom t None p place (w ∷ from ∷ dest ∷ words) j
with_send t p place w from dest to words j is is_dest r =
    let c = r.comes in
    let option = send_words from dest in
    let count : place + length option ≡ place + 1 + 1 + 1 = omega arith in
    record {
      trace = r.trace;
      send = r.send;
      probe = r.probe;
      is_job = r.is_job;
      options = option ∷ r.options;
      whole = ap (λ v. v ∷ from ∷ dest ∷ words) is ∙ ap (λ l. codes "--send" ∷ from ∷ dest ∷ l) r.whole;
      comes = record {
        traces = c.traces;
        sends = at_place place option ∷ [];
        probes = c.probes;
        is_trace = c.is_trace;
        is_send = subst (λ (o : Option (ℕ × Addr4)). IsSend o (at_place place option ∷ [])) (sym c.is_send.0) (place, from, dest, refl, is_dest, refl);
        is_probe = c.is_probe;
        any = later c.traces (at_place place option) c.probes (placed (place + length option) r.options)
            (subst (λ (n : ℕ). InAnyOrder (c.traces ++ c.probes) (placed n r.options)) (sym count) (subst (λ l. InAnyOrder (c.traces ++ (l ++ c.probes)) (placed (place + 1 + 1 + 1) r.options)) c.is_send.1 c.any));
      };
    }

with_probe : (t : Bool) (s : Option (ℕ × Addr4)) (place : ℕ) (w name : List ℕ) (words : List (List ℕ)) (j : Job) → w ≡ codes "--probe"
    → ReadFrom t s (Some (place + 1)) (place + 1 + 1) words j → ReadFrom t s None place (w ∷ name ∷ words) j
with_probe t s place w name words j is r =
    let c = r.comes in
    let option = probe_words name in
    let count : place + length option ≡ place + 1 + 1 = omega arith in
    record {
      trace = r.trace;
      send = r.send;
      probe = r.probe;
      is_job = r.is_job;
      options = option ∷ r.options;
      whole = ap (λ v. v ∷ name ∷ words) is ∙ ap (λ l. codes "--probe" ∷ name ∷ l) r.whole;
      comes = record {
        traces = c.traces;
        sends = c.sends;
        probes = at_place place option ∷ [];
        is_trace = c.is_trace;
        is_send = c.is_send;
        is_probe = subst (λ (o : Option ℕ). IsProbe o (at_place place option ∷ [])) (sym c.is_probe.0) (place, name, refl, refl);
        any = last c.traces c.sends (at_place place option) (placed (place + length option) r.options)
            (subst (λ (n : ℕ). InAnyOrder (c.traces ++ (c.sends ++ [])) (placed n r.options)) (sym count) (subst (λ l. InAnyOrder (c.traces ++ (c.sends ++ l)) (placed (place + 1 + 1) r.options)) c.is_probe.1 c.any));
      };
    }

-- the words behind an option's own
dest_read : (place : ℕ) (read : Option Addr4) (g : Addr4 → EmulateOptions) (f : Parsing → Result Job ℕ) (j : Job) → or_at place (read >>= λ x. Some (asked.Emulate (g x))) f ≡ Ok j
    → (x : Addr4) × (read ≡ Some x) × (f (asked.Emulate (g x)) ≡ Ok j)
dest_read place (Some x) g f j h = (x, refl, h)
dest_read place None g f j h = let bad : ⊥ = cc in absurd bad

-- what is read behind these options, where some stand already
abbrev pub ReadsOn : ℕ → Job → Type 0
ReadsOn n j = (t : Bool) (s : Option (ℕ × Addr4)) (p : Option ℕ) (place : ℕ) (words : List (List ℕ)) → length words ≤ n → is_without (options_of t s p) ≡ false
    → read_on (asked.Emulate (options_of t s p)) place words ≡ Ok j → ReadFrom t s p place words j

send_stood : (t : Bool) (w : ℕ × Addr4) (p : Option ℕ) → is_without (options_of t (Some w) p) ≡ false
send_stood t w p = grind (arith, common_steps)

probe_stood : (t : Bool) (s : Option (ℕ × Addr4)) (k : ℕ) → is_without (options_of t s (Some k)) ≡ false
probe_stood t s k = grind (arith, common_steps)

sends_on : (n : ℕ) (j : Job) (t : Bool) (p : Option ℕ) (place : ℕ) (w : List ℕ) (words : List (List ℕ)) → length words ≤ n → w ≡ codes "--send"
    → read_on (asked.EmulateAwaits (options_of t None p) value.From) (place + 1) words ≡ Ok j → ReadsOn n j → ReadFrom t None p place (w ∷ words) j
sends_on n j t p place w [] short is h on = let bad : ⊥ = cc in absurd bad
sends_on n j t p place w (from ∷ []) short is h on = let bad : ⊥ = cc in absurd bad
sends_on n j t p place w (from ∷ dest ∷ words) short is h on =
    let x = dest_read (place + 1 + 1) (address_of dest) (λ to. options_of t (Some (packet_words (place + 1) to)) p) (λ next. read_on next (place + 1 + 1 + 1) words) j h in
    with_send t p place w from dest x.0 words j is x.1 (on t (Some (packet_words (place + 1) x.0)) p (place + 1 + 1 + 1) words (omega (arith, short)) (send_stood t (packet_words (place + 1) x.0) p) x.2)

probes_on : (n : ℕ) (j : Job) (t : Bool) (s : Option (ℕ × Addr4)) (place : ℕ) (w : List ℕ) (words : List (List ℕ)) → length words ≤ n → w ≡ codes "--probe"
    → read_on (asked.EmulateAwaits (options_of t s None) value.Name) (place + 1) words ≡ Ok j → ReadsOn n j → ReadFrom t s None place (w ∷ words) j
probes_on n j t s place w [] short is h on = let bad : ⊥ = cc in absurd bad
probes_on n j t s place w (name ∷ words) short is h on = grind (arith, common_steps, with_probe, probe_stood)

-- where none of a made scenario's options stands, or the first of them does
abbrev pub IsOption : ℕ → Job → Bool → Option (ℕ × Addr4) → Option ℕ → ℕ → List ℕ → List (List ℕ) → Type 0
IsOption n j t s p place w words =
    ReadFrom t s p place (w ∷ words) j
    ⊎ ((is_without (options_of t s p) ≡ true) × ((next : Parsing) × (make_option no_make_options w ≡ Some next) × (read_on next (place + 1) words ≡ Ok j)))

trace_next : (n : ℕ) (j : Job) (t : Bool) (s : Option (ℕ × Addr4)) (p : Option ℕ) (place : ℕ) (w : List ℕ) (words : List (List ℕ)) (next : Parsing) → length words ≤ n
    → (is_word w (codes "--trace") && not t) ≡ true → next ≡ asked.Emulate (options_of true s p) → read_on next (place + 1) words ≡ Ok j → ReadsOn n j → ReadFrom t s p place (w ∷ words) j
trace_next n j t s p place w words next short test is h on =
    let free = stands w (codes "--trace") (not t) test in
    with_trace t s p place w words j free.0 free.1 (on true s p (place + 1) words short refl (subst (λ (a : Parsing). read_on a (place + 1) words ≡ Ok j) is h))

send_next : (n : ℕ) (j : Job) (t : Bool) (s : Option (ℕ × Addr4)) (p : Option ℕ) (place : ℕ) (w : List ℕ) (words : List (List ℕ)) (next : Parsing) → length words ≤ n
    → (is_word w (codes "--send") && is_none s) ≡ true → next ≡ asked.EmulateAwaits (options_of t s p) value.From → read_on next (place + 1) words ≡ Ok j → ReadsOn n j → ReadFrom t s p place (w ∷ words) j
send_next n j t None p place w words next short test is h on =
    let free = stands w (codes "--send") true test in
    sends_on n j t p place w words short free.0 (subst (λ (a : Parsing). read_on a (place + 1) words ≡ Ok j) is h) on
send_next n j t (Some k) p place w words next short test is h on = let free = stands w (codes "--send") false test in let bad : false ≡ true = free.1 in absurd cc

probe_next : (n : ℕ) (j : Job) (t : Bool) (s : Option (ℕ × Addr4)) (p : Option ℕ) (place : ℕ) (w : List ℕ) (words : List (List ℕ)) (next : Parsing) → length words ≤ n
    → (is_word w (codes "--probe") && is_none p) ≡ true → next ≡ asked.EmulateAwaits (options_of t s p) value.Name → read_on next (place + 1) words ≡ Ok j → ReadsOn n j → ReadFrom t s p place (w ∷ words) j
probe_next n j t s None place w words next short test is h on =
    let free = stands w (codes "--probe") true test in
    probes_on n j t s place w words short free.0 (subst (λ (a : Parsing). read_on a (place + 1) words ≡ Ok j) is h) on
probe_next n j t s (Some k) place w words next short test is h on = let free = stands w (codes "--probe") false test in let bad : false ≡ true = free.1 in absurd cc

pub option_on : (n : ℕ) (j : Job) (t : Bool) (s : Option (ℕ × Addr4)) (p : Option ℕ) (place : ℕ) (w : List ℕ) (words : List (List ℕ)) → length words ≤ n
    → read_on (asked.Emulate (options_of t s p)) place (w ∷ words) ≡ Ok j → ReadsOn n j → IsOption n j t s p place w words
option_on n j t s p place w words short h on =
    let step = or_at_ok place (emulate_option (options_of t s p) w) (λ next. read_on next (place + 1) words) j h in
    elim (if_some (is_word w (codes "--trace") && not t) (asked.Emulate (options_of true s p)) _ step.0 step.1) [
      | inl (test, is) ↦ inl (trace_next n j t s p place w words step.0 short test is step.2 on)
      | inr (a, rest) ↦ elim (if_some (is_word w (codes "--send") && is_none s) (asked.EmulateAwaits (options_of t s p) value.From) _ step.0 rest) [
        | inl (test, is) ↦ inl (send_next n j t s p place w words step.0 short test is step.2 on)
        | inr (b, rest') ↦ elim (if_some (is_word w (codes "--probe") && is_none p) (asked.EmulateAwaits (options_of t s p) value.Name) _ step.0 rest') [
          | inl (test, is) ↦ inl (probe_next n j t s p place w words step.0 short test is step.2 on)
          | inr (d, rest'') ↦ let m = cond_none_some (is_without (options_of t s p)) (make_option no_make_options w) step.0 rest'' in inr (m.0, (step.0, m.1, step.2))
        ]
      ]
    ]

pub reads_on : (n : ℕ) (j : Job) → ReadsOn n j
reads_on n j t s p place [] short stood h = all_read t s p place j h
reads_on zero j t s p place (w ∷ words) short stood h = absurd (omega (arith, short))
reads_on (suc n) j t s p place (w ∷ words) short stood h =
    elim (option_on n j t s p place w words (omega (arith, short)) h (λ t' s' p' at more few some k. reads_on n j t' s' p' at more few some k)) [
      | inl r ↦ r
      | inr (without, m) ↦ let bad : true ≡ false = sym without ∙ stood in absurd cc
    ]

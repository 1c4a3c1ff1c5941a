-- The pieces of an emulation, from the pieces of its parts.
use Rattle.mesh_emulate.proofs.Common.{arith, common_steps, ◌≡◌, ℕ, Bool, List, [], ◌∷◌, ◌++◌, Option, Some, None, Result, Err, refl, sym, ap, ◌∙◌, subst, append_assoc, IsSome, concat, append-nil, State, Stop, IsPacketSent, IsProbed, TellsWanted, piece_if, TellsEvents, IsEndSummary, Emulation, IsRefused, without_both, IsFirstPart, Of_nothing, Of_first_events, But_the_trip, But_the_probe, EmulationMakes, In_first, In_next, MakesWanted, RunWithPieces, EventsMake, IsTripText, EndMakes, WholeRunMakes, IsProbedText, ErrandMakes, Unopened, Opened, MakesOne, PutsPieces, WantedPacket, Wants, IsNamed, Agree, Departs, Departure, NetState, IsOpeningNet, IfSettingRefused, ConfigFault}
use Rattle.mesh_io.specs.declared.stop.Stop.TheVariants as stop
use Rattle.mesh_emulate.specs.Prepared.{IsPrepared, IsUnbegun}
use Rattle.mesh_emulate.specs.declared.emulation.EmulateFault.{EmulateFault}
use Rattle.mesh_emulate.specs.declared.emulation.EmulateFault.TheVariants.{Refused, Stopped}
use Rattle.mesh_emulate.specs.declared.prepared.Prepared.{Prepared}
use Rattle.mesh_emulate.proofs.Parts.{whole_run}
use Rattle.mesh_emulate.proofs.Putting.{puts_as, both_made}
use Rattle.mesh_config.specs.declared.keys.fault.ConfigFault.TheVariants as faults

same_stop : (a b : Stop) → ◌≡◌ {A = Result (Unit {0}) EmulateFault} (Err (Stopped a)) (Err (Stopped b)) → a ≡ b
same_stop a b e = cc

-- Before the first event

pub unbegun_refused : (input : List ℕ) (wants : Wants) (fault : ConfigFault) (ends : EmulateFault) → IsUnbegun fault ends → IfSettingRefused (IsRefused input wants) fault →
    (number : ℕ) (key : List ℕ) → ◌≡◌ {A = Result (Unit {0}) EmulateFault} (Err ends) (Err (Refused number key)) → IsRefused input wants number key
unbegun_refused input wants (faults.Refused n k) ends is refused number key e =
    let same : n ≡ number = cc in
    let keyed : k ≡ key = cc in
    subst (IsRefused input wants number) keyed (subst (λ (m : ℕ). IsRefused input wants m k) same refused)
unbegun_refused input wants (faults.Memory a) ends is refused number key e = let bad : ⊥ = cc in absurd bad

pub unbegun_written : (fault : ConfigFault) (ends : EmulateFault) → IsUnbegun fault ends →
    ◌≡◌ {A = Result (Unit {0}) EmulateFault} (Err ends) (Err (Stopped stop.Write)) → ⊥
unbegun_written fault ends is e = grind (arith, common_steps)

-- From numbers to names

-- a text is wanted, and no piece is there yet
unmade : {A B : Type 0} (R : A → B → Type 0) (IsText : B → List ℕ → Type 0) (x : Option A) (y : Option B) (pieces : List (List ℕ)) → Agree R x y →
    MakesWanted IsText y pieces None → IsSome x × (pieces ≡ [])
unmade R IsText x y pieces is none = grind (arith, common_steps)

-- the text that is wanted by number is wanted by name
made_wanted : {A B : Type 0} (R : A → B → Type 0) (IsText : B → List ℕ → Type 0) (IsText' : A → List ℕ → Type 0) (x : Option A) (y : Option B) (pieces : List (List ℕ)) →
    ((a : A) (b : B) (text : List ℕ) → R a b → IsText b text → IsText' a text) → Agree R x y → MakesWanted IsText y pieces (Some tt) →
    (text : List ℕ) × TellsWanted IsText' x text × (pieces ≡ piece_if x text)
made_wanted R IsText IsText' (Some a) (Some b) pieces turn is (text, told, whole) = (text, turn a b text is told, whole)
made_wanted R IsText IsText' None None pieces turn is none = ([], refl, none)
made_wanted R IsText IsText' None (Some b) pieces turn is made = absurd is
made_wanted R IsText IsText' (Some a) None pieces turn is made = absurd is

-- the pieces of the parts, one behind the other
joined : (pieces first next events end one trips trip probe : List (List ℕ)) (summary : List ℕ) → pieces ≡ first ++ next → first ≡ events ++ end → end ≡ one ++ trips →
    one ≡ summary ∷ [] → trips ≡ trip → next ≡ probe → pieces ≡ events ++ summary ∷ (trip ++ probe)
joined pieces first next events end one trips trip probe summary a b c d e f = rw (a, b, c, d, e, f) (append_assoc events (summary ∷ trip) probe)

module _ (input : List ℕ) (wants : Wants) (p : Prepared) (ready : IsPrepared input wants p) where
  trip_named : (states : List State) (packet : WantedPacket) (departure : Departure) (text : List ℕ) → Departs p.scenario packet departure →
      IsTripText p.scenario states departure text → IsPacketSent p.scenario states packet text
  trip_named states packet departure text departs h5 = grind (arith, common_steps)

  probe_named : (states : List State) (name : List ℕ) (origin : ℕ) (text : List ℕ) → IsNamed p.scenario name origin → IsProbedText p.scenario states origin text →
      IsProbed p.scenario states name text
  probe_named states name origin text is h5 = grind (arith, common_steps)

  module _ (opening : NetState) (opens : IsOpeningNet p.scenario opening) where
    -- some first events
    first_events : (stopped : NetState) (pieces events : List (List ℕ)) → RunWithPieces p.errand.trace opening stopped events → pieces ≡ events → IsFirstPart input wants pieces
    first_events stopped pieces events told same =
        Of_first_events p.scenario ready.stated (record { opening = opening; events = told.events; stopped = stopped; is_opening = opens; runs = told.runs })
        (rw same (subst (λ (b : Bool). TellsEvents b opening told.events stopped events) ready.errand.trace told.are_told))

    module _ (final : NetState) where
      -- an emulation of this run
      emulation : (w : Wants) → wants.trace ≡ w.trace → (events : List (List ℕ)) → EventsMake p.errand.trace opening final events (Some tt) →
          (summary : List ℕ) → IsEndSummary p.scenario final summary → (trip : List ℕ) → TellsWanted (IsPacketSent p.scenario final.routers) w.send trip →
          (probe : List ℕ) → TellsWanted (IsProbed p.scenario final.routers) w.probe probe → (pieces : List (List ℕ)) →
          pieces ≡ events ++ summary ∷ (piece_if w.send trip ++ piece_if w.probe probe) → (e : Emulation input w) × (pieces ≡ e.pieces)
      emulation w same events (told, over) summary is_summary trip is_trip probe is_probe pieces is = (
        record {
          scenario = p.scenario;
          stated = ready.stated;
          run = whole_run p.scenario p.errand.trace opening final events opens told over;
          events = events;
          are_events = subst (λ (b : Bool). TellsEvents b opening told.events final events) (ready.errand.trace ∙ same) told.are_told;
          summary = summary;
          is_summary = is_summary;
          trip = trip;
          is_trip = is_trip;
          probe = probe;
          is_probe = is_probe;
          pieces = pieces;
          are_pieces = is;
          text = concat pieces;
          whole = refl;
        },
        refl,
      )

      -- the run is told, and then the probe that is wanted
      told : (wanted : Option (List ℕ)) (probe : List ℕ) (pieces first next : List (List ℕ)) → WholeRunMakes p.scenario p.errand opening final first (Some tt) →
          TellsWanted (IsProbed p.scenario final.routers) wanted probe → next ≡ piece_if wanted probe → pieces ≡ first ++ next →
          (e : Emulation input (record { trace = wants.trace; send = wants.send; probe = wanted })) × (pieces ≡ e.pieces)
      told wanted probe pieces first next run is_probe behind whole =
          let (events, end, are_events, is_end, front) = both_made (EventsMake p.errand.trace opening final) (EndMakes p.scenario p.errand.send final) first run in
          let (one, trips, (summary, is_summary, is_one), are_trips, whole_end) =
          both_made (MakesOne (λ (u : Unit {0}). IsEndSummary p.scenario final)) (MakesWanted (IsTripText p.scenario final.routers) p.errand.send) end is_end in
          let (trip, is_trip, is_trips) = made_wanted (Departs p.scenario) (IsTripText p.scenario final.routers) (IsPacketSent p.scenario final.routers) wants.send p.errand.send trips
          (trip_named final.routers) ready.errand.departs are_trips in
          emulation (record { trace = wants.trace; send = wants.send; probe = wanted }) refl events are_events summary is_summary trip is_trip probe is_probe pieces
          (joined pieces first next events end one trips (piece_if wants.send trip) (piece_if wanted probe) summary whole front whole_end is_one is_trips behind)

      -- the run is not told whole
      run_part : (pieces : List (List ℕ)) → WholeRunMakes p.scenario p.errand opening final pieces None → IsFirstPart input wants pieces
      run_part pieces (In_first (stopped, events) is) = first_events stopped pieces pieces events refl
      run_part pieces (In_next events end (told, over) (In_first none is) whole) =
          first_events final pieces events told (whole ∙ ap (λ (l : List (List ℕ)). events ++ l) none ∙ append-nil events)
      run_part pieces (In_next events end are_events (In_next one trips (summary, is_summary, is_one) trip whole_end) whole) =
          let (some, none) = unmade (Departs p.scenario) (IsTripText p.scenario final.routers) wants.send p.errand.send trips ready.errand.departs trip in
          let e = emulation (without_both wants) refl events are_events summary is_summary [] refl [] refl pieces
          (joined pieces pieces [] events end one trips [] [] summary (sym (append-nil pieces)) whole whole_end is_one none refl) in
          But_the_trip some e.0 e.1

  pub makes : (pieces : List (List ℕ)) (answer : Option (Unit {0})) → ErrandMakes p.scenario p.errand pieces answer → EmulationMakes input wants pieces answer
  makes pieces (Some u) (Unopened none is) = let bad : ⊥ = cc in absurd bad
  makes pieces None (Unopened none is) = Of_nothing none
  makes pieces (Some u) (Opened opening final opens both) =
      let (first, next, run, probes, whole) = both_made (WholeRunMakes p.scenario p.errand opening final) (MakesWanted (IsProbedText p.scenario final.routers) p.errand.probe) pieces both in
      let (probe, is_probe, is_next) = made_wanted (IsNamed p.scenario) (IsProbedText p.scenario final.routers) (IsProbed p.scenario final.routers) wants.probe p.errand.probe next
      (probe_named final.routers) ready.errand.origin probes in
      told opening opens final wants.probe probe pieces first next run is_probe is_next whole
  makes pieces None (Opened opening final opens (In_first run is)) = run_part opening opens final pieces run
  makes pieces None (Opened opening final opens (In_next first next run probes whole)) =
      let (some, none) = unmade (IsNamed p.scenario) (IsProbedText p.scenario final.routers) wants.probe p.errand.probe next ready.errand.origin probes in
      let e = told opening opens final None [] pieces first next run refl none whole in
      But_the_probe some e.0 e.1

  -- the pieces that were put where the run stopped
  pub stopped : (a b : Option (List ℕ)) (f g : ℕ) (why how : Stop) → ◌≡◌ {A = Result (Unit {0}) EmulateFault} (Err (Stopped why)) (Err (Stopped how)) →
      PutsPieces (ErrandMakes p.scenario p.errand) a b f g (Err why) → PutsPieces (EmulationMakes input wants) a b f g (Err how)
  stopped a b f g why how e left =
      subst (λ (s : Stop). PutsPieces (EmulationMakes input wants) a b f g (Err s)) (same_stop why how e)
      (puts_as (ErrandMakes p.scenario p.errand) (EmulationMakes input wants) a b f g (Err why) makes left)

-- What was done from one position to another, and then more.
use Rattle.mesh_run.proofs.Common.{common_steps, ◌≡◌, ℕ, ◌+◌, ◌-◌, ◌^◌, ◌<◌, ◌≤◌, min, max, List, [], ◌++◌, ◌∷◌, Option, Some, None, refl, sym, ap, subst, ◌∙◌, append_assoc, arith, cond, nat_le, append-nil, length-append, State, kept_whole, Report, TellsMore, Event, Hear, due, Tally, Position, RunsTurns, tick_of, moment_of, greatest_of, Stays, Then_begins, Then_listens, A_moment, An_ear, KeepsEvent, Acts, HearsInterface, HearsInVain, Going, Broken, Turning, Stopped, at, counted}
use Rattle.std.proofs.lemmas.Bool.{le-leb, lt-leb}
use Rattle.mesh_io.specs.Airs.Report.{Heard_frame, Heard_silence, Heard_fault}
use Rattle.mesh_atoms.specs.declared.addr.Addr4.{Addr4}
use Rattle.mesh_run.proofs.TurnsLemmas.Tellings.{tells_nothing, tells_more, counted_nothing, counted_more}

-- What an interface hears

zero_more : (x : ℕ) → x + 0 ≡ x
zero_more x = omega arith

-- a frame that was heard counts one more
heard_one : (t : Tally) (h iface : ℕ) (sender : Addr4) (bytes : List ℕ) → h ≡ t.heard + 1 →
    (let u : Tally = record { heard = h; sent = t.sent; faults = t.faults } in u) ≡ counted t (Heard_frame iface sender bytes ∷ [])
heard_one t h iface sender bytes e = rw (e, zero_more t.sent, zero_more t.faults) refl

-- a frame is heard, and then what comes of it
pub hears_frame : (end now iface : ℕ) (sender : Addr4) (octets bytes : List ℕ) (old new : State) (a b c : Option (List Report)) (t v : Tally) (h : ℕ) → octets ≡ bytes →
    h ≡ t.heard + 1 → TellsMore a b (Heard_frame iface sender bytes ∷ []) →
    Acts end old (Some (Hear (record { now = now; iface = iface; sender = sender }) octets)) new b c (record { heard = h; sent = t.sent; faults = t.faults }) v →
    HearsInterface end now iface old new a c t v
hears_frame end now iface sender octets bytes old new a b c t v h same more told acts = record {
  ear = Heard_frame iface sender bytes;
  reports = acts.reports;
  tells = tells_more a b c (Heard_frame iface sender bytes ∷ []) acts.reports told acts.tells;
  heard = refl;
  does = subst (λ (l : List ℕ). KeepsEvent end old (Some (Hear (record { now = now; iface = iface; sender = sender }) l)) acts.reports new) same acts.does;
  counts = counted_more t (record { heard = h; sent = t.sent; faults = t.faults }) v (Heard_frame iface sender bytes ∷ []) acts.reports (heard_one t h iface sender bytes more) acts.counts;
}

-- silence, or a fault
pub hears_silence : (end now iface : ℕ) (s : State) (a b : Option (List Report)) (t : Tally) → TellsMore a b (Heard_silence iface ∷ []) →
    HearsInterface end now iface s s a b t t
hears_silence end now iface s a b t told = record {
  ear = Heard_silence iface;
  reports = [];
  tells = told;
  heard = refl;
  does = (s, (refl, refl), kept_whole end s);
  counts = rw (zero_more t.heard, zero_more t.sent, zero_more t.faults) refl;
}

pub hears_fault : (end now iface : ℕ) (s : State) (a b : Option (List Report)) (t : Tally) (f : ℕ) → f ≡ t.faults + 1 → TellsMore a b (Heard_fault iface ∷ []) →
    HearsInterface end now iface s s a b t (record { heard = t.heard; sent = t.sent; faults = f })
hears_fault end now iface s a b t f more told = record {
  ear = Heard_fault iface;
  reports = [];
  tells = told;
  heard = refl;
  does = (s, (refl, refl), kept_whole end s);
  counts = rw (more, zero_more t.heard, zero_more t.sent) refl;
}

-- a frame is heard, and nothing comes of it
pub hears_in_vain : (iface : ℕ) (sender : Addr4) (bytes : List ℕ) (a b c : Option (List Report)) →
    TellsMore a b (Heard_frame iface sender bytes ∷ []) → TellsMore b c [] → HearsInVain iface a c
hears_in_vain iface sender bytes a b c told silent = grind (arith, common_steps, tells_more)

-- From position to position

-- nothing is done
pub going_nothing : (end count : ℕ) (s : Position) (a : Option (List Report)) (t : Tally) → Going end count s s [] a a t t
going_nothing end count s a t = record { reports = []; tells = tells_nothing a; goes = Stays; counts = counted_nothing t }

-- the next interface is heard
pub going_hears : (end count : ℕ) (s : Position) (ms : List ℕ) (now i : ℕ) (old new : State) (a b c : Option (List Report)) (t u v : Tally) →
    Going end count s (at old now i) ms a b t u → i < count → HearsInterface end now i old new b c u v → Going end count s (at new now (i + 1)) ms a c t v
going_hears end count s ms now i old new a b c t u v g lt h = record {
  reports = g.reports ++ h.ear ∷ h.reports;
  tells = tells_more a b c g.reports (h.ear ∷ h.reports) g.tells h.tells;
  goes = Then_listens g.goes (record { within = lt; heard = h.heard; does = h.does; moment = refl; next = refl });
  counts = counted_more t u v g.reports (h.ear ∷ h.reports) g.counts h.counts;
}

-- the next interface is heard in vain
pub broken_hears : (end count : ℕ) (s : Position) (ms : List ℕ) (now i : ℕ) (old : State) (a b c : Option (List Report)) (t u : Tally) →
    Going end count s (at old now i) ms a b t u → i < count → HearsInVain i b c → Broken end count s ms a c
broken_hears end count s ms now i old a b c t u g lt h = record {
  first_moments = ms;
  first_reports = g.reports;
  position = at old now i;
  goes = g.goes;
  lost_moments = [];
  lost_reports = h.ear ∷ [];
  is_lost = An_ear h.ear lt h.heard;
  moments_are = sym (append-nil ms);
  tells = tells_more a b c g.reports (h.ear ∷ []) g.tells h.tells;
}

-- more is done
goes_more : (end count : ℕ) (s m p : Position) (ms ns : List ℕ) (rs qs : List Report) → RunsTurns (KeepsEvent end) end count s ms rs m → RunsTurns (KeepsEvent end) end count m ns qs p →
    RunsTurns (KeepsEvent end) end count s (ms ++ ns) (rs ++ qs) p
goes_more end count s m p ms ns rs qs g Stays = rw (append-nil ms, append-nil rs) g
goes_more end count s m p ms ns rs qs g (Then_begins {moments = ks} {reports = js} {more = more} {told = told} h b) =
    rw (← append_assoc ms ks (told ∷ []), ← append_assoc rs js more) (Then_begins (goes_more end count s m _ ms ks rs js g h) b)
goes_more end count s m p ms ns rs qs g (Then_listens {moments = ks} {reports = js} {more = more} {ear = ear} h b) =
    rw (← append_assoc rs js (ear ∷ more)) (Then_listens (goes_more end count s m _ ms ks rs js g h) b)

pub going_more : (end count : ℕ) (s m p : Position) (ms ns : List ℕ) (a b c : Option (List Report)) (t u v : Tally) →
    Going end count s m ms a b t u → Going end count m p ns b c u v → Going end count s p (ms ++ ns) a c t v
going_more end count s m p ms ns a b c t u v g h = record {
  reports = g.reports ++ h.reports;
  tells = tells_more a b c g.reports h.reports g.tells h.tells;
  goes = goes_more end count s m p ms ns g.reports h.reports g.goes h.goes;
  counts = counted_more t u v g.reports h.reports g.counts h.counts;
}

pub broken_more : (end count : ℕ) (s m : Position) (ms ns : List ℕ) (a b c : Option (List Report)) (t u : Tally) →
    Going end count s m ms a b t u → Broken end count m ns b c → Broken end count s (ms ++ ns) a c
broken_more end count s m ms ns a b c t u g k = record {
  first_moments = ms ++ k.first_moments;
  first_reports = g.reports ++ k.first_reports;
  position = k.position;
  goes = goes_more end count s m k.position ms k.first_moments g.reports k.first_reports g.goes k.goes;
  lost_moments = k.lost_moments;
  lost_reports = k.lost_reports;
  is_lost = k.is_lost;
  moments_are = ap (λ (l : List ℕ). ms ++ l) k.moments_are ∙ sym (append_assoc ms k.first_moments k.lost_moments);
  tells = subst (λ (l : List Report). TellsMore a c l) (sym (append_assoc g.reports k.first_reports k.lost_reports))
      (tells_more a b c g.reports (k.first_reports ++ k.lost_reports) g.tells k.tells);
}

-- the same place
pub going_at : (end count : ℕ) (s : Position) (ms : List ℕ) (x : State) (now now' i j : ℕ) (a b : Option (List Report)) (t u : Tally) →
    now ≡ now' → i ≡ j → Going end count s (at x now i) ms a b t u → Going end count s (at x now' j) ms a b t u
going_at end count s ms x now now' i j a b t u e f g = grind (arith, common_steps)

-- A turn

-- before the end a router that isn't due doesn't tick
pub acts_nothing : (end now : ℕ) (s : State) (a : Option (List Report)) (t : Tally) → now < end → now < due s → Acts end s (tick_of end now s) s a a t t
acts_nothing end now s a t early before =
    let none : tick_of end now s ≡ None = rw (lt-leb end now early, lt-leb (due s) now before) refl in
    record {
      reports = [];
      tells = tells_nothing a;
      does = subst (λ (event : Option Event). KeepsEvent end s event [] s) (sym none) (s, (refl, refl), kept_whole end s);
      counts = counted_nothing t;
    }

-- a turn that has begun: the moment told, the greatest moment told so far, and what the tick did
pub record Begun (end last now told g : ℕ) (old mid : State) (clock clock' : Option (List ℕ)) (a b : Option (List Report)) (t u : Tally) : Type 0 where
  pub going : last < end
  pub greatest : g ≡ max last told
  pub now_is : now ≡ min g (2 ^ 62 - 1)
  pub tells : TellsMore clock clock' (told ∷ [])
  pub acts : Acts end old (tick_of end now old) mid a b t u

begun : (end count last now told g : ℕ) (old mid : State) (clock clock' : Option (List ℕ)) (a b : Option (List Report)) (t u : Tally) (n : ℕ) →
    Begun end last now told g old mid clock clock' a b t u → cond (nat_le end now) count 0 ≡ n →
    Going end count (at old last count) (at mid now n) (told ∷ []) a b t u
begun end count last now told g old mid clock clock' a b t u n h e =
    let is : now ≡ moment_of last told = omega (arith, h.greatest, h.now_is) in
    going_at end count (at old last count) (told ∷ []) mid now now (cond (nat_le end now) count 0) n a b t u refl e (record {
      reports = h.acts.reports;
      tells = h.acts.tells;
      goes = Then_begins {moments = []} {reports = []} Stays (record { between = refl; going = h.going; moment = is; does = h.acts.does; next = refl });
      counts = h.acts.counts;
    })

-- one turn
one_turn : (end count last now told g : ℕ) (old new : State) (clock clock' : Option (List ℕ)) (a b : Option (List Report)) (t u : Tally) →
    g ≡ max last told → now ≡ min g (2 ^ 62 - 1) → TellsMore clock clock' (told ∷ []) →
    Going end count (at old last count) (at new now count) (told ∷ []) a b t u →
    Turning end count (at old last count) (at new (moment_of 0 g) count) 1 last g clock clock' a b t u
one_turn end count last now told g old new clock clock' a b t u greatest now_is tells going = grind (arith, common_steps, going_at)

pub turn_ends : (end count last now told g : ℕ) (old mid : State) (clock clock' : Option (List ℕ)) (a b : Option (List Report)) (t u : Tally) →
    Begun end last now told g old mid clock clock' a b t u → end ≤ now →
    Turning end count (at old last count) (at mid (moment_of 0 g) count) 1 last g clock clock' a b t u
turn_ends end count last now told g old mid clock clock' a b t u h le =
    one_turn end count last now told g old mid clock clock' a b t u h.greatest h.now_is h.tells
    (begun end count last now told g old mid clock clock' a b t u count h (rw (le-leb end now le) refl))

pub turn_goes : (end count last now told g : ℕ) (old mid new : State) (clock clock' : Option (List ℕ)) (a b c : Option (List Report)) (t u v : Tally) →
    Begun end last now told g old mid clock clock' a b t u → now < end → Going end count (at mid now 0) (at new now count) [] b c u v →
    Turning end count (at old last count) (at new (moment_of 0 g) count) 1 last g clock clock' a c t v
turn_goes end count last now told g old mid new clock clock' a b c t u v h lt k =
    one_turn end count last now told g old new clock clock' a c t v h.greatest h.now_is h.tells
    (going_more end count (at old last count) (at mid now 0) (at new now count) (told ∷ []) [] a b c t u v
    (begun end count last now told g old mid clock clock' a b t u 0 h (rw (lt-leb end now lt) refl)) k)

-- a turn whose tick an allocation failure stops
pub turn_stops : (end count last told : ℕ) (old : State) (clock clock' : Option (List ℕ)) (a b : Option (List Report)) →
    TellsMore clock clock' (told ∷ []) → TellsMore a b [] → Stopped 1 end count (at old last count) clock clock' a b
turn_stops end count last told old clock clock' a b tells silent = record {
  moments = told ∷ [];
  clock_tells = tells;
  within = omega arith;
  broken = record {
    first_moments = [];
    first_reports = [];
    position = at old last count;
    goes = Stays;
    lost_moments = told ∷ [];
    lost_reports = [];
    is_lost = A_moment told refl;
    moments_are = refl;
    tells = silent;
  };
}

-- a turn that an allocation failure stops while an interface is heard
pub turn_breaks : (end count last now told g : ℕ) (old mid : State) (clock clock' : Option (List ℕ)) (a b c : Option (List Report)) (t u : Tally) →
    Begun end last now told g old mid clock clock' a b t u → now < end → Broken end count (at mid now 0) [] b c →
    Stopped 1 end count (at old last count) clock clock' a c
turn_breaks end count last now told g old mid clock clock' a b c t u h lt k = record {
  moments = told ∷ [];
  clock_tells = h.tells;
  within = omega arith;
  broken = broken_more end count (at old last count) (at mid now 0) (told ∷ []) [] a b c t u
      (begun end count last now told g old mid clock clock' a b t u 0 h (rw (lt-leb end now lt) refl)) k;
}

-- Turns

-- the greatest of moments, and of more
greatest_more : (ms ns : List ℕ) → greatest_of (ms ++ ns) ≡ max (greatest_of ms) (greatest_of ns)
greatest_more [] ns = omega arith
greatest_more (m ∷ ms) ns = ap (λ (n : ℕ). max m n) (greatest_more ms ns) ∙ omega arith

pub turning_nothing : (end count : ℕ) (s : Position) (k : Option (List ℕ)) (a : Option (List Report)) (t : Tally) →
    Turning end count s s 0 0 0 k k a a t t
turning_nothing end count s k a t = grind (arith, common_steps, tells_nothing, going_nothing)

pub turning_more : (end count : ℕ) (s m p : Position) (n n' g g' g'' : ℕ) (k l o : Option (List ℕ)) (a b c : Option (List Report)) (t u v : Tally) →
    Turning end count s m n g g' k l a b t u → Turning end count m p n' g' g'' l o b c u v → Turning end count s p (n + n') g g'' k o a c t v
turning_more end count s m p n n' g g' g'' k l o a b c t u v h w = record {
  moments = h.moments ++ w.moments;
  clock_tells = tells_more k l o h.moments w.moments h.clock_tells w.clock_tells;
  turns_are = omega (arith, h.turns_are, w.turns_are, length-append h.moments w.moments);
  greatest_is = omega (arith, h.greatest_is, w.greatest_is, greatest_more h.moments w.moments);
  going = going_more end count s m p h.moments w.moments a b c t u v h.going w.going;
}

pub turning_at : (end count : ℕ) (s : Position) (x : State) (m m' n g g' : ℕ) (k l : Option (List ℕ)) (a b : Option (List Report)) (t u : Tally) →
    m ≡ m' → Turning end count s (at x m count) n g g' k l a b t u → Turning end count s (at x m' count) n g g' k l a b t u
turning_at end count s x m m' n g g' k l a b t u e h = subst (λ (y : ℕ). Turning end count s (at x y count) n g g' k l a b t u) e h

pub turning_stops : (most end count : ℕ) (s m : Position) (n g g' : ℕ) (k l o : Option (List ℕ)) (a b c : Option (List Report)) (t u : Tally) →
    n < most → Turning end count s m n g g' k l a b t u → Stopped 1 end count m l o b c → Stopped most end count s k o a c
turning_stops most end count s m n g g' k l o a b c t u fewer h w = record {
  moments = h.moments ++ w.moments;
  clock_tells = tells_more k l o h.moments w.moments h.clock_tells w.clock_tells;
  within = omega (arith, fewer, h.turns_are, w.within, length-append h.moments w.moments);
  broken = broken_more end count s m h.moments w.moments a b c t u h.going w.broken;
}

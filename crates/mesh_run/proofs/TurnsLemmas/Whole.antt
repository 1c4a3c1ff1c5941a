-- Turns from the opening of a router on.
use Rattle.mesh_run.proofs.Common.{common_steps, ◌≡◌, ℕ, ◌+◌, ◌≤◌, max, List, [], ◌++◌, length, Option, refl, sym, ap, arith, append-nil, RunSetup, State, IsKeptOf, kept_whole, Report, IsOpening, Ended, Tally, moment_of, greatest_of, tally_of, ended_by, DoesTurns, StopsTurns, Stays, Nothing, Turning, Stopped, at, counted}
use Rattle.mesh_run.proofs.TurnsLemmas.Kept.{whole_turns, lost_whole}
use Rattle.mesh_run.proofs.TurnsLemmas.Tellings.{tells_nothing}

-- counts from nothing on
abbrev pub no_tally : Tally
no_tally = record { heard = 0; sent = 0; faults = 0 }

counted_all : (reports : List Report) → counted no_tally reports ≡ tally_of reports
counted_all reports = grind (arith, common_steps)

ended_is : (n g : ℕ) (u : Tally) (ms : List ℕ) (rs : List Report) → n ≡ length ms → g ≡ max 0 (greatest_of ms) → u ≡ counted no_tally rs →
    (let ended : Ended = record { turns = n; greatest = g; tally = u } in ended) ≡ ended_by ms rs
ended_is n g u ms rs e f h = grind (arith, common_steps, counted_all)

pub does_turns : (setup : RunSetup) (old new : State) (n g : ℕ) (k l : Option (List ℕ)) (a b : Option (List Report)) (u : Tally) →
    IsOpening setup.router old →
    Turning setup.end (length setup.ports) (at old 0 (length setup.ports)) (at new (moment_of 0 g) (length setup.ports)) n 0 g k l a b no_tally u →
    (whole : State) × DoesTurns setup whole (record { turns = n; greatest = g; tally = u }) k l a b × IsKeptOf setup.end whole new
does_turns setup old new n g k l a b u opening t =
    let (whole, goes, kept) = whole_turns setup.end (length setup.ports) (at old 0 (length setup.ports)) old (kept_whole setup.end old)
    t.moments t.going.reports (at new (moment_of 0 g) (length setup.ports)) t.going.goes in (
      whole,
      record {
        moments = t.moments;
        reports = t.going.reports;
        clock_tells = t.clock_tells;
        air_tells = t.going.tells;
        turns = record { opening = old; is_opening = opening; goes = goes };
        ended_is = ended_is n g u t.moments t.going.reports t.turns_are t.greatest_is t.going.counts;
      },
      kept,
    )

pub stops_turns : (setup : RunSetup) (most : ℕ) (old : State) (k l : Option (List ℕ)) (a b : Option (List Report)) →
    IsOpening setup.router old → Stopped most setup.end (length setup.ports) (at old 0 (length setup.ports)) k l a b → StopsTurns setup most k l a b
stops_turns setup most old k l a b opening s =
    let (whole, goes, kept) = whole_turns setup.end (length setup.ports) (at old 0 (length setup.ports)) old (kept_whole setup.end old)
    s.broken.first_moments s.broken.first_reports s.broken.position s.broken.goes in
    record {
      moments = s.moments;
      reports = s.broken.first_reports ++ s.broken.lost_reports;
      clock_tells = s.clock_tells;
      air_tells = s.broken.tells;
      within = s.within;
      stops = record {
        first_moments = s.broken.first_moments;
        first_reports = s.broken.first_reports;
        position = record s.broken.position { state = whole };
        goes = record { opening = old; is_opening = opening; goes = goes };
        lost_moments = s.broken.lost_moments;
        lost_reports = s.broken.lost_reports;
        is_lost = lost_whole (length setup.ports) s.broken.position whole s.broken.lost_moments s.broken.lost_reports s.broken.is_lost;
        moments_are = s.broken.moments_are;
        reports_are = refl;
      };
    }

-- where nothing was told yet
pub stops_before : (setup : RunSetup) (most : ℕ) (old : State) (k : Option (List ℕ)) (a : Option (List Report)) → IsOpening setup.router old →
    StopsTurns setup most k k a a
stops_before setup most old k a opening = record {
  moments = [];
  reports = [];
  clock_tells = tells_nothing k;
  air_tells = tells_nothing a;
  within = omega arith;
  stops = record {
    first_moments = [];
    first_reports = [];
    position = at old 0 (length setup.ports);
    goes = record { opening = old; is_opening = opening; goes = Stays };
    lost_moments = [];
    lost_reports = [];
    is_lost = Nothing;
    moments_are = refl;
    reports_are = refl;
  };
}

-- where whole turns were done, and nothing is lost
pub stops_behind : (setup : RunSetup) (most : ℕ) (state : State) (ended : Ended) (k l : Option (List ℕ)) (a b : Option (List Report)) →
    ended.turns ≤ most → DoesTurns setup state ended k l a b → StopsTurns setup most k l a b
stops_behind setup most state ended k l a b within d = record {
  moments = d.moments;
  reports = d.reports;
  clock_tells = d.clock_tells;
  air_tells = d.air_tells;
  within = omega (arith, within, ap (λ (e : Ended). e.turns) d.ended_is);
  stops = record {
    first_moments = d.moments;
    first_reports = d.reports;
    position = at state (moment_of 0 ended.greatest) (length setup.ports);
    goes = d.turns;
    lost_moments = [];
    lost_reports = [];
    is_lost = Nothing;
    moments_are = sym (append-nil d.moments);
    reports_are = sym (append-nil d.reports);
  };
}

-- The moments that a clock told in turns, and the end of a run.
use Rattle.mesh_run.proofs.Common.{common_steps, ℕ, ◌^◌, ◌<◌, ◌≤◌, List, All, arith, Report, DoesEvent, Position, RunsTurns, Stays, Then_begins, Then_listens, ReachesEnd}
use Rattle.std.proofs.lemmas.List.Elements.{All-nil, All-cons, All-append}

module _ (end count : ℕ) (early : end < 2 ^ 62) (start : Position) (before : start.moment < end) where
  -- all moments are below the end, where the last turn's is
  pub below_end : (moments : List ℕ) (reports : List Report) (stop : Position) → RunsTurns DoesEvent end count start moments reports stop → stop.moment < end →
      All (λ moment. moment < end) moments
  below_end moments reports stop Stays lt = All-nil (λ moment. moment < end)
  below_end moments reports stop (Then_begins {moments = ms} {reports = rs} {mid = mid} {told = told} goes begins) lt = grind (arith, common_steps, All-append, All-cons, All-nil, (below_end ms rs mid goes begins.going))
  below_end moments reports stop (Then_listens {reports = rs} {mid = mid} goes listens) lt =
      below_end moments rs mid goes (omega (arith, listens.moment, lt))

  -- the last moment alone is at or above the end, where the last turn's is
  pub reaches_end : (moments : List ℕ) (reports : List Report) (stop : Position) → RunsTurns DoesEvent end count start moments reports stop → end ≤ stop.moment →
      ReachesEnd end moments
  reaches_end moments reports stop Stays le = absurd (omega (arith, before, le))
  reaches_end moments reports stop (Then_begins {moments = ms} {reports = rs} {mid = mid} {told = told} goes begins) le = grind (arith, common_steps, below_end)
  reaches_end moments reports stop (Then_listens {reports = rs} {mid = mid} goes listens) le =
      reaches_end moments rs mid goes (omega (arith, listens.moment, le))

-- Steps and near holds stand in order.
use Rattle.mesh_config.proofs.Common.{◌≡◌, ℕ, List, map, codes, Result, Ok, Err, IfOk, IsTrue, ap, Data, Members, QualityStep, are_ascending, same_ok, ConfigFault, ValueOrFault, first, then_turned, ticks, Each, rising_visits, at_ms, quality_value, step_visits, StepIs, hops, near_hold_ms, near_hold_visits, NearHoldIs}
use Rattle.mesh_atoms.specs.declared.settings.NearHold.{NearHold}
use Rattle.mesh_config.proofs.StatedLemmas.RisingTables.{numbered, rising_ascends, ticks_rise}

step_at : (t : Members) (step : QualityStep) (n : ℕ) → at_ms t ≡ Ok n → StepIs t step → step.at ≡ ticks n
step_at t step n read is = same_ok {r = then_turned ticks (at_ms t)} {a = step.at} {b = ticks n} is.is_at (ap (then_turned ticks) read)

pub steps_ascend : (ds : List Data) (r : Result (List QualityStep) ConfigFault) → ValueOrFault (Each StepIs ds) (first (rising_visits step_visits at_ms (codes "quality") 0 ds)) r
    → IfOk r (λ steps. IsTrue (are_ascending (map (λ s. s.at) steps)))
steps_ascend ds (Err e) met = tt
steps_ascend ds (Ok steps) met =
    rising_ascends StepIs step_visits at_ms (codes "quality") (λ (s : QualityStep). s.at) ticks ticks_rise step_at (numbered (codes "at_ms") at_ms (codes "value") quality_value) 0 ds steps met.0 met.1

near_at : (t : Members) (near : NearHold) (n : ℕ) → hops t ≡ Ok n → NearHoldIs t near → near.hops ≡ n
near_at t near n read is = same_ok {r = hops t} {a = near.hops} {b = n} is.is_hops read

pub near_holds_ascend : (ds : List Data) (r : Result (List NearHold) ConfigFault) → ValueOrFault (Each NearHoldIs ds) (first (rising_visits near_hold_visits hops (codes "near_hold") 0 ds)) r
    → IfOk r (λ nears. IsTrue (are_ascending (map (λ n. n.hops) nears)))
near_holds_ascend ds (Err e) met = tt
near_holds_ascend ds (Ok nears) met =
    rising_ascends NearHoldIs near_hold_visits hops (codes "near_hold") (λ (n : NearHold). n.hops) (λ n. n) (λ m n less. less) near_at (numbered (codes "hops") hops (codes "hold_ms") near_hold_ms) 0 ds nears met.0 met.1

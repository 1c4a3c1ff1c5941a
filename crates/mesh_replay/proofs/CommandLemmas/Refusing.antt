-- How an answer is told, and inputs that are refused.
use Rattle.mesh_replay.proofs.Common.{arith, common_steps, ◌≡◌, Result, Err, ℕ, ◌≤◌, List, Option, Some, Ok, length, IfErr, Replay, Fault, fault, FailsAt, IfSettingRefused, FirstRefusal, IsSplit, IsRefusedInput, By_settings}
use Rattle.mesh_config.specs.declared.keys.fault.ConfigFault.{ConfigFault}
use Rattle.mesh_config.specs.declared.keys.fault.ConfigFault.TheVariants as faults

-- ---- How an answer is told.

-- ---- Inputs that are refused.

same_fault : (a b : Fault) → ◌≡◌ {A = Option Fault} (Some a) (Some b) → a ≡ b
same_fault a b e = cc

-- the fault of that number and key
pub refused_so : (P : ℕ → List ℕ → Type 0) (f : ConfigFault) (number : ℕ) (key : List ℕ) → FailsAt f (Some (fault number key)) → P number key → IfSettingRefused P f
refused_so P f number key is p = grind (arith, common_steps, same_fault)

-- settings that are refused
pub settings_refused : (input settings trace : List ℕ) (r : Result Replay ConfigFault) → IsSplit input settings trace → length settings ≤ 1048576 →
    IfErr r (IfSettingRefused (FirstRefusal settings)) → IfErr r (IfSettingRefused (IsRefusedInput input))
settings_refused input settings trace (Ok answer) split within refused = tt
settings_refused input settings trace (Err (faults.Memory e)) split within refused = tt
settings_refused input settings trace (Err (faults.Refused number key)) split within refused = By_settings settings trace split within refused

-- What is known before the first event.
use Rattle.std.specs.Prelude.{◌≡◌, ℕ, List}
use Rattle.mesh_emulate.specs.declared.emulation.EmulateFault.{EmulateFault}
use Rattle.mesh_emulate.specs.declared.emulation.EmulateFault.TheVariants.{Refused, Stopped}
use Rattle.mesh_emulate.specs.declared.prepared.Prepared.{Prepared}
use Rattle.mesh_emulate.specs.Emulation.{States}
use Rattle.mesh_emulate.specs.Wants.{Wants, IsErrand, IsWithin}
use Rattle.mesh_io.specs.declared.stop.Stop.TheVariants as stop
use Rattle.mesh_config.specs.declared.keys.fault.ConfigFault.{ConfigFault}
use Rattle.mesh_config.specs.declared.keys.fault.ConfigFault.TheVariants as faults

-- the scenario that the input states, and what is wanted, by numbers of its routers
pub record IsPrepared (input : List ℕ) (wants : Wants) (p : Prepared) : Type 0 where
  pub stated : States input p.scenario
  pub errand : IsErrand p.scenario wants p.errand
  pub within : IsWithin p.scenario p.errand

-- how an emulation ends that isn't begun for that fault
abbrev pub IsUnbegun : ConfigFault → EmulateFault → Type 0
IsUnbegun (faults.Refused number key) fault = fault ≡ Refused number key
IsUnbegun (faults.Memory e) fault = fault ≡ Stopped stop.Memory

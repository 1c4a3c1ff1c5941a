-- How an input ends that isn't answered.
use Rattle.std.specs.Prelude.{◌≡◌}
use Rattle.mesh_config.specs.declared.keys.fault.ConfigFault.{ConfigFault}
use Rattle.mesh_config.specs.declared.keys.fault.ConfigFault.TheVariants as faults
use Rattle.mesh_io.specs.declared.stop.Stop.TheVariants as stop
use Rattle.mesh_replay.specs.declared.command.input.ReplayFault.{ReplayFault}
use Rattle.mesh_replay.specs.declared.command.input.ReplayFault.TheVariants.{Refused, Stopped}

-- how an input ends that isn't answered for that fault
abbrev pub IsUnanswered : ConfigFault → ReplayFault → Type 0
IsUnanswered (faults.Refused number key) fault = fault ≡ Refused number key
IsUnanswered (faults.Memory e) fault = fault ≡ Stopped stop.Memory

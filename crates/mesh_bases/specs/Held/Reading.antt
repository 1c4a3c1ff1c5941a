-- What a TC does to the topology.
use Rattle.std.specs.Prelude.{◌≡◌, ◌≢◌, ℕ, Bool, false}
use Rattle.mesh_atoms.specs.declared.tc.Tc.{Tc}
use Rattle.mesh_atoms.specs.AfterTc.{TcAnswer, TakesTc}
use Rattle.mesh_atoms.specs.State.{TopologyBase}
use Rattle.mesh_flood.specs.declared.verdict.Process.{Process}
use Rattle.mesh_flood.specs.declared.verdict.Process.TheVariants as process
use Rattle.mesh_machine.specs.declared.fate.Read.{Read}
use Rattle.mesh_machine.specs.declared.fate.Read.TheVariants as read
use Rattle.mesh_machine.specs.Messages.{tc_read, is_processed}

-- a TC is taken where it is to be processed, and else changes nothing: what is made of it, and whether it counts as processed
pub data ReadsTc (now : ℕ) (tc : Tc) (does : Process) (old new : TopologyBase) (made : Read) (done : Bool) : Type 0 where
  Taken_in : (answer : TcAnswer) → does ≡ process.Do → TakesTc now tc old new answer → made ≡ tc_read tc answer →
      done ≡ is_processed answer → ReadsTc now tc does old new made done
  Passed_by : does ≢ process.Do → new ≡ old → made ≡ read.Passed does → done ≡ false → ReadsTc now tc does old new made done

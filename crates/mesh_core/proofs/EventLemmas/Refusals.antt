-- What a router answers to a frame that is refused.
use Rattle.mesh_core.proofs.Common.{arith, common_steps, ◌≡◌, ℕ, List, Refusal, FirstFault}
use Rattle.mesh_machine.specs.declared.fate.Heard.TheVariants as heard
use Rattle.mesh_packet.specs.Laws.{HasOneFault}

-- a frame is refused for its first fault
pub refused_at : (bytes : List ℕ) (refusal : Refusal) (place reason : ℕ) → HasOneFault → FirstFault bytes refusal.place refusal.reason → FirstFault bytes place reason →
    heard.Refused refusal ≡ heard.Refused (record { place = place; reason = reason })
refused_at bytes refusal place reason one is fault = grind (arith, common_steps)

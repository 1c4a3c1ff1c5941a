-- What a frame that spells a packet does to the bases.
use Rattle.std.specs.Prelude.{ℕ, List, [], Bool, true, false}
use Rattle.mesh_atoms.specs.declared.addr.Addr4.{Addr4}
use Rattle.mesh_atoms.specs.declared.settings.RouterSettings.{RouterSettings}
use Rattle.mesh_atoms.specs.Live.{Live}
use Rattle.mesh_atoms.specs.State.{Bases, IsOriginator}
use Rattle.mesh_machine.specs.declared.arrival.Arrival.{Arrival}
use Rattle.mesh_machine.specs.declared.fate.Fate.{Fate}
use Rattle.mesh_machine.specs.declared.frame.Frame.{Frame}
use Rattle.mesh_machine.specs.Messages.{TakesMessages}
use Rattle.mesh_packet.specs.declared.packet.Span.{Span}
use Rattle.mesh_packet.specs.Fields.{PacketFields}
use Rattle.mesh_packet.specs.Grammar.{Spells}

-- the fates that are kept: all, or none where nobody wants them
abbrev pub kept_fates : Bool → List Fate → List Fate
kept_fates true fates = fates
kept_fates false fates = []

-- what is expired goes, then the messages of the packet are taken in order, and what is sent is what they have forwarded
pub record TakesFrame (settings : RouterSettings) (old : Bases) (arrival : Arrival) (bytes : List ℕ) (fates : List Fate) (sent : List Frame) (new : Bases) : Type 0 where
  pub packet : PacketFields
  pub spans : List Span
  pub spelled : Spells packet spans bytes
  pub own : Addr4
  pub is_own : IsOriginator settings own
  pub live : Bases
  pub is_live : Live settings arrival.now old live
  pub takes : TakesMessages settings own arrival bytes live packet.messages spans new sent fates

-- What a HELLO tells, as the definitions of the taking of a HELLO have it, and whom.
use Rattle.std.specs.Prelude.{◌↔◌, List, Contains}
use Rattle.mesh_atoms.specs.declared.addr.Addr4.{Addr4}
use Rattle.mesh_atoms.specs.declared.settings.RouterSettings.{RouterSettings}
use Rattle.mesh_atoms.specs.HelloTold.{Told}
use Rattle.mesh_atoms.specs.State.{HasAddress}
use Rattle.mesh_hello.specs.declared.told.telling.HelloInfo.{HelloInfo}

-- these are the addresses of a router with these settings
abbrev pub AreOwnAddresses : RouterSettings → List Addr4 → Type 0
AreOwnAddresses settings own = (a : Addr4) → Contains own a ↔ HasAddress settings a

abbrev pub told_of : HelloInfo → Told
told_of t = record { shown = t.shown; least = t.least; listed = t.listed; originator = t.originator; willing = t.willing; routing = t.routing }

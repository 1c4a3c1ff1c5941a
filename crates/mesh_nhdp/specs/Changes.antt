-- The changes of the links and the 2-hop tuples of interfaces: expiry, and the taking of a HELLO.
use Rattle.std.specs.Prelude.{◌≡◌, ℕ, ◌<◌, ◌^◌, Some, nat_eq, slice_get}
use Rattle.mesh_atoms.specs.Base.{Base}
use Rattle.mesh_atoms.specs.declared.settings.Interface.{Interface}
use Rattle.mesh_atoms.specs.declared.tuples.LinkKey.{LinkKey}
use Rattle.mesh_atoms.specs.declared.tuples.TwoHopKey.{TwoHopKey}
use Rattle.mesh_atoms.specs.declared.tuples.Link.{Link}
use Rattle.mesh_atoms.specs.declared.tuples.TwoHop.{TwoHop}
use Rattle.mesh_links.specs.Links.{CanHearHello}
use Rattle.mesh_nhdp.specs.Interfaces.{ExpiresOn, HearsAt}
use Rattle.mesh_nhdp.specs.declared.interfaces.Change.{Change}
use Rattle.mesh_nhdp.specs.declared.interfaces.Change.TheVariants.{Expiry, Hearing}

-- moments and times are in range, and a HELLO can be heard
abbrev pub CanChange : Change → Type 0
CanChange (Expiry e) = (e.now < 2 ^ 62) × (e.hold < 2 ^ 62)
CanChange (Hearing h) = CanHearHello h.moment h.hold h.shown.now

-- what a change makes of the links and the 2-hop tuples of the interface of that number: expiry by the rule of this interface, if there is
-- one, and a HELLO by the key of the first address of its sending list
abbrev pub ChangesOn : Change → ℕ → Base LinkKey Link → Base LinkKey Link → Base TwoHopKey TwoHop → Base TwoHopKey TwoHop → Type 0
ChangesOn (Expiry e) i old new before after = (face : Interface) → slice_get e.faces.now i ≡ Some face → ExpiresOn face.admit e.hold e.now old new before after
ChangesOn (Hearing h) i old new before after = (least : LinkKey) → slice_get h.shown.now.sending 0 ≡ Some least.addr →
    HearsAt h.rule.now h.shown.now least h.theirs.now h.listed.now h.keys.now h.hold h.moment (nat_eq i h.iface) old new before after

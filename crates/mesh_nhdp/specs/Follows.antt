-- How neighbours and lost addresses follow the links.
use Rattle.std.specs.Prelude.{◌≡◌, ◌≢◌, ℕ, ◌↔◌, List, Contains}
use Rattle.mesh_atoms.specs.declared.addr.Addr4.{Addr4}
use Rattle.mesh_atoms.specs.declared.tuples.Neighbour.{Neighbour}
use Rattle.mesh_atoms.specs.Base.{Base, HasDistinctKeys, addr_eq}
use Rattle.mesh_atoms.specs.State.{Neighbourhood, neighbour_at}
use Rattle.mesh_atoms.specs.HelloTold.{Told}
use Rattle.mesh_nbrs.specs.declared.neighbours.LinkNote.{LinkNote}
use Rattle.mesh_nbrs.specs.Losts.{SettlesAll}
use Rattle.mesh_nbrs.specs.Neighbours.{Replaces, RestoresBy}
use Rattle.mesh_nhdp.specs.declared.near_addresses.WantedNeighbours.TheVariants.{Symmetric}
use Rattle.mesh_nhdp.specs.Calls.{TellsLinks, TellsLinksOf}
use Rattle.mesh_nhdp.specs.Wanted.{IsWantedAddress, symmetric_at}

-- neighbours are as the links have them, and an address that was a symmetric neighbour's, and is none's now, is lost (RFC 6130, sections
-- 12.4 and 13); links and 2-hop tuples stay
pub record FollowsLinks (now : ℕ) (before : List Addr4) (until : ℕ) (old new : Neighbourhood) : Type 0 where
  pub rest : new ≡ record old { neighbours = new.neighbours; losts = new.losts }
  pub distinct : HasDistinctKeys addr_eq new.neighbours
  pub distinct_losts : HasDistinctKeys addr_eq new.losts
  pub notes : List LinkNote
  pub notes_are : TellsLinks old.links now notes
  pub neighbours : (o : Addr4) → RestoresBy notes (neighbour_at old o) (neighbour_at new o)
  pub after : List Addr4
  pub after_is : (a : Addr4) → Contains after a ↔ IsWantedAddress new.neighbours Symmetric a
  pub losts : SettlesAll before after until old.losts new.losts

-- the neighbour with the originator, which has these addresses, is as the links have it, and all others are as they were; an address
-- that was a symmetric neighbour's, and isn't this one's now, is lost; links and 2-hop tuples stay
pub record FollowsLinksOf (now : ℕ) (originator : Addr4) (addrs before : List Addr4) (until : ℕ) (old new : Neighbourhood) : Type 0 where
  pub rest : new ≡ record old { neighbours = new.neighbours; losts = new.losts }
  pub distinct : HasDistinctKeys addr_eq new.neighbours
  pub distinct_losts : HasDistinctKeys addr_eq new.losts
  pub notes : List LinkNote
  pub notes_are : TellsLinksOf old.links addrs now notes
  pub neighbour : RestoresBy notes (neighbour_at old originator) (neighbour_at new originator)
  pub others : (o : Addr4) → o ≢ originator → neighbour_at new o ≡ neighbour_at old o
  pub losts : SettlesAll before (symmetric_at (neighbour_at new originator)) until old.losts new.losts

-- all neighbours that a HELLO speaks of become one (RFC 6130, section 12.3), and that one is as the links have it
pub record RenewsNeighbour (now : ℕ) (told : Told) (before : List Addr4) (until : ℕ) (old new : Neighbourhood) : Type 0 where
  pub replaced : Base Addr4 Neighbour
  pub replaces : Replaces told.originator told.listed told.willing told.routing now old.neighbours replaced
  pub follows : FollowsLinksOf now told.originator told.listed before until (record old { neighbours = replaced }) new

-- What expiry and a HELLO make of the links and the 2-hop tuples of one interface.
use Rattle.std.specs.Prelude.{◌≡◌, ℕ, ◌<◌, List, length, Bool, true, false}
use Rattle.mesh_atoms.specs.declared.addr.Addr4.{Addr4}
use Rattle.mesh_atoms.specs.declared.admit.Admit.{Admit}
use Rattle.mesh_atoms.specs.declared.hello.Shown.{Shown}
use Rattle.mesh_atoms.specs.declared.tuples.LinkKey.{LinkKey}
use Rattle.mesh_atoms.specs.declared.tuples.TwoHopKey.{TwoHopKey}
use Rattle.mesh_atoms.specs.declared.tuples.Link.{Link}
use Rattle.mesh_atoms.specs.declared.tuples.TwoHop.{TwoHop}
use Rattle.mesh_atoms.specs.Base.{Base, HasDistinctKeys, Expires, base_of, link_eq, two_hop_eq}
use Rattle.mesh_atoms.specs.State.{Neighbourhood}
use Rattle.mesh_links.specs.Links.{AdmitsLinks, ExpiresLinks, EndsOutside, HearsOn}
use Rattle.mesh_nhdp.specs.Calls.{TellsKeys, DropsEnded}

-- expiry: links are as their qualities have them, then those that are expired go, and tuples that are expired, or whose link
-- isn't SYMMETRIC (RFC 6130, sections 13 and 14)
pub record ExpiresOn (rule : Admit) (hold now : ℕ) (old new : Base LinkKey Link) (before after : Base TwoHopKey TwoHop) : Type 0 where
  pub distinct_links : HasDistinctKeys link_eq new
  pub distinct_two_hops : HasDistinctKeys two_hop_eq after
  pub links : (mid : Base LinkKey Link) × AdmitsLinks rule hold now old mid × ExpiresLinks now mid new
  pub two_hops : (mid : Base TwoHopKey TwoHop) × (keys : List LinkKey) × Expires two_hop_eq now before mid
      × TellsKeys old keys × DropsEnded keys new now mid after

-- a HELLO: links of the neighbours that it speaks of end outside its addresses, the link that it came over is heard where
-- this is the interface that it came over, and the tuples of those of the links with these keys that aren't SYMMETRIC go (RFC 6130,
-- section 12)
pub record HearsAt (rule : Admit) (shown : Shown) (least : LinkKey) (theirs listed : List Addr4) (keys : List LinkKey) (hold now : ℕ) (here : Bool)
    (old new : Base LinkKey Link) (before after : Base TwoHopKey TwoHop) : Type 0 where
  pub distinct_links : HasDistinctKeys link_eq new
  pub distinct_two_hops : HasDistinctKeys two_hop_eq after
  pub elsewhere : here ≡ false → EndsOutside theirs listed old new
  pub hears : here ≡ true → (mid : Base LinkKey Link) × EndsOutside theirs listed old mid × HearsOn rule shown least hold now mid new
  pub two_hops : DropsEnded keys new now before after

-- the links and the 2-hop tuples of each interface become so, and neighbours and lost addresses stay
pub record ChangesEach (makes : ℕ → Base LinkKey Link → Base LinkKey Link → Base TwoHopKey TwoHop → Base TwoHopKey TwoHop → Type 0) (old new : Neighbourhood) : Type 0 where
  pub rest : new ≡ record old { links = new.links; two_hops = new.two_hops }
  pub links : length new.links ≡ length old.links
  pub two_hops : length new.two_hops ≡ length old.two_hops
  pub each : (i : ℕ) → i < length old.links → makes i (base_of old.links i) (base_of new.links i) (base_of old.two_hops i) (base_of new.two_hops i)

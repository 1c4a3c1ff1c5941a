-- What a HELLO makes of the links and the 2-hop tuples of all interfaces.
use Rattle.std.specs.Prelude.{◌≡◌, ℕ, ◌+◌, ◌<◌, ◌≢◌, ◌↔◌, ◌⊎◌, List, length, Contains, Some, Bool, true, false, nat_eq, IsTrue}
use Rattle.mesh_atoms.specs.declared.addr.Addr4.{Addr4}
use Rattle.mesh_atoms.specs.declared.admit.Admit.{Admit}
use Rattle.mesh_atoms.specs.declared.hello.Hello.{Hello}
use Rattle.mesh_atoms.specs.declared.hello.Shown.{Shown}
use Rattle.mesh_atoms.specs.declared.tuples.LinkKey.{LinkKey}
use Rattle.mesh_atoms.specs.declared.tuples.Link.{Link}
use Rattle.mesh_atoms.specs.declared.tuples.TwoHopKey.{TwoHopKey}
use Rattle.mesh_atoms.specs.declared.tuples.TwoHop.{TwoHop}
use Rattle.mesh_atoms.specs.declared.settings.RouterSettings.{RouterSettings}
use Rattle.mesh_atoms.specs.Base.{Base, HasDistinctKeys, base_of, two_hop_eq}
use Rattle.mesh_atoms.specs.State.{Neighbourhood, link_at}
use Rattle.mesh_hello.specs.Told.Telling.{AreOwnAddresses}
use Rattle.mesh_atoms.specs.HelloTold.{Told}
use Rattle.mesh_nbrs.specs.TwoHops.TwoHops.{DropsLink}
use Rattle.mesh_nhdp.specs.Calls.{TellsTwoHops, is_symmetric_in, key_at}
use Rattle.mesh_nhdp.specs.Interfaces.{HearsAt}

-- the tuples of the link that the HELLO came over: none where it is a made one, and then as the rows tell where it is SYMMETRIC
-- (RFC 6130, section 12.6)
pub record UpdatesTwoHops (stood symmetric : Bool) (own listed : List Addr4) (hello : Hello) (link : LinkKey) (until : ℕ)
    (old new : Base TwoHopKey TwoHop) : Type 0 where
  pub distinct : HasDistinctKeys two_hop_eq new
  pub started : Base TwoHopKey TwoHop
  pub goes_on : stood ≡ true → started ≡ old
  pub anew : stood ≡ false → DropsLink link old started
  pub rows : symmetric ≡ true → (settings : RouterSettings) (told : Told) → AreOwnAddresses settings own → told.listed ≡ listed →
      TellsTwoHops settings told hello link until started new
  pub no_rows : symmetric ≡ false → new ≡ started

-- each interface hears the HELLO, and then the tuples of its link are brought up to date; neighbours and lost addresses stay
pub record HearsInterfaces (rule : Admit) (shown : Shown) (least : LinkKey) (theirs listed : List Addr4) (keys : List LinkKey) (own : List Addr4) (hold now i : ℕ) (hello : Hello)
    (old new : Neighbourhood) : Type 0 where
  pub rest : new ≡ record old { links = new.links; two_hops = new.two_hops }
  pub same_links : length new.links ≡ length old.links
  pub mids : List (Base TwoHopKey TwoHop)
  pub same_mids : length mids ≡ length old.two_hops
  pub same : length new.two_hops ≡ length mids
  pub each : (j : ℕ) → j < length old.links →
      HearsAt rule shown least theirs listed keys hold now (nat_eq j i) (base_of old.links j) (base_of new.links j) (base_of old.two_hops j) (base_of mids j)
  pub elsewhere : (j : ℕ) → j ≢ i → base_of new.two_hops j ≡ base_of mids j
  pub stood : Bool
  pub stood_is : IsTrue stood ↔ ((e : Link × ℕ) × (link_at old i least ≡ Some e) × (e.0.addrs ≡ shown.sending))
  pub updates : UpdatesTwoHops stood (is_symmetric_in (base_of new.links i) now least) own listed hello least (now + shown.validity)
      (base_of mids i) (base_of new.two_hops i)

-- the same, with the keys of the links of the neighbours that the HELLO speaks of, and of the addresses that it lists
pub record HearsLinks (rule : Admit) (told : Told) (theirs own : List Addr4) (hold now i : ℕ) (hello : Hello) (old new : Neighbourhood) : Type 0 where
  pub keys : List LinkKey
  pub keys_are : (a : Addr4) → Contains theirs a ⊎ Contains told.listed a → Contains keys (key_at a)
  pub hears : HearsInterfaces rule told.shown told.least theirs told.listed keys own hold now i hello old new

-- What the parts of expiry and of the taking of a HELLO tell and do.
use Rattle.std.specs.Prelude.{◌≡◌, ℕ, ◌≢◌, List, Contains, Some, Bool, false}
use Rattle.mesh_atoms.specs.declared.addr.Addr4.{Addr4}
use Rattle.mesh_atoms.specs.declared.hello.Hello.{Hello}
use Rattle.mesh_atoms.specs.declared.tuples.LinkKey.{LinkKey}
use Rattle.mesh_atoms.specs.declared.tuples.TwoHopKey.{TwoHopKey}
use Rattle.mesh_atoms.specs.declared.tuples.Link.{Link}
use Rattle.mesh_atoms.specs.declared.tuples.TwoHop.{TwoHop}
use Rattle.mesh_atoms.specs.declared.settings.RouterSettings.{RouterSettings}
use Rattle.mesh_atoms.specs.Base.{Base, find, base_of, link_eq, two_hop_eq}
use Rattle.mesh_atoms.specs.State.{is_symmetric}
use Rattle.mesh_atoms.specs.Live.{is_symmetric_entry}
use Rattle.mesh_atoms.specs.HelloTold.{Told}
use Rattle.mesh_atoms.specs.AfterHello.{TellsTwoHop}
use Rattle.mesh_atoms.specs.Words.{IsKept}
use Rattle.mesh_nbrs.specs.declared.neighbours.LinkNote.{LinkNote}

-- Links

-- the key of a link with that least address
abbrev pub key_at : Addr4 → LinkKey
key_at a = record { addr = a }

-- the note of a link
abbrev pub note_of : ℕ → LinkKey → Link × ℕ → LinkNote
note_of now key e = record { key = key; symmetric = is_symmetric e.0 now; link_in = e.0.link_in; link_out = e.0.link_out; until = e.1 }

-- it is the note of one of these links
abbrev pub IsNoteIn : Base LinkKey Link → ℕ → LinkNote → Type 0
IsNoteIn links now note = (key : LinkKey) × (e : Link × ℕ) × (find link_eq links key ≡ Some e) × (note ≡ note_of now key e)

-- it is the note of one of these links, whose key is among the addresses
abbrev pub IsNoteAmong : Base LinkKey Link → List Addr4 → ℕ → LinkNote → Type 0
IsNoteAmong links addrs now note = (key : LinkKey) × (e : Link × ℕ) × Contains addrs key.addr × (find link_eq links key ≡ Some e) × (note ≡ note_of now key e)

-- the notes tell every link of every interface
pub record TellsLinks (links : List (Base LinkKey Link)) (now : ℕ) (notes : List LinkNote) : Type 0 where
  pub told : (note : LinkNote) → Contains notes note →
      (i : ℕ) × (e : Link × ℕ) × (find link_eq (base_of links i) note.key ≡ Some e) × (note ≡ note_of now note.key e)
  pub all : (i : ℕ) (key : LinkKey) (e : Link × ℕ) → find link_eq (base_of links i) key ≡ Some e → Contains notes (note_of now key e)

-- the notes tell every link of every interface whose key is among the addresses
pub record TellsLinksOf (links : List (Base LinkKey Link)) (addrs : List Addr4) (now : ℕ) (notes : List LinkNote) : Type 0 where
  pub told : (note : LinkNote) → Contains notes note →
      (i : ℕ) × (e : Link × ℕ) × (find link_eq (base_of links i) note.key ≡ Some e) × (note ≡ note_of now note.key e)
  pub all : (i : ℕ) (key : LinkKey) (e : Link × ℕ) → Contains addrs key.addr → find link_eq (base_of links i) key ≡ Some e → Contains notes (note_of now key e)

-- the keys of all links, and no others
pub record TellsKeys (links : Base LinkKey Link) (keys : List LinkKey) : Type 0 where
  pub told : (key : LinkKey) → Contains keys key → (e : Link × ℕ) × (find link_eq links key ≡ Some e)
  pub all : (key : LinkKey) (e : Link × ℕ) → find link_eq links key ≡ Some e → Contains keys key

-- 2-hop tuples

-- whether the link is SYMMETRIC
abbrev pub is_symmetric_in : Base LinkKey Link → ℕ → LinkKey → Bool
is_symmetric_in links now key = is_symmetric_entry now (find link_eq links key)

-- the tuples of those of these links that aren't SYMMETRIC go, and all others stay
abbrev pub DropsEnded : List LinkKey → Base LinkKey Link → ℕ → Base TwoHopKey TwoHop → Base TwoHopKey TwoHop → Type 0
DropsEnded keys links now old new = (key : TwoHopKey) →
    IsKept (λ t. (Contains keys key.link × (is_symmetric_in links now key.link ≡ false)) → ⊥) (find two_hop_eq old key) (find two_hop_eq new key)

-- the tuples of the link are as the rows of the HELLO make them, and those of other links stay
pub record TellsTwoHops (settings : RouterSettings) (told : Told) (hello : Hello) (link : LinkKey) (until : ℕ) (old new : Base TwoHopKey TwoHop) : Type 0 where
  pub one : (a : Addr4) →
      let key : TwoHopKey = record { link = link; addr = a } in TellsTwoHop settings told hello until a (find two_hop_eq old key) (find two_hop_eq new key)
  pub others : (key : TwoHopKey) → key.link ≢ link → find two_hop_eq new key ≡ find two_hop_eq old key

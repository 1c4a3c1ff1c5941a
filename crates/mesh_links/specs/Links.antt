-- The links of one interface: what they say of an address, and what each event makes of them.
use Rattle.std.specs.Prelude.{◌≡◌, ℕ, ◌<◌, ◌^◌, ◌≢◌, List, length, Contains, Option, Some, None, option_map, nat_lt, Bool, true}
use Rattle.mesh_atoms.specs.declared.addr.Addr4.{Addr4}
use Rattle.mesh_atoms.specs.declared.admit.Admit.{Admit}
use Rattle.mesh_atoms.specs.declared.hello.Shown.{Shown}
use Rattle.mesh_atoms.specs.declared.tuples.LinkKey.{LinkKey}
use Rattle.mesh_atoms.specs.declared.tuples.LinkState.{LinkState}
use Rattle.mesh_atoms.specs.declared.tuples.Link.{Link}
use Rattle.mesh_atoms.specs.Base.{Base, find, if_live, link_eq}
use Rattle.mesh_atoms.specs.State.{is_symmetric, state_of}
use Rattle.mesh_atoms.specs.Quality.{admitted}
use Rattle.mesh_atoms.specs.Live.{trim}
use Rattle.mesh_atoms.specs.AfterHello.{IsApart, LinkKeptOrMade, renewed}
use Rattle.mesh_atoms.specs.Words.{Meets, IsAscending, IsBeyond, IsKept}

-- What is told of links

-- the status of the link with a key, where there is one (RFC 6130, section 7.1)
abbrev pub status_at : Option (Link × ℕ) → ℕ → Option LinkState
status_at None now = None
status_at (Some e) now = Some (state_of e.0 now)

-- the link with that key has the address
abbrev pub HasLinkWith : Base LinkKey Link → Addr4 → LinkKey → Link × ℕ → Type 0
HasLinkWith links a key e = (find link_eq links key ≡ Some e) × Contains e.0.addrs a

-- a SYMMETRIC link that has the address
abbrev pub IsSymmetricWith : Base LinkKey Link → ℕ → Addr4 → Link → Type 0
IsSymmetricWith links now a link =
    (key : LinkKey) × (until : ℕ) × (find link_eq links key ≡ Some (link, until)) × Contains link.addrs a × (is_symmetric link now ≡ true)

-- the selector flag of the SYMMETRIC link that has the address, where there is one (RFC 7181, section 8.1)
pub data SelectorOf (links : Base LinkKey Link) (now : ℕ) (a : Addr4) : Option Bool → Type 0 where
  Linked : (link : Link) → IsSymmetricWith links now a link → SelectorOf links now a (Some link.selector)
  Unlinked : ((link : Link) → IsSymmetricWith links now a link → ⊥) → SelectorOf links now a None

-- nothing becomes of the link at now: its quality has it so, it isn't expired, and it is SYMMETRIC where it was so at last
pub record IsLinkUnchanged (rule : Admit) (hold last now : ℕ) (e : Link × ℕ) : Type 0 where
  pub by_quality : admitted rule hold now e ≡ e
  pub live : nat_lt now e.1 ≡ true
  pub symmetric : is_symmetric e.0 now ≡ is_symmetric e.0 last

-- nothing becomes of any link
abbrev pub AllStay : Admit → ℕ → ℕ → ℕ → Base LinkKey Link → Type 0
AllStay rule hold last now links = (key : LinkKey) (e : Link × ℕ) → find link_eq links key ≡ Some e → IsLinkUnchanged rule hold last now e

-- What becomes of them

-- each link is as its quality has it (RFC 6130, section 14)
abbrev pub AdmitsLinks : Admit → ℕ → ℕ → Base LinkKey Link → Base LinkKey Link → Type 0
AdmitsLinks rule hold now old new = (key : LinkKey) → find link_eq new key ≡ option_map (admitted rule hold now) (find link_eq old key)

-- each link that isn't expired stays, and has link_out and selector flag only where it is SYMMETRIC (RFC 6130, section 13)
abbrev pub ExpiresLinks : ℕ → Base LinkKey Link → Base LinkKey Link → Type 0
ExpiresLinks now old new = (key : LinkKey) → find link_eq new key ≡ trim now (if_live now (find link_eq old key))

-- each link that has an address among the old ones and one outside the new ones ends; all others stay
abbrev pub EndsOutside : List Addr4 → List Addr4 → Base LinkKey Link → Base LinkKey Link → Type 0
EndsOutside before listed old new =
    (key : LinkKey) → IsKept (λ e. (Meets e.0.addrs before × IsBeyond e.0.addrs listed) → ⊥) (find link_eq old key) (find link_eq new key)

-- the links after a HELLO: the one with the sending list, keyed by its least address, is renewed or made; each other link that
-- meets the sending list ends; all others stay (RFC 6130, section 12.5, and RFC 7181, section 15.3)
pub record HearsOn (rule : Admit) (shown : Shown) (least : LinkKey) (hold now : ℕ) (old new : Base LinkKey Link) : Type 0 where
  pub one : (start : Link × ℕ) × LinkKeptOrMade rule shown now (find link_eq old least) start × (find link_eq new least ≡ Some (renewed shown hold now start))
  pub others : (key : LinkKey) → key ≢ least → IsKept (λ e. IsApart shown.sending e.0) (find link_eq old key) (find link_eq new key)

-- moments and times are in range, and the sending list is an ascending list of one address at least
pub record CanHearHello (now hold : ℕ) (shown : Shown) : Type 0 where
  pub now_range : now < 2 ^ 62
  pub hold_range : hold < 2 ^ 62
  pub lasts : 0 < shown.validity
  pub validity_range : shown.validity < 2 ^ 62
  pub ascending : IsAscending shown.sending
  pub some : 0 < length shown.sending

-- How far a link reaches

-- each link is symmetric up to a moment that leaves room for a hold time in 64 bits
abbrev pub HasRoom : Base LinkKey Link → Type 0
HasRoom links = (key : LinkKey) (e : Link × ℕ) → find link_eq links key ≡ Some e → e.0.sym < 2 ^ 63

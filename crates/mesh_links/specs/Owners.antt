-- Which link has an address.
use Rattle.std.specs.Prelude.{◌≡◌, ◌⊎◌, ℕ, List, filter, Contains, Option, is_some, Some, None, slice_get}
use Rattle.std.specs.List.{All}
use Rattle.std.specs.Map.{lookup}
use Rattle.mesh_atoms.specs.declared.addr.Addr4.{Addr4}
use Rattle.mesh_atoms.specs.declared.tuples.LinkKey.{LinkKey}
use Rattle.mesh_atoms.specs.declared.tuples.Link.{Link}
use Rattle.mesh_atoms.specs.Base.{Base, HasDistinctKeys, find, link_eq, addr_eq}
use Rattle.mesh_links.specs.Links.{HasRoom}

-- the key that is noted for an address
abbrev pub owner_of : List (Addr4 × LinkKey) → Addr4 → Option LinkKey
owner_of owners a = lookup (addr_eq a) owners

-- what is noted of links that are there
abbrev pub purged : Base LinkKey Link → List (Addr4 × LinkKey) → List (Addr4 × LinkKey)
purged links owners = filter (λ (p : Addr4 × LinkKey). is_some (find link_eq links p.1)) owners

-- each address of a link has its key, which is the link's first address
pub record HasLinkOwners (owners : List (Addr4 × LinkKey)) (links : Base LinkKey Link) : Type 0 where
  pub owner : (key : LinkKey) (e : Link × ℕ) (a : Addr4) → find link_eq links key ≡ Some e → Contains e.0.addrs a → owner_of owners a ≡ Some key
  pub first : (key : LinkKey) (e : Link × ℕ) → find link_eq links key ≡ Some e → slice_get e.0.addrs 0 ≡ Some key.addr

-- keys are distinct, each link leaves room for a hold time, and the map leads from the addresses of links to them
pub record SoundLinks (owners : List (Addr4 × LinkKey)) (links : Base LinkKey Link) : Type 0 where
  pub distinct : HasDistinctKeys link_eq links
  pub room : HasRoom links
  pub owned : HasLinkOwners owners links

-- these addresses have that key
abbrev pub OwnsAll : List (Addr4 × LinkKey) → List Addr4 → LinkKey → Type 0
OwnsAll owners addrs key = All (λ a. owner_of owners a ≡ Some key) addrs

-- no other addresses have another key than before
abbrev pub OwnsMore : List (Addr4 × LinkKey) → List (Addr4 × LinkKey) → List Addr4 → LinkKey → Type 0
OwnsMore old new addrs key = (a : Addr4) → (owner_of new a ≡ owner_of old a) ⊎ (Contains addrs a × (owner_of new a ≡ Some key))

-- each link was there, with the same addresses
abbrev pub IsFewer : Base LinkKey Link → Base LinkKey Link → Type 0
IsFewer old new =
    (key : LinkKey) (e : Link × ℕ) → find link_eq new key ≡ Some e →
    (f : Link × ℕ) × (find link_eq old key ≡ Some f) × (f.0.addrs ≡ e.0.addrs)

-- what stood at a key stands there, or had the property and is gone
abbrev pub IsKeptOrGone : {A : Type 0} → (A → Type 0) → Option A → Option A → Type 0
IsKeptOrGone {A} Goes old new = (new ≡ old) ⊎ ((e : A) × (old ≡ Some e) × Goes e × (new ≡ None))

-- What a HELLO says of an address, out of the tuples that have it.
use Rattle.std.specs.Prelude.{◌≡◌, ◌≢◌, ℕ, List, [], ◌++◌, Contains, Option, Some, None, slice_get, IsTrue, Bool, true, false, cond}
use Rattle.std.specs.List.{flat_map}
use Rattle.std.specs.Map.{keys_of}
use Rattle.mesh_atoms.specs.declared.addr.Addr4.{Addr4}
use Rattle.mesh_atoms.specs.declared.codes.metric.Metric.{Metric}
use Rattle.mesh_atoms.specs.declared.hello.LocalIf.{LocalIf}
use Rattle.mesh_atoms.specs.declared.hello.LocalIf.TheVariants.{This, Other}
use Rattle.mesh_atoms.specs.declared.hello.LinkStatus.{LinkStatus}
use Rattle.mesh_atoms.specs.declared.hello.LinkStatus.TheVariants.{Symmetric, Heard}
use Rattle.mesh_atoms.specs.declared.hello.OtherStatus.{OtherStatus}
use Rattle.mesh_atoms.specs.declared.hello.OtherStatus.TheVariants.{Lost as No_more, Symmetric as Still}
use Rattle.mesh_atoms.specs.declared.hello.HelloRow.{HelloRow}
use Rattle.mesh_atoms.specs.declared.tuples.LinkKey.{LinkKey}
use Rattle.mesh_atoms.specs.declared.tuples.Link.{Link}
use Rattle.mesh_atoms.specs.declared.tuples.Lost.{Lost}
use Rattle.mesh_atoms.specs.declared.tuples.Neighbour.{Neighbour}
use Rattle.mesh_atoms.specs.declared.tuples.Relays.{Relays}
use Rattle.mesh_atoms.specs.declared.settings.RouterSettings.{RouterSettings}
use Rattle.mesh_atoms.specs.Base.{Base, Has, HasDistinctKeys, addr_eq}
use Rattle.mesh_atoms.specs.Hello.{IsHelloRow, status_said}
use Rattle.mesh_atoms.specs.State.{State, state_of, HasAddressOn}

-- The tuples of an address

-- a link that has the address
abbrev pub IsLinkWith : Base LinkKey Link → Addr4 → LinkKey × (Link × ℕ) → Type 0
IsLinkWith links a e = Contains links e × Contains e.1.0.addrs a

-- a symmetric neighbour that has the address
abbrev pub IsNeighbourWith : Base Addr4 Neighbour → Addr4 → Addr4 × (Neighbour × ℕ) → Type 0
IsNeighbourWith neighbours a e = Contains neighbours e × IsTrue e.1.0.symmetric × Contains e.1.0.addrs a

-- tuples that have an address in common are one, and all addresses of a link are one neighbour's
pub record AreDisjoint (links : Base LinkKey Link) (neighbours : Base Addr4 Neighbour) (losts : Base Addr4 Lost) : Type 0 where
  pub one_link : (a : Addr4) (k l : LinkKey) (e f : Link) → Has links k e → Has links l f → Contains e.addrs a → Contains f.addrs a → e ≡ f
  pub one_neighbour : (a o p : Addr4) (m n : Neighbour) → Has neighbours o m → Has neighbours p n → Contains m.addrs a → Contains n.addrs a → (o ≡ p) × (m ≡ n)
  pub owner : (k : LinkKey) (e : Link) → Has links k e →
      (o : Addr4) × (n : Neighbour) × Has neighbours o n × ((a : Addr4) → Contains e.addrs a → Contains n.addrs a)
  pub distinct_neighbours : HasDistinctKeys addr_eq neighbours
  pub distinct_losts : HasDistinctKeys addr_eq losts

-- What is said

-- the address is one of interface i, or of another
abbrev pub IsLocalOn : RouterSettings → ℕ → Addr4 → LocalIf → Type 0
IsLocalOn settings i a This = HasAddressOn settings i a
IsLocalOn settings i a Other = (j : ℕ) × (j ≢ i) × HasAddressOn settings j a

-- the LINK_STATUS of the link that has the address
abbrev pub link_status_said : Option (LinkKey × (Link × ℕ)) → ℕ → Option LinkStatus
link_status_said None now = None
link_status_said (Some e) now = status_said (state_of e.1.0 now)

-- OTHER_NEIGHB by the LINK_STATUS, whether a symmetric neighbour has the address, and whether it is lost
abbrev pub other_said : Option LinkStatus → Bool → Bool → Option OtherStatus
other_said status neighbour true = Some No_more
other_said status false false = None
other_said (Some Symmetric) true false = None
other_said status true false = Some Still

-- the incoming metric of a link that is HEARD or SYMMETRIC
abbrev pub link_in_said : Option LinkStatus → Option (LinkKey × (Link × ℕ)) → Option Metric
link_in_said (Some Symmetric) (Some e) = Some e.1.0.link_in
link_in_said (Some Heard) (Some e) = Some e.1.0.link_in
link_in_said status link = None

-- the outgoing metric of a link that is SYMMETRIC
abbrev pub link_out_said : Option LinkStatus → Option (LinkKey × (Link × ℕ)) → Option Metric
link_out_said (Some Symmetric) (Some e) = e.1.0.link_out
link_out_said status link = None

abbrev pub near_in_said : Option (Addr4 × (Neighbour × ℕ)) → Option Metric
near_in_said None = None
near_in_said (Some e) = e.1.0.metric_in

abbrev pub near_out_said : Option (Addr4 × (Neighbour × ℕ)) → Option Metric
near_out_said None = None
near_out_said (Some e) = e.1.0.metric_out

-- the neighbour that has the address is among the relays
pub record IsRelayOf (relays : List Addr4) (neighbour : Option (Addr4 × (Neighbour × ℕ))) : Type 0 where
  pub entry : Addr4 × (Neighbour × ℕ)
  pub is : neighbour ≡ Some entry
  pub has : Contains relays entry.0

-- the neighbour is a flooding relay of interface i, and the link with the address is SYMMETRIC
pub record IsFloodingRelayOver (flooding : List (List Addr4)) (i : ℕ) (status : Option LinkStatus) (neighbour : Option (Addr4 × (Neighbour × ℕ))) : Type 0 where
  pub list : List Addr4
  pub at : slice_get flooding i ≡ Some list
  pub symmetric : status ≡ Some Symmetric
  pub relay : IsRelayOf list neighbour

-- Of which addresses something is said

-- the addresses of a link that isn't PENDING
abbrev pub linked_addresses : Link → List Addr4
linked_addresses link = cond link.pending [] link.addrs

-- the addresses of a neighbour that is symmetric
abbrev pub symmetric_addresses : Neighbour → List Addr4
symmetric_addresses n = cond n.symmetric n.addrs []

-- lost addresses, the router's own, and those of links and of symmetric neighbours
abbrev pub said_addresses : RouterSettings → Base LinkKey Link → Base Addr4 Neighbour → Base Addr4 Lost → List Addr4
said_addresses settings links neighbours losts =
    keys_of losts ++ (flat_map (λ face. face.addrs) settings.interfaces
    ++ (flat_map (λ e. linked_addresses e.1.0) links ++ flat_map (λ e. symmetric_addresses e.1.0) neighbours))

-- In a state

-- what a HELLO of interface i is made of is the state's
pub record IsSeen (s : State) (settings : RouterSettings) (links : Base LinkKey Link) (neighbours : Base Addr4 Neighbour)
    (losts : Base Addr4 Lost) (relays : Relays) (i : ℕ) : Type 0 where
  pub settings_are : s.settings ≡ settings
  pub links_are : slice_get s.bases.neighbourhood.links i ≡ Some links
  pub neighbours_are : s.bases.neighbourhood.neighbours ≡ neighbours
  pub losts_are : s.bases.neighbourhood.losts ≡ losts
  pub relays_are : s.relays ≡ relays

-- in each such state the row is that of the address in the HELLO of interface i
pub record IsHelloRowOf (settings : RouterSettings) (links : Base LinkKey Link) (neighbours : Base Addr4 Neighbour)
    (losts : Base Addr4 Lost) (relays : Relays) (i now : ℕ) (row : HelloRow) (a : Addr4) : Type 0 where
  pub says : (s : State) → IsSeen s settings links neighbours losts relays i → IsHelloRow s i now row a

-- The HELLO that a router would send now on an interface: what it says of each address, and the message as a typed value.
use Rattle.std.specs.Prelude.{◌≡◌, ℕ, ◌≤◌, ◌⊎◌, ◌≢◌, ◌↔◌, Contains, Option, Some, None, slice_get, IsTrue, List}
use Rattle.std.specs.List.{AllPairs}
use Rattle.mesh_atoms.specs.declared.addr.Addr4.{Addr4}
use Rattle.mesh_atoms.specs.declared.codes.metric.Metric.{Metric}
use Rattle.mesh_atoms.specs.declared.hello.LocalIf.{LocalIf}
use Rattle.mesh_atoms.specs.declared.hello.LocalIf.TheVariants.{This, Other}
use Rattle.mesh_atoms.specs.declared.hello.LinkStatus.{LinkStatus}
use Rattle.mesh_atoms.specs.declared.hello.LinkStatus.TheVariants.{Lost as Down, Symmetric, Heard}
use Rattle.mesh_atoms.specs.declared.hello.OtherStatus.{OtherStatus}
use Rattle.mesh_atoms.specs.declared.hello.OtherStatus.TheVariants.{Lost as No_more, Symmetric as Still}
use Rattle.mesh_atoms.specs.declared.hello.HelloRow.{HelloRow}
use Rattle.mesh_atoms.specs.declared.hello.Hello.{Hello}
use Rattle.mesh_atoms.specs.declared.tuples.LinkKey.{LinkKey}
use Rattle.mesh_atoms.specs.declared.tuples.Link.{Link}
use Rattle.mesh_atoms.specs.declared.tuples.Lost.{Lost}
use Rattle.mesh_atoms.specs.declared.tuples.Neighbour.{Neighbour}
use Rattle.mesh_atoms.specs.Base.{Has, host}
use Rattle.mesh_atoms.specs.Codes.Codes.{time_value, IsSentCode}
use Rattle.mesh_atoms.specs.Nodes.{IsBefore}
use Rattle.mesh_atoms.specs.declared.tuples.LinkState.{LinkState}
use Rattle.mesh_atoms.specs.declared.tuples.LinkState.TheVariants.{Pending as Is_pending, Lost as Is_lost, Symmetric as Is_symmetric, Heard as Is_heard}
use Rattle.mesh_atoms.specs.State.{State, state_of, HasLink, HasSymmetricWith, HasAddressOn, IsOriginator}
use Rattle.mesh_atoms.specs.Words.{IsValue}

-- What a HELLO says of an address, by parts

-- what a row of a HELLO may say of its address
pub data Part : Type 0 where
  This_if : Part
  Other_if : Part
  Link_lost : Part
  Link_symmetric : Part
  Link_heard : Part
  Other_lost : Part
  Other_symmetric : Part
  Link_in : Metric → Part
  Link_out : Metric → Part
  Near_in : Metric → Part
  Near_out : Metric → Part
  Flooding : Part
  Routing : Part

-- a link of interface i with that address has that status
abbrev pub HasLinkTo : State → ℕ → ℕ → Addr4 → LinkState → Link → Type 0
HasLinkTo s i now a state link = (key : LinkKey) × HasLink s i key link × Contains link.addrs a × (state_of link now ≡ state)

-- the address is shown with that LINK_STATUS
abbrev pub SaysLink : State → ℕ → ℕ → Addr4 → LinkState → Type 0
SaysLink s i now a state = (link : Link) × HasLinkTo s i now a state link

-- the HELLO of interface i at now says this of the address (RFC 6130, section 11, and RFC 7181, section 15.1): own addresses;
-- the status and metrics of i's links, but of PENDING ones; OTHER_NEIGHB and metrics of symmetric neighbours; lost addresses;
-- and which addresses are of relays
abbrev pub Says : State → ℕ → ℕ → Addr4 → Part → Type 0
Says s i now a This_if = HasAddressOn s.settings i a
Says s i now a Other_if = (j : ℕ) × (j ≢ i) × HasAddressOn s.settings j a
Says s i now a Link_lost = SaysLink s i now a Is_lost
Says s i now a Link_symmetric = SaysLink s i now a Is_symmetric
Says s i now a Link_heard = SaysLink s i now a Is_heard
Says s i now a Other_lost = (lost : Lost) × Has s.bases.neighbourhood.losts a lost
Says s i now a Other_symmetric =
    ((o : Addr4) × (n : Neighbour) × HasSymmetricWith s a o n) × (SaysLink s i now a Is_symmetric → ⊥)
Says s i now a (Link_in m) =
    (link : Link) × (HasLinkTo s i now a Is_heard link ⊎ HasLinkTo s i now a Is_symmetric link) × (link.link_in ≡ m)
Says s i now a (Link_out m) = (link : Link) × HasLinkTo s i now a Is_symmetric link × (link.link_out ≡ Some m)
Says s i now a (Near_in m) = (o : Addr4) × (n : Neighbour) × HasSymmetricWith s a o n × (n.metric_in ≡ Some m)
Says s i now a (Near_out m) = (o : Addr4) × (n : Neighbour) × HasSymmetricWith s a o n × (n.metric_out ≡ Some m)
Says s i now a Flooding =
    (link : Link) × HasLinkTo s i now a Is_symmetric link
    × (o : Addr4) × (n : Neighbour) × (b : Addr4) × Contains link.addrs b × HasSymmetricWith s b o n
    × (relays : List Addr4) × (slice_get s.relays.flooding i ≡ Some relays) × Contains relays o
Says s i now a Routing = (o : Addr4) × (n : Neighbour) × HasSymmetricWith s a o n × Contains s.relays.routing o

-- the address is shown SYMMETRIC by LINK_STATUS or OTHER_NEIGHB
abbrev pub SaysSymmetric : State → ℕ → ℕ → Addr4 → Type 0
SaysSymmetric s i now a = Says s i now a Link_symmetric ⊎ Says s i now a Other_symmetric

-- of the two metrics that may be shown, the neighbour's; else the link's; else none
abbrev pub IsSaid : (Metric → Type 0) → (Metric → Type 0) → Option Metric → Type 0
IsSaid near link None = ((m : Metric) → near m → ⊥) × ((m : Metric) → link m → ⊥)
IsSaid near link (Some m) = near m ⊎ (((n : Metric) → near n → ⊥) × link m)

-- The HELLO as a typed value

-- the part that a LOCAL_IF is
abbrev pub local_part : LocalIf → Part
local_part This = This_if
local_part Other = Other_if

-- the part that a LINK_STATUS is
abbrev pub link_part : LinkStatus → Part
link_part Down = Link_lost
link_part Symmetric = Link_symmetric
link_part Heard = Link_heard

-- the LINK_STATUS that is said of a link in that state; none where it is PENDING
abbrev pub status_said : LinkState → Option LinkStatus
status_said Is_pending = None
status_said Is_lost = Some Down
status_said Is_symmetric = Some Symmetric
status_said Is_heard = Some Heard

-- the part that an OTHER_NEIGHB is
abbrev pub other_part : OtherStatus → Part
other_part No_more = Other_lost
other_part Still = Other_symmetric

-- the row says of its address exactly what the HELLO of interface i says of it, and that is something
pub record IsHelloRow (s : State) (i now : ℕ) (row : HelloRow) (a : Addr4) : Type 0 where
  pub addr : row.addr ≡ host a
  pub some : (part : Part) × Says s i now a part
  pub local : IsValue (λ v. Says s i now a (local_part v)) row.local
  pub link : IsValue (λ v. Says s i now a (link_part v)) row.link
  pub other : IsValue (λ v. Says s i now a (other_part v)) row.other
  pub link_in : IsValue (λ m. Says s i now a (Link_in m)) row.metrics.link_in
  pub link_out : IsValue (λ m. Says s i now a (Link_out m)) row.metrics.link_out
  pub near_in : IsValue (λ m. Says s i now a (Near_in m)) row.metrics.near_in
  pub near_out : IsValue (λ m. Says s i now a (Near_out m)) row.metrics.near_out
  pub flooding : IsTrue row.mpr.flooding ↔ Says s i now a Flooding
  pub routing : IsTrue row.mpr.routing ↔ Says s i now a Routing

-- ticks rounded up to a time code that is sent: the least that is no shorter (RFC 5497, section 5)
pub record IsRoundedUp (ticks time : ℕ) : Type 0 where
  pub code : ℕ
  pub sent : IsSentCode code
  pub is : time_value code ≡ time
  pub enough : ticks ≤ time
  pub least : (other : ℕ) → IsSentCode other → ticks ≤ time_value other → time ≤ time_value other

-- the HELLO of interface i at now: originator, times and willingness from the settings, and one row for each address of which
-- something is said, in ascending order (RFC 6130, section 11, and RFC 7181, section 15.1)
pub record IsHelloNow (s : State) (i now : ℕ) (hello : Hello) : Type 0 where
  pub originator : (o : Addr4) × IsOriginator s.settings o × (hello.originator ≡ Some o)
  pub validity : IsRoundedUp s.settings.times.hold hello.validity
  pub interval : (time : ℕ) × (hello.interval ≡ Some time) × IsRoundedUp s.settings.times.hello time
  pub willing : hello.willing ≡ s.settings.willing
  pub rows : (row : HelloRow) → Contains hello.rows row → (a : Addr4) × IsHelloRow s i now row a
  pub all : (a : Addr4) (part : Part) → Says s i now a part → (row : HelloRow) × Contains hello.rows row × (row.addr ≡ host a)
  pub ordered : AllPairs (λ r t. IsBefore r.addr t.addr) hello.rows

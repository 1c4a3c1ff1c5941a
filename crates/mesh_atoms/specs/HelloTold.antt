-- What a HELLO tells the router that hears it on an interface.
use Rattle.std.specs.Prelude.{◌≡◌, ℕ, ◌⊎◌, ◌≢◌, ◌↔◌, List, Contains, Option, Some, None, slice_get, IsTrue, IsSome, Bool, true, false}
use Rattle.mesh_atoms.specs.declared.addr.Addr4.{Addr4}
use Rattle.mesh_atoms.specs.declared.codes.metric.Metric.{Metric}
use Rattle.mesh_atoms.specs.declared.hello.Willing.{Willing}
use Rattle.mesh_atoms.specs.declared.hello.LocalIf.{LocalIf}
use Rattle.mesh_atoms.specs.declared.hello.LocalIf.TheVariants.{This, Other}
use Rattle.mesh_atoms.specs.declared.hello.LinkStatus.{LinkStatus}
use Rattle.mesh_atoms.specs.declared.hello.LinkStatus.TheVariants.{Lost as Down, Symmetric, Heard}
use Rattle.mesh_atoms.specs.declared.hello.OtherStatus.{OtherStatus}
use Rattle.mesh_atoms.specs.declared.hello.OtherStatus.TheVariants.{Symmetric as Still}
use Rattle.mesh_atoms.specs.declared.hello.HelloRow.{HelloRow}
use Rattle.mesh_atoms.specs.declared.hello.Hello.{Hello}
use Rattle.mesh_atoms.specs.declared.hello.Shown.{Shown}
use Rattle.mesh_atoms.specs.declared.tuples.LinkKey.{LinkKey}
use Rattle.mesh_atoms.specs.declared.tuples.TwoHop.{TwoHop}
use Rattle.mesh_atoms.specs.declared.settings.Interface.{Interface}
use Rattle.mesh_atoms.specs.declared.settings.RouterSettings.{RouterSettings}
use Rattle.mesh_atoms.specs.declared.settings.SenderMetric.{SenderMetric}
use Rattle.mesh_atoms.specs.Base.{host}
use Rattle.mesh_atoms.specs.State.{HasAddress, HasAddressOn}
use Rattle.mesh_atoms.specs.Words.{Lists, IsLeastMetric}

-- Rows

-- a row of the HELLO of that address
abbrev pub HasRowOf : Hello → Addr4 → HelloRow → Type 0
HasRowOf hello a row = Contains hello.rows row × (row.addr ≡ host a)

-- the address is shown as one of the sender's
abbrev pub TellsLocal : Hello → Addr4 → LocalIf → Type 0
TellsLocal hello a local = (row : HelloRow) × HasRowOf hello a row × (row.local ≡ Some local)

-- an address of the receiver's interface i is shown with that LINK_STATUS
abbrev pub TellsMe : RouterSettings → ℕ → Hello → LinkStatus → Type 0
TellsMe settings i hello status = (a : Addr4) × (row : HelloRow) × HasAddressOn settings i a × HasRowOf hello a row × (row.link ≡ Some status)

-- Addresses of the sender (RFC 6130, section 12.2)

-- the sending list: the THIS_IF addresses, or the sender where there are none
abbrev pub IsSending : Hello → Addr4 → Addr4 → Type 0
IsSending hello sender a = TellsLocal hello a This ⊎ ((a ≡ sender) × ((b : Addr4) → TellsLocal hello b This → ⊥))

-- the neighbour address list: the sending list and the OTHER_IF addresses
abbrev pub IsListed : Hello → Addr4 → Addr4 → Type 0
IsListed hello sender a = IsSending hello sender a ⊎ TellsLocal hello a Other

-- What it says of the receiver

-- what the HELLO says of the link with interface i: HEARD or SYMMETRIC before LOST (RFC 6130, section 12.5)
abbrev pub IsMyStatus : RouterSettings → ℕ → Hello → Option LinkStatus → Type 0
IsMyStatus settings i hello None = (status : LinkStatus) → TellsMe settings i hello status → ⊥
IsMyStatus settings i hello (Some Down) =
    TellsMe settings i hello Down × (TellsMe settings i hello Heard → ⊥) × (TellsMe settings i hello Symmetric → ⊥)
IsMyStatus settings i hello (Some status) = TellsMe settings i hello status

-- the metric handed in for a sender: that of its own entry, else the interface's
abbrev pub IsHandedIn : Interface → Addr4 → Metric → Type 0
IsHandedIn face sender metric =
    ((entry : SenderMetric) × Contains face.senders entry × (entry.sender ≡ sender) × (entry.metric ≡ metric))
    ⊎ (((entry : SenderMetric) → Contains face.senders entry → entry.sender ≢ sender) × (metric ≡ face.metric))

-- what a HELLO tells
pub record Told : Type 0 where
  pub shown : Shown  -- of the link that it came over
  pub least : LinkKey  -- of the sending list
  pub listed : List Addr4
  pub originator : Addr4
  pub willing : Willing
  pub routing : Bool  -- whether the sender has chosen the receiver as a routing relay

-- what the HELLO from that sender tells on interface i (RFC 6130, section 12.2, and RFC 7181, section 15.3). Without an
-- originator, a listed address is the originator
pub record Tells (settings : RouterSettings) (i : ℕ) (sender : Addr4) (hello : Hello) (told : Told) : Type 0 where
  pub sending : Lists told.shown.sending (IsSending hello sender)
  pub least : slice_get told.shown.sending 0 ≡ Some told.least.addr
  pub listed : Lists told.listed (IsListed hello sender)
  pub originator : (hello.originator ≡ Some told.originator) ⊎ ((hello.originator ≡ None) × Contains told.listed told.originator)
  pub willing : told.willing ≡ hello.willing
  pub validity : told.shown.validity ≡ hello.validity
  pub status : IsMyStatus settings i hello told.shown.status
  pub link_in : (face : Interface) → slice_get settings.interfaces i ≡ Some face → IsHandedIn face sender told.shown.link_in
  pub link_out : IsLeastMetric (λ m. (a : Addr4) × (row : HelloRow) × HasAddressOn settings i a × HasRowOf hello a row
      × (row.metrics.link_in ≡ Some m)) told.shown.link_out
  pub flooding : IsTrue told.shown.selector
      ↔ ((a : Addr4) × (row : HelloRow) × HasAddressOn settings i a × HasRowOf hello a row × IsTrue row.mpr.flooding)
  pub routing : IsTrue told.routing ↔ ((a : Addr4) × (row : HelloRow) × HasAddress settings a × HasRowOf hello a row × IsTrue row.mpr.routing)

-- What it says of others (RFC 6130, section 12.6, and RFC 7181, section 15.3)

-- a row that tells of the sender's neighbour: neither the receiver's nor a listed address, with a LINK_STATUS or OTHER_NEIGHB
pub record LooksAt (settings : RouterSettings) (told : Told) (hello : Hello) (a : Addr4) (row : HelloRow) : Type 0 where
  pub stands : HasRowOf hello a row
  pub not_mine : HasAddress settings a → ⊥
  pub not_theirs : Contains told.listed a → ⊥
  pub shown : IsSome row.link ⊎ IsSome row.other

-- whether one of them is SYMMETRIC
abbrev pub tells_symmetric : Option LinkStatus → Option OtherStatus → Bool
tells_symmetric (Some Symmetric) other = true
tells_symmetric link (Some Still) = true
tells_symmetric link other = false

-- the neighbour metric where there is one, else the link metric
abbrev pub or_else : Option Metric → Option Metric → Option Metric
or_else None link = link
or_else (Some m) link = Some m

-- the metrics that the row shows
abbrev pub two_hop_of : HelloRow → TwoHop
two_hop_of row =
    record { metric_in = or_else row.metrics.near_in row.metrics.link_in; metric_out = or_else row.metrics.near_out row.metrics.link_out }

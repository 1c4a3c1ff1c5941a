-- What the tests of links find.
use Rattle.std.specs.Prelude.{◌≡◌, ◌↔◌, ◌<◌, Contains, slice_get, IsTrue, ℕ, List, ◌∷◌, [], Option, Some, None, cond, length, option_map}
use Rattle.std.specs.Borrow.{Bor}
use Rattle.mesh_atoms.specs.declared.addr.Addr4.{Addr4}
use Rattle.mesh_atoms.specs.declared.graphs.Pair.{Pair}
use Rattle.mesh_atoms.specs.declared.tuples.Link.{Link}
use Rattle.mesh_atoms.specs.declared.tuples.LinkKey.{LinkKey}
use Rattle.mesh_atoms.specs.Base.{base_of}
use Rattle.mesh_atoms.specs.Hello.{Says, Flooding}
use Rattle.mesh_atoms.specs.State.{State, is_symmetric, HasAddressOn}
use Rattle.mesh_atoms.specs.declared.gap.GapKey.{GapKey}
use Rattle.mesh_atoms.specs.declared.gap.GapKey.TheVariants.{Link as Of_link}
use Rattle.mesh_settled.specs.declared.gaps.joints.Joint.{Joint}
use Rattle.mesh_settled.specs.declared.gaps.links.GivenLink.{GivenLink}
use Rattle.mesh_settled.specs.Gaps.Fields.{Field, Addresses, cost_field, flag_field, link_fields}
use Rattle.mesh_settled.specs.Gaps.Joints.{IsLeastOf}

-- the fields of the link that the router holds, if it holds one
abbrev pub held_fields : Option (Bor Link) → Option (List Field)
held_fields held = option_map (λ link. link_fields link.now) held

-- the link with a joined interface
abbrev pub given_link : GivenLink → List Field
given_link g = Addresses g.addrs.now ∷ cost_field g.link_in ∷ cost_field g.link_out ∷ flag_field g.selector ∷ []

-- its fields, if there is one
abbrev pub given_fields : Option GivenLink → Option (List Field)
given_fields given = option_map given_link given

-- the link that a look-up finds, if it is SYMMETRIC
abbrev pub symmetric_fields : ℕ → Option (Link × ℕ) → Option (List Field)
symmetric_fields now None = None
symmetric_fields now (Some e) = cond (is_symmetric e.0 now) (Some (link_fields e.0)) None

-- the link of interface i of the router in state p with the joined interface of the router in state q
pub record IsGivenBy (p q : State) (i now : ℕ) (joint : Joint) (g : GivenLink) : Type 0 where
  pub addrs : (a : Addr4) → Contains g.addrs.now a ↔ HasAddressOn q.settings joint.iface a
  pub link_in : g.link_in ≡ joint.back
  pub link_out : g.link_out ≡ joint.there
  pub selector : IsTrue g.selector ↔ ((a : Addr4) × HasAddressOn p.settings i a × Says q joint.iface now a Flooding)

-- Which keys are looked at

-- a key of a link
abbrev pub IsLinkKey : GapKey → Type 0
IsLinkKey k = (i : ℕ) × (key : LinkKey) × (k ≡ Of_link i key)

-- the key of the link of interface i at a place
abbrev pub IsHeldAt : State → ℕ → ℕ → GapKey → Type 0
IsHeldAt p i place k =
    (key : LinkKey) × (e : Link × ℕ) × (slice_get (base_of p.bases.neighbourhood.links i) place ≡ Some (key, e))
    × (k ≡ Of_link i key)

-- the key of some link of interface i
abbrev pub IsHeldOn : State → ℕ → GapKey → Type 0
IsHeldOn p i k = (place : ℕ) × (place < length (base_of p.bases.neighbourhood.links i)) × IsHeldAt p i place k

-- the key of some link of the router
abbrev pub IsLinkHeld : State → GapKey → Type 0
IsLinkHeld p k = (i : ℕ) × (i < length p.settings.interfaces) × IsHeldOn p i k

-- the key that a pair from router x gives
abbrev pub IsGivenAt : List State → ℕ → Pair → GapKey → Type 0
IsGivenAt states x pair k =
    (pair.from ≡ x) × (a : Addr4) × IsLeastOf states pair.to pair.to_iface a
    × (k ≡ Of_link pair.from_iface (record { addr = a }))

-- the key that some pair from router x gives
abbrev pub IsGiven : List State → ℕ → List Pair → GapKey → Type 0
IsGiven states x pairs k =
    (place : ℕ) × (place < length pairs) × ((pair : Pair) × (slice_get pairs place ≡ Some pair) × IsGivenAt states x pair k)

-- A HELLO that repeats what is held already.
use Rattle.std.specs.Prelude.{◌≡◌, ℕ, ◌⊎◌, ◌&&◌, List, Contains, Option, Some, None, option_map, cond, true, false}
use Rattle.mesh_atoms.specs.declared.addr.Addr4.{Addr4}
use Rattle.mesh_atoms.specs.declared.hello.Hello.{Hello}
use Rattle.mesh_atoms.specs.declared.hello.HelloRow.{HelloRow}
use Rattle.mesh_atoms.specs.declared.hello.LinkStatus.{LinkStatus}
use Rattle.mesh_atoms.specs.declared.hello.LinkStatus.TheVariants.{Lost as Down}
use Rattle.mesh_atoms.specs.declared.hello.Shown.{Shown}
use Rattle.mesh_atoms.specs.declared.tuples.Link.{Link}
use Rattle.mesh_atoms.specs.declared.tuples.LinkKey.{LinkKey}
use Rattle.mesh_atoms.specs.declared.tuples.Neighbour.{Neighbour}
use Rattle.mesh_atoms.specs.declared.tuples.TwoHop.{TwoHop}
use Rattle.mesh_atoms.specs.declared.tuples.TwoHopKey.{TwoHopKey}
use Rattle.mesh_atoms.specs.Base.{Base, find, base_of, addr_eq, link_eq, two_hop_eq}
use Rattle.mesh_atoms.specs.State.{Neighbourhood, is_symmetric}
use Rattle.mesh_atoms.specs.HelloTold.{Told, tells_symmetric, two_hop_of}
use Rattle.mesh_nhdp.specs.Rows.{LooksOn}

-- what it shows of a link leaves that SYMMETRIC, at the same metric, or not SYMMETRIC
abbrev pub RepeatsStatus : Shown → ℕ → Link → Option LinkStatus → Type 0
RepeatsStatus shown now link None = Unit {0}
RepeatsStatus shown now link (Some Down) = is_symmetric link now ≡ false
RepeatsStatus shown now link (Some status) =
    (link.pending ≡ true) ⊎ ((link.lost ≡ true) ⊎ ((is_symmetric link now ≡ true) × (link.link_out ≡ shown.link_out)))

-- the 2-hop tuple of the row's address stands as the row makes it, but for its moment
abbrev pub RepeatsRow : Base TwoHopKey TwoHop → LinkKey → HelloRow → Type 0
RepeatsRow two_hops link row =
    option_map (λ t. t.0) (find two_hop_eq two_hops (record { link = link; addr = row.addr.addr }))
    ≡ cond (tells_symmetric row.link row.other) (Some (two_hop_of row)) None

-- so do those of all rows that are looked at
abbrev pub RepeatsRows : List Addr4 → List Addr4 → Base TwoHopKey TwoHop → LinkKey → Hello → Type 0
RepeatsRows own listed two_hops link hello =
    (row : HelloRow) → Contains hello.rows row → LooksOn own listed row → RepeatsRow two_hops link row

-- the link that it came over stands
pub record RepeatsLink (now : ℕ) (told : Told) (links : Base LinkKey Link) : Type 0 where
  pub one : Link × ℕ
  pub stands : find link_eq links told.least ≡ Some one
  pub addrs : one.0.addrs ≡ told.shown.sending
  pub status : RepeatsStatus told.shown now one.0 told.shown.status

-- the neighbour that it tells of stands, with these addresses, as willing, and a selector where it is symmetric and the HELLO says so
pub record RepeatsNeighbour (told : Told) (neighbours : Base Addr4 Neighbour) : Type 0 where
  pub one : Neighbour × ℕ
  pub stands : find addr_eq neighbours told.originator ≡ Some one
  pub addrs : one.0.addrs ≡ told.listed
  pub willing : one.0.willing ≡ told.willing
  pub selector : one.0.selector ≡ (told.routing && one.0.symmetric)

-- all that it tells on interface i of its link and its neighbour is held, but for moments
pub record Repeats (now i : ℕ) (told : Told) (near : Neighbourhood) : Type 0 where
  pub link : RepeatsLink now told (base_of near.links i)
  pub neighbour : RepeatsNeighbour told near.neighbours

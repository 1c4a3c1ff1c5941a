-- What becomes of the 2-hop tuples of a link, and the links that may have some.
use Rattle.std.specs.Prelude.{◌≡◌, ℕ, Some, None, cond, IsTrue}
use Rattle.std.specs.Ordering.{nat_cmp}
use Rattle.std.specs.declared.cmp.Ordering.{Ordering}
use Rattle.std.specs.BTreeSet.{BTreeSet, contains}
use Rattle.mesh_atoms.specs.declared.tuples.LinkKey.{LinkKey}
use Rattle.mesh_atoms.specs.declared.tuples.TwoHopKey.{TwoHopKey}
use Rattle.mesh_atoms.specs.declared.tuples.TwoHop.{TwoHop}
use Rattle.mesh_atoms.specs.Base.{Base, find, link_eq, two_hop_eq}

-- all tuples of the link go, and all others stay (RFC 6130, section 13)
abbrev pub DropsLink : LinkKey → Base TwoHopKey TwoHop → Base TwoHopKey TwoHop → Type 0
DropsLink link old new = (key : TwoHopKey) → find two_hop_eq new key ≡ cond (link_eq key.link link) None (find two_hop_eq old key)

-- the order of links: by their address
abbrev pub link_cmp : LinkKey → LinkKey → Ordering
link_cmp a b = nat_cmp a.addr.0 b.addr.0

-- the set has the link of each tuple
abbrev pub KnowsLinks : BTreeSet LinkKey → Base TwoHopKey TwoHop → Type 0
KnowsLinks links base = (q : TwoHopKey) (e : TwoHop × ℕ) → find two_hop_eq base q ≡ Some e → IsTrue (contains link_cmp links q.link)

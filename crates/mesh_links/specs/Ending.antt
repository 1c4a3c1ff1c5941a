-- Which links stay where some end.
use Rattle.mesh_atoms.specs.declared.tuples.Link.{Link}
use Rattle.mesh_atoms.specs.AfterHello.{IsApart}
use Rattle.mesh_atoms.specs.Words.{Meets, IsBeyond}
use Rattle.mesh_links.specs.declared.ending.LinksToEnd.{LinksToEnd}
use Rattle.mesh_links.specs.declared.ending.LinksToEnd.TheVariants.{Outside, Beside}

-- the link stays
abbrev pub Spares : LinksToEnd → Link → Type 0
Spares (Outside old new) link = (Meets link.addrs old.now × IsBeyond link.addrs new.now) → ⊥
Spares (Beside sending) link = IsApart sending.now link

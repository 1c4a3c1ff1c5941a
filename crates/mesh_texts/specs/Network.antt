-- What is told of a network at the end of its run.
use Rattle.std.specs.Prelude.{◌≡◌, ℕ, List, [], ◌∷◌, ◌++◌, length, Option, Some, None, codes, decimal, is_some}
use Rattle.mesh_atoms.specs.declared.settings.Interface.{Interface}
use Rattle.mesh_atoms.specs.declared.settings.Scenario.{Scenario}
use Rattle.mesh_atoms.specs.Settled.{Settled}
use Rattle.mesh_atoms.specs.State.{State}
use Rattle.mesh_atoms.specs.declared.network.Counts.{Counts}
use Rattle.mesh_atoms.specs.declared.gap.Gap.{Gap}
use Rattle.mesh_atoms.specs.declared.gap.GapKey.{GapKey}
use Rattle.mesh_atoms.specs.declared.gap.GapKey.TheVariants.{Link, Neighbour, TwoHop, Router, Address, Network}
use Rattle.mesh_settled.specs.Gaps.Gaps.{IsFirstGap}
use Rattle.mesh_settled.specs.machine.Names.{router_name}
use Rattle.mesh_texts.specs.Lines.Marks.{joined, line_of, dotted, slashed, choice_text, face_name, faces_of}
use Rattle.mesh_texts.specs.Sections.Section.{AreSections}

-- The lines

-- how large the network is, when it ended, and what was counted
unfoldable pub counts_line : Scenario → Counts → List ℕ
counts_line s counts = line_of (
    codes "emulate routers " ∷ decimal (length s.routers) ∷ codes " arcs " ∷ decimal (length s.arcs)
    ∷ codes " end " ∷ decimal s.end ∷ codes " sent " ∷ decimal counts.sent
    ∷ codes " delivered " ∷ decimal counts.delivered ∷ codes " lost " ∷ decimal counts.lost ∷ [])

-- the kind of a key and its parts, where the router has these interfaces
unfoldable pub key_text : List Interface → GapKey → List ℕ
key_text faces (Link i key) = joined (codes "link " ∷ face_name faces i ∷ codes " " ∷ dotted key.addr ∷ [])
key_text faces (Neighbour originator) = joined (codes "neighbour " ∷ dotted originator ∷ [])
key_text faces (TwoHop i key) =
    joined (codes "twohop " ∷ face_name faces i ∷ codes " " ∷ dotted key.link.addr ∷ codes " " ∷ dotted key.addr ∷ [])
key_text faces (Router from to) = joined (codes "topology router " ∷ dotted from ∷ codes " " ∷ dotted to ∷ [])
key_text faces (Address from addr) = joined (codes "topology address " ∷ dotted from ∷ codes " " ∷ dotted addr ∷ [])
key_text faces (Network from net) = joined (codes "topology network " ∷ dotted from ∷ codes " " ∷ slashed net ∷ [])

-- a gap: whether the router has a tuple of the key, and whether the network has one
unfoldable pub gap_line : Scenario → Gap → List ℕ
gap_line s gap =
    joined (codes "gap " ∷ router_name s.routers gap.router ∷ codes " " ∷ [])
    ++ key_text (faces_of s.routers gap.router) gap.key
    ++ line_of (codes " held " ∷ choice_text (is_some gap.held) ∷ codes " present " ∷ choice_text (is_some gap.present) ∷ [])

-- whether the network is settled, and else its first gap
unfoldable pub settled_text : Scenario → Option Gap → List ℕ
settled_text s None = codes "settled yes\n"
settled_text s (Some gap) = codes "settled no\n" ++ gap_line s gap

-- The summary

-- what was counted, the section of each router in order, and what is said of the gap
pub record IsSummary (s : Scenario) (states : List State) (counts : Counts) (gap : Option Gap) (text : List ℕ) : Type 0 where
  pub sections : List ℕ
  pub are_sections : AreSections states sections
  pub whole : text ≡ counts_line s counts ++ sections ++ settled_text s gap

-- the first gap at a moment, where the network isn't settled; or none where it is
abbrev pub IsGapOf : Scenario → List State → ℕ → Option Gap → Type 0
IsGapOf s states now None = Settled s states now
IsGapOf s states now (Some gap) = (Settled s states now → ⊥) × IsFirstGap s states now gap

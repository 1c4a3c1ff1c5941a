-- The lines that are told of a made network.
use Rattle.std.specs.Prelude.{◌≡◌, ℕ, List, [], ◌∷◌, length, Option, Some, None, codes, decimal}
use Rattle.mesh_atoms.specs.declared.settings.Scenario.{Scenario}
use Rattle.mesh_emulate.specs.Making.Routes.{IsGreatest}
use Rattle.mesh_texts.specs.Lines.Marks.{line_of}
use Rattle.mesh_emulate.specs.declared.making.kind.Kind.{Kind}
use Rattle.mesh_emulate.specs.declared.making.kind.Kind.TheVariants as kind

abbrev pub kind_text : Kind → List ℕ
kind_text kind.Grid = codes "grid"
kind_text kind.Ring = codes "ring"
kind_text kind.Random = codes "random"

-- how the network was made, and how large it is
unfoldable pub made_line : Kind → Scenario → List ℕ
made_line k s = line_of (
    codes "made " ∷ kind_text k ∷ codes " routers " ∷ decimal (length s.routers) ∷ codes " arcs " ∷ decimal (length s.arcs)
    ∷ codes " seed " ∷ decimal s.seed ∷ [])

abbrev pub greatest_text : Option ℕ → List ℕ
greatest_text None = codes "none"
greatest_text (Some metric) = decimal metric

-- how many routes there are, and the greatest metric of them
unfoldable pub routes_line : ℕ → Option ℕ → List ℕ
routes_line count greatest = line_of (codes "routes " ∷ decimal count ∷ codes " greatest " ∷ greatest_text greatest ∷ [])

-- the line of routes of these metrics
pub record TellsRoutes (metrics line : List ℕ) : Type 0 where
  pub greatest : Option ℕ
  pub is_greatest : IsGreatest metrics greatest
  pub whole : line ≡ routes_line (length metrics) greatest

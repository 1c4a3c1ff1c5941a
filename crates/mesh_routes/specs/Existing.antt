-- That a router has routes.
use Rattle.std.specs.Prelude.{ℕ, List}
use Rattle.mesh_atoms.specs.declared.addr.Addr4.{Addr4}
use Rattle.mesh_atoms.specs.declared.graphs.Route.{Route}
use Rattle.mesh_atoms.specs.Routes.{AreRoutes}
use Rattle.mesh_atoms.specs.Sound.{SoundNeighbourhood, SoundTopology}
use Rattle.mesh_atoms.specs.State.{State, IsOriginator}

-- a router with sound bases at a moment has routes then
abbrev pub RoutersHaveRoutes : Type 0
RoutersHaveRoutes =
    (s : State) (now : ℕ) (self : Addr4) → SoundNeighbourhood s.settings now s.bases.neighbourhood →
    SoundTopology s.settings now s.bases.topology → IsOriginator s.settings self →
    (routes : List Route) × AreRoutes (record s { routes = routes }) now self

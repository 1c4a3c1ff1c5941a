-- The routers of a made scenario as their tables would state them.
use Rattle.std.specs.Prelude.{◌≡◌, ℕ, List, [], ◌∷◌, map}
use Rattle.mesh_emulate.specs.Making.Scenario.{name_of, face_of}
use Rattle.mesh_config.specs.declared.stated.stated.StatedRouter.{StatedRouter}
use Rattle.mesh_config.specs.Senders.{EachAt}
use Rattle.mesh_config.specs.Stated.Router.{stated_interface_fields, IsPlainHead}

-- router i
pub record IsStated (i : ℕ) (d : StatedRouter) : Type 0 where
  pub is_plain : IsPlainHead (name_of i) d.head
  pub interfaces : map stated_interface_fields d.interfaces ≡ face_of i ∷ []
  pub attached : d.attached ≡ []

-- the routers from number i on
abbrev pub AreStated : ℕ → List StatedRouter → Type 0
AreStated i ds = EachAt IsStated i ds

use Rattle.mesh_config.proofs.Common.{◌≡◌, ℕ, List, Bool, true, false, Some, None, refl, if◌then◌else◌}
use Rattle.std.specs.Str.{is_utf8}
use Rattle.std.proofs.lemmas.Str.{is_utf8-from_IsUtf8, IsUtf8-from_is_utf8}
use Rattle.mesh_config.proofs.keys.parse.text_of.Goals as goal

pub returns-in-Ok : goal.returns-in-Ok
returns-in-Ok c = let u = is_utf8-from_IsUtf8 c.args.octets.now c.in-Ok.ensures.cases.1 in rw (u, c.in-Ok.ensures.cases.0)

no_text : (b : Bool) (octets : List ℕ) → (b ≡ true → ⊥) → None ≡ (if b then Some octets else None)
no_text true octets h = absurd (h refl)
no_text false octets h = refl

pub returns-in-Err : goal.returns-in-Err
returns-in-Err c = no_text (is_utf8 c.args.octets.now) c.args.octets.now (λ h. c.in-Err.ensures.cases.0 (IsUtf8-from_is_utf8 c.args.octets.now h))

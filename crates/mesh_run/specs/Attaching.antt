-- How often interfaces were tried.
use Rattle.std.specs.Prelude.{◌≡◌, ℕ}

-- at some moment there were all interfaces that there are now, and no fault had been counted since the beginning: so none of them was
-- attached behind an attach that failed
pub record AttachesAtOnce (Air : Type 0) (attached faults : Air → ℕ) (before now : Air) : Type 0 where
  pub air : Air
  pub attached_are : attached air ≡ attached now
  pub faults_are : faults air ≡ faults before

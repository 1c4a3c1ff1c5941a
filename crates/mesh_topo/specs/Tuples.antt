-- The rows of a TC that is taken.
use Rattle.mesh_atoms.specs.declared.tc.Tc.{Tc}
use Rattle.mesh_atoms.specs.Writable.{HaveTypeWhole}

-- what is an address of a router in a TC is a single address
abbrev pub HasHosts : Tc → Type 0
HasHosts tc = HaveTypeWhole tc.rows

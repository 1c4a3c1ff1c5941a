-- That the definitions leave no choice.
use Rattle.std.specs.Prelude.{◌≡◌, ℕ, List}
use Rattle.mesh_addr.specs.declared.records.RawAddr.{RawAddr}
use Rattle.mesh_addr.specs.Least.{IsLeast}

-- a block has at most one least spelling
abbrev pub HasOneLeast : Type 0
HasOneLeast = (width : ℕ) (addrs : List RawAddr) (a b : List ℕ) → IsLeast width addrs a → IsLeast width addrs b → a ≡ b

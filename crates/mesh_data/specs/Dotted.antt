-- How an address is written.
use Rattle.std.specs.Prelude.{ℕ, ◌/◌, ◌%◌, List, ◌++◌, codes, decimal}
use Rattle.mesh_atoms.specs.declared.addr.Addr4.{Addr4}

-- as four numbers with dots between them, the first highest
unfoldable pub dotted : Addr4 → List ℕ
dotted a =
    decimal (a.0 / 16777216) ++ codes "." ++ decimal (a.0 / 65536 % 256) ++ codes "." ++ decimal (a.0 / 256 % 256) ++ codes "."
    ++ decimal (a.0 % 256)

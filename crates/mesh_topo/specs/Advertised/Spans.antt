-- The runs into which rows are cut.
use Rattle.std.specs.Prelude.{◌≡◌, ℕ, ◌+◌, ◌-◌, ◌*◌, ◌<◌, ◌≤◌, List, length, Some, slice_get, slice_range, min}
use Rattle.mesh_atoms.specs.declared.tc.TcRow.{TcRow}
use Rattle.mesh_topo.specs.declared.advertised.spans.PartSpan.{PartSpan}

-- the rows of a run
abbrev pub part_of : List TcRow → PartSpan → List TcRow
part_of rows span = slice_range rows span.first (span.first + span.len)

-- So many rows are cut into runs: each begins behind `most` rows for each run before it, and has `most` or as many as are left. There
-- are as many runs as are needed, and at least one.
pub record AreSpans (rows most : ℕ) (spans : List PartSpan) : Type 0 where
  pub each : (i : ℕ) (span : PartSpan) → slice_get spans i ≡ Some span → (span.first ≡ i * most) × (span.len ≡ min most (rows - i * most))
  pub some : 0 < length spans
  pub enough : rows ≤ length spans * most
  pub needed : 1 < length spans → (length spans - 1) * most < rows

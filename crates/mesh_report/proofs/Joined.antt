-- Pieces that were put one behind the other.
use Rattle.mesh_report.proofs.Common.{◌≡◌, List, ℕ, ◌++◌, sym, ap, ◌∙◌, append_assoc}

-- ---- texts of two parts: what stands, and what a piece holds

-- the same behind a piece
pub behind : (out line : List ℕ) {line' : List ℕ} (a : List ℕ) → line' ≡ line ++ a → out ++ line' ≡ (out ++ line) ++ a
behind out line {line'} a h = ap (λ (l : List ℕ). out ++ l) h ∙ sym (append_assoc out line a)

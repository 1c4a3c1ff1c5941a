use Rattle.mesh_wire.proofs.Common.{ℕ, ◌≤◌, sym, ap, subst, ◌∙◌, time_value, IsSentCode, time_again}
use Rattle.mesh_wire.proofs.write.code_of.Goals as goal

pub returns : goal.returns
returns c =
    let (code, sent, is) = c.requires in
    let least = c.in-Some.code in
    let enough = subst (λ (t : ℕ). t ≤ time_value least) (sym is) c.in-Some.ensures.enough in
    let low = subst (λ (t : ℕ). (other : ℕ) → IsSentCode other → t ≤ time_value other → least ≤ other) (sym is) c.in-Some.ensures.least in
    (c.in-Some.ensures.sent, ap time_value (time_again code least sent enough low) ∙ is)

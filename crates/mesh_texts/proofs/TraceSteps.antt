-- Traces, event by event.
use Rattle.mesh_texts.proofs.Common.{ℕ, List, [], ◌∷◌, NetEvent, NetState, NetRun, Traces}

-- what is traced is a run
pub traces_run : (old : NetState) (events : List NetEvent) (new : NetState) (text : List ℕ) → Traces old events new text →
    NetRun old events new
traces_run old [] new text (same, none) = same
traces_run old (e ∷ es) new text (mid, step, first, rest, it, more, eq) = (mid, step, traces_run mid es new rest more)

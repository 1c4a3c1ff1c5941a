use Rattle.mesh_paths.proofs.Common.{ℕ, subst, sym, IsInside}
use Rattle.mesh_paths.proofs.radio.level_all.Goals as goal

pub go_round-requires-clause-inside : goal.go_round-requires-clause-inside
go_round-requires-clause-inside c = λ pair there. subst (λ (n : ℕ). IsInside n pair) (sym c.rounds.auto.parts) (c.requires.inside pair there)

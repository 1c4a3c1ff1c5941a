use Rattle.mesh_tool.proofs.Common.{◌≡◌, drop, words_of, read_on, texts}
use Rattle.mesh_tool.proofs.words.words.job_in.Given as goal

abbrev pub invariant-loop-place : goal.invariant-loop-place
invariant-loop-place l = record { left : words_of (texts l.words) ≡ read_on l.asked l.place (drop l.place (texts l.words)) }

use Rattle.mesh_replay.proofs.Common.{arith, common_steps, not_from_Decides, slice_eq-Decides, address_of}
use Rattle.mesh_replay.proofs.RelaysLemmas.Words.{address_read, zero_read, not_zero}
use Rattle.mesh_replay.proofs.checking.words.address_in.Goals as goal

pub returns-then-eq : goal.returns-then-eq
returns-then-eq c addr small is = grind (arith, common_steps, slice_eq-Decides, zero_read, c.eq.ensures, c.as_slice.ensures)

pub returns : goal.returns
returns c addr small is = grind (arith, common_steps, slice_eq-Decides, not_from_Decides, address_of, address_read, not_zero, c.eq.ensures, c.address_of.ensures.exact, c.as_slice.ensures)

use Rattle.mesh_atoms.proofs.Common.{◌<◌, refl, sym, arith, IsSentCode, time_value}
use Rattle.mesh_atoms.proofs.CodesLemmas.CodeLaws.{time-le}
use Rattle.mesh_atoms.proofs.times.time_at_least.Goals as goal

pub returns-in-Some : goal.returns-in-Some
returns-in-Some c = record {
  code = c.in-Some.code;
  sent = c.in-Some.ensures.sent;
  is = sym c.time_of.ensures.value;
  enough = rw c.time_of.ensures.value c.in-Some.ensures.enough;
  least = λ other sent le. rw c.time_of.ensures.value (time-le c.in-Some.code other (c.in-Some.ensures.least other sent le));
}

pub returns-in-None : goal.returns-in-None
returns-in-None c =
    let last : IsSentCode 254 = (omega arith, omega arith) in
    let below : time_value 254 < c.args.ticks = c.in-None.ensures.none.0 refl 254 last in
    absurd (omega arith)

-- What holds of a reading holds of a result that gives it.
use Rattle.mesh_atoms.proofs.Common.{arith, common_steps, ◌≡◌, Result, subst, IfOk, IfErr, MatchResult, Refusal, ◌>>=◌, Fails, Gives, IfRefused}
use Rattle.mesh_atoms.specs.declared.refusal.DecodeFault.{DecodeFault}

pub given : {X Y : Type 0} (view : X → Y) (P : Y → Type 0) (Q : Refusal → Type 0) (r : Result X DecodeFault) (read : Result Y Refusal) → Gives view r read → MatchResult read P Q → IfOk r (λ x. P (view x)) × IfErr r (IfRefused Q)
given view P Q r read h k = grind (arith, common_steps)

pub given_so : {X Y : Type 0} (view : X → Y) (r : Result X DecodeFault) (read other : Result Y Refusal) → Gives view r read → read ≡ other → Gives view r other
given_so view r read other h e = subst (λ x. Gives view r x) e h

-- a fault of what is read first is the fault of all
pub fails_on : {A B : Type 0} (read : Result A Refusal) (f : A → Result B Refusal) (fault : DecodeFault) → Fails fault read → Fails fault (read >>= f)
fails_on read f fault h = grind (arith, common_steps)

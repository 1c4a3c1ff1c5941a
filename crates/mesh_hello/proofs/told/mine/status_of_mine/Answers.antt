use Rattle.mesh_hello.proofs.Common.{refl, false≢true, Symmetric, Heard}
use Rattle.mesh_hello.proofs.ToldLemmas.Mines.{tells_me, is_lost, is_unknown}
use Rattle.mesh_hello.proofs.told.mine.status_of_mine.Goals as goal

pub returns-then-has_own_row : goal.returns-then-has_own_row
returns-then-has_own_row c settings i own_is = (tells_me settings i c.args.hello.now c.args.own.now own_is Heard).0 (c.if-has_own_row.ensures.0 refl)

pub returns-then-has_own_row-2 : goal.returns-then-has_own_row-2
returns-then-has_own_row-2 c settings i own_is = (tells_me settings i c.args.hello.now c.args.own.now own_is Symmetric).0 (c.if-has_own_row-2.ensures.0 refl)

pub returns-then-has_own_row-3 : goal.returns-then-has_own_row-3
returns-then-has_own_row-3 c settings i own_is =
    is_lost settings i c.args.hello.now c.args.own.now own_is (c.if-has_own_row-3.ensures.0 refl) (λ h. absurd (false≢true (c.if-has_own_row.ensures.1 h))) (λ h. absurd (false≢true (c.if-has_own_row-2.ensures.1 h)))

pub returns : goal.returns
returns c settings i own_is =
    is_unknown settings i c.args.hello.now c.args.own.now own_is (λ h. absurd (false≢true (c.if-has_own_row-3.ensures.1 h))) (λ h. absurd (false≢true (c.if-has_own_row.ensures.1 h)))
    (λ h. absurd (false≢true (c.if-has_own_row-2.ensures.1 h)))

use Rattle.mesh_addr.proofs.Common.{arith}
use Rattle.mesh_addr.proofs.Choosing.{best_of_head}
use Rattle.mesh_addr.proofs.choices.best_with_head.Goals as goal

pub returns : goal.returns
returns c =
    rw (c.cheaper-2.ensures, c.cheaper.ensures) (best_of_head c.args.width c.args.count c.args.head c.args.limits c.min.result c.min-2.result c.requires.width c.requires.some c.requires.head c.requires.within
    (omega (arith, c.min.ensures)) (omega (arith, c.min.ensures, c.requires.within)) (λ n low fits. omega (arith, c.min.ensures, low, fits))
    (omega (arith, c.min-2.ensures)) (omega (arith, c.min-2.ensures, c.requires.within)) (λ n low fits. omega (arith, c.min-2.ensures, low, fits)))

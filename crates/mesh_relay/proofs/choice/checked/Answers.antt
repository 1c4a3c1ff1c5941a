use Rattle.mesh_relay.proofs.Common.{sym, subst, IfOk-weaker, IsAscending}
use Rattle.mesh_relay.proofs.Taken.{ids_ascend}
use Rattle.mesh_relay.proofs.choice.checked.Goals as goal

pub returns-then-branch-clause-order : goal.returns-then-branch-clause-order
returns-then-branch-clause-order c =
    IfOk-weaker c.ids_of.result _ IsAscending (λ ids e. subst IsAscending (sym e) (ids_ascend c.args.willing.now c.args.taken.now c.requires.willing.order)) c.ids_of.ensures

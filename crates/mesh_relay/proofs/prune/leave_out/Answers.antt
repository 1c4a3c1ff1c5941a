use Rattle.mesh_relay.proofs.Common.{Bool, true, false, set, ◌≡◌, sym, ◌∙◌, subst, inr, set-set, set-get_or}
use Rattle.mesh_relay.proofs.prune.leave_out.Goals as goal

pub returns-then-not-are_all_reached : goal.returns-then-not-are_all_reached
returns-then-not-are_all_reached c =
    let ts = c.args.taken.now in
    let place = c.args.place in
    inr (
      set-set ts place false true ∙ subst (λ (b : Bool). set ts place b ≡ ts) c.requires.taken (set-get_or ts place false),
      sym c.are_all_reached.ensures ∙ c.if-not-are_all_reached.true,
    )

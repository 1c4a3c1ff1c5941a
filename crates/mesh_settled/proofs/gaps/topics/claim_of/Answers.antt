use Rattle.mesh_settled.proofs.GapsLemmas.RowLemmas.{claim_found}
use Rattle.mesh_settled.proofs.gaps.topics.claim_of.Goals as goal

pub returns : goal.returns
returns g c = λ from origin. claim_found (g.R.RouterView.state c.args.other.now) c.requires from origin c.args.topic c.args.net c.claim_in.result (rw (c.rows.ensures, c.ansn.ensures) at c.claim_in.ensures)

use Rattle.mesh_bases.proofs.Common.{ap, sym, ◌∙◌, RouterSettings, if_ok_weaker}
use Rattle.mesh_bases.proofs.Selectors.{no_selectors}
use Rattle.mesh_bases.proofs.advertise.own_rows.Goals as goal

pub returns : goal.returns
returns c = if_ok_weaker c.tc_rows.result (λ rows are s settings none. are s (no_selectors s none) (ap (λ (r : RouterSettings). r.attached) settings ∙ sym c.as_slice.ensures)) c.tc_rows.ensures.rows

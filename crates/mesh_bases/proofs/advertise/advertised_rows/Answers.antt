use Rattle.mesh_bases.proofs.Common.{ap, subst, sym, List, ◌∙◌, RouterSettings, Neighbourhood, Selector, AreSelectors, if_ok_weaker}
use Rattle.mesh_bases.proofs.Selectors.{selectors_are}
use Rattle.mesh_bases.proofs.advertise.advertised_rows.Goals as goal

pub returns : goal.returns
returns g c = if_ok_weaker c.tc_rows.result (λ rows are s settings near.
    are s (subst (λ (l : List Selector). AreSelectors s l) (sym c.as_slice.ensures.value) (selectors_are s _ c.in_ok-selectors.selectors.items (ap (λ (n : Neighbourhood). n.neighbours) near) c.in_ok-selectors.ensures))
    (ap (λ (r : RouterSettings). r.attached) settings ∙ sym c.as_slice-2.ensures)) c.tc_rows.ensures.rows

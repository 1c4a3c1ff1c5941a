use Rattle.mesh_core.proofs.Common.{ℕ, sym, ap, subst, ◌∙◌, SoundNeighbourhood, Neighbourhood, CoreValue}
use Rattle.mesh_core.proofs.views.CoreRouterView.said.Goals as goal

pub said_of-requires : goal.said_of-requires
said_of-requires g c =
    let s = c.args.self.now.state in (
      s.settings,
      subst (λ (near : Neighbourhood). SoundNeighbourhood s.settings c.args.now near)
          (ap (λ (v : CoreValue). v.state.bases.neighbourhood) (sym c.self.view_is) ∙ sym c.nhdp.ensures.near)
          (subst (λ (n : ℕ). SoundNeighbourhood s.settings n s.bases.neighbourhood) c.requires.last c.requires.sound.neighbourhood),
    )

pub returns : goal.returns
returns g c =
    c.said_of.ensures c.args.self.now.state
    (ap (λ (v : CoreValue). v.state.bases.neighbourhood) (sym c.self.view_is) ∙ sym c.nhdp.ensures.near)
    (ap (λ (v : CoreValue). v.state.relays) (sym c.self.view_is))

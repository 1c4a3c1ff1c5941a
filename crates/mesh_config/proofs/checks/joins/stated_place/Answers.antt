use Rattle.mesh_config.proofs.Common.{◌∙◌, ℕ, List, length, position, ap, refl, sym, slice_get_read, name_eq, StatedInterface}
use Rattle.mesh_config.proofs.ChecksLemmas.Links.{place_found}
use Rattle.mesh_config.proofs.checks.joins.stated_place.Goals as goal

pub returns : goal.returns
returns c =
    let place = c.args.place.now in let found = c.in_ok-router.ensures.lookup in
    place_found c.args.routers.now place.router place.iface c.in_ok-at.at c.in_ok-iface.iface c.in_ok-router.router.now
    (c.in_ok-at.ensures ∙ ap (λ (n : List ℕ). position (λ r. name_eq n r.head.name) c.args.routers.now) c.as_slice.ensures)
    (sym (slice_get_read c.args.routers.now (length c.args.routers.now) c.in_ok-at.at c.in_ok-router.router.now refl found.3.0 found.1))
    (c.in_ok-iface.ensures ∙ (ap (λ (n : List ℕ). position (λ i. name_eq n i.name) c.as_slice-2.result.now) c.as_slice-3.ensures
    ∙ ap (λ (faces : List StatedInterface). position (λ i. name_eq place.iface i.name) faces) c.as_slice-2.ensures))

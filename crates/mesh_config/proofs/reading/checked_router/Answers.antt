use Rattle.mesh_config.proofs.Common.{List, map, sym, ap, ◌∙◌, StatedRouter, first, duplicates, stated_identifiers}
use Rattle.mesh_config.proofs.RunLaws.{clear_one}
use Rattle.mesh_config.proofs.reading.checked_router.Goals as goal

pub router_from-requires-clause-clear : goal.router_from-requires-clause-clear
router_from-requires-clause-clear c =
    clear_one c.args.stated.now.router
    (sym (ap (λ (rs : List StatedRouter). first (duplicates (map stated_identifiers rs))) c.from_ref.ensures.value) ∙ c.in_ok-no_duplicates.ensures.0)

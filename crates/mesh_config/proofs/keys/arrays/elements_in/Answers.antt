use Rattle.mesh_config.proofs.KeysLemmas.Elements.{items_list-of}
use Rattle.mesh_config.proofs.keys.arrays.elements_in.Goals as goal

pub returns-in-Some : goal.returns-in-Some
returns-in-Some c = rw (← c.in-Some.ensures, c.as_slice.ensures.value, items_list-of)

use Rattle.mesh_expire.proofs.list_table.ListTablePlacedTable.remove_at.Goals as goal

pub returns : goal.returns
returns g c = rw (← c.self.view_is) (record {
  found = c.remove_from_place.ensures.found;
  removed = c.remove_from_place.ensures.removed;
  unchanged = c.remove_from_place.ensures.unchanged;
  distinct = c.remove_from_place.ensures.distinct;
})

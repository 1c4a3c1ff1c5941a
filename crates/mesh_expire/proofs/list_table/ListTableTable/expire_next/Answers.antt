use Rattle.mesh_expire.proofs.list_table.ListTableTable.expire_next.Goals as goal

pub returns : goal.returns
returns g c = rw (← c.self.view_is) (record {
  some = c.take_next.ensures.some;
  none = c.take_next.ensures.none;
  fresh = c.take_next.ensures.fresh;
  count = c.take_next.ensures.count;
  distinct = c.take_next.ensures.distinct;
})

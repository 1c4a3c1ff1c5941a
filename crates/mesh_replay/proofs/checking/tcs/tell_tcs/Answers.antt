use Rattle.mesh_replay.proofs.checking.tcs.tell_tcs.Goals as goal

pub tell_spans-requires-clause-due : goal.tell_spans-requires-clause-due
tell_spans-requires-clause-due g c = record { ordered = rw c.rows.ensures c.requires.sound.rows.ordered; is_value = rw c.as_slice.ensures c.in_ok-octets.ensures.sent; is_validity = rw c.as_slice.ensures c.in_ok-octets.ensures.value }

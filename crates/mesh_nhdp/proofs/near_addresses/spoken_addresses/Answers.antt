use Rattle.mesh_nhdp.proofs.Common.{List, ◌↔◌, subst, Contains, Addr4, IsSpokenOf}
use Rattle.mesh_nhdp.proofs.Spoken.{all_spoken, symmetric_spoken}
use Rattle.mesh_nhdp.proofs.near_addresses.spoken_addresses.Goals as goal

pub returns-clause-all : goal.returns-clause-all
returns-clause-all g c =
    all_spoken c.args.neighbours.now _ c.args.telling.now.originator c.args.telling.now.listed c.in_ok-spoken.spoken.items _ c.in_ok-all.all.items (subst (λ (xs : List Addr4). (o : Addr4) → Contains c.in_ok-spoken.spoken.items o ↔ IsSpokenOf c.args.neighbours.now c.args.telling.now.originator xs o) c.as_slice.ensures c.in_ok-spoken.ensures) c.table-table.ensures.content c.deref.ensures.value c.in_ok-all.ensures

pub returns-clause-symmetric : goal.returns-clause-symmetric
returns-clause-symmetric g c =
    symmetric_spoken c.args.neighbours.now _ c.args.telling.now.originator c.args.telling.now.listed c.in_ok-spoken.spoken.items _ c.in_ok-symmetric.symmetric.items (subst (λ (xs : List Addr4). (o : Addr4) → Contains c.in_ok-spoken.spoken.items o ↔ IsSpokenOf c.args.neighbours.now c.args.telling.now.originator xs o) c.as_slice.ensures c.in_ok-spoken.ensures) c.table-table.ensures.content c.deref-2.ensures.value c.in_ok-symmetric.ensures

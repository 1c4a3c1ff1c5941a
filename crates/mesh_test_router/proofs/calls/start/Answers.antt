use Rattle.mesh_test_router.proofs.calls.start.Goals as goal

-- an empty neighbourhood is sound at every moment
pub returns : goal.returns
returns g c = record {
  some = rw c.in_ok-nhdp.ensures.settings c.requires;
  moment = 0;
  sound = c.in_ok-nhdp.ensures.sound 0;
}

use Rattle.mesh_test_router.proofs.calls.take.Goals as goal

pub expire-requires-clause-sound : goal.expire-requires-clause-sound
expire-requires-clause-sound g c = (c.requires.ready.moment, c.requires.ready.sound)

pub take_hello-requires-clause-iface : goal.take_hello-requires-clause-iface
take_hello-requires-clause-iface g c = rw c.in_ok-expire.ensures.settings c.requires.ready.some

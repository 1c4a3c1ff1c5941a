use Rattle.mesh_hello.proofs.Common.{◌↔◌, Contains, Addr4}
use Rattle.mesh_hello.proofs.Collect.{SomeBelow}
use Rattle.mesh_hello.proofs.told.telling.own_addresses.Given as goal

abbrev pub invariant-loop-face : goal.invariant-loop-face
invariant-loop-face l = (a : Addr4) → Contains l.own.items a ↔ SomeBelow l.settings.interfaces l.face-index (λ face. Contains face.addrs a)

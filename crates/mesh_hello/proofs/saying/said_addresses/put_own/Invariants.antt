use Rattle.mesh_hello.proofs.Common.{◌≡◌, ◌++◌, drop, flat_map}
use Rattle.mesh_hello.proofs.saying.said_addresses.put_own.Given as goal

abbrev pub invariant-loop-face : goal.invariant-loop-face
invariant-loop-face l = l.list.items ++ flat_map (λ face. face.addrs) (drop l.face-index l.settings.interfaces) ≡ l.fn.list.items ++ flat_map (λ face. face.addrs) l.settings.interfaces

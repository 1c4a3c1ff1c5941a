use Rattle.mesh_trace.proofs.Common.{◌≡◌, rules, inl, inr, List, Bool, true, false, refl, subst, not, IsTrue, ◌↔◌, false≢true, HelloRow, LOCAL_IF, IsLocal}
use Rattle.mesh_trace.proofs.spelling.hello.ReadHelloLooks.is_read.Goals as goal

when_not : (b : Bool) → IsTrue (not b) → IsTrue b → ⊥
when_not true h b = false≢true h
when_not false h b = false≢true b

if_never : (b : Bool) → (IsTrue b → ⊥) → IsTrue (not b)
if_never true none = absurd (none refl)
if_never false none = refl

pub is_local-requires : goal.is_local-requires
is_local-requires c = rw c.as_slice.ensures c.args.self.now.hello.ascending

pub returns-then-is_read_of_other : goal.returns-then-is_read_of_other
returns-then-is_read_of_other c =
    let ext : c.args.ext ≡ 0 = search rules in
    let other : c.args.kind ≡ LOCAL_IF → ⊥ = search rules in
    let iff : IsTrue c.is_local.result ↔ IsLocal c.args.self.now.hello.rows c.args.net =
    subst (λ (rows : List HelloRow). IsTrue c.is_local.result ↔ IsLocal rows c.args.net) c.as_slice.ensures c.is_local.ensures in
    let read = c.is_read_of_other.ensures.0 (search rules) in (
      λ yes. (ext, inr (λ local. when_not c.is_local.result yes (iff.1 local), read)),
      λ looks. if_never c.is_local.result (λ yes. elim looks.1 [
        | inl kind ↦ other kind
        | inr h ↦ h.0 (iff.0 yes)
      ]),
    )

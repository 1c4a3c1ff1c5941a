-- Lists of the sender's addresses.
use Rattle.mesh_hello.proofs.Common.{common_steps, ◌≡◌, ◌↔◌, inl, inr, refl, sym, subst, arith, List, [], ◌∷◌, ◌++◌, length, Contains, Some, Contains-append_cases, Contains-append_left, Contains-append_right, Addr4, Hello, HelloRow, LocalIf, This, Other, TellsLocal, IsSending, IsListed, same_net, Gathers, IsLocalAddress, IsOrSender}
use Rattle.mesh_hello.proofs.Collect.{SomeBelow, below_contains, adds_one}

-- a row that shows one adds it
pub adds_local : (old new : List Addr4) (row : HelloRow) (local : LocalIf) → new ≡ old ++ row.addr.addr ∷ [] → row.addr.prefix ≡ 32 → row.local ≡ Some local → Gathers old new (IsLocalAddress row local)
adds_local old new row local is prefix shown = grind (arith, common_steps, adds_one, same_net)

-- all rows show what the HELLO shows
pub tells_local : (hello : Hello) (local : LocalIf) (a : Addr4) → SomeBelow hello.rows (length hello.rows) (λ row. IsLocalAddress row local a) ↔ TellsLocal hello a local
tells_local hello local a = (
  λ s. let (row, c, p) = (below_contains hello.rows (λ row. IsLocalAddress row local a)).0 s in (row, (c, p.0), p.1),
  λ h. let (row, of, shown) = h in (below_contains hello.rows (λ row. IsLocalAddress row local a)).1 (row, of.0, (of.1, shown)),
)

pub sends : (hello : Hello) (sender : Addr4) (this all : List Addr4) → ((a : Addr4) → Contains this a ↔ TellsLocal hello a This) → ((a : Addr4) → Contains all a ↔ IsOrSender this sender a) →
    (a : Addr4) → Contains all a ↔ IsSending hello sender a
sends hello sender this all this_is all_is a = (
  λ c. elim ((all_is a).0 c) [ inl h ↦ inl ((this_is a).0 h) | inr h ↦ inr (h.0, λ b shows. h.1 b ((this_is b).1 shows)) ],
  λ s. (all_is a).1 (elim s [ inl h ↦ inl ((this_is a).1 h) | inr h ↦ inr (h.0, λ b c. h.1 b ((this_is b).0 c)) ]),
)

pub lists_all : (hello : Hello) (sender : Addr4) (sending others all : List Addr4) → ((a : Addr4) → Contains sending a ↔ IsSending hello sender a) → ((a : Addr4) → Contains others a ↔ TellsLocal hello a Other) →
    all ≡ sending ++ others → (a : Addr4) → Contains all a ↔ IsListed hello sender a
lists_all hello sender sending others all sending_is others_is is a = (
  λ c. elim (Contains-append_cases sending others a (subst (λ (xs : List Addr4). Contains xs a) is c)) [ inl h ↦ inl ((sending_is a).0 h) | inr h ↦ inr ((others_is a).0 h) ],
  λ l. subst (λ (xs : List Addr4). Contains xs a) (sym is) (elim l [
    | inl h ↦ Contains-append_left sending others a ((sending_is a).1 h)
    | inr h ↦ Contains-append_right sending others a ((others_is a).1 h)
  ]),
)

-- a list, or the sender where it has none
pub or_sender_some : (addrs : List Addr4) (sender a : Addr4) → (length addrs ≡ 0 → ⊥) → Contains addrs a ↔ IsOrSender addrs sender a
or_sender_some [] sender a not = absurd (not refl)
or_sender_some (x ∷ xs) sender a not = ((λ c. inl c), (λ h. elim h [ inl c ↦ c | inr none ↦ absurd (none.1 x (0, omega arith, refl)) ]))

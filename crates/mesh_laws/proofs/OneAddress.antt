-- A HELLO of which one address alone is local, the sender's, and of the interface that it comes from.
use Rattle.mesh_laws.proofs.Common.{◌≡◌, inl, inr, sym, subst, arith, [], ◌∷◌, Contains, Addr4, Hello, LocalIf, This, Other, TellsLocal, IsSending, IsListed, Lists, only, contains_head as here}

module _ (hello : Hello) (sender : Addr4) (there : TellsLocal hello sender This)
    (local_is : (a : Addr4) (local : LocalIf) → TellsLocal hello a local → (a ≡ sender) × (local ≡ This)) where
  is_in : (a : Addr4) → a ≡ sender → Contains (sender ∷ []) a
  is_in a is = let P : Addr4 → Type 0 = λ b. Contains (sender ∷ []) b in subst P (sym is) (here sender [])

  -- its sending list
  pub sending_one : Lists (sender ∷ []) (IsSending hello sender)
  sending_one = (
    (λ i j d less within. absurd (omega (arith, less, within))),
    (λ a. (
      (λ c. (let P : Addr4 → Type 0 = λ b. IsSending hello sender b in subst P (sym (only sender a c)) (inl there))),
      (λ is. elim is [
        | inl shows ↦ is_in a (local_is a This shows).0
        | inr other ↦ is_in a other.0
      ]),
    )),
  )

  -- its neighbour address list
  pub listed_one : Lists (sender ∷ []) (IsListed hello sender)
  listed_one = (
    (λ i j d less within. absurd (omega (arith, less, within))),
    (λ a. (
      (λ c. (let P : Addr4 → Type 0 = λ b. IsListed hello sender b in subst P (sym (only sender a c)) (inl (inl there)))),
      (λ is. elim is [
        | inl (inl shows) ↦ is_in a (local_is a This shows).0
        | inl (inr other) ↦ is_in a other.0
        | inr shows ↦ is_in a (local_is a Other shows).0
      ]),
    )),
  )

-- What is left where some links are taken out.
use Rattle.mesh_links.proofs.Common.{arith, common_steps, ◌≡◌, ℕ, inl, inr, refl, sym, ◌∙◌, Bool, true, false, Option, Some, None, Link, LinkKey, Base, find, link_eq, SetsOnly, IsKept, link_equiv, find_same, IsKeptOrGone}

-- one more is taken out
pub left_without : (Goes : Link × ℕ → Type 0) (first before after : Base LinkKey Link) (gone : LinkKey) (e : Link × ℕ)
    → find link_eq before gone ≡ Some e → Goes e → SetsOnly link_eq before after gone None
    → ((key : LinkKey) → IsKeptOrGone Goes (find link_eq first key) (find link_eq before key))
    → (key : LinkKey) → IsKeptOrGone Goes (find link_eq first key) (find link_eq after key)
left_without Goes first before after gone e found goes removed left key = by_key (link_eq gone key) refl where
  by_key : (b : Bool) → link_eq gone key ≡ b → IsKeptOrGone Goes (find link_eq first key) (find link_eq after key)
  by_key false is = let same : find link_eq after key ≡ find link_eq before key = removed key ∙ rw is refl in rw same (left key)
  by_key true is = elim (left key) [
    | inl stood ↦ inr (e, sym stood ∙ find_same link_equiv gone key is before ∙ found, goes, removed key ∙ rw is refl)
    | inr over ↦ inr (over.0, over.1, over.2, removed key ∙ rw is refl)
  ]

-- all that are left stay
pub left_kept : {A : Type 0} (Stays : A → Type 0) (old new : Option A) → IsKeptOrGone (λ e. Stays e → ⊥) old new → ((e : A) → new ≡ Some e → Stays e) → IsKept Stays old new
left_kept Stays old new left all = grind (arith, common_steps)

-- taken out in two steps
pub left_twice : {A : Type 0} (Goes : A → Type 0) (old mid new : Option A) → IsKeptOrGone Goes old mid → IsKeptOrGone Goes mid new → IsKeptOrGone Goes old new
left_twice Goes old mid new h4 h5 = grind (arith, common_steps)

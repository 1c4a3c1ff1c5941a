use Rattle.mesh_nhdp.proofs.Common.{List, Contains, map, inl, inr, sym, ap, subst, ◌∙◌, option_map, slice_get-map, Contains-append_left, Contains-append_right, Addr4, LinkKey, key_at, item_at, contains_at}
use Rattle.mesh_nhdp.proofs.keys.keys_of_both.Goals as goal

has_key : (xs : List Addr4) (a : Addr4) → Contains xs a → Contains (map key_at xs) (key_at a)
has_key xs a has = contains_at (map key_at xs) has.0 (key_at a) (slice_get-map key_at xs has.0 ∙ ap (option_map key_at) (item_at xs has.0 a has.1 (sym has.2)))

pub returns : goal.returns
returns c a has = subst (λ (ks : List LinkKey). Contains ks (key_at a)) (sym c.in_ok-put_keys-2.ensures) (elim has [
  | inl first ↦ Contains-append_left _ _ (key_at a) (subst (λ (ks : List LinkKey). Contains ks (key_at a)) (sym c.in_ok-put_keys.ensures) (Contains-append_right _ (map key_at c.args.addrs.now) (key_at a) (has_key c.args.addrs.now a first)))
  | inr second ↦ Contains-append_right _ (map key_at c.args.others.now) (key_at a) (has_key c.args.others.now a second)
])

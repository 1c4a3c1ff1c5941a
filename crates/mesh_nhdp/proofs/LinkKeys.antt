-- The keys of a base.
use Rattle.mesh_nhdp.proofs.Common.{◌≡◌, ℕ, inl, inr, sym, ◌∙◌, ap, subst, arith, List, slice_get, Some, option_map, keys_of, slice_get_cases, slice_get-map, get_or_from_slice_get, place_from_lookup, lookup_from_place, length-keys_of, LinkKey, Link, Base, find, HasDistinctKeys, link_eq, link_equiv, same_link, TellsKeys, contains_at}

key_at : (base : Base LinkKey Link) (k : ℕ) (key : LinkKey) (e : Link × ℕ) → slice_get base k ≡ Some (key, e) → slice_get (keys_of base) k ≡ Some key
key_at base k key e at = slice_get-map (λ (x : LinkKey × (Link × ℕ)). x.0) base k ∙ ap (option_map (λ (x : LinkKey × (Link × ℕ)). x.0)) at

pub tells_keys : (links base : Base LinkKey Link) (keys : List LinkKey) → base ≡ links → HasDistinctKeys link_eq base → keys ≡ keys_of base → TellsKeys links keys
tells_keys links base keys same distinct is = subst (λ (b : Base LinkKey Link). TellsKeys b keys) same (subst (λ ks. TellsKeys base ks) (sym is) (record {
  told = λ key c. elim ((slice_get_cases base c.0).1) [
    | inl there ↦
        let is_key : there.0.0 ≡ key = sym (get_or_from_slice_get (keys_of base) c.0 there.0.0 key (key_at base c.0 there.0.0 there.0.1 there.2)) ∙ c.2 in
        (there.0.1, subst (λ k. find link_eq base k ≡ Some there.0.1) is_key (lookup_from_place link_equiv base c.0 there.0.0 there.0.1 distinct there.2))
    | inr past ↦ absurd (let count = length-keys_of base in let lt = c.1 in omega (arith, past.0, count, lt))
  ];
  all = λ key e found.
      let (k, l, at, test) = place_from_lookup (link_eq key) base e found in
      contains_at (keys_of base) k key (key_at base k key e (subst (λ x. slice_get base k ≡ Some (x, e)) (sym (same_link key l test)) at));
}))

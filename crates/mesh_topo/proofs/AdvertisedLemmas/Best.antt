-- The best of what is offered of a node.
use Rattle.mesh_topo.proofs.Common.{common_steps, ◌≡◌, ◌≤◌, ◌⊎◌, ◌↔◌, inl, inr, Bool, true, false, cond, List, [], ◌∷◌, Option, Some, None, refl, sym, ap, subst, ◌∙◌, arith, Contains, IsTrue, is_some, ◌||◌, is_eq, NetAddr, Metric, metric_value, cost-le, Offer, net_cmp, lesser, put_offer, offered, same_at, at_same, contains_head as at_head, contains_tail as in_tail, contains_cases, contains_none as none_in}

-- the offer sums up these offers of an address
pub record Best (C : Offer → Type 0) (o : Offer) : Type 0 where
  pub gateway : o.gateway ≡ None
  pub origin : IsTrue o.origin ↔ ((e : Offer) × C e × IsTrue e.origin)
  pub from : (e : Offer) × C e × (e.metric ≡ o.metric)
  pub least : (e : Offer) → C e → metric_value o.metric ≤ metric_value e.metric

-- what is offered sums up these offers, where there are any
abbrev pub SumsUp : (Offer → Type 0) → Option Offer → Type 0
SumsUp C None = (e : Offer) → C e → ⊥
SumsUp C (Some o) = Best C o

pub sums_as : (C C' : Offer → Type 0) (o : Option Offer) → ((e : Offer) → C e → C' e) → ((e : Offer) → C' e → C e) → SumsUp C o → SumsUp C' o
sums_as C C' None there back none = λ e has. none e (back e has)
sums_as C C' (Some o) there back best = record {
  gateway = best.gateway;
  origin = (λ t. let (e, has, is) = best.origin.0 t in (e, there e has, is), λ (e, has, is). best.origin.1 (e, back e has, is));
  from = let (e, has, is) = best.from in (e, there e has, is);
  least = λ e has. best.least e (back e has);
}

-- the lesser metric is one of the two, and no dearer than either
lesser_cases : (a b : Metric) → ((lesser a b ≡ a) ⊎ (lesser a b ≡ b)) × (metric_value (lesser a b) ≤ metric_value a) × (metric_value (lesser a b) ≤ metric_value b)
lesser_cases a b = grind (arith, common_steps, metric_value, cost-le)

either : (a b : Bool) → IsTrue (a || b) ↔ (IsTrue a ⊎ IsTrue b)
either a b = grind (arith, common_steps)

-- one offer more
pub sums_more : (C : Offer → Type 0) (old : Option Offer) (new : Offer) → new.gateway ≡ None → SumsUp C old → SumsUp (λ e. C e ⊎ (e ≡ new)) (Some (put_offer old new))
sums_more C None new is none = record {
  gateway = is;
  origin = (λ t. (new, inr refl, t), λ (e, has, t). elim has [ inl before ↦ absurd (none e before) | inr same ↦ subst (λ (x : Offer). IsTrue x.origin) same t ]);
  from = (new, inr refl, refl);
  least = λ e has. elim has [ inl before ↦ absurd (none e before) | inr same ↦ subst (λ (x : Offer). metric_value new.metric ≤ metric_value x.metric) (sym same) (omega arith) ];
}
sums_more C (Some old) new is best =
    let together : Offer = record { origin = old.origin || new.origin; gateway = old.gateway; metric = lesser old.metric new.metric } in
    let no_network : is_some new.gateway ≡ false = ap is_some is in
    subst (λ (b : Bool). Best (λ e. C e ⊎ (e ≡ new)) (cond b old together)) (sym no_network) (record {
      gateway = best.gateway;
      origin = (
        λ t. elim ((either old.origin new.origin).0 t) [
          | inl was ↦ let (e, has, o) = best.origin.0 was in (e, inl has, o)
          | inr now ↦ (new, inr refl, now)
        ],
        λ (e, has, o). (either old.origin new.origin).1 (elim has [
          | inl before ↦ inl (best.origin.1 (e, before, o))
          | inr same ↦ inr (subst (λ (x : Offer). IsTrue x.origin) same o)
        ]),
      );
      from = elim (lesser_cases old.metric new.metric).0 [
        | inl first ↦ let (e, has, m) = best.from in (e, inl has, m ∙ sym first)
        | inr second ↦ (new, inr refl, sym second)
      ];
      least = λ e has. elim has [
        | inl before ↦ let le = best.least e before in omega (arith, le, (lesser_cases old.metric new.metric).1)
        | inr same ↦ subst (λ (x : Offer). metric_value (lesser old.metric new.metric) ≤ metric_value x.metric) (sym same) (lesser_cases old.metric new.metric).2
      ];
    })

-- all offers of addresses
pub sums_all : (net : NetAddr) (es : List (NetAddr × Offer)) (C : Offer → Type 0) (old : Option Offer) → ((e : NetAddr × Offer) → Contains es e → e.1.gateway ≡ None) → SumsUp C old →
    SumsUp (λ e. C e ⊎ Contains es (net, e)) (offered net es old)
sums_all net [] C old no_gateway sums = sums_as C _ old (λ e has. inl has) (λ e has. elim has [ inl before ↦ before | inr inside ↦ absurd (none_in (net, e) inside) ]) sums
sums_all net (x ∷ xs) C old no_gateway sums = by_net (is_eq (net_cmp x.0 net)) refl (λ C' old' sums'. sums_all net xs C' old' later sums') where
  later : (e : NetAddr × Offer) → Contains xs e → e.1.gateway ≡ None
  later e has = no_gateway e (in_tail x xs e has)

  by_net : (b : Bool) → is_eq (net_cmp x.0 net) ≡ b → ((C' : Offer → Type 0) (old' : Option Offer) → SumsUp C' old' → SumsUp (λ e. C' e ⊎ Contains xs (net, e)) (offered net xs old')) → SumsUp (λ e. C e ⊎ Contains (x ∷ xs) (net, e)) (offered net xs (cond b (Some (put_offer old x.1)) old))
  by_net true is others =
      let here : x.0 ≡ net = same_at x.0 net is in
      sums_as (λ e. (C e ⊎ (e ≡ x.1)) ⊎ Contains xs (net, e)) _ _
      (λ e has. elim has [
        | inl (inl before) ↦ inl before
        | inl (inr same) ↦ inr (subst (λ (y : NetAddr × Offer). Contains (x ∷ xs) y) (ap (λ (n : NetAddr). (n, x.1)) here ∙ ap (λ (o : Offer). (net, o)) (sym same)) (at_head x xs))
        | inr inside ↦ inr (in_tail x xs (net, e) inside)
      ])
      (λ e has. elim has [
        | inl before ↦ inl (inl before)
        | inr inside ↦ elim (contains_cases x xs (net, e) inside) [
          | inl same ↦ inl (inr (sym (ap (λ (y : NetAddr × Offer). y.1) same)))
          | inr further ↦ inr further
        ]
      ])
      (others (λ e. C e ⊎ (e ≡ x.1)) (Some (put_offer old x.1)) (sums_more C old x.1 (no_gateway x (at_head x xs)) sums))
  by_net false is others =
      sums_as (λ e. C e ⊎ Contains xs (net, e)) _ _
      (λ e has. elim has [ inl before ↦ inl before | inr inside ↦ inr (in_tail x xs (net, e) inside) ])
      (λ e has. elim has [
        | inl before ↦ inl before
        | inr inside ↦ elim (contains_cases x xs (net, e) inside) [
          | inl same ↦ absurd (let t : is_eq (net_cmp x.0 net) ≡ true = at_same x.0 net (ap (λ (y : NetAddr × Offer). y.0) same) in cc)
          | inr further ↦ inr further
        ]
      ])
      (others C old sums)

-- What is kept of a message's addresses, made by no more than its entries.
use Rattle.mesh_wire.proofs.Common.{◌≡◌, ℕ, ◌-◌, ◌%◌, ◌^◌, ◌⊎◌, inl, inr, refl, sym, subst, ◌∙◌, arith, List, [], ◌∷◌, Contains, AllPairs, Some, None, ◌==◌, cases_lt, cases_eq, eq-eqb, eqb-true, and_parts as both, and_from as and_both, NetAddr, IsBefore, same_net, AddressParts, AreCollected, Entry, collected, after, no_parts, before_trans, same_addr, contains_head as at_head, contains_tail as in_tail, contains_cases, contains_none as none_in, all_pairs_tail, all_pairs_head, all_pairs_cons}
use Rattle.mesh_wire.proofs.Collected.{AnyOf, StandsOf, SaysOf, collected_is}
use Rattle.mesh_wire.proofs.Collecting.{all_after}
use Rattle.mesh_wire.proofs.Gathered.{stands_if}

-- ---- the network of an entry

entry_is : (net : NetAddr) (e : Entry) → StandsOf net e → (net.addr.0 ≡ e.number) × (net.prefix ≡ e.prefix)
entry_is net e h = let p = both (net.addr.0 == e.number) (net.prefix == e.prefix) h in (eqb-true net.addr.0 e.number p.0, eqb-true net.prefix e.prefix p.1)

is_clear : (n k : ℕ) (net : NetAddr) → net.addr.0 ≡ n → net.prefix ≡ k → n % 2 ^ (32 - k) ≡ 0
is_clear n k net e f = subst (λ (p : ℕ). n % 2 ^ (32 - p) ≡ 0) f (subst (λ (a : ℕ). a % 2 ^ (32 - net.prefix) ≡ 0) e net.clear)

net_of : (e : Entry) → ((net : NetAddr) × StandsOf net e) ⊎ ((net : NetAddr) → StandsOf net e → ⊥)
net_of e = elim (cases_lt 32 e.prefix) [
  | inl above ↦ inr (λ net h. omega (arith, above, net.within, (entry_is net e h).1))
  | inr within ↦ elim (cases_eq (e.number % 2 ^ (32 - e.prefix)) 0) [
    | inl clear ↦ inl (record { addr = record { 0 = e.number }; prefix = e.prefix; within = within; clear = clear }, and_both (e.number == e.number) (e.prefix == e.prefix) (eq-eqb e.number e.number refl) (eq-eqb e.prefix e.prefix refl))
    | inr other ↦ inr (λ net h. let (number, prefix) = entry_is net e h in other (is_clear e.number e.prefix net number prefix))
  ]
]

one_net_of : (e : Entry) (a b : NetAddr) → StandsOf a e → StandsOf b e → a ≡ b
one_net_of e a b h k = let p = entry_is a e h in let q = entry_is b e k in same_net a b (same_addr a.addr b.addr (p.0 ∙ sym q.0)) (p.1 ∙ sym q.1)

-- ---- networks in order, each once

before_or : (a b : NetAddr) → IsBefore a b ⊎ ((a ≡ b) ⊎ IsBefore b a)
before_or a b = elim (cases_lt a.addr.0 b.addr.0) [
  | inl l ↦ inl (inl l)
  | inr g ↦ elim (cases_lt b.addr.0 a.addr.0) [
    | inl l ↦ inr (inr (inl l))
    | inr h ↦
        let e : a.addr.0 ≡ b.addr.0 = omega (arith, g, h) in
        elim (cases_lt a.prefix b.prefix) [
          | inl l ↦ inl (inr (e, l))
          | inr k ↦ elim (cases_lt b.prefix a.prefix) [
            | inl l ↦ inr (inr (inr (sym e, l)))
            | inr j ↦ inr (inl (same_net a b (same_addr a.addr b.addr e) (omega (arith, j, k))))
          ]
        ]
  ]
]

record Inserted (net : NetAddr) (nets : List NetAddr) : Type 0 where
  pub out : List NetAddr
  pub ascending : AllPairs IsBefore out
  pub from : (z : NetAddr) → Contains out z → (net ≡ z) ⊎ Contains nets z
  pub has : Contains out net
  pub keeps : (z : NetAddr) → Contains nets z → Contains out z

inserted : (net : NetAddr) (nets : List NetAddr) → AllPairs IsBefore nets → Inserted net nets
inserted net [] up = record {
  out = net ∷ [];
  ascending = all_pairs_cons IsBefore net [] (λ z h. absurd (none_in z h)) up;
  from = λ z h. contains_cases net [] z h;
  has = at_head net [];
  keeps = λ z h. absurd (none_in z h);
}
inserted net (x ∷ nets) up = elim (before_or net x) [
  | inl before ↦ record {
    out = net ∷ (x ∷ nets);
    ascending = all_pairs_cons IsBefore net (x ∷ nets) (λ z h. elim (contains_cases x nets z h) [ inl e ↦ subst (IsBefore net) e before | inr later ↦ before_trans net x z before (all_pairs_head IsBefore x nets up z later) ]) up;
    from = λ z h. contains_cases net (x ∷ nets) z h;
    has = at_head net (x ∷ nets);
    keeps = λ z h. in_tail net (x ∷ nets) z h;
  }
  | inr (inl same) ↦ record { out = x ∷ nets; ascending = up; from = λ z h. inr h; has = subst (Contains (x ∷ nets)) (sym same) (at_head x nets); keeps = λ z h. h }
  | inr (inr behind) ↦
      let r = inserted net nets (all_pairs_tail IsBefore x nets up) in
      record {
        out = x ∷ r.out;
        ascending = all_pairs_cons IsBefore x r.out (λ z h. elim (r.from z h) [ inl e ↦ subst (IsBefore x) e behind | inr old ↦ all_pairs_head IsBefore x nets up z old ]) r.ascending;
        from = λ z h. elim (contains_cases x r.out z h) [
          | inl e ↦ inr (subst (Contains (x ∷ nets)) e (at_head x nets))
          | inr later ↦ elim (r.from z later) [ inl e ↦ inl e | inr old ↦ inr (in_tail x nets z old) ]
        ];
        has = in_tail x r.out net r.has;
        keeps = λ z h. elim (contains_cases x nets z h) [ inl e ↦ subst (Contains (x ∷ r.out)) e (at_head x r.out) | inr later ↦ in_tail x r.out z (r.keeps z later) ];
      }
]

-- the networks of entries
record AreNets (es : List Entry) : Type 0 where
  pub nets : List NetAddr
  pub ascending : AllPairs IsBefore nets
  pub each : (net : NetAddr) → Contains nets net → AnyOf (StandsOf net) es
  pub all : (net : NetAddr) → AnyOf (StandsOf net) es → Contains nets net

nets_of : (es : List Entry) → AreNets es
nets_of [] = record { nets = []; ascending = λ i j d lt less. absurd (omega (arith, lt)); each = λ net h. absurd (none_in net h); all = λ net h. absurd h }
nets_of (e ∷ es) =
    let rest = nets_of es in
    elim (net_of e) [
      | inl (net, here) ↦
          let r = inserted net rest.nets rest.ascending in
          record {
            nets = r.out;
            ascending = r.ascending;
            each = λ z h. elim (r.from z h) [ inl same ↦ inl (subst (λ (n : NetAddr). StandsOf n e) same here) | inr old ↦ inr (rest.each z old) ];
            all = λ z h. elim h [ inl at ↦ subst (Contains r.out) (one_net_of e net z here at) r.has | inr later ↦ r.keeps z (rest.all z later) ];
          }
      | inr never ↦ record {
        nets = rest.nets;
        ascending = rest.ascending;
        each = λ z h. inr (rest.each z h);
        all = λ z h. elim h [ inl at ↦ absurd (never z at) | inr later ↦ rest.all z later ];
      }
    ]

-- ---- a row of each

module _ (es : List Entry) where
  row_of : NetAddr → AddressParts
  row_of net = record { net = net; parts = after net es no_parts }

  record AreRowsOf (nets : List NetAddr) : Type 0 where
    pub rows : List AddressParts
    pub ascending : AllPairs (λ (a b : AddressParts). IsBefore a.net b.net) rows
    pub each : (t : AddressParts) → Contains rows t → Contains nets t.net × (collected t.net es None ≡ Some t.parts)
    pub all : (net : NetAddr) → Contains nets net → (t : AddressParts) × Contains rows t × (t.net ≡ net)

  rows_of : (nets : List NetAddr) → AllPairs IsBefore nets → ((net : NetAddr) → Contains nets net → AnyOf (StandsOf net) es) → AreRowsOf nets
  unfolding row_of
  rows_of [] up stands = record { rows = []; ascending = λ i j d lt less. absurd (omega (arith, lt)); each = λ t h. absurd (none_in t h); all = λ net h. absurd (none_in net h) }
  rows_of (x ∷ nets) up stands =
      let rest = rows_of nets (all_pairs_tail IsBefore x nets up) (λ net h. stands net (in_tail x nets net h)) in
      record {
        rows = row_of x ∷ rest.rows;
        ascending = all_pairs_cons (λ (a b : AddressParts). IsBefore a.net b.net) (row_of x) rest.rows (λ t h. all_pairs_head IsBefore x nets up t.net (rest.each t h).0) rest.ascending;
        each = λ t h. elim (contains_cases (row_of x) rest.rows t h) [
          | inl e ↦ subst (λ (u : AddressParts). Contains (x ∷ nets) u.net × (collected u.net es None ≡ Some u.parts)) e (at_head x nets, all_after x es (stands x (at_head x nets)))
          | inr later ↦ let r = rest.each t later in (in_tail x nets t.net r.0, r.1)
        ];
        all = λ net h. elim (contains_cases x nets net h) [
          | inl e ↦ (row_of x, at_head (row_of x) rest.rows, e)
          | inr later ↦ let (t, there, is) = rest.all net later in (t, in_tail (row_of x) rest.rows t there, is)
        ];
      }

pub gathered : (es : List Entry) → (rows : List AddressParts) × AreCollected es rows
gathered es =
    let n = nets_of es in
    let r = rows_of es n.nets n.ascending n.each in (
      r.rows,
      record {
        ascending = r.ascending;
        each = λ t h. (r.each t h).1;
        all = λ net parts e. r.all net (n.all net (stands_if (AnyOf (StandsOf net) es) (λ k x. AnyOf (SaysOf net k x) es) (collected net es None) parts e (collected_is net es)));
      },
    )

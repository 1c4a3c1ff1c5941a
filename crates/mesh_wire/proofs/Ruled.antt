-- The first rule that rows break is the first that their message breaks.
use Rattle.mesh_wire.proofs.Common.{common_steps, ◌≡◌, ℕ, ◌<◌, ◌≤◌, ◌⊎◌, inl, inr, refl, sym, ◌∙◌, ap, subst, arith, Bool, true, false, cond, List, [], ◌∷◌, Contains, AllPairs, Option, Some, None, nat_lt, cases_Bool, cases_lt, ltb-true, lt-ltb, NetAddr, IsBefore, IsAtMost, AddressParts, sooner, first_rule, FirstBroken, IsLow, Keeps, at_most_itself, at_most_of_before, contains_head as at_head, contains_tail as in_tail, contains_cases, contains_none as none_in, all_pairs_tail, all_pairs_head, some_equal}

abbrev pub AreOrdered : List AddressParts → Type 0
AreOrdered rows = AllPairs (λ (a b : AddressParts). IsBefore a.net b.net) rows

module _ (rule : AddressParts → Option ℕ) where
  -- of rules that rows break the one of least number, and of rows that break it the first
  pub record IsFirst (rows : List AddressParts) (number : ℕ) (net : NetAddr) : Type 0 where
    pub told : AddressParts
    pub there : Contains rows told
    pub is : told.net ≡ net
    pub broken : rule told ≡ Some number
    pub first : (u : AddressParts) (n : ℕ) → Contains rows u → rule u ≡ Some n → number ≤ n
    pub least : (u : AddressParts) → Contains rows u → rule u ≡ Some number → IsAtMost net u.net

  -- that rule and row, or no row breaks a rule
  abbrev pub FirstIs : List AddressParts → Option (ℕ × NetAddr) → Type 0
  FirstIs rows None = (u : AddressParts) → Contains rows u → rule u ≡ None
  FirstIs rows (Some (number, net)) = IsFirst rows number net

  -- a row in front breaks none, or a later one
  extended : (t : AddressParts) (rows : List AddressParts) (m : ℕ) (b : NetAddr) → ((k : ℕ) → rule t ≡ Some k → m < k) → IsFirst rows m b → IsFirst (t ∷ rows) m b
  extended t rows m b above f = record {
    told = f.told;
    there = in_tail t rows f.told f.there;
    is = f.is;
    broken = f.broken;
    first = λ u k has e. elim (contains_cases t rows u has) [ inl g ↦ omega (arith, above k (ap rule g ∙ e)) | inr later ↦ f.first u k later e ];
    least = λ u has e. elim (contains_cases t rows u has) [ inl g ↦ absurd (omega (arith, above m (ap rule g ∙ e))) | inr later ↦ f.least u later e ];
  }

  -- a row in front is the first
  begun : (t : AddressParts) (rows : List AddressParts) (k : ℕ) → AreOrdered (t ∷ rows) → rule t ≡ Some k → ((u : AddressParts) (j : ℕ) → Contains rows u → rule u ≡ Some j → k ≤ j) → IsFirst (t ∷ rows) k t.net
  begun t rows k up e all = record {
    told = t;
    there = at_head t rows;
    is = refl;
    broken = e;
    first = λ u j has f. elim (contains_cases t rows u has) [ inl g ↦ omega (arith, some_equal k j (sym e ∙ ap rule g ∙ f)) | inr later ↦ all u j later f ];
    least = λ u has f. elim (contains_cases t rows u has) [
      | inl g ↦ at_most_itself t.net u.net (ap (λ (x : AddressParts). x.net) g)
      | inr later ↦ at_most_of_before t.net u.net (all_pairs_head (λ (a b : AddressParts). IsBefore a.net b.net) t rows up u later)
    ];
  }

  -- what was found before rows stays, or one of them has a lower number
  abbrev Stays : ℕ → NetAddr → List AddressParts → Type 0
  Stays n a rows = (first_rule rule (Some (n, a)) rows ≡ Some (n, a)) × ((u : AddressParts) (k : ℕ) → Contains rows u → rule u ≡ Some k → n ≤ k)

  abbrev Yields : ℕ → NetAddr → List AddressParts → Type 0
  Yields n a rows = (m : ℕ) × (b : NetAddr) × (m < n) × (first_rule rule (Some (n, a)) rows ≡ Some (m, b)) × IsFirst rows m b

  one_more : (t : AddressParts) (rows : List AddressParts) (n : ℕ) (a : NetAddr) (o : Option ℕ) → AreOrdered (t ∷ rows) → rule t ≡ o → ((k : ℕ) (b : NetAddr) → Stays k b rows ⊎ Yields k b rows) → Stays n a (t ∷ rows) ⊎ Yields n a (t ∷ rows)
  one_more t rows n a None up e rest =
      let path = ap (λ (x : Option ℕ). first_rule rule (sooner (Some (n, a)) x t.net) rows) e in
      elim (rest n a) [
        | inl (is, all) ↦ inl (path ∙ is, λ u k has f. elim (contains_cases t rows u has) [ inl g ↦ (let no : None ≡ Some k = sym e ∙ ap rule g ∙ f in absurd (cc)) | inr later ↦ all u k later f ])
        | inr (m, b, lt, is, f) ↦ inr (m, b, lt, path ∙ is, extended t rows m b (λ k g. let no : None ≡ Some k = sym e ∙ g in absurd (cc)) f)
      ]
  one_more t rows n a (Some j) up e rest =
      let path = ap (λ (x : Option ℕ). first_rule rule (sooner (Some (n, a)) x t.net) rows) e in
      elim (cases_Bool (nat_lt j n)) [
        | inl y ↦
            let to : first_rule rule (Some (n, a)) (t ∷ rows) ≡ first_rule rule (Some (j, t.net)) rows = path ∙ ap (λ (c : Bool). first_rule rule (cond c (Some (j, t.net)) (Some (n, a))) rows) y in
            let less = ltb-true j n y in
            elim (rest j t.net) [
              | inl (is, all) ↦ inr (j, t.net, less, to ∙ is, begun t rows j up e all)
              | inr (m, b, lt, is, f) ↦ inr (m, b, omega (arith, lt, less), to ∙ is, extended t rows m b (λ k g. omega (arith, lt, some_equal j k (sym e ∙ g))) f)
            ]
        | inr above ↦
            let to : first_rule rule (Some (n, a)) (t ∷ rows) ≡ first_rule rule (Some (n, a)) rows = path ∙ ap (λ (c : Bool). first_rule rule (cond c (Some (j, t.net)) (Some (n, a))) rows) above in
            let le : n ≤ j = at_least j n above in
            elim (rest n a) [
              | inl (is, all) ↦ inl (to ∙ is, λ u k has f. elim (contains_cases t rows u has) [ inl g ↦ omega (arith, le, some_equal j k (sym e ∙ ap rule g ∙ f)) | inr later ↦ all u k later f ])
              | inr (m, b, lt, is, f) ↦ inr (m, b, lt, to ∙ is, extended t rows m b (λ k g. omega (arith, lt, le, some_equal j k (sym e ∙ g))) f)
            ]
      ]
    where
      at_least : (j n : ℕ) → nat_lt j n ≡ false → n ≤ j
      at_least j n above = elim (cases_lt j n) [ inl lt ↦ (let yes : nat_lt j n ≡ true = lt-ltb j n lt in absurd (cc)) | inr le ↦ le ]

  after : (rows : List AddressParts) → AreOrdered rows → (n : ℕ) (a : NetAddr) → Stays n a rows ⊎ Yields n a rows
  after [] up n a = inl (refl, λ u k has e. absurd (none_in u has))
  after (t ∷ rows) up n a = one_more t rows n a (rule t) up refl (after rows (all_pairs_tail (λ (a b : AddressParts). IsBefore a.net b.net) t rows up))

  from_head : (t : AddressParts) (rows : List AddressParts) (o : Option ℕ) → AreOrdered (t ∷ rows) → rule t ≡ o → FirstIs rows (first_rule rule None rows) → FirstIs (t ∷ rows) (first_rule rule (sooner None o t.net) rows)
  from_head t rows None up e rest = grind (arith, common_steps, contains_cases, extended)
  from_head t rows (Some k) up e rest = elim (after rows (all_pairs_tail (λ (a b : AddressParts). IsBefore a.net b.net) t rows up) k t.net) [
    | inl (is, all) ↦ subst (λ (r : Option (ℕ × NetAddr)). FirstIs (t ∷ rows) r) (sym is) (begun t rows k up e all)
    | inr (m, b, lt, is, f) ↦ subst (λ (r : Option (ℕ × NetAddr)). FirstIs (t ∷ rows) r) (sym is) (extended t rows m b (λ j g. omega (arith, lt, some_equal k j (sym e ∙ g))) f)
  ]

  pub first_is : (rows : List AddressParts) → AreOrdered rows → FirstIs rows (first_rule rule None rows)
  first_is [] up = λ u has. absurd (none_in u has)
  first_is (t ∷ rows) up = from_head t rows (rule t) up refl (first_is rows (all_pairs_tail (λ (a b : AddressParts). IsBefore a.net b.net) t rows up))

-- ---- rules on addresses, by the rules that rows break

-- the row of an address breaks a rule of that number or of a lower one
pub record Reaches (rule : AddressParts → Option ℕ) (rows : List AddressParts) (k : ℕ) (a : Option NetAddr) : Type 0 where
  pub told : AddressParts
  pub there : Contains rows told
  pub is : a ≡ Some told.net
  pub number : ℕ
  pub broken : rule told ≡ Some number
  pub most : number ≤ k

-- from a number on, the rules that a message breaks are those that its rows break
pub record Decides (Breaks : ℕ → Option NetAddr → Type 0) (rule : AddressParts → Option ℕ) (rows : List AddressParts) (start : ℕ) : Type 0 where
  pub breaks : (t : AddressParts) (n : ℕ) → Contains rows t → rule t ≡ Some n → Breaks n (Some t.net)
  pub reaches : (k : ℕ) (a : Option NetAddr) → Breaks k a → start ≤ k → Reaches rule rows k a

module _ (Breaks : ℕ → Option NetAddr → Type 0) (rule : AddressParts → Option ℕ) (rows : List AddressParts) (start : ℕ) (d : Decides Breaks rule rows start)
    (up : AreOrdered rows) (from : (k : ℕ) (a : Option NetAddr) → Breaks k a → start ≤ k) where
  pub rule_first : (n : ℕ) (net : NetAddr) → first_rule rule None rows ≡ Some (n, net) → FirstBroken Breaks n (Some net)
  rule_first n net e =
      let f : IsFirst rule rows n net = subst (λ (r : Option (ℕ × NetAddr)). FirstIs rule rows r) e (first_is rule rows up) in
      record {
        broken = subst (λ (x : NetAddr). Breaks n (Some x)) f.is (d.breaks f.told n f.there f.broken);
        first = λ k a b. let r = d.reaches k a b (from k a b) in omega (arith, r.most, f.first r.told r.number r.there r.broken);
        least = λ a b.
            let r = d.reaches n a b (from n a b) in
            let same : r.number ≡ n = omega (arith, r.most, f.first r.told r.number r.there r.broken) in
            subst (λ (o : Option NetAddr). IsLow (Some net) o) (sym r.is) (f.least r.told r.there (r.broken ∙ ap (λ (k : ℕ). Some k) same));
      }

  pub rule_none : first_rule rule None rows ≡ None → Keeps Breaks × ((t : AddressParts) → Contains rows t → rule t ≡ None)
  rule_none e = grind (arith, common_steps, first_is)

-- Notes by the addresses of their keys.
use Rattle.mesh_nbrs.proofs.Common.{◌≡◌, ℕ, ◌<◌, ◌+◌, ◌⊎◌, ◌||◌, inl, inr, max, Bool, true, false, cond, List, [], ◌∷◌, ◌++◌, length, take, get_or, Contains, Option, Some, None, refl, sym, subst, ap, ◌∙◌, IsSome, take_more, Contains-append_left, Contains-push, Contains-push_cases, Addr4, Neighbour, addr_eq, IsKept, IsLeastMetric, addr_equiv, same_addr, LinkNote, Summary, HasNote, HasNoNote, IsNotesSummary, IsNoteAt, IsSummaryOf, AreSummariesOf, part_of, HasSummaryAt}
use Rattle.mesh_nbrs.proofs.Summaries.{summary_same, summary_both}

-- a list up to the next item
pub one_more : {A : Type 0} (xs : List A) (i : ℕ) (x : A) → i < length xs → x ≡ get_or xs i x → take (i + 1) xs ≡ take i xs ++ x ∷ []
one_more {A} xs i x lt is = take_more xs i x lt ∙ ap (λ (y : A). take i xs ++ y ∷ []) (sym is)

-- one note more

module _ (notes : List LinkNote) (x : LinkNote) where
  more : List LinkNote
  more = notes ++ x ∷ []

  at_more : (a n : _) → IsNoteAt more a n → IsNoteAt notes a n ⊎ (n ≡ x)
  unfolding more
  at_more a n has = elim (Contains-push_cases notes x n has.0) [ inl before ↦ inl (before, has.1) | inr this ↦ inr (sym this) ]

  before_more : (a n : _) → IsNoteAt notes a n → IsNoteAt more a n
  unfolding more
  before_more a n has = (Contains-append_left notes (x ∷ []) n has.0, has.1)

  this_more : IsNoteAt more x.key.addr x
  unfolding more
  this_more = (Contains-push notes x, refl)

  here : (n : LinkNote) → n ≡ x → IsNoteAt more x.key.addr n
  here n is = subst (λ (m : LinkNote). IsNoteAt more x.key.addr m) (sym is) this_more

  -- the first note of its address
  pub part_first : (s : Summary) → IsSummaryOf notes x.key.addr None → IsNotesSummary (λ n. n ≡ x) s → IsSummaryOf (notes ++ x ∷ []) x.key.addr (Some s)
  unfolding more
  part_first s none h = (
    summary_same s here (λ n has. elim (at_more x.key.addr n has) [ inl before ↦ absurd (none n before) | inr this ↦ this ]) h,
    (x, this_more),
  )

  -- a further one
  pub part_further : (s t r : Summary) → IsSummaryOf notes x.key.addr (Some s) → IsNotesSummary (λ n. n ≡ x) t → r.symmetric ≡ (s.symmetric || t.symmetric) → IsLeastMetric (λ m. (s.metric_in ≡ Some m) ⊎ (t.metric_in ≡ Some m)) r.metric_in
      → IsLeastMetric (λ m. (s.metric_out ≡ Some m) ⊎ (t.metric_out ≡ Some m)) r.metric_out → r.until ≡ max s.until t.until → IsSummaryOf (notes ++ x ∷ []) x.key.addr (Some r)
  unfolding more
  part_further s t r part h symmetric metric_in metric_out until = (
    summary_same r (λ n both. elim both [ inl before ↦ before_more x.key.addr n before | inr this ↦ here n this ]) (at_more x.key.addr)
        (summary_both (IsNoteAt notes x.key.addr) (λ n. n ≡ x) s t r part.0 h symmetric metric_in metric_out until),
    (x, this_more),
  )

  -- a note of another address
  part_past : (a : Addr4) → (x.key.addr ≡ a → ⊥) → (o : Option Summary) → IsSummaryOf notes a o → IsSummaryOf (notes ++ x ∷ []) a o
  unfolding more
  part_past a other None none = λ n has. elim (at_more a n has) [ inl before ↦ none n before | inr this ↦ other (subst (λ (m : LinkNote). m.key.addr ≡ a) this has.1) ]
  part_past a other (Some s) part = (
    summary_same s (before_more a) (λ n has. elim (at_more a n has) [ inl before ↦ before | inr this ↦ absurd (other (subst (λ (m : LinkNote). m.key.addr ≡ a) this has.1)) ]) part.0,
    (part.1.0, before_more a part.1.0 part.1.1),
  )

  pub parts_more : (old new : List (Addr4 × Summary)) (s : Summary) → AreSummariesOf notes old → ((q : Addr4) → part_of new q ≡ cond (addr_eq x.key.addr q) (Some s) (part_of old q))
      → IsSummaryOf (notes ++ x ∷ []) x.key.addr (Some s) → AreSummariesOf (notes ++ x ∷ []) new
  parts_more old new s are sets part a = by_key (addr_eq x.key.addr a) refl where
    by_key : (b : Bool) → addr_eq x.key.addr a ≡ b → IsSummaryOf (notes ++ x ∷ []) a (part_of new a)
    by_key true is =
        let there : part_of new a ≡ Some s = sets a ∙ rw is refl in
        rw there (subst (λ (k : Addr4). IsSummaryOf (notes ++ x ∷ []) k (Some s)) (same_addr x.key.addr a is) part)
    by_key false is =
        let there : part_of new a ≡ part_of old a = sets a ∙ rw is refl in
        rw there (part_past a (λ same. let yes : addr_eq x.key.addr a ≡ true = subst (λ (k : Addr4). addr_eq x.key.addr k ≡ true) same (addr_equiv.refl x.key.addr) in let clash : true ≡ false = sym yes ∙ is in cc) (part_of old a) (are a))

-- one address more

module _ (notes : List LinkNote) (addrs : List Addr4) (a : Addr4) where
  of_more : (n : LinkNote) → HasNote notes (addrs ++ a ∷ []) n → HasNote notes addrs n ⊎ IsNoteAt notes a n
  of_more n has = elim (Contains-push_cases addrs a n.key.addr has.1) [ inl before ↦ inl (has.0, before) | inr this ↦ inr (has.0, sym this) ]

  of_before : (n : LinkNote) → HasNote notes addrs n → HasNote notes (addrs ++ a ∷ []) n
  of_before n has = (has.0, Contains-append_left addrs (a ∷ []) n.key.addr has.1)

  of_this : (n : LinkNote) → IsNoteAt notes a n → HasNote notes (addrs ++ a ∷ []) n
  of_this n has = (has.0, subst (λ (k : Addr4). Contains (addrs ++ a ∷ []) k) (sym has.1) (Contains-push addrs a))

  pub summary_past : (s : Summary) → IsSummaryOf notes a None → IsNotesSummary (HasNote notes addrs) s → IsNotesSummary (HasNote notes (addrs ++ a ∷ [])) s
  summary_past s none h = summary_same s of_before (λ n has. elim (of_more n has) [ inl before ↦ before | inr this ↦ absurd (none n this) ]) h

  pub summary_more : (s t r : Summary) → IsSummaryOf notes a (Some t) → IsNotesSummary (HasNote notes addrs) s → r.symmetric ≡ (s.symmetric || t.symmetric) → IsLeastMetric (λ m. (s.metric_in ≡ Some m) ⊎ (t.metric_in ≡ Some m)) r.metric_in
      → IsLeastMetric (λ m. (s.metric_out ≡ Some m) ⊎ (t.metric_out ≡ Some m)) r.metric_out → r.until ≡ max s.until t.until → IsNotesSummary (HasNote notes (addrs ++ a ∷ [])) r
  summary_more s t r part h symmetric metric_in metric_out until =
      summary_same r (λ n both. elim both [ inl before ↦ of_before n before | inr this ↦ of_this n this ]) of_more
      (summary_both (HasNote notes addrs) (IsNoteAt notes a) s t r h part.0 symmetric metric_in metric_out until)

-- up to the next address
pub summary_next : (notes : List LinkNote) (addrs : List Addr4) (i : ℕ) (d : Addr4) (s : Summary) → i < length addrs → IsNotesSummary (HasNote notes (take i addrs ++ get_or addrs i d ∷ [])) s → IsNotesSummary (HasNote notes (take (i + 1) addrs)) s
summary_next notes addrs i d s lt h = subst (λ (xs : List Addr4). IsNotesSummary (HasNote notes xs) s) (sym (take_more addrs i d lt)) h

-- what stands at an address, by another name
pub part_is : (notes : List LinkNote) (a : Addr4) (o p : Option Summary) → o ≡ p → IsSummaryOf notes a p → IsSummaryOf notes a o
part_is notes a o p same part = subst (λ (q : Option Summary). IsSummaryOf notes a q) (sym same) part

-- a neighbour has a note where something stands at one of its addresses

module _ (notes : List LinkNote) (parts : List (Addr4 × Summary)) (are : AreSummariesOf notes parts) (addrs : List Addr4) where
  has_note : HasSummaryAt parts addrs → (n : LinkNote) × HasNote notes addrs n
  has_note has = by_part (part_of parts has.0) (are has.0) has.2 where
    by_part : (o : Option Summary) → IsSummaryOf notes has.0 o → IsSome o → (n : LinkNote) × HasNote notes addrs n
    by_part None part there = absurd cc
    by_part (Some s) part there = let n = part.1 in (n.0, (n.1.0, subst (λ (k : Addr4). Contains addrs k) (sym n.1.1) has.1))

  note_has : (n : LinkNote) → HasNote notes addrs n → HasSummaryAt parts addrs
  note_has n has = (n.key.addr, has.1, by_part (part_of parts n.key.addr) (are n.key.addr)) where
    by_part : (o : Option Summary) → IsSummaryOf notes n.key.addr o → IsSome o
    by_part None none = absurd (none n (has.0, refl))
    by_part (Some s) part = refl

  noted_so : ((HasSummaryAt parts addrs → ⊥) → ⊥) → HasNoNote notes addrs → ⊥
  noted_so some none = some (λ has. let n = has_note has in none n.0 n.1)

  so_noted : (HasNoNote notes addrs → ⊥) → (HasSummaryAt parts addrs → ⊥) → ⊥
  so_noted some none = some (λ n has. none (note_has n has))

-- the neighbours that something stands at are those that have a note
pub kept_noted : (notes : List LinkNote) (parts : List (Addr4 × Summary)) → AreSummariesOf notes parts → (old new : Option (Neighbour × ℕ))
    → IsKept (λ (e : Neighbour × ℕ). (HasSummaryAt parts e.0.addrs → ⊥) → ⊥) old new → IsKept (λ (e : Neighbour × ℕ). HasNoNote notes e.0.addrs → ⊥) old new
kept_noted notes parts are None new kept = kept
kept_noted notes parts are (Some e) new (inl stays) = inl (noted_so notes parts are e.0.addrs stays.0, stays.1)
kept_noted notes parts are (Some e) new (inr ends) = inr ((λ some. ends.0 (so_noted notes parts are e.0.addrs some)), ends.1)

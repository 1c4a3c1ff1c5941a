-- What notes tell together.
use Rattle.mesh_nbrs.proofs.Common.{common_steps, ◌≡◌, ℕ, ◌⊎◌, inl, inr, max, Bool, true, false, List, get_or, Option, Some, None, refl, sym, subst, ◌∙◌, arith, IsTrue, ◌||◌, cases_lt, or_cases, or_left, or_right, Addr4, Metric, Neighbour, addr_eq, IsKept, IsLeastMetric, addr_equiv, same_addr, list_any, list_any_at, LinkNote, Summary, HasNote, HasNoNote, IsNotesSummary, IsByNotes, RestoresBy, HasSummary, by_summary}
use Rattle.mesh_nbrs.proofs.Listed.{contains_of, listed_of, found_of}
use Rattle.mesh_atoms.specs.Codes.Codes.{metric_value}

-- ---- the least metric

-- of the same metrics
pub least_same : {P Q : Metric → Type 0} (o : Option Metric) → ((m : Metric) → P m → Q m) → ((m : Metric) → Q m → P m) → IsLeastMetric P o → IsLeastMetric Q o
least_same o to from h = grind (arith, common_steps)

-- of some metrics and more, from the least of the some
pub least_joined : (P N : Metric → Type 0) (o best : Option Metric) → IsLeastMetric P o → IsLeastMetric (λ m. (o ≡ Some m) ⊎ N m) best → IsLeastMetric (λ m. P m ⊎ N m) best
least_joined P N None None h k = λ m either. elim either [ inl p ↦ h m p | inr n ↦ k m (inr n) ]
least_joined P N (Some x) None h k = absurd (k x (inl refl))
least_joined P N None (Some b) h k = grind (arith, common_steps)
least_joined P N (Some x) (Some b) h k = grind (arith, common_steps, metric_value)

-- ---- all that notes tell

-- the same notes
pub summary_same : {P Q : LinkNote → Type 0} (s : Summary) → ((n : LinkNote) → P n → Q n) → ((n : LinkNote) → Q n → P n) → IsNotesSummary P s → IsNotesSummary Q s
summary_same s to from h = record {
  latest = elim h.latest [ inl z ↦ inl z | inr p ↦ inr (p.0, to p.0 p.1, p.2) ];
  no_later = λ n q. h.no_later n (from n q);
  symmetric = ((λ t. let p = h.symmetric.0 t in (p.0, (to p.0 p.1.0, p.1.1))), (λ q. h.symmetric.1 (q.0, (from q.0 q.1.0, q.1.1))));
  metric_in = least_same s.metric_in (λ m p. (p.0, (to p.0 p.1.0, p.1.1), p.2)) (λ m q. (q.0, (from q.0 q.1.0, q.1.1), q.2)) h.metric_in;
  metric_out = least_same s.metric_out (λ m p. (p.0, (to p.0 p.1.0, p.1.1), p.2)) (λ m q. (q.0, (from q.0 q.1.0, q.1.1), q.2)) h.metric_out;
}

greater : (a b : ℕ) → (max a b ≡ a) ⊎ (max a b ≡ b)
greater a b = elim (cases_lt a b) [ inl less ↦ inr (omega arith) | inr more ↦ inl (omega arith) ]

-- of some metrics and others, from the least of each
pub least_both : (P Q : Metric → Type 0) (o u best : Option Metric) → IsLeastMetric P o → IsLeastMetric Q u → IsLeastMetric (λ m. (o ≡ Some m) ⊎ (u ≡ Some m)) best → IsLeastMetric (λ m. P m ⊎ Q m) best
least_both P Q o u best h k j =
    let first : IsLeastMetric (λ m. P m ⊎ (u ≡ Some m)) best = least_joined P (λ m. u ≡ Some m) o best h j in
    let turned : IsLeastMetric (λ m. (u ≡ Some m) ⊎ P m) best = least_same best (λ m e. turn e) (λ m e. turn e) first in
    least_same best (λ m e. turn e) (λ m e. turn e) (least_joined Q P u best k turned)
  where
    turn : {A B : Type 0} → A ⊎ B → B ⊎ A
    turn (inl a) = inr a
    turn (inr b) = inl b

-- two summaries together
module _ (P Q : LinkNote → Type 0) where
  abbrev Both : LinkNote → Type 0
  Both n = P n ⊎ Q n

  shown_both : (shows : LinkNote → Metric → Type 0) (o u best : Option Metric) → IsLeastMetric (λ m. (note : LinkNote) × (P note × IsTrue note.symmetric) × shows note m) o
      → IsLeastMetric (λ m. (note : LinkNote) × (Q note × IsTrue note.symmetric) × shows note m) u → IsLeastMetric (λ m. (o ≡ Some m) ⊎ (u ≡ Some m)) best
      → IsLeastMetric (λ m. (note : LinkNote) × (Both note × IsTrue note.symmetric) × shows note m) best
  shown_both shows o u best h k j =
      least_same best to from (least_both (λ m. (note : LinkNote) × (P note × IsTrue note.symmetric) × shows note m) (λ m. (note : LinkNote) × (Q note × IsTrue note.symmetric) × shows note m) o u best h k j)
    where
      to : (m : Metric) → ((note : LinkNote) × (P note × IsTrue note.symmetric) × shows note m) ⊎ ((note : LinkNote) × (Q note × IsTrue note.symmetric) × shows note m) → (note : LinkNote) × (Both note × IsTrue note.symmetric) × shows note m
      to m (inl p) = (p.0, (inl p.1.0, p.1.1), p.2)
      to m (inr q) = (q.0, (inr q.1.0, q.1.1), q.2)

      from : (m : Metric) → (note : LinkNote) × (Both note × IsTrue note.symmetric) × shows note m → ((note : LinkNote) × (P note × IsTrue note.symmetric) × shows note m) ⊎ ((note : LinkNote) × (Q note × IsTrue note.symmetric) × shows note m)
      from m b = elim b.1.0 [ inl p ↦ inl (b.0, (p, b.1.1), b.2) | inr q ↦ inr (b.0, (q, b.1.1), b.2) ]

  pub summary_both : (s t r : Summary) → IsNotesSummary P s → IsNotesSummary Q t → r.symmetric ≡ (s.symmetric || t.symmetric) → IsLeastMetric (λ m. (s.metric_in ≡ Some m) ⊎ (t.metric_in ≡ Some m)) r.metric_in
      → IsLeastMetric (λ m. (s.metric_out ≡ Some m) ⊎ (t.metric_out ≡ Some m)) r.metric_out → r.until ≡ max s.until t.until → IsNotesSummary Both r
  summary_both s t r h k symmetric metric_in metric_out until = record {
    latest = elim (greater s.until t.until) [
      | inl first ↦ elim h.latest [ inl z ↦ inl (until ∙ first ∙ z) | inr p ↦ inr (p.0, inl p.1, p.2 ∙ sym (until ∙ first)) ]
      | inr second ↦ elim k.latest [ inl z ↦ inl (until ∙ second ∙ z) | inr q ↦ inr (q.0, inr q.1, q.2 ∙ sym (until ∙ second)) ]
    ];
    no_later = λ n both. elim both [ inl p ↦ omega (arith, h.no_later n p, until) | inr q ↦ omega (arith, k.no_later n q, until) ];
    symmetric = (
      (λ yes. elim (or_cases s.symmetric t.symmetric (sym symmetric ∙ yes)) [
        | inl a ↦ let p = h.symmetric.0 a in (p.0, (inl p.1.0, p.1.1))
        | inr b ↦ let q = k.symmetric.0 b in (q.0, (inr q.1.0, q.1.1))
      ]),
      (λ b. symmetric ∙ elim b.1.0 [
        | inl p ↦ or_left s.symmetric t.symmetric (h.symmetric.1 (b.0, (p, b.1.1)))
        | inr q ↦ or_right s.symmetric t.symmetric (k.symmetric.1 (b.0, (q, b.1.1)))
      ]),
    );
    metric_in = shown_both (λ n m. n.link_in ≡ m) s.metric_in t.metric_in r.metric_in h.metric_in k.metric_in metric_in;
    metric_out = shown_both (λ n m. n.link_out ≡ Some m) s.metric_out t.metric_out r.metric_out h.metric_out k.metric_out metric_out;
  }

-- ---- one note alone

module _ (x : LinkNote) where
  abbrev This : LinkNote → Type 0
  This n = n ≡ x

  is_symmetric_note : (n : LinkNote) → This n → IsTrue n.symmetric → IsTrue x.symmetric
  is_symmetric_note n is so = subst (λ (m : LinkNote). IsTrue m.symmetric) is so

  pub of_symmetric : x.symmetric ≡ true → IsNotesSummary (λ n. n ≡ x) (record { symmetric = true; metric_in = Some x.link_in; metric_out = x.link_out; until = x.until })
  of_symmetric so = record {
    latest = inr (x, refl, refl);
    no_later = λ n is. rw is (omega arith);
    symmetric = ((λ h. (x, (refl, so))), (λ q. refl));
    metric_in = ((x, (refl, so), refl), λ m q. let same : x.link_in ≡ m = subst (λ (n : LinkNote). n.link_in ≡ m) q.1.0 q.2 in rw (← same) (omega arith));
    metric_out = by_out x.link_out refl;
  } where
    by_out : (o : Option Metric) → x.link_out ≡ o → IsLeastMetric (λ m. (n : LinkNote) × (This n × IsTrue n.symmetric) × (n.link_out ≡ Some m)) o
    by_out None none = λ m q. let there : x.link_out ≡ Some m = subst (λ (n : LinkNote). n.link_out ≡ Some m) q.1.0 q.2 in let clash : None ≡ Some m = sym none ∙ there in absurd cc
    by_out (Some o) some = (
      (x, (refl, so), some),
      λ m q.
          let there : x.link_out ≡ Some m = subst (λ (n : LinkNote). n.link_out ≡ Some m) q.1.0 q.2 in
          let both : Some o ≡ Some m = sym some ∙ there in
          let same : o ≡ m = cc in
          rw same (omega arith),
    )

  pub of_other : x.symmetric ≡ false → IsNotesSummary (λ n. n ≡ x) (record { symmetric = false; metric_in = None; metric_out = None; until = x.until })
  of_other not_so = record {
    latest = inr (x, refl, refl);
    no_later = λ n is. rw is (omega arith);
    symmetric = ((λ h. absurd cc), (λ q. absurd (never q.0 q.1.0 q.1.1)));
    metric_in = λ m q. never q.0 q.1.0 q.1.1;
    metric_out = λ m q. never q.0 q.1.0 q.1.1;
  } where
    never : (n : LinkNote) → This n → IsTrue n.symmetric → ⊥
    never n is so = let clash : false ≡ true = sym not_so ∙ is_symmetric_note n is so in absurd cc

-- ---- neighbours

-- there is a note of a neighbour, or there is none
noted : (notes : List LinkNote) (addrs : List Addr4) → ((note : LinkNote) × HasNote notes addrs note) ⊎ HasNoNote notes addrs
noted notes addrs = by_test (list_any theirs notes) refl where
  theirs : LinkNote → Bool
  theirs n = list_any (λ a. addr_eq a n.key.addr) addrs

  by_test : (b : Bool) → list_any theirs notes ≡ b → ((note : LinkNote) × HasNote notes addrs note) ⊎ HasNoNote notes addrs
  by_test true is = let found = found_of theirs notes is in inl (found.0, (found.1, contains_of same_addr addrs found.0.key.addr found.2))
  by_test false is = inr (λ note has.
      let passes : theirs (get_or notes has.0.0 note) ≡ true = rw (has.0.2) (listed_of addr_equiv addrs note.key.addr has.1) in
      absurd (let clash : true ≡ false = sym (list_any_at theirs notes has.0.0 note has.0.1 passes) ∙ is in cc))

-- what notes tell of a neighbour that has one
by_notes : (notes : List LinkNote) (n : Neighbour) (s : Summary) (note : LinkNote) → HasNote notes n.addrs note → IsNotesSummary (HasNote notes n.addrs) s → IsByNotes notes (by_summary s n) s.until
by_notes notes n s note has h = record {
  latest = elim h.latest [ inl zero ↦ (note, has, omega (arith, h.no_later note has, zero)) | inr last ↦ last ];
  no_later = h.no_later;
  symmetric = h.symmetric;
  metric_in = h.metric_in;
  metric_out = h.metric_out;
}

-- neighbours without a note end, and then all others get what their notes tell
pub restored : (notes : List LinkNote) (old mid new : Option (Neighbour × ℕ)) → IsKept (λ (e : Neighbour × ℕ). HasNoNote notes e.0.addrs → ⊥) old mid → HasSummary notes mid new → RestoresBy notes old new
restored notes None mid new kept has = rw kept at has
restored notes (Some e) mid new (inl stays) has =
    let told : HasSummary notes (Some e) new = rw (stays.1) at has in
    rw (told.2) (elim (noted notes e.0.addrs) [
      | inl note ↦ record { addrs = refl; willing = refl; selector = refl; by_notes = by_notes notes e.0 told.0 note.0 note.1 told.1 }
      | inr none ↦ absurd (stays.0 none)
    ])
restored notes (Some e) mid new (inr ended) has =
    let gone : HasSummary notes None new = rw (ended.1) at has in
    rw gone (λ note theirs. ended.0 (λ none. none note theirs))

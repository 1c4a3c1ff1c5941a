-- What is kept of values, and that one value more is kept too.
use Rattle.mesh_wire.proofs.Common.{arith, common_steps, ◌≡◌, ℕ, ◌⊎◌, inl, inr, refl, sym, ◌∙◌, ap, subst, Bool, true, false, cond, List, length, [], ◌∷◌, ◌==◌, ◌||◌, ◌↔◌, ◌≢◌, nat_eq, IsTrue, Option, Some, None, is_none, cases_Bool, eq-eqb, ne_eqb, eqb-true, eqb-false, or_cases, or_left, or_right, Metric, same_metric, none_not, some_equal, Single, Absent, Value, Conflict, OctetKind, Octets, MetricParts, RowParts, LINK_METRIC, octet_in, is_flag_set, octets_also, octets_if, has_same_code, shown_in, has_other_length, metric_at, metrics_also, no_parts, take_part, MetricKind, flag_of, type_of, at, also, also_some}
use Rattle.mesh_wire.proofs.OctetKinds.{at_by_kind}

-- ---- several values

-- what is kept of the values that are said
abbrev pub OneIs : {X : Type 0} → (X → Type 0) → Single X → Type 0
OneIs {X} T Absent = (x : X) → T x → ⊥
OneIs {X} T (Value x) = T x × ((y : X) → T y → y ≡ x)
OneIs {X} T Conflict = (a : X) × (b : X) × T a × T b × (a ≢ b)

pub one_same : {X : Type 0} (T U : X → Type 0) (one : Single X) → ((x : X) → U x → T x) → ((x : X) → T x → U x) → OneIs T one → OneIs U one
one_same T U one back keep h = grind (arith, common_steps)

-- a test that tells values from each other
abbrev Tells : {X : Type 0} → (X → X → Bool) → Type 0
Tells {X} same = (a b : X) → (same a b ≡ true → a ≡ b) × (same a b ≡ false → a ≢ b)

numbers : Tells nat_eq
numbers a b = (eqb-true a b, eqb-false a b)

codes : Tells has_same_code
codes a b = (λ e. same_metric a b (eqb-true a.code b.code e), λ e same. eqb-false a.code b.code e (ap (λ (m : Metric). m.code) same))

one_more : {X : Type 0} (same : X → X → Bool) → Tells same → (T U : X → Type 0) (one : Single X) (new : X) → ((x : X) → U x → T x ⊎ (x ≡ new)) → ((x : X) → T x → U x) → U new → OneIs T one → OneIs U (also same one new)
one_more same tells T U one new split keep said h = grind (arith, common_steps, cases_Bool)

-- ---- values that are said

-- a value that reads so is said
abbrev pub Reads : {X : Type 0} → (List ℕ → Option X) → (List ℕ → Type 0) → X → Type 0
Reads read S x = (octets : List ℕ) × S octets × (read octets ≡ Some x)

-- a value that is so is said
abbrev pub SomeIs : (List ℕ → Type 0) → (List ℕ → Type 0) → Type 0
SomeIs S P = (octets : List ℕ) × S octets × P octets

-- the same values are said
pub record AreSame (S U : List ℕ → Type 0) : Type 0 where
  pub back : (x : List ℕ) → U x → S x
  pub keep : (x : List ℕ) → S x → U x

-- one value more is said
pub record IsMore (S U : List ℕ → Type 0) (new : List ℕ) : Type 0 where
  pub split : (x : List ℕ) → U x → S x ⊎ (x ≡ new)
  pub keep : (x : List ℕ) → S x → U x
  pub said : U new

module _ (S U : List ℕ → Type 0) (are : AreSame S U) where
  reads_same : {X : Type 0} (read : List ℕ → Option X) (one : Single X) → OneIs (Reads read S) one → OneIs (Reads read U) one
  reads_same read one h = one_same (Reads read S) (Reads read U) one (λ x (o, u, e). (o, are.back o u, e)) (λ x (o, s, e). (o, are.keep o s, e)) h

  test_same : (P : List ℕ → Type 0) (b : Bool) → (IsTrue b ↔ SomeIs S P) → IsTrue b ↔ SomeIs U P
  test_same P b h = (λ e. let w = h.0 e in (w.0, are.keep w.0 w.1, w.2), λ w. h.1 (w.0, are.back w.0 w.1, w.2))

module _ (S U : List ℕ → Type 0) (new : List ℕ) (more : IsMore S U new) where
  reads_more : {X : Type 0} (same : X → X → Bool) → Tells same → (read : List ℕ → Option X) (one : Single X) (o : Option X) → read new ≡ o → OneIs (Reads read S) one → OneIs (Reads read U) (also_some same one o)
  reads_more same tells read one None e h = grind (arith, common_steps, one_same, none_not)
  reads_more same tells read one (Some y) e h = one_more same tells (Reads read S) (Reads read U) one y
      (λ x (o, u, is). elim (more.split o u) [ inl s ↦ inl (o, s, is) | inr f ↦ inr (some_equal x y (sym is ∙ ap read f ∙ e)) ])
      (λ x (o, s, is). (o, more.keep o s, is)) (new, more.said, e) h

  test_more : (P : List ℕ → Type 0) (b c : Bool) → (c ≡ true → P new) → (P new → c ≡ true) → (IsTrue b ↔ SomeIs S P) → IsTrue (b || c) ↔ SomeIs U P
  test_more P b c there back h = grind (arith, common_steps, or_cases, or_left, or_right)

-- ---- values of one octet

-- the value sets the flag
abbrev pub IsFlag : ℕ → List ℕ → Type 0
IsFlag flag x = (x ≡ flag ∷ []) ⊎ (x ≡ 3 ∷ [])

flag_said : (flag : ℕ) (x : List ℕ) → is_flag_set flag x ≡ true → IsFlag flag x
flag_said flag x e = grind (arith, common_steps, or_cases)

said_flag : (flag : ℕ) (x : List ℕ) → IsFlag flag x → is_flag_set flag x ≡ true
said_flag flag x h2 = grind (arith, common_steps, or_left, or_right)

-- what is kept of the values of a type
pub record OctetsAre (kind : OctetKind) (S : List ℕ → Type 0) (o : Octets) : Type 0 where
  pub wrong : IsTrue o.wrong ↔ SomeIs S (λ x. octet_in kind x ≡ None)
  pub one : OneIs (Reads (octet_in kind) S) o.one
  pub first : IsTrue o.first ↔ SomeIs S (IsFlag 1)
  pub second : IsTrue o.second ↔ SomeIs S (IsFlag 2)

octets_same : (kind : OctetKind) (S U : List ℕ → Type 0) → AreSame S U → (o : Octets) → OctetsAre kind S o → OctetsAre kind U o
octets_same kind S U are o h = grind (arith, common_steps, test_same, reads_same)

none_said : {X : Type 0} (o : Option X) → is_none o ≡ true → o ≡ None
none_said o e = grind (arith, common_steps)

octets_more : (kind : OctetKind) (S U : List ℕ → Type 0) (new : List ℕ) → IsMore S U new → (o : Octets) → OctetsAre kind S o → OctetsAre kind U (octets_also kind new o)
octets_more kind S U new more o h = record {
  wrong = test_more S U new more (λ x. octet_in kind x ≡ None) o.wrong (is_none (octet_in kind new)) (none_said (octet_in kind new)) (ap is_none) h.wrong;
  one = reads_more S U new more nat_eq numbers (octet_in kind) o.one (octet_in kind new) refl h.one;
  first = test_more S U new more (IsFlag 1) o.first (is_flag_set 1 new) (flag_said 1 new) (said_flag 1 new) h.first;
  second = test_more S U new more (IsFlag 2) o.second (is_flag_set 2 new) (flag_said 2 new) (said_flag 2 new) h.second;
}

-- ---- metrics

-- what is kept of metrics
pub record MetricsAre (S : List ℕ → Type 0) (m : MetricParts) : Type 0 where
  pub wrong : IsTrue m.wrong ↔ SomeIs S (λ x. length x ≢ 2)
  pub each : (kind : MetricKind) → OneIs (Reads (shown_in (flag_of kind)) S) (metric_at kind m)

metrics_same : (S U : List ℕ → Type 0) → AreSame S U → (m : MetricParts) → MetricsAre S m → MetricsAre U m
metrics_same S U are m h = record {
  wrong = test_same S U are (λ x. length x ≢ 2) m.wrong h.wrong;
  each = λ kind. reads_same S U are (shown_in (flag_of kind)) (metric_at kind m) (h.each kind);
}

other_said : (x : List ℕ) → has_other_length 2 x ≡ true → length x ≢ 2
other_said x e f = let t = eq-eqb (length x) 2 f in cc

said_other : (x : List ℕ) → length x ≢ 2 → has_other_length 2 x ≡ true
said_other x d = rw (ne_eqb (length x) 2 d) refl

more_at : (kind : MetricKind) (new : List ℕ) (m : MetricParts) → metric_at kind (metrics_also new m) ≡ also_some has_same_code (metric_at kind m) (shown_in (flag_of kind) new)
more_at kind new m = grind (arith, common_steps)

metrics_more : (S U : List ℕ → Type 0) (new : List ℕ) → IsMore S U new → (m : MetricParts) → MetricsAre S m → MetricsAre U (metrics_also new m)
metrics_more S U new more m h = record {
  wrong = test_more S U new more (λ x. length x ≢ 2) m.wrong (has_other_length 2 new) (other_said new) (said_other new) h.wrong;
  each = λ kind. subst (OneIs (Reads (shown_in (flag_of kind)) U)) (sym (more_at kind new m))
      (reads_more S U new more has_same_code codes (shown_in (flag_of kind)) (metric_at kind m) (shown_in (flag_of kind) new) refl (h.each kind));
}

-- ---- by types

-- of values by their types, all that were said before, and one more of that type
pub record IsMoreOf (S U : ℕ → List ℕ → Type 0) (type : ℕ) (new : List ℕ) : Type 0 where
  pub split : (k : ℕ) (x : List ℕ) → U k x → S k x ⊎ ((k ≡ type) × (x ≡ new))
  pub keep : (k : ℕ) (x : List ℕ) → S k x → U k x
  pub said : U type new

-- what is kept of one type
kept_at : {A : Type 0} (Is : (List ℕ → Type 0) → A → Type 0) (change : A → A) (S U : ℕ → List ℕ → Type 0) (type : ℕ) (new : List ℕ) → IsMoreOf S U type new → (K : ℕ) →
    (AreSame (S K) (U K) → (a : A) → Is (S K) a → Is (U K) a) → (IsMore (S K) (U K) new → (a : A) → Is (S K) a → Is (U K) (change a)) → (a : A) → Is (S K) a → Is (U K) (cond (type == K) (change a) a)
kept_at Is change S U type new more K same further a h = grind (arith, common_steps, cases_Bool)

-- ---- all that is kept of one address

pub record RowIs (S : ℕ → List ℕ → Type 0) (r : RowParts) : Type 0 where
  pub octets : (kind : OctetKind) → OctetsAre kind (S (type_of kind)) (at kind r.octets)
  pub metrics : MetricsAre (S LINK_METRIC) r.metrics

pub row_more : (S U : ℕ → List ℕ → Type 0) (type : ℕ) (new : List ℕ) (r : RowParts) → IsMoreOf S U type new → RowIs S r → RowIs U (take_part type new r)
row_more S U type new r more h = record {
  octets = λ kind. subst (OctetsAre kind (U (type_of kind))) (sym (at_by_kind (λ k. octets_if type new k (at k r.octets)) kind))
      (kept_at (OctetsAre kind) (octets_also kind new) S U type new more (type_of kind) (octets_same kind (S (type_of kind)) (U (type_of kind))) (octets_more kind (S (type_of kind)) (U (type_of kind)) new) (at kind r.octets) (h.octets kind));
  metrics = kept_at MetricsAre (metrics_also new) S U type new more LINK_METRIC (metrics_same (S LINK_METRIC) (U LINK_METRIC)) (metrics_more (S LINK_METRIC) (U LINK_METRIC) new) r.metrics h.metrics;
}

-- the same values
pub row_same : (S U : ℕ → List ℕ → Type 0) → ((k : ℕ) (x : List ℕ) → U k x → S k x) → ((k : ℕ) (x : List ℕ) → S k x → U k x) → (r : RowParts) → RowIs S r → RowIs U r
row_same S U back keep r h = record {
  octets = λ kind. octets_same kind (S (type_of kind)) (U (type_of kind)) (record { back = back (type_of kind); keep = keep (type_of kind) }) (at kind r.octets) (h.octets kind);
  metrics = metrics_same (S LINK_METRIC) (U LINK_METRIC) (record { back = back LINK_METRIC; keep = keep LINK_METRIC }) r.metrics h.metrics;
}

-- nothing is said
pub row_none : (S : ℕ → List ℕ → Type 0) → ((k : ℕ) (x : List ℕ) → S k x → ⊥) → RowIs S no_parts
row_none S never = grind (arith, common_steps, type_of, at_by_kind, shown_in)

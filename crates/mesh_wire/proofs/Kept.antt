-- What is kept of the addresses of a message.
use Rattle.mesh_wire.proofs.Common.{arith, common_steps, ◌≡◌, ℕ, ◌⊎◌, inl, inr, refl, sym, ◌∙◌, ap, subst, Bool, true, false, cond, List, [], ◌∷◌, Contains, Option, Some, None, ◌≢◌, NetAddr, Metric, has, none_not, some_equal, MessageFields, AddressParts, Single, Absent, Value, Conflict, OctetKind, Octets, MetricParts, RowParts, AreCollected, of_blocks, collected, octet_in, shown_in, metric_at, LINK_METRIC, MetricKind, flag_of, metric_in, ShowsMetric, is_value, IsOctetOf, HoldsAddress, HasValue, AreRows, is_conflict, is_said, value_from}
use Rattle.mesh_wire.proofs.Collected.{AnyOf, At, StandsOf, SaysOf, collected_is}
use Rattle.mesh_wire.proofs.Entries.{says_of, of_says, has_of, of_has}
use Rattle.mesh_wire.proofs.Slots.{OneIs, one_same, Reads, OctetsAre, MetricsAre, RowIs, row_same}

-- ---- what is kept

-- of each address of the message what it says
abbrev pub AreTold : MessageFields → List AddressParts → Type 0
AreTold m rows = AreRows m (λ (t : AddressParts). t.net) (λ (t : AddressParts). RowIs (HasValue m t.net) t.parts) rows

some_at : (H : Type 0) (S : ℕ → List ℕ → Type 0) (row : Option RowParts) (parts : RowParts) → row ≡ Some parts → At H S row → H × RowIs S parts
some_at H S row parts e h = rw e at h

there_at : (H : Type 0) (S : ℕ → List ℕ → Type 0) (row : Option RowParts) → H → At H S row → (parts : RowParts) × (row ≡ Some parts)
there_at H S None y h = absurd (h.0 y)
there_at H S (Some parts) y h = (parts, refl)

pub are_told : (m : MessageFields) (rows : List AddressParts) → AreCollected (of_blocks m.blocks) rows → AreTold m rows
are_told m rows c = record {
  ascending = c.ascending;
  each = λ t has.
      let h = some_at _ _ (collected t.net (of_blocks m.blocks) None) t.parts (c.each t has) (collected_is t.net (of_blocks m.blocks)) in
      (has_of m t.net h.0, row_same (λ k x. AnyOf (SaysOf t.net k x) (of_blocks m.blocks)) (HasValue m t.net) (of_says m t.net) (says_of m t.net) t.parts h.1);
  all = λ net has.
      let (parts, e) = there_at (AnyOf (StandsOf net) (of_blocks m.blocks)) (λ k x. AnyOf (SaysOf net k x) (of_blocks m.blocks)) (collected net (of_blocks m.blocks) None) (of_has m net has) (collected_is net (of_blocks m.blocks)) in
      c.all net parts e;
}

-- what is said of an address is kept of it
pub told_of : (m : MessageFields) (rows : List AddressParts) → AreTold m rows → (net : NetAddr) → HoldsAddress m net → (t : AddressParts) × Contains rows t × (t.net ≡ net) × RowIs (HasValue m net) t.parts
told_of m rows are net has =
    let (t, there, is) = are.all net has in
    (t, there, is, subst (λ (n : NetAddr). RowIs (HasValue m n) t.parts) is (are.each t there).1)

pub says_has : (m : MessageFields) (net : NetAddr) (k : ℕ) (x : List ℕ) → HasValue m net k x → HoldsAddress m net
says_has m net k x (value, part, is) = (part.block, part.place, part.address)

-- ---- of several values

-- two values that differ are a conflict
pub differ_conflict : {X : Type 0} (T : X → Type 0) (one : Single X) (a b : X) → OneIs T one → T a → T b → a ≢ b → is_conflict one ≡ true
differ_conflict T one a b h x y d = grind (arith, common_steps)

pub conflict_differ : {X : Type 0} (T : X → Type 0) (one : Single X) → OneIs T one → is_conflict one ≡ true → (a : X) × (b : X) × T a × T b × (a ≢ b)
conflict_differ T Absent h e = absurd (cc)
conflict_differ T (Value n) h e = absurd (cc)
conflict_differ T Conflict h e = h

pub one_said : {X : Type 0} (T : X → Type 0) (one : Single X) (a : X) → OneIs T one → T a → is_said one ≡ true
one_said T one a h x = grind (arith, common_steps)

pub said_one : {X : Type 0} (T : X → Type 0) (one : Single X) → OneIs T one → is_said one ≡ true → (a : X) × T a
said_one T Absent h e = absurd (cc)
said_one T (Value n) h e = (n, h.0)
said_one T Conflict (a, b, x, y, d) e = (a, x)

-- ---- values of one octet

-- an octet is read of one value
pub octet_back : (kind : OctetKind) (x : List ℕ) (n : ℕ) → octet_in kind x ≡ Some n → (x ≡ n ∷ []) × (is_value kind n ≡ true)
octet_back kind x n e = grind (arith, common_steps, is_value, some_equal)

-- a value of the type is one whose octet is read
pub no_value : (kind : OctetKind) (x : List ℕ) → octet_in kind x ≡ None → IsOctetOf kind x → ⊥
no_value kind x e (n, f, v) = none_not (ap (octet_in kind) (sym f) ∙ e) (ap (λ (b : Bool). cond b (Some n) None) v)

pub none_read : (kind : OctetKind) (x : List ℕ) → (IsOctetOf kind x → ⊥) → octet_in kind x ≡ None
none_read kind x bad = grind (arith, common_steps, octet_back)

module _ (kind : OctetKind) (S : List ℕ → Type 0) (o : Octets) (h : OctetsAre kind S o) where
  -- a value is wrong, or its octet is read
  pub read_or : (x : List ℕ) → S x → (o.wrong ≡ true) ⊎ ((n : ℕ) × (octet_in kind x ≡ Some n))
  read_or x s = by (octet_in kind x) refl
    where
      by : (p : Option ℕ) → octet_in kind x ≡ p → (o.wrong ≡ true) ⊎ ((n : ℕ) × (octet_in kind x ≡ Some n))
      by None e = inl (h.wrong.1 (x, s, e))
      by (Some n) e = inr (n, e)

  -- one is wrong, or it is kept that there is one
  pub said_found : (x : List ℕ) → S x → (o.wrong ≡ true) ⊎ (is_said o.one ≡ true)
  said_found x s = elim (read_or x s) [ inl w ↦ inl w | inr (n, e) ↦ inr (one_said (Reads (octet_in kind) S) o.one n h.one (x, s, e)) ]

  pub type_said : is_said o.one ≡ true → (x : List ℕ) × S x
  type_said e = let (n, (x, s, is)) = said_one (Reads (octet_in kind) S) o.one h.one e in (x, s)

  -- one is wrong, or it is kept that there are two
  pub two_found : (x y : List ℕ) → S x → S y → x ≢ y → (o.wrong ≡ true) ⊎ (is_conflict o.one ≡ true)
  two_found x y s t d = elim (read_or x s) [
    | inl w ↦ inl w
    | inr (i, e) ↦ elim (read_or y t) [
      | inl w ↦ inl w
      | inr (j, f) ↦ inr (differ_conflict (Reads (octet_in kind) S) o.one i j h.one (x, s, e) (y, t, f) (λ same. d ((octet_back kind x i e).0 ∙ ap (λ (n : ℕ). n ∷ []) same ∙ sym (octet_back kind y j f).0)))
    ]
  ]

  pub two_said : is_conflict o.one ≡ true → (x : List ℕ) × (y : List ℕ) × S x × S y × (x ≢ y)
  two_said e =
      let (a, b, (x, s, is_a), (y, t, is_b), d) = conflict_differ (Reads (octet_in kind) S) o.one h.one e in
      (x, y, s, t, λ same. d (some_equal a b (sym is_a ∙ ap (octet_in kind) same ∙ is_b)))

  -- an octet that is kept is a value of the type
  pub kept_value : (n : ℕ) → value_from o.one ≡ Some n → is_value kind n ≡ true
  kept_value = grind (arith, common_steps, is_value, some_equal, octet_back)

-- ---- metrics

-- the metrics of a kind that are shown
pub metrics_told : (m : MessageFields) (net : NetAddr) (parts : MetricParts) → MetricsAre (HasValue m net LINK_METRIC) parts → (kind : MetricKind) → OneIs (ShowsMetric m net kind) (metric_at kind parts)
metrics_told m net parts h kind = one_same (Reads (shown_in (flag_of kind)) (HasValue m net LINK_METRIC)) (ShowsMetric m net kind) (metric_at kind parts)
    (λ metric (high, low, s, on, is). (high ∷ low ∷ [], s, ap (λ (b : Bool). cond b (Some (metric_in high low)) None) on ∙ ap Some (sym is)))
    (λ metric (x, s, e). shown x metric s e) (h.each kind)
  where
    by : (high low : ℕ) (metric : Metric) → HasValue m net LINK_METRIC (high ∷ low ∷ []) → (b : Bool) → has high (flag_of kind) ≡ b → cond b (Some (metric_in high low)) None ≡ Some metric → ShowsMetric m net kind metric
    by high low metric s true on e = (high, low, s, on, sym (some_equal (metric_in high low) metric e))
    by high low metric s false on e = cc

    shown : (x : List ℕ) (metric : Metric) → HasValue m net LINK_METRIC x → shown_in (flag_of kind) x ≡ Some metric → ShowsMetric m net kind metric
    shown (high ∷ low ∷ []) metric s e = by high low metric s (has high (flag_of kind)) refl e
    shown x metric s e = cc

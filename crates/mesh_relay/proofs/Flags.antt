-- Flags of the neighbours with given ids.
use Rattle.mesh_relay.proofs.Common.{◌≡◌, ℕ, ◌+◌, ◌≤◌, ◌<◌, ◌≢◌, ◌⊎◌, Bool, true, false, nat_eq, nat_lt, List, length, get_or, set, sym, ◌∙◌, ap, subst, inl, inr, arith, ◌↔◌, AllPairs, Contains, IsTrue, replicate, common_steps, IsNonDecreasingBy, IsPartitionPoint, false≢true, cases_Bool, cases_lt, ltb-true, eqb-true, eq-eqb, get_or-set_same, get_or-set_other, get_or_default, get_or-replicate, length-set, length-replicate, Contains-get_or, Addr4, Near, NeighbourGraph, IsWilling, IsRelay, IsOtherRelay, IsAsCheap, Covers, Needed, ids_of, IsTaken, AreWilling, IsAt}
use Rattle.mesh_relay.specs.Asked.{HasPlace, AreFlagsOf, AreWillingIds}
use Rattle.mesh_relay.proofs.Pruned.{offers_more, same_near}
use Rattle.mesh_relay.proofs.Taken.{taken_of, id_taken}
use Rattle.mesh_relay.proofs.Directs.{not_lower}

same_or_before : (ns : List Near) (i j : ℕ) (d : Near) → i ≡ j → (get_or ns i d).id.0 ≤ (get_or ns j d).id.0
same_or_before ns i j d e = subst (λ (k : ℕ). (get_or ns i d).id.0 ≤ (get_or ns k d).id.0) e (omega arith)

pub ids_rise : (ns : List Near) → AllPairs (λ m n. m.id.0 < n.id.0) ns → IsNonDecreasingBy (λ (n : Near). n.id.0) ns
ids_rise ns order i j d le lt = grind (arith, common_steps, cases_lt, get_or, same_or_before)

-- The place of an id

-- no neighbour has the id that the one at its place doesn't have
pub no_place : (ns : List Near) (id : Addr4) (place : ℕ) → AllPairs (λ m n. m.id.0 < n.id.0) ns →
    IsPartitionPoint (λ (n : Near). nat_lt n.id.0 id.0 ≡ true) (λ (n : Near). nat_lt n.id.0 id.0 ≡ false) ns place →
    (place < length ns → (d : Near) → ((get_or ns place d).id.0 ≡ id.0) → ⊥) → (n : Near) → Contains ns n → n.id ≢ id
no_place ns id place order point other n (k, lt, at) same' =
    let is : (get_or ns k n).id.0 ≡ id.0 = ap (λ (m : Near). m.id.0) at ∙ ap (λ (a : Addr4). a.0) same' in
    elim (cases_lt k place) [
      | inl below ↦ let low : (get_or ns k n).id.0 < id.0 = ltb-true _ _ (point.0 k n (omega arith) below) in omega arith
      | inr ge ↦ elim (cases_lt place k) [
        | inl above ↦
            let up : (get_or ns place n).id.0 < (get_or ns k n).id.0 = order place k n above lt in
            let low : id.0 ≤ (get_or ns place n).id.0 = not_lower _ _ (point.1 place n (omega arith) (omega arith)) in
            omega arith
        | inr le ↦
            let here : k ≡ place = omega arith in
            other (omega arith) n (subst (λ (j : ℕ). (get_or ns j n).id.0 ≡ id.0) here is)
      ]
    ]

pub no_place_at : (ns : List Near) (id : Addr4) (place : ℕ) (e : Near) → AllPairs (λ m n. m.id.0 < n.id.0) ns →
    IsPartitionPoint (λ (n : Near). nat_lt n.id.0 id.0 ≡ true) (λ (n : Near). nat_lt n.id.0 id.0 ≡ false) ns place →
    ((get_or ns place e).id.0 ≢ id.0) → (n : Near) → Contains ns n → n.id ≢ id
no_place_at ns id place e order point other =
    no_place ns id place order point (λ lt d same'. other (ap (λ (n : Near). n.id.0) (get_or_default ns place e d lt) ∙ same'))

-- Flags that are set one by one

-- the flags are those of so many first ids
pub record AreFlagged (willing : List Near) (ids : List Addr4) (flags : List Bool) (many : ℕ) : Type 0 where
  pub lengths : length flags ≡ length willing
  pub has : (j : ℕ) (d : Addr4) → j < many → j < length ids → Contains (ids_of willing flags) (get_or ids j d)
  pub only : (id : Addr4) → Contains (ids_of willing flags) id → Contains ids id

pub none_flagged : (willing : List Near) (ids : List Addr4) (flags : List Bool) → flags ≡ replicate (length willing) false → AreFlagged willing ids flags 0
none_flagged willing ids flags is = record {
  lengths = ap (λ (l : List Bool). length l) is ∙ length-replicate (length willing) false;
  has = λ j d lt within. absurd (omega (arith, lt));
  only = λ id w.
      let h = taken_of willing flags id w in
      absurd (false≢true (sym (ap (λ (l : List Bool). get_or l h.place false) is ∙ get_or-replicate (length willing) h.place false false h.at.0) ∙ h.taken));
}

same_at : (k place : ℕ) → (k ≡ place) ⊎ ((k ≡ place) → ⊥)
same_at k place = grind (arith, common_steps, cases_Bool, nat_eq, eqb-true, false≢true, eq-eqb)

set_taken : (flags : List Bool) (place k : ℕ) → place < length flags → IsTaken flags k → IsTaken (set flags place true) k
set_taken flags place k lt taken = grind (arith, common_steps, same_at, set, get_or-set_same, get_or-set_other)

still_has : (willing : List Near) (flags : List Bool) (place : ℕ) (id : Addr4) → place < length flags → Contains (ids_of willing flags) id → Contains (ids_of willing (set flags place true)) id
still_has willing flags place id lt w =
    let h = taken_of willing flags id w in
    subst (Contains (ids_of willing (set flags place true))) h.is (id_taken willing (set flags place true) h.place h.near h.at (set_taken flags place h.place lt h.taken))

pub below_or_at : (j many : ℕ) → j < many + 1 → (j < many) ⊎ (many ≡ j)
below_or_at j many lt = elim (cases_lt j many) [ inl h ↦ inl h | inr h ↦ inr (omega arith) ]

pub one_flagged : (willing : List Near) (ids : List Addr4) (flags : List Bool) (many place : ℕ) (e : Addr4) → many < length ids → HasPlace willing (get_or ids many e) place →
    AreFlagged willing ids flags many → AreFlagged willing ids (set flags place true) (many + 1)
one_flagged willing ids flags many place e within at h =
    let lt : place < length flags = (let l : place < length willing = at.1.0 in let len : length flags ≡ length willing = h.lengths in omega arith) in
    record {
      lengths = length-set flags place true ∙ h.lengths;
      has = λ j d below inside. elim (below_or_at j many below) [
        | inl before ↦ still_has willing flags place (get_or ids j d) lt (h.has j d before inside)
        | inr is ↦
            subst (λ (k : ℕ). Contains (ids_of willing (set flags place true)) (get_or ids k d)) is
            (subst (Contains (ids_of willing (set flags place true))) (at.2 ∙ get_or_default ids many e d within)
            (id_taken willing (set flags place true) place at.0 at.1 (get_or-set_same flags place true false lt)))
      ];
      only = λ id w.
          let t = taken_of willing (set flags place true) id w in
          elim (same_at t.place place) [
            | inl is ↦
                let near : t.near ≡ at.0 = same_near willing place t.near at.0 (subst (λ (k : ℕ). IsAt willing k t.near) is t.at) at.1 in
                subst (Contains ids) (sym at.2 ∙ (sym (ap (λ (n : Near). n.id) near) ∙ t.is)) (Contains-get_or ids many e within)
            | inr other ↦
                h.only id (subst (Contains (ids_of willing flags)) t.is
                (id_taken willing flags t.place t.near t.at (sym (get_or-set_other flags place t.place true false other) ∙ t.taken)))
          ];
    }

pub all_flagged : (willing : List Near) (ids : List Addr4) (flags : List Bool) (many : ℕ) → length ids ≤ many → AreFlagged willing ids flags many → AreFlagsOf willing ids flags
all_flagged willing ids flags many whole h = record {
  length = h.lengths;
  same = λ id. (
    λ w. h.only id w,
    λ w. subst (Contains (ids_of willing flags)) w.2 (h.has w.0 id (let lt : w.0 < length ids = w.1 in omega arith) w.1),
  );
}

pub not_willing : (willing : List Near) (ids : List Addr4) (many : ℕ) (e : Addr4) → many < length ids → ((n : Near) → Contains willing n → n.id ≢ get_or ids many e) → AreWillingIds willing ids → ⊥
not_willing willing ids many e within none all =
    let w = all (get_or ids many e) (Contains-get_or ids many e within) in
    none w.0 w.1 w.2

-- Sets of the same ids

abbrev HasSameIds : List Addr4 → List Addr4 → Type 0
HasSameIds a b = (id : Addr4) → Contains a id ↔ Contains b id

offers_by : (g : NeighbourGraph) (A B : Near → Type 0) (y : Addr4) → ((n : Near) → A n → B n) → IsAsCheap g A IsWilling y → IsAsCheap g B IsWilling y
offers_by g A B y within h c o = let r = h c o in (r.0, offers_more g A B y r.0 within r.1, r.2)

covers_same : (g : NeighbourGraph) (a b : List Addr4) → HasSameIds a b → Covers g a → Covers g b
covers_same g a b same' h = record {
  always = λ n near will. (same' n.id).0 (h.always n near will);
  willing = λ id w. h.willing id ((same' id).1 w);
  as_cheap = λ f c far o. let r = h.as_cheap f c far o in (r.0, offers_more g (IsRelay a) (IsRelay b) f.addr r.0 (λ n w. (same' n.id).0 w) r.1, r.2);
}

fewer_offers : (g : NeighbourGraph) (A B : Near → Type 0) (y : Addr4) → ((n : Near) → A n → B n) → IsAsCheap g IsWilling B y → IsAsCheap g IsWilling A y
fewer_offers g A B y within h c o = h c (offers_more g A B y c within o)

needed_same : (g : NeighbourGraph) (a b : List Addr4) → HasSameIds a b → Needed g a → Needed g b
needed_same g a b same' h = record {
  missed = λ n near w will below.
      let m = h.missed n near ((same' n.id).1 w) will below in (
        m.0,
        m.1,
        λ d. m.2 (
          offers_by g (IsOtherRelay b n.id) (IsOtherRelay a n.id) m.0.addr (λ x r. ((same' x.id).1 r.0, r.1)) d.0,
          fewer_offers g (IsOtherRelay a n.id) (IsOtherRelay b n.id) m.0.addr (λ x r. ((same' x.id).0 r.0, r.1)) d.1,
        ),
      );
}

abbrev pub Serves : NeighbourGraph → List Addr4 → Type 0
Serves g ids = Covers g ids × Needed g ids

other_way : (a b : List Addr4) → HasSameIds a b → HasSameIds b a
other_way a b same' id = ((same' id).1, (same' id).0)

pub serves_same : (g : NeighbourGraph) (willing : List Near) (ids : List Addr4) (flags : List Bool) (b : Bool) → AreFlagsOf willing ids flags →
    IsTrue b ↔ Serves g (ids_of willing flags) → IsTrue b ↔ Serves g ids
serves_same g willing ids flags b h both = (
  λ t. let s = both.0 t in (covers_same g (ids_of willing flags) ids h.same s.0, needed_same g (ids_of willing flags) ids h.same s.1),
  λ s. both.1 (covers_same g ids (ids_of willing flags) (other_way (ids_of willing flags) ids h.same) s.0, needed_same g ids (ids_of willing flags) (other_way (ids_of willing flags) ids h.same) s.1),
)

pub none_serve : (g : NeighbourGraph) (willing : List Near) (ids : List Addr4) → AreWilling g willing → (AreWillingIds willing ids → ⊥) → IsTrue false ↔ Serves g ids
none_serve g willing ids are none = (
  λ t. absurd (false≢true t),
  λ s. absurd (none (λ id w. let n = s.0.willing id w in (n.0, (are.each n.0).1 (n.1, n.3), n.2))),
)

-- Direct entries in ascending order of address.
use Rattle.mesh_relay.proofs.Common.{common_steps, ◌≡◌, ℕ, ◌+◌, ◌≤◌, ◌<◌, Bool, true, false, ◌&&◌, ◌||◌, cond, nat_lt, nat_le, List, [], ◌∷◌, length, drop, get_or, zero, suc, refl, sym, ◌∙◌, ap, inl, inr, arith, list_any, IsNonDecreasingBy, IsPartitionPoint, false≢true, cases_lt, ltb-true, lt-ltb, get_or-drop, length-drop, Addr4, Direct, addr_eq, Decides-addr, is_offer, is_first_within}

-- each address is that one or a later one
abbrev AreFrom : Addr4 → List Direct → Type 0
AreFrom y ds = (k : ℕ) (e : Direct) → k < length ds → y.0 ≤ (get_or ds k e).addr.0

-- each address is a later one
abbrev AreAfter : Addr4 → List Direct → Type 0
AreAfter y ds = (k : ℕ) (e : Direct) → k < length ds → y.0 < (get_or ds k e).addr.0

other_addr : (y : Addr4) (d : Direct) (b : Bool) → addr_eq d.addr y ≡ b → ((d.addr.0 ≡ y.0) → ⊥) → b ≡ false
other_addr y d b e other = grind (arith, common_steps, Decides-addr)

no_offer : (y : Addr4) (most : ℕ) (d : Direct) → ((d.addr.0 ≡ y.0) → ⊥) → is_offer y most d ≡ false
no_offer y most d other = ap (λ (x : Bool). x && nat_le d.cost most) (other_addr y d (addr_eq d.addr y) refl other)

none_after : (y : Addr4) (most : ℕ) (ds : List Direct) → AreAfter y ds → list_any (is_offer y most) ds ≡ false
none_after y most [] after = refl
none_after y most (d ∷ ds) after =
    let first : y.0 < d.addr.0 = after 0 d (omega arith) in
    ap (λ (x : Bool). x || list_any (is_offer y most) ds) (no_offer y most d (λ e. omega arith))
    ∙ none_after y most ds (λ k e lt. after (suc k) e (omega arith))

first_cases : (y : Addr4) (most : ℕ) (d : Direct) (ds : List Direct) (b : Bool) → addr_eq d.addr y ≡ b → AreFrom y (d ∷ ds) → IsNonDecreasingBy (λ (x : Direct). x.addr.0) (d ∷ ds) →
    is_first_within y most ds ≡ list_any (is_offer y most) ds →
    cond b (nat_le d.cost most || is_first_within y most ds) false ≡ ((b && nat_le d.cost most) || list_any (is_offer y most) ds)
first_cases y most d ds true e from up h = ap (λ (x : Bool). nat_le d.cost most || x) h
first_cases y most d ds false e from up h =
    let first : y.0 ≤ d.addr.0 = from 0 d (omega arith) in
    sym (none_after y most ds (λ k f lt.
    let on : d.addr.0 ≤ (get_or ds k f).addr.0 = up 0 (suc k) f (omega arith) (omega arith) in
    let other : (d.addr.0 ≡ y.0) → ⊥ = λ same'. false≢true (sym e ∙ (Decides-addr d.addr y).1 (ap (λ (n : ℕ). record { 0 = n }) same')) in
    omega arith))

pub first_same : (y : Addr4) (most : ℕ) (ds : List Direct) → AreFrom y ds → IsNonDecreasingBy (λ (x : Direct). x.addr.0) ds → is_first_within y most ds ≡ list_any (is_offer y most) ds
first_same y most [] from up = refl
first_same y most (d ∷ ds) from up = grind (arith, common_steps, first_cases, (first_same y most ds (λ k e lt. from (suc k) e (omega arith)) (λ i j e le lt. up (suc i) (suc j) e (omega arith) (omega arith))))

-- those before play no part
before_none : (y : Addr4) (most : ℕ) (ds : List Direct) (n : ℕ) → ((k : ℕ) (e : Direct) → k < n → (get_or ds k e).addr.0 < y.0) → n ≤ length ds →
    list_any (is_offer y most) (drop n ds) ≡ list_any (is_offer y most) ds
before_none y most ds zero before le = refl
before_none y most [] (suc n) before le = absurd (omega (arith, le))
before_none y most (d ∷ ds) (suc n) before le =
    let first : d.addr.0 < y.0 = before 0 d (omega arith) in
    before_none y most ds n (λ k e lt. before (suc k) e (omega arith)) (omega (arith, le))
    ∙ sym (ap (λ (x : Bool). x || list_any (is_offer y most) ds) (no_offer y most d (λ e. omega arith)))

pub not_lower : (a b : ℕ) → nat_lt a b ≡ false → b ≤ a
not_lower a b e = elim (cases_lt a b) [ inl lt ↦ absurd (false≢true (sym e ∙ lt-ltb a b lt)) | inr le ↦ le ]

pub from_point : (y : Addr4) (most : ℕ) (ds rest : List Direct) (n : ℕ) → IsNonDecreasingBy (λ (x : Direct). x.addr.0) ds → n ≤ length ds →
    IsPartitionPoint (λ (d : Direct). nat_lt d.addr.0 y.0 ≡ true) (λ (d : Direct). nat_lt d.addr.0 y.0 ≡ false) ds n → rest ≡ drop n ds →
    is_first_within y most rest ≡ list_any (is_offer y most) ds
from_point y most ds rest n up le point is =
    ap (λ (l : List Direct). is_first_within y most l) is
    ∙ (first_same y most (drop n ds)
    (λ k e lt.
    let within : n + k < length ds = (let len = length-drop n ds in omega (arith, lt, len)) in
    let ge : y.0 ≤ (get_or ds (n + k) e).addr.0 = not_lower (get_or ds (n + k) e).addr.0 y.0 (point.1 (n + k) e (omega arith) within) in
    let eq : (get_or (drop n ds) k e).addr.0 ≡ (get_or ds (n + k) e).addr.0 = ap (λ (d : Direct). d.addr.0) (get_or-drop n ds k e) in
    omega arith)
    (λ i j e le' lt.
    let within : n + j < length ds = (let len = length-drop n ds in omega (arith, lt, len)) in
    let on : (get_or ds (n + i) e).addr.0 ≤ (get_or ds (n + j) e).addr.0 = up (n + i) (n + j) e (omega arith) within in
    let eq : (get_or (drop n ds) i e).addr.0 ≡ (get_or ds (n + i) e).addr.0 = ap (λ (d : Direct). d.addr.0) (get_or-drop n ds i e) in
    let eq' : (get_or (drop n ds) j e).addr.0 ≡ (get_or ds (n + j) e).addr.0 = ap (λ (d : Direct). d.addr.0) (get_or-drop n ds j e) in
    omega arith)
    ∙ before_none y most ds n (λ k e lt. ltb-true _ _ (point.0 k e (omega arith) lt)) le)

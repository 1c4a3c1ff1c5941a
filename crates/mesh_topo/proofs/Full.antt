-- The first set that would be too large.
use Rattle.mesh_topo.proofs.Common.{◌≡◌, ℕ, ◌+◌, ◌≤◌, arith, Bool, true, false, cond, ◌&&◌, List, [], ◌∷◌, Option, Some, None, refl, sym, ap, ◌∙◌, nat_lt, is_some, count_by, option_map, common_steps, ltb-false, sum_by-cons, Addr4, Metric, Tc, TcRow, is_overfull, first_overfull, TopologyBase, TupleKind, given, router_kind, address_kind, network_kind}
use Rattle.std.specs.Bool.{then_some}
use Rattle.mesh_atoms.specs.declared.tuples.Base.TheVariants.{Advertisers, Routers, Addresses, Networks}

-- tests that agree count the same
count_same : {A : Type 0} (p q : A → Bool) → ((x : A) → p x ≡ q x) → (xs : List A) → count_by p xs ≡ count_by q xs
count_same p q same [] = refl
count_same p q same (x ∷ xs) = grind (arith, common_steps, sum_by-cons, count_same p q same xs)

-- a row gives a tuple where it is of the kind and has a metric
row_gives : {K V : Type 0} (kind : TupleKind K V) (from : Addr4) (ansn : ℕ) (row : TcRow) (of : Bool) → ((m : Metric) → is_some (kind.by_row ansn m row) ≡ of) → is_some (given kind from ansn row) ≡ (of && is_some row.metric)
row_gives kind from ansn row of is = grind (arith, common_steps)

some_by_flag : {V : Type 0} (flag : Bool) (v : V) → is_some (then_some flag v) ≡ flag
some_by_flag flag v = grind (arith, common_steps)

some_by_distance : {V : Type 0} (f : ℕ → V) (distance : Option ℕ) → is_some (option_map f distance) ≡ is_some distance
some_by_distance f distance = grind (arith, common_steps)

pub router_rows : (from : Addr4) (ansn : ℕ) (rows : List TcRow) → count_by (λ row. is_some (given router_kind from ansn row)) rows ≡ count_by (λ row. row.origin && is_some row.metric) rows
router_rows from ansn rows = count_same _ _ (λ row. row_gives router_kind from ansn row row.origin (λ m. some_by_flag row.origin _)) rows

pub address_rows : (from : Addr4) (ansn : ℕ) (rows : List TcRow) → count_by (λ row. is_some (given address_kind from ansn row)) rows ≡ count_by (λ row. row.routable && is_some row.metric) rows
address_rows from ansn rows = count_same _ _ (λ row. row_gives address_kind from ansn row row.routable (λ m. some_by_flag row.routable _)) rows

pub network_rows : (from : Addr4) (ansn : ℕ) (rows : List TcRow) → count_by (λ row. is_some (given network_kind from ansn row)) rows ≡ count_by (λ row. is_some row.gateway && is_some row.metric) rows
network_rows from ansn rows = count_same _ _ (λ row. row_gives network_kind from ansn row (is_some row.gateway) (λ m. some_by_distance _ row.gateway)) rows

-- the test of a set by what was counted
pub tested : (b : Bool) (held rows length counted : ℕ) → b ≡ nat_lt 16384 (held + rows) → held ≡ length → rows ≡ counted → nat_lt 16384 (length + counted) ≡ b
tested b held rows length counted is by_held by_rows = sym (is ∙ ap (λ (n : ℕ). nat_lt 16384 (n + rows)) by_held ∙ ap (λ (n : ℕ). nat_lt 16384 (length + n)) by_rows)

-- the test of a set of topology tuples
pub routers_tested : (tc : Tc) (b : Bool) (held rows long : ℕ) → b ≡ nat_lt 16384 (held + rows) → held ≡ long → rows ≡ count_by (λ row. is_some (given router_kind tc.originator tc.ansn row)) tc.rows →
    nat_lt 16384 (long + count_by (λ row. row.origin && is_some row.metric) tc.rows) ≡ b
routers_tested tc b held rows long is by_held by_rows = tested b held rows long _ is by_held (by_rows ∙ router_rows tc.originator tc.ansn tc.rows)

pub addresses_tested : (tc : Tc) (b : Bool) (held rows long : ℕ) → b ≡ nat_lt 16384 (held + rows) → held ≡ long → rows ≡ count_by (λ row. is_some (given address_kind tc.originator tc.ansn row)) tc.rows →
    nat_lt 16384 (long + count_by (λ row. row.routable && is_some row.metric) tc.rows) ≡ b
addresses_tested tc b held rows long is by_held by_rows = tested b held rows long _ is by_held (by_rows ∙ address_rows tc.originator tc.ansn tc.rows)

pub networks_tested : (tc : Tc) (b : Bool) (held rows long : ℕ) → b ≡ nat_lt 16384 (held + rows) → held ≡ long → rows ≡ count_by (λ row. is_some (given network_kind tc.originator tc.ansn row)) tc.rows →
    nat_lt 16384 (long + count_by (λ row. is_some row.gateway && is_some row.metric) tc.rows) ≡ b
networks_tested tc b held rows long is by_held by_rows = tested b held rows long _ is by_held (by_rows ∙ network_rows tc.originator tc.ansn tc.rows)

-- the first of four tests that holds
first_of_four : {A : Type 0} (x y z w : A) (a r d n : Bool) → (a' r' d' n' : Bool) → a ≡ a' → r ≡ r' → d ≡ d' → n ≡ n' →
    cond a' (Some x) (cond r' (Some y) (cond d' (Some z) (cond n' (Some w) None))) ≡ cond a (Some x) (cond r (Some y) (cond d (Some z) (cond n (Some w) None)))
first_of_four x y z w a r d n a' r' d' n' p q s t = rw (p, q, s, t) refl

module _ (topology : TopologyBase) (tc : Tc) where
  pub third_full : is_overfull topology tc Advertisers ≡ false → is_overfull topology tc Routers ≡ false → is_overfull topology tc Addresses ≡ true → Some Addresses ≡ first_overfull topology tc
  third_full a r d = first_of_four Advertisers Routers Addresses Networks _ _ _ (is_overfull topology tc Networks) false false true (is_overfull topology tc Networks) a r d refl

  pub fourth_full : is_overfull topology tc Advertisers ≡ false → is_overfull topology tc Routers ≡ false → is_overfull topology tc Addresses ≡ false → is_overfull topology tc Networks ≡ true → Some Networks ≡ first_overfull topology tc
  fourth_full a r d n = first_of_four Advertisers Routers Addresses Networks _ _ _ _ false false false true a r d n

  pub none_full : is_overfull topology tc Advertisers ≡ false → is_overfull topology tc Routers ≡ false → is_overfull topology tc Addresses ≡ false → is_overfull topology tc Networks ≡ false → None ≡ first_overfull topology tc
  none_full a r d n = first_of_four Advertisers Routers Addresses Networks _ _ _ _ false false false false a r d n

-- where none of four tests is the first, none holds
pub none_of_four : {A : Type 0} (x y z w : A) (a r d n : Bool) → cond a (Some x) (cond r (Some y) (cond d (Some z) (cond n (Some w) None))) ≡ None → (a ≡ false) × (r ≡ false) × (d ≡ false) × (n ≡ false)
none_of_four x y z w a r d n e = grind (arith, common_steps)

pub room_in_all : (topology : TopologyBase) (tc : Tc) → first_overfull topology tc ≡ None →
    (is_overfull topology tc Advertisers ≡ false) × (is_overfull topology tc Routers ≡ false) × (is_overfull topology tc Addresses ≡ false) × (is_overfull topology tc Networks ≡ false)
room_in_all topology tc none = none_of_four Advertisers Routers Addresses Networks _ _ _ _ none

-- what had room is within the limit after
pub few_after : (before after counted rows : ℕ) → nat_lt 16384 (before + rows) ≡ false → counted ≡ rows → after ≤ before + counted → after ≤ 16384
few_after before after counted rows room same le = omega (arith, ltb-false 16384 (before + rows) room)

pub put_few : (before after : ℕ) (stood : Bool) → nat_lt 16384 (before + 1) ≡ false → after ≡ before + cond stood 0 1 → after ≤ 16384
put_few before after stood room same = grind (arith, common_steps)

-- How many tuples a TC's rows give at most.
use Rattle.mesh_machine.proofs.Common.{◌≡◌, ℕ, ◌+◌, ◌≤◌, arith, Bool, true, false, cond, List, [], ◌∷◌, ◌++◌, length, Option, Some, None, refl, sym, ap, ◌&&◌, ◌⊎◌, inl, inr, slice_get, zero, suc, is_some, count_by, common_steps, IsEquivalence, ltb-false, and_from as both, none-some, length-append, Addr4, Tc, TcRow, Metric, Advertisers, Routers, Addresses, Networks, Becomes, BecomesSet, AfterTc, is_overfull, first_overfull, GivesRouter, GivesAddress, GivesNetwork, Base, find, addr_eq, router_eq, address_eq, network_eq, net_eq, TopologyBase, addr_equiv, net_equiv, router_equiv, address_equiv, network_equiv, AreFew, no_more, found_left, found_right, NetAddr, place_of}
use Rattle.std.proofs.lemmas.List.Sums.{sum_by-cons}
use Rattle.mesh_machine.proofs.Tables.{one_more}
use Rattle.mesh_atoms.specs.declared.tuples.RouterKey.{RouterKey}
use Rattle.mesh_atoms.specs.declared.tuples.AddressKey.{AddressKey}
use Rattle.mesh_atoms.specs.declared.tuples.NetworkKey.{NetworkKey}
use Rattle.mesh_topo.proofs.Full.{none_of_four}

-- the entries of the rows that pass a test, each with the key and a value of its row
entries : {K V : Type 0} → (TcRow → Bool) → (TcRow → K) → V → List TcRow → Base K V
entries test key value [] = []
entries test key value (row ∷ rows) = cond (test row) ((key row, (value, 0)) ∷ entries test key value rows) (entries test key value rows)

entry_count : {K V : Type 0} (test : TcRow → Bool) (key : TcRow → K) (value : V) (rows : List TcRow) → length (entries test key value rows) ≡ count_by test rows
unfolding entries
entry_count test key value [] = refl
entry_count {K} {V} test key value (row ∷ rows) = grind (arith, common_steps, entries, sum_by-cons, entry_count test key value rows)

-- the row's entry is found
entry_found : {K V : Type 0} (eq : K → K → Bool) → IsEquivalence eq → (test : TcRow → Bool) (key : TcRow → K) (value : V) (rows : List TcRow) (k : ℕ) (row : TcRow) (q : K) →
    slice_get rows k ≡ Some row → test row ≡ true → eq q (key row) ≡ true → (e : V × ℕ) × (find eq (entries test key value rows) q ≡ Some e)
unfolding entries
entry_found eq laws test key value [] k row q at passes same = absurd (none-some row at)
entry_found {K} {V} eq laws test key value (first ∷ rows) zero row q at passes same =
    let e : first ≡ row = cc in
    ((value, 0), rw (e, passes, same) refl)
entry_found {K} {V} eq laws test key value (first ∷ rows) (suc k) row q at passes same = by_case (test first) (eq q (key first)) (entries test key value rows) refl (entry_found eq laws test key value rows k row q at passes same)
  where
    by_case : (b c : Bool) (others : Base K V) → eq q (key first) ≡ c → (e : V × ℕ) × (find eq others q ≡ Some e) → (e : V × ℕ) × (find eq (cond b ((key first, (value, 0)) ∷ others) others) q ≡ Some e)
    by_case true true others here more = ((value, 0), rw here refl)
    by_case true false others here more = (more.0, rw here more.1)
    by_case false c others here more = more

-- ---- the sets after a TC

-- a tuple after a TC is given by a row, or stood
becomes_was : {K V : Type 0} (tc : Tc) (until : ℕ) (from : K → Addr4) (number : V → ℕ) (G : K → V → Type 0) (key : K) (old new : Option (V × ℕ)) (e : V × ℕ) →
    Becomes tc until from number G key old new → new ≡ Some e → ((value : V) × G key value) ⊎ (old ≡ Some e)
becomes_was tc until from number G key old new e h9 at = grind (arith, common_steps)

-- the rows that pass the test give all that is given, so the set grows by their number at most
set_within : {K V : Type 0} (eq : K → K → Bool) → IsEquivalence eq → (tc : Tc) (until : ℕ) (from : K → Addr4) (number : V → ℕ) (G : K → V → Type 0) (test : TcRow → Bool) (key : TcRow → K) (old new : Base K V) →
    ((k : K) (value : V) → G k value → (place : ℕ) × (row : TcRow) × (slice_get tc.rows place ≡ Some row) × (test row ≡ true) × (eq k (key row) ≡ true)) →
    BecomesSet eq tc until from number G old new → length new ≤ length old + count_by test tc.rows
set_within {K} {V} eq laws tc until from number G test key old new gives set = by_any new refl
  where
    bound : (value : V) → length new ≤ length (old ++ entries test key value tc.rows)
    bound value = no_more laws new (old ++ entries test key value tc.rows) set.distinct (λ q e is. elim (becomes_was tc until from number G q (find eq old q) (find eq new q) e (set.at q) is) [
      | inl given ↦ let (place, row, at, passes, same) = gives q given.0 given.1 in
          let found = entry_found eq laws test key value tc.rows place row q at passes same in found_right (eq q) old (entries test key value tc.rows) found.0 found.1
      | inr stood ↦ found_left (eq q) old (entries test key value tc.rows) e stood
    ])

    by_any : (es : Base K V) → es ≡ new → length new ≤ length old + count_by test tc.rows
    by_any [] is = let h : length new ≡ 0 = ap (λ (es : Base K V). length es) (sym is) in omega (arith, h)
    by_any (e ∷ es) is =
        let h = bound e.1.0 in
        let two = length-append old (entries test key e.1.0 tc.rows) in
        let many = entry_count test key e.1.0 tc.rows in
        omega (arith, h, two, many)

-- ---- each set after a TC that isn't too much

-- a row that passes the test, of that key
GivenAt : {K : Type 0} → (K → K → Bool) → Tc → (TcRow → Bool) → (TcRow → K) → K → Type 0
GivenAt eq tc test key k = (place : ℕ) × (row : TcRow) × (slice_get tc.rows place ≡ Some row) × (test row ≡ true) × (eq k (key row) ≡ true)

is_there : {A : Type 0} (o : Option A) (a : A) → o ≡ Some a → is_some o ≡ true
is_there o a e = rw e refl

given_router : (tc : Tc) (k : RouterKey) (m : Metric) → GivesRouter tc k m → GivenAt router_eq tc (λ row. row.origin && is_some row.metric) (λ row. record { from = tc.originator; to = row.dest.addr }) k
unfolding GivenAt
given_router tc k m gives =
    let (from, row, has, dest, origin, metric) = gives in
    let (place, below, at) = place_of tc.rows row has in
    let same : row.dest.addr ≡ k.to = ap (λ (n : NetAddr). n.addr) dest in
    (place, row, at, both row.origin (is_some row.metric) origin (is_there row.metric m metric), both (addr_eq k.from tc.originator) (addr_eq k.to row.dest.addr) (rw from (addr_equiv.refl tc.originator)) (rw same (addr_equiv.refl k.to)))

given_address : (tc : Tc) (k : AddressKey) (m : Metric) → GivesAddress tc k m → GivenAt address_eq tc (λ row. row.routable && is_some row.metric) (λ row. record { from = tc.originator; addr = row.dest.addr }) k
unfolding GivenAt
given_address tc k m gives =
    let (from, row, has, dest, routable, metric) = gives in
    let (place, below, at) = place_of tc.rows row has in
    let same : row.dest.addr ≡ k.addr = ap (λ (n : NetAddr). n.addr) dest in
    (place, row, at, both row.routable (is_some row.metric) routable (is_there row.metric m metric), both (addr_eq k.from tc.originator) (addr_eq k.addr row.dest.addr) (rw from (addr_equiv.refl tc.originator)) (rw same (addr_equiv.refl k.addr)))

given_network : (tc : Tc) (k : NetworkKey) (distance : ℕ) (m : Metric) → GivesNetwork tc k distance m → GivenAt network_eq tc (λ row. is_some row.gateway && is_some row.metric) (λ row. record { from = tc.originator; net = row.dest }) k
unfolding GivenAt
given_network tc k distance m gives =
    let (from, row, has, dest, gateway, metric) = gives in
    let (place, below, at) = place_of tc.rows row has in
    (place, row, at, both (is_some row.gateway) (is_some row.metric) (is_there row.gateway distance gateway) (is_there row.metric m metric), both (addr_eq k.from tc.originator) (net_eq k.net row.dest) (rw from (addr_equiv.refl tc.originator)) (rw dest (net_equiv.refl k.net)))

-- a TC that is taken leaves each set within its limit
pub tc_few : (now : ℕ) (tc : Tc) (old new : TopologyBase) → first_overfull old tc ≡ None → AfterTc now tc old new → AreFew new
unfolding GivenAt
tc_few now tc old new none after =
    let (a, r, d, n) = none_of_four Advertisers Routers Addresses Networks (is_overfull old tc Advertisers) (is_overfull old tc Routers) (is_overfull old tc Addresses) (is_overfull old tc Networks) none in
    record {
      advertisers = let h = one_more addr_eq addr_equiv old.advertisers new.advertisers tc.originator _ after.distinct after.advertisers in let k = ltb-false 16384 _ a in omega (arith, h, k);
      routers = let h = set_within router_eq router_equiv tc _ _ _ _ (λ row. row.origin && is_some row.metric) (λ row. record { from = tc.originator; to = row.dest.addr }) old.routers new.routers (λ k t g. given_router tc k t.metric g.0) after.routers in let k = ltb-false 16384 _ r in omega (arith, h, k);
      addresses = let h = set_within address_eq address_equiv tc _ _ _ _ (λ row. row.routable && is_some row.metric) (λ row. record { from = tc.originator; addr = row.dest.addr }) old.addresses new.addresses (λ k t g. given_address tc k t.metric g.0) after.addresses in let k = ltb-false 16384 _ d in omega (arith, h, k);
      networks = let h = set_within network_eq network_equiv tc _ _ _ _ (λ row. is_some row.gateway && is_some row.metric) (λ row. record { from = tc.originator; net = row.dest }) old.networks new.networks (λ k t g. given_network tc k t.distance t.metric g.0) after.networks in let k = ltb-false 16384 _ n in omega (arith, h, k);
    }

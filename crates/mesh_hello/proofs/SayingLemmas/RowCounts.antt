-- How many rows a HELLO has.
use Rattle.mesh_hello.proofs.Common.{◌≡◌, ℕ, zero, suc, ◌+◌, ◌*◌, ◌<◌, ◌≤◌, ◌⊎◌, inl, inr, refl, sym, ◌∙◌, ap, subst, arith, List, [], ◌∷◌, ◌++◌, length, length-append, map, Contains, Bool, true, false, get_or, not, None, AllPairs, common_steps, filter, flat_map, list_any, cases_lt, false≢true, length-map, get_or-map, All-filter, All-contains, All-contains_itself, filter_passes, Contains-append_left, Contains-append_right, Contains-get_or, AllPairs-filter, list_any-from_Contains, Addr4, NetAddr, Hello, HelloRow, Interface, RouterSettings, Link, LinkKey, Neighbour, addr_eq, Part, Says, IsHelloNow, IsBefore, IsAscending, AreMoreThan, SoundNeighbourhood, State, Neighbourhood, HasAddress, HasLink, HasSymmetricWith, IsHeld, addr_equiv, same_addr, has_found, looks_up_links, looks_up_neighbours, Relays, contains_filter as picked, contains_at, contains_flat_map}
use Rattle.mesh_hello.proofs.Sorted.{distinct_ascending}
use Rattle.mesh_hello.proofs.SayingLemmas.Whose.{HasTuple, Linked, Near, Gone, whose}
use Rattle.mesh_hello.proofs.Fits.{any_contains, distinct_fits}

-- Lists

-- it is none of these
abbrev is_beyond : List Addr4 → Addr4 → Bool
is_beyond own a = not (list_any (addr_eq a) own)

among_or_beyond : (own : List Addr4) (a : Addr4) → Contains own a ⊎ (is_beyond own a ≡ true)
among_or_beyond own a = by_test (list_any (addr_eq a) own) refl where
  by_test : (b : Bool) → list_any (addr_eq a) own ≡ b → Contains own a ⊎ (not (list_any (addr_eq a) own) ≡ true)
  by_test true is = inl (any_contains same_addr own a is)
  by_test false is = inr (ap not is)

beyond_not_among : (own : List Addr4) (a : Addr4) → is_beyond own a ≡ true → Contains own a → ⊥
beyond_not_among own a beyond has = false≢true (sym (ap not (list_any-from_Contains addr_equiv a own has)) ∙ beyond)

-- ascending addresses that are among these or have a property that no more than so many have
pub counted : (own list : List Addr4) (P : Addr4 → Type 0) (most : ℕ) → IsAscending list → (AreMoreThan most P → ⊥) → ((a : Addr4) → Contains list a → Contains own a ⊎ P a) → length list ≤ length own + most
counted own list P most up few each =
    let rest : List Addr4 = filter (is_beyond own) list in
    let rises : IsAscending rest = AllPairs-filter (λ (a b : Addr4). a.0 < b.0) (is_beyond own) list up in
    let listed = λ (a : Addr4) (has : Contains rest a). All-contains (Contains list) rest a (All-filter (is_beyond own) (Contains list) list (All-contains_itself list)) has in
    let beyond = λ (a : Addr4) (has : Contains rest a). All-contains (λ (x : Addr4). is_beyond own x ≡ true) rest a (filter_passes (is_beyond own) list) has in
    let have = λ (a : Addr4) (has : Contains rest a). by_each a (beyond a has) (each a (listed a has)) in
    let small : length rest ≤ most = elim (cases_lt most (length rest)) [
      | inl more ↦ absurd (few (rest, distinct_ascending rest rises, have, more))
      | inr less ↦ less
    ] in
    let fits = distinct_fits addr_equiv same_addr list (own ++ rest) (distinct_ascending list up) (λ a has. by_test a has (among_or_beyond own a)) in
    omega (arith, fits, small, length-append own rest)
  where
    by_each : (a : Addr4) → is_beyond own a ≡ true → Contains own a ⊎ P a → P a
    by_each a beyond (inl among) = absurd (beyond_not_among own a beyond among)
    by_each a beyond (inr has) = has

    by_test : (a : Addr4) → Contains list a → Contains own a ⊎ (is_beyond own a ≡ true) → Contains (own ++ filter (is_beyond own) list) a
    by_test a has (inl among) = Contains-append_left own (filter (is_beyond own) list) a among
    by_test a has (inr beyond) = Contains-append_right own (filter (is_beyond own) list) a (picked (is_beyond own) list a has beyond)

-- Rows

less : (x y : NetAddr) → x.prefix ≡ 32 → y.prefix ≡ 32 → IsBefore x y → x.addr.0 < y.addr.0
less x y p q h4 = grind (arith, common_steps)

-- rows of hosts in order have ascending addresses
pub rows_ascend : {R : Type 0} (net : R → NetAddr) (rows : List R) → ((r : R) → Contains rows r → (net r).prefix ≡ 32) → AllPairs (λ (r t : R). IsBefore (net r) (net t)) rows → IsAscending (map (λ (r : R). (net r).addr) rows)
rows_ascend net [] hosts up i j d lt within = absurd (omega (arith, within))
rows_ascend {R} net (r ∷ rs) hosts up i j d lt within =
    let rows : List R = r ∷ rs in
    let addr = λ (x : R). (net x).addr in
    let size : length (map addr rows) ≡ length rows = length-map rows addr in
    let second : j < length rows = omega (arith, size, within) in
    let first : i < length rows = omega (arith, lt, second) in
    let below = less (net (get_or rows i r)) (net (get_or rows j r)) (hosts _ (Contains-get_or rows i r first)) (hosts _ (Contains-get_or rows j r second)) (up i j r lt second) in
    rw (get_or-map addr rows i r d first, get_or-map addr rows j r d second) below

-- The router's own addresses

abbrev own_of : RouterSettings → List Addr4
own_of settings = flat_map (λ (face : Interface). face.addrs) settings.interfaces

few_own : (faces : List Interface) → length (flat_map (λ (face : Interface). face.addrs) faces) ≤ 4 * length faces
few_own [] = omega arith
few_own (face ∷ faces) = omega (arith, length-append face.addrs (flat_map (λ (f : Interface). f.addrs) faces), face.sound.few.at_most, few_own faces)

own_few : (settings : RouterSettings) → length (own_of settings) ≤ 32
own_few settings = grind (arith, common_steps, length-map, few_own)

own_has : (settings : RouterSettings) (a : Addr4) → HasAddress settings a → Contains (own_of settings) a
own_has settings a (i, (face, at, has)) = contains_flat_map (λ (f : Interface). f.addrs) settings.interfaces face a (contains_at settings.interfaces i face at) has

-- Of whom something is said

pub neighbour_held : (s : State) (m : ℕ) → SoundNeighbourhood s.settings m s.bases.neighbourhood → (a o : Addr4) (n : Neighbour) → HasSymmetricWith s a o n → IsHeld s.bases.neighbourhood a
neighbour_held s m sound a o n has =
    let (until, at) = (looks_up_neighbours s o n sound.distinct_neighbours).0 has.0.0 in
    inr (inl (o, n, until, at, has.1))

link_held : (s : State) (i m : ℕ) → SoundNeighbourhood s.settings m s.bases.neighbourhood → (a : Addr4) (key : LinkKey) (link : Link) → HasLink s i key link → Contains link.addrs a → IsHeld s.bases.neighbourhood a
link_held s i m sound a key link has in' =
    let (until, at) = (looks_up_links s i key link (sound.distinct_links i)).0 has in
    let (o, n, u, at', all) = sound.owner i key link until at in
    inr (inl (o, n, u, at', all a in'))

pub tuple_held : (s : State) (i now m : ℕ) → SoundNeighbourhood s.settings m s.bases.neighbourhood → (a : Addr4) → HasTuple s i now a → IsHeld s.bases.neighbourhood a
tuple_held s i now m sound a (Linked state link not (key, has, in', is)) = link_held s i m sound a key link has in'
tuple_held s i now m sound a (Near o n has) = neighbour_held s m sound a o n has
tuple_held s i now m sound a (Gone lost has) =
    let (until, at) = (has_found addr_equiv same_addr s.bases.neighbourhood.losts a lost sound.distinct_losts).0 has in
    inr (inr ((lost, until), at))

-- the router's own, or held
told_held : (s : State) (i now m : ℕ) → SoundNeighbourhood s.settings m s.bases.neighbourhood → (a : Addr4) (part : Part) → Says s i now a part → Contains (own_of s.settings) a ⊎ IsHeld s.bases.neighbourhood a
told_held s i now m sound a part says = elim (whose s i now a part says) [ inl (local, mine) ↦ inl (own_has s.settings a mine) | inr tuple ↦ inr (tuple_held s i now m sound a tuple) ]

row_given : (rows : List HelloRow) (a : Addr4) → Contains (map (λ (r : HelloRow). r.addr.addr) rows) a → (r : HelloRow) × Contains rows r × (r.addr.addr ≡ a)
row_given [] a (k, lt, is) = absurd (omega (arith, lt))
row_given (x ∷ xs) a (zero, lt, is) = (x, (0, omega arith, refl), is)
row_given (x ∷ xs) a (suc k, lt, is) = let (z, (j, within, at), e) = row_given xs a (k, omega (arith, lt), is) in (z, (suc j, omega (arith, within), at), e)

-- a HELLO of a sound router has at most 1,056 rows: of 32 own addresses and 1,024 held
pub hello_rows : (s : State) (i now m : ℕ) (hello : Hello) → SoundNeighbourhood s.settings m s.bases.neighbourhood → IsHelloNow s i now hello → length hello.rows ≤ 1056
hello_rows s i now m hello sound is =
    let list : List Addr4 = map (λ (r : HelloRow). r.addr.addr) hello.rows in
    let size : length list ≡ length hello.rows = length-map hello.rows (λ (r : HelloRow). r.addr.addr) in
    let hosts = λ (r : HelloRow) (has : Contains hello.rows r). let (a, row) = is.rows r has in ap (λ (n : NetAddr). n.prefix) row.addr in
    let up : IsAscending list = rows_ascend (λ (r : HelloRow). r.addr) hello.rows hosts is.ordered in
    let most = counted (own_of s.settings) list (IsHeld s.bases.neighbourhood) 1024 up sound.limit (λ a has. by_row a (row_given hello.rows a has)) in
    omega (arith, most, size, own_few s.settings)
  where
    by_row : (a : Addr4) → ((r : HelloRow) × Contains hello.rows r × (r.addr.addr ≡ a)) → Contains (own_of s.settings) a ⊎ IsHeld s.bases.neighbourhood a
    by_row a (r, has, e) =
        let (b, row) = is.rows r has in
        let same : b ≡ a = sym (ap (λ (n : NetAddr). n.addr) row.addr) ∙ e in
        let (part, shows) = row.some in
        subst (λ (x : Addr4). Contains (own_of s.settings) x ⊎ IsHeld s.bases.neighbourhood x) same (told_held s i now m sound b part shows)

-- some state with that neighbourhood and these relays
abbrev pub sample : RouterSettings → Neighbourhood → Relays → State
sample settings near relays = record {
  settings = settings;
  bases = record {
    neighbourhood = near;
    topology = record { advertisers = []; routers = []; addresses = []; networks = [] };
    noted = record { received = []; processed = []; forwarded = [] };
  };
  relays = relays;
  routes = [];
  rows = [];
  ansn = 0;
  emptied = None;
  sequence = 0;
  next_hello = 0;
  next_tc = 0;
  last = 0;
}

pub few_rows : (settings : RouterSettings) (near : Neighbourhood) (relays : Relays) (i now : ℕ) (hello : Hello) → SoundNeighbourhood settings now near →
    ((s : State) → s.settings ≡ settings → s.bases.neighbourhood ≡ near → s.relays ≡ relays → IsHelloNow s i now hello) → length hello.rows ≤ 1056
few_rows settings near relays i now hello sound is = hello_rows (sample settings near relays) i now now hello sound (is (sample settings near relays) refl refl refl)

-- The definitions take the unspoiled states.
use Rattle.mesh_laws.proofs.Common.{arith, common_steps, ◌≡◌, ◌≢◌, ℕ, zero, suc, ◌+◌, refl, sym, ◌∙◌, ap, subst, [], ◌∷◌, Contains, Some, None, Bool, true, false, cond, ◌&&◌, Addr4, NetAddr, Metric, TcRow, LinkKey, TwoHopKey, RouterKey, AddressKey, NetworkKey, Link, TwoHop, Neighbour, Lost, Advertiser, RouterTuple, AddressTuple, NetworkTuple, Noted, Becomes, Given, Left, GivesRouter, GivesAddress, GivesNetwork, if_not_dropped, Base, HasDistinctKeys, SetsOnly, Same, find, if_live, base_of, host, addr_eq, link_eq, two_hop_eq, router_eq, address_eq, net_eq, network_eq, flood_eq, IsSymmetricAddress, Stays, trim, is_symmetric_at, admit_on, link_at, two_hop_at, addr_equiv, router_equiv, address_equiv, network_equiv, same_router, same_network, key_of, only, single_distinct, empty_distinct, peer, me, third, one, three, LostIsKept, MessageIsNoted, MessageIsPassedOver, TcIsTaken, heading, noted, outdated, quiet, row, silent, tc, contains_head as here, none_is_some}
use Rattle.std.specs.Cmp.{IsEquivalence}
use Rattle.mesh_atoms.proofs.Lookups.{same_address}
use Rattle.mesh_laws.proofs.Members.{both_same}
use Rattle.mesh_flood.proofs.Keys.{flood_equiv}

-- in a base of one tuple for the key at most, one is put at the key
sets_one : {K V : Type 0} {eq : K → K → Bool} → IsEquivalence eq → (k : K) (e : V × ℕ) (old : Base K V) → ((q : K) → eq q k ≡ false → find eq old q ≡ None) →
    SetsOnly eq old ((k, e) ∷ []) k (Some e)
sets_one {eq = eq} equiv k e old none q = by_case (eq q k) refl
  where
    by_case : (b : Bool) → eq q k ≡ b → cond (eq q k) (Some e) None ≡ cond (eq k q) (Some e) (find eq old q)
    by_case true h = let turned : eq k q ≡ true = equiv.symm k q ∙ h in rw (h, turned) refl
    by_case false h = let turned : eq k q ≡ false = equiv.symm k q ∙ h in rw (h, turned) (sym (none q h))

-- Lost addresses

no_symmetric : (a : Addr4) → IsSymmetricAddress silent a → ⊥
no_symmetric a is = none_is_some is.3

pub lost_is_kept : LostIsKept
lost_is_kept settings = record {
  tables = record {
    links = links;
    two_hops = two_hops;
    neighbours = empty_distinct Neighbour addr_eq;
    losts = single_distinct {V = Lost} addr_eq peer (record {}, 49452);
  };
  interfaces = refl;
  two_hop_interfaces = refl;
  links = none_linked;
  two_hops = none_beyond;
  neighbours = λ o. refl;
  losts = λ a. Stays (no_symmetric a) (no_symmetric a) (stays (addr_eq a peer));
}
  where
    links : (i : ℕ) → HasDistinctKeys link_eq (base_of silent.links i)
    links zero = empty_distinct Link link_eq
    links (suc i) = empty_distinct Link link_eq

    two_hops : (i : ℕ) → HasDistinctKeys two_hop_eq (base_of silent.two_hops i)
    two_hops zero = empty_distinct TwoHop two_hop_eq
    two_hops (suc i) = empty_distinct TwoHop two_hop_eq

    none_linked : (i : ℕ) (key : LinkKey) → link_at silent i key ≡ trim 400 (if_live 400 (admit_on settings i 400 (link_at silent i key)))
    none_linked zero key = refl
    none_linked (suc i) key = refl

    none_beyond : (i : ℕ) (key : TwoHopKey) → two_hop_at silent i key ≡ cond (is_symmetric_at silent 400 i key.link) (if_live 400 (two_hop_at silent i key)) None
    none_beyond zero key = refl
    none_beyond (suc i) key = refl

    told : Lost × ℕ
    told = (record {}, 49452)

    stays : (b : Bool) → cond b (Some told) None ≡ if_live 400 (cond b (Some told) None)
    stays true = refl
    stays false = refl

-- Messages

notes_one : (until : ℕ) → SetsOnly {V = Noted} flood_eq [] ((key_of heading, (record {}, until)) ∷ []) (key_of heading) (Some (record {}, until))
notes_one until = sets_one {V = Noted} flood_equiv (key_of heading) (record {}, until) [] (λ q other. refl)

single : (until : ℕ) → HasDistinctKeys {V = Noted} flood_eq ((key_of heading, (record {}, until)) ∷ [])
single until = single_distinct {V = Noted} flood_eq (key_of heading) (record {}, until)

pub message_is_noted : MessageIsNoted
message_is_noted times = record {
  tables = record { received = received; processed = single (200 + times.processed_hold); forwarded = single (200 + times.forwarded_hold) };
  interfaces = refl;
  processed = notes_one (200 + times.processed_hold);
  received = notes_one (200 + times.received_hold);
  others = others;
  forwarded = notes_one (200 + times.forwarded_hold);
}
  where
    received : (i : ℕ) → HasDistinctKeys flood_eq (base_of (noted times).received i)
    received zero = single (200 + times.received_hold)
    received (suc i) = empty_distinct Noted flood_eq

    others : (j : ℕ) → j ≢ 0 → Same flood_eq (base_of quiet.received j) (base_of (noted times).received j)
    others zero other = absurd (other refl)
    others (suc j) other = λ q. refl

pub message_is_passed_over : MessageIsPassedOver
message_is_passed_over times = grind (arith, common_steps, empty_distinct, quiet)

-- TCs

-- a set of one tuple, of the only key that a row gives, where the TC drops what stood
becomes_one : {K V : Type 0} {eq : K → K → Bool} (until : ℕ) (from : K → Addr4) (number : V → ℕ) (Given_by : K → V → Type 0) (k : K) (value : V) (old : Base K V) →
    IsEquivalence eq → ((a b : K) → eq a b ≡ true → a ≡ b) → Given_by k value → ((q : K) (w : V) → Given_by q w → q ≡ k) →
    ((q : K) → if_not_dropped tc (from q) number (find eq old q) ≡ None) → (q : K) → Becomes tc until from number Given_by q (find eq old q) (find eq ((k, (value, until)) ∷ []) q)
becomes_one {eq = eq} until from number Given_by k value old equiv same given only_key dropped q = by_case (eq q k) refl
  where
    by_case : (b : Bool) → eq q k ≡ b → Becomes tc until from number Given_by q (find eq old q) (cond (eq q k) (Some (value, until)) None)
    by_case true h = Given value (subst (λ a. Given_by a value) (sym (same q k h)) given) (rw h refl)
    by_case false h =
        Left (λ w by_row. absurd (let is : eq q k ≡ true = subst (λ a. eq a k ≡ true) (sym (only_key q w by_row)) (equiv.refl k) in cc))
        (let none : cond (eq q k) (Some (value, until)) None ≡ None = rw h refl in none ∙ sym (dropped q))

-- what 10.0.0.1 advertised with the number 6 is dropped
drops : {V : Type 0} (number : V → ℕ) (v : V) → number v ≡ 6 → (from : Addr4) (c : Bool) → if_not_dropped tc from number (cond (addr_eq from peer && c) (Some (v, 500)) None) ≡ None
drops number v six from c = grind (arith, common_steps, peer)

-- the node of a row is that of the only row
node_is : (r : TcRow) (n : NetAddr) → Contains tc.rows r → r.dest ≡ n → n ≡ host third
node_is r n c is = sym is ∙ ap (λ (b : TcRow). b.dest) (only row r c)

-- the tuples that the TC gives
abbrev router : RouterKey
router = record { from = peer; to = third }

abbrev router_tuple : ℕ → Metric → RouterTuple
router_tuple ansn metric = record { ansn = ansn; metric = metric }

abbrev address : AddressKey
address = record { from = peer; addr = third }

abbrev address_tuple : ℕ → Metric → AddressTuple
address_tuple ansn metric = record { ansn = ansn; metric = metric }

abbrev network : NetworkKey
network = record { from = peer; net = host third }

abbrev network_tuple : ℕ → ℕ → Metric → NetworkTuple
network_tuple ansn distance metric = record { ansn = ansn; distance = distance; metric = metric }

-- no row gives another one
router_is : (q : RouterKey) (m : Metric) → GivesRouter tc q m → q ≡ router
router_is q m given =
    let (from, r, stands, dest, _, _) = given in
    let make : Addr4 → Addr4 → RouterKey = λ a b. record { from = a; to = b } in
    both_same make q.from peer q.to third from (ap (λ (n : NetAddr). n.addr) (node_is r (host q.to) stands dest))

address_is : (q : AddressKey) (m : Metric) → GivesAddress tc q m → q ≡ address
address_is q m given =
    let (from, r, stands, dest, _, _) = given in
    let make : Addr4 → Addr4 → AddressKey = λ a b. record { from = a; addr = b } in
    both_same make q.from peer q.addr third from (ap (λ (n : NetAddr). n.addr) (node_is r (host q.addr) stands dest))

network_is : (q : NetworkKey) (d : ℕ) (m : Metric) → GivesNetwork tc q d m → q ≡ network
network_is q d m given = grind (arith, common_steps, both_same, peer, node_is)

pub tc_is_taken : TcIsTaken
tc_is_taken = record {
  distinct = single_distinct {V = Advertiser} addr_eq peer (record { ansn = 7 }, 49352);
  advertisers = sets_one {V = Advertiser} addr_equiv peer (record { ansn = 7 }, 49352) outdated.advertisers (λ q other. rw other refl);
  routers = record {
    distinct = single_distinct router_eq router (router_tuple 7 three, 49352);
    at = becomes_one 49352 (λ (k : RouterKey). k.from) (λ (t : RouterTuple). t.ansn) (λ k t. GivesRouter tc k t.metric × (t.ansn ≡ 7)) router (router_tuple 7 three) outdated.routers
        router_equiv same_router ((refl, row, here row [], refl, refl, refl), refl) (λ q w given. router_is q w.metric given.0)
        (λ q. drops (λ (t : RouterTuple). t.ansn) (router_tuple 6 one) refl q.from (addr_eq q.to me));
  };
  addresses = record {
    distinct = single_distinct address_eq address (address_tuple 7 three, 49352);
    at = becomes_one 49352 (λ (k : AddressKey). k.from) (λ (t : AddressTuple). t.ansn) (λ k t. GivesAddress tc k t.metric × (t.ansn ≡ 7)) address (address_tuple 7 three) outdated.addresses
        address_equiv same_address ((refl, row, here row [], refl, refl, refl), refl) (λ q w given. address_is q w.metric given.0)
        (λ q. drops (λ (t : AddressTuple). t.ansn) (address_tuple 6 one) refl q.from (addr_eq q.addr me));
  };
  networks = record {
    distinct = single_distinct network_eq network (network_tuple 7 2 three, 49352);
    at = becomes_one 49352 (λ (k : NetworkKey). k.from) (λ (t : NetworkTuple). t.ansn) (λ k t. GivesNetwork tc k t.distance t.metric × (t.ansn ≡ 7)) network (network_tuple 7 2 three) outdated.networks
        network_equiv same_network ((refl, row, here row [], refl, refl, refl), refl) (λ q w given. network_is q w.distance w.metric given.0)
        (λ q. drops (λ (t : NetworkTuple). t.ansn) (network_tuple 6 1 one) refl q.from (net_eq q.net (host me)));
  };
}

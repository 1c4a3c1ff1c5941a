-- The rows of a router's TC, and what they say.
use Rattle.mesh_settled.proofs.Common.{common_steps, ◌≡◌, ℕ, ◌<◌, inl, inr, arith, refl, sym, ◌∙◌, ap, subst, length, List, Option, Some, None, Bool, true, false, cond, slice_get, get_or, nat_eq, ◌↔◌, IsTrue, not, Contains, option_map, AllPairs, false≢true, eq-eqb, cases_eq, cases_lt, and_parts as both, and_from, none-some, get_or_from_slice_get, Addr4, NetAddr, Metric, host, net_eq, IsValue, Sound, State, IsOriginator, neighbour_at, looks_up_neighbours, same_net, Claim, TopologyKind, Routers, Addresses, Networks, IsOfSome, IsValueOf, dest_of, is_row_of, claim_by, claim_if, key_at, IsClaimBy, not_before_itself, same_some, cond_none_some, place_of as place_in, no as never}
use Rattle.mesh_atoms.specs.declared.tc.TcRow.{TcRow}
use Rattle.mesh_atoms.specs.declared.tuples.Neighbour.{Neighbour}
use Rattle.mesh_atoms.specs.Advertised.{Advertises, AdvertisesOriginator, AdvertisesNetwork, IsTcRow, Of_address, Of_network}
use Rattle.mesh_atoms.specs.Nodes.{IsBefore}

-- Whether a row is_row_of

net_self : (net : NetAddr) → net_eq net net ≡ true
net_self net = and_from (nat_eq net.addr.0 net.addr.0) (nat_eq net.prefix net.prefix) (eq-eqb net.addr.0 net.addr.0 refl) (eq-eqb net.prefix net.prefix refl)

pub dest_is : (topic : TopologyKind) (net : NetAddr) (row : TcRow) → is_row_of topic net row ≡ true → row.dest ≡ dest_of topic net
dest_is topic net row e = grind (arith, common_steps, same_net)

pub same_key : (topic : TopologyKind) (from : Addr4) (net dest : NetAddr) → dest ≡ dest_of topic net → key_at topic from net ≡ key_at topic from dest
same_key topic from net dest e = grind (arith, common_steps)

-- What a row says

abbrev claim : ℕ → Metric → Option ℕ → Claim
claim ansn m d = record { ansn = ansn; metric = m; distance = d }

says : (ansn : ℕ) (row : TcRow) (m : Metric) (d : Option ℕ) → row.metric ≡ Some m → row.gateway ≡ d → claim_by ansn row ≡ Some (claim ansn m d)
says ansn row m d has gateway = ap (λ (o : Option Metric). option_map (λ n. claim ansn n row.gateway) o) has ∙ ap (λ (g : Option ℕ). Some (claim ansn m g)) gateway

claim_is : (ansn : ℕ) (row : TcRow) (t : Claim) (m : Metric) (d : Option ℕ) → claim_by ansn row ≡ Some t → row.metric ≡ Some m → row.gateway ≡ d → t ≡ claim ansn m d
claim_is ansn row t m d e has gateway = same_some e (says ansn row m d has gateway)

some_if : (b : Bool) (x : Option Claim) (t : Claim) → b ≡ true → x ≡ Some t → cond b x None ≡ Some t
some_if b x t e f = grind (arith, common_steps)

pub value_self : {A : Type 0} (o w : Option A) → o ≡ w → IsValue (λ a. w ≡ Some a) o
value_self o w e = grind (arith, common_steps)

-- Rows in order

before_at : (rows : List TcRow) (k l : ℕ) (row other : TcRow) → AllPairs (λ r t. IsBefore r.dest t.dest) rows → slice_get rows k ≡ Some row → slice_get rows l ≡ Some other → k < l → l < length rows → IsBefore row.dest other.dest
before_at rows k l row other ordered at at' less within =
    subst (λ (r : TcRow). IsBefore r.dest other.dest) (get_or_from_slice_get rows k row row at)
    (subst (λ (r : TcRow). IsBefore (get_or rows k row).dest r.dest) (get_or_from_slice_get rows l other row at') (ordered k l row less within))

one_row : (rows : List TcRow) (row other : TcRow) → AllPairs (λ r t. IsBefore r.dest t.dest) rows → Contains rows row → Contains rows other → row.dest ≡ other.dest → row ≡ other
one_row rows row other ordered has has' same =
    let (k, k_in, at) = place_in rows row has in
    let (l, l_in, at') = place_in rows other has' in
    elim (cases_eq k l) [
      | inl is ↦ same_some at (subst (λ (n : ℕ). slice_get rows n ≡ Some other) (sym is) at')
      | inr apart ↦ elim (cases_lt k l) [
        | inl less ↦ absurd (not_before_itself row.dest other.dest same (before_at rows k l row other ordered at at' less l_in))
        | inr more ↦ absurd (not_before_itself other.dest row.dest (sym same) (before_at rows l k other row ordered at' at (omega (arith, apart, more)) k_in))
      ]
    ]

module _ (q : State) (sound : Sound q) where
  -- whether the row of an address is an originator's
  decided : (a : Addr4) → (b : Bool) × (IsTrue b ↔ AdvertisesOriginator q a)
  decided a = by_found (neighbour_at q.bases.neighbourhood a) refl
    where
      found : (w : AdvertisesOriginator q a) → (u : ℕ) × (neighbour_at q.bases.neighbourhood a ≡ Some (w.1.neighbour, u))
      found w = (looks_up_neighbours q a w.1.neighbour sound.neighbourhood.distinct_neighbours).0 w.1.symmetric.0

      is_it : (e : Neighbour × ℕ) → neighbour_at q.bases.neighbourhood a ≡ Some e → (w : AdvertisesOriginator q a) → w.1.neighbour ≡ e.0
      is_it e is w = ap (λ (x : Neighbour × ℕ). x.0) (same_some (found w).1 is)

      by_all : (e : Neighbour × ℕ) → neighbour_at q.bases.neighbourhood a ≡ Some e → (s r : Bool) (m : Option Metric) → e.0.symmetric ≡ s → e.0.selector ≡ r → e.0.metric_out ≡ m →
          (b : Bool) × (IsTrue b ↔ AdvertisesOriginator q a)
      by_all e is false r m s_is r_is m_is = (false, never (λ w. false≢true (sym s_is ∙ subst (λ (n : Neighbour). IsTrue n.symmetric) (is_it e is w) w.1.symmetric.1)))
      by_all e is true false m s_is r_is m_is = (false, never (λ w. false≢true (sym r_is ∙ subst (λ (n : Neighbour). IsTrue n.selector) (is_it e is w) w.1.selects)))
      by_all e is true true None s_is r_is m_is = (false, never (λ w. none-some w.0 (sym m_is ∙ subst (λ (n : Neighbour). n.metric_out ≡ Some w.0) (is_it e is w) w.1.metric)))
      by_all e is true true (Some m) s_is r_is m_is = (
        true,
        (
          λ _. (
            m,
            record {
              neighbour = e.0;
              symmetric = ((looks_up_neighbours q a e.0 sound.neighbourhood.distinct_neighbours).1 (e.1, is), s_is);
              selects = r_is;
              metric = m_is;
              address = inr refl;
            },
          ),
          λ _. refl,
        ),
      )

      by_found : (o : Option (Neighbour × ℕ)) → neighbour_at q.bases.neighbourhood a ≡ o → (b : Bool) × (IsTrue b ↔ AdvertisesOriginator q a)
      by_found None is = (false, never (λ w. none-some (w.1.neighbour, (found w).0) (sym is ∙ (found w).1)))
      by_found (Some e) is = by_all e is e.0.symmetric e.0.selector e.0.metric_out refl refl refl

  module _ (from : Addr4) (origin : IsOriginator q.settings from) where
    by_row : (topic : TopologyKind) (net : NetAddr) (row : TcRow) (t : Claim) → IsTcRow q row → is_row_of topic net row ≡ true → claim_by q.ansn row ≡ Some t → IsClaimBy q topic from net t
    by_row Routers net row t (Of_address a n dest is_origin routable gateway metric is) fit says_it =
        let addr : a ≡ net.addr = ap (λ (x : NetAddr). x.addr) (sym dest ∙ dest_is Routers net row fit) in (
          record { ansn = q.ansn; metric = n },
          record {
            from = origin;
            to = subst (AdvertisesOriginator q) addr (is_origin.0 (both row.origin _ fit).0);
            metric = subst (λ (b : Addr4). Advertises q b n) addr is;
            ansn = refl;
          },
          claim_is q.ansn row t n None says_it metric gateway,
        )
    by_row Routers net row t (Of_network distance n no_origin routable gateway metric is) fit says_it = absurd (false≢true (sym no_origin ∙ (both row.origin _ fit).0))
    by_row Addresses net row t (Of_address a n dest is_origin routable gateway metric is) fit says_it =
        let addr : a ≡ net.addr = ap (λ (x : NetAddr). x.addr) (sym dest ∙ dest_is Addresses net row fit) in (
          record { ansn = q.ansn; metric = n },
          record { from = origin; metric = subst (λ (b : Addr4). Advertises q b n) addr is; ansn = refl },
          claim_is q.ansn row t n None says_it metric gateway,
        )
    by_row Addresses net row t (Of_network distance n no_origin routable gateway metric is) fit says_it = absurd (false≢true (sym routable ∙ (both row.routable _ fit).0))
    by_row Networks net row t (Of_address a n dest is_origin routable gateway metric is) fit says_it =
        absurd (false≢true (sym (ap not routable) ∙ (both (not row.routable) _ fit).0))
    by_row Networks net row t (Of_network distance n no_origin routable gateway metric is) fit says_it = (
      record { ansn = q.ansn; distance = distance; metric = n },
      record { from = origin; row = subst (λ (d : NetAddr). AdvertisesNetwork q d distance n) (dest_is Networks net row fit) is; ansn = refl },
      claim_is q.ansn row t n (Some distance) says_it metric gateway,
    )

  abbrev GivesRow : TopologyKind → NetAddr → Claim → TcRow → Type 0
  GivesRow topic net t row = Contains q.rows row × (is_row_of topic net row ≡ true) × (claim_by q.ansn row ≡ Some t)

  says_again : (n : ℕ) (m : Metric) (d : Option ℕ) (t : Claim) → n ≡ q.ansn → t ≡ claim n m d → Some (claim q.ansn m d) ≡ Some t
  says_again n m d t ansn is = ap (λ (k : ℕ). Some (claim k m d)) (sym ansn) ∙ ap (λ (u : Claim). Some u) (sym is)

  pub of_row : (from : Addr4) (topic : TopologyKind) (net : NetAddr) (t : Claim) → IsClaimBy q topic from net t → (row : TcRow) × GivesRow topic net t row
  of_row from Routers net t (u, by, is) =
      let row : TcRow = record { dest = host net.addr; origin = true; routable = true; gateway = None; metric = Some u.metric } in
      (row, ((sound.rows.exactly row).1 (Of_address net.addr u.metric refl (λ _. by.to, λ _. refl) refl refl refl by.metric), net_self (host net.addr), says_again u.ansn u.metric None t by.ansn is))
  of_row from Addresses net t (u, by, is) =
      let (b, test) = decided net.addr in
      let row : TcRow = record { dest = host net.addr; origin = b; routable = true; gateway = None; metric = Some u.metric } in
      (row, ((sound.rows.exactly row).1 (Of_address net.addr u.metric refl test refl refl refl by.metric), net_self (host net.addr), says_again u.ansn u.metric None t by.ansn is))
  of_row from Networks net t (u, by, is) =
      let row : TcRow = record { dest = net; origin = false; routable = false; gateway = Some u.distance; metric = Some u.metric } in
      (row, ((sound.rows.exactly row).1 (Of_network u.distance u.metric refl refl refl refl by.row), net_self net, says_again u.ansn u.metric (Some u.distance) t by.ansn is))

  pub claim_found : (from : Addr4) → IsOriginator q.settings from → (topic : TopologyKind) (net : NetAddr) (o : Option Claim) → IsValue (IsOfSome (λ (row : TcRow) (t : Claim). claim_if topic net q.ansn row ≡ Some t) q.rows) o →
      IsValueOf (IsClaimBy q topic from net) o
  claim_found from origin topic net None none = λ t w. let r = of_row from topic net t w in none t (r.0, r.1.0, some_if (is_row_of topic net r.0) (claim_by q.ansn r.0) t r.1.1 r.1.2)
  claim_found from origin topic net (Some t) (row, has, is) =
      let (fit, says_it) = cond_none_some (is_row_of topic net row) (claim_by q.ansn row) t is in (
        by_row from origin topic net row t ((sound.rows.exactly row).0 has) fit says_it,
        λ u w.
            let r = of_row from topic net u w in
            let same : r.0 ≡ row = one_row q.rows r.0 row sound.rows.ordered r.1.0 has (dest_is topic net r.0 r.1.1 ∙ sym (dest_is topic net row fit)) in
            same_some (subst (λ (x : TcRow). claim_by q.ansn x ≡ Some u) same r.1.2) says_it,
      )

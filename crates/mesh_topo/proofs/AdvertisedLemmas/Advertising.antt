-- The rows of what is offered are the rows that a router advertises.
use Rattle.mesh_topo.proofs.Common.{◌≡◌, ◌≤◌, not, ◌⊎◌, ◌↔◌, inl, inr, Bool, true, false, cond, List, [], ◌∷◌, map, Option, Some, None, refl, sym, ap, subst, ◌∙◌, arith, Contains, IsTrue, flat_map, is_none, common_steps, list_any, is_eq, BTreeMap, get, IsOrdered, cases_Bool, and_parts as both, Addr4, NetAddr, Metric, TcRow, GivesAsSelector, AdvertisesBy, AdvertisesOriginatorBy, IsRowBy, Of_address, Of_network, AreRowsBy, AreTcRows, host, net_eq, metric_value, State, HasSymmetric, cost-injective, Offer, Selector, net_cmp, offered, of_address, of_selector, of_network, row_of, net_total, net_exact, same_at, at_same, contains_head as at_head, contains_tail as in_tail, contains_cases, contains_none as none_in, contains_map as in_map, contains_map_cases as from_map, contains_flat_map as in_each, contains_flat_map_cases, same_metric, list_any_at}
use Rattle.std.proofs.lemmas.Map.Views.{btree_map_get_iff}
use Rattle.mesh_atoms.specs.declared.settings.Attached4.{Attached4}
use Rattle.mesh_atoms.specs.Settings.{are_distinct}
use Rattle.mesh_topo.specs.Advertised.Selectors.{AreSelectors, SelectorGives}
use Rattle.mesh_topo.proofs.AdvertisedLemmas.Best.{Best, SumsUp, sums_as, sums_all}
use Rattle.mesh_topo.proofs.AdvertisedLemmas.RowOrder.{ascending_rows}
use Rattle.mesh_atoms.proofs.Values.{same_host, net_itself}

-- ---- selectors

-- a selector has the address, or is of that originator
abbrev pub HasAddr : Selector → Addr4 → Type 0
HasAddr x a = Contains x.addrs a ⊎ (a ≡ x.originator)

-- what a selector offers of a node: it is one of its addresses, at its metric
record OfferedBy (x : Selector) (net : NetAddr) (e : Offer) : Type 0 where
  pub addr : Addr4
  pub node : net ≡ host addr
  pub has : HasAddr x addr
  pub gateway : e.gateway ≡ None
  pub metric : e.metric ≡ x.metric
  pub origin : IsTrue e.origin → addr ≡ x.originator

by_selector : (x : Selector) (net : NetAddr) (e : Offer) → Contains (of_selector x) (net, e) → OfferedBy x net e
by_selector x net e has = elim (contains_cases (of_address true x.metric x.originator) (map (of_address false x.metric) x.addrs) (net, e) has) [
  | inl same ↦ record {
    addr = x.originator;
    node = sym (ap (λ (y : NetAddr × Offer). y.0) same);
    has = inr refl;
    gateway = sym (ap (λ (y : NetAddr × Offer). y.1.gateway) same);
    metric = sym (ap (λ (y : NetAddr × Offer). y.1.metric) same);
    origin = λ _. refl;
  }
  | inr later ↦
      let (a, there, same) = from_map (of_address false x.metric) x.addrs (net, e) later in
      record {
        addr = a;
        node = sym (ap (λ (y : NetAddr × Offer). y.0) same);
        has = inl there;
        gateway = sym (ap (λ (y : NetAddr × Offer). y.1.gateway) same);
        metric = sym (ap (λ (y : NetAddr × Offer). y.1.metric) same);
        origin = λ t. absurd (let f : false ≡ e.origin = ap (λ (y : NetAddr × Offer). y.1.origin) same in cc);
      }
]

-- an offer of each address
of_addr : (x : Selector) (a : Addr4) → HasAddr x a → (e : Offer) × Contains (of_selector x) (host a, e) × (e.metric ≡ x.metric)
of_addr x a (inl there) = (record { origin = false; gateway = None; metric = x.metric }, in_tail _ _ _ (in_map (of_address false x.metric) x.addrs a there), refl)
of_addr x a (inr same) = (
  record { origin = true; gateway = None; metric = x.metric },
  subst (λ (b : Addr4). Contains (of_selector x) (host b, record { origin = true; gateway = None; metric = x.metric })) (sym same) (at_head _ _),
  refl,
)

-- what a selector gives
gives_of : (selectors : List Selector) (x : Selector) → Contains selectors x → (a : Addr4) → HasAddr x a → SelectorGives selectors a x.originator x.metric
gives_of selectors x there a has = record { selector = x; stands = there; originator = refl; metric = refl; address = has }

-- the selector that gives something
selector_of : (selectors : List Selector) (a o : Addr4) (m : Metric) → SelectorGives selectors a o m → (x : Selector) × Contains selectors x × (x.originator ≡ o) × (x.metric ≡ m) × HasAddr x a
selector_of selectors a o m g = (g.selector, g.stands, g.originator, g.metric, elim g.address [ inl among ↦ inl among | inr same ↦ inr (same ∙ sym g.originator) ])

-- ---- attached networks

-- networks give way to what is there
gives_way : (net : NetAddr) (attached : List Attached4) (o : Offer) → offered net (map of_network attached) (Some o) ≡ Some o
gives_way net [] o = refl
gives_way net (x ∷ xs) o = grind (arith, common_steps, gives_way net xs o)

-- what is offered of a node by networks is a network's
by_network : (net : NetAddr) (attached : List Attached4) (o : Offer) → offered net (map of_network attached) None ≡ Some o → (a : Attached4) × Contains attached a × (a.net ≡ net) × (o ≡ (of_network a).1)
by_network net [] o e = absurd cc
by_network net (x ∷ xs) o e = by_net (is_eq (net_cmp x.net net)) refl (λ h. by_network net xs o h) e where
  by_net : (b : Bool) → is_eq (net_cmp x.net net) ≡ b → (offered net (map of_network xs) None ≡ Some o → (a : Attached4) × Contains xs a × (a.net ≡ net) × (o ≡ (of_network a).1)) →
      offered net (map of_network xs) (cond b (Some (of_network x).1) None) ≡ Some o → (a : Attached4) × Contains (x ∷ xs) a × (a.net ≡ net) × (o ≡ (of_network a).1)
  by_net true is others e =
      let first : Some (of_network x).1 ≡ Some o = sym (gives_way net xs (of_network x).1) ∙ e in
      let same : (of_network x).1 ≡ o = cc in
      (x, at_head x xs, same_at x.net net is, sym same)
  by_net false is others e = let (a, there, at, same) = others e in (a, in_tail x xs a there, at, same)

-- a network among distinct ones is what is offered of it
of_its_net : (attached : List Attached4) (a : Attached4) → IsTrue (are_distinct net_eq (map (λ x. x.net) attached)) → Contains attached a → offered a.net (map of_network attached) None ≡ Some (of_network a).1
of_its_net [] a distinct has = absurd (none_in a has)
of_its_net (x ∷ xs) a distinct has = elim (contains_cases x xs a has) [
  | inl same ↦
      let here : is_eq (net_cmp x.net a.net) ≡ true = at_same x.net a.net (ap (λ (y : Attached4). y.net) same) in
      ap (λ (b : Bool). offered a.net (map of_network xs) (cond b (Some (of_network x).1) None)) here ∙ gives_way a.net xs (of_network x).1 ∙ ap (λ (y : Attached4). Some (of_network y).1) same
  | inr later ↦
      let (first, rest) = both (not (list_any (net_eq x.net) (map (λ (y : Attached4). y.net) xs))) (are_distinct net_eq (map (λ (y : Attached4). y.net) xs)) distinct in
      elim (cases_Bool (is_eq (net_cmp x.net a.net))) [
        | inl e ↦ absurd (
            let among = in_map (λ (y : Attached4). y.net) xs a later in
            let there = list_any_at (net_eq x.net) (map (λ (y : Attached4). y.net) xs) among.0 a.net among.1 (rw among.2 (net_itself x.net a.net (same_at x.net a.net e))) in
            let none : not true ≡ true = sym (ap not there) ∙ first in
            cc)
        | inr apart ↦ ap (λ (b : Bool). offered a.net (map of_network xs) (cond b (Some (of_network x).1) None)) apart ∙ of_its_net xs a rest later
      ]
]

-- ---- rows

-- metrics of one cost are one
same_cost : (a b : Metric) → metric_value a ≤ metric_value b → metric_value b ≤ metric_value a → a ≡ b
same_cost a b le ge = same_metric a b (cost-injective a.code b.code (omega arith))

same_test : (a b : Bool) → IsTrue a ↔ IsTrue b → a ≡ b
same_test a b h = grind (arith, common_steps)

row_is : (row : TcRow) (o : Offer) → row.origin ≡ o.origin → row.routable ≡ is_none o.gateway → row.gateway ≡ o.gateway → row.metric ≡ Some o.metric → row_of (row.dest, o) ≡ row
row_is row o origin routable gateway metric = grind (arith, common_steps, origin, gateway, metric)

-- what is advertised of a node
record OfNode (selectors : List Selector) (net : NetAddr) (o : Offer) : Type 0 where
  pub addr : Addr4
  pub node : net ≡ host addr
  pub metric : AdvertisesBy (SelectorGives selectors) addr o.metric
  pub origin : IsTrue o.origin ↔ AdvertisesOriginatorBy (SelectorGives selectors) addr
  pub gateway : o.gateway ≡ None

module _ (selectors : List Selector) where
  abbrev Of : NetAddr → Offer → Type 0
  Of net e = Contains (flat_map of_selector selectors) (net, e)

  no_gateway : (e : NetAddr × Offer) → Contains (flat_map of_selector selectors) e → e.1.gateway ≡ None
  no_gateway e has = let (x, there, inside) = contains_flat_map_cases of_selector selectors e has in (by_selector x e.0 e.1 inside).gateway

  sums : (net : NetAddr) → SumsUp (Of net) (offered net (flat_map of_selector selectors) None)
  sums net = sums_as (λ e. ⊥ ⊎ Of net e) (Of net) (offered net (flat_map of_selector selectors) None) (λ e has. elim has [ inl never ↦ absurd never | inr inside ↦ inside ]) (λ e inside. inr inside)
      (sums_all net (flat_map of_selector selectors) (λ _. ⊥) None no_gateway (λ e never. never))

  -- what is given is offered
  offers : (net : NetAddr) (a o : Addr4) (m : Metric) → net ≡ host a → SelectorGives selectors a o m → (e : Offer) × Of net e × (e.metric ≡ m)
  offers net a o m node g =
      let (x, there, by, metric, has) = selector_of selectors a o m g in
      let (e, inside, same) = of_addr x a has in
      (e, subst (λ (n : NetAddr). Of n e) (sym node) (in_each of_selector selectors x (host a, e) there inside), same ∙ metric)

  advertised : (net : NetAddr) (o : Offer) → Best (Of net) o → OfNode selectors net o
  advertised net o best =
      let (e, has, metric) = best.from in
      let (x, there, inside) = contains_flat_map_cases of_selector selectors (net, e) has in
      let b : OfferedBy x net e = by_selector x net e inside in
      record {
        addr = b.addr;
        node = b.node;
        metric = record {
          giver = x.originator;
          given = subst (λ (m : Metric). SelectorGives selectors b.addr x.originator m) (sym b.metric ∙ metric) (gives_of selectors x there b.addr b.has);
          least = λ p n g.
              let (f, among, same) = offers net b.addr p n b.node g in
              subst (λ (m : Metric). metric_value o.metric ≤ metric_value m) same (best.least f among);
        };
        origin = (
          λ t.
              (let (f, among, is) = best.origin.0 t in
              let (y, stands, within) = contains_flat_map_cases of_selector selectors (net, f) among in
              let d : OfferedBy y net f = by_selector y net f within in
              let same : d.addr ≡ b.addr = same_host d.addr b.addr (sym d.node ∙ b.node) in
              let own : y.originator ≡ b.addr = sym (d.origin is) ∙ same in
              (y.metric, subst (λ (p : Addr4). SelectorGives selectors b.addr p y.metric) own (gives_of selectors y stands b.addr (inr (sym own))))),
          λ (m, g).
              (let (y, stands, by, metric, has) = selector_of selectors b.addr b.addr m g in
              let own : Offer = record { origin = true; gateway = None; metric = y.metric } in
              let at : host y.originator ≡ net = ap host by ∙ sym b.node in
              best.origin.1 (own, subst (λ (n : NetAddr). Of n own) at (in_each of_selector selectors y (host y.originator, own) stands (at_head _ _)), refl)),
        );
        gateway = best.gateway;
      }

  -- what is offered of a node by selectors, if anything
  by_selectors : (net : NetAddr) (p : Option Offer) → offered net (flat_map of_selector selectors) None ≡ p → SumsUp (Of net) p
  by_selectors net p e = subst (SumsUp (Of net)) e (sums net)

  -- an address without an offer is not advertised
  not_advertised : (net : NetAddr) (a : Addr4) (m : Metric) → offered net (flat_map of_selector selectors) None ≡ None → net ≡ host a → AdvertisesBy (SelectorGives selectors) a m → ⊥
  not_advertised net a m none node adv = let (e, among, _) = offers net a adv.giver m node adv.given in by_selectors net None none e among

  module _ (attached : List Attached4) (distinct : IsTrue (are_distinct net_eq (map (λ a. a.net) attached))) where
    abbrev at_node : NetAddr → Option Offer
    at_node net = offered net (map of_network attached) (offered net (flat_map of_selector selectors) None)

    -- a row of a node that something is offered of
    is_row : (net : NetAddr) (o : Offer) → at_node net ≡ Some o → IsRowBy (SelectorGives selectors) attached (row_of (net, o))
    is_row net o e = by_case (offered net (flat_map of_selector selectors) None) refl e where
      by_case : (p : Option Offer) → offered net (flat_map of_selector selectors) None ≡ p → offered net (map of_network attached) p ≡ Some o → IsRowBy (SelectorGives selectors) attached (row_of (net, o))
      by_case (Some f) is e =
          let both_are : Some f ≡ Some o = sym (gives_way net attached f) ∙ e in
          let adv : OfNode selectors net o = advertised net o (by_selectors net (Some o) (is ∙ both_are)) in
          Of_address adv.addr o.metric adv.node adv.origin (ap is_none adv.gateway) adv.gateway refl adv.metric
      by_case None is e =
          let (a, there, at, same) = by_network net attached o e in
          Of_network a.distance a.metric (ap (λ (f : Offer). f.origin) same) (ap (λ (f : Offer). is_none f.gateway) same) (ap (λ (f : Offer). f.gateway) same) (ap (λ (f : Offer). Some f.metric) same) (record {
            attached = a;
            stands = there;
            at_net = at;
            at_distance = refl;
            at_metric = refl;
            no_address = λ b n adv node. not_advertised net b n is node adv;
          })

    -- what is offered of the node of a row
    of_row : (row : TcRow) → IsRowBy (SelectorGives selectors) attached row → (o : Offer) × (at_node row.dest ≡ Some o) × (row_of (row.dest, o) ≡ row)
    of_row row (Of_address a m dest origin routable gateway metric adv) = by_case (offered row.dest (flat_map of_selector selectors) None) refl where
      by_case : (p : Option Offer) → offered row.dest (flat_map of_selector selectors) None ≡ p → (o : Offer) × (at_node row.dest ≡ Some o) × (row_of (row.dest, o) ≡ row)
      by_case None is = absurd (not_advertised row.dest a m is dest adv)
      by_case (Some o) is =
          let found : OfNode selectors row.dest o = advertised row.dest o (by_selectors row.dest (Some o) is) in
          let same : found.addr ≡ a = same_host found.addr a (sym found.node ∙ dest) in
          let here : AdvertisesBy (SelectorGives selectors) a o.metric = subst (λ (b : Addr4). AdvertisesBy (SelectorGives selectors) b o.metric) same found.metric in
          let cost : m ≡ o.metric = same_cost m o.metric (adv.least here.giver o.metric here.given) (here.least adv.giver m adv.given) in
          let own : IsTrue o.origin ↔ AdvertisesOriginatorBy (SelectorGives selectors) a = subst (λ (b : Addr4). IsTrue o.origin ↔ AdvertisesOriginatorBy (SelectorGives selectors) b) same found.origin in (
            o,
            ap (λ (p : Option Offer). offered row.dest (map of_network attached) p) is ∙ gives_way row.dest attached o,
            row_is row o (same_test row.origin o.origin (λ t. own.1 (origin.0 t), λ t. origin.1 (own.0 t))) (routable ∙ sym (ap is_none found.gateway)) (gateway ∙ sym found.gateway) (metric ∙ ap Some cost),
          )
    of_row row (Of_network distance m origin routable gateway metric adv) = by_case (offered row.dest (flat_map of_selector selectors) None) refl where
      by_case : (p : Option Offer) → offered row.dest (flat_map of_selector selectors) None ≡ p → (o : Offer) × (at_node row.dest ≡ Some o) × (row_of (row.dest, o) ≡ row)
      by_case (Some o) is = absurd (let found : OfNode selectors row.dest o = advertised row.dest o (by_selectors row.dest (Some o) is) in adv.no_address found.addr o.metric found.metric found.node)
      by_case None is =
          let a : Attached4 = adv.attached in
          let there : Contains attached a = adv.stands in
          let o : Offer = (of_network a).1 in (
            o,
            ap (λ (p : Option Offer). offered row.dest (map of_network attached) p) is ∙ subst (λ (n : NetAddr). offered n (map of_network attached) None ≡ Some o) adv.at_net (of_its_net attached a distinct there),
            row_is row o origin routable (gateway ∙ ap Some (sym adv.at_distance)) (metric ∙ ap Some (sym adv.at_metric)),
          )

    -- the rows of a map that has what is offered
    pub are_rows : (m : BTreeMap NetAddr Offer) (rows : List TcRow) → IsOrdered net_cmp m → ((net : NetAddr) → get net_cmp m net ≡ at_node net) → rows ≡ map row_of m.entries → AreRowsBy (SelectorGives selectors) attached rows
    are_rows m rows ordered has all = subst (AreRowsBy (SelectorGives selectors) attached) (sym all) (record {
      exactly = λ row. (
        λ among.
            (let (e, inside, is) = from_map row_of m.entries row among in
            subst (IsRowBy (SelectorGives selectors) attached) is (is_row e.0 e.1 (sym (has e.0) ∙ (btree_map_get_iff net_total net_exact m ordered e.0 e.1).1 inside))),
        λ row_is.
            (let (o, at, is) = of_row row row_is in
            subst (λ (r : TcRow). Contains (map row_of m.entries) r) is (in_map row_of m.entries (row.dest, o) ((btree_map_get_iff net_total net_exact m ordered row.dest o).0 (has row.dest ∙ at)))),
      );
      ordered = ascending_rows m.entries ordered;
    })

-- ---- a router's rows

module _ (gives gives' : Addr4 → Addr4 → Metric → Type 0) (same : (a o : Addr4) (m : Metric) → gives a o m ↔ gives' a o m) where
  same_advertised : (a : Addr4) (m : Metric) → AdvertisesBy gives a m → AdvertisesBy gives' a m
  same_advertised a m adv = record { giver = adv.giver; given = (same a adv.giver m).0 adv.given; least = λ o n g. adv.least o n ((same a o n).1 g) }

  same_origin : (a : Addr4) → AdvertisesOriginatorBy gives a → AdvertisesOriginatorBy gives' a
  same_origin a (m, g) = (m, (same a a m).0 g)

-- the rows are those by the same that is given
module _ (gives gives' : Addr4 → Addr4 → Metric → Type 0) (same : (a o : Addr4) (m : Metric) → gives a o m ↔ gives' a o m) (networks : List Attached4) where
  back : (a o : Addr4) (m : Metric) → gives' a o m ↔ gives a o m
  back a o m = ((same a o m).1, (same a o m).0)

  pub same_row : (row : TcRow) → IsRowBy gives networks row → IsRowBy gives' networks row
  same_row row (Of_address a m dest origin routable gateway metric adv) =
      Of_address a m dest (λ t. same_origin gives gives' same a (origin.0 t), λ o. origin.1 (same_origin gives' gives back a o)) routable gateway metric (same_advertised gives gives' same a m adv)
  same_row row (Of_network distance m origin routable gateway metric adv) = Of_network distance m origin routable gateway metric (record {
    attached = adv.attached;
    stands = adv.stands;
    at_net = adv.at_net;
    at_distance = adv.at_distance;
    at_metric = adv.at_metric;
    no_address = λ a n b. adv.no_address a n (same_advertised gives' gives back a n b);
  })

-- what a router's neighbours give is what its selectors give
router_gives : (s : State) (selectors : List Selector) → AreSelectors s selectors → (a o : Addr4) (m : Metric) → SelectorGives selectors a o m ↔ GivesAsSelector s a o m
router_gives s selectors are a o m = (
  λ g.
      (let (neighbour, (symmetric, selects, metric), (_, _, addrs)) = are.each g.selector g.stands in
      record {
        neighbour = neighbour;
        symmetric = subst (λ (p : Addr4). HasSymmetric s p neighbour) g.originator symmetric;
        selects = selects;
        metric = metric ∙ ap Some g.metric;
        address = elim g.address [ inl among ↦ inl ((addrs a).0 among) | inr is ↦ inr is ];
      }),
  λ g.
      (let (x, there, (by, metric, addrs)) = are.all o g.neighbour m (g.symmetric, g.selects, g.metric) in
      record { selector = x; stands = there; originator = by; metric = metric; address = elim g.address [ inl among ↦ inl ((addrs a).1 among) | inr is ↦ inr is ] }),
)

-- the rows by a router's selectors and its networks are the rows that it advertises
pub router_rows : (s : State) (selectors : List Selector) (attached : List Attached4) (rows : List TcRow) → AreRowsBy (SelectorGives selectors) attached rows →
    AreSelectors s selectors → s.settings.attached ≡ attached → AreTcRows s rows
router_rows s selectors attached rows are_by are attaches = subst (λ (l : List Attached4). AreRowsBy (GivesAsSelector s) l rows) (sym attaches) (record {
  exactly = λ row. (
    λ among. same_row (SelectorGives selectors) (GivesAsSelector s) (router_gives s selectors are) attached row ((are_by.exactly row).0 among),
    λ is. (are_by.exactly row).1 (same_row (GivesAsSelector s) (SelectorGives selectors) (back (SelectorGives selectors) (GivesAsSelector s) (router_gives s selectors are) attached) attached row is),
  );
  ordered = are_by.ordered;
})

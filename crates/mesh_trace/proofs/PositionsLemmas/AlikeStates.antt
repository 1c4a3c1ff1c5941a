-- Routers that are alike hold the same tuples, say the same, and have the same graphs and rows.
use Rattle.mesh_trace.proofs.Common.{common_steps, ◌≡◌, ◌↔◌, ℕ, suc, inl, inr, refl, sym, ◌∙◌, ap, subst, arith, List, [], ◌∷◌, Option, Some, Contains, slice_get, Bool, true, ◌⊎◌, IsEquivalence, AllPairs, Addr4, Metric, NeighbourGraph, Hello, HelloRow, RouterSettings, TcRow, LinkKey, Link, Neighbour, Relays, TwoHop, TwoHopKey, GivesAsSelector, IsRowBy, AreTcRows, Base, Has, HasDistinctKeys, Same, base_of, Part, This_if, Other_if, Link_lost, Link_symmetric, Link_heard, Other_lost, Other_symmetric, Link_in, Link_out, Near_in, Near_out, HasLinkTo, SaysLink, Says, IsHelloRow, IsHelloNow, local_part, link_part, other_part, IsBefore, IsRoutingGraph, IsFloodingGraph, SoundNeighbourhood, State, HasLink, HasTwoHop, HasSymmetric, HasAddressOn, IsOriginator, IsValue, has_found, has_found_on, addr_equiv, same_addr, link_equiv, same_link, two_hop_equiv, same_two_hop, same_row, AlikeNear, AlikeStates, contains_cases}
use Rattle.mesh_atoms.specs.declared.settings.Attached4.{Attached4}
use Rattle.mesh_atoms.specs.declared.tuples.LinkState.{LinkState}
use Rattle.mesh_atoms.specs.declared.tuples.Lost.{Lost}
use Rattle.mesh_atoms.specs.Hello.{Flooding, Routing}
use Rattle.mesh_routes.specs.Staying.{SameWays}
use Rattle.mesh_routes.proofs.StayingLaw.{graphs_stay}
use Rattle.mesh_trace.proofs.PositionsLemmas.AlikeBases.{bases_back}

pub states_back : (s t : State) → AlikeStates s t → AlikeStates t s
states_back s t h = grind (arith, common_steps, bases_back)

-- ---- the same tuples

has_by : {K V : Type 0} {eq : K → K → Bool} → IsEquivalence eq → ((k l : K) → eq k l ≡ true → k ≡ l) → (a b : Base K V) (key : K) (value : V) → HasDistinctKeys eq a → HasDistinctKeys eq b → Same eq a b →
    Has a key value → Has b key value
has_by equiv same a b key value one other alike has =
    let (until, at) = (has_found equiv same a key value one).0 has in (has_found equiv same b key value other).1 (until, alike key ∙ at)

has_on_by : {K V : Type 0} {eq : K → K → Bool} → IsEquivalence eq → ((k l : K) → eq k l ≡ true → k ≡ l) → (one_bases other_bases : List (Base K V)) (i : ℕ) (key : K) (value : V) →
    HasDistinctKeys eq (base_of one_bases i) → HasDistinctKeys eq (base_of other_bases i) → Same eq (base_of one_bases i) (base_of other_bases i) →
    ((base : Base K V) × (slice_get one_bases i ≡ Some base) × Has base key value) → ((base : Base K V) × (slice_get other_bases i ≡ Some base) × Has base key value)
has_on_by equiv same one_bases other_bases i key value one other alike has =
    let (until, at) = (has_found_on equiv same one_bases i key value one).0 has in (has_found_on equiv same other_bases i key value other).1 (until, alike key ∙ at)

-- what the one holds, the other does
pub record HoldsAlso (s t : State) : Type 0 where
  pub settings : t.settings ≡ s.settings
  pub relays : t.relays ≡ s.relays
  pub links : (i : ℕ) (key : LinkKey) (link : Link) → HasLink s i key link → HasLink t i key link
  pub two_hops : (i : ℕ) (key : TwoHopKey) (x : TwoHop) → HasTwoHop s i key x → HasTwoHop t i key x
  pub neighbours : (o : Addr4) (n : Neighbour) → HasSymmetric s o n → HasSymmetric t o n
  pub losts : (a : Addr4) (lost : Lost) → Has s.bases.neighbourhood.losts a lost → Has t.bases.neighbourhood.losts a lost

pub holds_by : (s t : State) → SoundNeighbourhood s.settings s.last s.bases.neighbourhood → SoundNeighbourhood t.settings t.last t.bases.neighbourhood → t.settings ≡ s.settings → t.relays ≡ s.relays →
    AlikeNear s.bases.neighbourhood t.bases.neighbourhood → HoldsAlso s t
holds_by s t one other settings relays near = record {
  settings = settings;
  relays = relays;
  links = λ i key link has.
      has_on_by link_equiv same_link s.bases.neighbourhood.links t.bases.neighbourhood.links i key link (one.distinct_links i) (other.distinct_links i) (near.links i) has;
  two_hops = λ i key x has.
      has_on_by two_hop_equiv same_two_hop s.bases.neighbourhood.two_hops t.bases.neighbourhood.two_hops i key x (one.two_hops i).distinct (other.two_hops i).distinct (near.two_hops i) has;
  neighbours = λ o n has.
      (has_by addr_equiv same_addr s.bases.neighbourhood.neighbours t.bases.neighbourhood.neighbours o n one.distinct_neighbours other.distinct_neighbours near.neighbours has.0, has.1);
  losts = λ a lost has.
      has_by addr_equiv same_addr s.bases.neighbourhood.losts t.bases.neighbourhood.losts a lost one.distinct_losts other.distinct_losts near.losts has;
}

pub holds_also : (s t : State) → SoundNeighbourhood s.settings s.last s.bases.neighbourhood → SoundNeighbourhood t.settings t.last t.bases.neighbourhood → AlikeStates s t → HoldsAlso s t
holds_also s t one other alike = holds_by s t one other alike.settings alike.relays alike.bases.neighbourhood

-- ---- the same HELLO

link_to_by : (s t : State) → HoldsAlso s t → (i now : ℕ) (a : Addr4) (state : LinkState) (link : Link) → HasLinkTo s i now a state link → HasLinkTo t i now a state link
link_to_by s t h i now a state link (key, has, among, is) = (key, h.links i key link has, among, is)

says_link_by : (s t : State) → HoldsAlso s t → (i now : ℕ) (a : Addr4) (state : LinkState) → SaysLink s i now a state → SaysLink t i now a state
says_link_by s t h i now a state (link, has) = (link, link_to_by s t h i now a state link has)

pub says_by : (s t : State) → HoldsAlso s t → HoldsAlso t s → (i now : ℕ) (a : Addr4) (part : Part) → Says s i now a part → Says t i now a part
says_by s t h k i now a This_if x = subst (λ (r : RouterSettings). HasAddressOn r i a) (sym h.settings) x
says_by s t h k i now a Other_if (j, other, x) = (j, other, subst (λ (r : RouterSettings). HasAddressOn r j a) (sym h.settings) x)
says_by s t h k i now a Link_lost x = says_link_by s t h i now a _ x
says_by s t h k i now a Link_symmetric x = says_link_by s t h i now a _ x
says_by s t h k i now a Link_heard x = says_link_by s t h i now a _ x
says_by s t h k i now a Other_lost (lost, has) = (lost, h.losts a lost has)
says_by s t h k i now a Other_symmetric ((o, n, (has, among)), no_link) = ((o, n, (h.neighbours o n has, among)), λ x. no_link (says_link_by t s k i now a _ x))
says_by s t h k i now a (Link_in m) (link, inl x, is) = (link, inl (link_to_by s t h i now a _ link x), is)
says_by s t h k i now a (Link_in m) (link, inr x, is) = (link, inr (link_to_by s t h i now a _ link x), is)
says_by s t h k i now a (Link_out m) (link, x, is) = (link, link_to_by s t h i now a _ link x, is)
says_by s t h k i now a (Near_in m) (o, n, (has, among), is) = (o, n, (h.neighbours o n has, among), is)
says_by s t h k i now a (Near_out m) (o, n, (has, among), is) = (o, n, (h.neighbours o n has, among), is)
says_by s t h k i now a Flooding (link, x, o, n, b, among, (has, within), relays, at, chosen) =
    (link, link_to_by s t h i now a _ link x, o, n, b, among, (h.neighbours o n has, within), relays, subst (λ (r : Relays). slice_get r.flooding i ≡ Some relays) (sym h.relays) at, chosen)
says_by s t h k i now a Routing (o, n, (has, among), chosen) = (o, n, (h.neighbours o n has, among), subst (λ (r : Relays). Contains r.routing o) (sym h.relays) chosen)

value_by : {A : Type 0} (P Q : A → Type 0) → ((x : A) → P x → Q x) → ((x : A) → Q x → P x) → (v : Option A) → IsValue P v → IsValue Q v
value_by P Q to back v h = grind (arith, common_steps)

module _ (s t : State) (h : HoldsAlso s t) (k : HoldsAlso t s) (i now : ℕ) where
  to : (a : Addr4) (part : Part) → Says s i now a part → Says t i now a part
  to = says_by s t h k i now

  back : (a : Addr4) (part : Part) → Says t i now a part → Says s i now a part
  back = says_by t s k h i now

  part_by : {A : Type 0} (part : A → Part) (a : Addr4) (v : Option A) → IsValue (λ x. Says s i now a (part x)) v → IsValue (λ x. Says t i now a (part x)) v
  part_by part a v is = value_by (λ x. Says s i now a (part x)) (λ x. Says t i now a (part x)) (λ x. to a (part x)) (λ x. back a (part x)) v is

  row_by : (row : HelloRow) (a : Addr4) → IsHelloRow s i now row a → IsHelloRow t i now row a
  row_by row a is = record {
    addr = is.addr;
    some = (is.some.0, to a is.some.0 is.some.1);
    local = part_by local_part a row.local is.local;
    link = part_by link_part a row.link is.link;
    other = part_by other_part a row.other is.other;
    link_in = part_by (λ m. Link_in m) a row.metrics.link_in is.link_in;
    link_out = part_by (λ m. Link_out m) a row.metrics.link_out is.link_out;
    near_in = part_by (λ m. Near_in m) a row.metrics.near_in is.near_in;
    near_out = part_by (λ m. Near_out m) a row.metrics.near_out is.near_out;
    flooding = (λ f. to a Flooding (is.flooding.0 f), λ f. is.flooding.1 (back a Flooding f));
    routing = (λ f. to a Routing (is.routing.0 f), λ f. is.routing.1 (back a Routing f));
  }

  pub hello_by : (hello : Hello) → IsHelloNow s i now hello → IsHelloNow t i now hello
  hello_by hello is = record {
    originator = (is.originator.0, subst (λ (r : RouterSettings). IsOriginator r is.originator.0) (sym h.settings) is.originator.1, is.originator.2);
    validity = rw h.settings is.validity;
    interval = (is.interval.0, is.interval.1, rw h.settings is.interval.2);
    willing = is.willing ∙ sym (ap (λ (r : RouterSettings). r.willing) h.settings);
    rows = λ row among. (let (a, row_is) = is.rows row among in (a, row_by row a row_is));
    all = λ a part says. is.all a part (back a part says);
    ordered = is.ordered;
  }

-- ---- the same graphs

pub same_ways : (s t : State) → HoldsAlso s t → HoldsAlso t s → (now : ℕ) → SameWays s now t now
same_ways s t h k now = record {
  neighbours = λ o n. (h.neighbours o n, k.neighbours o n);
  ways = λ n i key m. (
    λ w. record { link = w.link; stands = h.links i key w.link w.stands; state = w.state; of_it = w.of_it; out = w.out },
    λ w. record { link = w.link; stands = k.links i key w.link w.stands; state = w.state; of_it = w.of_it; out = w.out },
  );
}

pub routing_by : (s t : State) → HoldsAlso s t → HoldsAlso t s → (g : NeighbourGraph) → IsRoutingGraph s g → IsRoutingGraph t g
routing_by s t h k g is = (graphs_stay s t s.last s.last g (same_ways s t h k s.last) (λ i key x. (h.two_hops i key x, k.two_hops i key x))).0 is

pub flooding_by : (s t : State) → HoldsAlso s t → HoldsAlso t s → (now i : ℕ) (g : NeighbourGraph) → IsFloodingGraph s now i g → IsFloodingGraph t now i g
flooding_by s t h k now i g is = (graphs_stay s t now now g (same_ways s t h k now) (λ i key x. (h.two_hops i key x, k.two_hops i key x))).1 i is

-- ---- the same rows

-- lists in strict order with the same members are the same
module _ {A : Type 0} (R : A → A → Type 0) (apart : (x y : A) → R x y → R y x → ⊥) where
  later : (x : A) (xs : List A) → AllPairs R (x ∷ xs) → AllPairs R xs
  later x xs ordered i j d less within = ordered (suc i) (suc j) d (omega (arith, less)) (omega (arith, within))

  before : (x : A) (xs : List A) → AllPairs R (x ∷ xs) → (a : A) → Contains xs a → R x a
  before x xs ordered a (k, within, is) = subst (λ (y : A). R x y) is (ordered 0 (suc k) a (omega arith) (omega (arith, within)))

  narrowed : (x : A) (xs ys : List A) → AllPairs R (x ∷ xs) → ((a : A) → Contains (x ∷ xs) a → Contains (x ∷ ys) a) → (a : A) → Contains xs a → Contains ys a
  narrowed x xs ys ordered to a (k, within, is) = elim (contains_cases x ys a (to a (suc k, omega (arith, within), is))) [
    | inl same ↦
        let self : R a a = subst (λ (y : A). R y a) same (before x xs ordered a (k, within, is)) in
        absurd (apart a a self self)
    | inr more ↦ more
  ]

  pub ordered_once : (xs ys : List A) → AllPairs R xs → AllPairs R ys → ((a : A) → Contains xs a → Contains ys a) → ((a : A) → Contains ys a → Contains xs a) → xs ≡ ys
  ordered_once [] [] p q to back = refl
  ordered_once [] (y ∷ ys) p q to back = let (k, within, is) = back y (0, omega arith, refl) in absurd (omega (arith, within))
  ordered_once (x ∷ xs) [] p q to back = let (k, within, is) = to x (0, omega arith, refl) in absurd (omega (arith, within))
  ordered_once (x ∷ xs) (y ∷ ys) p q to back =
      let heads : x ≡ y = first (contains_cases y ys x (to x (0, omega arith, refl))) (contains_cases x xs y (back y (0, omega arith, refl))) in
      let to_x : (a : A) → Contains (x ∷ xs) a → Contains (x ∷ ys) a = λ a has. subst (λ (z : A). Contains (z ∷ ys) a) (sym heads) (to a has) in
      let back_x : (a : A) → Contains (x ∷ ys) a → Contains (x ∷ xs) a = λ a has. back a (subst (λ (z : A). Contains (z ∷ ys) a) heads has) in
      let q_x : AllPairs R (x ∷ ys) = subst (λ (z : A). AllPairs R (z ∷ ys)) (sym heads) q in
      let rest = ordered_once xs ys (later x xs p) (later y ys q) (narrowed x xs ys p to_x) (narrowed x ys xs q_x back_x) in
      ap (λ (z : A). z ∷ xs) heads ∙ ap (λ (l : List A). y ∷ l) rest
    where
      first : (y ≡ x) ⊎ Contains ys x → (x ≡ y) ⊎ Contains xs y → x ≡ y
      first (inl e) other = sym e
      first (inr there) (inl e) = e
      first (inr there) (inr here) = absurd (apart x y (before x xs p y here) (before y ys q x there))

row_apart : (x y : TcRow) → IsBefore x.dest y.dest → IsBefore y.dest x.dest → ⊥
row_apart x y h2 h3 = grind (arith, common_steps)

gives_by : (s t : State) → HoldsAlso s t → (a o : Addr4) (m : Metric) → GivesAsSelector s a o m → GivesAsSelector t a o m
gives_by s t h a o m g = record { neighbour = g.neighbour; symmetric = h.neighbours o g.neighbour g.symmetric; selects = g.selects; metric = g.metric; address = g.address }

pub rows_only : (s t : State) → HoldsAlso s t → HoldsAlso t s → (xs ys : List TcRow) → AreTcRows s xs → AreTcRows t ys → xs ≡ ys
rows_only s t h k xs ys one other =
    let there : (a o : Addr4) (m : Metric) → GivesAsSelector s a o m ↔ GivesAsSelector t a o m = λ a o m. (gives_by s t h a o m, gives_by t s k a o m) in
    let here : (a o : Addr4) (m : Metric) → GivesAsSelector t a o m ↔ GivesAsSelector s a o m = λ a o m. (gives_by t s k a o m, gives_by s t h a o m) in
    let attached : t.settings.attached ≡ s.settings.attached = ap (λ (r : RouterSettings). r.attached) h.settings in
    ordered_once (λ (x y : TcRow). IsBefore x.dest y.dest) row_apart xs ys one.ordered other.ordered
    (λ row has. (other.exactly row).1 (subst (λ (l : List Attached4). IsRowBy (GivesAsSelector t) l row) (sym attached) (same_row (GivesAsSelector s) (GivesAsSelector t) there s.settings.attached row ((one.exactly row).0 has))))
    (λ row has. (one.exactly row).1 (subst (λ (l : List Attached4). IsRowBy (GivesAsSelector s) l row) attached (same_row (GivesAsSelector t) (GivesAsSelector s) here t.settings.attached row ((other.exactly row).0 has))))

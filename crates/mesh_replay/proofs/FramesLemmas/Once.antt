-- A router has one HELLO on an interface at a moment, and one TC of some of its rows with a number.
use Rattle.mesh_replay.proofs.Common.{common_steps, ◌≡◌, ℕ, inl, inr, refl, sym, ◌∙◌, ap, subst, arith, Option, Some, None, Contains, List, Bool, Addr4, Interface, RouterSettings, HasAddressOn, State, link_at, neighbour_at, HasSymmetricWith, one_part, IsValue, same_answer, Tc, TcRow, IsTcOfRows, state_of}
use Rattle.mesh_atoms.proofs.Lookups.{addr_equiv, has_found, has_found_on, same_addr, link_equiv, same_link}
use Rattle.mesh_atoms.specs.declared.addr.NetAddr.{NetAddr}
use Rattle.mesh_atoms.specs.declared.codes.metric.Metric.{Metric}
use Rattle.mesh_atoms.specs.declared.hello.Hello.{Hello}
use Rattle.mesh_atoms.specs.declared.hello.HelloRow.{HelloRow}
use Rattle.mesh_atoms.specs.declared.hello.LocalIf.{LocalIf}
use Rattle.mesh_atoms.specs.declared.hello.LocalIf.TheVariants.{This, Other}
use Rattle.mesh_atoms.specs.declared.hello.LinkStatus.{LinkStatus}
use Rattle.mesh_atoms.specs.declared.hello.LinkStatus.TheVariants.{Lost as Down, Symmetric, Heard}
use Rattle.mesh_atoms.specs.declared.hello.OtherStatus.{OtherStatus}
use Rattle.mesh_atoms.specs.declared.hello.OtherStatus.TheVariants.{Lost as No_more, Symmetric as Still}
use Rattle.mesh_atoms.specs.declared.tuples.LinkKey.{LinkKey}
use Rattle.mesh_atoms.specs.declared.tuples.LinkState.{LinkState}
use Rattle.mesh_atoms.specs.declared.tuples.LinkState.TheVariants.{Lost as Is_lost, Symmetric as Is_symmetric, Heard as Is_heard}
use Rattle.mesh_atoms.specs.declared.tuples.Link.{Link}
use Rattle.mesh_atoms.specs.declared.tuples.Neighbour.{Neighbour}
use Rattle.mesh_atoms.specs.Hello.{Other_lost, Other_symmetric, Link_in, Link_out, Near_in, Near_out, HasLinkTo, SaysLink, Says, IsHelloRow, IsHelloNow, IsRoundedUp, local_part, link_part, other_part}
use Rattle.mesh_atoms.specs.Nodes.{IsBefore}
use Rattle.mesh_atoms.specs.Sound.{SoundNeighbourhood}
use Rattle.mesh_atoms.specs.declared.hello.Willing.{Willing}
use Rattle.mesh_trace.proofs.PositionsLemmas.AlikeStates.{ordered_once}
use Rattle.mesh_trace.proofs.SpellingLemmas.SameRows.{same_row}
use Rattle.mesh_atoms.proofs.Values.{one_originator}
use Rattle.mesh_wire.proofs.OneHello.{same_metrics, same_mpr, hello_from, from_rows}
use Rattle.mesh_wire.proofs.OneTc.{tc_from, from_rows as from_tc_rows}

-- ---- An address stands on one interface of a router.

pub one_interface : (r : RouterSettings) (i j : ℕ) (a : Addr4) → HasAddressOn r i a → HasAddressOn r j a → i ≡ j
one_interface r i j a on to = one_part addr_equiv (λ (f : Interface). f.addrs) r.interfaces i j on.0 to.0 a r.sound.distinct_addrs on.1 to.1 on.2 to.2

-- ---- A router has one HELLO on an interface at a moment.

-- of pairs that are one
abbrev first_or : {A : Type 0} → A → Option (A × ℕ) → A
first_or a None = a
first_or a (Some pair) = pair.0

first_same : {A : Type 0} (a b : A) (u v : ℕ) → ◌≡◌ {A = Option (A × ℕ)} (Some (a, u)) (Some (b, v)) → a ≡ b
first_same {A} a b u v e = ap (λ (o : Option (A × ℕ)). first_or a o) e

-- one value has the property, or none
value_once : {A : Type 0} (P : A → Type 0) → ((x y : A) → P x → P y → x ≡ y) → (v w : Option A) → IsValue P v → IsValue P w → v ≡ w
value_once P once v w h k = grind (arith, common_steps)

row_apart : (x y : HelloRow) → IsBefore x.addr y.addr → IsBefore y.addr x.addr → ⊥
row_apart x y h2 h3 = grind (arith, common_steps)

-- HELLOs by their parts
hello_by_parts : (f g : Hello) → f.originator ≡ g.originator → f.validity ≡ g.validity → f.interval ≡ g.interval → f.willing ≡ g.willing → f.rows ≡ g.rows → f ≡ g
hello_by_parts f g o v i w r =
    ap (λ (x : Option Addr4). hello_from x f.validity f.interval f.willing f.rows f.ascending) o
    ∙ (ap (λ (x : ℕ). hello_from g.originator x f.interval f.willing f.rows f.ascending) v
    ∙ (ap (λ (x : Option ℕ). hello_from g.originator g.validity x f.willing f.rows f.ascending) i
    ∙ (ap (λ (x : Willing). hello_from g.originator g.validity g.interval x f.rows f.ascending) w
    ∙ from_rows g.originator g.validity g.interval g.willing f.rows g.rows f.ascending g.ascending r)))

pub rounded_once : (ticks one other : ℕ) → IsRoundedUp ticks one → IsRoundedUp ticks other → one ≡ other
rounded_once ticks one other h k = grind (arith, common_steps)

module _ (s : State) (i now m : ℕ) (sound : SoundNeighbourhood s.settings m s.bases.neighbourhood) where
  -- one link of the interface has the address
  link_once : (a : Addr4) (x y : LinkState) (l k : Link) → HasLinkTo s i now a x l → HasLinkTo s i now a y k → l ≡ k
  link_once a x y l k (key, has, among, is) (key', has', among', is') =
      let (u, at) = (has_found_on link_equiv same_link s.bases.neighbourhood.links i key l (sound.distinct_links i)).0 has in
      let (u', at') = (has_found_on link_equiv same_link s.bases.neighbourhood.links i key' k (sound.distinct_links i)).0 has' in
      let keys : key ≡ key' = sound.links_apart i key key' (l, u) (k, u') a at at' among among' in
      first_same l k u u' (sym at ∙ (ap (λ (q : LinkKey). link_at s.bases.neighbourhood i q) keys ∙ at'))

  -- so it has one status
  state_once : (a : Addr4) (x y : LinkState) → SaysLink s i now a x → SaysLink s i now a y → x ≡ y
  state_once a x y (l, has) (k, has') =
      let (key, at, among, is) = has in
      let (key', at', among', is') = has' in
      sym is ∙ (ap (λ (z : Link). state_of z now) (link_once a x y l k has has') ∙ is')

  -- one neighbour has the address
  near_once : (a o p : Addr4) (n q : Neighbour) → HasSymmetricWith s a o n → HasSymmetricWith s a p q → n ≡ q
  near_once a o p n q ((has, is), among) ((has', is'), among') =
      let (u, at) = (has_found addr_equiv same_addr s.bases.neighbourhood.neighbours o n sound.distinct_neighbours).0 has in
      let (u', at') = (has_found addr_equiv same_addr s.bases.neighbourhood.neighbours p q sound.distinct_neighbours).0 has' in
      let keys : o ≡ p = sound.neighbours_apart o p (n, u) (q, u') a at at' among among' in
      first_same n q u u' (sym at ∙ (ap (λ (z : Addr4). neighbour_at s.bases.neighbourhood z) keys ∙ at'))

  status_once : (a : Addr4) (v w : LinkStatus) → Says s i now a (link_part v) → Says s i now a (link_part w) → v ≡ w
  status_once a Down Down h k = refl
  status_once a Symmetric Symmetric h k = refl
  status_once a Heard Heard h k = refl
  status_once a Down Symmetric h k = let e = state_once a Is_lost Is_symmetric h k in absurd cc
  status_once a Down Heard h k = let e = state_once a Is_lost Is_heard h k in absurd cc
  status_once a Symmetric Down h k = let e = state_once a Is_symmetric Is_lost h k in absurd cc
  status_once a Symmetric Heard h k = let e = state_once a Is_symmetric Is_heard h k in absurd cc
  status_once a Heard Down h k = let e = state_once a Is_heard Is_lost h k in absurd cc
  status_once a Heard Symmetric h k = let e = state_once a Is_heard Is_symmetric h k in absurd cc

  in_once : (a : Addr4) (v w : Metric) → Says s i now a (Link_in v) → Says s i now a (Link_in w) → v ≡ w
  in_once a v w (l, inl h, is) (k, inl h', is') = sym is ∙ (ap (λ (z : Link). z.link_in) (link_once a _ _ l k h h') ∙ is')
  in_once a v w (l, inl h, is) (k, inr h', is') = sym is ∙ (ap (λ (z : Link). z.link_in) (link_once a _ _ l k h h') ∙ is')
  in_once a v w (l, inr h, is) (k, inl h', is') = sym is ∙ (ap (λ (z : Link). z.link_in) (link_once a _ _ l k h h') ∙ is')
  in_once a v w (l, inr h, is) (k, inr h', is') = sym is ∙ (ap (λ (z : Link). z.link_in) (link_once a _ _ l k h h') ∙ is')

  out_once : (a : Addr4) (v w : Metric) → Says s i now a (Link_out v) → Says s i now a (Link_out w) → v ≡ w
  out_once a v w (l, h, is) (k, h', is') =
      let both : Some v ≡ Some w = sym is ∙ (ap (λ (z : Link). z.link_out) (link_once a _ _ l k h h') ∙ is') in cc

  near_in_once : (a : Addr4) (v w : Metric) → Says s i now a (Near_in v) → Says s i now a (Near_in w) → v ≡ w
  near_in_once a v w (o, n, h, is) (p, q, h', is') =
      let both : Some v ≡ Some w = sym is ∙ (ap (λ (z : Neighbour). z.metric_in) (near_once a o p n q h h') ∙ is') in cc

  near_out_once : (a : Addr4) (v w : Metric) → Says s i now a (Near_out v) → Says s i now a (Near_out w) → v ≡ w
  near_out_once a v w (o, n, h, is) (p, q, h', is') =
      let both : Some v ≡ Some w = sym is ∙ (ap (λ (z : Neighbour). z.metric_out) (near_once a o p n q h h') ∙ is') in cc

  not_both : (a : Addr4) → Says s i now a Other_lost → Says s i now a Other_symmetric → ⊥
  not_both a (lost, has) ((o, n, ((near, is), among)), no_link) =
      let (u, at) = (has_found addr_equiv same_addr s.bases.neighbourhood.losts a lost sound.distinct_losts).0 has in
      let (until, stands) = (has_found addr_equiv same_addr s.bases.neighbourhood.neighbours o n sound.distinct_neighbours).0 near in
      sound.lost a (lost, u) at (o, n, until, stands, is, among)

  other_once : (a : Addr4) (v w : OtherStatus) → Says s i now a (other_part v) → Says s i now a (other_part w) → v ≡ w
  other_once a No_more No_more h k = refl
  other_once a Still Still h k = refl
  other_once a No_more Still h k = absurd (not_both a h k)
  other_once a Still No_more h k = absurd (not_both a k h)

  local_once : (a : Addr4) (v w : LocalIf) → Says s i now a (local_part v) → Says s i now a (local_part w) → v ≡ w
  local_once a This This h k = refl
  local_once a Other Other h k = refl
  local_once a This Other h (j, other, k) = absurd (other (sym (one_interface s.settings i j a h k)))
  local_once a Other This (j, other, h) k = absurd (other (sym (one_interface s.settings i j a k h)))

  -- so what is said of an address is one row
  row_once : (a : Addr4) (p q : HelloRow) → IsHelloRow s i now p a → IsHelloRow s i now q a → p ≡ q
  row_once a p q h k =
      same_row p q (h.addr ∙ sym k.addr) (value_once _ (local_once a) p.local q.local h.local k.local) (value_once _ (status_once a) p.link q.link h.link k.link)
      (value_once _ (other_once a) p.other q.other h.other k.other)
      (same_metrics p.metrics q.metrics (value_once _ (in_once a) p.metrics.link_in q.metrics.link_in h.link_in k.link_in) (value_once _ (out_once a) p.metrics.link_out q.metrics.link_out h.link_out k.link_out)
      (value_once _ (near_in_once a) p.metrics.near_in q.metrics.near_in h.near_in k.near_in) (value_once _ (near_out_once a) p.metrics.near_out q.metrics.near_out h.near_out k.near_out))
      (same_mpr p.mpr q.mpr (same_answer p.mpr.flooding q.mpr.flooding h.flooding k.flooding) (same_answer p.mpr.routing q.mpr.routing h.routing k.routing))

  -- each row of the one is a row of the other
  row_also : (f g : Hello) → IsHelloNow s i now f → IsHelloNow s i now g → (row : HelloRow) → Contains f.rows row → Contains g.rows row
  row_also f g h k row among =
      let (a, is) = h.rows row among in
      let (other, there, addr) = k.all a is.some.0 is.some.1 in
      let (b, is') = k.rows other there in
      let addrs : b ≡ a = ap (λ (n : NetAddr). n.addr) (sym is'.addr ∙ addr) in
      let same : other ≡ row = row_once a other row (subst (λ (x : Addr4). IsHelloRow s i now other x) addrs is') is in
      subst (λ (r : HelloRow). Contains g.rows r) same there

  -- and so there is one HELLO
  pub hello_once : (f g : Hello) → IsHelloNow s i now f → IsHelloNow s i now g → f ≡ g
  hello_once f g h k =
      let (o, is, has) = h.originator in
      let (p, is', has') = k.originator in
      let originators : f.originator ≡ g.originator = has ∙ (ap (λ (a : Addr4). Some a) (one_originator s.settings o p is is') ∙ sym has') in
      let (t, every, rounded) = h.interval in
      let (u, every', rounded') = k.interval in
      let intervals : f.interval ≡ g.interval = every ∙ (ap (λ (n : ℕ). Some n) (rounded_once s.settings.times.hello t u rounded rounded') ∙ sym every') in
      let rows = ordered_once (λ (x y : HelloRow). IsBefore x.addr y.addr) row_apart f.rows g.rows h.ordered k.ordered (row_also f g h k) (row_also g f k h) in
      hello_by_parts f g originators (rounded_once s.settings.times.hold f.validity g.validity h.validity k.validity) intervals (h.willing ∙ sym k.willing) rows

-- ---- A router has one TC of some of its rows with a number.

-- TCs by their parts
tc_by_parts : (a b : Tc) → a.originator ≡ b.originator → a.sequence ≡ b.sequence → a.ansn ≡ b.ansn → a.complete ≡ b.complete → a.validity ≡ b.validity → a.interval ≡ b.interval → a.rows ≡ b.rows → a ≡ b
tc_by_parts a b o s n c v i r =
    ap (λ (x : Addr4). tc_from x a.sequence a.ansn a.complete a.validity a.interval a.rows a.ascending) o
    ∙ (ap (λ (x : ℕ). tc_from b.originator x a.ansn a.complete a.validity a.interval a.rows a.ascending) s
    ∙ (ap (λ (x : ℕ). tc_from b.originator b.sequence x a.complete a.validity a.interval a.rows a.ascending) n
    ∙ (ap (λ (x : Bool). tc_from b.originator b.sequence b.ansn x a.validity a.interval a.rows a.ascending) c
    ∙ (ap (λ (x : ℕ). tc_from b.originator b.sequence b.ansn b.complete x a.interval a.rows a.ascending) v
    ∙ (ap (λ (x : Option ℕ). tc_from b.originator b.sequence b.ansn b.complete b.validity x a.rows a.ascending) i
    ∙ from_tc_rows b.originator b.sequence b.ansn b.complete b.validity b.interval a.rows b.rows a.ascending b.ascending r)))))

pub tc_once : (s : State) (validity : List ℕ) (complete : Bool) (sequence : ℕ) (rows : List TcRow) (a b : Tc) → IsTcOfRows s validity complete sequence rows a → IsTcOfRows s validity complete sequence rows b → a ≡ b
tc_once s validity complete sequence rows a b h k = grind (arith, common_steps, rounded_once, tc_by_parts, one_originator)

-- How many rows a router advertises.
use Rattle.mesh_nhdp.proofs.Common.{common_steps, ◌≡◌, ℕ, ◌<◌, ◌≤◌, ◌⊎◌, inl, inr, refl, sym, ◌∙◌, ap, subst, arith, List, [], ◌∷◌, length, map, Contains, Bool, true, false, get_or, not, AllPairs, is_some, IsDistinct, filter, false≢true, length-map, get_or-map, IsDistinct-from_apart, Addr4, NetAddr, Metric, net_eq, SoundNeighbourhood, State, IsHeld, looks_up_neighbours, net_equiv, distinct_fits, counted, rows_ascend, neighbour_held, contains_filter_cases, contains_map, contains_map_cases}
use Rattle.std.proofs.lemmas.List.Filters.{length-filter_both}
use Rattle.std.proofs.lemmas.List.Kept.{AllPairs-filter}
use Rattle.mesh_atoms.specs.declared.settings.Attached4.{Attached4}
use Rattle.mesh_atoms.specs.declared.tc.TcRow.{TcRow}
use Rattle.mesh_atoms.specs.Advertised.{AreTcRows, IsTcRow, Of_address, Of_network, GivesAsSelector}
use Rattle.mesh_atoms.specs.Nodes.{IsBefore}
use Rattle.mesh_atoms.proofs.Lookups.{same_net}

-- Lists

before_apart : (x y : NetAddr) → IsBefore x y → net_eq x y ≡ false
before_apart x y before = grind (arith, common_steps, same_net)

nets_apart : (rows : List TcRow) → AllPairs (λ (r t : TcRow). IsBefore r.dest t.dest) rows → IsDistinct net_eq (map (λ (r : TcRow). r.dest) rows)
nets_apart rows up = IsDistinct-from_apart net_eq (map (λ (r : TcRow). r.dest) rows) (apart rows up) where
  apart : (rows : List TcRow) → AllPairs (λ (r t : TcRow). IsBefore r.dest t.dest) rows → (i j : ℕ) (d : NetAddr) → i < j → j < length (map (λ (r : TcRow). r.dest) rows) →
      net_eq (get_or (map (λ (r : TcRow). r.dest) rows) i d) (get_or (map (λ (r : TcRow). r.dest) rows) j d) ≡ false
  apart [] up i j d lt within = absurd (omega (arith, within))
  apart (r ∷ rs) up i j d lt within =
      let rows : List TcRow = r ∷ rs in
      let dest = λ (x : TcRow). x.dest in
      let size : length (map dest rows) ≡ length rows = length-map rows dest in
      let second : j < length rows = omega (arith, size, within) in
      let first : i < length rows = omega (arith, lt, second) in
      rw (get_or-map dest rows i r d first, get_or-map dest rows j r d second) (before_apart (get_or rows i r).dest (get_or rows j r).dest (up i j r lt second))

-- Rows

abbrev of_network : TcRow → Bool
of_network row = is_some row.gateway

abbrev of_address : TcRow → Bool
of_address row = not (is_some row.gateway)

host_row : (s : State) (r : TcRow) → IsTcRow s r → of_address r ≡ true → r.dest.prefix ≡ 32
host_row s r h2 is = grind (arith, common_steps)

giver_held : (s : State) (m : ℕ) → SoundNeighbourhood s.settings m s.bases.neighbourhood → (a o : Addr4) (c : Metric) → GivesAsSelector s a o c → IsHeld s.bases.neighbourhood a
giver_held s m sound a o c gives = by_address gives.address where
  by_address : Contains gives.neighbour.addrs a ⊎ (a ≡ o) → IsHeld s.bases.neighbourhood a
  by_address (inl in') = neighbour_held s m sound a o gives.neighbour (gives.symmetric, in')
  by_address (inr e) =
      let (until, at) = (looks_up_neighbours s o gives.neighbour sound.distinct_neighbours).0 gives.symmetric.0 in
      subst (λ (x : Addr4). IsHeld s.bases.neighbourhood x) (sym e) (inl ((gives.neighbour, until), at))

row_held : (s : State) (m : ℕ) → SoundNeighbourhood s.settings m s.bases.neighbourhood → (r : TcRow) → IsTcRow s r → of_address r ≡ true → IsHeld s.bases.neighbourhood r.dest.addr
row_held s m sound r (Of_address a c e origin routable gateway metric given) is =
    subst (λ (n : NetAddr). IsHeld s.bases.neighbourhood n.addr) (sym e) (giver_held s m sound a given.giver c given.given)
row_held s m sound r (Of_network distance c origin routable gateway metric given) is = absurd (false≢true (sym (ap (λ g. not (is_some g)) gateway) ∙ is))

row_attached : (s : State) (r : TcRow) → IsTcRow s r → of_network r ≡ true → Contains (map (λ (a : Attached4). a.net) s.settings.attached) r.dest
row_attached s r (Of_address a c e origin routable gateway metric given) is = absurd (false≢true (sym (ap (λ g. is_some g) gateway) ∙ is))
row_attached s r (Of_network distance c origin routable gateway metric given) is = grind (arith, common_steps, contains_map)

-- a sound router advertises at most 1,088 rows: of 1,024 addresses and 64 networks
pub tc_rows_few : (s : State) (m : ℕ) (rows : List TcRow) → SoundNeighbourhood s.settings m s.bases.neighbourhood → AreTcRows s rows → length rows ≤ 1088
tc_rows_few s m rows sound are =
    let hosts : List TcRow = filter of_address rows in
    let nets : List TcRow = filter of_network rows in
    let both = length-filter_both of_network of_address (λ x. refl) rows in
    let addrs : List Addr4 = map (λ (r : TcRow). r.dest.addr) hosts in
    let whole = λ (r : TcRow) (has : Contains hosts r). let (in', is) = contains_filter_cases of_address rows r has in host_row s r ((are.exactly r).0 in') is in
    let up = rows_ascend (λ (r : TcRow). r.dest) hosts whole (AllPairs-filter (λ (r t : TcRow). IsBefore r.dest t.dest) of_address rows are.ordered) in
    let held = λ (a : Addr4) (has : Contains addrs a).
    let (r, in', e) = contains_map_cases (λ (r : TcRow). r.dest.addr) hosts a has in
    let (there, is) = contains_filter_cases of_address rows r in' in
    subst (λ (x : Addr4). IsHeld s.bases.neighbourhood x) e (row_held s m sound r ((are.exactly r).0 there) is) in
    let few = counted [] addrs (IsHeld s.bases.neighbourhood) 1024 up sound.limit (λ a has. inr (held a has)) in
    let dests : List NetAddr = map (λ (r : TcRow). r.dest) nets in
    let apart = nets_apart nets (AllPairs-filter (λ (r t : TcRow). IsBefore r.dest t.dest) of_network rows are.ordered) in
    let attached = λ (n : NetAddr) (has : Contains dests n).
    let (r, in', e) = contains_map_cases (λ (r : TcRow). r.dest) nets n has in
    let (there, is) = contains_filter_cases of_network rows r in' in
    subst (λ (x : NetAddr). Contains (map (λ (a : Attached4). a.net) s.settings.attached) x) e (row_attached s r ((are.exactly r).0 there) is) in
    let fit = distinct_fits net_equiv same_net dests (map (λ (a : Attached4). a.net) s.settings.attached) apart attached in
    omega (arith, both, few, fit, length-map hosts (λ (r : TcRow). r.dest.addr), length-map nets (λ (r : TcRow). r.dest), s.settings.sound.attached)

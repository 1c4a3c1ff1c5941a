-- The HELLO out of its rows, and sound tuples are apart.
use Rattle.mesh_hello.proofs.Common.{◌≡◌, ◌<◌, ℕ, inl, sym, ◌∙◌, ap, subst, map, length, get_or, arith, List, Contains, AllPairs, Some, ◌↔◌, length-map, get_or-map, Addr4, NetAddr, HelloRow, Hello, RouterSettings, LinkKey, Link, Lost, Neighbour, Relays, Base, base_of, find, host, addr_eq, link_eq, IsHelloNow, IsRoundedUp, IsBefore, IsAscending, SoundNeighbourhood, State, Neighbourhood, IsOriginator, has_found, addr_equiv, same_addr, link_equiv, same_link, AreDisjoint, IsSeen, IsHelloRowOf, said_addresses, same_some, contains_map, contains_map_cases}
use Rattle.mesh_hello.proofs.SayingLemmas.Somewhere.{told_all}

-- what the HELLO is made of: the addresses of which something is said, and a row for each, in their order
pub record IsHelloOf (settings : RouterSettings) (links : Base LinkKey Link) (neighbours : Base Addr4 Neighbour) (losts : Base Addr4 Lost) (relays : Relays) (i now : ℕ) (list : List Addr4) (hello : Hello) : Type 0 where
  pub ascending : IsAscending list
  pub same : (a : Addr4) → Contains list a ↔ Contains (said_addresses settings links neighbours losts) a
  pub addrs : map (λ (row : HelloRow). row.addr) hello.rows ≡ map host list
  pub says : (row : HelloRow) → Contains hello.rows row → (a : Addr4) × IsHelloRowOf settings links neighbours losts relays i now row a
  pub originator : (o : Addr4) × IsOriginator settings o × (hello.originator ≡ Some o)
  pub validity : IsRoundedUp settings.times.hold hello.validity
  pub interval : (time : ℕ) × (hello.interval ≡ Some time) × IsRoundedUp settings.times.hello time
  pub willing : hello.willing ≡ settings.willing

-- of the same tuples the same is said
pub said_same : (settings : RouterSettings) (links seen_links : Base LinkKey Link) (neighbours seen_neighbours : Base Addr4 Neighbour) (losts : Base Addr4 Lost) (list : List Addr4) → seen_links ≡ links → seen_neighbours ≡ neighbours →
    ((a : Addr4) → Contains list a ↔ Contains (said_addresses settings seen_links seen_neighbours losts) a) → (a : Addr4) → Contains list a ↔ Contains (said_addresses settings links neighbours losts) a
said_same settings links seen_links neighbours seen_neighbours losts list same same_neighbours are a =
    subst (λ (ls : Base LinkKey Link). Contains list a ↔ Contains (said_addresses settings ls neighbours losts) a) same
    (subst (λ (ns : Base Addr4 Neighbour). Contains list a ↔ Contains (said_addresses settings seen_links ns losts) a) same_neighbours (are a))

-- Lists that are mapped

pub rows_before : (rows : List HelloRow) (list : List Addr4) → map (λ (row : HelloRow). row.addr) rows ≡ map host list → IsAscending list → AllPairs (λ (r t : HelloRow). IsBefore r.addr t.addr) rows
rows_before rows list same up i j d lt within =
    let addr = λ (row : HelloRow). row.addr in
    let sizes : length rows ≡ length list = sym (length-map rows addr) ∙ (ap length same ∙ length-map list host) in
    let at : (k : ℕ) → k < length list → (get_or rows k d).addr ≡ host (get_or list k d.addr.addr) = λ k below.
    sym (get_or-map addr rows k d d.addr (omega arith)) ∙ (ap (λ (nets : List NetAddr). get_or nets k d.addr) same ∙ get_or-map host list k d.addr.addr d.addr below) in
    let less : (get_or list i d.addr.addr).0 < (get_or list j d.addr.addr).0 = up i j d.addr.addr lt (omega arith) in
    rw (at i (omega arith), at j (omega arith)) (inl less)

pub hello_is : (settings : RouterSettings) (links : Base LinkKey Link) (neighbours : Base Addr4 Neighbour) (losts : Base Addr4 Lost) (relays : Relays) (i now : ℕ) (list : List Addr4) (hello : Hello) →
    IsHelloOf settings links neighbours losts relays i now list hello → (s : State) → IsSeen s settings links neighbours losts relays i → IsHelloNow s i now hello
hello_is settings links neighbours losts relays i now list hello made s seen = record {
  originator = rw seen.settings_are made.originator;
  validity = rw seen.settings_are made.validity;
  interval = rw seen.settings_are made.interval;
  willing = rw seen.settings_are made.willing;
  rows = λ row has. let (a, row_is) = made.says row has in (a, row_is.says s seen);
  all = λ a part shows.
      let told : Contains (said_addresses settings links neighbours losts) a =
      rw (← seen.settings_are, ← seen.neighbours_are, ← seen.losts_are) (told_all s i now a links seen.links_are part shows) in
      let there : Contains (map (λ (row : HelloRow). row.addr) hello.rows) (host a) = rw made.addrs (contains_map host list a ((made.same a).1 told)) in
      contains_map_cases (λ (row : HelloRow). row.addr) hello.rows (host a) there;
  ordered = rows_before hello.rows list made.addrs made.ascending;
}

-- Sound tuples

pub apart_by : (settings : RouterSettings) (now : ℕ) (near : Neighbourhood) (i : ℕ) → SoundNeighbourhood settings now near → AreDisjoint (base_of near.links i) near.neighbours near.losts
apart_by settings now near i sound =
    let links = base_of near.links i in
    let link_found = λ (key : LinkKey) (link : Link). has_found link_equiv same_link links key link (sound.distinct_links i) in
    let near_found = λ (o : Addr4) (n : Neighbour). has_found addr_equiv same_addr near.neighbours o n sound.distinct_neighbours in
    record {
      one_link = λ a k l e f has has' in' in''.
          let (u, at) = (link_found k e).0 has in
          let (v, at') = (link_found l f).0 has' in
          let same : k ≡ l = sound.links_apart i k l (e, u) (f, v) a at at' in' in'' in
          ap (λ (x : Link × ℕ). x.0) (same_some (ap (find link_eq links) (sym same) ∙ at) at');
      one_neighbour = λ a o p m n has has' in' in''.
          let (u, at) = (near_found o m).0 has in
          let (v, at') = (near_found p n).0 has' in
          let same : o ≡ p = sound.neighbours_apart o p (m, u) (n, v) a at at' in' in'' in
          (same, ap (λ (x : Neighbour × ℕ). x.0) (same_some (ap (find addr_eq near.neighbours) (sym same) ∙ at) at'));
      owner = λ k e has.
          let (u, at) = (link_found k e).0 has in
          let (o, n, v, at', all) = sound.owner i k e u at in
          (o, n, (near_found o n).1 (v, at'), all);
      distinct_neighbours = sound.distinct_neighbours;
      distinct_losts = sound.distinct_losts;
    }

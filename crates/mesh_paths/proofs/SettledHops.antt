-- The first hop of a least walk of a router's own graph leads on along a least radio walk.
use Rattle.mesh_paths.proofs.Common.{common_steps, ◌≡◌, ℕ, ◌+◌, ◌≤◌, ◌⊎◌, inl, inr, refl, sym, subst, arith, cases_eq, Walk, Stay, Onward, Least, Fits, FirstNode, AtSelf, Through, Here, Direct, Further, LeastToNet}
use Rattle.mesh_paths.proofs.SettledWalks.{View, Radio, by_own, shadow_joined, sound, sound_net}
use Rattle.mesh_paths.proofs.SettledLeast.{LeastRadio, walk_of, net_walk, row_least}

module _ (Node : Type 0) (V : View Node) where
  open V use {x, Hop, Willing, Joined, AddressOf, Origin, self, Attaches, Relay, Arc}

  -- Next Node V hops

  -- the first node after self, the walk on from it, and what both cost
  pub record Split (first node : Node) (r : ℕ) : Type 0 where
    pub near : ℕ
    pub rest : ℕ
    pub arc : Arc self first near
    pub on : Walk Arc first node rest
    pub total : near + rest ≡ r
    pub best : Least Arc self first near

  pub same_least : {s a : Node} {c d : ℕ} → Least Arc s a c → Least Arc s a d → c ≡ d
  same_least {c = c} {d = d} p q = omega (arith, p.least d q.reached, q.least c p.reached)

  pub split : {first node : Node} (r : ℕ) → FirstNode (Fits Arc self) self node first → Least Arc self node r → Split first node r
  split r (AtSelf {node} fits) least =
      let none : fits.before ≤ 0 = fits.to_parent.least 0 Stay in
      let eq : fits.before + fits.metric ≡ r = same_least fits.to_node least in
      let P : ℕ → Type 0 = λ c. Least Arc self node c in
      record { near = fits.metric; rest = 0; arc = fits.arc; on = Stay; total = omega arith; best = subst P (let e : fits.before + fits.metric ≡ fits.metric = omega arith in e) fits.to_node }
  split r (Through {p} {node} {first} fits off more) least =
      let before = split fits.before more fits.to_parent in
      let eq : fits.before + fits.metric ≡ r = same_least fits.to_node least in
      let sum : before.near + before.rest ≡ fits.before = before.total in
      record {
        near = before.near;
        rest = before.rest + fits.metric;
        arc = before.arc;
        on = Onward before.on fits.arc;
        total = omega arith;
        best = before.best;
      }

  -- an arc from self leads to a neighbour, at the metric to it
  pub first_hop : (a : Node) (m : ℕ) → Arc self a m → (n : ℕ) × Hop x n m × AddressOf n a
  first_hop a m arc = elim (V.arc_cases self a m arc) [
    | inl own ↦ let (y, _, h, is) = own in (y, h, is)
    | inr (inl on) ↦ let (w, v, other, from, t, h, is) = on in absurd (other (V.owner w x self (V.origin_is w self from) (V.origin_is x self V.is_self)))
    | inr (inr (inl net)) ↦ let (g, other, from, att) = net in absurd (other (V.owner g x self (V.origin_is g self from) (V.origin_is x self V.is_self)))
    | inr (inr (inr stray)) ↦ let (v, other, is, off) = stray in absurd (other (V.owner v x self is (V.origin_is x self V.is_self)))
  ]

  -- a router from whose address a walk of x's graph goes on to another router is willing
  pub goes_on : {f b : Node} {c : ℕ} (n y : ℕ) → Walk Arc f b c → Joined n → (n ≡ x → ⊥) → AddressOf n f → AddressOf y b → (n ≡ y) ⊎ Willing n
  goes_on n y Stay j other start there = inl (V.owner n y _ start there)
  goes_on n y (Onward {b = p} {d = q} {c = c} {m = m} walk arc) j other start there = elim (V.arc_cases p q m arc) [
    | inl own ↦
        let (v, from, h, is) = own in
        elim (goes_on n x walk j other start (V.origin_is x p from)) [ inl e ↦ absurd (other e) | inr t ↦ inr t ]
    | inr (inl on) ↦
        let (w, v, apart, from, t, h, is) = on in
        let P : ℕ → Type 0 = λ b. Willing b in
        elim (goes_on n w walk j other start (V.origin_is w p from)) [ inl e ↦ inr (subst P (sym e) t) | inr t' ↦ inr t' ]
    | inr (inr (inl net)) ↦ let (g, apart, from, att) = net in absurd (V.no_address g m y q att there)
    | inr (inr (inr stray)) ↦
        let (v, apart, is, off) = stray in
        let P : ℕ → Type 0 = λ b. Joined b in
        elim (goes_on n v walk j other start is) [ inl e ↦ absurd (off (subst P e j)) | inr t ↦ inr t ]
  ]

  -- one hop before a walk
  pub prepend : {n z d m : ℕ} → Hop x n m → Willing n → Radio Node V n z d → Radio Node V x z (m + d)
  prepend {n} {m = m} h t Here = let P : ℕ → Type 0 = λ c. Radio Node V x n c in subst P (let e : m ≡ m + 0 = omega arith in e) (Direct h)
  prepend h t (Direct g) = Further (Direct h) t g
  prepend {m = m} h t (Further {y = z} {c = c} {m = k} walk s g) =
      let P : ℕ → Type 0 = λ c. Radio Node V x z c in
      subst P (let e : (m + c) + k ≡ m + (c + k) = omega arith in e) (Further (prepend h t walk) s g)

  -- the next hop leads to the router z at x's metric
  pub record LeadsTo (n z r near : ℕ) : Type 0 where
    pub hop : Hop x n near
    pub best : LeastRadio Node V x n near
    pub leads : ((z ≡ n) × (r ≡ near)) ⊎ ((z ≡ n → ⊥) × (s : ℕ) × LeastRadio Node V n z s × (r ≡ near + s))

  pub one_hop : (z : ℕ) (a : Node) (r near : ℕ) → AddressOf z a → Hop x z near → Least Arc self a r → (rest : ℕ) → near + rest ≡ r → r ≡ near
  one_hop z a r near is h row rest total =
      let (d, there, low) = by_own Node V h near (omega arith) a is in
      omega (arith, row.least d there)

  -- what is left of the row's metric is RadioLeast from the next hop
  pub onward : (n z : ℕ) (a first : Node) (r near rest : ℕ) → AddressOf z a → (z ≡ x → ⊥) → Least Arc self a r → Hop x n near → AddressOf n first →
      Walk Arc first a rest → near + rest ≡ r → (z ≡ n → ⊥) → LeastRadio Node V n z rest
  onward n z a first r near rest is ne row h here walk total off = grind (arith, common_steps, goes_on, walk_of, prepend, sound)

  pub next_hop : (z : ℕ) (a first : Node) (r : ℕ) → AddressOf z a → (z ≡ x → ⊥) → Least Arc self a r → FirstNode (Fits Arc self) self a first →
      (n near : ℕ) × AddressOf n first × LeadsTo n z r near
  next_hop z a first r is ne row along =
      let parts = split r along row in
      let (n, h, here) = first_hop first parts.near parts.arc in (
        n,
        parts.near,
        here,
        record {
          hop = h;
          best = row_least Node V n first parts.near here (λ e. (let P : ℕ → Type 0 = λ b. Hop x b parts.near in V.apart x parts.near (subst P e h))) parts.best;
          leads = elim (cases_eq z n) [
            | inl e ↦
                let P : ℕ → Type 0 = λ b. Hop x b parts.near in
                inl (e, one_hop z a r parts.near is (subst P (sym e) h) row parts.rest parts.total)
            | inr off ↦ inr (off, parts.rest, onward n z a first r parts.near parts.rest is ne row h here parts.on parts.total off, sym parts.total)
          ];
        },
      )

  -- the next hop leads to the network at x's metric, or delivers there
  pub record LeadsToNet (n : ℕ) (a : Node) (r near : ℕ) : Type 0 where
    pub hop : Hop x n near
    pub best : LeastRadio Node V x n near
    pub leads : ((k : ℕ) × Attaches n a k × (r ≤ near + k))
        ⊎ (((k : ℕ) → Attaches n a k → ⊥) × (s : ℕ) × LeastToNet Hop Willing Attaches n a s × (r ≡ near + s))

  pub net_onward : (n g0 k0 : ℕ) (a first : Node) (r near rest : ℕ) → Attaches g0 a k0 → ((k : ℕ) → Attaches x a k → ⊥) → Least Arc self a r →
      Hop x n near → AddressOf n first → Walk Arc first a rest → near + rest ≡ r → ((k : ℕ) → Attaches n a k → ⊥) →
      LeastToNet Hop Willing Attaches n a rest
  net_onward n g0 k0 a first r near rest known mine row h here walk total off =
      let j : Joined n = V.joined_on x n near V.joined_self h in
      let other : n ≡ x → ⊥ = λ e. (let P : ℕ → Type 0 = λ b. Hop x b near in V.apart x near (subst P e h)) in
      let pos : 1 ≤ near = V.above_zero x n near h in
      let net = sound_net Node V n g0 k0 walk j here known in
      let tot : net.base + net.k ≡ rest = net.total in
      let t : Willing n = elim (goes_on n net.g net.before j other here (V.origin_is net.g net.o net.first)) [
        | inl e ↦ (let P : ℕ → Type 0 = λ b. Attaches b a net.k in absurd (off net.k (subst P (sym e) net.att)))
        | inr t ↦ t
      ] in
      let under : (g d k : ℕ) → Attaches g a k → Radio Node V n g d → rest ≤ d + k = λ g d k att w.
      let (i, there, below) = net_walk Node V mine att (prepend h t w) in
      omega (arith, row.least i there) in
      let way = net.way in
      elim way.walk [
        | inl w ↦
            let eq : way.cost + net.k ≡ rest = omega (arith, way.low, under net.g way.cost net.k net.att w) in
            record {
              gateway = net.g;
              way = way.cost;
              metric = net.k;
              attached = net.att;
              to_gateway = record { reached = w; least = λ d v. omega (arith, under net.g d net.k net.att v) };
              sum = eq;
              least = under;
            }
        | inr w ↦
            let (i, there, below) = net_walk Node V mine net.att w in
            absurd (omega (arith, way.low, row.least i there))
      ]

  pub next_hop_net : (g0 k0 : ℕ) (a first : Node) (r : ℕ) → Attaches g0 a k0 → ((k : ℕ) → Attaches x a k → ⊥) → Least Arc self a r →
      FirstNode (Fits Arc self) self a first → (n near : ℕ) × AddressOf n first × LeadsToNet n a r near
  next_hop_net g0 k0 a first r known mine row along =
      let parts = split r along row in
      let (n, h, here) = first_hop first parts.near parts.arc in
      let j : Joined n = V.joined_on x n parts.near V.joined_self h in
      let other : n ≡ x → ⊥ = λ e. (let P : ℕ → Type 0 = λ b. Hop x b parts.near in V.apart x parts.near (subst P e h)) in (
        n,
        parts.near,
        here,
        record {
          hop = h;
          best = row_least Node V n first parts.near here other parts.best;
          leads = elim (V.attaches_or n a) [
            | inl mine' ↦
                let (k, att) = mine' in
                let (o, at) = V.has_origin n j in
                let (d, there, low) = by_own Node V h parts.near (omega arith) o (V.origin_is n o at) in
                inl (k, att, omega (arith, row.least (d + k) (Onward there (V.net_arc n k o a j other att at))))
            | inr off ↦ inr (off, parts.rest, net_onward n g0 k0 a first r parts.near parts.rest known mine row h here parts.on parts.total off, sym parts.total)
          ];
        },
      )

  -- what a walk of x's graph leads to: it stays, or ends at a router's address or at a network
  pub ends_at : {b : Node} {c : ℕ} → Walk Arc self b c →
      (self ≡ b) ⊎ (((y : ℕ) × AddressOf y b) ⊎ ((g k : ℕ) × Attaches g b k))
  ends_at Stay = inl refl
  ends_at (Onward {b = p} {d = q} {m = m} walk arc) = elim (V.arc_cases p q m arc) [
    | inl own ↦ let (y, _, _, is) = own in inr (inl (y, is))
    | inr (inl on) ↦ let (w, y, _, _, _, _, is) = on in inr (inl (y, is))
    | inr (inr (inl net)) ↦ let (g, _, _, att) = net in inr (inr (g, m, att))
    | inr (inr (inr stray)) ↦
        let (v, other, is, off) = stray in
        absurd (off (shadow_joined Node V V.joined_self (sound Node V x v walk V.joined_self (V.origin_is x self V.is_self) is other)))
  ]

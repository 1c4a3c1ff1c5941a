-- The least costs of a router's own graph are those of the radio graph.
use Rattle.mesh_paths.proofs.Common.{◌≡◌, ℕ, ◌+◌, ◌≤◌, inl, inr, subst, arith, Walk, Onward, Least, LeastWilling, LeastToNet}
use Rattle.mesh_paths.proofs.SettledWalks.{View, hops, Radio, joined_walk, complete, Shadow, sound, sound_net}

module _ (Node : Type 0) (V : View Node) where
  open V use {x, Hop, Willing, Joined, AddressOf, Origin, self, Attaches, Relay, Arc}

  -- The rows are the least radio costs

  abbrev pub LeastRadio : ℕ → ℕ → ℕ → Type 0
  LeastRadio y z c = LeastWilling Hop Willing y z c

  pub from_x : {y c : ℕ} → Shadow Node V x y c → (d : ℕ) × Radio Node V x y d × (d ≤ c)
  from_x s = elim s.walk [ inl walk ↦ (s.cost, walk, s.low) | inr walk ↦ (s.cost, walk, s.low) ]

  pub radio_of : {a : Node} {c : ℕ} (y : ℕ) → AddressOf y a → (y ≡ x → ⊥) → Walk Arc self a c → (d : ℕ) × Radio Node V x y d × (d ≤ c)
  radio_of y is ne walk = from_x (sound Node V x y walk V.joined_self (V.origin_is x self V.is_self) is ne)

  pub walk_of : {a : Node} {c : ℕ} (y : ℕ) → AddressOf y a → (y ≡ x → ⊥) → Radio Node V x y c → (d : ℕ) × Walk Arc self a d × (d ≤ c)
  walk_of {a} y is ne walk = complete Node V (hops walk) walk (omega arith) ne a is

  -- a row's metric is RadioLeast
  pub row_least : (y : ℕ) (a : Node) (r : ℕ) → AddressOf y a → (y ≡ x → ⊥) → Least Arc self a r → LeastRadio x y r
  row_least y a r is ne row =
      let (d, walk, low) = radio_of y is ne row.reached in
      let (e, back, under) = walk_of y is ne walk in
      let same : d ≡ r = omega (arith, row.least e back) in
      let P : ℕ → Type 0 = λ c. Radio Node V x y c in
      record {
        reached = subst P same walk;
        least = λ f other. let (i, there, below) = walk_of y is ne other in omega (arith, row.least i there);
      }

  -- and RadioLeast is the least cost in the router's own graph
  pub least_row : (y : ℕ) (a : Node) (r : ℕ) → AddressOf y a → (y ≡ x → ⊥) → LeastRadio x y r → Least Arc self a r
  least_row y a r is ne radio =
      let (d, walk, low) = walk_of y is ne radio.reached in
      let (e, back, under) = radio_of y is ne walk in
      let same : d ≡ r = omega (arith, radio.least e back) in
      let P : ℕ → Type 0 = λ c. Walk Arc self a c in
      record {
        reached = subst P same walk;
        least = λ f other. let (i, there, below) = radio_of y is ne other in omega (arith, radio.least i there);
      }

  -- Attached networks

  -- to a network that x doesn't attach
  pub net_walk : {g d k : ℕ} {a : Node} → ((k' : ℕ) → Attaches x a k' → ⊥) → Attaches g a k → Radio Node V x g d → (e : ℕ) × Walk Arc self a e × (e ≤ d + k)
  net_walk {g} {d} {k} {a} mine att walk =
      let ne : g ≡ x → ⊥ = λ e. (let P : ℕ → Type 0 = λ b. Attaches b a k in mine k (subst P e att)) in
      let j : Joined g = joined_walk Node V V.joined_self walk in
      let (o, first) = V.has_origin g j in
      let (e, there, low) = walk_of g (V.origin_is g o first) ne walk in
      (e + k, Onward there (V.net_arc g k o a j ne att first), omega arith)

  pub row_least_net : (a : Node) (r g0 k0 : ℕ) → Attaches g0 a k0 → ((k : ℕ) → Attaches x a k → ⊥) → Least Arc self a r →
      LeastToNet Hop Willing Attaches x a r
  row_least_net a r g0 k0 known mine row =
      let net = sound_net Node V x g0 k0 row.reached V.joined_self (V.origin_is x self V.is_self) known in
      let (d, walk, low) = from_x net.way in
      let (e, back, under) = net_walk mine net.att walk in
      let le : r ≤ e = row.least e back in
      let tot : net.base + net.k ≡ r = net.total in
      let eq : d + net.k ≡ r = omega arith in
      record {
        gateway = net.g;
        way = d;
        metric = net.k;
        attached = net.att;
        to_gateway = record {
          reached = walk;
          least = λ f other. let (i, there, below) = net_walk mine net.att other in omega (arith, row.least i there);
        };
        sum = eq;
        least = λ g f k att other. let (i, there, below) = net_walk mine att other in omega (arith, row.least i there);
      }

  pub least_row_net : (a : Node) (r : ℕ) → ((k : ℕ) → Attaches x a k → ⊥) → LeastToNet Hop Willing Attaches x a r → Least Arc self a r
  least_row_net a r mine radio =
      let (d, walk, low) = net_walk mine radio.attached radio.to_gateway.reached in
      let under : (e : ℕ) → Walk Arc self a e → r ≤ e = λ e there.
      let net = sound_net Node V x radio.gateway radio.metric there V.joined_self (V.origin_is x self V.is_self) radio.attached in
      let (f, back, below) = from_x net.way in
      let tot : net.base + net.k ≡ e = net.total in
      omega (arith, radio.least net.g f net.k net.att back) in
      let sum : radio.way + radio.metric ≡ r = radio.sum in
      let same : d ≡ r = omega (arith, under d walk) in
      let P : ℕ → Type 0 = λ c. Walk Arc self a c in
      record { reached = subst P same walk; least = under }

-- A message reaches each router that a chain of links leads to.
use Rattle.mesh_probe.proofs.Common.{common_steps, ◌≡◌, ℕ, zero, suc, ◌+◌, ◌<◌, ◌≤◌, ◌⊎◌, inl, inr, refl, sym, ◌∙◌, ap, subst, arith, List, [], ◌∷◌, ◌++◌, length, Contains, Option, Some, Bool, true, false, nat_eq, IsDistinct, AllByRecursion, eq-eqb, cases_Bool, cases_eq, or_right, or_parts, or_cases, Contains-append_left, Contains-append_right, Contains-append_cases, Contains-push, Contains-push_cases, IsDistinct-cons, length-le_from_distinct_below, contains_tail as in_tail, contains_cases, contains_none as none_of, true_false}
use Rattle.mesh_probe.proofs.Wave.{has, Spread, Going, frames_on, where_sent, Net, Takes, Deaf, Quiet, Sends, Hears, All_heard, One_hears, Wave, Ends, Goes, WaveFrom, Chain, Itself, On, IsSelected, IsCovering, WaveCovers}
use Rattle.std.proofs.Math.Nat.{eq-or-lt_of_le}

-- Lists

pub has_first : (w : ℕ) (ws : List ℕ) → has (w ∷ ws) w ≡ true
has_first w ws = rw (eq-eqb w w refl) refl

pub has_later : (w q : ℕ) (ws : List ℕ) → has ws q ≡ true → has (w ∷ ws) q ≡ true
has_later w q ws h = or_right (nat_eq q w) (has ws q) h

pub has_cases : (w q : ℕ) (ws : List ℕ) → has (w ∷ ws) q ≡ true → (q ≡ w) ⊎ (has ws q ≡ true)
has_cases w q ws h = grind (arith, common_steps, or_cases)

pub none_distinct : IsDistinct nat_eq []
unfolding IsDistinct
none_distinct = tt

pub none_equal : (w : ℕ) (ws : List ℕ) → has ws w ≡ false → AllByRecursion (λ y. nat_eq w y ≡ false) ws
none_equal w [] h = tt
none_equal w (x ∷ ws) h = let (e, rest) = or_parts (nat_eq w x) (has ws w) h in (e, none_equal w ws rest)

-- A router's frames

pub frame_on : (w h k faces : ℕ) → k < faces → (g : Going) × Contains (frames_on w h faces) g × (g.from ≡ w) × (g.iface ≡ k)
frame_on w h k zero l = absurd (omega arith)
frame_on w h k (suc i) l = elim (eq-or-lt_of_le {n = k} {m = i} (omega arith)) [
  | inl same ↦ (last, Contains-push (frames_on w h i) last, refl, sym same)
  | inr less ↦ let (g, c, e, f) = frame_on w h k i less in (g, Contains-append_left (frames_on w h i) (last ∷ []) g c, e, f)
]
  where
    last : Going
    last = record { from = w; iface = i; hops = h }

pub frame_is : (w h faces : ℕ) (g : Going) → Contains (frames_on w h faces) g → (g.from ≡ w) × (g.hops ≡ h)
frame_is w h zero g c = absurd (none_of g c)
frame_is w h (suc i) g c = elim (Contains-push_cases (frames_on w h i) (record { from = w; iface = i; hops = h }) g c) [
  | inl before ↦ frame_is w h i g before
  | inr same ↦ (ap (λ (x : Going). x.from) (sym same), ap (λ (x : Going). x.hops) (sym same))
]

-- What grows

pub record Grows (old new : Spread) : Type 0 where
  pub told : (q : ℕ) → has old.told q ≡ true → has new.told q ≡ true
  pub sent : (q : ℕ) → has old.sent q ≡ true → has new.sent q ≡ true
  pub more : length old.sent ≤ length new.sent

pub grows_itself : (s : Spread) → Grows s s
grows_itself s = record { told = λ q h. h; sent = λ q h. h; more = omega arith }

pub grows_on : {a b c : Spread} → Grows a b → Grows b c → Grows a c
grows_on g h = record { told = λ q e. h.told q (g.told q e); sent = λ q e. h.sent q (g.sent q e); more = omega (arith, g.more, h.more) }

-- a frame's sender has sent, and fewer hops have been taken than routers have sent
pub record IsSent (s : Spread) (g : Going) : Type 0 where
  pub sender : has s.sent g.from ≡ true
  pub hops : g.hops + 1 ≤ length s.sent

pub sent_on : {a b : Spread} {g : Going} → Grows a b → IsSent a g → IsSent b g
sent_on {g = g} up is = record { sender = up.sent g.from is.sender; hops = omega (arith, up.more, is.hops) }

pub takes_grow : {More : Type 0} {w : ℕ} {old new : Spread} {flag : Option Bool} {sends : Bool} → Takes More w old flag new sends → Grows old new
takes_grow {old = old} Deaf = grows_itself old
takes_grow {w = w} {old = old} (Quiet flag nay) = record { told = λ q h. has_later w q old.told h; sent = λ q h. h; more = omega arith }
takes_grow {w = w} {old = old} (Sends flag nay) = record { told = λ q h. has_later w q old.told h; sent = λ q h. has_later w q old.sent h; more = omega arith }

module _ (n : Net) (good : IsCovering n) where
  -- senders are routers, each once, and have heard the message
  pub record Valid (s : Spread) : Type 0 where
    pub distinct : IsDistinct nat_eq s.sent
    pub within : (q : ℕ) → has s.sent q ≡ true → q < n.count
    pub told : (q : ℕ) → has s.sent q ≡ true → has s.told q ≡ true

  pub few : (s : Spread) → Valid s → length s.sent ≤ n.count
  few s v = length-le_from_distinct_below s.sent n.count v.distinct v.within

  quiet_valid : (w : ℕ) (s : Spread) → Valid s → Valid (record { told = w ∷ s.told; sent = s.sent })
  quiet_valid w s v = record { distinct = v.distinct; within = v.within; told = λ q h. has_later w q s.told (v.told q h) }

  sends_valid : (w : ℕ) (s : Spread) → w < n.count → has s.sent w ≡ false → Valid s → Valid (record { told = w ∷ s.told; sent = w ∷ s.sent })
  sends_valid w s is fresh v = record {
    distinct = IsDistinct-cons nat_eq w s.sent (none_equal w s.sent fresh) v.distinct;
    within = λ q h. elim (has_cases w q s.sent h) [ inl e ↦ subst (λ (x : ℕ). x < n.count) (sym e) is | inr old ↦ v.within q old ];
    told = λ q h. elim (has_cases w q s.sent h) [ inl e ↦ subst (λ (x : ℕ). has (w ∷ s.told) x ≡ true) (sym e) (has_first w s.told) | inr old ↦ has_later w q s.told (v.told q old) ];
  }

  -- what the hearing of a frame by some hearers does
  pub record Mid (f : Going) (old new : Spread) (out : List Going) : Type 0 where
    pub valid : Valid new
    pub grows : Grows old new
    pub frames : (g : Going) → Contains out g → IsSent new g
    pub why : (v : ℕ) → has new.told v ≡ true → (has old.told v ≡ true) ⊎ ((j : ℕ) × n.Link f.from f.iface v j)
    pub first : (w : ℕ) → has new.told w ≡ true → has old.told w ≡ false → IsSelected n f.from f.iface w →
        (k : ℕ) → k < n.faces w → (g : Going) × Contains out g × (g.from ≡ w) × (g.iface ≡ k)

  none : (f : Going) (s : Spread) → Valid s → Mid f s s []
  none f s v = grind (arith, common_steps, grows_itself)

  both : (f : Going) (a b c : Spread) (xs ys : List Going) → Mid f a b xs → Mid f b c ys → Mid f a c (xs ++ ys)
  both f a b c xs ys m k = record {
    valid = k.valid;
    grows = grows_on m.grows k.grows;
    frames = λ g has_g. elim (Contains-append_cases xs ys g has_g) [ inl l ↦ sent_on k.grows (m.frames g l) | inr r ↦ k.frames g r ];
    why = λ v h. elim (k.why v h) [ inl before ↦ m.why v before | inr now ↦ inr now ];
    first = λ w h fresh sel i l. elim (cases_Bool (has b.told w)) [
      | inl before ↦ let (g, stands, from, at) = m.first w before fresh sel i l in (g, Contains-append_left xs ys g stands, from, at)
      | inr not_yet ↦ let (g, stands, from, at) = k.first w h not_yet sel i l in (g, Contains-append_right xs ys g stands, from, at)
    ];
  }

  quiet : (f : Going) (w j : ℕ) (s : Spread) (flag : Bool) → Valid s → IsSent s f → w < n.count → n.Flag f.from f.iface w j (Some flag) →
      (has s.told w ≡ false → flag ≡ true → n.More f.hops → ⊥) → Mid f s (record { told = w ∷ s.told; sent = s.sent }) []
  quiet f w j s flag v sent is by nay = record {
    valid = quiet_valid w s v;
    grows = takes_grow {More = n.More f.hops} (Quiet flag nay);
    frames = λ g c. absurd (none_of g c);
    why = λ q h. elim (has_cases w q s.told h) [
      | inl e ↦ inr (j, subst (λ (x : ℕ). n.Link f.from f.iface x j) (sym e) (good.linked f.from f.iface w j flag by))
      | inr old ↦ inl old
    ];
    first = λ q h fresh sel k l. elim (has_cases w q s.told h) [
      | inl e ↦
          let fresh_w : has s.told w ≡ false = subst (λ (x : ℕ). has s.told x ≡ false) e fresh in
          let sel_w : IsSelected n f.from f.iface w = subst (λ (x : ℕ). IsSelected n f.from f.iface x) e sel in
          let unsent : has s.sent w ≡ false = elim (cases_Bool (has s.sent w)) [ inl sends ↦ true_false (v.told w sends) fresh_w | inr not_sent ↦ not_sent ] in
          let room = few (record { told = w ∷ s.told; sent = w ∷ s.sent }) (sends_valid w s is unsent v) in
          absurd (nay fresh_w (sel_w j flag by) (good.hops f.hops (omega (arith, room, sent.hops))))
      | inr old ↦ true_false old fresh
    ];
  }

  sends : (f : Going) (w j : ℕ) (s : Spread) (flag : Bool) → Valid s → IsSent s f → w < n.count → n.Flag f.from f.iface w j (Some flag) →
      has s.sent w ≡ false → Mid f s (record { told = w ∷ s.told; sent = w ∷ s.sent }) (frames_on w (suc f.hops) (n.faces w))
  sends f w j s flag v sent is by nay = record {
    valid = sends_valid w s is nay v;
    grows = takes_grow {More = n.More f.hops} (Sends flag nay);
    frames = λ g c.
        (let (from, hops) = frame_is w (suc f.hops) (n.faces w) g c in
        record {
          sender = subst (λ (x : ℕ). has (w ∷ s.sent) x ≡ true) (sym from) (has_first w s.sent);
          hops = omega (arith, sent.hops, hops);
        });
    why = λ q h. elim (has_cases w q s.told h) [
      | inl e ↦ inr (j, subst (λ (x : ℕ). n.Link f.from f.iface x j) (sym e) (good.linked f.from f.iface w j flag by))
      | inr old ↦ inl old
    ];
    first = λ q h fresh sel k l. elim (has_cases w q s.told h) [
      | inl e ↦
          let (g, stands, from, at) = frame_on w (suc f.hops) k (n.faces w) (subst (λ (x : ℕ). k < n.faces x) e l) in
          (g, stands, from ∙ sym e, at)
      | inr old ↦ true_false old fresh
    ];
  }

  one : (f : Going) (w j : ℕ) (old new : Spread) (flag : Option Bool) (sending : Bool) → Valid old → IsSent old f → w < n.count →
      n.Flag f.from f.iface w j flag → Takes (n.More f.hops) w old flag new sending →
      Mid f old new (where_sent sending (frames_on w (suc f.hops) (n.faces w))) × (n.Link f.from f.iface w j → has new.told w ≡ true)
  one f w j old _ _ _ v sent is by Deaf = (none f old v, λ link. absurd (good.deaf f.from f.iface w j by link))
  one f w j old _ _ _ v sent is by (Quiet flag nay) = (quiet f w j old flag v sent is by nay, λ link. has_first w old.told)
  one f w j old _ _ _ v sent is by (Sends flag nay) = (sends f w j old flag v sent is by nay, λ link. has_first w old.told)

  pub all : (f : Going) {hearers : List (ℕ × ℕ)} {old new : Spread} {out : List Going} → ((w j : ℕ) → Contains hearers (w, j) → w < n.count) → Valid old → IsSent old f →
      Hears n f hearers old new out → Mid f old new out × ((w j : ℕ) → Contains hearers (w, j) → n.Link f.from f.iface w j → has new.told w ≡ true)
  all f {old = old} are v sent All_heard = (none f old v, λ w j c. absurd (none_of (w, j) c))
  all f are v sent (One_hears {w = w} {j = j} {hearers = hearers} {old = old} {mid = mid} {new = new} {more = more} flag sending by takes rest) =
      let (m, told) = one f w j old mid flag sending v sent (are w j (0, omega arith, refl)) by takes in
      let (k, others) = all f (λ x y c. are x y (in_tail (w, j) hearers (x, y) c)) m.valid (sent_on m.grows sent) rest in (
        both f old mid new (where_sent sending (frames_on w (suc f.hops) (n.faces w))) more m k,
        λ x y c link. elim (contains_cases (w, j) hearers (x, y) c) [
          | inl e ↦
              let link_w : n.Link f.from f.iface w j = subst (λ (p : ℕ × ℕ). n.Link f.from f.iface p.0 p.1) (sym e) link in
              k.grows.told x (subst (λ (p : ℕ × ℕ). has mid.told p.0 ≡ true) e (told link_w))
          | inr later ↦ others x y later link
        ],
      )

  -- a waiting frame will be heard by the router over a link
  abbrev pub Pending : List Going → ℕ → Type 0
  Pending queue z = (g : Going) × (l : ℕ) × Contains queue g × n.Link g.from g.iface z l

  -- waiting frames are sent, and each router that has a link with one that has heard the message has heard it or will
  pub record Sane (s : Spread) (queue : List Going) : Type 0 where
    pub valid : Valid s
    pub frames : (g : Going) → Contains queue g → IsSent s g
    pub closed : (v k z l : ℕ) → n.Link v k z l → has s.told v ≡ true → (has s.told z ≡ true) ⊎ Pending queue z

  pub after : (f : Going) (rest out : List Going) (old new : Spread) → Sane old (f ∷ rest) → Hears n f (n.hearers f.from f.iface) old new out → Sane new (rest ++ out)
  after f rest out old new s hears =
      let sent : IsSent old f = s.frames f (0, omega arith, refl) in
      let (m, heard) = all f (good.routers f.from f.iface) s.valid sent hears in
      let reaches : (z l : ℕ) → n.Link f.from f.iface z l → has new.told z ≡ true = λ z l link. heard z l (good.heard f.from f.iface z l link) link in
      let by_old : (v k z l : ℕ) → n.Link v k z l → has old.told v ≡ true → (has new.told z ≡ true) ⊎ Pending (rest ++ out) z =
      λ v k z l link h. elim (s.closed v k z l link h) [
        | inl told ↦ inl (m.grows.told z told)
        | inr waits ↦
            let (g, i, stands, to_z) = waits in
            elim (contains_cases f rest g stands) [
              | inl e ↦ inl (reaches z i (subst (λ (x : Going). n.Link x.from x.iface z i) (sym e) to_z))
              | inr later ↦ inr (g, i, Contains-append_left rest out g later, to_z)
            ]
      ] in
      record {
        valid = m.valid;
        frames = λ g c. elim (Contains-append_cases rest out g c) [
          | inl l ↦ sent_on m.grows (s.frames g (in_tail f rest g l))
          | inr r ↦ m.frames g r
        ];
        closed = λ v k z l link h. elim (m.why v h) [
          | inl before ↦ by_old v k z l link before
          | inr now ↦ elim (cases_eq z f.from) [
            | inl e ↦ inl (subst (λ (x : ℕ). has new.told x ≡ true) (sym e) (m.grows.told f.from (s.valid.told f.from sent.sender)))
            | inr other ↦ elim (good.covered f.from f.iface v now.0 k z l now.1 link other) [
              | inl direct ↦ inl (reaches z direct.0 direct.1)
              | inr relayed ↦
                  let (w, j, i, p, to_w, to_z, chosen) = relayed in
                  elim (cases_Bool (has old.told w)) [
                    | inl before ↦ by_old w i z p to_z before
                    | inr fresh ↦
                        let (g, stands, from, at) = m.first w (reaches w j to_w) fresh chosen i (good.faces w i z p to_z) in
                        let by_g : n.Link g.from g.iface z p = subst (λ (x : ℕ). n.Link x g.iface z p) (sym from) (subst (λ (x : ℕ). n.Link w x z p) (sym at) to_z) in
                        inr (g, p, Contains-append_right rest out g stands, by_g)
                  ]
            ]
          ]
        ];
      }

  pub ends : {s new : Spread} {queue all : List Going} → Sane s queue → Wave n s queue new all →
      Grows s new × ((v k z l : ℕ) → n.Link v k z l → has new.told v ≡ true → has new.told z ≡ true)
  ends {s = s} sane Ends = (grows_itself s, λ v k z l link h. elim (sane.closed v k z l link h) [ inl told ↦ told | inr waits ↦ absurd (none_of waits.0 waits.2) ])
  ends sane (Goes {f = f} {rest = rest} {more = more} {old = old} {mid = mid} hears wave) =
      let (grows, closed) = ends (after f rest more old mid sane hears) wave in
      let (m, _) = all f (good.routers f.from f.iface) sane.valid (sane.frames f (0, omega arith, refl)) hears in
      (grows_on m.grows grows, closed)

  -- who has heard the message had heard it before, or hears a frame over a link
  pub heard_of : {s new : Spread} {queue heard : List Going} → Sane s queue → Wave n s queue new heard → (z : ℕ) → has new.told z ≡ true →
      (has s.told z ≡ true) ⊎ ((g : Going) × (j : ℕ) × Contains heard g × n.Link g.from g.iface z j)
  heard_of sane Ends z told = inl told
  heard_of sane (Goes {f = f} {rest = rest} {more = more} {all = heard} {old = old} {mid = mid} hears wave) z told =
      let (m, _) = all f (good.routers f.from f.iface) sane.valid (sane.frames f (0, omega arith, refl)) hears in
      elim (heard_of (after f rest more old mid sane hears) wave z told) [
        | inl before ↦ elim (m.why z before) [
          | inl first ↦ inl first
          | inr link ↦ inr (f, link.0, (0, omega arith, refl), link.1)
        ]
        | inr later ↦ let (g, j, stands, link) = later in inr (g, j, in_tail f heard g stands, link)
      ]

  opens : (origin : ℕ) → origin < n.count → Sane (record { told = origin ∷ []; sent = origin ∷ [] }) (frames_on origin 0 (n.faces origin))
  opens origin is =
      let start : Spread = record { told = origin ∷ []; sent = origin ∷ [] } in
      record {
        valid = record {
          distinct = IsDistinct-cons nat_eq origin [] tt none_distinct;
          within = λ q h. elim (has_cases origin q [] h) [ inl e ↦ subst (λ (x : ℕ). x < n.count) (sym e) is | inr nay ↦ absurd (cc) ];
          told = λ q h. h;
        };
        frames = λ g c.
            (let (from, hops) = frame_is origin 0 (n.faces origin) g c in
            record { sender = subst (λ (x : ℕ). has (origin ∷ []) x ≡ true) (sym from) (has_first origin []); hops = omega (arith, hops) });
        closed = λ v k z l link h. elim (has_cases origin v [] h) [
          | inl e ↦
              let from_o : n.Link origin k z l = subst (λ (x : ℕ). n.Link x k z l) e link in
              let (g, stands, from, at) = frame_on origin 0 k (n.faces origin) (good.faces origin k z l from_o) in
              inr (g, l, stands, subst (λ (x : ℕ). n.Link x g.iface z l) (sym from) (subst (λ (x : ℕ). n.Link origin x z l) (sym at) from_o))
          | inr nay ↦ absurd (cc)
        ];
      }

  chained : (origin : ℕ) (new : Spread) → has new.told origin ≡ true → ((v k z l : ℕ) → n.Link v k z l → has new.told v ≡ true → has new.told z ≡ true) →
      (z : ℕ) → Chain n origin z → has new.told z ≡ true
  chained origin new start closed _ Itself = start
  chained origin new start closed _ (On {v = v} {w = w} {i = i} {j = j} way link) = closed v i w j link (chained origin new start closed v way)

pub wave_covers : WaveCovers
wave_covers n good origin is new heard wave z chain =
    let (grows, closed) = ends n good (opens n good origin is) wave in
    chained n good origin new (grows.told origin (has_first origin [])) closed z chain

-- and each of them but the originator hears a frame over a link
pub wave_reaches : (n : Net) → IsCovering n → (origin : ℕ) → origin < n.count → (new : Spread) (heard : List Going) → WaveFrom n origin new heard →
    (z : ℕ) → Chain n origin z → (z ≡ origin → ⊥) → (g : Going) × (j : ℕ) × Contains heard g × n.Link g.from g.iface z j
wave_reaches n good origin is new heard wave z chain other =
    elim (heard_of n good (opens n good origin is) wave z (wave_covers n good origin is new heard wave z chain)) [
      | inl first ↦ elim (has_cases origin z [] first) [ inl e ↦ absurd (other e) | inr nay ↦ absurd (let f : false ≡ true = nay in cc) ]
      | inr found ↦ found
    ]

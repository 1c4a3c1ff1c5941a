-- Flags and the ids that they stand for.
use Rattle.mesh_relay.proofs.Common.{◌≡◌, ℕ, ◌+◌, ◌≤◌, ◌<◌, ◌⊎◌, Bool, true, false, cond, List, [], ◌∷◌, ◌++◌, length, drop, get_or, zero, suc, refl, sym, ◌∙◌, ap, subst, inl, inr, arith, Contains, AllPairs, replicate, common_steps, false≢true, cases_Bool, drop_more, append_assoc, get_or-replicate, Addr4, Near, Far, NeighbourGraph, Offers, IsWilling, IsRelay, IsAsCheap, Covers, HasDistinctIds, IsAscending, Way, AreWilling, IsAt, IsCheapest, AreWays, ids_of, IsTaken, reaches, contains_none, contains_head, contains_cases, contains_cond, all_pairs_cons}
use Rattle.mesh_relay.proofs.Decide.{OffersWithin}
use Rattle.mesh_relay.proofs.Hits.{all_hit, one_missed}
use Rattle.mesh_relay.proofs.Willing.{one_place, later_order}

-- Ids

ids_cond : (t : Bool) (id x : Addr4) (rest : List Addr4) → Contains (cond t (x ∷ rest) rest) id → ((x ≡ id) × (t ≡ true)) ⊎ Contains rest id
ids_cond t id x rest w = grind (arith, common_steps, contains_cases)

ids_first : (t : Bool) (x : Addr4) (rest : List Addr4) → t ≡ true → Contains (cond t (x ∷ rest) rest) x
ids_first t x rest e = grind (arith, common_steps, contains_head)

-- the neighbour of that id that is taken
pub record TakenOf (ns : List Near) (ts : List Bool) (id : Addr4) : Type 0 where
  pub near : Near
  pub place : ℕ
  pub at : IsAt ns place near
  pub is : near.id ≡ id
  pub taken : IsTaken ts place

pub taken_of : (ns : List Near) (ts : List Bool) (id : Addr4) → Contains (ids_of ns ts) id → TakenOf ns ts id
taken_of [] ts id w = absurd (contains_none id w)
taken_of (n ∷ ns) [] id w = absurd (contains_none id w)
taken_of (n ∷ ns) (t ∷ ts) id w = elim (ids_cond t id n.id (ids_of ns ts) w) [
  | inl e ↦ record { near = n; place = 0; at = (omega arith, refl); is = e.0; taken = e.1 }
  | inr v ↦
      let h = taken_of ns ts id v in
      let lt : h.place < length ns = h.at.0 in
      record { near = h.near; place = suc h.place; at = (omega arith, h.at.1); is = h.is; taken = h.taken }
]

nothing_taken : (k : ℕ) → get_or {A = Bool} [] k false ≡ true → ⊥
nothing_taken k e = grind (arith, common_steps)

pub id_taken : (ns : List Near) (ts : List Bool) (k : ℕ) (n : Near) → IsAt ns k n → IsTaken ts k → Contains (ids_of ns ts) n.id
id_taken [] ts k n at taken = absurd (omega (arith, at.0))
id_taken (m ∷ ns) [] k n at taken = absurd (nothing_taken k taken)
id_taken (m ∷ ns) (t ∷ ts) zero n at taken = grind (arith, common_steps, ids_first)
id_taken (m ∷ ns) (t ∷ ts) (suc k) n at taken = grind (arith, common_steps, contains_cond, (id_taken ns ts k n (omega (arith, at.0), at.1) taken))

pub taken_at : (g : NeighbourGraph) (willing : List Near) (ts : List Bool) (k : ℕ) (n : Near) → AreWilling g willing → IsAt willing k n → Contains (ids_of willing ts) n.id → IsTaken ts k
taken_at g willing ts k n are at w =
    let h = taken_of willing ts n.id w in
    subst (IsTaken ts) (one_place willing h.place k h.near n are.order h.at at h.is) h.taken

-- a neighbour with a relay's id is the one that is taken
pub taken_near : (g : NeighbourGraph) (willing : List Near) (ts : List Bool) (n : Near) → HasDistinctIds g → AreWilling g willing → Contains g.near n → Contains (ids_of willing ts) n.id →
    (k : ℕ) × IsAt willing k n × IsTaken ts k
taken_near g willing ts n distinct are near w =
    let h = taken_of willing ts n.id w in
    let known = (are.each h.near).0 (h.place, h.at.0, h.at.1) in
    let is : h.near ≡ n = distinct h.near n known.0 near h.is in
    (h.place, subst (IsAt willing h.place) is h.at, h.taken)

ascending_cond : (t : Bool) (x : Addr4) (rest : List Addr4) → ((id : Addr4) → Contains rest id → x.0 < id.0) → IsAscending rest → IsAscending (cond t (x ∷ rest) rest)
ascending_cond true x rest below h = all_pairs_cons (λ (a b : Addr4). a.0 < b.0) x rest below h
ascending_cond false x rest below h = h

none_ascending : IsAscending []
none_ascending i j d lt within = absurd (omega arith)

first_below : (n : Near) (ns : List Near) (ts : List Bool) (id : Addr4) → AllPairs (λ a b. a.id.0 < b.id.0) (n ∷ ns) → Contains (ids_of ns ts) id → n.id.0 < id.0
first_below n ns ts id order w =
    let h = taken_of ns ts id w in
    let lt : h.place < length ns = h.at.0 in
    subst (λ (y : Addr4). n.id.0 < y.0) h.is
    (subst (λ (m : Near). n.id.0 < m.id.0) h.at.1 (order 0 (suc h.place) h.near (omega arith) (omega arith)))

pub ids_ascend : (ns : List Near) (ts : List Bool) → AllPairs (λ a b. a.id.0 < b.id.0) ns → IsAscending (ids_of ns ts)
ids_ascend [] ts order = none_ascending
ids_ascend (n ∷ ns) [] order = none_ascending
ids_ascend (n ∷ ns) (t ∷ ts) order =
    ascending_cond t n.id (ids_of ns ts) (λ id w. first_below n ns ts id order w) (ids_ascend ns ts (later_order n ns order))

-- Flags that reach each address

le-same : (n : ℕ) → n ≤ n
le-same n = omega arith

-- a way is an offer
offer_of : (g : NeighbourGraph) (willing : List Near) (w : Way) (A : Near → Type 0) → AreWilling g willing → (h : IsCheapest g willing w) → A h.near → Offers g A w.addr w.cost
offer_of g willing w A are h a =
    inr (h.near, ((are.each h.near).0 (w.place, h.at.0, h.at.1)).0, a, h.far, h.within, sym h.via, sym h.addr, sym h.cost)

keeps_way : (g : NeighbourGraph) (willing : List Near) (ways : List Way) (ts : List Bool) → AreWilling g willing → AreWays g willing ways → reaches ways ts ≡ true →
    (w : Way) (y : Addr4) (c : ℕ) → Contains ways w → w.addr ≡ y → Offers g IsWilling y c → OffersWithin g (IsRelay (ids_of willing ts)) y c
keeps_way g willing ways ts are are-ways all w y c within at o =
    let hit = all_hit (λ v. get_or ts v.place false) ways all w within in
    let best = are-ways.each hit.0 hit.1 in
    let there : hit.0.addr ≡ y = hit.2 ∙ at in (
      hit.0.cost,
      subst (λ (a : Addr4). Offers g (IsRelay (ids_of willing ts)) a hit.0.cost) there
          (offer_of g willing hit.0 (IsRelay (ids_of willing ts)) are best (id_taken willing ts hit.0.place best.near best.at hit.3)),
      best.least c (subst (λ (a : Addr4). Offers g IsWilling a c) (sym there) o),
    )

pub keeps_costs : (g : NeighbourGraph) (willing : List Near) (ways : List Way) (ts : List Bool) → AreWilling g willing → AreWays g willing ways → reaches ways ts ≡ true →
    (y : Addr4) → IsAsCheap g (IsRelay (ids_of willing ts)) IsWilling y
keeps_costs g willing ways ts are are-ways all y c o = elim o [
  | inl d ↦ (c, inl d, le-same c)
  | inr m ↦ elim (are-ways.rest m.0 m.3 ((are.each m.0).1 (m.1, m.2)) m.4 (sym m.5)) [
    | inl d ↦
        let cost : m.0.cost + m.3.cost ≡ c = m.7 in
        let le : d.0.cost ≤ m.0.cost + m.3.cost = d.2.1 in
        (d.0.cost, inl (d.0, d.1, d.2.0 ∙ m.6, refl), omega arith)
    | inr w ↦ keeps_way g willing ways ts are are-ways all w.0 y c w.1 (w.2 ∙ m.6) (inr m)
  ]
]

-- flags of neighbours of willingness 15
abbrev pub HasAlways : List Near → List Bool → Type 0
HasAlways willing ts = (k : ℕ) (n : Near) → IsAt willing k n → n.will ≡ 15 → IsTaken ts k

fifteen_willing : (w : ℕ) → w ≡ 15 → w ≡ 0 → ⊥
fifteen_willing w e z = omega arith

pub covers_taken : (g : NeighbourGraph) (willing : List Near) (ways : List Way) (ts : List Bool) → AreWilling g willing → AreWays g willing ways → HasAlways willing ts → reaches ways ts ≡ true →
    Covers g (ids_of willing ts)
covers_taken g willing ways ts are are-ways always all = record {
  always = λ n near e.
      let at = (are.each n).1 (near, λ z. fifteen_willing n.will e z) in
      id_taken willing ts at.0 n (at.1, at.2) (always at.0 n (at.1, at.2) e);
  willing = λ id w.
      let h = taken_of willing ts id w in
      let known = (are.each h.near).0 (h.place, h.at.0, h.at.1) in
      (h.near, known.0, h.is, known.1);
  as_cheap = λ f c far o. keeps_costs g willing ways ts are are-ways all f.addr c o;
}

-- Flags that don't

dearer_by_way : (g : NeighbourGraph) (willing : List Near) (ways : List Way) (ts : List Bool) → HasDistinctIds g → AreWilling g willing → AreWays g willing ways →
    (w : Way) → Contains ways w → ((v : Way) → Contains ways v → v.addr ≡ w.addr → get_or ts v.place false ≡ false) →
    (n : Near) (f : Far) → Contains g.near n → Contains (ids_of willing ts) n.id → Contains g.far f → n.id ≡ f.via → f.addr ≡ w.addr → n.cost + f.cost ≤ w.cost → ⊥
dearer_by_way g willing ways ts distinct are are-ways w within missed n f near relay far via at le =
    let best = are-ways.each w within in
    let here = taken_near g willing ts n distinct are near relay in
    elim (are-ways.rest n f (here.0, here.1.0, here.1.1) far via) [
      | inl d ↦ let low : d.0.cost ≤ n.cost + f.cost = d.2.1 in best.no_direct (d.0, d.1, (d.2.0 ∙ at, omega arith))
      | inr v ↦ elim v.3 [
        | inl lt ↦
            let other = are-ways.each v.0 v.1 in
            let willing' = ((are.each other.near).0 (v.0.place, other.at.0, other.at.1)).1 in
            let o = subst (λ (y : Addr4). Offers g IsWilling y v.0.cost) (v.2 ∙ at) (offer_of g willing v.0 IsWilling are other willing') in
            let high : w.cost ≤ v.0.cost = best.least v.0.cost o in
            omega arith
        | inr same' ↦
            let place : v.0.place ≡ here.0 = one_place willing v.0.place here.0 n n are.order same' here.1 refl in
            false≢true (sym (missed v.0 v.1 (v.2 ∙ at)) ∙ subst (IsTaken ts) (sym place) here.2)
      ]
    ]

pub dearer_somewhere : (g : NeighbourGraph) (willing : List Near) (ways : List Way) (ts : List Bool) → HasDistinctIds g → AreWilling g willing → AreWays g willing ways → reaches ways ts ≡ false →
    (f : Far) × Contains g.far f × (IsAsCheap g (IsRelay (ids_of willing ts)) IsWilling f.addr → ⊥)
dearer_somewhere g willing ways ts distinct are are-ways e =
    let w = one_missed (λ v. get_or ts v.place false) ways are-ways.order e in
    let best = are-ways.each w.0 w.1 in
    let willing' = ((are.each best.near).0 (w.0.place, best.at.0, best.at.1)).1 in (
      best.far,
      best.within,
      λ cheap.
          let h = subst (λ (y : Addr4). IsAsCheap g (IsRelay (ids_of willing ts)) IsWilling y) (sym best.addr) cheap w.0.cost (offer_of g willing w.0 IsWilling are best willing') in
          let le : h.0 ≤ w.0.cost = h.2 in
          elim h.1 [
            | inl d ↦ let cost : d.0.cost ≡ h.0 = d.3 in best.no_direct (d.0, d.1, (d.2, omega arith))
            | inr m ↦
                let cost : m.0.cost + m.3.cost ≡ h.0 = m.7 in
                dearer_by_way g willing ways ts distinct are are-ways w.0 w.1 w.2 m.0 m.3 m.1 m.2 m.4 (sym m.5) m.6 (omega arith)
          ],
    )

-- One more place

ids_step : (willing : List Near) (ts : List Bool) (k : ℕ) (n : Near) (t : Bool) → k < length willing → k < length ts →
    ids_of (drop k willing) (drop k ts) ≡ cond (get_or ts k t) ((get_or willing k n).id ∷ ids_of (drop (k + 1) willing) (drop (k + 1) ts)) (ids_of (drop (k + 1) willing) (drop (k + 1) ts))
ids_step willing ts k n t lt lt' = grind (arith, common_steps, drop, cond, get_or, drop_more)

pub ids_more_taken : (ids : List Addr4) (willing : List Near) (ts : List Bool) (k : ℕ) (n : Near) (t : Bool) (all : List Addr4) → k < length willing → k < length ts → get_or ts k t ≡ true →
    ids ++ ids_of (drop k willing) (drop k ts) ≡ all → (ids ++ (get_or willing k n).id ∷ []) ++ ids_of (drop (k + 1) willing) (drop (k + 1) ts) ≡ all
ids_more_taken ids willing ts k n t all lt lt' e h = grind (arith, common_steps, append_assoc, get_or, drop, ids_step, cond)

pub ids_more_untaken : (ids : List Addr4) (willing : List Near) (ts : List Bool) (k : ℕ) (t : Bool) (all : List Addr4) → k < length willing → k < length ts → get_or ts k t ≡ false →
    ids ++ ids_of (drop k willing) (drop k ts) ≡ all → ids ++ ids_of (drop (k + 1) willing) (drop (k + 1) ts) ≡ all
ids_more_untaken ids willing ts k t all lt lt' e h =
    let n : Near = record { id = record { 0 = 0 }; cost = 0; will = 0 } in
    ap (λ (l : List Addr4). ids ++ l) (sym (ids_step willing ts k n t lt lt' ∙ ap (λ (b : Bool). cond b ((get_or willing k n).id ∷ ids_of (drop (k + 1) willing) (drop (k + 1) ts)) (ids_of (drop (k + 1) willing) (drop (k + 1) ts))) e)) ∙ h

-- Where each neighbour is taken

pub reaches_if : (g : NeighbourGraph) (willing : List Near) (ways : List Way) (ts : List Bool) → AreWays g willing ways → ((k : ℕ) → k < length willing → IsTaken ts k) → reaches ways ts ≡ true
reaches_if g willing ways ts are-ways all = elim (cases_Bool (reaches ways ts)) [
  | inl e ↦ e
  | inr e ↦
      let w = one_missed (λ v. get_or ts v.place false) ways are-ways.order e in
      absurd (false≢true (sym (w.2 w.0 w.1 refl) ∙ all w.0.place (are-ways.each w.0 w.1).at.0))
]

pub covers_all : (g : NeighbourGraph) (willing : List Near) (ways : List Way) (ts : List Bool) → AreWilling g willing → AreWays g willing ways → ((k : ℕ) → k < length willing → IsTaken ts k) → Covers g (ids_of willing ts)
covers_all g willing ways ts are are-ways all =
    covers_taken g willing ways ts are are-ways (λ k n at e. all k at.0) (reaches_if g willing ways ts are-ways all)

pub all_taken : (willing : List Near) (ts : List Bool) → ts ≡ replicate (length willing) true → (k : ℕ) → k < length willing → IsTaken ts k
all_taken willing ts e k lt = subst (λ (l : List Bool). IsTaken l k) (sym e) (get_or-replicate (length willing) k true false lt)

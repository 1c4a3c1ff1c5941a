-- The tests decide what they are named for.
use Rattle.mesh_relay.proofs.Common.{◌≡◌, ℕ, ◌+◌, ◌≤◌, ◌<◌, ◌||◌, not, List, refl, sym, subst, inl, inr, arith, Decides, Contains, common_steps, Addr4, Near, Far, NeighbourGraph, Decides-eqb, Decides-ltb, Decides-leb, Decides-addr, Decides-and, Decides-or, Decides-not, Decides-if, Decides-if_both, Decides-some, Decides-each, Offers, IsWilling, IsRelay, IsOtherRelay, IsAsCheap, HasSameDistance, Covers, IsMissed, Needed, HasDistinctIds, addr_eq, Willing, Relays, Others, IsDirect, contains, is_in_set, has_way_within, is_direct_within, is_led_to_within, is_offered_within, is_matched, is_as_cheap, are_costs_kept, has_always, are_willing, is_missed, irredundant, covers, are_distinct, are_all_distinct}
use Rattle.std.specs.Borrow.{Bor}
use Rattle.mesh_relay.specs.declared.sets.Among.{Among}

le-refl : (n : ℕ) → n ≤ n
le-refl n = omega arith

-- Sets of neighbours

-- the neighbours of such a set
abbrev pub IsIn : Among → Near → Type 0
IsIn Willing n = IsWilling n
IsIn (Relays relays) n = IsRelay relays.now n
IsIn (Others relays id) n = IsOtherRelay relays.now id n

pub Decides-contains : (ids : List Addr4) (id : Addr4) → Decides (contains ids id) (Contains ids id)
Decides-contains ids id =
    let d = Decides-some (λ (r : Addr4). addr_eq r id) (λ r. r ≡ id) (λ (r : Addr4). Decides-addr r id) ids in
    (λ e. let w = d.0 e in subst (Contains ids) w.2 w.1, λ w. d.1 (id, w, refl))

pub Decides-is_in_set : (among : Among) (n : Near) → Decides (is_in_set among n) (IsIn among n)
Decides-is_in_set among n = grind (arith, common_steps, Decides-not, Decides-contains, Decides-and, Decides-addr)

abbrev pub Leads : NeighbourGraph → (Near → Type 0) → Far → ℕ → Type 0
Leads g A f most = (n : Near) × Contains g.near n × (((n.id ≡ f.via) × A n) × (n.cost + f.cost ≤ most))

pub Decides-has_way_within : (g : NeighbourGraph) (among : Among) (f : Far) (most : ℕ) → Decides (has_way_within g among f most) (Leads g (IsIn among) f most)
Decides-has_way_within g among f most =
    Decides-some _ (λ n. ((n.id ≡ f.via) × IsIn among n) × (n.cost + f.cost ≤ most))
    (λ n. Decides-and _ _ (Decides-and _ _ (Decides-addr n.id f.via) (Decides-is_in_set among n)) (Decides-leb (n.cost + f.cost) most)) g.near

-- some offer of the set is no dearer than that
abbrev pub OffersWithin : NeighbourGraph → (Near → Type 0) → Addr4 → ℕ → Type 0
OffersWithin g A y most = (e : ℕ) × Offers g A y e × (e ≤ most)

pub Decides-direct : (g : NeighbourGraph) (y : Addr4) (most : ℕ) → Decides (is_direct_within g y most) (IsDirect g y most)
Decides-direct g y most =
    Decides-some _ (λ d. (d.addr ≡ y) × (d.cost ≤ most)) (λ d. Decides-and _ _ (Decides-addr d.addr y) (Decides-leb d.cost most)) g.direct

pub Decides-led : (g : NeighbourGraph) (among : Among) (y : Addr4) (most : ℕ) →
    Decides (is_led_to_within g among y most) ((f : Far) × Contains g.far f × ((f.addr ≡ y) × Leads g (IsIn among) f most))
Decides-led g among y most =
    Decides-some _ (λ f. (f.addr ≡ y) × Leads g (IsIn among) f most) (λ f. Decides-and _ _ (Decides-addr f.addr y) (Decides-has_way_within g among f most)) g.far

pub Decides-offers : (g : NeighbourGraph) (among : Among) (y : Addr4) (most : ℕ) → Decides (is_offered_within g among y most) (OffersWithin g (IsIn among) y most)
Decides-offers g among y most =
    let d = Decides-or _ _ (Decides-direct g y most) (Decides-led g among y most) in (
      λ e. elim (d.0 e) [
        | inl w ↦ (w.0.cost, inl (w.0, w.1, w.2.0, refl), w.2.1)
        | inr w ↦ let n = w.2.1.0 in (n.cost + w.0.cost, inr (n, w.2.1.1, w.2.1.2.0.1, w.0, w.1, sym w.2.1.2.0.0, w.2.0, refl), w.2.1.2.1)
      ],
      λ w. d.1 (elim w.1 [
        | inl o ↦ inl (o.0, o.1, (o.2, subst (λ (c : ℕ). c ≤ most) (sym o.3) w.2))
        | inr o ↦ inr (o.3, o.4, (o.6, (o.0, o.1, ((sym o.5, o.2), subst (λ (c : ℕ). c ≤ most) (sym o.7) w.2))))
      ]),
    )

-- Costs

Decides-matched : (g : NeighbourGraph) (among other : Among) (f : Far) →
    Decides (is_matched g among other f) ((n : Near) → Contains g.near n → n.id ≡ f.via → IsIn other n → OffersWithin g (IsIn among) f.addr (n.cost + f.cost))
Decides-matched g among other f =
    Decides-each _ (λ n. n.id ≡ f.via → IsIn other n → OffersWithin g (IsIn among) f.addr (n.cost + f.cost))
    (λ n. Decides-if_both _ _ _ (Decides-addr n.id f.via) (Decides-is_in_set other n) (Decides-offers g among f.addr (n.cost + f.cost))) g.near

pub Decides-as_cheap : (g : NeighbourGraph) (among other : Among) (y : Addr4) → Decides (is_as_cheap g among other y) (IsAsCheap g (IsIn among) (IsIn other) y)
Decides-as_cheap g among other y =
    let d = Decides-each (λ f. not (addr_eq f.addr y) || is_matched g among other f)
    (λ f. f.addr ≡ y → (n : Near) → Contains g.near n → n.id ≡ f.via → IsIn other n → OffersWithin g (IsIn among) f.addr (n.cost + f.cost))
    (λ f. Decides-if _ _ (Decides-addr f.addr y) (Decides-matched g among other f)) g.far in (
      λ e c o. elim o [
        | inl w ↦ (c, inl w, le-refl c)
        | inr w ↦ subst (λ (x : ℕ). OffersWithin g (IsIn among) y x) w.7
            (subst (λ (z : Addr4). OffersWithin g (IsIn among) z (w.0.cost + w.3.cost)) w.6 (d.0 e w.3 w.4 w.6 w.0 w.1 (sym w.5) w.2))
      ],
      λ h. d.1 (λ f within at n near id in'.
          subst (λ (z : Addr4). OffersWithin g (IsIn among) z (n.cost + f.cost)) (sym at) (h (n.cost + f.cost) (inr (n, near, in', f, within, sym id, at, refl)))),
    )

pub Decides-are_costs_kept : (g : NeighbourGraph) (among : Among) → Decides (are_costs_kept g among) ((f : Far) → Contains g.far f → IsAsCheap g (IsIn among) IsWilling f.addr)
Decides-are_costs_kept g among = Decides-each _ (λ f. IsAsCheap g (IsIn among) IsWilling f.addr) (λ f. Decides-as_cheap g among Willing f.addr) g.far

-- Covers

pub Decides-always : (g : NeighbourGraph) (among : Among) → Decides (has_always g among) ((n : Near) → Contains g.near n → n.will ≡ 15 → IsIn among n)
Decides-always g among =
    Decides-each _ (λ n. n.will ≡ 15 → IsIn among n) (λ n. Decides-if _ _ (Decides-eqb n.will 15) (Decides-is_in_set among n)) g.near

Decides-willing : (g : NeighbourGraph) (relays : List Addr4) →
    Decides (are_willing g relays) ((id : Addr4) → Contains relays id → (n : Near) × Contains g.near n × ((n.id ≡ id) × IsWilling n))
Decides-willing g relays =
    Decides-each _ (λ id. (n : Near) × Contains g.near n × ((n.id ≡ id) × IsWilling n))
    (λ id. Decides-some _ (λ n. (n.id ≡ id) × IsWilling n) (λ n. Decides-and _ _ (Decides-addr n.id id) (Decides-not _ (Decides-eqb n.will 0))) g.near) relays

pub Decides-covers : (g : NeighbourGraph) (relays : Bor (List Addr4)) → Decides (covers g relays) (Covers g relays.now)
Decides-covers g relays =
    let d = Decides-and _ _ (Decides-and _ _ (Decides-always g (Relays relays)) (Decides-willing g relays.now)) (Decides-are_costs_kept g (Relays relays)) in (
      λ e. let w = d.0 e in record {
        always = w.0.0;
        willing = λ id within. let v = w.0.1 id within in (v.0, v.1, v.2.0, v.2.1);
        as_cheap = λ f c within o. w.1 f within c o;
      },
      λ w. d.1 ((w.always, λ id within. let v = w.willing id within in (v.0, v.1, (v.2, v.3))), λ f within c o. w.as_cheap f c within o),
    )

-- Needed

Decides-missed : (g : NeighbourGraph) (relays : Bor (List Addr4)) (id : Addr4) → Decides (is_missed g (Others relays id)) (IsMissed g relays.now id)
Decides-missed g relays id =
    Decides-some _ (λ f. HasSameDistance g (IsOtherRelay relays.now id) IsWilling f.addr → ⊥)
    (λ f. Decides-not _ (Decides-and _ _ (Decides-as_cheap g (Others relays id) Willing f.addr) (Decides-as_cheap g Willing (Others relays id) f.addr))) g.far

pub Decides-irredundant : (g : NeighbourGraph) (relays : Bor (List Addr4)) → Decides (irredundant g (Relays relays)) (Needed g relays.now)
Decides-irredundant g relays =
    let d = Decides-each _ (λ n. Contains relays.now n.id → IsWilling n × (n.will < 15) → IsMissed g relays.now n.id)
    (λ n. Decides-if_both _ _ _ (Decides-contains relays.now n.id)
    (Decides-and _ _ (Decides-not _ (Decides-eqb n.will 0)) (Decides-ltb n.will 15)) (Decides-missed g relays n.id)) g.near in (
      λ e. record { missed = λ n near within willing below. d.0 e n near within (willing, below) },
      λ w. d.1 (λ n near within both. w.missed n near within both.0 both.1),
    )

-- Distinct ids

same_near : (m n : Near) → m.id ≡ n.id → m.cost ≡ n.cost → m.will ≡ n.will → m ≡ n
same_near m n id cost will = grind (arith, common_steps)

Decides-are_distinct : (m n : Near) → Decides (are_distinct m n) (m.id ≡ n.id → m ≡ n)
Decides-are_distinct m n = grind (arith, common_steps, same_near)

pub Decides-distinct_ids : (g : NeighbourGraph) → Decides (are_all_distinct g) (HasDistinctIds g)
Decides-distinct_ids g =
    let d = Decides-each _ (λ m. (n : Near) → Contains g.near n → m.id ≡ n.id → m ≡ n)
    (λ m. Decides-each _ (λ n. m.id ≡ n.id → m ≡ n) (λ n. Decides-are_distinct m n) g.near) g.near in (
      λ e m n in-m in-n id. d.0 e m in-m n in-n id,
      λ h. d.1 (λ m in-m n in-n id. h m n in-m in-n id),
    )

-- A step that is taken keeps the state of a search by a frontier, and one that has ended has met what each arc offers.
use Rattle.mesh_paths.proofs.Common.{common_steps, ◌≡◌, ◌≢◌, ℕ, ◌+◌, ◌<◌, ◌≤◌, ◌⊎◌, inl, inr, refl, sym, ◌∙◌, ap, subst, arith, List, [], ◌∷◌, length, Contains, Some, slice_index_or, AllWithin, slice_range, AllWithin-more, at_read, NetAddr, Arc4, PathRow, IsBefore, net_cmp, ArcRun, SearchStep, IsAsGood, MeetsBy, number_of, IsIndex, IsPart, PutsStep, Settles, IsSettledRow, row_of, step_of, RowMap, IsMetIn, Betters, IsOfferBy, IsInRange, HasLedRows, IsMetOrWaits, IsSearch, IsTaking, OffersAll, offered, OffersArc, work_in, at_most_itself, at_most_of_before, contains_cases}
use Rattle.std.specs.BTreeMap as tree
use Rattle.mesh_paths.proofs.Order.{same_node, as_good_trans}
use Rattle.mesh_paths.proofs.Index.{in_run}
use Rattle.mesh_paths.proofs.Rows.{of_each}
use Rattle.mesh_paths.proofs.ReachedLaw.{settled_at, lighter_in, reached_new, met_already}

-- a node has one row
one_row : (map : RowMap) (r t : PathRow) → IsSettledRow map r → IsSettledRow map t → r.node ≡ t.node → r ≡ t
one_row map r t has_r has_t e = grind (arith, common_steps)

-- what is better than a row is as good as what that is as good as
as_good_still : (row q : PathRow) (metric : ℕ) (parent : NetAddr) →
    (row.metric < q.metric) ⊎ ((row.metric ≡ q.metric) × IsBefore row.parent q.parent) → IsAsGood q metric parent →
    IsAsGood row metric parent
as_good_still row q metric parent better good = grind (arith, common_steps, at_most_of_before, as_good_trans)

one_done : (arc : Arc4) (map : RowMap) (steps : List SearchStep) → IsMetOrWaits map steps arc → (a : Arc4) → Contains (arc ∷ []) a → IsMetOrWaits map steps a
one_done arc map steps state a has = elim (contains_cases arc [] a has) [
  | inl same ↦ subst (λ (x : Arc4). IsMetOrWaits map steps x) same state
  | inr later ↦ absurd (omega (arith, later.1))
]

-- A row gets better, and its step waits
module _ (old new : RowMap) (row : PathRow) (steps steps' : List SearchStep) (betters : Betters old row new) (puts : PutsStep steps (step_of row) steps') where
  met_still : (node : NetAddr) (metric : ℕ) (parent : NetAddr) → MeetsBy (IsSettledRow old) node metric parent → MeetsBy (IsSettledRow new) node metric parent
  met_still node metric parent (q, has, is, good) = elim (same_node q.node row.node) [
    | inl same ↦ (row, betters.has, sym same ∙ is, as_good_still row q metric parent (betters.better q (subst (λ (n : NetAddr). tree.get net_cmp old n ≡ Some q) same has)) good)
    | inr off ↦ (q, betters.others q.node off ∙ has, is, good)
  ]

  carried : (a : Arc4) → IsMetOrWaits old steps a → IsMetOrWaits new steps' a
  carried a state = elim (same_node a.from row.node) [
    | inl same ↦ inr (row, betters.has, sym same, puts.has)
    | inr off ↦ elim state [
      | inl met ↦ inl (λ r has at. met_still a.to (r.metric + a.metric) r.node (met r (sym (betters.others r.node (λ e. off (sym at ∙ e))) ∙ has) at))
      | inr (r, has, at, waits) ↦ inr (r, betters.others r.node (λ e. off (sym at ∙ e)) ∙ has, at, puts.kept (step_of r) waits)
    ]
  ]

-- An arc of the row whose step is taken
module _ (old new : RowMap) (arcs : List Arc4) (from : NetAddr) (first : PathRow) (arc : Arc4) (steps steps' : List SearchStep) (cost : 1 ≤ arc.metric) (there : Contains arcs arc) (begins : arc.from ≡ first.node) (taking : IsTaking old arcs from first steps) where
  offer : IsOfferBy old arc (offered first arc)
  offer = (first, taking.found, sym begins, sym begins, refl, refl)

  module _ (betters : Betters old (offered first arc) new) (fits : IsInRange arc (offered first arc)) (puts : PutsStep steps (step_of (offered first arc)) steps') where
    -- no arc betters the row that it leaves
    found_new : IsSettledRow new first
    found_new = elim (same_node first.node arc.to) [
      | inl same ↦ elim (betters.better first (subst (λ (n : NetAddr). tree.get net_cmp old n ≡ Some first) same taking.found)) [
        | inl less ↦ absurd (omega arith)
        | inr (e, _) ↦ absurd (omega arith)
      ]
      | inr off ↦ betters.others first.node off ∙ taking.found
    ]

    met_new : IsMetIn new arc
    met_new r has at =
        let same : first ≡ r = one_row new first r found_new has (sym begins ∙ sym at) in
        let met : MeetsBy (IsSettledRow new) arc.to (first.metric + arc.metric) first.node = (offered first arc, betters.has, refl, inr (refl, at_most_itself arc.from first.node begins)) in
        subst (λ (x : PathRow). MeetsBy (IsSettledRow new) arc.to (x.metric + arc.metric) x.node) same met

    taking_new : IsTaking new arcs from first steps'
    taking_new = record {
      led = reached_new old new arc (offered first arc) betters fits arcs from there cost offer taking.led;
      found = found_new;
      others = λ a in_arcs off. carried old new (offered first arc) steps steps' betters puts a (taking.others a in_arcs off);
    }

    work_less : work_in new arcs steps' ≤ work_in old arcs steps
    work_less = omega (arith, lighter_in old new arc (offered first arc) betters fits arcs from there cost offer taking.led, puts.more)

  -- is offered in its turn
  pub offered_next : OffersArc old steps first arc new steps' → OffersAll old steps arcs from first (arc ∷ []) new steps'
  offered_next (inl (same, same_steps, good)) =
      let has : tree.get net_cmp old arc.from ≡ Some first = subst (λ (n : NetAddr). tree.get net_cmp old n ≡ Some first) (sym begins) taking.found in
      let met : IsMetIn old arc = met_already old arc first (first.metric + arc.metric) taking.led.keyed has refl good in
      let now : OffersAll old steps arcs from first (arc ∷ []) old steps = record { taking = taking; carried = λ a h. h; done = one_done arc old steps (inl met); work = omega arith } in
      subst (λ (m : RowMap). OffersAll old steps arcs from first (arc ∷ []) m steps') (sym same) (subst (λ (s : List SearchStep). OffersAll old steps arcs from first (arc ∷ []) old s) (sym same_steps) now)
  offered_next (inr (betters, fits, puts)) = record {
    taking = taking_new betters fits puts;
    carried = carried old new (offered first arc) steps steps' betters puts;
    done = one_done arc new steps' (inl (met_new betters fits puts));
    work = work_less betters fits puts;
  }

-- a run is offered arc by arc
pub offered_on : (old now new : RowMap) (steps waits steps' : List SearchStep) (arcs : List Arc4) (from : NetAddr) (first : PathRow) (run : List Arc4) (i : ℕ) (arc : Arc4) → arc ≡ slice_index_or run i arc → i < length run →
    ((a : Arc4) → IsMetOrWaits old steps a → IsMetOrWaits now waits a) → AllWithin (IsMetOrWaits now waits) run 0 i → work_in now arcs waits ≤ work_in old arcs steps → OffersAll now waits arcs from first (arc ∷ []) new steps' →
    ((a : Arc4) → IsMetOrWaits old steps a → IsMetOrWaits new steps' a) × AllWithin (IsMetOrWaits new steps') run 0 (i + 1) × (work_in new arcs steps' ≤ work_in old arcs steps)
offered_on old now new steps waits steps' arcs from first run i arc is l carried done work next = (
  λ a h. next.carried a (carried a h),
  AllWithin-more (IsMetOrWaits new steps') run 0 i (λ k e low high. next.carried (slice_index_or run k e) (done k e low high)) (at_read run (IsMetOrWaits new steps') i arc l is (next.done arc (0, omega arith, refl))),
  omega (arith, next.work),
)

-- The steps

-- the first step is put in
pub begun : (old map : RowMap) (arcs : List Arc4) (from : NetAddr) (steps : List SearchStep) → ((r : PathRow) → IsSettledRow old r → ⊥) → Settles (IsSettledRow old) (record { node = from; metric = 0; parent = from }) (IsSettledRow map) → HasLedRows map arcs from →
    Contains steps (record { metric = 0; node = from; parent = from }) → IsSearch map arcs from steps
begun old map arcs from steps none settles led waits = record {
  led = led;
  each = λ a there. elim (same_node a.from from) [
    | inl same ↦ inr (record { node = from; metric = 0; parent = from }, settles.new, sym same, waits)
    | inr off ↦ inl (λ r has at. elim (settles.cases r has) [
      | inl e ↦ absurd (off (sym at ∙ sym (ap (λ (x : PathRow). x.node) e)))
      | inr before ↦ absurd (none r before)
    ])
  ];
}

-- the least step is taken
pub taken : (map : RowMap) (arcs : List Arc4) (from : NetAddr) (all rest : List SearchStep) (s : SearchStep) (first : PathRow) → all ≡ s ∷ rest → tree.get net_cmp map s.node ≡ Some first → IsSearch map arcs from all → IsTaking map arcs from first rest
taken map arcs from all rest s first popped found now = record { led = now.led; found = settled_at map s.node first now.led.keyed found; others = others }
  where
    others : (a : Arc4) → Contains arcs a → a.from ≢ first.node → IsMetOrWaits map rest a
    others a there off = elim (now.each a there) [
      | inl met ↦ inl met
      | inr (r, has, at, waits) ↦ elim (contains_cases s rest (step_of r) (subst (λ (x : List SearchStep). Contains x (step_of r)) popped waits)) [
        | inl same ↦ absurd (off (sym at ∙ sym (ap (λ (x : SearchStep). x.node) same) ∙ sym (now.led.keyed s.node first found)))
        | inr later ↦ inr (r, has, at, later)
      ]
    ]

-- it is passed over, since a better one has followed it
pub passed : (map : RowMap) (arcs : List Arc4) (from : NetAddr) (all rest : List SearchStep) (s : SearchStep) → all ≡ s ∷ rest → tree.get net_cmp map s.node ≢ Some (row_of s) → IsSearch map arcs from all → IsSearch map arcs from rest
passed map arcs from all rest s popped stale now = record { led = now.led; each = each }
  where
    each : (a : Arc4) → Contains arcs a → IsMetOrWaits map rest a
    each a there = elim (now.each a there) [
      | inl met ↦ inl met
      | inr (r, has, at, waits) ↦ elim (contains_cases s rest (step_of r) (subst (λ (x : List SearchStep). Contains x (step_of r)) popped waits)) [
        | inl same ↦ absurd (stale (subst (λ (x : SearchStep). tree.get net_cmp map x.node ≡ Some (row_of x)) (sym same) has))
        | inr later ↦ inr (r, has, at, later)
      ]
    ]

-- all runs of its node are offered
pub all_offered : (map : RowMap) (arcs : List Arc4) (runs part : List ArcRun) (from : NetAddr) (first : PathRow) (steps : List SearchStep) (number i : ℕ) → number ≡ number_of first.node → IsIndex arcs runs → IsPart runs number part → IsTaking map arcs from first steps → length part ≤ i →
    AllWithin (λ (r : ArcRun). (a : Arc4) → Contains (slice_range arcs r.start r.end) a → IsMetOrWaits map steps a) part 0 i → IsSearch map arcs from steps
all_offered map arcs runs part from first steps number i is_number index is taking end done = record { led = taking.led; each = each }
  where
    each : (a : Arc4) → Contains arcs a → IsMetOrWaits map steps a
    each a (k, l, e) = elim (same_node a.from first.node) [
      | inl same ↦
          let (r, has, low, high) = index.all k l in
          let at : number_of a.from ≡ r.number = subst (λ (x : Arc4). number_of x.from ≡ r.number) e ((index.each r has).leaves k a low high) in
          of_each (λ (r : ArcRun). (a : Arc4) → Contains (slice_range arcs r.start r.end) a → IsMetOrWaits map steps a) part i end done r (is.all r has (sym at ∙ (ap number_of same ∙ sym is_number))) a
          (in_run arcs r.start r.end k a low high (index.each r has).inside e)
      | inr off ↦ taking.others a (k, l, e) off
    ]

-- no step waits
pub all_met : (map : RowMap) (arcs : List Arc4) (from : NetAddr) (steps : List SearchStep) → (0 < length steps → ⊥) → IsSearch map arcs from steps → (a : Arc4) → Contains arcs a → IsMetIn map a
all_met map arcs from steps none now a there = elim (now.each a there) [
  | inl met ↦ met
  | inr (r, has, at, (k, l, e)) ↦ absurd (none (omega arith))
]

-- Rows are a certificate exactly where they are a tree: what can be seen without walks says all of walks.
use Rattle.mesh_paths.proofs.Common.{◌≡◌, ℕ, zero, suc, ◌+◌, ◌<◌, ◌≤◌, ◌≢◌, ◌⊎◌, inl, inr, refl, sym, ◌∙◌, ap, subst, arith, List, Contains, Bool, IsTrue, ◌↔◌, cases_lt, NetAddr, Walk, Stay, Onward, Least, Fits, IsAtMost, Arc4, Graph, PathRow, Certificate, InGraph, HasCosts, IsPathRow, IsCertificate, OffersTo, MeetsRow, IsTree, at_most_itself}
use Rattle.mesh_paths.proofs.Order.{same_node, single}
use Rattle.mesh_paths.proofs.Rows.{move_offer, carry}

-- one node has one least cost
pub one_least : {N : Type 0} {Arc : N → N → ℕ → Type 0} {a b : N} {c d : ℕ} → Least Arc a b c → Least Arc a b d → c ≡ d
one_least {c = c} {d = d} f g = omega (arith, f.least d g.reached, g.least c f.reached)

module _ (g : Graph) (from : NetAddr) (costs : HasCosts g) where
  -- What a tree says of walks
  module _ (rows : List PathRow) (t : IsTree g.arcs from rows) where
    met : (node : NetAddr) (metric : ℕ) (parent : NetAddr) → OffersTo g.arcs from rows node metric parent → (row : PathRow) × Contains rows row × (row.node ≡ node) × (row.metric ≤ metric)
    met node metric parent offer = let (row, has, is, low) = t.closed node metric parent offer in
        (row, has, is, elim low [ inl less ↦ omega arith | inr (same, _) ↦ omega arith ])

    -- each walk ends at a row, and costs no less
    reaches : {n : NetAddr} {c : ℕ} → Walk (InGraph g) from n c → (row : PathRow) × Contains rows row × (row.node ≡ n) × (row.metric ≤ c)
    reaches Stay = met from 0 from (inl (refl, refl, refl))
    reaches (Onward {d = d} {m = m} walk arc) =
        let (r, has, is, low) = reaches walk in
        let (a, there, begins, ends, metric) = arc in
        let (row, has', is', low') = met d (r.metric + m) r.node (inr (r, a, has, there, begins ∙ sym is, ends, ap (λ (x : ℕ). r.metric + x) metric, refl)) in
        (row, has', is', omega arith)

    -- each row has a walk
    at_start : (row : PathRow) → from ≡ row.node → 0 ≡ row.metric → Walk (InGraph g) from row.node row.metric
    at_start row node metric =
        let at_node : Walk (InGraph g) from row.node 0 = subst (λ (b : NetAddr). Walk (InGraph g) from b 0) node Stay in
        subst (λ (c : ℕ). Walk (InGraph g) from row.node c) metric at_node

    walk_to : (n : ℕ) (row : PathRow) → Contains rows row → row.metric ≤ n → Walk (InGraph g) from row.node row.metric
    walk_to zero row has low = elim (t.grounded row has) [
      | inl (node, metric, _) ↦ at_start row node metric
      | inr (r, a, has', there, _, _, metric, _) ↦ absurd (omega (arith, costs a there))
    ]
    walk_to (suc n) row has low = elim (t.grounded row has) [
      | inl (node, metric, _) ↦ at_start row node metric
      | inr (r, a, has', there, begins, ends, metric, _) ↦
          let before : Walk (InGraph g) from r.node r.metric = walk_to n r has' (omega (arith, costs a there)) in
          subst (λ (c : ℕ). Walk (InGraph g) from row.node c) metric (Onward before (a, there, begins, ends, refl))
    ]

    least_of : (row : PathRow) → Contains rows row → Least (InGraph g) from row.node row.metric
    least_of row has = record {
      reached = walk_to row.metric row has (omega arith);
      least = λ d walk.
          let (r, has', is, low) = reaches walk in
          let same : r.metric ≡ row.metric = ap (λ (x : PathRow). x.metric) (single rows t.ascending r row has' has is) in
          omega arith;
    }

    start_of : (row : PathRow) → Contains rows row → row.node ≡ from → row.parent ≡ from
    start_of row has at_start = elim (t.grounded row has) [
      | inl (_, _, parent) ↦ sym parent
      | inr (r, a, has', there, _, _, metric, _) ↦
          let (s, has_s, is, low) = met from 0 from (inl (refl, refl, refl)) in
          let same : s.metric ≡ row.metric = ap (λ (x : PathRow). x.metric) (single rows t.ascending s row has_s has (is ∙ sym at_start)) in
          absurd (omega (arith, costs a there))
    ]

    fits_of : (row : PathRow) → Contains rows row → row.node ≢ from → Fits (InGraph g) from row.parent row.node
    fits_of row has off = elim (t.grounded row has) [
      | inl (node, _, _) ↦ absurd (off (sym node))
      | inr (r, a, has', there, begins, ends, metric, parent) ↦ record {
        before = r.metric;
        metric = a.metric;
        to_parent = subst (λ (p : NetAddr). Least (InGraph g) from p r.metric) parent (least_of r has');
        arc = (a, there, begins ∙ parent, ends, refl);
        to_node = subst (λ (c : ℕ). Least (InGraph g) from row.node c) (sym metric) (least_of row has);
      }
    ]

    least_parent_of : (row : PathRow) → Contains rows row → (p : NetAddr) → Fits (InGraph g) from p row.node → IsAtMost row.parent p
    least_parent_of row has p f =
        let (r, has_r, is, _) = reaches f.to_parent.reached in
        let (a, there, begins, ends, metric) = f.arc in
        let to_p : Least (InGraph g) from p r.metric = subst (λ (b : NetAddr). Least (InGraph g) from b r.metric) is (least_of r has_r) in
        let before : r.metric ≡ f.before = one_least to_p f.to_parent in
        let whole : row.metric ≡ f.before + f.metric = one_least (least_of row has) f.to_node in
        let (q, has_q, at, low) = t.closed row.node (f.before + f.metric) p (inr (r, a, has_r, there, begins ∙ sym is, ends, omega arith, is)) in
        let same : q ≡ row = single rows t.ascending q row has_q has at in
        let metrics : q.metric ≡ row.metric = ap (λ (x : PathRow). x.metric) same in
        elim low [
          | inl less ↦ absurd (omega arith)
          | inr (_, at_most) ↦ subst (λ (x : PathRow). IsAtMost x.parent p) same at_most
        ]

    pub row_of_tree : (row : PathRow) → Contains rows row → IsPathRow g from row
    row_of_tree row has = record {
      least = least_of row has;
      start = start_of row has;
      fits = fits_of row has;
      least_parent = λ off p f. least_parent_of row has p f;
    }

    pub all_of_tree : (node : NetAddr) (c : ℕ) → Walk (InGraph g) from node c → (row : PathRow) × Contains rows row × (row.node ≡ node)
    all_of_tree node c walk = let (row, has, is, _) = reaches walk in (row, has, is)

  pub certificate_of_tree : (certificate : Certificate) → IsTree g.arcs from certificate.rows → IsCertificate g from certificate
  certificate_of_tree certificate t = record {
    rows = row_of_tree certificate.rows t;
    all = all_of_tree certificate.rows t;
    ascending = t.ascending;
  }

  -- A certificate is a tree
  module _ (certificate : Certificate) (is : IsCertificate g from certificate) where
    offered : (row : PathRow) → Contains certificate.rows row → OffersTo g.arcs from certificate.rows row.node row.metric row.parent
    offered row has =
        let good : IsPathRow g from row = is.rows row has in
        elim (same_node row.node from) [
          | inl at ↦
              let stay : Walk (InGraph g) from row.node 0 = subst (λ (b : NetAddr). Walk (InGraph g) from b 0) (sym at) Stay in
              inl (sym at, omega (arith, good.least.least 0 stay), sym (good.start at))
          | inr off ↦
              let f : Fits (InGraph g) from row.parent row.node = good.fits off in
              let (r, has_r, at) = is.all row.parent f.before f.to_parent.reached in
              let (a, there, begins, ends, metric) = f.arc in
              let to_r : Least (InGraph g) from row.parent r.metric = subst (λ (b : NetAddr). Least (InGraph g) from b r.metric) at (is.rows r has_r).least in
              let before : r.metric ≡ f.before = one_least to_r f.to_parent in
              let whole : row.metric ≡ f.before + f.metric = one_least good.least f.to_node in
              inr (r, a, has_r, there, begins ∙ sym at, ends, omega arith, at)
        ]

    met_start : MeetsRow certificate.rows from 0 from
    met_start =
        let (row, has, at) = is.all from 0 Stay in
        let good : IsPathRow g from row = is.rows row has in
        let stay : Walk (InGraph g) from row.node 0 = subst (λ (b : NetAddr). Walk (InGraph g) from b 0) (sym at) Stay in
        (row, has, at, inr (omega (arith, good.least.least 0 stay), at_most_itself row.parent from (good.start at)))

    met_arc : (r : PathRow) (a : Arc4) → Contains certificate.rows r → Contains g.arcs a → a.from ≡ r.node → MeetsRow certificate.rows a.to (r.metric + a.metric) r.node
    met_arc r a has_r there begins =
        let there_is : InGraph g r.node a.to a.metric = (a, there, begins, refl, refl) in
        let walk : Walk (InGraph g) from a.to (r.metric + a.metric) = Onward (is.rows r has_r).least.reached there_is in
        let (row, has, at) = is.all a.to (r.metric + a.metric) walk in
        let good : IsPathRow g from row = is.rows row has in
        let walk' : Walk (InGraph g) from row.node (r.metric + a.metric) = subst (λ (b : NetAddr). Walk (InGraph g) from b (r.metric + a.metric)) (sym at) walk in
        (row, has, at, by_metric r a row there_is at good (is.rows r has_r).least (good.least.least (r.metric + a.metric) walk') (costs a there))
      where
        by_metric : (r : PathRow) (a : Arc4) (row : PathRow) → InGraph g r.node a.to a.metric → row.node ≡ a.to → IsPathRow g from row → Least (InGraph g) from r.node r.metric → row.metric ≤ r.metric + a.metric → 1 ≤ a.metric →
            (row.metric < r.metric + a.metric) ⊎ ((row.metric ≡ r.metric + a.metric) × IsAtMost row.parent r.node)
        by_metric r a row arc at good to_r low cost = elim (cases_lt row.metric (r.metric + a.metric)) [
          | inl less ↦ inl less
          | inr more ↦
              let same : row.metric ≡ r.metric + a.metric = omega arith in
              elim (same_node row.node from) [
                | inl start ↦
                    let stay : Walk (InGraph g) from row.node 0 = subst (λ (b : NetAddr). Walk (InGraph g) from b 0) (sym start) Stay in
                    absurd (omega (arith, good.least.least 0 stay))
                | inr off ↦
                    let f : Fits (InGraph g) from r.node row.node = record {
                      before = r.metric;
                      metric = a.metric;
                      to_parent = to_r;
                      arc = subst (λ (b : NetAddr). InGraph g r.node b a.metric) (sym at) arc;
                      to_node = subst (λ (c : ℕ). Least (InGraph g) from row.node c) same good.least;
                    } in
                    inr (same, good.least_parent off r.node f)
              ]
        ]

    closed : (node : NetAddr) (metric : ℕ) (parent : NetAddr) → OffersTo g.arcs from certificate.rows node metric parent → MeetsRow certificate.rows node metric parent
    closed node metric parent offer = elim offer [
      | inl (n, m, p) ↦ move_offer certificate.rows from node 0 metric from parent n m p met_start
      | inr (r, a, has_r, there, begins, ends, sum, p) ↦ move_offer certificate.rows a.to node (r.metric + a.metric) metric r.node parent ends sum p (met_arc r a has_r there begins)
    ]

    pub tree_of_certificate : IsTree g.arcs from certificate.rows
    tree_of_certificate = record { ascending = is.ascending; closed = closed; grounded = offered }

  -- the test of a tree tests a certificate
  pub test_of : (certificate : Certificate) (arcs : List Arc4) (rows : List PathRow) (b : Bool) → arcs ≡ g.arcs → rows ≡ certificate.rows → IsTrue b ↔ IsTree arcs from rows → IsTrue b ↔ IsCertificate g from certificate
  test_of certificate arcs rows b same_arcs same_rows h =
      let one : IsTrue b ↔ IsTree g.arcs from rows = subst (λ (x : List Arc4). IsTrue b ↔ IsTree x from rows) same_arcs h in
      let two : IsTrue b ↔ IsTree g.arcs from certificate.rows = subst (λ (x : List PathRow). IsTrue b ↔ IsTree g.arcs from x) same_rows one in
      carry b (certificate_of_tree certificate) (λ is. tree_of_certificate certificate is) two

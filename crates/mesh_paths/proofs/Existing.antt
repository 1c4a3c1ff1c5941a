-- A graph without free arcs has a certificate from each node: rows grow from the start's, each by the least offer to a node without a row.
use Rattle.mesh_paths.proofs.Common.{◌≡◌, ℕ, zero, suc, ◌+◌, ◌<◌, ◌≤◌, ◌⊎◌, inl, inr, refl, sym, ◌∙◌, ap, subst, arith, List, [], ◌∷◌, Contains, sum_by, NetAddr, Arc4, PathRow, AreAscendingRows, EveryGraphHasCertificate, Settles, OffersTo, IsAsGood, MeetsRow, IsGrounded, IsClosed, IsTree, contains_head as here}
use Rattle.mesh_paths.proofs.NewOffers.{HasRow, HasNoRow, row_or_none, Leads, IsNew, IsLeastNew, least_new, put_in}
use Rattle.mesh_paths.proofs.Order.{as_good_itself, no_dearer}
use Rattle.mesh_paths.proofs.ReachedLaw.{sums_less}
use Rattle.mesh_paths.proofs.Rows.{move_offer}
use Rattle.mesh_paths.proofs.SearchLaw.{offers_more, meets_more}
use Rattle.mesh_paths.proofs.ShortLists.{only}
use Rattle.mesh_paths.proofs.TreeLaw.{certificate_of_tree}

-- 1 for a node that has no row
abbrev missing_of : {P Q : Type 0} → P ⊎ Q → ℕ
missing_of (inl _) = 0
missing_of (inr _) = 1

-- how many arcs lead to a node that has no row
abbrev missing_in : List PathRow → List Arc4 → ℕ
missing_in rows arcs = sum_by (λ (arc : Arc4). missing_of (row_or_none rows arc.to)) arcs

-- each row is offered, and is as good as what the rows offer to its node; and none is dearer than what they offer to a node without a row
record IsGrown (arcs : List Arc4) (from : NetAddr) (rows : List PathRow) : Type 0 where
  ascending : AreAscendingRows rows
  start : MeetsRow rows from 0 from
  grounded : IsGrounded arcs from rows
  met : (offer row : PathRow) → Leads arcs rows offer → Contains rows row → row.node ≡ offer.node →
      IsAsGood row offer.metric offer.parent
  near : (offer row : PathRow) → IsNew arcs rows offer → Contains rows row → row.metric ≤ offer.metric

module _ (arcs : List Arc4) (from : NetAddr) (costs : (arc : Arc4) → Contains arcs arc → 1 ≤ arc.metric) where
  -- The start's row

  start_row : PathRow
  start_row = record { node = from; metric = 0; parent = from }

  grown_start : IsGrown arcs from (start_row ∷ [])
  unfolding start_row
  grown_start = record {
    ascending = λ k d l. absurd (omega arith);
    start = (start_row, here start_row [], refl, as_good_itself start_row);
    grounded = λ row has. let same : row ≡ start_row = only start_row row has in
        inl (
          ap (λ (x : PathRow). x.node) (sym same),
          ap (λ (x : PathRow). x.metric) (sym same),
          ap (λ (x : PathRow). x.parent) (sym same),
        );
    met = λ offer row (a, there, (f, has_f, _, _, sum, _)) has at.
        let none : row.metric ≡ 0 = ap (λ (x : PathRow). x.metric) (only start_row row has) in
        inl (omega (arith, costs a there));
    near = λ offer row new has.
        let none : row.metric ≡ 0 = ap (λ (x : PathRow). x.metric) (only start_row row has) in
        omega arith;
  }

  -- A row more
  module _ (rows more : List PathRow) (x : PathRow) (now : IsGrown arcs from rows) (least : IsLeastNew arcs rows x) (up : AreAscendingRows more)
      (settles : Settles (Contains rows) x (Contains more)) where
    -- offers to nodes that still have no row
    still : (node : NetAddr) → HasNoRow more node → HasNoRow rows node
    still node none r has at = none r (settles.kept r has) at

    -- no row is dearer than the new one
    top : (r : PathRow) → Contains more r → r.metric ≤ x.metric
    top r has = elim (settles.cases r has) [
      | inl same ↦ let e : x.metric ≡ r.metric = ap (λ (z : PathRow). z.metric) same in omega arith
      | inr old ↦ now.near x r least.0 old
    ]

    grounded_more : IsGrounded arcs from more
    grounded_more r has = elim (settles.cases r has) [
      | inl same ↦
          let (a, there, (f, has_f, begins, ends, sum, parent)) = least.0.0 in
          let offer : OffersTo arcs from more x.node x.metric x.parent = inr (f, a, settles.kept f has_f, there, begins, ends, sum, parent) in
          subst (λ (z : PathRow). OffersTo arcs from more z.node z.metric z.parent) same offer
      | inr old ↦ offers_more arcs from r.node r.metric r.parent settles.kept (now.grounded r old)
    ]

    -- an offer from the new row is dearer than each row
    dearer : (offer row f : PathRow) (a : Arc4) → Contains arcs a → x ≡ f → f.metric + a.metric ≡ offer.metric → Contains more row →
        row.metric < offer.metric
    dearer offer row f a there same sum has =
        let e : x.metric ≡ f.metric = ap (λ (z : PathRow). z.metric) same in
        omega (arith, costs a there, top row has)

    met_more : (offer row : PathRow) → Leads arcs more offer → Contains more row → row.node ≡ offer.node →
        IsAsGood row offer.metric offer.parent
    met_more offer row (a, there, (f, has_f, begins, ends, sum, parent)) has at = elim (settles.cases f has_f) [
      | inl same ↦ inl (dearer offer row f a there same sum has)
      | inr old_f ↦
          let leads : Leads arcs rows offer = (a, there, (f, old_f, begins, ends, sum, parent)) in
          elim (settles.cases row has) [
            | inr old ↦ now.met offer row leads old at
            | inl same ↦
                let at_x : x.node ≡ offer.node = ap (λ (z : PathRow). z.node) same ∙ at in
                let none : HasNoRow rows offer.node = subst (λ (n : NetAddr). HasNoRow rows n) at_x least.0.1 in
                subst (λ (z : PathRow). IsAsGood z offer.metric offer.parent) same (least.1 offer (leads, none))
          ]
    ]

    near_more : (offer row : PathRow) → IsNew arcs more offer → Contains more row → row.metric ≤ offer.metric
    near_more offer row ((a, there, (f, has_f, begins, ends, sum, parent)), none) has = elim (settles.cases f has_f) [
      | inl same ↦ let less : row.metric < offer.metric = dearer offer row f a there same sum has in omega arith
      | inr old_f ↦
          let new : IsNew arcs rows offer = ((a, there, (f, old_f, begins, ends, sum, parent)), still offer.node none) in
          omega (arith, top row has, no_dearer x offer.metric offer.parent (least.1 offer new))
    ]

    grown_more : IsGrown arcs from more
    grown_more = record {
      ascending = up;
      start = meets_more from 0 from settles.kept now.start;
      grounded = grounded_more;
      met = met_more;
      near = near_more;
    }

    -- fewer arcs lead to a node without a row
    no_more : (node : NetAddr) (o : HasRow more node ⊎ HasNoRow more node) (p : HasRow rows node ⊎ HasNoRow rows node) →
        missing_of o ≤ missing_of p
    no_more node (inl _) p = omega arith
    no_more node (inr none) (inr _) = omega arith
    no_more node (inr none) (inl (r, has, at)) = absurd (none r (settles.kept r has) at)

    one_less : (node : NetAddr) → x.node ≡ node → (o : HasRow more node ⊎ HasNoRow more node) (p : HasRow rows node ⊎ HasNoRow rows node) →
        missing_of o < missing_of p
    one_less node at (inr none) p = absurd (none x settles.new at)
    one_less node at (inl _) (inr _) = omega arith
    one_less node at (inl _) (inl (r, has, at_r)) = absurd (least.0.1 r has (at_r ∙ sym at))

    fewer : missing_in more arcs < missing_in rows arcs
    fewer =
        let (a, there, (f, has_f, begins, ends, _, _)) = least.0.0 in
        sums_less (λ (arc : Arc4). missing_of (row_or_none more arc.to)) (λ (arc : Arc4). missing_of (row_or_none rows arc.to)) arcs a
        (λ arc _. no_more arc.to (row_or_none more arc.to) (row_or_none rows arc.to)) there
        (one_less a.to (sym ends) (row_or_none more a.to) (row_or_none rows a.to))

  -- The end

  -- rows that offer nothing new are closed
  closed : (rows : List PathRow) → IsGrown arcs from rows → ((row : PathRow) → IsNew arcs rows row → ⊥) → IsClosed arcs from rows
  closed rows now none node metric parent offer = elim offer [
    | inl (n, m, p) ↦ move_offer rows from node 0 metric from parent n m p now.start
    | inr (f, a, has_f, there, begins, ends, sum, p) ↦
        let row : PathRow = record { node = node; metric = metric; parent = parent } in
        let leads : Leads arcs rows row = (a, there, (f, has_f, begins, ends, sum, p)) in
        elim (row_or_none rows node) [
          | inl (r, has, at) ↦ (r, has, at, now.met row r leads has at)
          | inr off ↦ absurd (none row (leads, off))
        ]
  ]

  tree_of : (rows : List PathRow) → IsGrown arcs from rows → ((row : PathRow) → IsNew arcs rows row → ⊥) → IsTree arcs from rows
  tree_of rows now none = record { ascending = now.ascending; closed = closed rows now none; grounded = now.grounded }

  -- rows that offer something new grow by a row
  grown_by : (rows : List PathRow) → IsGrown arcs from rows → (x : PathRow) → IsLeastNew arcs rows x →
      (more : List PathRow) × IsGrown arcs from more × (missing_in more arcs < missing_in rows arcs)
  grown_by rows now x least =
      let (more, up, settles) = put_in x rows now.ascending least.0.1 in
      (more, grown_more rows more x now least up settles, fewer rows more x now least up settles)

  grow : (n : ℕ) (rows : List PathRow) → IsGrown arcs from rows → missing_in rows arcs ≤ n → (tree : List PathRow) × IsTree arcs from tree
  grow zero rows now upto = elim (least_new rows now.ascending arcs) [
    | inr none ↦ (rows, tree_of rows now none)
    | inl (x, least) ↦ let (more, grown, less) = grown_by rows now x least in absurd (omega arith)
  ]
  grow (suc n) rows now upto = elim (least_new rows now.ascending arcs) [
    | inr none ↦ (rows, tree_of rows now none)
    | inl (x, least) ↦ let (more, grown, less) = grown_by rows now x least in grow n more grown (omega arith)
  ]

  pub tree_exists : (tree : List PathRow) × IsTree arcs from tree
  tree_exists = grow (missing_in (start_row ∷ []) arcs) (start_row ∷ []) grown_start (omega arith)

-- a graph without free arcs has a certificate from each node
pub certificate_exists : EveryGraphHasCertificate
certificate_exists g from costs =
    let (rows, is) = tree_exists g.arcs from costs in
    (record { rows = rows }, certificate_of_tree g from costs (record { rows = rows }) is)

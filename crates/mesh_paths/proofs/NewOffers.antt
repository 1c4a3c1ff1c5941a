-- What arcs offer from rows to nodes without a row, the least of these offers, and a row more.
use Rattle.mesh_paths.proofs.Common.{◌≡◌, ◌+◌, ◌⊎◌, inl, inr, refl, sym, ◌∙◌, ap, subst, arith, List, [], ◌∷◌, Contains, NetAddr, IsBefore, Arc4, PathRow, AreAscendingRows, Settles, IsAsGood, before_trans, at_most_itself, contains_tail as in_tail, contains_cases, contains_none as none_of, contains_head as here}
use Rattle.mesh_paths.proofs.Order.{same_node, at_most_or_before, at_most_both, as_good_trans, one_as_good}
use Rattle.mesh_paths.proofs.Order.{single, tail_ascends, head_before, ascends_cons}

-- Rows at their nodes

-- some row has the node
abbrev pub HasRow : List PathRow → NetAddr → Type 0
HasRow rows node = (row : PathRow) × Contains rows row × (row.node ≡ node)

-- no row has the node
abbrev pub HasNoRow : List PathRow → NetAddr → Type 0
HasNoRow rows node = (row : PathRow) → Contains rows row → row.node ≡ node → ⊥

pub row_or_none : (rows : List PathRow) (node : NetAddr) → HasRow rows node ⊎ HasNoRow rows node
row_or_none [] node = inr (λ row has at. none_of row has)
row_or_none (r ∷ rows) node = elim (same_node r.node node) [
  | inl same ↦ inl (r, here r rows, same)
  | inr off ↦ elim (row_or_none rows node) [
    | inl (t, has, at) ↦ inl (t, in_tail r rows t has, at)
    | inr none ↦ inr (λ t has at. elim (contains_cases r rows t has) [
      | inl first ↦ off (ap (λ (x : PathRow). x.node) first ∙ at)
      | inr later ↦ none t later at
    ])
  ]
]

-- The least offer

-- the arc leads from a row's node, and offers the row
abbrev pub LeadsBy : List PathRow → Arc4 → PathRow → Type 0
LeadsBy rows arc row = (first : PathRow) × Contains rows first × (arc.from ≡ first.node) × (arc.to ≡ row.node)
    × (first.metric + arc.metric ≡ row.metric) × (first.node ≡ row.parent)

-- one of the arcs leads from a row's node, and offers the row
abbrev pub Leads : List Arc4 → List PathRow → PathRow → Type 0
Leads arcs rows row = (arc : Arc4) × Contains arcs arc × LeadsBy rows arc row

-- one of the arcs offers the row, and no row has its node
abbrev pub IsNew : List Arc4 → List PathRow → PathRow → Type 0
IsNew arcs rows row = Leads arcs rows row × HasNoRow rows row.node

-- the row is offered to a node without a row, and no such offer is better
abbrev pub IsLeastNew : List Arc4 → List PathRow → PathRow → Type 0
IsLeastNew arcs rows row = IsNew arcs rows row × ((other : PathRow) → IsNew arcs rows other → IsAsGood row other.metric other.parent)

-- some offer to a node without a row is the least, or there is no such offer
abbrev pub IsEither : List Arc4 → List PathRow → Type 0
IsEither arcs rows = ((row : PathRow) × IsLeastNew arcs rows row) ⊎ ((row : PathRow) → IsNew arcs rows row → ⊥)

module _ (rows : List PathRow) (up : AreAscendingRows rows) where
  -- what one arc offers is one row
  offer_by : (arc : Arc4) (first other : PathRow) → Contains rows first → first.node ≡ arc.from → LeadsBy rows arc other →
      IsAsGood (record { node = arc.to; metric = first.metric + arc.metric; parent = first.node }) other.metric other.parent
  offer_by arc first other has at (f, has_f, begins, ends, sum, parent) =
      let same : f ≡ first = single rows up f first has_f has (sym begins ∙ sym at) in
      let metrics : f.metric ≡ first.metric = ap (λ (x : PathRow). x.metric) same in
      inr (omega arith, at_most_itself first.node other.parent (ap (λ (x : PathRow). x.node) (sym same) ∙ parent))

  -- the least offer of one arc
  of_one : (arc : Arc4) → IsEither (arc ∷ []) rows
  of_one arc = elim (row_or_none rows arc.from) [
    | inr none ↦ inr (λ row new.
        let (a, there, (f, has, begins, _, _, _)) = new.0 in
        elim (contains_cases arc [] a there) [
          | inl same ↦ none f has (sym begins ∙ sym (ap (λ (x : Arc4). x.from) same))
          | inr later ↦ none_of a later
        ])
    | inl (first, has, at) ↦ elim (row_or_none rows arc.to) [
      | inl (row, has', at') ↦ inr (λ other new.
          let (a, there, (f, has_f, begins, ends, _, _)) = new.0 in
          elim (contains_cases arc [] a there) [
            | inl same ↦ new.1 row has' (at' ∙ ap (λ (x : Arc4). x.to) same ∙ ends)
            | inr later ↦ none_of a later
          ])
      | inr none ↦
          let row : PathRow = record { node = arc.to; metric = first.metric + arc.metric; parent = first.node } in
          inl (
            row,
            (
              ((arc, here arc [], (first, has, sym at, refl, refl, refl)), none),
              λ other new.
                  let (a, there, by) = new.0 in
                  elim (contains_cases arc [] a there) [
                    | inl same ↦ offer_by arc first other has at (subst (λ (x : Arc4). LeadsBy rows x other) (sym same) by)
                    | inr later ↦ absurd (none_of a later)
                  ],
            ),
          )
    ]
  ]

  -- an offer is that of the first arc, or of the others
  split : (arc : Arc4) (arcs : List Arc4) (row : PathRow) → IsNew (arc ∷ arcs) rows row → IsNew (arc ∷ []) rows row ⊎ IsNew arcs rows row
  split arc arcs row ((a, there, by), none) = elim (contains_cases arc arcs a there) [
    | inl same ↦ inl ((a, (0, omega arith, same), by), none)
    | inr later ↦ inr ((a, later, by), none)
  ]

  of_first : (arc : Arc4) (arcs : List Arc4) (row : PathRow) → IsNew (arc ∷ []) rows row → IsNew (arc ∷ arcs) rows row
  of_first arc arcs row ((a, there, by), none) = elim (contains_cases arc [] a there) [
    | inl same ↦ ((a, (0, omega arith, same), by), none)
    | inr later ↦ absurd (none_of a later)
  ]

  of_rest : (arc : Arc4) (arcs : List Arc4) (row : PathRow) → IsNew arcs rows row → IsNew (arc ∷ arcs) rows row
  of_rest arc arcs row ((a, there, by), none) = ((a, in_tail arc arcs a there, by), none)

  both : (arc : Arc4) (arcs : List Arc4) → IsEither (arc ∷ []) rows → IsEither arcs rows → IsEither (arc ∷ arcs) rows
  both arc arcs (inr none) (inr nothing) = inr (λ row new. elim (split arc arcs row new) [
    | inl first ↦ none row first
    | inr rest ↦ nothing row rest
  ])
  both arc arcs (inr none) (inl (x, least)) = inl (
    x,
    (
      of_rest arc arcs x least.0,
      λ other is. elim (split arc arcs other is) [
        | inl first ↦ absurd (none other first)
        | inr rest ↦ least.1 other rest
      ],
    ),
  )
  both arc arcs (inl (x, least)) (inr nothing) = inl (
    x,
    (
      of_first arc arcs x least.0,
      λ other is. elim (split arc arcs other is) [
        | inl first ↦ least.1 other first
        | inr rest ↦ absurd (nothing other rest)
      ],
    ),
  )
  both arc arcs (inl (x, least_x)) (inl (y, least_y)) = elim (one_as_good x y) [
    | inl good ↦ inl (
      x,
      (
        of_first arc arcs x least_x.0,
        λ other is. elim (split arc arcs other is) [
          | inl first ↦ least_x.1 other first
          | inr rest ↦ as_good_trans x y other.metric other.parent good (least_y.1 other rest)
        ],
      ),
    )
    | inr good ↦ inl (
      y,
      (
        of_rest arc arcs y least_y.0,
        λ other is. elim (split arc arcs other is) [
          | inl first ↦ as_good_trans y x other.metric other.parent good (least_x.1 other first)
          | inr rest ↦ least_y.1 other rest
        ],
      ),
    )
  ]

  pub least_new : (arcs : List Arc4) → IsEither arcs rows
  least_new [] = inr (λ row new. none_of new.0.0 new.0.1)
  least_new (arc ∷ arcs) = both arc arcs (of_one arc) (least_new arcs)

-- A row more

-- a row goes in before all others
put_first : (x : PathRow) (rows : List PathRow) → Settles (Contains rows) x (Contains (x ∷ rows))
put_first x rows = record { new = here x rows; kept = λ r has. in_tail x rows r has; cases = λ r has. contains_cases x rows r has }

-- a row goes in behind the first
put_behind : (r x : PathRow) (rows more : List PathRow) → Settles (Contains rows) x (Contains more) →
    Settles (Contains (r ∷ rows)) x (Contains (r ∷ more))
put_behind r x rows more settles = record {
  new = in_tail r more x settles.new;
  kept = λ t has. elim (contains_cases r rows t has) [
    | inl same ↦ (0, omega arith, same)
    | inr later ↦ in_tail r more t (settles.kept t later)
  ];
  cases = λ t has. elim (contains_cases r more t has) [
    | inl same ↦ inr (0, omega arith, same)
    | inr later ↦ elim (settles.cases t later) [
      | inl same ↦ inl same
      | inr old ↦ inr (in_tail r rows t old)
    ]
  ];
}

-- a row whose node has none goes in at the place of its node
pub put_in : (x : PathRow) (rows : List PathRow) → AreAscendingRows rows → HasNoRow rows x.node →
    (more : List PathRow) × AreAscendingRows more × Settles (Contains rows) x (Contains more)
put_in x [] up none = (x ∷ [], ascends_cons x [] up (λ y has. absurd (none_of y has)), put_first x [])
put_in x (r ∷ rows) up none = elim (at_most_or_before x.node r.node) [
  | inl at_most ↦ elim (at_most_or_before r.node x.node) [
    | inl also ↦ absurd (none r (here r rows) (at_most_both r.node x.node also at_most))
    | inr before ↦
        let later : (y : PathRow) → Contains (r ∷ rows) y → IsBefore x.node y.node = λ y has. elim (contains_cases r rows y has) [
          | inl same ↦ subst (λ (z : PathRow). IsBefore x.node z.node) same before
          | inr behind ↦ before_trans x.node r.node y.node before (head_before r rows up y behind)
        ] in
        (x ∷ r ∷ rows, ascends_cons x (r ∷ rows) up later, put_first x (r ∷ rows))
  ]
  | inr before ↦
      let (more, up_more, settles) = put_in x rows (tail_ascends r rows up) (λ t has. none t (in_tail r rows t has)) in
      let later : (y : PathRow) → Contains more y → IsBefore r.node y.node = λ y has. elim (settles.cases y has) [
        | inl same ↦ subst (λ (z : PathRow). IsBefore r.node z.node) same before
        | inr old ↦ head_before r rows up y old
      ] in
      (r ∷ more, ascends_cons r more up_more later, put_behind r x rows more settles)
]

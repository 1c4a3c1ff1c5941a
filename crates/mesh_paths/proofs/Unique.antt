-- A graph has one certificate from a node.
use Rattle.mesh_paths.proofs.Common.{common_steps, ◌≡◌, ◌⊎◌, inl, inr, refl, sym, ◌∙◌, ap, subst, arith, List, [], ◌∷◌, Contains, NetAddr, Least, Fits, Graph, PathRow, Certificate, InGraph, IsPathRow, AreAscendingRows, IsCertificate, IsOneCertificate, before_trans, not_before_itself, contains_tail as in_tail, contains_cases}
use Rattle.mesh_paths.proofs.Order.{same_node, at_most_both, tail_ascends, head_before}
use Rattle.mesh_paths.proofs.TreeLaw.{one_least}

same_tail : (x : PathRow) (xs ys : List PathRow) → AreAscendingRows (x ∷ xs) → ((z : PathRow) → Contains (x ∷ xs) z → Contains (x ∷ ys) z) → (z : PathRow) → Contains xs z → Contains ys z
same_tail x xs ys up to z has = elim (contains_cases x ys z (to z (in_tail x xs z has))) [
  | inl same ↦ absurd (not_before_itself x.node z.node (ap (λ (r : PathRow). r.node) same) (head_before x xs up z has))
  | inr later ↦ later
]

same_head : (x y : PathRow) (xs ys : List PathRow) → AreAscendingRows (x ∷ xs) → AreAscendingRows (y ∷ ys) → Contains (y ∷ ys) x → Contains (x ∷ xs) y → x ≡ y
same_head x y xs ys up_x up_y has_x has_y = elim (contains_cases y ys x has_x) [
  | inl same ↦ sym same
  | inr later ↦ elim (contains_cases x xs y has_y) [
    | inl same ↦ same
    | inr also ↦ absurd (not_before_itself x.node x.node refl (before_trans x.node y.node x.node (head_before x xs up_x y also) (head_before y ys up_y x later)))
  ]
]

pub same_rows : (xs ys : List PathRow) → AreAscendingRows xs → AreAscendingRows ys → ((z : PathRow) → Contains xs z → Contains ys z) → ((z : PathRow) → Contains ys z → Contains xs z) → xs ≡ ys
same_rows [] [] up_x up_y to back = refl
same_rows [] (y ∷ ys) up_x up_y to back = absurd (omega (arith, (back y (0, omega arith, refl)).1))
same_rows (x ∷ xs) [] up_x up_y to back = absurd (omega (arith, (to x (0, omega arith, refl)).1))
same_rows (x ∷ xs) (y ∷ ys) up_x up_y to back =
    let head : x ≡ y = same_head x y xs ys up_x up_y (to x (0, omega arith, refl)) (back y (0, omega arith, refl)) in
    let to_x : (z : PathRow) → Contains (x ∷ xs) z → Contains (x ∷ ys) z = subst (λ (r : PathRow). (z : PathRow) → Contains (x ∷ xs) z → Contains (r ∷ ys) z) (sym head) to in
    let back_y : (z : PathRow) → Contains (y ∷ ys) z → Contains (y ∷ xs) z = subst (λ (r : PathRow). (z : PathRow) → Contains (y ∷ ys) z → Contains (r ∷ xs) z) head back in
    let tails : xs ≡ ys = same_rows xs ys (tail_ascends x xs up_x) (tail_ascends y ys up_y) (same_tail x xs ys up_x to_x) (same_tail y ys xs up_y back_y) in
    ap (λ (r : PathRow). r ∷ xs) head ∙ ap (λ (rs : List PathRow). y ∷ rs) tails

row_from : (r t : PathRow) → r.node ≡ t.node → r.metric ≡ t.metric → r.parent ≡ t.parent → r ≡ t
row_from r t a b c = grind (arith, common_steps)

-- a node has one row
one_row : (g : Graph) (from : NetAddr) (r t : PathRow) → IsPathRow g from r → IsPathRow g from t → r.node ≡ t.node → r ≡ t
one_row g from r t is_r is_t at =
    let to_t : Least (InGraph g) from t.node r.metric = subst (λ (n : NetAddr). Least (InGraph g) from n r.metric) at is_r.least in
    row_from r t at (one_least to_t is_t.least) (parents (same_node r.node from))
  where
    parents : (r.node ≡ from) ⊎ (r.node ≡ from → ⊥) → r.parent ≡ t.parent
    parents (inl start) = is_r.start start ∙ sym (is_t.start (sym at ∙ start))
    parents (inr off) =
        let off_t : t.node ≡ from → ⊥ = λ e. off (at ∙ e) in
        at_most_both r.parent t.parent
        (is_r.least_parent off t.parent (subst (λ (n : NetAddr). Fits (InGraph g) from t.parent n) (sym at) (is_t.fits off_t)))
        (is_t.least_parent off_t r.parent (subst (λ (n : NetAddr). Fits (InGraph g) from r.parent n) at (is_r.fits off)))

row_in : (g : Graph) (from : NetAddr) (c d : Certificate) → IsCertificate g from c → IsCertificate g from d → (r : PathRow) → Contains c.rows r → Contains d.rows r
row_in g from c d is_c is_d r has =
    let good : IsPathRow g from r = is_c.rows r has in
    let (t, has_t, at) = is_d.all r.node r.metric good.least.reached in
    subst (λ (x : PathRow). Contains d.rows x) (one_row g from t r (is_d.rows t has_t) good at) has_t

pub unique : IsOneCertificate
unique g from c d is_c is_d = same_rows c.rows d.rows is_c.ascending is_d.ascending (row_in g from c d is_c is_d) (row_in g from d c is_d is_c)

-- The rows that a router advertises depend on no moment.
use Rattle.mesh_bases.proofs.Common.{◌≡◌, ◌≢◌, ◌↔◌, ◌⊎◌, inl, inr, refl, sym, subst, List, [], ◌∷◌, Addr4, Metric, TcRow, Neighbour, GivesAsSelector, AreRowsBy, AreTcRows, State, HasSymmetric}
use Rattle.mesh_atoms.specs.declared.settings.Attached4.{Attached4}
use Rattle.mesh_topo.proofs.AdvertisedLemmas.Advertising.{same_row}

gives_by : (s t : State) → ((o : Addr4) (n : Neighbour) → HasSymmetric s o n → HasSymmetric t o n) → (a o : Addr4) (m : Metric) → GivesAsSelector s a o m → GivesAsSelector t a o m
gives_by s t to a o m g = record { neighbour = g.neighbour; symmetric = to o g.neighbour g.symmetric; selects = g.selects; metric = g.metric; address = g.address }

-- the same symmetric neighbours and attached networks keep the rows
pub rows_stay : (s t : State) → ((o : Addr4) (n : Neighbour) → HasSymmetric s o n ↔ HasSymmetric t o n) → t.settings.attached ≡ s.settings.attached → (rows : List TcRow) → AreTcRows s rows → AreTcRows t rows
rows_stay s t same attached rows are =
    let to : (a o : Addr4) (m : Metric) → GivesAsSelector s a o m → GivesAsSelector t a o m = gives_by s t (λ o n. (same o n).0) in
    let back : (a o : Addr4) (m : Metric) → GivesAsSelector t a o m → GivesAsSelector s a o m = gives_by t s (λ o n. (same o n).1) in
    let by : AreRowsBy (GivesAsSelector t) s.settings.attached rows = record {
      exactly = λ row. (
        λ has. same_row (GivesAsSelector s) (GivesAsSelector t) (λ a o m. (to a o m, back a o m)) s.settings.attached row ((are.exactly row).0 has),
        λ is. (are.exactly row).1 (same_row (GivesAsSelector t) (GivesAsSelector s) (λ a o m. (back a o m, to a o m)) s.settings.attached row is),
      );
      ordered = are.ordered;
    } in
    subst (λ (l : List Attached4). AreRowsBy (GivesAsSelector t) l rows) (sym attached) by

-- a list has elements or none
pub some_or_none : {A : Type 0} (xs : List A) → (xs ≢ []) ⊎ (xs ≡ [])
some_or_none [] = inr refl
some_or_none (x ∷ xs) = inl (λ e. absurd cc)

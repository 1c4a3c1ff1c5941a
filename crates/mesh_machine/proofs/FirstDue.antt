-- The router that is due first.
use Rattle.mesh_machine.proofs.Common.{◌≡◌, ℕ, ◌+◌, ◌<◌, ◌≤◌, ◌⊎◌, inl, inr, List, refl, length, arith, Some, below_more, slice_get, slice_get_within, State, due, IsFirstDue}
use Rattle.mesh_machine.proofs.Places.{same_at}

-- the first of the first routers, so many, or of the very first
pub record IsFirstOf (routers : List State) (count x moment : ℕ) : Type 0 where
  pub state : State
  pub stands : slice_get routers x ≡ Some state
  pub is : moment ≡ due state
  pub no_earlier : (y : ℕ) (s : State) → slice_get routers y ≡ Some s → y < count → moment ≤ due s
  pub later : (y : ℕ) (s : State) → slice_get routers y ≡ Some s → y < x → moment < due s
  pub within : (x < count) ⊎ (x ≡ 0)

nowhere : (y : ℕ) → y < 0 → ⊥
nowhere y h = omega (arith, h)

-- the very first
pub very_first : (routers : List State) (s : State) → slice_get routers 0 ≡ Some s → IsFirstOf routers 0 0 (due s)
very_first routers s at = record {
  state = s;
  stands = at;
  is = refl;
  no_earlier = λ y t there below. absurd (nowhere y below);
  later = λ y t there below. absurd (nowhere y below);
  within = inr refl;
}

module _ (routers : List State) (count x moment : ℕ) (s : State) (at : slice_get routers count ≡ Some s) (h : IsFirstOf routers count x moment) where
  -- one that is due earlier than all before it
  pub is_earlier : due s < moment → IsFirstOf routers (count + 1) count (due s)
  is_earlier lt = record {
    state = s;
    stands = at;
    is = refl;
    no_earlier = λ y t there below. below_more (λ k. (q : State) → slice_get routers k ≡ Some q → due s ≤ due q) count
        (λ k b q th. let no = h.no_earlier k q th b in omega (arith, no, lt)) (λ q th. rw (same_at routers count q s th at) (omega arith)) y below t there;
    later = λ y t there below. let no = h.no_earlier y t there below in omega (arith, no, lt);
    within = inl (omega arith);
  }

  -- one that is no earlier
  pub is_no_earlier : moment ≤ due s → IsFirstOf routers (count + 1) x moment
  is_no_earlier le = record {
    state = h.state;
    stands = h.stands;
    is = h.is;
    no_earlier = λ y t there below. below_more (λ k. (q : State) → slice_get routers k ≡ Some q → moment ≤ due q) count
        (λ k b q th. h.no_earlier k q th b) (λ q th. rw (same_at routers count q s th at) le) y below t there;
    later = h.later;
    within = elim h.within [ inl b ↦ inl (omega (arith, b)) | inr e ↦ inr e ];
  }

-- the first of all
pub first_of_all : (routers : List State) (count x moment : ℕ) → length routers ≤ count → IsFirstOf routers count x moment → IsFirstDue routers x moment
first_of_all routers count x moment le h = record {
  state = h.state;
  stands = h.stands;
  is = h.is;
  no_earlier = λ y t there. let within = slice_get_within routers y t there in h.no_earlier y t there (omega (arith, within, le));
  later = h.later;
}

-- Routers that are taken one by one, and those that are made of them, each with the state of the one of which it is made.
use Rattle.mesh_radio.proofs.Common.{◌≡◌, ℕ, ◌<◌, List, [], ◌∷◌, ◌++◌, refl, length, get_or, map, map-append, slice_get_read, State, each_more, mapped_at, AreSoundStates}
use Rattle.mesh_atoms.specs.Sound.{Sound}

-- one more
pub one_turned : {A B : Type 0} (state : A → State) (its_state : B → State) (taken : List A) (made more : List B) (one : A) (turned : B) → its_state turned ≡ state one → more ≡ made ++ turned ∷ [] →
    map its_state made ≡ map state taken → map its_state more ≡ map state (taken ++ one ∷ [])
one_turned state its_state taken made more one turned same is states = rw (is, map-append its_state made (turned ∷ []), map-append state taken (one ∷ []), states, same) refl

-- one more that is sound
pub one_sound : {A : Type 0} (state : A → State) (made more : List A) (turned : A) → Sound (state turned) → more ≡ made ++ turned ∷ [] → AreSoundStates (map state made) → AreSoundStates (map state more)
one_sound state made more turned sound is sounds = rw (is, map-append state made (turned ∷ [])) (each_more (λ x s. Sound s) (map state made) (state turned) sounds sound)

-- the one that is taken next is sound
pub next_sound : {A : Type 0} (state : A → State) (items : List A) (k : ℕ) (one : A) → AreSoundStates (map state items) → (k < length items) × (one ≡ get_or items k one) → Sound (state one)
next_sound state items k one sounds (less, is) = sounds k (state one) (mapped_at state items k one (slice_get_read items (length items) k one refl less is))

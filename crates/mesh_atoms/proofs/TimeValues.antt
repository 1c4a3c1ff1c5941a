-- Values of times by distance that are put together from the front.
use Rattle.mesh_atoms.proofs.Common.{common_steps, ◌≡◌, ℕ, ◌+◌, ◌*◌, ◌<◌, refl, sym, ap, subst, ◌∙◌, arith, List, [], ◌∷◌, ◌++◌, length, drop, get_or, drop_more, NearHold, IsSentCode, IsLeastCode, IsTimeValue, Up_to, IsValidity, Near}

-- two more octets stand before what follows
pub two_more : (v : List ℕ) (a b : ℕ) (rest : List ℕ) → ((v ++ a ∷ []) ++ b ∷ []) ++ rest ≡ v ++ a ∷ b ∷ rest
two_more [] a b rest = refl
two_more (x ∷ v) a b rest = ap (λ (l : List ℕ). x ∷ l) (two_more v a b rest)

pub next_sent : (v new : List ℕ) (code hops : ℕ) → new ≡ (v ++ code ∷ []) ++ hops ∷ [] → IsSentCode code →
    ((rest : List ℕ) → IsTimeValue rest → IsTimeValue (v ++ rest)) → (rest : List ℕ) → IsTimeValue rest → IsTimeValue (new ++ rest)
next_sent v new code hops is sent before rest value =
    subst (λ (l : List ℕ). IsTimeValue (l ++ rest)) (sym is)
    (subst IsTimeValue (sym (two_more v code hops rest)) (before (code ∷ hops ∷ rest) (Up_to hops sent value)))

pub next_value : (hold : ℕ) (nears : List NearHold) (i : ℕ) (near : NearHold) (v new : List ℕ) (code : ℕ) →
    near ≡ get_or nears i near → i < length nears → new ≡ (v ++ code ∷ []) ++ near.hops ∷ [] → IsLeastCode near.hold code →
    ((rest : List ℕ) → IsValidity hold (drop i nears) rest → IsValidity hold nears (v ++ rest)) →
    (rest : List ℕ) → IsValidity hold (drop (i + 1) nears) rest → IsValidity hold nears (new ++ rest)
next_value hold nears i near v new code at within is least before rest value =
    let here : drop i nears ≡ near ∷ drop (i + 1) nears = drop_more nears i near within ∙ ap (λ (n : NearHold). n ∷ drop (i + 1) nears) (sym at) in
    subst (λ (l : List ℕ). IsValidity hold nears (l ++ rest)) (sym is)
    (subst (IsValidity hold nears) (sym (two_more v code near.hops rest))
    (before (code ∷ near.hops ∷ rest) (subst (λ (l : List NearHold). IsValidity hold l (code ∷ near.hops ∷ rest)) (sym here) (Near least value))))

pub next_size : (v new : List ℕ) (code hops i : ℕ) → new ≡ (v ++ code ∷ []) ++ hops ∷ [] → length v ≡ 2 * i → length new ≡ 2 * (i + 1)
next_size v new code hops i is size = grind (arith, common_steps)

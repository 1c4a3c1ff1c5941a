-- One pair more, and one router more.
use Rattle.mesh_emulate.proofs.Common.{common_steps, ◌≡◌, ℕ, ◌+◌, ◌-◌, ◌*◌, ◌%◌, ◌<◌, List, [], ◌∷◌, ◌++◌, length, sym, ap, ◌∙◌, arith, flat_map, range_with_len, flat_map_more, map-id, map-range_with_len_more, RadioArc, RouterPair, joined_with, more_pairs, word, IsMadeArc, AreMadeArcs, Kind}

-- Numbers in order

range_more : (a n j : ℕ) → a + n ≡ j → range_with_len a (n + 1) ≡ range_with_len a n ++ j ∷ []
range_more a n j e =
    sym (map-id (range_with_len a (n + 1))) ∙ (map-range_with_len_more (λ (i : ℕ). i) a n j e ∙ ap (λ (l : List ℕ). l ++ j ∷ []) (map-id (range_with_len a n)))

pub flat_more : {A : Type 0} (f : ℕ → List A) (n : ℕ) → flat_map f (range_with_len 0 (n + 1)) ≡ flat_map f (range_with_len 0 n) ++ f n
flat_more f n = ap (flat_map f) (range_more 0 n n (omega arith)) ∙ sym (flat_map_more f [] (range_with_len 0 n) n)

-- Draws

pub drawn_more : (seed n times : ℕ) (pairs : List RouterPair) → times < n →
    more_pairs seed n (n - 1 + 2 * times) (n - times) pairs
    ≡ more_pairs seed n (n - 1 + 2 * (times + 1)) (n - (times + 1)) (joined_with pairs (word seed (n - 1 + 2 * times) % n) (word seed (n - 1 + 2 * times + 1) % n))
drawn_more seed n times pairs within = grind (arith, common_steps)

-- Arcs

pub arcs_more : (k : Kind) (n seed from : ℕ) (pairs : List RouterPair) (p : RouterPair) (arcs : List RadioArc) (there back : RadioArc) (at : ℕ) →
    from + 2 * length pairs ≡ at → AreMadeArcs k n seed from pairs arcs →
    IsMadeArc k n seed at p.low p.high there → IsMadeArc k n seed (at + 1) p.high p.low back →
    AreMadeArcs k n seed from (pairs ++ p ∷ []) (arcs ++ there ∷ back ∷ [])
arcs_more k n seed from [] p [] there back at e all one two = grind (arith, common_steps)
arcs_more k n seed from [] p (a ∷ arcs) there back at e all one two = absurd cc
arcs_more k n seed from (q ∷ pairs) p [] there back at e all one two = absurd all
arcs_more k n seed from (q ∷ pairs) p (a ∷ []) there back at e all one two = absurd all
arcs_more k n seed from (q ∷ pairs) p (a ∷ b ∷ arcs) there back at e all one two =
    let rest : (from + 2) + 2 * length pairs ≡ at = omega (arith, e) in
    (all.0, all.1, arcs_more k n seed (from + 2) pairs p arcs there back at rest all.2 one two)

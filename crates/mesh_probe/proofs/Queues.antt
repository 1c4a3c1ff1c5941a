-- Frames behind one another.
use Rattle.mesh_probe.proofs.Common.{◌≡◌, ℕ, ◌+◌, List, [], ◌∷◌, ◌++◌, sym, ◌∙◌, ap, take, append_assoc, add-one, Some, arith, slice_get, common_steps, map-append, slice_get_within, get_or_from_slice_get, Frame, Transmission, sent_by}
use Rattle.std.proofs.Math.Seq.{take-suc}

-- so many items and the next one
pub take_more : {A : Type 0} (xs : List A) (i : ℕ) (x : A) → slice_get xs i ≡ Some x → take (i + 1) xs ≡ take i xs ++ (x ∷ [])
take_more xs i x at = ap (λ n. take n xs) (add-one i) ∙ take-suc xs i x (slice_get_within xs i x at) ∙ ap (λ y. take i xs ++ (y ∷ [])) (get_or_from_slice_get xs i x x at)

-- one frame more
pub one_sent : (w : ℕ) (sent : List Frame) (frame : Frame) → sent_by w sent ++ (record { router = w; frame = frame } ∷ []) ≡ sent_by w (sent ++ (frame ∷ []))
one_sent w sent frame = sym (map-append (λ (f : Frame). let t : Transmission = record { router = w; frame = f } in t) sent (frame ∷ []))

-- with the frame at a place, those up to it are put
pub one_put : (w i : ℕ) (sent : List Frame) (frame : Frame) (before frames : List Transmission) → slice_get sent i ≡ Some frame → frames ≡ before ++ sent_by w (take i sent) →
    frames ++ (record { router = w; frame = frame } ∷ []) ≡ before ++ sent_by w (take (i + 1) sent)
one_put w i sent frame before frames at is = grind (arith, common_steps, append_assoc, one_sent, take_more)

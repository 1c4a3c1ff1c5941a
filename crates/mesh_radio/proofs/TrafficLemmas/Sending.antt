-- Frames are sent, one after the other.
use Rattle.mesh_radio.proofs.Common.{◌≡◌, ℕ, ◌+◌, List, [], ◌∷◌, ◌++◌, refl, sym, ◌∙◌, ap, subst, map, take, append_assoc, append-nil, add-one, Some, slice_get, map-append, slice_get_within, get_or_from_slice_get, Scenario, Frame, Emission, Traffic, Sends, SendsAll, frame_of, SentFrame, emission_of}
use Rattle.std.proofs.Math.Seq.{take-suc}

-- whatever is sent from here on, the whole is sent
abbrev pub SendsOn : Scenario → ℕ → ℕ → List Emission → Traffic → Traffic → Type 0
SendsOn s now x sent start here = (more : List Emission) (new : Traffic) → SendsAll s now x more here new → SendsAll s now x (sent ++ more) start new

-- what a loop over frames keeps: those before this place are sent
pub record Sending (s : Scenario) (now x : ℕ) (frames : List Frame) (at : ℕ) (sent : List Emission) (start here : Traffic) (seed : ℕ) : Type 0 where
  pub goes : SendsOn s now x sent start here
  pub are : map frame_of sent ≡ take at frames
  pub seeded : seed ≡ s.seed

-- one frame more, as what is told of it
pub sent_more : (made more : List SentFrame) (one : SentFrame) → more ≡ made ++ one ∷ [] → map emission_of more ≡ map emission_of made ++ emission_of one ∷ []
sent_more made more one is = rw is (map-append emission_of made (one ∷ []))

-- one told emission more
pub one_told : (taken : List SentFrame) (told more : List Emission) (one : SentFrame) (e : Emission) → e ≡ emission_of one → more ≡ told ++ e ∷ [] → told ≡ map emission_of taken → more ≡ map emission_of (taken ++ one ∷ [])
one_told taken told more one e same is all = rw (is, all, same) (sym (map-append emission_of taken (one ∷ [])))

pub one_sent : (s : Scenario) (now x : ℕ) (sent : List Emission) (start here there : Traffic) (e : Emission) → Sends s now x e here there → SendsOn s now x sent start here → SendsOn s now x (sent ++ e ∷ []) start there
one_sent s now x sent start here there e sends goes more new rest = rw (append_assoc sent (e ∷ []) more) (goes (e ∷ more) new (there, sends, rest))

-- the frames up to a place, with the one that stands there
pub one_taken : (frames : List Frame) (at : ℕ) (sent : List Emission) (frame : Frame) (e : Emission) → slice_get frames at ≡ Some frame → frame_of e ≡ frame → map frame_of sent ≡ take at frames → map frame_of (sent ++ e ∷ []) ≡ take (at + 1) frames
one_taken frames at sent frame e stands is h = map-append frame_of sent (e ∷ []) ∙ rw (h, is) (sym (take_more frames at frame stands))
  where
    take_more : (xs : List Frame) (i : ℕ) (x : Frame) → slice_get xs i ≡ Some x → take (i + 1) xs ≡ take i xs ++ x ∷ []
    take_more xs i x h = ap (λ (n : ℕ). take n xs) (add-one i) ∙ take-suc xs i x (slice_get_within xs i x h) ∙ ap (λ (y : Frame). take i xs ++ y ∷ []) (get_or_from_slice_get xs i x x h)

-- all are sent
pub all_sent : (s : Scenario) (now x : ℕ) (sent : List Emission) (start here : Traffic) → SendsOn s now x sent start here → SendsAll s now x sent start here
all_sent s now x sent start here goes = subst (λ (l : List Emission). SendsAll s now x l start here) (append-nil sent) (goes [] here refl)

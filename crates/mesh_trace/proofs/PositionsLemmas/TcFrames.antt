-- The frames of one TC: the same octets on each interface.
use Rattle.mesh_trace.proofs.Common.{common_steps, ◌≡◌, ℕ, zero, suc, ◌<◌, List, [], ◌∷◌, ◌++◌, length, drop, Bool, refl, sym, ap, ◌∙◌, subst, arith, append-nil, Tc, TcRow, State, Frame, WritesTc, on_each, IsTcOfRows, SendsParts, No_part, First_part, some_interface}

-- the first of the frames on each interface, where there is one
pub on_first : (n : ℕ) (bytes : List ℕ) → 0 < n → on_each n bytes ≡ record { iface = 0; bytes = bytes } ∷ drop 1 (on_each n bytes)
on_first zero bytes some = absurd (omega (arith, some))
on_first (suc zero) bytes some = refl
on_first (suc (suc n)) bytes some =
    let first = on_first (suc n) bytes (omega arith) in
    let last : Frame = record { iface = suc n; bytes = bytes } in
    ap (λ (l : List Frame). l ++ last ∷ []) first ∙ ap (λ (l : List Frame). record { iface = 0; bytes = bytes } ∷ l) (sym (ap (λ (l : List Frame). drop 1 (l ++ last ∷ [])) first))

-- the octets of the frames of one part
pub record OnePart (s : State) (validity : List ℕ) (complete : Bool) (sequence : ℕ) (rows : List TcRow) (frames : List Frame) : Type 0 where
  pub tc : Tc
  pub bytes : List ℕ
  pub is_tc : IsTcOfRows s validity complete sequence rows tc
  pub written : WritesTc tc s.settings.times.tc_hop_limit validity bytes
  pub are : frames ≡ on_each (length s.settings.interfaces) bytes

pub one_part : (s : State) (validity : List ℕ) (complete : Bool) (sequence : ℕ) (rows : List TcRow) (frames : List Frame) → SendsParts s validity complete sequence (rows ∷ []) frames → OnePart s validity complete sequence rows frames
one_part s validity complete sequence rows frames (First_part tc bytes is_tc written No_part) =
    record { tc = tc; bytes = bytes; is_tc = is_tc; written = written; are = append-nil (on_each (length s.settings.interfaces) bytes) }

pub parts_one : (s : State) (validity : List ℕ) (complete : Bool) (sequence : ℕ) (rows : List TcRow) (tc : Tc) (bytes : List ℕ) (frames : List Frame) → IsTcOfRows s validity complete sequence rows tc →
    WritesTc tc s.settings.times.tc_hop_limit validity bytes → frames ≡ on_each (length s.settings.interfaces) bytes → SendsParts s validity complete sequence (rows ∷ []) frames
parts_one s validity complete sequence rows tc bytes frames is_tc written are =
    subst (SendsParts s validity complete sequence (rows ∷ [])) (append-nil (on_each (length s.settings.interfaces) bytes) ∙ sym are) (First_part tc bytes is_tc written No_part)

-- the first frame and the further ones, by their octets
pub first_is : (s : State) (bytes : List ℕ) (first : Frame) (further : List Frame) → first ∷ further ≡ on_each (length s.settings.interfaces) bytes → first ≡ record { iface = 0; bytes = bytes }
first_is s bytes first further are = grind (arith, common_steps, are, on_first, length, bytes, some_interface)

pub further_is : (s : State) (bytes : List ℕ) (first : Frame) (further : List Frame) → first ∷ further ≡ on_each (length s.settings.interfaces) bytes → further ≡ drop 1 (on_each (length s.settings.interfaces) bytes)
further_is s bytes first further are = ap (drop 1) are

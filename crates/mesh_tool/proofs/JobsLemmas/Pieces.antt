-- The pieces of a line that tells a fault.
use Rattle.mesh_tool.proofs.Common.{arith, common_steps, ◌≡◌, ℕ, ◌+◌, ◌<◌, List, [], ◌++◌, Bor, codes, drop, get_or, length, map, take, refl, sym, ap, ◌∙◌, append_assoc, concat, drop_more, map-append, take-append-drop, take_more, refusal_name, refused_line, attach_line, turns_line}
use Rattle.std.specs.Fmt.{decimal}
use Rattle.std.proofs.lemmas.List.Folds.{concat-append}

-- the text of pieces
abbrev pub text : List (Bor (List ℕ)) → List ℕ
text pieces = concat (map (λ piece. piece.now) pieces)

text-append : (first second : List (Bor (List ℕ))) → text (first ++ second) ≡ text first ++ text second
text-append first second = rw (map-append (λ (piece : Bor (List ℕ)). piece.now) first second) (concat-append (map (λ piece. piece.now) first) (map (λ piece. piece.now) second))

-- an empty piece
abbrev pub no_piece : Bor (List ℕ)
no_piece = record { ref_ptr = (0, 0); now = [] }

-- one more piece
pub text_more : (pieces : List (Bor (List ℕ))) (i : ℕ) → i < length pieces → text (take (i + 1) pieces) ≡ text (take i pieces) ++ (get_or pieces i no_piece).now
text_more pieces i within = grind (arith, common_steps, take_more, text-append)

-- the pieces before one, that one, and those behind it
pub text_around : (pieces : List (Bor (List ℕ))) (i : ℕ) → i < length pieces → text (take i pieces) ++ ((get_or pieces i no_piece).now ++ text (drop (i + 1) pieces)) ≡ text pieces
text_around pieces i within =
    sym (ap text (sym (take-append-drop i pieces)) ∙ (text-append (take i pieces) (drop i pieces) ∙ ap (λ (ps : List (Bor (List ℕ))). text (take i pieces) ++ text ps) (drop_more pieces i no_piece within)))

-- the lines
pub refused_is : (number : ℕ) (digits name key : List ℕ) → digits ≡ decimal number → name ≡ codes " " ++ refusal_name number ++ codes " "
    → codes "mesh: refused " ++ (digits ++ (name ++ (key ++ codes "\n"))) ≡ refused_line number key
unfolding refused_line
refused_is number digits name key are is = rw (are, is) (simp append_assoc)

pub attach_is : (interface : ℕ) (digits : List ℕ) → digits ≡ decimal interface → codes "mesh: attach " ++ (digits ++ codes "\n") ≡ attach_line interface
unfolding attach_line
attach_is interface digits are = rw are refl

pub turns_is : (turns moment end : ℕ) (a b c : List ℕ) → a ≡ decimal turns → b ≡ decimal moment → c ≡ decimal end
    → codes "mesh: turns " ++ (a ++ (codes " moment " ++ (b ++ (codes " below " ++ (c ++ codes "\n"))))) ≡ turns_line turns moment end
unfolding turns_line
turns_is turns moment end a b c p q r = rw (p, q, r) refl

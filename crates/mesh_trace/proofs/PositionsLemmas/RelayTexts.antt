-- What a relay line tells can be read back: the relays are fixed by it.
use Rattle.mesh_trace.proofs.Common.{common_steps, ◌≡◌, ℕ, suc, ◌<◌, ◌^◌, ◌/◌, ◌%◌, true, List, [], ◌∷◌, ◌++◌, refl, sym, ap, ◌∙◌, subst, arith, append_assoc, codes, decimal, Contains, append_cancel_left, append_cancel_right, Addr4, dotted, spaced, relays_text, lacks, first_cut, has_mark, dotted_lacks, flooding_text, routing_relays_line}
use Rattle.mesh_texts.proofs.RouteLines.{in_order, same_dotted}

-- Lists of addresses

-- numbers of 32 bits
abbrev pub AreAddresses : List Addr4 → Type 0
AreAddresses list = (a : Addr4) → Contains list a → a.0 < 2 ^ 32

first_address : (a : Addr4) (list : List Addr4) → AreAddresses (a ∷ list) → a.0 < 2 ^ 32
first_address a list are = are a (0, omega arith, refl)

more_addresses : (a : Addr4) (list : List Addr4) → AreAddresses (a ∷ list) → AreAddresses list
more_addresses a list are b (k, within, is) = are b (suc k, omega (arith, within), is)

-- with a space behind it, what follows an address begins with a space
record Begins (text : List ℕ) : Type 0 where
  more : List ℕ
  is : text ++ 32 ∷ [] ≡ 32 ∷ more

begins : (list : List Addr4) → Begins (spaced list)
begins [] = record { more = []; is = refl }
begins (a ∷ list) = record { more = (dotted a ++ spaced list) ++ 32 ∷ []; is = refl }

same_spaced : (xs ys : List Addr4) → AreAddresses xs → spaced xs ≡ spaced ys → xs ≡ ys
same_spaced [] [] are e = refl
same_spaced [] (y ∷ ys) are e = absurd cc
same_spaced (x ∷ xs) [] are e = absurd cc
same_spaced (x ∷ xs) (y ∷ ys) are e =
    let u = begins xs in
    let v = begins ys in
    let inside : dotted x ++ spaced xs ≡ dotted y ++ spaced ys = append_cancel_left (codes " ") (dotted x ++ spaced xs) (dotted y ++ spaced ys) e in
    let whole : dotted x ++ 32 ∷ u.more ≡ dotted y ++ 32 ∷ v.more =
    ap (λ (l : List ℕ). dotted x ++ l) (sym u.is) ∙ (sym (append_assoc (dotted x) (spaced xs) (32 ∷ [])) ∙ (ap (λ (l : List ℕ). l ++ 32 ∷ []) inside
    ∙ (append_assoc (dotted y) (spaced ys) (32 ∷ []) ∙ ap (λ (l : List ℕ). dotted y ++ l) v.is))) in
    let cut = first_cut 32 (dotted x) (dotted y) u.more v.more (dotted_lacks 32 (omega arith) refl x) (dotted_lacks 32 (omega arith) refl y) whole in
    let behind : spaced xs ≡ spaced ys = append_cancel_right (spaced xs) (spaced ys) (32 ∷ []) (u.is ∙ (ap (λ (l : List ℕ). 32 ∷ l) cut.1 ∙ sym v.is)) in
    let first : x ≡ y = same_dotted x y (first_address x xs are) cut.0 in
    ap (λ (a : Addr4). a ∷ xs) first ∙ ap (λ (l : List Addr4). y ∷ l) (same_spaced xs ys (more_addresses x xs are) behind)

-- `none` is no address
not_none : (y : Addr4) (ys : List Addr4) → codes " none" ≡ spaced (y ∷ ys) → ⊥
not_none y ys e =
    let first = decimal (y.0 / 16777216) in
    let rest = decimal (y.0 / 65536 % 256) ++ 46 ∷ (decimal (y.0 / 256 % 256) ++ 46 ∷ decimal (y.0 % 256)) in
    let inside : codes "none" ≡ (first ++ 46 ∷ rest) ++ spaced ys =
    append_cancel_left (codes " ") (codes "none") ((first ++ 46 ∷ rest) ++ spaced ys) (e ∙ ap (λ (l : List ℕ). codes " " ++ (l ++ spaced ys)) (in_order y)) in
    let text : codes "none" ≡ first ++ 46 ∷ (rest ++ spaced ys) = inside ∙ append_assoc first (46 ∷ rest) (spaced ys) in
    let none : lacks 46 (codes "none") ≡ true = refl in
    has_mark 46 first (rest ++ spaced ys) (subst (λ (l : List ℕ). lacks 46 l ≡ true) text none)

pub same_relays : (xs ys : List Addr4) → AreAddresses xs → relays_text xs ≡ relays_text ys → xs ≡ ys
unfolding relays_text
same_relays xs ys are e = grind (arith, common_steps, not_none, same_spaced)

-- by their lines
pub same_flooding : (router face : List ℕ) (xs ys : List Addr4) → AreAddresses xs → flooding_text router face xs ≡ flooding_text router face ys → xs ≡ ys
same_flooding router face xs ys are e = grind (arith, common_steps, append_cancel_left, codes, same_relays, append_cancel_right)

pub same_routing : (router : List ℕ) (xs ys : List Addr4) → AreAddresses xs → routing_relays_line router xs ≡ routing_relays_line router ys → xs ≡ ys
unfolding routing_relays_line
same_routing router xs ys are e = grind (arith, common_steps, append_cancel_left, codes, same_relays, append_cancel_right)

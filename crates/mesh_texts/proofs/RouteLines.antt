-- What the line of a route tells: its parts can be read back.
use Rattle.mesh_texts.proofs.Common.{common_steps, ◌≡◌, ℕ, zero, suc, ◌+◌, ◌<◌, ◌≤◌, ◌^◌, ◌/◌, ◌%◌, Bool, true, false, ltb, List, [], ◌∷◌, ◌++◌, length, refl, sym, ap, ◌∙◌, arith, append_assoc, codes, decimal, digits, digits_onto, digit_glyph, ltb-true, ltb-false, Addr4, NetAddr, dotted, slashed, node_text, route_line}
use Rattle.std.specs.Str.Parse.{digits_value}
use Rattle.std.proofs.lemmas.Fmt.{decimal_is_IsNumeral_wide, length-decimal-le}
use Rattle.std.proofs.Math.Nat.{pow-succ'}
use Rattle.mesh_atoms.proofs.Nets.{same_net}
use Rattle.mesh_texts.proofs.Cuts.{lacks, lacks_both, first_cut, last_cut, same_front}
use Rattle.mesh_texts.proofs.Marked.{decimal_lacks, dotted_lacks, slashed_lacks, node_lacks}

-- Numbers

tens : (k : ℕ) → 0 < 10 ^ k
tens zero = omega arith
tens (suc k) = omega (arith, pow-succ' 10 k, tens k)

-- a number of more digits than are written fills all of them
fills : (k n : ℕ) (acc : List ℕ) → 10 ^ k ≤ n → length (digits_onto k 10 false n acc) ≡ k + length acc
fills zero n acc le = omega arith
fills (suc k) n acc le = grind (arith, common_steps, tens, (fills k (n / 10) (digit_glyph false (n % 10) ∷ acc) (omega (arith, pow-succ' 10 k, le))))

-- a number of 64 bits is read back
pub same_decimal : (m n : ℕ) → m < 2 ^ 64 → decimal m ≡ decimal n → m ≡ n
unfolding digits
same_decimal m n small e = by (ltb n (10 ^ 64)) refl where
  wide : m < 10 ^ 64
  wide = omega (arith, small)

  by : (b : Bool) → ltb n (10 ^ 64) ≡ b → m ≡ n
  by true lt = sym (decimal_is_IsNumeral_wide m wide).1 ∙ ap (digits_value 10) e ∙ (decimal_is_IsNumeral_wide n (ltb-true n (10 ^ 64) lt)).1
  by false lt = absurd (
      let long = fills 64 n [] (ltb-false n (10 ^ 64) lt) in
      let short : length (decimal m) ≤ 20 = length-decimal-le 20 m (omega arith) (omega (arith, small)) small in
      let same : length (decimal m) ≡ length (decimal n) = ap length e in
      omega (arith, long, short, same))

-- Addresses

pub in_order : (a : Addr4) →
    dotted a ≡ decimal (a.0 / 16777216) ++ 46 ∷ (decimal (a.0 / 65536 % 256) ++ 46 ∷ (decimal (a.0 / 256 % 256) ++ 46 ∷ decimal (a.0 % 256)))
unfolding dotted
in_order a = grind (arith, common_steps)

pub same_dotted : (a b : Addr4) → a.0 < 2 ^ 32 → dotted a ≡ dotted b → a ≡ b
same_dotted a b small e =
    let cut = λ (m n : ℕ) (x y : List ℕ). first_cut 46 (decimal m) (decimal n) x y (decimal_lacks 46 (omega arith) m) (decimal_lacks 46 (omega arith) n) in
    let one = cut (a.0 / 16777216) (b.0 / 16777216) _ _ (sym (in_order a) ∙ e ∙ in_order b) in
    let two = cut (a.0 / 65536 % 256) (b.0 / 65536 % 256) _ _ one.1 in
    let three = cut (a.0 / 256 % 256) (b.0 / 256 % 256) _ _ two.1 in
    let p = same_decimal (a.0 / 16777216) (b.0 / 16777216) (omega (arith, small)) one.0 in
    let q = same_decimal (a.0 / 65536 % 256) (b.0 / 65536 % 256) (omega arith) two.0 in
    let r = same_decimal (a.0 / 256 % 256) (b.0 / 256 % 256) (omega arith) three.0 in
    let s = same_decimal (a.0 % 256) (b.0 % 256) (omega arith) three.1 in
    let same : a.0 ≡ b.0 = omega (arith, p, q, r, s) in
    ap (λ (n : ℕ). let addr : Addr4 = record { 0 = n } in addr) same

with_slash : (n : NetAddr) → slashed n ≡ dotted n.addr ++ 47 ∷ decimal n.prefix
unfolding slashed
with_slash n = append_assoc (dotted n.addr) (codes "/") (decimal n.prefix)

pub same_slashed : (m n : NetAddr) → m.addr.0 < 2 ^ 32 → slashed m ≡ slashed n → m ≡ n
same_slashed m n small e =
    let parts = first_cut 47 (dotted m.addr) (dotted n.addr) (decimal m.prefix) (decimal n.prefix) (dotted_lacks 47 (omega arith) refl m.addr) (dotted_lacks 47 (omega arith) refl n.addr) (sym (with_slash m) ∙ e ∙ with_slash n) in
    same_net m n (same_dotted m.addr n.addr small parts.0) (same_decimal m.prefix n.prefix (omega (arith, m.within)) parts.1)

-- The line

-- two lines of routes that are the same have the same parts
pub record SameParts (dest : NetAddr) (metric : ℕ) (next : Addr4) (face : List ℕ) (dest' : NetAddr) (metric' : ℕ) (next' : Addr4) (face' : List ℕ) : Type 0 where
  pub dests : slashed dest ≡ slashed dest'
  pub metrics : decimal metric ≡ decimal metric'
  pub nexts : dotted next ≡ dotted next'
  pub faces : face ≡ face'

-- what stands behind the name of the interface
abbrev end_of : NetAddr → List ℕ
end_of parent = node_text parent ++ codes "\n"

abbrev by_face : List ℕ → NetAddr → List ℕ
by_face face parent = codes "on " ++ (face ++ (codes " parent " ++ end_of parent))

abbrev by_next : Addr4 → List ℕ → NetAddr → List ℕ
by_next next face parent = codes "next " ++ (dotted next ++ 32 ∷ by_face face parent)

abbrev by_metric : ℕ → Addr4 → List ℕ → NetAddr → List ℕ
by_metric metric next face parent = codes "metric " ++ (decimal metric ++ 32 ∷ by_next next face parent)

in_parts : (dest : NetAddr) (metric : ℕ) (next : Addr4) (face : List ℕ) (parent : NetAddr) →
    route_line dest metric next face parent ≡ codes " route " ++ (slashed dest ++ 32 ∷ by_metric metric next face parent)
unfolding route_line
in_parts dest metric next face parent = refl

end_lacks : (parent : NetAddr) → lacks 32 (end_of parent) ≡ true
end_lacks parent = lacks_both 32 (node_text parent) (codes "\n") (node_lacks 32 (omega arith) refl refl parent) refl

same_face : (face face' : List ℕ) (parent parent' : NetAddr) →
    face ++ (codes " parent " ++ end_of parent) ≡ face' ++ (codes " parent " ++ end_of parent') → face ≡ face'
same_face face face' parent parent' e =
    let apart = λ (f : List ℕ) (p : NetAddr). append_assoc f (codes " parent") (32 ∷ end_of p) in
    let front = (last_cut 32 (face ++ codes " parent") (face' ++ codes " parent") (end_of parent) (end_of parent') (end_lacks parent) (end_lacks parent') (apart face parent ∙ e ∙ sym (apart face' parent'))).0 in
    (last_cut 32 face face' (codes "parent") (codes "parent") refl refl front).0

pub same_parts : (dest dest' : NetAddr) (metric metric' : ℕ) (next next' : Addr4) (face face' : List ℕ) (parent parent' : NetAddr) →
    route_line dest metric next face parent ≡ route_line dest' metric' next' face' parent' → SameParts dest metric next face dest' metric' next' face'
same_parts dest dest' metric metric' next next' face face' parent parent' e =
    let whole = same_front (codes " route ") _ _ (sym (in_parts dest metric next face parent) ∙ e ∙ in_parts dest' metric' next' face' parent') in
    let one = first_cut 32 (slashed dest) (slashed dest') (by_metric metric next face parent) (by_metric metric' next' face' parent')
    (slashed_lacks 32 (omega arith) refl refl dest) (slashed_lacks 32 (omega arith) refl refl dest') whole in
    let two = first_cut 32 (decimal metric) (decimal metric') (by_next next face parent) (by_next next' face' parent')
    (decimal_lacks 32 (omega arith) metric) (decimal_lacks 32 (omega arith) metric') (same_front (codes "metric ") _ _ one.1) in
    let three = first_cut 32 (dotted next) (dotted next') (by_face face parent) (by_face face' parent')
    (dotted_lacks 32 (omega arith) refl next) (dotted_lacks 32 (omega arith) refl next') (same_front (codes "next ") _ _ two.1) in
    record { dests = one.0; metrics = two.0; nexts = three.0; faces = same_face face face' parent parent' (same_front (codes "on ") _ _ three.1) }

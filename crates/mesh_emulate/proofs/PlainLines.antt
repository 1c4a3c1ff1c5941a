-- Texts of lines that are neither headings nor routes, nor `settled yes`, and the parts of such lines.
use Rattle.mesh_emulate.proofs.Common.{◌≡◌, ℕ, true, false, ltb, List, [], ◌∷◌, ◌++◌, length, get_or, nat_eq, codes, sym, ap, ◌∙◌, arith, AllByRecursion as Each, flat_map, All-append, Scenario, router_name, IsLine, IsPlain, ArePlain, lacks, lacks_both, begins_otherwise, router_name_lacks, flat_map-append}

-- Parts without a line feed

pub router_lacks : (s : Scenario) (x : ℕ) → lacks 10 (router_name s.routers x) ≡ true
router_lacks s x = router_name_lacks 10 (omega arith) s.routers x

-- parts one behind the other, as lines have them
abbrev pub behind : List ℕ → List (List ℕ) → List ℕ
behind first [] = first
behind first (part ∷ parts) = behind (first ++ part) parts

pub behind_lacks : (first : List ℕ) (parts : List (List ℕ)) → lacks 10 first ≡ true → Each (λ p. lacks 10 p ≡ true) parts → lacks 10 (behind first parts) ≡ true
behind_lacks first [] is all = is
behind_lacks first (part ∷ parts) is all = behind_lacks (first ++ part) parts (lacks_both 10 first part is all.0) all.1

-- Lines

-- at that place the line has another octet than what is in front
abbrev differs : List ℕ → List ℕ → ℕ → Type 0
differs front l k = (ltb k (length front) ≡ true) × (nat_eq (get_or l k 0) (get_or front k 0) ≡ false)

-- a line is plain that differs from a heading, a route and `settled yes`
pub plain_line : (l : List ℕ) (i j k : ℕ) → IsLine l → differs (codes "router ") l i → differs (codes " route ") l j → differs (codes "settled yes\n") l k → IsPlain l
plain_line l i j k is heading route settled = record {
  line = is;
  no_heading = begins_otherwise (codes "router ") l i heading.0 heading.1;
  no_route = begins_otherwise (codes " route ") l j route.0 route.1;
  no_settled = begins_otherwise (codes "settled yes\n") l k settled.0 settled.1;
}

-- Texts

pub both_plain : (a b : List ℕ) → ArePlain a → ArePlain b → ArePlain (a ++ b)
both_plain a b p q = record {
  lines = p.lines ++ q.lines;
  each = All-append IsPlain p.lines q.lines p.each q.each;
  whole = ap (λ (l : List ℕ). l ++ b) p.whole ∙ ap (λ (l : List ℕ). flat_map (λ l. l) p.lines ++ l) q.whole ∙ sym (flat_map-append (λ (l : List ℕ). l) p.lines q.lines);
}

-- What is found for a far entry.
use Rattle.mesh_relay.proofs.Common.{◌≡◌, ℕ, ◌+◌, Bool, true, false, cond, List, [], ◌∷◌, Some, None, Option, refl, sym, ◌∙◌, ap, arith, IsPermutation, common_steps, list_any, list_any-IsPermutation, Addr4, Near, Direct, Far, NeighbourGraph, Way, is_direct_within, way_at, way_from, near_from, is_offer}

-- the way that the entry gives by what was found
abbrev way_of : NeighbourGraph → Option (ℕ × Near) → Far → Option Way
way_of g None f = None
way_of g (Some p) f = way_at g p.0 p.1 f

of_cond : (g : NeighbourGraph) (b : Bool) (place : ℕ) (n : Near) (rest : Option (ℕ × Near)) (f : Far) →
    way_of g (cond b (Some (place, n)) rest) f ≡ cond b (way_at g place n f) (way_of g rest f)
of_cond g b place n rest f = grind (arith, common_steps)

way_from_found : (g : NeighbourGraph) (start : ℕ) (ns : List Near) (f : Far) → way_of g (near_from start ns f.via) f ≡ way_from g start ns f
way_from_found g start [] f = refl
way_from_found g start (n ∷ ns) f = grind (arith, common_steps, of_cond, cond, way_from_found g (start + 1) ns f)

pub no_way : (g : NeighbourGraph) (ns : List Near) (f : Far) (o : Option (ℕ × Near)) → o ≡ near_from 0 ns f.via → o ≡ None → None ≡ way_from g 0 ns f
no_way g ns f o found is = ap (λ (p : Option (ℕ × Near)). way_of g p f) (sym is ∙ found) ∙ way_from_found g 0 ns f

pub one_way : (g : NeighbourGraph) (ns : List Near) (f : Far) (o : Option (ℕ × Near)) (place : ℕ) (n : Near) → o ≡ near_from 0 ns f.via → o ≡ Some (place, n) →
    way_at g place n f ≡ way_from g 0 ns f
one_way g ns f o place n found is = ap (λ (p : Option (ℕ × Near)). way_of g p f) (sym is ∙ found) ∙ way_from_found g 0 ns f

-- Direct entries in another order

direct_in : (g : NeighbourGraph) (ds : List Direct) (y : Addr4) (most : ℕ) (b : Bool) → IsPermutation g.direct ds → b ≡ list_any (is_offer y most) ds → is_direct_within g y most ≡ b
direct_in g ds y most b moved e = list_any-IsPermutation (is_offer y most) g.direct ds moved ∙ sym e

pub is_dearer : (g : NeighbourGraph) (ds : List Direct) (place : ℕ) (n : Near) (f : Far) (b : Bool) → IsPermutation g.direct ds → b ≡ list_any (is_offer f.addr (n.cost + f.cost)) ds →
    b ≡ true → None ≡ way_at g place n f
is_dearer g ds place n f b moved e is =
    sym (ap (λ (t : Bool). cond t None (Some (record { addr = f.addr; cost = n.cost + f.cost; place = place }))) (direct_in g ds f.addr (n.cost + f.cost) b moved e ∙ is))

pub is_cheaper : (g : NeighbourGraph) (ds : List Direct) (place : ℕ) (n : Near) (f : Far) (b : Bool) → IsPermutation g.direct ds → b ≡ list_any (is_offer f.addr (n.cost + f.cost)) ds →
    b ≡ false → Some (record { addr = f.addr; cost = n.cost + f.cost; place = place }) ≡ way_at g place n f
is_cheaper g ds place n f b moved e is =
    sym (ap (λ (t : Bool). cond t None (Some (record { addr = f.addr; cost = n.cost + f.cost; place = place }))) (direct_in g ds f.addr (n.cost + f.cost) b moved e ∙ is))

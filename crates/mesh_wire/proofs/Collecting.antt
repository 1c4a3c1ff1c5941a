-- Entries of networks, and what is kept after them.
use Rattle.mesh_wire.proofs.Common.{common_steps, ◌≡◌, ℕ, zero, suc, slice_range, take, ◌-◌, ◌<◌, ◌≤◌, inl, inr, refl, sym, ◌∙◌, ap, subst, arith, Bool, true, false, cond, List, length, Option, Some, None, [], ◌∷◌, ◌++◌, drop, eq-eqb, NetAddr, same_net, RawAddr, RowParts, Entry, entry_on, is_of, standing, put_said, collected, IsIn, after, no_parts, cond_same, same_addr}
use Rattle.mesh_wire.proofs.Collected.{AnyOf, StandsOf}

-- ---- one entry

pub of_one : (a : RawAddr) (said : Option (ℕ × List ℕ)) (net : NetAddr) → is_of net (entry_on a said) ≡ true → IsIn a net
of_one a said net e = grind (arith, common_steps)

pub one_of : (a : RawAddr) (said : Option (ℕ × List ℕ)) (net : NetAddr) → IsIn a net → is_of net (entry_on a said) ≡ true
one_of a said net i = rw (eq-eqb _ _ i.number, eq-eqb _ _ i.prefix) refl

pub one_net : (a : RawAddr) (x y : NetAddr) → IsIn a x → IsIn a y → x ≡ y
one_net a x y i j = same_net x y (same_addr x.addr y.addr (i.number ∙ sym j.number)) (i.prefix ∙ sym j.prefix)

-- an address whose prefix is too long is in no network
pub in_none : (a : RawAddr) (net : NetAddr) → 32 < a.prefix → IsIn a net → ⊥
in_none a net long i = omega (arith, net.within, i.prefix)

-- what stands between two places is no longer than their distance
pub take_short : {X : Type 0} (n : ℕ) (zs : List X) → length (take n zs) ≤ n
take_short zero zs = omega arith
take_short (suc n) [] = omega arith
take_short (suc n) (z ∷ zs) = let s : length (take n zs) ≤ n = take_short n zs in omega arith

pub range_short : {X : Type 0} (xs ys : List X) (a b : ℕ) → ys ≡ slice_range xs a b → length ys ≤ b - a
range_short {X} xs ys a b e = subst (λ (zs : List X). length zs ≤ b - a) (sym e) (take_short (b - a) (drop a xs))

-- ---- entries one after the other

pub after_more : (net : NetAddr) (xs ys : List Entry) (parts : RowParts) → after net (xs ++ ys) parts ≡ after net ys (after net xs parts)
after_more net [] ys parts = refl
after_more net (x ∷ xs) ys parts = after_more net xs ys _

-- that an address stands says nothing
pub after_standing : (net : NetAddr) (addrs : List RawAddr) (parts : RowParts) → after net (standing addrs) parts ≡ parts
after_standing net [] parts = refl
after_standing net (a ∷ addrs) parts = ap (after net (standing addrs)) (cond_same (is_of net (entry_on a None)) parts) ∙ after_standing net addrs parts

-- where a network is kept, entries tell of it as where nothing is kept at first
pub kept_after : (net : NetAddr) (es : List Entry) (parts : RowParts) → collected net es (Some parts) ≡ Some (after net es parts)
kept_after net [] parts = refl
kept_after net (e ∷ es) parts = grind (arith, common_steps, collected, (kept_after net es (put_said e.said (Some parts))), (kept_after net es parts))

first_put : (said : Option (ℕ × List ℕ)) → put_said said None ≡ put_said said (Some no_parts)
first_put said = grind (arith, common_steps)

pub all_after : (net : NetAddr) (es : List Entry) → AnyOf (StandsOf net) es → collected net es None ≡ Some (after net es no_parts)
all_after net [] h = absurd h
all_after net (e ∷ es) h = by (is_of net e) refl (λ later. all_after net es later)
  where
    by : (b : Bool) → is_of net e ≡ b → (AnyOf (StandsOf net) es → collected net es None ≡ Some (after net es no_parts)) → collected net es (cond b (Some (put_said e.said None)) None) ≡ Some (after net es (cond b (put_said e.said (Some no_parts)) no_parts))
    by true is rest = kept_after net es (put_said e.said None) ∙ ap (λ (p : RowParts). Some (after net es p)) (first_put e.said)
    by false is rest = elim h [
      | inl y ↦ absurd (cc)
      | inr later ↦ rest later
    ]

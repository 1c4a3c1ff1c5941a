-- Rules that are looked at in the order of their numbers, up to the first that is broken.
use Rattle.mesh_wire.proofs.Common.{common_steps, ◌≡◌, ℕ, zero, suc, ◌+◌, ◌≤◌, ◌⊎◌, inl, inr, refl, sym, subst, arith, List, Contains, Option, Some, None, cases_eq, NetAddr, MessageFields, AddressParts, of_blocks, BreakNone, HasBroken, first_rule, FirstBroken, Keeps}
use Rattle.mesh_wire.proofs.Gathering.{gathered}
use Rattle.mesh_wire.proofs.Kept.{AreTold, are_told}
use Rattle.mesh_wire.proofs.Ruled.{Decides, rule_first, rule_none}

-- no rule of a lower number is broken
abbrev pub NoneBelow : (ℕ → Option NetAddr → Type 0) → ℕ → Type 0
NoneBelow Breaks n = (k : ℕ) (a : Option NetAddr) → Breaks k a → n ≤ k

-- the rule of that number isn't broken
abbrev pub Unbroken : (ℕ → Option NetAddr → Type 0) → ℕ → Type 0
Unbroken Breaks n = (a : Option NetAddr) → Breaks n a → ⊥

-- so many rules from a number on are broken or not, one by one
abbrev pub Decided : (ℕ → Option NetAddr → Type 0) → ℕ → ℕ → Type 0
Decided Breaks n zero = Unit {0}
Decided Breaks n (suc count) = (Breaks n None ⊎ Unbroken Breaks n) × Decided Breaks (n + 1) count

module _ (Breaks : ℕ → Option NetAddr → Type 0) where
  pub first_at : (n : ℕ) → NoneBelow Breaks n → Breaks n None → FirstBroken Breaks n None
  first_at n below h = record { broken = h; first = below; least = λ a g. tt }

  pub one_further : (n : ℕ) → NoneBelow Breaks n → Unbroken Breaks n → NoneBelow Breaks (n + 1)
  one_further n below kept k a h = grind (arith, common_steps, cases_eq)

  pub first_or_none : (n count : ℕ) → NoneBelow Breaks n → Decided Breaks n count → ((k : ℕ) × FirstBroken Breaks k None) ⊎ NoneBelow Breaks (n + count)
  first_or_none n zero below decided = inr (λ k a h. let least = below k a h in omega (arith, least))
  first_or_none n (suc count) below (inl h, rest) = inl (n, first_at n below h)
  first_or_none n (suc count) below (inr kept, rest) = grind (arith, common_steps, one_further, (first_or_none (n + 1) count (one_further n below kept) rest))

-- what is there where the rule that wants it is kept
pub of_either : {X : Type 0} {P : X → Type 0} {Broken In : Type 0} → (Broken → In → ⊥) → In → ((x : X) × P x) ⊎ ((x : X) → P x → ⊥) → (((x : X) → P x → ⊥) → Broken) → (x : X) × P x
of_either never in_range (inl there) broken = there
of_either never in_range (inr none) broken = absurd (never (broken none) in_range)

-- what a message reads as, or the first rule that it breaks
abbrev pub Outcome : {Value : Type 0} → (Value → Type 0) → (ℕ → Option NetAddr → Type 0) → Type 0
Outcome {Value} Is Breaks = ((value : Value) × Is value × Keeps Breaks) ⊎ ((number : ℕ) × (addr : Option NetAddr) × FirstBroken Breaks number addr)

-- the same, where a value is made of what is kept and breaks no rule
module _ {Value : Type 0} (m : MessageFields) (rule : AddressParts → Option ℕ) (Is : Value → Type 0) (Breaks : ℕ → Option NetAddr → Type 0)
    (broken : (number : ℕ) (addr : Option NetAddr) → HasBroken rule (of_blocks m.blocks) number addr → FirstBroken Breaks number addr)
    (value : (told : List AddressParts) → BreakNone rule (of_blocks m.blocks) told → (v : Value) × Is v × Keeps Breaks) where
  abbrev told : List AddressParts
  told = (gathered (of_blocks m.blocks)).0

  by : (o : Option (ℕ × NetAddr)) → first_rule rule None told ≡ o → Outcome Is Breaks
  by (Some (number, net)) e = inr (number, Some net, broken number (Some net) (record { told = told; collected = (gathered (of_blocks m.blocks)).1; net = net; found = e; at = refl }))
  by None e = inl (value told (record { collected = (gathered (of_blocks m.blocks)).1; clean = e }))

  pub of_rows : Outcome Is Breaks
  of_rows = by (first_rule rule None told) refl

-- rules on addresses, behind those on the heading, none of which is broken
module _ (m : MessageFields) (Breaks : ℕ → Option NetAddr → Type 0) (rule : AddressParts → Option ℕ) (start : ℕ)
    (decides : (told : List AddressParts) → AreTold m told → Decides Breaks rule told start) (below : NoneBelow Breaks start) where
  -- the rule that rows break is the first
  pub rule_broken : (number : ℕ) (addr : Option NetAddr) → HasBroken rule (of_blocks m.blocks) number addr → FirstBroken Breaks number addr
  rule_broken number addr f =
      let are = are_told m f.told f.collected in
      subst (λ (a : Option NetAddr). FirstBroken Breaks number a) (sym f.at) (rule_first Breaks rule f.told start (decides f.told are) are.ascending below number f.net f.found)

  -- or no rule is broken
  pub none_broken : (told : List AddressParts) → BreakNone rule (of_blocks m.blocks) told → Keeps Breaks × ((t : AddressParts) → Contains told t → rule t ≡ None)
  none_broken told f =
      let are = are_told m told f.collected in
      rule_none Breaks rule told start (decides told are) are.ascending below f.clean

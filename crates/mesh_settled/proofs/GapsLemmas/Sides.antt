-- What two sides have at a key, and the test of it.
use Rattle.mesh_settled.proofs.Common.{Bool, List, None, Option, Some, [], ap, inl, inr, refl, subst, sym, ℕ, ◌+◌, ◌∙◌, ◌∷◌, ◌≡◌, ◌≢◌, arith, ◌↔◌, is_some, option_map, common_steps, GapKey, Field, Number, SaySame, AllSame, Differ, DifferFrom, Look, IsHeldTuple, IsPresentTuple, IsExcepted, Held_alone, Present_alone, Unequal, IsGapAt, IsTest, IsTestFrom, IsSide, IsLeastGap, compared, found_at, none-some, same_some}
use Rattle.mesh_settled.specs.declared.gaps.compare.Difference.{Difference}
use Rattle.mesh_settled.specs.Gaps.Fields.{Addresses}
use Rattle.mesh_settled.proofs.GapsLemmas.Leasts.{least_one}
use Rattle.mesh_atoms.specs.declared.gap.GapValue.{GapValue}

-- Fields that say the same

same_sym : (f g : Field) → SaySame f g → SaySame g f
same_sym (Addresses ms) (Addresses ns) same = λ a. ((same a).1, (same a).0)
same_sym (Number m) (Number n) same = sym same
same_sym (Addresses ms) (Number n) same = same
same_sym (Number m) (Addresses ns) same = same

same_then : (f g h : Field) → SaySame f g → SaySame g h → SaySame f h
same_then (Addresses ms) (Addresses ns) (Addresses os) e f = λ a. (λ w. (f a).0 ((e a).0 w), λ w. (e a).1 ((f a).1 w))
same_then (Number m) (Number n) (Number o) e f = e ∙ f
same_then (Addresses ms) (Number n) h e f = absurd e
same_then (Number m) (Addresses ns) h e f = absurd e
same_then (Addresses ms) (Addresses ns) (Number o) e f = f
same_then (Number m) (Number n) (Addresses os) e f = f

same_self : (f : Field) → SaySame f f
same_self f = grind (arith, common_steps)

pub all_self : (fs : List Field) → AllSame fs fs
all_self [] = tt
all_self (f ∷ fs) = (same_self f, all_self fs)

pub all_sym : (fs gs : List Field) → AllSame fs gs → AllSame gs fs
all_sym [] [] same = same
all_sym (f ∷ fs) (g ∷ gs) same = (same_sym f g same.0, all_sym fs gs same.1)
all_sym [] (g ∷ gs) same = same
all_sym (f ∷ fs) [] same = same

pub all_then : (fs gs hs : List Field) → AllSame fs gs → AllSame gs hs → AllSame fs hs
all_then [] [] [] e f = tt
all_then [] [] (h ∷ hs) e f = f
all_then [] (g ∷ gs) hs e f = absurd e
all_then (f ∷ fs) [] hs e f' = absurd e
all_then (f ∷ fs) (g ∷ gs) [] e f' = f'
all_then (f ∷ fs) (g ∷ gs) (h ∷ hs) e f' = (same_then f g h e.0 f'.0, all_then fs gs hs e.1 f'.1)

-- and such that differ

differ_not : (f g : Field) (m n : Option ℕ) → Differ f g m n → SaySame f g → ⊥
differ_not (Addresses ms) (Addresses ns) m n apart same = elim apart.apart [
  | inl held ↦ held.0.1 ((same apart.least).0 held.0.0)
  | inr given ↦ given.0.1 ((same apart.least).1 given.0.0)
]
differ_not (Number v) (Number w) m n apart same = apart.0 same
differ_not (Addresses ms) (Number w) m n apart same = same
differ_not (Number v) (Addresses ns) m n apart same = same

pub differ_none : (at : ℕ) (fs gs : List Field) (field : ℕ) (m n : Option ℕ) → DifferFrom at fs gs field m n → AllSame fs gs → ⊥
differ_none at [] gs field m n differ same = differ
differ_none at (f ∷ fs) [] field m n differ same = differ
differ_none at (f ∷ fs) (g ∷ gs) field m n differ same = elim differ [
  | inl here ↦ differ_not f g m n here.1 same.0
  | inr later ↦ differ_none (at + 1) fs gs field m n later.1 same.1
]

-- The test of a key

module _ (l : Look) (key : GapKey) (all : IsExcepted l key → ⊥) where
  pub tested : (h p : Option (List Field)) (d : Option Difference) → IsSide (IsHeldTuple l key) h → IsSide (IsPresentTuple l key) p →
      ((fs gs : List Field) → h ≡ Some fs → p ≡ Some gs → IsTestFrom 0 fs gs d) → IsTest l key (compared (is_some h) (is_some p) d)
  tested None None d held given test = record { held = λ fs is. absurd (held fs is); present = λ gs is. absurd (given gs is) }
  tested (Some fs) None d held given test = (Held_alone fs held.0 all given refl refl, λ same. elim (same.held fs held.0) [ inl e ↦ all e | inr w ↦ given w.0 w.1 ])
  tested None (Some gs) d held given test = (Present_alone gs given.0 held refl refl, λ same. let w = same.present gs given.0 in held w.0 w.1)
  tested (Some fs) (Some gs) None held given test = grind (arith, common_steps, all_then, all_sym)
  tested (Some fs) (Some gs) (Some d) held given test =
      let differ : DifferFrom 0 fs gs d.field d.held d.present = test fs gs refl refl in (
        Unequal fs gs d.field d.held d.present held.0 given.0 differ refl refl,
        λ same. elim (same.held fs held.0) [
          | inl e ↦ all e
          | inr w ↦ differ_none 0 fs gs d.field d.held d.present differ (all_then fs w.0 gs w.2 (given.1 w.0 w.1))
        ],
      )

-- what is found at the key where each side has a tuple that its fields tell, or none
some_told : {A : Type 0} (fields : A → List Field) (o : Option A) → is_some (option_map fields o) ≡ is_some o
some_told fields o = grind (arith, common_steps)

pub gap_found : {A B : Type 0} (l : Look) (key : GapKey) → (IsExcepted l key → ⊥) → (ours : A → List Field) (theirs : B → List Field) (held : Option A) (given : Option B) (d : Option Difference) (h g : Bool) → h ≡ is_some held → g ≡ is_some given →
    IsSide (IsHeldTuple l key) (option_map ours held) → IsSide (IsPresentTuple l key) (option_map theirs given) →
    ((fs gs : List Field) → option_map ours held ≡ Some fs → option_map theirs given ≡ Some gs → IsTestFrom 0 fs gs d) → IsLeastGap l (λ k. k ≡ key) (found_at key (compared h g d))
gap_found l key all ours theirs held given d h g h_is g_is held_is given_is test =
    rw (h_is, g_is, ← some_told ours held, ← some_told theirs given) (least_one l key _ (tested l key all (option_map ours held) (option_map theirs given) d held_is given_is test))

-- The side of a look-up

module _ {V T : Type 0} (view : V → T) (fields : T → List Field) (Holds : V → Type 0) (o : Option (V × ℕ)) (looks : (t : V) → Holds t ↔ ((until : ℕ) × (o ≡ Some (t, until)))) where
  abbrev Held : List Field → Type 0
  Held fs = (t : V) × Holds t × (fs ≡ fields (view t))

  by_found : (e : Option (V × ℕ)) → o ≡ e → IsSide Held (option_map fields (option_map (λ x. view x.0) e))
  by_found None is = λ fs w. let f = (looks w.0).0 w.1 in none-some (w.0, f.0) (sym is ∙ f.1)
  by_found (Some e) is = (
    (e.0, (looks e.0).1 (e.1, is), refl),
    λ gs w.
        let same : w.0 ≡ e.0 = ap (λ (x : V × ℕ). x.0) (same_some ((looks w.0).0 w.1).1 is) in
        subst (λ (hs : List Field). AllSame hs (fields (view e.0))) (sym (w.2 ∙ ap (λ (t : V). fields (view t)) same)) (all_self (fields (view e.0))),
  )

  pub held_in : IsSide Held (option_map fields (option_map (λ x. view x.0) o))
  held_in = by_found o refl

-- The two values of a gap differ

unequal_numbers : (f g : Field) (m n : Option ℕ) → Differ f g m n → m ≢ n
unequal_numbers f g m n apart same = grind (arith, common_steps, none-some)

unequal_from : (at : ℕ) (fs gs : List Field) (field : ℕ) (m n : Option ℕ) → DifferFrom at fs gs field m n → m ≢ n
unequal_from at [] gs field m n differ same = differ
unequal_from at (f ∷ fs) [] field m n differ same = differ
unequal_from at (f ∷ fs) (g ∷ gs) field m n differ same = elim differ [
  | inl here ↦ unequal_numbers f g m n here.1 same
  | inr later ↦ unequal_from (at + 1) fs gs field m n later.1 same
]

pub gaps_differ : (l : Look) (key : GapKey) (held present : Option GapValue) → IsGapAt l key held present → held ≢ present
gaps_differ l key held present h4 same = grind (arith, common_steps, none-some, same_some, unequal_from)

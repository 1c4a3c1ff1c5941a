-- Options, results and conditions.
use Rattle.mesh_atoms.proofs.Common.{arith, common_steps, Bool, Err, None, Ok, OnOk, Option, Result, Some, cond, false, refl, sym, true, ◌∙◌, ◌≡◌, IfOk, IsTrue, OnErr, not, ◌↔◌, false≢true, is_some}

pub some_of : {X : Type 0} (o : Option X) → is_some o ≡ true → (x : X) × (o ≡ Some x)
some_of None e = cc
some_of (Some x) e = (x, refl)

pub none_is_some : {A B : Type 0} {a : A} → None ≡ Some a → B
none_is_some e = absurd (cc)

pub none_not : {A B : Type 0} {o : Option A} {a : A} → o ≡ None → o ≡ Some a → B
none_not e f = none_is_some (sym e ∙ f)

-- what holds whether the result is `Ok` or `Err`
pub by_result : {A B : Type 0} (P Q C : Type 0) (r : Result A B) → OnOk r P → OnErr r Q → (P → C) → (Q → C) → C
by_result P Q C r p q f g = grind (arith, common_steps)

-- what follows of a value follows of a result
pub if_ok_weaker : {X E : Type 0} {P Q : X → Type 0} (r : Result X E) → ((x : X) → P x → Q x) → IfOk r P → IfOk r Q
if_ok_weaker r f h = grind (arith, common_steps)

pub not_both : (a : Bool) → a ≡ true → not a ≡ true → ⊥
not_both a e h = grind (arith, common_steps)

pub true_false : {A : Type 0} {b : Bool} → b ≡ true → b ≡ false → A
true_false e f = absurd (false≢true (sym f ∙ e))

pub cond_true : {A : Type 0} (b : Bool) (x y : A) → b ≡ true → cond b x y ≡ x
cond_true b x y h = grind (arith, common_steps)

pub same_some : {A : Type 0} {o : Option A} {a b : A} → o ≡ Some a → o ≡ Some b → a ≡ b
same_some e f = cc

pub cond_none_some : {A : Type 0} (b : Bool) (x : Option A) (y : A) → cond b x None ≡ Some y → (b ≡ true) × (x ≡ Some y)
cond_none_some b x y h = grind (arith, common_steps)

pub cond_same : {A : Type 0} (b : Bool) (x : A) → cond b x x ≡ x
cond_same b x = grind (arith, common_steps)

pub some_equal : {A : Type 0} (x y : A) → Some x ≡ Some y → x ≡ y
some_equal x y h = cc

pub same_ok : {A E : Type 0} {r : Result A E} {a b : A} → r ≡ Ok a → r ≡ Ok b → a ≡ b
same_ok e f = cc

pub ok_not_err : {A B E : Type 0} {r : Result A E} {a : A} {x : E} → r ≡ Ok a → r ≡ Err x → B
ok_not_err e f = absurd (cc)

pub on_err_of : {A E P : Type 0} (r : Result A E) → P → OnErr r P
on_err_of r p = grind (arith, common_steps)

-- two answers to one question
pub same_answer : {P : Type 0} (a b : Bool) → (IsTrue a ↔ P) → (IsTrue b ↔ P) → a ≡ b
same_answer a b h k = grind (arith, common_steps)

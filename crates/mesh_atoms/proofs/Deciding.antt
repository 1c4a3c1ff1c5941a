-- Tests that decide statements: how tests of parts make tests of the whole, beside what std has.
use Rattle.mesh_atoms.proofs.Common.{arith, common_steps, ◌≡◌, ℕ, ◌≤◌, Bool, true, ◌||◌, not, nat_le, List, get_or, ap, Decides, Contains, list_any, list_all, eqb-true, eq-eqb, leb-true, le-leb, Any-from_list_any, All-contains, Contains-get_or, Addr4, addr_eq}
use Rattle.std.proofs.lemmas.List.Sums.{AllPass-from_list_all, list_all-from_AllPass}
pub use Rattle.std.proofs.lemmas.Bool.Decides.{Decides-and, Decides-or, Decides-not, Decides-eqb, Decides-ltb}

Decides-under : {P Q : Type 0} {r : Bool} → Decides r Q → P → Decides r (P → Q)
Decides-under q h = (λ e _. q.0 e, λ w. q.1 (w h))

pub Decides-if : {P Q : Type 0} (b r : Bool) → Decides b P → Decides r Q → Decides (not b || r) (P → Q)
Decides-if b r p q = grind (arith, common_steps)

pub Decides-if_both : {P Q R : Type 0} (a b r : Bool) → Decides a P → Decides b Q → Decides r R → Decides (not a || not b || r) (P → Q → R)
Decides-if_both a b r p q s = grind (arith, common_steps, Decides-under, Decides-if)

pub Decides-some : {X : Type 0} (test : X → Bool) (P : X → Type 0) → ((x : X) → Decides (test x) (P x)) → (xs : List X) → Decides (list_any test xs) ((x : X) × Contains xs x × P x)
Decides-some test P decides xs = grind (arith, common_steps, Any-from_list_any)

pub Decides-each : {X : Type 0} (test : X → Bool) (P : X → Type 0) → ((x : X) → Decides (test x) (P x)) → (xs : List X) → Decides (list_all test xs) ((x : X) → Contains xs x → P x)
Decides-each test P decides xs = (
  λ e x within. (decides x).0 (All-contains (λ y. test y ≡ true) xs x (AllPass-from_list_all test xs e) within),
  λ each. list_all-from_AllPass test xs (λ k d lt. (decides (get_or xs k d)).1 (each (get_or xs k d) (Contains-get_or xs k d lt))),
)

pub Decides-leb : (a b : ℕ) → Decides (nat_le a b) (a ≤ b)
Decides-leb a b = (leb-true a b, le-leb a b)

pub Decides-addr : (a b : Addr4) → Decides (addr_eq a b) (a ≡ b)
Decides-addr a b = (λ e. ap (λ (n : ℕ). record { 0 = n }) (eqb-true _ _ e), λ e. eq-eqb _ _ (ap (λ (x : Addr4). x.0) e))

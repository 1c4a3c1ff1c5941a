use Rattle.mesh_nbrs.proofs.Common.{◌≡◌, ℕ, Bool, true, false, cond, List, Contains, Option, Some, None, refl, ◌∙◌, ◌&&◌, not, list_any, contains, Addr4, addr_eq, addr_equiv, same_addr, on_ok_weaker}
use Rattle.mesh_atoms.specs.declared.tuples.Lost.{Lost}
use Rattle.mesh_atoms.specs.Live.{SettlesLost, Back, Gone, Stays}
use Rattle.mesh_nbrs.proofs.Listed.{contains_of, unlisted_of, listed_where}
use Rattle.mesh_nbrs.proofs.losts.LostSet.settle_lost.Goals as goal

-- an address, by whether it is among those before and those after
settled : (before after : List Addr4) (is_back : Addr4 → Bool) (until : ℕ) (a : Addr4) (stood mid new : Option (Lost × ℕ)) → is_back a ≡ list_any (λ x. addr_eq x a) after
    → mid ≡ cond (list_any (λ x. addr_eq x a) after) None stood
    → new ≡ cond (list_any (λ x. addr_eq x a && not (is_back x)) before) (Some (record {}, until)) mid
    → SettlesLost (Contains before a) (Contains after a) until stood new
settled before after is_back until a stood mid new there back gone = by_tests (list_any (λ x. addr_eq x a) before) refl (list_any (λ x. addr_eq x a) after) refl where
  whole : new ≡ cond (list_any (λ x. addr_eq x a) before && not (list_any (λ y. addr_eq y a) after)) (Some (record {}, until)) (cond (list_any (λ x. addr_eq x a) after) None stood)
  whole = gone ∙ rw (listed_where same_addr (λ x. not (is_back x)) before a, there, back) refl

  by_tests : (was : Bool) → list_any (λ x. addr_eq x a) before ≡ was → (is : Bool) → list_any (λ x. addr_eq x a) after ≡ is → SettlesLost (Contains before a) (Contains after a) until stood new
  by_tests true was true is = Back (contains_of same_addr after a is) (whole ∙ rw (was, is) refl)
  by_tests false was true is = Back (contains_of same_addr after a is) (whole ∙ rw (was, is) refl)
  by_tests true was false is = Gone (contains_of same_addr before a was) (unlisted_of addr_equiv after a is) (whole ∙ rw (was, is) refl)
  by_tests false was false is = Stays (unlisted_of addr_equiv before a was) (unlisted_of addr_equiv after a is) (whole ∙ rw (was, is) refl)

pub returns-clause-ok : goal.returns-clause-ok
returns-clause-ok g c =
    rw (← c.self.view_is) (on_ok_weaker c.put_gone.result (λ gone a. settled c.args.before.now c.args.after.now (contains addr_eq c.in_ok-back.back) c.args.until a _ _ _ (c.in_ok-back.ensures a) (c.take_back.ensures.back a) (gone a)) c.put_gone.ensures.gone)

-- The hops of a trip, one after another.
use Rattle.mesh_data.proofs.Common.{◌≡◌, ℕ, ◌+◌, ◌≤◌, inl, inr, refl, sym, ◌∙◌, subst, arith, List, [], ◌∷◌, ◌++◌, length, length-append, Result, IfOk, sum_by, Contains-append_cases, sum_by-append, slice_get_within, Addr4, Scenario, State, Hop, Trip, OfEachTrip, IsHop, AreChained, IsTrip, IsOnTheWay}
use Rattle.std.proofs.lemmas.Result.{IfOk-weaker}
use Rattle.mesh_paths.proofs.ShortLists.{only}

chain_on : (hops : List Hop) (from x : ℕ) (hop : Hop) → AreChained from hops x → hop.from ≡ x → AreChained from (hops ++ hop ∷ []) hop.to
chain_on [] from x hop e at = (at ∙ sym e, refl)
chain_on (h ∷ hs) from x hop (first, more) at = (first, chain_on hs h.to x hop more at)

module _ (s : Scenario) (states : List State) (a : Addr4) (from : ℕ) where
  pub goes : (x : ℕ) (hops : List Hop) (metric made : ℕ) (hop : Hop) → IsOnTheWay s states a from x hops metric made → IsHop s states a hop → hop.from ≡ x → hop.metric ≤ 16776960 →
      IsOnTheWay s states a from hop.to (hops ++ hop ∷ []) (metric + hop.metric) (made + 1)
  goes x hops metric made hop w is at low =
      let total : sum_by (λ (h : Hop). h.metric) (hops ++ hop ∷ []) ≡ sum_by (λ (h : Hop). h.metric) hops + (0 + hop.metric) = sum_by-append (λ (h : Hop). h.metric) hops (hop ∷ []) in
      let sum : metric ≡ sum_by (λ (h : Hop). h.metric) hops = w.sum in
      record {
        chain = chain_on hops from x hop w.chain at;
        each = λ other has. elim (Contains-append_cases hops (hop ∷ []) other has) [
          | inl before ↦ w.each other before
          | inr now ↦ subst (λ (h : Hop). IsHop s states a h) (sym (only hop other now)) is
        ];
        count = (let e : length (hops ++ hop ∷ []) ≡ length hops + 1 = length-append hops (hop ∷ []) in omega (arith, w.count));
        sum = omega arith;
        small = omega (arith, w.small);
        within = slice_get_within s.routers hop.to is.reaches.settings is.reaches.router;
      }

-- what holds of each trip holds of one that is made
pub of_made : (P : Scenario → List State → ℕ → Addr4 → Trip → Type 0) → OfEachTrip P → {E : Type 0} (s : Scenario) (states : List State) (from : ℕ) (a : Addr4) (made : Result Trip E) →
    IfOk made (λ t. IsTrip s states from a t) → IfOk made (λ t. P s states from a t)
of_made P law s states from a made is = IfOk-weaker made (λ (t : Trip). IsTrip s states from a t) (λ (t : Trip). P s states from a t) (law s states from a) is

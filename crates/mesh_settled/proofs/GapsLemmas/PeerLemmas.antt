-- Senders of TCs, and stray routers.
use Rattle.mesh_settled.proofs.Common.{◌≡◌, ◌≢◌, ℕ, ◌<◌, ◌≤◌, arith, sym, ◌∙◌, ap, subst, length, List, Some, Bool, true, false, slice_get, nat_eq, map, ◌↔◌, IsTrue, Option, None, is_some, not, false≢true, eqb-true, eq-eqb, slice_get_within, Addr4, RadioGraph, Interface, RouterSettings, Scenario, Joined, At, IsStray, State, HasAddress, IsOriginator, IsValue, sound_scenario, originator_address, IsNetwork, IsPeerOriginator, IsStrayAt, same_addr as addr_is, same_some}
use Rattle.std.proofs.lemmas.List.{length-map}
use Rattle.mesh_settled.proofs.GapsLemmas.JointLemmas.{same_state}

module _ (s : Scenario) (graph : RadioGraph) (states : List State) (now x : ℕ) (net : IsNetwork s graph states now) where
  pub is_sender : (from own : Addr4) (w : ℕ) (b : Bool) (q : State) → IsTrue b ↔ ((w ≢ x) × Joined s x w) → b ≡ true → At states w q → (settings : RouterSettings) → settings ≡ q.settings → IsOriginator settings own →
      IsTrue (nat_eq own.0 from.0) ↔ IsPeerOriginator s states x from w
  is_sender from own w b q test joins at settings same origin =
      let mine : IsOriginator q.settings own = subst (λ (r : RouterSettings). IsOriginator r own) same origin in
      let j = test.0 joins in (
        λ e. (q, record { other = j.0; joined = j.1; at = at }, subst (IsOriginator q.settings) (addr_is own from (eqb-true own.0 from.0 e)) mine),
        λ h.
            let theirs : IsOriginator q.settings from = subst (λ (r : State). IsOriginator r.settings from) (same_state h.1.at at) h.2 in
            let face : slice_get theirs.0.addrs 0 ≡ Some own = subst (λ (f : Interface). slice_get f.addrs 0 ≡ Some own) (same_some mine.1 theirs.1) mine.2 in
            eq-eqb own.0 from.0 (ap (λ (a : Addr4). a.0) (same_some face theirs.2)),
      )

  pub stray_at : (a : Addr4) (v : ℕ) (b c : Bool) (q : State) → IsTrue b ↔ ((v ≢ x) × Joined s x v) → b ≡ false → v ≢ x → At states v q → (settings : RouterSettings) → settings ≡ q.settings →
      IsTrue c ↔ HasAddress settings a → IsTrue c ↔ IsStrayAt s x a v
  stray_at a v b c q test no_join other at settings same has = (
    λ e. (other, λ j. false≢true (sym no_join ∙ test.1 (other, j)), (q.settings, net.routers.settings v q at, subst (λ (r : RouterSettings). HasAddress r a) same (has.0 e))),
    λ w.
        let (r, is, mine) = w.2 in
        has.1 (subst (λ (r' : RouterSettings). HasAddress r' a) (same_some is (net.routers.settings v q at) ∙ sym same) mine),
  )

module _ {A : Type 0} (f : A → State) (routers : List A) where
  pub within : (w : ℕ) (q : State) → At (map f routers) w q → w < length routers
  within w q at = let less = slice_get_within (map f routers) w q at.is in let same = length-map routers f in omega (arith, less, same)

  pub past_sender : (s : Scenario) (x : ℕ) (from : Addr4) (n : ℕ) → length routers ≤ n → ((k : ℕ) → k < n → IsPeerOriginator s (map f routers) x from k → ⊥) → (w : ℕ) → IsPeerOriginator s (map f routers) x from w → ⊥
  past_sender s x from n end before w h = let less = within w h.0 h.1.at in before w (omega (arith, less)) h

  pub no_stray : (s : Scenario) (graph : RadioGraph) (now : ℕ) → IsNetwork s graph (map f routers) now → (x : ℕ) (a : Addr4) (n : ℕ) → length routers ≤ n → ((k : ℕ) → k < n → IsStrayAt s x a k → ⊥) → IsTrue false ↔ IsStray s x a
  no_stray s graph now net x a n end before = (
    λ e. absurd (false≢true e),
    λ h.
        let (p, at) = net.routers.all h.0 h.3.0 h.3.1 in
        let less = within h.0 p at in
        absurd (before h.0 (omega (arith, less)) (h.1, h.2, h.3)),
  )

-- a sender's originator is no stray router's address
pub sender_is_near : (s : Scenario) (graph : RadioGraph) (states : List State) (now x : ℕ) → IsNetwork s graph states now → (a : Addr4) (w : ℕ) → IsPeerOriginator s states x a w → IsStray s x a → ⊥
sender_is_near s graph states now x net a w sender stray =
    let q = sender.0 in
    let theirs = originator_address q.settings a sender.2 in
    let (r, is, mine) = stray.3 in
    let ends = (sound_scenario s).addresses w stray.0 theirs.0 mine.0 q.settings r a (net.routers.settings w q sender.1.at) is theirs.1 mine.1 in
    stray.2 (subst (Joined s x) ends.0 sender.1.joined)

-- the originator of a sender is not stray
pub sender_known : (s : Scenario) (graph : RadioGraph) (states : List State) (now x : ℕ) → IsNetwork s graph states now → (a : Addr4) (o : Option ℕ) (b : Bool) → is_some o ≡ not b → b ≡ false → IsValue (IsPeerOriginator s states x a) o → IsTrue b ↔ IsStray s x a
sender_known s graph states now x net a None b test denies value = absurd (false≢true (test ∙ ap not denies))
sender_known s graph states now x net a (Some w) b test denies value =
    (λ e. absurd (false≢true (sym denies ∙ e)), λ stray. absurd (sender_is_near s graph states now x net a w value stray))

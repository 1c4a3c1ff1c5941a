-- From the least gap of each kind to the first gap.
use Rattle.mesh_settled.proofs.Common.{common_steps, ◌≡◌, ◌≢◌, ℕ, ◌+◌, ◌<◌, ◌≤◌, ◌⊎◌, inl, inr, refl, sym, ◌∙◌, ap, subst, arith, length, List, Option, Some, None, true, false, map, ◌↔◌, is_some, IfSome, IsNone, false≢true, RadioGraph, Scenario, host, At, Settled, State, Found, GapKey, Link, Neighbour, TwoHop, Router, Address, Network, IsLeastGap, Look, look, AreSame, HasNoGap, rank_of, IsNetwork, IsTopologyKey, IsFirstFound, IsFirstAt, IsFirstOf, reported, IsLinkKey, IsNeighbourKey, IsTwoHopKey, same_some}
use Rattle.mesh_atoms.specs.declared.gap.Gap.{Gap}
use Rattle.mesh_settled.proofs.GapsLemmas.GapLaw.{law}
use Rattle.mesh_settled.proofs.GapsLemmas.JointLemmas.{same_state, next_place}
use Rattle.mesh_settled.proofs.GapsLemmas.Leasts.{before_cases}
use Rattle.mesh_settled.proofs.GapsLemmas.PeerLemmas.{within}
use Rattle.mesh_settled.proofs.GapsLemmas.Sides.{gaps_differ}

-- Kinds

is_link : (k : GapKey) → (rank_of k).kind ≡ 0 → IsLinkKey k
is_link k e = grind (arith, common_steps)

-- a key of another kind
abbrev IsRest : GapKey → Type 0
IsRest k = IsNeighbourKey k ⊎ (IsTwoHopKey k ⊎ IsTopologyKey k)

which : (k : GapKey) → IsLinkKey k ⊎ IsRest k
which (Link i key) = inl (i, key, refl)
which (Neighbour o) = inr (inl (o, refl))
which (TwoHop i key) = inr (inr (inl (i, key, refl)))
which (Router from to) = inr (inr (inr (inl (from, host to, refl))))
which (Address from a) = inr (inr (inr (inr (inl (from, host a, refl)))))
which (Network from net) = inr (inr (inr (inr (inr (from, net, refl)))))

pub none_found : (l : Look) (P : GapKey → Type 0) (o : Option Found) → false ≡ is_some o → IsLeastGap l P o → IsLeastGap l P None
none_found l P o none least = grind (arith, common_steps)

-- links come first
pub first_link : (l : Look) (o : Option Found) → true ≡ is_some o → IsLeastGap l IsLinkKey o → IsFirstFound l o
first_link l None some least = absurd (false≢true (sym some))
first_link l (Some f) some least =
    let link : (rank_of f.key).kind ≡ 0 = ap (λ (k : GapKey). (rank_of k).kind) least.0.2 in (
      least.1,
      λ k first. elim (before_cases (rank_of k).kind (rank_of f.key).kind _ first) [
        | inl less ↦ absurd (omega (arith, less, link))
        | inr same ↦ least.2 k (is_link k (same.0 ∙ link)) first
      ],
    )

pub first_rest : (l : Look) (o : Option Found) → IsLeastGap l IsLinkKey None → IsLeastGap l IsRest o → IsFirstFound l o
first_rest l None links least = λ k. elim (which k) [ inl link ↦ links k link | inr rest ↦ least k rest ]
first_rest l (Some f) links least = (least.1, λ k first. elim (which k) [ inl link ↦ links k link | inr rest ↦ least.2 k rest first ])

-- Routers

pub first_at : (s : Scenario) (states : List State) (now x : ℕ) (p : State) → At states x p → (o : Option Found) → IsFirstFound (look s states now x p) o → IsFirstAt s states now x (reported x o)
first_at s states now x p at None none = λ q at'. subst (λ (r : State). HasNoGap (look s states now x r)) (same_state at at') none
first_at s states now x p at (Some f) first = (f, refl, p, at, first)

module _ (s : Scenario) (states : List State) (now : ℕ) where
  -- the routers before this have no gap
  abbrev pub NoneBefore : ℕ → Type 0
  NoneBefore n = (x : ℕ) → x < n → (p : State) → At states x p → HasNoGap (look s states now x p)

  pub next_router : (x : ℕ) (g : Option Gap) → false ≡ is_some g → IsFirstAt s states now x g → NoneBefore x → NoneBefore (x + 1)
  next_router x (Some g) none first before = absurd (false≢true none)
  next_router x None none first before = next_place (λ n. (p : State) → At states n p → HasNoGap (look s states now n p)) x before first

  pub this_router : (x : ℕ) (g : Option Gap) → true ≡ is_some g → IsFirstAt s states now x g → NoneBefore x → IsFirstOf s states now g
  this_router x None some first before = absurd (false≢true (sym some))
  this_router x (Some g) some (f, is, p, at, first) before =
      subst (λ (h : Gap). IsFirstOf s states now (Some h)) (sym (same_some refl is)) (
        record {
          p = p;
          at = at;
          kind = refl;
          is = first.0.0;
          no_router_before = λ y q less at'. before y less q at';
          no_key_before = first.1;
        },
        λ q at' same. first.0.1 (subst (λ (r : State). AreSame (look s states now x r) f.key) (same_state at' at) same),
      )

pub no_router : {A : Type 0} (f : A → State) (routers : List A) (s : Scenario) (now n : ℕ) → length routers ≤ n → NoneBefore s (map f routers) now n → IsFirstOf s (map f routers) now None
no_router f routers s now n end before = λ x p at. let less = within f routers x p at in before x (omega (arith, less)) p at

-- The answer

module _ (s : Scenario) (graph : RadioGraph) (states : List State) (now : ℕ) (net : IsNetwork s graph states now) where
  pub none_settled : (g : Option Gap) → IsFirstOf s states now g → IsNone g ↔ Settled s states now
  none_settled None none = (λ _ x p at. (law s graph states now x p net at).1 (none x p at), λ _. refl)
  none_settled (Some g) (first, differs) = (
    λ e. absurd (false≢true (sym e)),
    λ settled. absurd (differs first.p first.at ((law s graph states now g.router first.p net first.at).0 (settled g.router first.p first.at) g.key)),
  )

  pub differ : (g : Option Gap) → IsFirstOf s states now g → IfSome g (λ gap. gap.held ≢ gap.present)
  differ None none = tt
  differ (Some g) some = gaps_differ (look s states now g.router some.0.p) g.key g.held g.present some.0.is

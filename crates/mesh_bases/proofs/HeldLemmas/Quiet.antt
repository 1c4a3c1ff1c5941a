-- Where what relays, advertised rows and routes depend on stays.
use Rattle.mesh_bases.proofs.Common.{arith, common_steps, ◌≡◌, ℕ, refl, sym, subst, ◌∙◌, ◌&&◌, Bool, true, IsTrue, Option, Some, RouterSettings, Link, Neighbourhood, TopologyBase, is_symmetric, link_at, SameNear, way_at, SameAdvertised}
use Rattle.mesh_nhdp.specs.Staying.{AllIsAsItWas}
use Rattle.mesh_topo.specs.TcSets.Tuples.{router_says}
use Rattle.mesh_topo.proofs.TcSetsLemmas.Laws.{same_after, same_equal}

pub both_true : (a b : Bool) → IsTrue (a && b) → (a ≡ true) × (b ≡ true)
both_true a b h = grind (arith, common_steps)

-- what is the same topology advertises the same
pub advertised_equal : (old new : TopologyBase) → new ≡ old → SameAdvertised old new
advertised_equal old new is = grind (arith, common_steps, same_equal, router_says)

pub advertised_after : (old mid new : TopologyBase) → SameAdvertised old mid → SameAdvertised mid new → SameAdvertised old new
advertised_after old mid new h k = grind (arith, common_steps, same_after, router_says)

pub near_after : (old : Neighbourhood) (last : ℕ) (mid : Neighbourhood) (then : ℕ) (new : Neighbourhood) (now : ℕ) → SameNear old last mid then → SameNear mid then new now → SameNear old last new now
near_after old last mid then new now h k = record { neighbours = λ q. k.neighbours q ∙ h.neighbours q; two_hops = λ i q. k.two_hops i q ∙ h.two_hops i q; ways = λ i key. k.ways i key ∙ h.ways i key }

pub near_equal : (old new : Neighbourhood) (now : ℕ) → new ≡ old → SameNear old now new now
near_equal old new now is = subst (λ (n : Neighbourhood). SameNear old now n now) (sym is) (record { neighbours = λ q. refl; two_hops = λ i q. refl; ways = λ i key. refl })

-- a neighbourhood of which nothing has become: each link is SYMMETRIC where it was so
way_stays : (last now : ℕ) (o : Option (Link × ℕ)) → ((e : Link × ℕ) → o ≡ Some e → is_symmetric e.0 now ≡ is_symmetric e.0 last) → way_at now o ≡ way_at last o
way_stays last now o same = grind (arith, common_steps)

pub near_stays : (settings : RouterSettings) (last now : ℕ) (old new : Neighbourhood) → new ≡ old → AllIsAsItWas settings last now old → SameNear old last new now
near_stays settings last now old new is as_it_was = subst (λ (n : Neighbourhood). SameNear old last n now) (sym is) (record {
  neighbours = λ q. refl;
  two_hops = λ i q. refl;
  ways = λ i key. way_stays last now (link_at old i key) (λ e at. (as_it_was.links i key e at).symmetric);
})

use Rattle.mesh_nhdp.proofs.Common.{◌≡◌, ℕ, ◌<◌, ◌≤◌, length, base_of, ChangesOn}
use Rattle.mesh_nhdp.proofs.interfaces.change_all.Given as goal

abbrev pub invariant-loop-i : goal.invariant-loop-i
invariant-loop-i g l =
    let old = l.initial.sets-inside in
    let new = l.sets-inside in
    record {
      neighbours : new.neighbours ≡ old.neighbours;
      losts : new.losts ≡ old.losts;
      links : length new.links.items ≡ length old.links.items;
      two_hops : length new.two_hops.items ≡ length old.two_hops.items;
      done : (k : ℕ) → k < l.i → ChangesOn l.change k (base_of old.links.items k) (base_of new.links.items k) (base_of old.two_hops.items k) (base_of new.two_hops.items k);
      links_left : (k : ℕ) → l.i ≤ k → base_of new.links.items k ≡ base_of old.links.items k;
      two_hops_left : (k : ℕ) → l.i ≤ k → base_of new.two_hops.items k ≡ base_of old.two_hops.items k;
    }

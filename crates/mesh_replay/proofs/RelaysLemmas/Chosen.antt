-- Which relays a router may choose.
use Rattle.mesh_replay.proofs.Common.{common_steps, ◌≡◌, ℕ, ◌+◌, ◌-◌, ◌<◌, ◌≤◌, inl, inr, List, length, get_or, subst, arith, ◌^◌, Bool, Contains, Option, Some, None, Result, Ok, Err, ◌↔◌, IfOk, IsTrue, cases_lt, get_or_default, Addr4, All-weaker, All-contains_itself, Relays, AreRelaysOf, State, IsAscending, Before, StandAgain, with_relays, AreWide, IsAgain, IsGraphFor, MayTell, HasAddresses, AreAddresses}
use Rattle.mesh_atoms.specs.declared.graphs.Direct.{Direct}
use Rattle.mesh_atoms.specs.declared.graphs.Far.{Far}
use Rattle.mesh_atoms.specs.declared.graphs.Near.{Near}
use Rattle.mesh_atoms.specs.declared.graphs.NeighbourGraph.{NeighbourGraph}
use Rattle.mesh_atoms.specs.Relays.{Covers, Needed, Offers, IsWilling, IsRelay, IsOtherRelay, IsAsCheap}

-- ---- Addresses that ascend, as far as they were looked at.

pub rises_on : (addrs : List Addr4) (i : ℕ) (z : Addr4) → 1 ≤ i → i < length addrs → (get_or addrs (i - 1) z).0 < (get_or addrs i z).0 →
    ((j k : ℕ) (d : Addr4) → j < k → k < i → k < length addrs → (get_or addrs j d).0 < (get_or addrs k d).0) →
    (j k : ℕ) (d : Addr4) → j < k → k < i + 1 → k < length addrs → (get_or addrs j d).0 < (get_or addrs k d).0
rises_on addrs i z some inside step before j k d less upto within = elim (cases_lt k i) [
  | inl earlier ↦ before j k d less earlier within
  | inr here ↦
      let last : (get_or addrs (i - 1) d).0 < (get_or addrs i d).0 = rw (get_or_default addrs (i - 1) d z (omega (arith, some, inside)), get_or_default addrs i d z inside) step in
      let is_last : i ≡ k = omega (arith, here, upto) in
      subst (λ (n : ℕ). (get_or addrs j d).0 < (get_or addrs n d).0) is_last (elim (cases_lt j (i - 1)) [
        | inl front ↦ (let more = before j (i - 1) d front (omega (arith, some)) (omega (arith, inside)) in omega (arith, more, last))
        | inr at ↦ (let same : i - 1 ≡ j = omega (arith, at, less, here, upto, some) in subst (λ (n : ℕ). (get_or addrs n d).0 < (get_or addrs i d).0) same last)
      ])
]

-- ---- Which relays a router may choose.

-- relays are chosen whatever relays there are
pub told_with : (s : State) (r : Relays) (iface : Option ℕ) (relays : List Addr4) → MayTell s iface relays → MayTell (with_relays s r) iface relays
told_with s r iface relays may = grind (arith, common_steps)

pub told_apart : (s : State) (r : Relays) (iface : Option ℕ) (relays : List Addr4) → MayTell (with_relays s r) iface relays → MayTell s iface relays
told_apart s r iface relays may = told_with (with_relays s r) s.relays iface relays may

-- ---- graphs with the same members

record SameMembers (g h : NeighbourGraph) : Type 0 where
  near : (e : Near) → Contains g.near e ↔ Contains h.near e
  direct : (e : Direct) → Contains g.direct e ↔ Contains h.direct e
  far : (e : Far) → Contains g.far e ↔ Contains h.far e

back : {g h : NeighbourGraph} → SameMembers g h → SameMembers h g
back same = record { near = λ e. ((same.near e).1, (same.near e).0); direct = λ e. ((same.direct e).1, (same.direct e).0); far = λ e. ((same.far e).1, (same.far e).0) }

by_both : {A B C : Type 0} → A ↔ C → B ↔ C → A ↔ B
by_both one other = (λ a. other.1 (one.0 a), λ b. one.1 (other.0 b))

same_members : (s : State) (iface : Option ℕ) (g h : NeighbourGraph) → IsGraphFor s iface g → IsGraphFor s iface h → SameMembers g h
same_members s (Some i) g h one other = record { near = λ e. by_both (one.near e) (other.near e); direct = λ e. by_both (one.direct e) (other.direct e); far = λ e. by_both (one.far e) (other.far e) }
same_members s None g h one other = record { near = λ e. by_both (one.near e) (other.near e); direct = λ e. by_both (one.direct e) (other.direct e); far = λ e. by_both (one.far e) (other.far e) }

offers_over : (g h : NeighbourGraph) → SameMembers g h → (Among : Near → Type 0) (y : Addr4) (c : ℕ) → Offers g Among y c → Offers h Among y c
offers_over g h same Among y c (inl (d, has, at, cost)) = inl (d, (same.direct d).0 has, at, cost)
offers_over g h same Among y c (inr (n, has, among, f, reaches, via, at, cost)) = inr (n, (same.near n).0 has, among, f, (same.far f).0 reaches, via, at, cost)

cheap_over : (g h : NeighbourGraph) → SameMembers g h → (A B : Near → Type 0) (y : Addr4) → IsAsCheap g A B y → IsAsCheap h A B y
cheap_over g h same A B y cheap c offers =
    let (e, other, le) = cheap c (offers_over h g (back same) B y c offers) in
    (e, offers_over g h same A y e other, le)

relays_over : (g h : NeighbourGraph) → SameMembers g h → (relays : List Addr4) → AreRelaysOf g relays → AreRelaysOf h relays
relays_over g h same relays are = record {
  covers = record {
    always = λ n has will. are.covers.always n ((same.near n).1 has) will;
    willing = λ id has. let (n, inside, is, willing) = are.covers.willing id has in (n, (same.near n).0 inside, is, willing);
    as_cheap = λ f c has offers.
        let (e, other, le) = are.covers.as_cheap f c ((same.far f).1 has) (offers_over h g (back same) IsWilling f.addr c offers) in
        (e, offers_over g h same (IsRelay relays) f.addr e other, le);
  };
  needed = record {
    missed = λ n has is willing low.
        let (f, inside, dear) = are.needed.missed n ((same.near n).1 has) is willing low in (
          f,
          (same.far f).0 inside,
          λ equal. dear (
            cheap_over h g (back same) (IsOtherRelay relays n.id) IsWilling f.addr equal.0,
            cheap_over h g (back same) IsWilling (IsOtherRelay relays n.id) f.addr equal.1,
          ),
        );
  };
  ascending = are.ascending;
}

-- relays of one graph of a state are relays of each, so the test of one graph tells
pub judged : {E : Type 0} (s : State) (iface : Option ℕ) (g : NeighbourGraph) (relays : List Addr4) (r : Result Bool E) → IsGraphFor s iface g → IsAscending relays →
    IfOk r (λ b. IsTrue b ↔ (Covers g relays × Needed g relays)) → IfOk r (λ b. IsTrue b ↔ MayTell s iface relays)
judged s iface g relays (Ok b) is order tells = (
  λ serves. (let (covers, needed) = tells.0 serves in record { graph = g; is_graph = is; are = record { covers = covers; needed = needed; ascending = order } }),
  λ may. (let are = relays_over may.graph g (same_members s iface may.graph g may.is_graph is) relays may.are in tells.1 (are.covers, are.needed)),
)
judged s iface g relays (Err e) is order tells = tt

-- ---- their addresses

pub are_wide : (s : State) (iface : Option ℕ) (relays : List Addr4) → HasAddresses s → MayTell s iface relays → AreAddresses relays
are_wide s (Some i) relays known may id has =
    let (near, inside, same, willing) = may.are.covers.willing id has in let at = (may.is_graph.near near).0 inside in subst (λ (a : Addr4). a.0 < 2 ^ 32) same (known near.id at.0 at.2)
are_wide s None relays known may id has =
    let (near, inside, same, willing) = may.are.covers.willing id has in let at = (may.is_graph.near near).0 inside in subst (λ (a : Addr4). a.0 < 2 ^ 32) same (known near.id at.0 at.2)

pub all_wide : (relays : List Addr4) → AreAddresses relays → AreWide relays
all_wide relays are = All-weaker (λ (a : Addr4). Contains relays a) (λ (a : Addr4). a.0 < 2 ^ 32) are relays (All-contains_itself relays)

-- ---- those of the event before

pub again_may : (s : State) (before : Before) (iface : Option ℕ) (relays : List Addr4) → StandAgain s before → IsAgain before iface relays → MayTell s iface relays
again_may s before iface relays stand is = grind (arith, common_steps)

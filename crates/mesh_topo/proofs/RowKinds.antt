-- What the rows of a TC give, in the words of the definitions.
use Rattle.mesh_topo.proofs.Common.{◌≡◌, ℕ, inl, inr, Bool, true, false, Option, Some, None, Contains, refl, sym, ap, ◌∙◌, arith, option_and_then, option_map, IsTrue, common_steps, Addr4, NetAddr, Metric, Tc, TcRow, Base, host, router_eq, address_eq, network_eq, BecomesSet, GivesRouter, GivesAddress, GivesNetwork, GivenBy, given, router_kind, address_kind, network_kind}
use Rattle.std.specs.Bool.{then_some}
use Rattle.mesh_atoms.specs.declared.tuples.RouterKey.{RouterKey}
use Rattle.mesh_atoms.specs.declared.tuples.RouterTuple.{RouterTuple}
use Rattle.mesh_atoms.specs.declared.tuples.AddressKey.{AddressKey}
use Rattle.mesh_atoms.specs.declared.tuples.AddressTuple.{AddressTuple}
use Rattle.mesh_atoms.specs.declared.tuples.NetworkKey.{NetworkKey}
use Rattle.mesh_atoms.specs.declared.tuples.NetworkTuple.{NetworkTuple}
use Rattle.mesh_atoms.proofs.Nets.{same_net}
use Rattle.mesh_topo.specs.Tuples.{HasHosts}
use Rattle.mesh_topo.proofs.TcSetsLemmas.Laws.{set_by}

-- a pair whose second part is there by an option and a test
some_of : {A K V : Type 0} (k : K) (f : A → V) (b : Bool) (o : Option A) (y : K × V) → option_and_then (λ x. option_map (λ v. (k, v)) (then_some b (f x))) o ≡ Some y → (x : A) × (b ≡ true) × (o ≡ Some x) × ((k, f x) ≡ y)
some_of k f true (Some x) y e = (x, refl, refl, let both : Some (k, f x) ≡ Some y = e in cc)
some_of k f true None y e = absurd cc
some_of k f false (Some x) y e = absurd cc
some_of k f false None y e = absurd cc

-- tuples of a single address, keyed by the originator and the address
module _ {K V : Type 0} (key : Addr4 → Addr4 → K) (from to : K → Addr4) (value : ℕ → Metric → V) (number : V → ℕ) (metric : V → Metric) (flag : TcRow → Bool)
    (key_is : (k : K) → key (from k) (to k) ≡ k) (from_is : (a b : Addr4) → from (key a b) ≡ a) (to_is : (a b : Addr4) → to (key a b) ≡ b)
    (value_is : (v : V) → value (number v) (metric v) ≡ v) (number_is : (n : ℕ) (m : Metric) → number (value n m) ≡ n) (metric_is : (n : ℕ) (m : Metric) → metric (value n m) ≡ m) where
  abbrev tuple_of : Addr4 → ℕ → TcRow → Option (K × V)
  tuple_of originator ansn row = option_and_then (λ m. option_map (λ v. (key originator row.dest.addr, v)) (then_some (flag row) (value ansn m))) row.metric

  abbrev Tells : Tc → K → V → Type 0
  Tells tc k v = ((from k ≡ tc.originator) × (row : TcRow) × Contains tc.rows row × (row.dest ≡ host (to k)) × IsTrue (flag row) × (row.metric ≡ Some (metric v))) × (number v ≡ tc.ansn)

  tells_given : (tc : Tc) → ((row : TcRow) → Contains tc.rows row → IsTrue (flag row) → row.dest.prefix ≡ 32) → (k : K) (v : V) → GivenBy tuple_of tc k v → Tells tc k v
  tells_given tc hosts k v (row, has, is) =
      let (m, flagged, known, pair) = some_of (key tc.originator row.dest.addr) (value tc.ansn) (flag row) row.metric (k, v) is in
      let k_is : key tc.originator row.dest.addr ≡ k = ap (λ (p : K × V). p.0) pair in
      let v_is : value tc.ansn m ≡ v = ap (λ (p : K × V). p.1) pair in
      let addr : row.dest.addr ≡ to k = sym (to_is tc.originator row.dest.addr) ∙ ap to k_is in
      let by_metric : m ≡ metric v = sym (metric_is tc.ansn m) ∙ ap metric v_is in
      ((sym (ap from k_is) ∙ from_is tc.originator row.dest.addr, row, has, same_net row.dest (host (to k)) addr (hosts row has flagged), flagged, known ∙ ap Some by_metric), sym (ap number v_is) ∙ number_is tc.ansn m)

  given_tells : (tc : Tc) (k : K) (v : V) → Tells tc k v → GivenBy tuple_of tc k v
  given_tells tc k v ((by, row, has, dest, flagged, known), numbered) = (
    row,
    has,
    ap (λ (b : Bool). option_and_then (λ m. option_map (λ v. (key tc.originator row.dest.addr, v)) (then_some b (value tc.ansn m))) row.metric) flagged
        ∙ ap (λ (o : Option Metric). option_and_then (λ m. Some (key tc.originator row.dest.addr, value tc.ansn m)) o) known
        ∙ ap (λ (a : Addr4). Some (key a row.dest.addr, value tc.ansn (metric v))) (sym by)
        ∙ ap (λ (d : NetAddr). Some (key (from k) d.addr, value tc.ansn (metric v))) dest
        ∙ ap (λ (n : ℕ). Some (key (from k) (to k), value n (metric v))) (sym numbered)
        ∙ ap (λ (x : K). Some (x, value (number v) (metric v))) (key_is k)
        ∙ ap (λ (x : V). Some (k, x)) (value_is v),
  )

  single_set : (eq : K → K → Bool) (tc : Tc) (until : ℕ) → ((row : TcRow) → Contains tc.rows row → IsTrue (flag row) → row.dest.prefix ≡ 32) → (old new : Base K V) →
      BecomesSet eq tc until from number (GivenBy tuple_of tc) old new → BecomesSet eq tc until from number (Tells tc) old new
  single_set eq tc until hosts old new set = set_by eq tc until _ _ _ _ old new (tells_given tc hosts) (given_tells tc) set

pub router_set : (tc : Tc) (until : ℕ) (old new : Base RouterKey RouterTuple) → HasHosts tc → BecomesSet router_eq tc until (λ k. k.from) (λ t. t.ansn) (GivenBy (given router_kind) tc) old new →
    BecomesSet router_eq tc until (λ k. k.from) (λ t. t.ansn) (λ k t. GivesRouter tc k t.metric × (t.ansn ≡ tc.ansn)) old new
router_set tc until old new hosts set = single_set (λ a b. record { from = a; to = b }) (λ k. k.from) (λ k. k.to) (λ n m. record { ansn = n; metric = m }) (λ t. t.ansn) (λ t. t.metric) (λ row. row.origin)
    (λ k. refl) (λ a b. refl) (λ a b. refl) (λ v. refl) (λ n m. refl) (λ n m. refl) router_eq tc until (λ row has flagged. hosts row has (inl flagged)) old new set

pub address_set : (tc : Tc) (until : ℕ) (old new : Base AddressKey AddressTuple) → HasHosts tc → BecomesSet address_eq tc until (λ k. k.from) (λ t. t.ansn) (GivenBy (given address_kind) tc) old new →
    BecomesSet address_eq tc until (λ k. k.from) (λ t. t.ansn) (λ k t. GivesAddress tc k t.metric × (t.ansn ≡ tc.ansn)) old new
address_set tc until old new hosts set = single_set (λ a b. record { from = a; addr = b }) (λ k. k.from) (λ k. k.addr) (λ n m. record { ansn = n; metric = m }) (λ t. t.ansn) (λ t. t.metric) (λ row. row.routable)
    (λ k. refl) (λ a b. refl) (λ a b. refl) (λ v. refl) (λ n m. refl) (λ n m. refl) address_eq tc until (λ row has flagged. hosts row has (inr flagged)) old new set

-- a network tuple by its parts
abbrev network_with : Addr4 → ℕ → NetAddr → Option ℕ → Option Metric → Option (NetworkKey × NetworkTuple)
network_with from ansn net distance metric = option_and_then (λ m. option_map (λ t. (record { from = from; net = net }, t)) (option_map (λ d. record { ansn = ansn; distance = d; metric = m }) distance)) metric

network_parts : (from : Addr4) (ansn : ℕ) (net : NetAddr) (d : Option ℕ) (m : Option Metric) (k : NetworkKey) (t : NetworkTuple) → network_with from ansn net d m ≡ Some (k, t) →
    (k.from ≡ from) × (net ≡ k.net) × (d ≡ Some t.distance) × (m ≡ Some t.metric) × (t.ansn ≡ ansn)
network_parts from ansn net d m k t e = grind (arith, common_steps)

pub network_set : (tc : Tc) (until : ℕ) (old new : Base NetworkKey NetworkTuple) → BecomesSet network_eq tc until (λ k. k.from) (λ t. t.ansn) (GivenBy (given network_kind) tc) old new →
    BecomesSet network_eq tc until (λ k. k.from) (λ t. t.ansn) (λ k t. GivesNetwork tc k t.distance t.metric × (t.ansn ≡ tc.ansn)) old new
network_set tc until old new set = set_by network_eq tc until _ _ _ _ old new
    (λ k t (row, has, is).
    let (by, net, d, m, numbered) = network_parts tc.originator tc.ansn row.dest row.gateway row.metric k t is in
    ((by, row, has, net, d, m), numbered))
    (λ k t ((by, row, has, net, d, m), numbered). (
      row,
      has,
      ap (λ (o : Option ℕ). network_with tc.originator tc.ansn row.dest o row.metric) d
          ∙ ap (λ (o : Option Metric). network_with tc.originator tc.ansn row.dest (Some t.distance) o) m
          ∙ ap (λ (a : Addr4). network_with a tc.ansn row.dest (Some t.distance) (Some t.metric)) (sym by)
          ∙ ap (λ (n : NetAddr). network_with k.from tc.ansn n (Some t.distance) (Some t.metric)) net
          ∙ ap (λ (n : ℕ). network_with k.from n k.net (Some t.distance) (Some t.metric)) (sym numbered),
    ))
    set

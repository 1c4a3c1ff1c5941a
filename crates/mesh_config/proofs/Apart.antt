-- No sender of an interface stands twice: two arcs that lead to it come from two interfaces, whose addresses differ.
use Rattle.mesh_config.proofs.Common.{arith, common_steps, ◌≡◌, ℕ, zero, suc, List, [], ◌∷◌, ◌++◌, map, Bool, true, false, not, ◌&&◌, cond, nat_eq, Contains, Option, Some, refl, sym, ap, ◌∙◌, list_any, flat_map, slice_get, and_parts, or_parts, false_from_ne_true, map-append, list_any-append, flat_map-map, map-map, Addr4, Metric, RadioArc, SenderMetric, addr_eq, ◌>>=◌, are_distinct, ends_eq, StatedInterface, StatedRouter, all_addrs, stated_lists, ends_of, HaveNoDuplicates, AddressLists, first_addr, with_metric, sender_by, sender_pair, senders_to, not_both as no_both, same_some, back_distinct, contains_at, contains_flat_map_at, front_distinct, one_part}
use Rattle.mesh_atoms.proofs.Lookups.{addr_equiv, same_addr}
use Rattle.mesh_config.proofs.JoinFacts.{bind_some}

-- a part of a list, no address of which stands twice
part_apart : {A : Type 0} (f : A → List Addr4) (xs : List A) (i : ℕ) (x : A) → are_distinct addr_eq (flat_map f xs) ≡ true → slice_get xs i ≡ Some x → are_distinct addr_eq (f x) ≡ true
part_apart f [] i x apart at = let bad : ⊥ = cc in absurd bad
part_apart f (z ∷ zs) zero x apart at = let same : z ≡ x = cc in rw (← same) (front_distinct addr_eq (f z) (flat_map f zs) apart)
part_apart f (z ∷ zs) (suc i) x apart at = part_apart f zs i x (back_distinct addr_eq (f z) (flat_map f zs) apart) at

-- ---- the interface that an address is the first of
abbrev whole : List Addr4 → List Addr4
whole addrs = addrs

abbrev of_faces : List (List Addr4) → List Addr4
of_faces faces = flat_map whole faces

pub record Found (lists : AddressLists) (router iface : ℕ) (a : Addr4) : Type 0 where
  pub faces : List (List Addr4)
  pub at_router : slice_get lists router ≡ Some faces
  pub addrs : List Addr4
  pub at_iface : slice_get faces iface ≡ Some addrs
  pub of_iface : Contains addrs a
  pub of_router : Contains (of_faces faces) a

found : (lists : AddressLists) (router iface : ℕ) (a : Addr4) → first_addr lists router iface ≡ Some a → Found lists router iface a
found lists router iface a h =
    let one = bind_some (slice_get lists router) (λ faces. slice_get faces iface >>= λ addrs. slice_get addrs 0) a h in
    let two = bind_some (slice_get one.0 iface) (λ addrs. slice_get addrs 0) a one.1.1 in
    let first = contains_at two.0 0 a two.1.1 in
    record {
      faces = one.0;
      at_router = one.1.0;
      addrs = two.0;
      at_iface = two.1.0;
      of_iface = first;
      of_router = contains_flat_map_at whole one.0 iface two.0 a two.1.0 first;
    }

one_interface : (lists : AddressLists) (r i s j : ℕ) (a : Addr4) → are_distinct addr_eq (flat_map of_faces lists) ≡ true → first_addr lists r i ≡ Some a → first_addr lists s j ≡ Some a → (r ≡ s) × (i ≡ j)
one_interface lists r i s j a apart h k =
    let x = found lists r i a h in let y = found lists s j a k in
    let routers : r ≡ s = one_part addr_equiv of_faces lists r s x.faces y.faces a apart x.at_router y.at_router x.of_router y.of_router in
    let there : slice_get lists r ≡ Some y.faces = ap (slice_get lists) routers ∙ y.at_router in
    let same : y.faces ≡ x.faces = same_some there x.at_router in
    let near : slice_get x.faces j ≡ Some y.addrs = ap (λ (faces : List (List Addr4)). slice_get faces j) (sym same) ∙ y.at_iface in
    (routers, one_part addr_equiv whole x.faces i j x.addrs y.addrs a (part_apart of_faces lists r x.faces apart x.at_router) x.at_iface near x.of_iface y.of_iface)

-- ---- the senders that one arc gives, and those of the arcs after it
abbrev addr_of : Addr4 × Metric → Addr4
addr_of s = s.0

abbrev given : Metric → Bool → Option Addr4 → List Addr4
given metric leads first = map addr_of (cond leads (with_metric metric first) [])

none_given : (a : Addr4) (metric : Metric) (leads : Bool) (first : Option Addr4) → ((c : Addr4) → leads ≡ true → first ≡ Some c → addr_eq a c ≡ false) → list_any (addr_eq a) (given metric leads first) ≡ false
none_given a metric leads first h = grind (arith, common_steps)

apart_given : (metric : Metric) (leads : Bool) (first : Option Addr4) (rest : List Addr4) → ((c : Addr4) → leads ≡ true → first ≡ Some c → list_any (addr_eq c) rest ≡ false)
    → are_distinct addr_eq rest ≡ true → are_distinct addr_eq (given metric leads first ++ rest) ≡ true
apart_given metric leads first rest h apart = grind (arith, common_steps)

abbrev leads_to : ℕ → ℕ → RadioArc → Bool
leads_to router iface arc = nat_eq arc.to router && nat_eq arc.to_iface iface

abbrev addrs_to : AddressLists → List RadioArc → ℕ → ℕ → List Addr4
addrs_to lists arcs router iface = map addr_of (senders_to lists arcs router iface)

addrs_more : (lists : AddressLists) (arc : RadioArc) (arcs : List RadioArc) (router iface : ℕ)
    → addrs_to lists (arc ∷ arcs) router iface ≡ given arc.metric (leads_to router iface arc) (first_addr lists arc.from arc.from_iface) ++ addrs_to lists arcs router iface
addrs_more lists arc arcs router iface = map-append addr_of (sender_by lists router iface arc) (senders_to lists arcs router iface)

ends_same : (x y : RadioArc) (router iface : ℕ) → x.from ≡ y.from → x.from_iface ≡ y.from_iface → leads_to router iface x ≡ true → leads_to router iface y ≡ true → ends_eq (ends_of x) (ends_of y) ≡ true
ends_same x y router iface from from_iface at bt = grind (arith, common_steps)

-- an arc's sender is none of those that arcs between other interfaces give
none_again : (lists : AddressLists) (arc : RadioArc) (arcs : List RadioArc) (router iface : ℕ) (a : Addr4) → are_distinct addr_eq (flat_map of_faces lists) ≡ true
    → leads_to router iface arc ≡ true → first_addr lists arc.from arc.from_iface ≡ Some a → list_any (ends_eq (ends_of arc)) (map ends_of arcs) ≡ false → list_any (addr_eq a) (addrs_to lists arcs router iface) ≡ false
none_again lists arc [] router iface a apart leads is alone = refl
none_again lists arc (b ∷ bs) router iface a apart leads is alone =
    rw (addrs_more lists b bs router iface, list_any-append (addr_eq a) (given b.metric (leads_to router iface b) (first_addr lists b.from b.from_iface)) (addrs_to lists bs router iface), none_given a b.metric (leads_to router iface b) (first_addr lists b.from b.from_iface) other)
    (none_again lists arc bs router iface a apart leads is parts.1) where
      parts : (ends_eq (ends_of arc) (ends_of b) ≡ false) × (list_any (ends_eq (ends_of arc)) (map ends_of bs) ≡ false)
      parts = or_parts (ends_eq (ends_of arc) (ends_of b)) (list_any (ends_eq (ends_of arc)) (map ends_of bs)) alone

      meets : (c : Addr4) → leads_to router iface b ≡ true → first_addr lists b.from b.from_iface ≡ Some c → addr_eq a c ≡ true → ⊥
      meets c here at e =
          let both = one_interface lists arc.from arc.from_iface b.from b.from_iface a apart is (at ∙ ap (λ (x : Addr4). Some x) (sym (same_addr a c e))) in
          let same = ends_same arc b router iface both.0 both.1 leads here in
          let bad : ⊥ = cc in bad

      other : (c : Addr4) → leads_to router iface b ≡ true → first_addr lists b.from b.from_iface ≡ Some c → addr_eq a c ≡ false
      other c here at = false_from_ne_true (addr_eq a c) (meets c here at)

addrs_apart : (lists : AddressLists) (arcs : List RadioArc) (router iface : ℕ) → are_distinct addr_eq (flat_map of_faces lists) ≡ true → are_distinct ends_eq (map ends_of arcs) ≡ true
    → are_distinct addr_eq (addrs_to lists arcs router iface) ≡ true
addrs_apart lists [] router iface apart h = refl
addrs_apart lists (arc ∷ arcs) router iface apart h =
    rw (addrs_more lists arc arcs router iface)
    (apart_given arc.metric (leads_to router iface arc) (first_addr lists arc.from arc.from_iface) (addrs_to lists arcs router iface) alone (addrs_apart lists arcs router iface apart parts.1)) where
      parts : (not (list_any (ends_eq (ends_of arc)) (map ends_of arcs)) ≡ true) × (are_distinct ends_eq (map ends_of arcs) ≡ true)
      parts = and_parts (not (list_any (ends_eq (ends_of arc)) (map ends_of arcs))) (are_distinct ends_eq (map ends_of arcs)) h

      none : list_any (ends_eq (ends_of arc)) (map ends_of arcs) ≡ false
      none = false_from_ne_true (list_any (ends_eq (ends_of arc)) (map ends_of arcs)) (λ e. no_both (list_any (ends_eq (ends_of arc)) (map ends_of arcs)) e parts.0)

      alone : (c : Addr4) → leads_to router iface arc ≡ true → first_addr lists arc.from arc.from_iface ≡ Some c → list_any (addr_eq c) (addrs_to lists arcs router iface) ≡ false
      alone c leads is = none_again lists arc arcs router iface c apart leads is none

-- ---- of stated routers
faces_same : (faces : List StatedInterface) → of_faces (map (λ i. i.addrs) faces) ≡ flat_map (λ i. i.addrs) faces
faces_same faces = flat_map-map whole (λ (i : StatedInterface). i.addrs) faces

flat_same : (rs : List StatedRouter) → flat_map of_faces (stated_lists rs) ≡ all_addrs rs
flat_same [] = refl
flat_same (r ∷ rs) = rw (faces_same r.interfaces, flat_same rs) refl

pub senders_apart : (routers : List StatedRouter) (arcs : List RadioArc) (router iface : ℕ) (senders : List SenderMetric) → HaveNoDuplicates routers arcs → map sender_pair senders ≡ senders_to (stated_lists routers) arcs router iface
    → are_distinct addr_eq (map (λ s. s.sender) senders) ≡ true
senders_apart routers arcs router iface senders apart met =
    let pairs : map (λ (s : SenderMetric). s.sender) senders ≡ addrs_to (stated_lists routers) arcs router iface = sym (map-map addr_of sender_pair senders) ∙ ap (map addr_of) met in
    rw pairs (addrs_apart (stated_lists routers) arcs router iface (ap (are_distinct addr_eq) (flat_same routers) ∙ apart.distinct_addrs) apart.distinct_arcs)

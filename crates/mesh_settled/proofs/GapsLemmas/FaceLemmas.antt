-- The interface at the end of an arc has a least address.
use Rattle.mesh_settled.proofs.Common.{◌≡◌, ℕ, zero, suc, ◌+◌, ◌<◌, ◌≤◌, inl, inr, ◌∙◌, ap, subst, arith, length, List, [], Contains, Option, Some, None, true, false, map, slice_get, get_or, option_map, slice_index, ltb-true, and_parts as both, slice_get-map, slice_get-get_or, slice_get_cases, get_or_from_slice_get, Addr4, Metric, Interface, RouterSettings, Scenario, Leads, IsLeastAddress, Decides-each, ends_of, IsLeastMissing, lower, contains_map, contains_at, contains_none, no as never, on_interface}
use Rattle.mesh_atoms.specs.Radio.{Router}
use Rattle.mesh_atoms.specs.Settings.{is_interface, joins_routers}
use Rattle.mesh_settled.proofs.GapsLemmas.Apart.{IsEarlier, one_more, all_missing}
use Rattle.mesh_settled.proofs.GapsLemmas.JointLemmas.{least_in}

-- the least of the first addresses of a list
least_first : (list : List Addr4) (n : ℕ) → n ≤ length list → (o : Option Addr4) × IsLeastMissing (IsEarlier list n) [] o
least_first list zero few = (None, λ a w. absurd (omega (arith, w.1)))
least_first list (suc n) few =
    let a = get_or list n (record { 0 = 0 }) in
    let at : slice_get list n ≡ Some a = slice_get-get_or list n (record { 0 = 0 }) (omega arith) in
    let (o, least) = least_first list n (omega arith) in
    let next : n + 1 ≡ suc n = omega arith in
    (lower o a false, subst (λ (k : ℕ). IsLeastMissing (IsEarlier list k) [] (lower o a false)) next (one_more list [] n a at o false (never (contains_none a)) least))

least_on : (r : RouterSettings) (j : ℕ) (face : Interface) → slice_get r.interfaces j ≡ Some face → (a : Addr4) × IsLeastAddress r j a
least_on r j face at =
    let (o, least) = least_first face.addrs (length face.addrs) (omega arith) in
    by_case o (all_missing face.addrs [] (length face.addrs) o (omega arith) least)
  where
    by_case : (o : Option Addr4) → IsLeastMissing (λ a. Contains face.addrs a) [] o → (a : Addr4) × IsLeastAddress r j a
    by_case (Some b) least = (b, least_in r j face.addrs (Some b) (on_interface r j face at) least)
    by_case None none =
        let some = face.sound.few.at_least in
        let a = get_or face.addrs 0 (record { 0 = 0 }) in
        absurd (contains_none a (none a (contains_at face.addrs 0 a (slice_get-get_or face.addrs 0 (record { 0 = 0 }) (omega (arith, some))))))

abbrev count : RouterSettings → ℕ
count r = length r.interfaces

pub end_has_least : (s : Scenario) (x i y j : ℕ) (m : Metric) (r : RouterSettings) → Leads s x i y j m → Router s y r → (a : Addr4) × IsLeastAddress r j a
end_has_least s x i y j m r (arc, stands, from, from_iface, to, to_iface, is) at =
    let counts = map count s.routers in
    let all = Decides-each (joins_routers counts) (λ e. joins_routers counts e ≡ true) (λ e. (λ h. h, λ h. h)) (map ends_of s.arcs) in
    let joins = all.0 s.sound_arcs.join_routers (ends_of arc) (contains_map ends_of s.arcs arc stands) in
    let second = (both (is_interface counts arc.to arc.to_iface) _ (both (is_interface counts arc.from arc.from_iface) _ joins).1).0 in
    let there : is_interface counts y j ≡ true = rw (← to, ← to_iface) second in
    let below : j < slice_index counts y = ltb-true j (slice_index counts y) there in
    let counted : slice_index counts y ≡ count r = get_or_from_slice_get counts y (count r) 0 (slice_get-map count s.routers y ∙ ap (option_map count) at) in
    elim ((slice_get_cases r.interfaces j).1) [
      | inl here ↦ least_on r j here.0 here.2
      | inr past ↦ let over = past.0 in absurd (omega (arith, below, counted, over))
    ]

-- What interfaces admit, by tests of arcs; and that admitted arcs each way join two interfaces from both sides.
use Rattle.mesh_paths.proofs.Common.{arith, ◌≡◌, ℕ, ◌≤◌, refl, Option, Some, None, true, false, slice_get, leb-true, common_steps, le-leb, Metric, Interface, RadioArc, RouterSettings, Scenario, quality_at, IsAdmitted, Joins, face_in, face_of, can_accept, is_admitted}

-- interfaces that are joined are so from both sides
pub joins_back : {s : Scenario} {x i y j : ℕ} {there back : Metric} → Joins s x i y j there back → Joins s y j x i back there
joins_back joins = record { out = joins.home; home = joins.out; out_admitted = joins.home_admitted; home_admitted = joins.out_admitted }

face_found : (o : Option RouterSettings) (i : ℕ) (f : Interface) → face_in o i ≡ Some f → (r : RouterSettings) × (o ≡ Some r) × (slice_get r.interfaces i ≡ Some f)
face_found None i f e = absurd (let no : None ≡ Some f = e in cc)
face_found (Some r) i f e = (r, refl, e)

accepts_both : (end : ℕ) (to from : Option Interface) → can_accept end to from ≡ true →
    (t f : Interface) × (to ≡ Some t) × (from ≡ Some f) × (t.admit.accept ≤ quality_at t.admit f.addrs end)
accepts_both end None from e = absurd (let no : false ≡ true = e in cc)
accepts_both end (Some t) None e = absurd (let no : false ≡ true = e in cc)
accepts_both end (Some t) (Some f) e = (t, f, refl, refl, leb-true t.admit.accept (quality_at t.admit f.addrs end) e)

admitted_by : (s : Scenario) (arc : RadioArc) → is_admitted s.routers s.end arc ≡ true → IsAdmitted s arc.from arc.from_iface arc.to arc.to_iface
admitted_by s arc e =
    let (t, f, to, from, accepted) = accepts_both s.end (face_of s.routers arc.to arc.to_iface) (face_of s.routers arc.from arc.from_iface) e in
    let (q, receives, is_to) = face_found (slice_get s.routers arc.to) arc.to_iface t to in
    let (r, sends, is_from) = face_found (slice_get s.routers arc.from) arc.from_iface f from in
    record { sender = r; sends = sends; from = f; is_from = is_from; receiver = q; receives = receives; to = t; is_to = is_to; accepted = accepted }

-- between interfaces that the arc leads between
pub admitted_arc : (s : Scenario) (x i y j : ℕ) (arc : RadioArc) → arc.from ≡ x → arc.from_iface ≡ i → arc.to ≡ y → arc.to_iface ≡ j →
    is_admitted s.routers s.end arc ≡ true → IsAdmitted s x i y j
admitted_arc s x i y j arc from from_iface to to_iface e = rw (← from, ← from_iface, ← to, ← to_iface) (admitted_by s arc e)

admits : (s : Scenario) (x i y j : ℕ) → IsAdmitted s x i y j → can_accept s.end (face_of s.routers y j) (face_of s.routers x i) ≡ true
admits s x i y j a = grind (arith, common_steps, le-leb)

pub admits_arc : (s : Scenario) (x i y j : ℕ) (arc : RadioArc) → arc.from ≡ x → arc.from_iface ≡ i → arc.to ≡ y → arc.to_iface ≡ j →
    IsAdmitted s x i y j → is_admitted s.routers s.end arc ≡ true
admits_arc s x i y j arc from from_iface to to_iface a = rw (from, from_iface, to, to_iface) (admits s x i y j a)

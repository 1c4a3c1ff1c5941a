-- The qualities of the senders of an interface.
use Rattle.mesh_config.proofs.Common.{common_steps, ◌≡◌, ℕ, zero, suc, ◌+◌, ◌<◌, ◌≤◌, List, [], ◌∷◌, ◌++◌, map, length, get_or, take, Bool, cond, nat_eq, ◌&&◌, Option, Some, refl, sym, ap, ◌∙◌, arith, flat_map, slice_get, take_more, length-take-le, map-append, append-nil, slice_get_read, map-map, Addr4, QualityStep, Metric, RadioArc, SenderMetric, StatedArc, quality_pair, AddressLists, first_addr, with_metric, sender_by, senders_to, sender_pair, with_steps, with_quality, quality_by, qualities_to, stated_steps, steps_at, flat_map-append}
use Rattle.mesh_atoms.specs.declared.admit.SenderQuality.{SenderQuality}

-- the steps of a stated arc are those at its number
stated_there : (arcs : List StatedArc) (number : ℕ) (arc : StatedArc) → slice_get arcs number ≡ Some arc → steps_at (stated_steps arcs) number ≡ arc.steps
stated_there [] number arc h = absurd cc
stated_there (a ∷ arcs) zero arc h = let same : a ≡ arc = cc in ap (λ (x : StatedArc). x.steps) same
stated_there (a ∷ arcs) (suc number) arc h = stated_there arcs number arc h

pub steps_stated : (arcs : List StatedArc) (number : ℕ) (arc : StatedArc) → arc ≡ get_or arcs number arc → number < length arcs → steps_at (stated_steps arcs) number ≡ arc.steps
steps_stated arcs number arc here within = stated_there arcs number arc (slice_get_read arcs (length arcs) number arc refl within here)

pub steps_none : (arcs : List StatedArc) (number : ℕ) → length arcs ≤ number → steps_at (stated_steps arcs) number ≡ []
steps_none [] number h = refl
steps_none (a ∷ arcs) zero h = absurd (omega (arith, h))
steps_none (a ∷ arcs) (suc number) h = steps_none arcs number (omega (arith, h))

-- one more arc
with_more : (arcs : List RadioArc) (steps : List (List QualityStep)) (arc : RadioArc) (number : ℕ) → length arcs ≡ number
    → with_steps (arcs ++ arc ∷ []) steps ≡ with_steps arcs steps ++ (arc, steps_at steps number) ∷ []
with_more [] [] arc number h = refl
with_more [] (one ∷ steps) arc zero h = refl
with_more [] (one ∷ steps) arc (suc number) h = absurd (omega (arith, h))
with_more (a ∷ arcs) [] arc number h = ap (λ (l : List (RadioArc × List QualityStep)). (a, []) ∷ l) (with_more arcs [] arc (length arcs) refl)
with_more (a ∷ arcs) (one ∷ steps) arc zero h = absurd (omega (arith, h))
with_more (a ∷ arcs) (one ∷ steps) arc (suc number) h = ap (λ (l : List (RadioArc × List QualityStep)). (a, one) ∷ l) (with_more arcs steps arc number (omega (arith, h)))

flat_one_more : {A B : Type 0} (f : A → List B) (xs : List A) (x : A) → flat_map f (xs ++ x ∷ []) ≡ flat_map f xs ++ f x
flat_one_more f xs x = flat_map-append f xs (x ∷ []) ∙ ap (λ (l : List _). flat_map f xs ++ l) (append-nil (f x))

pub qualities_more : (lists : AddressLists) (arcs : List RadioArc) (steps : List (List QualityStep)) (router iface i : ℕ) (arc : RadioArc) → arc ≡ get_or arcs i arc → i < length arcs
    → qualities_to lists (with_steps (take (i + 1) arcs) steps) router iface
    ≡ qualities_to lists (with_steps (take i arcs) steps) router iface ++ quality_by lists router iface (arc, steps_at steps i)
qualities_more lists arcs steps router iface i arc here within =
    let front : take (i + 1) arcs ≡ take i arcs ++ arc ∷ [] = take_more arcs i arc within ∙ ap (λ (w : RadioArc). take i arcs ++ w ∷ []) (sym here) in
    let size : length (take i arcs) ≡ i = length-take-le i arcs (omega (arith, within)) in
    ap (λ (l : List (RadioArc × List QualityStep)). flat_map (quality_by lists router iface) l) (ap (λ (l : List RadioArc). with_steps l steps) front ∙ with_more (take i arcs) steps arc i size)
    ∙ flat_one_more (quality_by lists router iface) (with_steps (take i arcs) steps) (arc, steps_at steps i)

-- they are those of the senders
abbrev of_metric : Addr4 × Metric → Addr4
of_metric p = p.0

abbrev of_steps : Addr4 × List QualityStep → Addr4
of_steps p = p.0

one_sender : (metric : Metric) (steps : List QualityStep) (leads : Bool) (first : Option Addr4)
    → map of_steps (cond leads (with_quality steps first) []) ≡ map of_metric (cond leads (with_metric metric first) [])
one_sender metric steps leads first = grind (arith, common_steps)

arc_sender : (lists : AddressLists) (router iface : ℕ) (arc : RadioArc) (steps : List QualityStep) → map of_steps (quality_by lists router iface (arc, steps)) ≡ map of_metric (sender_by lists router iface arc)
arc_sender lists router iface arc steps = one_sender arc.metric steps (nat_eq arc.to router && nat_eq arc.to_iface iface) (first_addr lists arc.from arc.from_iface)

addresses : (lists : AddressLists) (arcs : List RadioArc) (steps : List (List QualityStep)) (router iface : ℕ)
    → map of_steps (qualities_to lists (with_steps arcs steps) router iface) ≡ map of_metric (senders_to lists arcs router iface)
addresses lists [] steps router iface = refl
addresses lists (arc ∷ arcs) [] router iface =
    map-append of_steps (quality_by lists router iface (arc, [])) (qualities_to lists (with_steps arcs []) router iface)
    ∙ (rw (arc_sender lists router iface arc [], addresses lists arcs [] router iface) refl
    ∙ sym (map-append of_metric (sender_by lists router iface arc) (senders_to lists arcs router iface)))
addresses lists (arc ∷ arcs) (one ∷ steps) router iface =
    map-append of_steps (quality_by lists router iface (arc, one)) (qualities_to lists (with_steps arcs steps) router iface)
    ∙ (rw (arc_sender lists router iface arc one, addresses lists arcs steps router iface) refl
    ∙ sym (map-append of_metric (sender_by lists router iface arc) (senders_to lists arcs router iface)))

pub senders_same : (lists : AddressLists) (arcs : List RadioArc) (steps : List (List QualityStep)) (router iface : ℕ) (senders : List SenderMetric) (qualities : List SenderQuality)
    → map sender_pair senders ≡ senders_to lists arcs router iface → map quality_pair qualities ≡ qualities_to lists (with_steps arcs steps) router iface
    → map (λ q. q.sender) qualities ≡ map (λ s. s.sender) senders
senders_same lists arcs steps router iface senders qualities met also =
    sym (map-map of_steps quality_pair qualities) ∙ (ap (map of_steps) also ∙ (addresses lists arcs steps router iface ∙ (ap (map of_metric) (sym met) ∙ map-map of_metric sender_pair senders)))

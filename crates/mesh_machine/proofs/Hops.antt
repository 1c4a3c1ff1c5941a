-- A message that is forwarded has a hop left.
use Rattle.mesh_machine.proofs.Common.{common_steps, ◌≡◌, ◌≢◌, ◌<◌, ℕ, List, [], ◌∷◌, ◌++◌, length, Option, Some, None, Bool, false, cond, not, refl, sym, ap, ◌∙◌, arith, append_assoc, slice_index, leb-false, or_parts as neither, get_or-append_seam, Addr4, FloodKey, Noted, Received, Forwarded, Base, MessageFields, SpellsMessage, SpellsOctet, HasHop, Heading, Forward, key_of, if_noted, if_linked, is_last, is_far, has_no_hops, forward_by, IsHeading}
use Rattle.mesh_atoms.specs.Reading.{has}
use Rattle.mesh_flood.specs.declared.verdict.Forward.TheVariants as forward

abbrev forward_when : Bool → Option Bool → Bool → Option (Noted × ℕ) → Bool → Option (Noted × ℕ) → Bool → Forward
forward_when own link far seen full_received stands full_forwarded =
    cond own forward.Own (if_linked link (λ selector. cond far forward.NoHops (if_noted seen (λ until. forward.Seen until)
    (cond full_received (forward.Full Received) (if_noted stands (λ until. forward.Done until)
    (cond (not selector) forward.NotSelector (cond full_forwarded (forward.Full Forwarded) forward.Do)))))))

does : (own : Bool) (link : Option Bool) (far : Bool) (seen : Option (Noted × ℕ)) (full : Bool) (stands : Option (Noted × ℕ)) (full' : Bool)
    → forward_when own link far seen full stands full' ≡ forward.Do → far ≡ false
does own link far seen full stands full' h = grind (arith, common_steps)

above_one : (o : Option ℕ) → is_last o ≡ false → (limit : ℕ) × (o ≡ Some limit) × (1 < limit)
above_one None h = absurd cc
above_one (Some limit) h = (limit, refl, let l = leb-false limit 1 h in omega (arith, l))

octet_text : (set : Bool) (x : Option ℕ) (text : List ℕ) (n : ℕ) → SpellsOctet set x text → x ≡ Some n → text ≡ n ∷ []
octet_text set x text n h is = grind (arith, common_steps)

glued : (kind flags c : ℕ) (size originator limit sequence rest : List ℕ)
    → kind ∷ (flags ∷ (size ++ ((originator ++ (limit ++ ((c ∷ []) ++ sequence))) ++ rest))) ≡ (kind ∷ (flags ∷ (size ++ (originator ++ limit)))) ++ (c ∷ (sequence ++ rest))
glued kind flags c size originator limit sequence rest = simp append_assoc

-- a hop count is an octet
count_octet : (message : MessageFields) (s : List ℕ) → SpellsMessage message s → ((i : ℕ) → slice_index s i < 256) → (count : ℕ) → message.count ≡ Some count → count < 256
count_octet message s h bytes count is =
    let body = h.body_is in
    let head = body.head_is in
    let tail : List ℕ = body.tlvs ++ body.blocks in
    let front : List ℕ = message.kind ∷ (h.flags ∷ (h.size ++ (head.originator_text ++ head.limit_text))) in
    let text : head.count_text ≡ count ∷ [] = octet_text (has h.flags 32) message.count head.count_text count head.count_is is in
    let whole : s ≡ front ++ (count ∷ (head.sequence_text ++ tail)) =
    h.whole
    ∙ ap (λ (l : List ℕ). message.kind ∷ (h.flags ∷ (h.size ++ l))) (body.whole ∙ ap (λ (l : List ℕ). l ++ tail) (head.whole ∙ ap (λ (l : List ℕ). head.originator_text ++ (head.limit_text ++ (l ++ head.sequence_text))) text))
    ∙ glued message.kind h.flags count h.size head.originator_text head.limit_text head.sequence_text tail in
    let here : slice_index s (length front) ≡ count = rw whole (get_or-append_seam front count (head.sequence_text ++ tail) 0) in
    let below = bytes (length front) in
    omega (arith, here, below)

not_far : (o : Option ℕ) (n : ℕ) → is_far o ≡ false → o ≡ Some n → n ≢ 255
not_far o n far is = grind (arith, common_steps)

-- what is forwarded has hops left
hops_left : (own : Addr4) (heading : Heading) (link : Option Bool) (received forwarded : Base FloodKey Noted) → forward_by own heading link received forwarded ≡ forward.Do → has_no_hops heading ≡ false
hops_left own heading link received forwarded forwards = grind (arith, common_steps, does, key_of)

-- so it has a hop limit above 1
pub limit_left : (own : Addr4) (heading : Heading) (link : Option Bool) (received forwarded : Base FloodKey Noted) → forward_by own heading link received forwarded ≡ forward.Do → (limit : ℕ) × (heading.limit ≡ Some limit) × (1 < limit)
limit_left own heading link received forwarded forwards =
    above_one heading.limit (neither (is_last heading.limit) (is_far heading.count) (hops_left own heading link received forwarded forwards)).0

-- a message that is forwarded has a hop left
pub forwarded_hop : (message : MessageFields) (s : List ℕ) (heading : Heading) (own : Addr4) (link : Option Bool) (received forwarded : Base FloodKey Noted) → SpellsMessage message s → ((i : ℕ) → slice_index s i < 256) → IsHeading message heading →
    forward_by own heading link received forwarded ≡ forward.Do → HasHop message
forwarded_hop message s heading own link received forwarded spells bytes is forwards =
    let (last, far) = neither (is_last heading.limit) (is_far heading.count) (hops_left own heading link received forwarded forwards) in
    let (limit, limit_is, above) = above_one heading.limit last in
    record {
      limit = limit;
      limit_is = sym is.limit ∙ limit_is;
      above = above;
      count = λ count at.
          let below = count_octet message s spells bytes count at in
          let other = not_far heading.count count far (is.count ∙ at) in
          omega (arith, below, other);
    }

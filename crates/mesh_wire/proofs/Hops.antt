-- A message's octets one hop further spell the message one hop further.
use Rattle.mesh_wire.proofs.Common.{common_steps, ◌≡◌, ◌≢◌, ℕ, zero, suc, ◌+◌, ◌-◌, ◌<◌, Bool, true, false, List, [], ◌∷◌, ◌++◌, length, map, Option, Some, None, refl, sym, ap, subst, ◌∙◌, arith, append_assoc, IsTrue, slice_get, slice_index, slice_set, length-append, option_map, length-map, get_or-append_seam, set-append_seam, has, MessageFields, SpellsMessage, SpellsOctet, HasHop, IsElsewhere, CanHop, one_hop_on, limit_place, count_place, flags_of, has_count, hopped_at, hopped}
use Rattle.mesh_atoms.specs.Grammar.{SpellsShort}
use Rattle.mesh_atoms.proofs.Reading.{two_long}
use Rattle.mesh_packet.specs.Grammar.{width_of}
use Rattle.mesh_packet.proofs.Fields.{originator_field}

-- An octet that may be there

octet_changed : (set : Bool) (x : Option ℕ) (text : List ℕ) (f : ℕ → ℕ) → SpellsOctet set x text → SpellsOctet set (option_map f x) (map f text)
octet_changed set x text f h = grind (arith, common_steps)

octet_there : (set : Bool) (x : Option ℕ) (text : List ℕ) → SpellsOctet set x text → set ≡ true → (n : ℕ) × (x ≡ Some n) × (text ≡ n ∷ [])
octet_there true (Some n) text h is = (n, refl, h)
octet_there true None text h is = absurd h
octet_there false x text h is = absurd cc

octet_flagged : (set : Bool) (x : Option ℕ) (text : List ℕ) (n : ℕ) → SpellsOctet set x text → x ≡ Some n → set ≡ true
octet_flagged set x text n h is = grind (arith, common_steps)

-- A number in the midst of a list

at_seam : (front rest s : List ℕ) (x p : ℕ) → s ≡ front ++ (x ∷ rest) → p ≡ length front → slice_index s p ≡ x
at_seam front rest s x p whole is = rw (whole, is) (get_or-append_seam front x rest 0)

set_seam : (front rest s : List ℕ) (x p y : ℕ) → s ≡ front ++ (x ∷ rest) → p ≡ length front → slice_set s p y ≡ front ++ (y ∷ rest)
set_seam front rest s x p y whole is = rw (whole, is) (set-append_seam front x rest y)

moved : (front rest : List ℕ) (x : ℕ) → front ++ (x ∷ rest) ≡ (front ++ (x ∷ [])) ++ rest
moved front rest x = sym (append_assoc front (x ∷ []) rest)

-- the number at the seam one lower
lowered : (front rest s : List ℕ) (l p : ℕ) → s ≡ front ++ (l ∷ rest) → p ≡ length front → slice_set s p (slice_index s p - 1) ≡ front ++ ((l - 1) ∷ rest)
lowered front rest s l p whole is = rw (at_seam front rest s l p whole is) (set_seam front rest s l p (l - 1) whole is)

-- and the one behind it one higher
both : (front rest s : List ℕ) (l c p : ℕ) → s ≡ front ++ (l ∷ (c ∷ rest)) → p ≡ length front → hopped_at p true s ≡ front ++ ((l - 1) ∷ ((c + 1) ∷ rest))
both front rest s l c p whole is =
    let low : List ℕ = slice_set s p (slice_index s p - 1) in
    let low_is : low ≡ front ++ ((l - 1) ∷ (c ∷ rest)) = lowered front (c ∷ rest) s l p whole is in
    let next : p + 1 ≡ length (front ++ (l ∷ [])) = omega (arith, is, length-append front (l ∷ [])) in
    let next' : p + 1 ≡ length (front ++ ((l - 1) ∷ [])) = omega (arith, is, length-append front ((l - 1) ∷ [])) in
    let count : slice_index s (p + 1) ≡ c = at_seam (front ++ (l ∷ [])) rest s c (p + 1) (whole ∙ moved front (c ∷ rest) l) next in
    ap (λ (n : ℕ). slice_set low (p + 1) (n + 1)) count
    ∙ set_seam (front ++ ((l - 1) ∷ [])) rest low c (p + 1) (c + 1) (low_is ∙ moved front (c ∷ rest) (l - 1)) next'
    ∙ sym (moved front ((c + 1) ∷ rest) (l - 1))

hopped_is : (front rest s limit count : List ℕ) (l p : ℕ) (set : Bool) (x : Option ℕ) → s ≡ front ++ (limit ++ (count ++ rest)) → limit ≡ l ∷ [] → SpellsOctet set x count → p ≡ length front
    → hopped_at p set s ≡ front ++ (map (λ n. n - 1) limit ++ (map (λ n. n + 1) count ++ rest))
hopped_is front rest s limit count l p true (Some c) whole limit_is count_is is = let w = rw (limit_is, count_is) at whole in rw (limit_is, count_is) (both front rest s l c p w is)
hopped_is front rest s limit count l p true None whole limit_is count_is is = absurd count_is
hopped_is front rest s limit count l p false None whole limit_is count_is is = let w = rw (limit_is, count_is) at whole in rw (limit_is, count_is) (lowered front rest s l p w is)
hopped_is front rest s limit count l p false (Some c) whole limit_is count_is is = absurd count_is

-- How a message lies

glued : (kind flags : ℕ) (size originator limit count sequence rest : List ℕ)
    → kind ∷ (flags ∷ (size ++ ((originator ++ (limit ++ (count ++ sequence))) ++ rest))) ≡ (kind ∷ (flags ∷ (size ++ originator))) ++ (limit ++ (count ++ (sequence ++ rest)))
glued kind flags size originator limit count sequence rest = simp append_assoc

-- a message: what stands before the hop limit, the hop limit, a hop count, and what stands behind
record Lies (message : MessageFields) (s : List ℕ) : Type 0 where
  flags : ℕ
  front : List ℕ
  limit : List ℕ
  count : List ℕ
  rest : List ℕ
  flags_is : flags_of s ≡ flags
  limit_is : SpellsOctet (has flags 64) message.limit limit
  count_is : SpellsOctet (has flags 32) message.count count
  place : limit_place flags ≡ length front
  whole : s ≡ front ++ (limit ++ (count ++ rest))

lies : (message : MessageFields) (s : List ℕ) → SpellsMessage message s → Lies message s
lies message s h =
    let body = h.body_is in
    let head = body.head_is in
    let tail : List ℕ = body.tlvs ++ body.blocks in
    record {
      flags = h.flags;
      front = message.kind ∷ (h.flags ∷ (h.size ++ head.originator_text));
      limit = head.limit_text;
      count = head.count_text;
      rest = head.sequence_text ++ tail;
      flags_is = ap (λ (l : List ℕ). slice_index l 1) h.whole;
      limit_is = head.limit_is;
      count_is = head.count_is;
      place = omega (
        arith,
        length-append h.size head.originator_text,
        two_long (4 + length h.body) h.size h.size_is,
        (originator_field (has h.flags 128) (width_of h.flags)).long message.originator head.originator_text head.originator_is,
      );
      whole =
          h.whole
          ∙ ap (λ (l : List ℕ). message.kind ∷ (h.flags ∷ (h.size ++ l))) (body.whole ∙ ap (λ (l : List ℕ). l ++ tail) head.whole)
          ∙ glued message.kind h.flags h.size head.originator_text head.limit_text head.count_text head.sequence_text tail;
    }

-- A message that has a hop left

pub can_hop : (message : MessageFields) (s : List ℕ) → SpellsMessage message s → HasHop message → CanHop (flags_of s) s
can_hop message s h hop =
    let l = lies message s h in
    let flagged = octet_flagged (has l.flags 64) message.limit l.limit hop.limit l.limit_is hop.limit_is in
    let (n, is, text) = octet_there (has l.flags 64) message.limit l.limit l.limit_is flagged in
    let same : n ≡ hop.limit = let both : Some n ≡ Some hop.limit = sym is ∙ hop.limit_is in cc in
    let whole : s ≡ l.front ++ (n ∷ (l.count ++ l.rest)) = l.whole ∙ ap (λ (x : List ℕ). l.front ++ (x ++ (l.count ++ l.rest))) text in
    let long : length s ≡ length l.front + length (n ∷ (l.count ++ l.rest)) = ap length whole ∙ length-append l.front (n ∷ (l.count ++ l.rest)) in
    let place = l.place in
    let limit : slice_index s (limit_place l.flags) ≡ n = at_seam l.front (l.count ++ l.rest) s n (limit_place l.flags) whole place in
    let next : limit_place l.flags + 1 ≡ length (l.front ++ (n ∷ [])) = omega (arith, place, length-append l.front (n ∷ [])) in
    let counted : has l.flags 32 ≡ true → (count_place l.flags < length s) × (slice_index s (count_place l.flags) < 255) =
    λ set.
    let (c, count_is, count_text) = octet_there (has l.flags 32) message.count l.count l.count_is set in
    let behind : s ≡ (l.front ++ (n ∷ [])) ++ (c ∷ l.rest) = whole ∙ ap (λ (x : List ℕ). l.front ++ (n ∷ (x ++ l.rest))) count_text ∙ moved l.front (c ∷ l.rest) n in
    let count : slice_index s (count_place l.flags) ≡ c = at_seam (l.front ++ (n ∷ [])) l.rest s c (count_place l.flags) behind next in
    let below = hop.count c count_is in
    let longer : length s ≡ length (l.front ++ (n ∷ [])) + length (c ∷ l.rest) = ap length behind ∙ length-append (l.front ++ (n ∷ [])) (c ∷ l.rest) in
    (omega (arith, longer, next), omega (arith, count, below))
    in
    subst (λ (f : ℕ). CanHop f s) (sym l.flags_is) (record {
      flagged = flagged;
      limit_there = omega (arith, long, place);
      limit_above = let above = hop.above in omega (arith, limit, same, above);
      count_there = λ set. (counted set).0;
      count_below = λ set. (counted set).1;
    })

-- its octets one hop further
pub hop_spells : (message : MessageFields) (s : List ℕ) → SpellsMessage message s → has (flags_of s) 64 ≡ true → SpellsMessage (one_hop_on message) (hopped s)
unfolding lies
hop_spells message s h flagged =
    let body = h.body_is in
    let head = body.head_is in
    let l = lies message s h in
    let set : has l.flags 64 ≡ true = ap (λ (f : ℕ). has f 64) (sym l.flags_is) ∙ flagged in
    let there = octet_there (has l.flags 64) message.limit l.limit l.limit_is set in
    let limit : List ℕ = map (λ n. n - 1) head.limit_text in
    let count : List ℕ = map (λ n. n + 1) head.count_text in
    let new_head : List ℕ = head.originator_text ++ (limit ++ (count ++ head.sequence_text)) in
    let tail : List ℕ = body.tlvs ++ body.blocks in
    let long : length h.body ≡ length (new_head ++ tail) = omega (
      arith,
      ap length body.whole,
      ap length head.whole,
      length-append body.head tail,
      length-append new_head tail,
      length-append head.originator_text (head.limit_text ++ (head.count_text ++ head.sequence_text)),
      length-append head.limit_text (head.count_text ++ head.sequence_text),
      length-append head.count_text head.sequence_text,
      length-append head.originator_text (limit ++ (count ++ head.sequence_text)),
      length-append limit (count ++ head.sequence_text),
      length-append count head.sequence_text,
      length-map head.limit_text (λ n. n - 1),
      length-map head.count_text (λ n. n + 1),
    ) in
    record {
      flags = h.flags;
      size = h.size;
      body = new_head ++ tail;
      size_is = subst (λ (n : ℕ). SpellsShort (4 + n) h.size) long h.size_is;
      body_is = record {
        head = new_head;
        tlvs = body.tlvs;
        blocks = body.blocks;
        width_is = body.width_is;
        head_is = record {
          originator_text = head.originator_text;
          limit_text = limit;
          count_text = count;
          sequence_text = head.sequence_text;
          originator_is = head.originator_is;
          limit_is = octet_changed (has h.flags 64) message.limit head.limit_text (λ n. n - 1) head.limit_is;
          count_is = octet_changed (has h.flags 32) message.count head.count_text (λ n. n + 1) head.count_is;
          sequence_is = head.sequence_is;
          whole = refl;
        };
        tlvs_is = body.tlvs_is;
        blocks_is = body.blocks_is;
        whole = refl;
      };
      whole =
          ap (λ (f : ℕ). hopped_at (limit_place f) (has f 32) s) l.flags_is
          ∙ hopped_is l.front l.rest s head.limit_text head.count_text there.0 (limit_place l.flags) (has l.flags 32) message.count l.whole there.2 l.count_is l.place
          ∙ sym (glued message.kind h.flags h.size head.originator_text limit count head.sequence_text tail);
    }

-- Octet by octet

get-set_other : {X : Type 0} (xs : List X) (i k : ℕ) (y : X) → k ≢ i → slice_get (slice_set xs i y) k ≡ slice_get xs k
get-set_other [] i k y apart = refl
get-set_other (x ∷ xs) zero zero y apart = absurd (apart refl)
get-set_other (x ∷ xs) zero (suc k) y apart = refl
get-set_other (x ∷ xs) (suc i) zero y apart = refl
get-set_other (x ∷ xs) (suc i) (suc k) y apart = get-set_other xs i k y (λ e. apart (ap suc e))

limit_at : (s : List ℕ) (p : ℕ) (counted : Bool) → p < length s → 1 < slice_index s p → slice_index (hopped_at p counted s) p + 1 ≡ slice_index s p
limit_at s p counted there above = grind (arith, common_steps)

pub limit_after : (s : List ℕ) → CanHop (flags_of s) s → slice_index (hopped s) (limit_place (flags_of s)) + 1 ≡ slice_index s (limit_place (flags_of s))
limit_after s can = limit_at s (limit_place (flags_of s)) (has_count s) can.limit_there can.limit_above

count_at : (s : List ℕ) (p : ℕ) (counted : Bool) → counted ≡ true → p + 1 < length s → slice_index (hopped_at p counted s) (p + 1) ≡ slice_index s (p + 1) + 1
count_at s p counted set there = grind (arith, common_steps)

pub count_after : (s : List ℕ) → CanHop (flags_of s) s → IsTrue (has_count s) → slice_index (hopped s) (count_place (flags_of s)) ≡ slice_index s (count_place (flags_of s)) + 1
count_after s can set = count_at s (limit_place (flags_of s)) (has_count s) set (can.count_there set)

other_at : (s : List ℕ) (p k : ℕ) (counted : Bool) → k ≢ p → (counted ≡ true → k ≢ p + 1) → slice_get (hopped_at p counted s) k ≡ slice_get s k
other_at s p k counted no_limit no_count = grind (arith, common_steps, get-set_other)

pub others_after : (s : List ℕ) (k : ℕ) → IsElsewhere s k → slice_get (hopped s) k ≡ slice_get s k
others_after s k elsewhere = other_at s (limit_place (flags_of s)) k (has_count s) elsewhere.no_limit elsewhere.no_count

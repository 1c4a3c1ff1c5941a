-- Messages: read, spelled and refused as their parts are.
use Rattle.mesh_packet.proofs.Common.{common_steps, ◌≡◌, ℕ, ◌+◌, ◌-◌, ◌<◌, ◌≤◌, ltb, ◌||◌, true, Bool, List, [], ◌∷◌, ◌++◌, length, Ok, refl, sym, ap, subst, ◌∙◌, arith, append_assoc, inl, inr, ◌⊎◌, MatchResult, slice_range, length-append, ltb-false, ltb-true, le-ltb, lt-ltb, or_cases as either, or_parts as neither, MatchResult-weaker, Refusal, SpellsShort, refuse, octet_at, short_at, meets_bind, meets_if, Takes, takes_both, takes_range, Stands, stands_first, stands_next, behind, front_is, range_length, octet_takes, octet_again, octet_cut, short_takes, short_again, short_cut, two_long, FirstFaultAt, IsReader, Took, MessageFields, SpellsMessage, SpellsBody, MessageFault, BodyFault, flags_cut, size_cut, size_wrong, in_body, body_at, message_at}
use Rattle.mesh_packet.proofs.Bodies.{BodyTook, body_takes, body_again, body_fault}

or_is : (a b : Bool) → (a ≡ true) ⊎ (b ≡ true) → a || b ≡ true
or_is a b h = grind (arith, common_steps)

message_takes : (s : List ℕ) (at end : ℕ) → at < end → end ≤ length s → MatchResult (message_at s at end) (Took s at end SpellsMessage) (FirstFaultAt MessageFault s at end)
unfolding message_at
message_takes s at end lt fits =
    let P = Took s at end SpellsMessage in
    let Q = FirstFaultAt MessageFault s at end in
    meets_bind (octet_at 1 s at end) _ (λ x. Takes s at (x.0 ∷ []) x.1 end) P (λ e. (e ≡ record { place = at; reason = 1 }) × (slice_range s at end ≡ [])) Q (octet_takes 1 s at end fits)
    (λ e h. absurd (omega (arith, ap length h.1, range_length s at end fits)))
    (λ kind t0.
    meets_bind (octet_at 1 s kind.1 end) _ (λ x. Takes s kind.1 (x.0 ∷ []) x.1 end) P (λ e. (e ≡ record { place = kind.1; reason = 1 }) × (slice_range s kind.1 end ≡ [])) Q (octet_takes 1 s kind.1 end fits)
    (λ e h. (1, ap (λ (r : Refusal). r.place) h.0 ∙ t0.len, subst (λ (n : ℕ). MessageFault (slice_range s at end) 1 n) (sym (ap (λ (r : Refusal). r.reason) h.0)) (flags_cut kind.0 (t0.parts ∙ ap (λ (l : List ℕ). kind.0 ∷ l) h.1))))
    (λ flags t1.
    let two : flags.1 ≡ at + 2 = omega (arith, t0.len, t1.len) in
    let begun : slice_range s at end ≡ kind.0 ∷ (flags.0 ∷ slice_range s flags.1 end) = t0.parts ∙ ap (λ (l : List ℕ). kind.0 ∷ l) t1.parts in
    meets_bind (short_at 1 s flags.1 end) _ _ P _ Q (short_takes 1 s flags.1 end fits)
    (λ e h. (2, ap (λ (r : Refusal). r.place) h.0 ∙ two, subst (λ (n : ℕ). MessageFault (slice_range s at end) 2 n) (sym (ap (λ (r : Refusal). r.reason) h.0)) (size_cut kind.0 flags.0 (slice_range s flags.1 end) begun h.1)))
    (λ size t2.
    let rest : List ℕ = slice_range s size.1 end in
    let sized : slice_range s at end ≡ kind.0 ∷ (flags.0 ∷ (t2.0 ++ rest)) = begun ∙ ap (λ (l : List ℕ). kind.0 ∷ (flags.0 ∷ l)) t2.2.parts in
    let four : size.1 ≡ at + 4 = omega (arith, two, t2.2.len, two_long size.0 t2.0 t2.1) in
    let left : 4 + length rest ≡ end - at = omega (arith, range_length s size.1 end fits, four, t2.2.within) in
    meets_if (ltb size.0 4 || ltb (end - at) size.0) _ _ P Q
    (λ p. (2, two, size_wrong kind.0 flags.0 size.0 t2.0 rest t2.1 sized (wrong size.0 (end - at) (4 + length rest) left (either (ltb size.0 4) (ltb (end - at) size.0) p))))
    (λ p.
    let right = neither (ltb size.0 4) (ltb (end - at) size.0) p in
    let least : 4 ≤ size.0 = ltb-false _ _ right.0 in
    let most : size.0 ≤ end - at = ltb-false _ _ right.1 in
    let stop : ℕ = at + size.0 in
    let body : List ℕ = slice_range s size.1 stop in
    let long : length body ≡ stop - size.1 = range_length s size.1 stop (omega (arith, most, lt, fits)) in
    let number : SpellsShort (4 + length body) t2.0 = subst (λ (n : ℕ). SpellsShort n t2.0) (omega (arith, long, four, least)) t2.1 in
    let upto : size.1 + (stop - size.1) ≡ stop = omega (arith, four, least) in
    let taken : Takes s size.1 body stop end = subst (λ (k : ℕ). Takes s size.1 (slice_range s size.1 k) k end) upto (takes_range s size.1 (stop - size.1) end (omega (arith, upto, most, lt)) fits) in
    let whole : Takes s at (kind.0 ∷ (flags.0 ∷ (t2.0 ++ body))) stop end =
    takes_both s at (kind.0 ∷ []) kind.1 (flags.0 ∷ (t2.0 ++ body)) stop end t0 (takes_both s kind.1 (flags.0 ∷ []) flags.1 (t2.0 ++ body) stop end t1 (takes_both s flags.1 t2.0 size.1 body stop end t2.2 taken)) in
    MatchResult-weaker (body_at kind.0 flags.0 s size.1 stop) {P = BodyTook kind.0 flags.0 s size.1 stop} {P' = P} {Q = FirstFaultAt (BodyFault flags.0) s size.1 stop} {Q' = Q} (body_takes kind.0 flags.0 s size.1 stop (omega (arith, four, least)) (omega (arith, most, lt, fits)))
    (λ x u. (
      kind.0 ∷ (flags.0 ∷ (t2.0 ++ body)),
      record {
        flags = flags.0;
        size = t2.0;
        body = body;
        size_is = number;
        body_is = u.1;
        whole = ap (λ (k : ℕ). k ∷ (flags.0 ∷ (t2.0 ++ body))) (sym u.2);
      },
      subst (λ (k : ℕ). Takes s at (kind.0 ∷ (flags.0 ∷ (t2.0 ++ body))) k end) (sym u.0) whole,
    ))
    (λ e h. (4 + h.0, omega (arith, h.1, four), in_body kind.0 flags.0 t2.0 body (slice_range s stop end) h.0 e.reason number (sized ∙ ap (λ (l : List ℕ). kind.0 ∷ (flags.0 ∷ (t2.0 ++ l))) taken.parts) h.2)))))) where
      wrong : (n all most : ℕ) → most ≡ all → (ltb n 4 ≡ true) ⊎ (ltb all n ≡ true) → (n < 4) ⊎ (most < n)
      wrong n all most e (inl h) = inl (ltb-true _ _ h)
      wrong n all most e (inr h) = inr (omega (arith, ltb-true _ _ h, e))

-- a message's type, flags and size are read, and what follows them is read up to the message's end
up_to_body : (s : List ℕ) (at end kind flags n : ℕ) (size more : List ℕ) → SpellsShort n size → Stands s at (kind ∷ (flags ∷ size)) more end → 4 ≤ n → n ≤ 4 + length more → message_at s at end ≡ body_at kind flags s (at + 4) (at + n)
unfolding message_at
up_to_body s at end kind flags n size more number stands least most =
    let s1 = stands_next s at (kind ∷ []) (flags ∷ size) more end stands in
    let s2 = stands_next s (at + 1) (flags ∷ []) size more end s1 in
    let two : length size ≡ 2 = two_long n size number in
    let last = behind s at (kind ∷ (flags ∷ size)) more end stands in
    let sum1 : at + 1 + 1 ≡ at + 2 = omega arith in
    let sum2 : at + 2 + 2 ≡ at + 4 = omega arith in
    let size_at : slice_range s (at + 1 + 1) end ≡ size ++ more = s2.parts in
    rw (
      octet_again 1 s at end kind ((flags ∷ size) ++ more) stands.fits stands.parts,
      octet_again 1 s (at + 1) end flags (size ++ more) stands.fits s1.parts,
      short_again 1 s (at + 1 + 1) end n size more stands.fits number size_at,
      le-ltb n 4 least,
      le-ltb (end - at) n (omega (arith, last.1, two, most)),
      sum1,
      sum2,
    ) refl

message_again : (s : List ℕ) (at end : ℕ) (x : MessageFields) (bytes rest : List ℕ) → at ≤ end → end ≤ length s → SpellsMessage x bytes → slice_range s at end ≡ bytes ++ rest → message_at s at end ≡ Ok (x, at + length bytes)
message_again s at end x bytes rest le fits h e =
    let front : List ℕ = x.kind ∷ (h.flags ∷ h.size) in
    let stands : Stands s at (front ++ h.body) rest end = record { parts = e ∙ ap (λ (l : List ℕ). l ++ rest) h.whole; at_end = le; fits = fits } in
    let first = stands_first s at front h.body rest end stands in
    let next = stands_next s at front h.body rest end stands in
    let two : length h.size ≡ 2 = two_long (4 + length h.body) h.size h.size_is in
    let spot : at + length front ≡ at + 4 = omega (arith, two) in
    let last = behind s (at + length front) h.body rest end next in
    let stop : at + length front + length h.body ≡ at + (4 + length h.body) = omega (arith, two) in
    let body : slice_range s (at + 4) (at + (4 + length h.body)) ≡ h.body = subst (λ (k : ℕ). slice_range s k (at + (4 + length h.body)) ≡ h.body) spot (subst (λ (k : ℕ). slice_range s (at + length front) k ≡ h.body) stop (front_is s (at + length front) h.body rest end next)) in
    let whole : at + (4 + length h.body) ≡ at + length bytes = omega (arith, ap length h.whole, length-append h.size h.body, two) in
    up_to_body s at end x.kind h.flags (4 + length h.body) h.size (h.body ++ rest) h.size_is first (omega arith) (omega (arith, length-append h.body rest))
    ∙ body_again x.kind h.flags s (at + 4) (at + (4 + length h.body)) x (omega arith) (omega (arith, last.1, stop, fits)) refl (subst (λ (l : List ℕ). SpellsBody h.flags x l) (sym body) h.body_is)
    ∙ ap (λ (k : ℕ). Ok (x, k)) whole

message_fault : (s : List ℕ) (at end distance reason : ℕ) → at ≤ end → end ≤ length s → MessageFault (slice_range s at end) distance reason → message_at s at end ≡ refuse (at + distance) reason
unfolding message_at
message_fault s at end distance reason le fits (flags_cut kind e) =
    let stands : Stands s at (kind ∷ []) [] end = record { parts = e; at_end = le; fits = fits } in
    let next = behind s at (kind ∷ []) [] end stands in
    rw (octet_again 1 s at end kind [] fits e, octet_cut 1 s (at + 1) end fits next.0) refl
message_fault s at end distance reason le fits (size_cut kind flags rest e cut) =
    let s0 : Stands s at (kind ∷ (flags ∷ [])) rest end = record { parts = e; at_end = le; fits = fits } in
    let s1 = stands_next s at (kind ∷ []) (flags ∷ []) rest end s0 in
    let next = behind s (at + 1) (flags ∷ []) rest end s1 in
    let sum : at + 1 + 1 ≡ at + 2 = omega arith in
    rw (octet_again 1 s at end kind (flags ∷ rest) fits e, octet_again 1 s (at + 1) end flags rest fits s1.parts, short_cut 1 s (at + 1 + 1) end fits (subst (λ (l : List ℕ). length l < 2) (sym next.0) cut)) (ap (λ (k : ℕ). refuse {A = MessageFields × ℕ} k 1) sum)
message_fault s at end distance reason le fits (size_wrong kind flags n size rest number e wrong) =
    let s0 : Stands s at (kind ∷ (flags ∷ size)) rest end = record { parts = e; at_end = le; fits = fits } in
    let s1 = stands_next s at (kind ∷ []) (flags ∷ size) rest end s0 in
    let s2 = stands_next s (at + 1) (flags ∷ []) size rest end s1 in
    let two : length size ≡ 2 = two_long n size number in
    let last = behind s at (kind ∷ (flags ∷ size)) rest end s0 in
    let sum : at + 1 + 1 ≡ at + 2 = omega arith in
    rw (
      octet_again 1 s at end kind ((flags ∷ size) ++ rest) fits e,
      octet_again 1 s (at + 1) end flags (size ++ rest) fits s1.parts,
      short_again 1 s (at + 1 + 1) end n size rest fits number s2.parts,
      or_is (ltb n 4) (ltb (end - at) n) (told n (end - at) (4 + length rest) (omega (arith, last.1, two)) wrong),
    ) (ap (λ (k : ℕ). refuse {A = MessageFields × ℕ} k 3) sum) where
      told : (n all most : ℕ) → most ≡ all → (n < 4) ⊎ (most < n) → (ltb n 4 ≡ true) ⊎ (ltb all n ≡ true)
      told n all most e (inl h) = inl (lt-ltb n 4 h)
      told n all most e (inr h) = inr (lt-ltb all n (omega (arith, h, e)))
message_fault s at end distance reason le fits (in_body kind flags size body rest place why number e f) =
    let front : List ℕ = kind ∷ (flags ∷ size) in
    let n : ℕ = 4 + length body in
    let stands : Stands s at (front ++ body) rest end = record { parts = e ∙ ap (λ (l : List ℕ). kind ∷ (flags ∷ l)) (sym (append_assoc size body rest)); at_end = le; fits = fits } in
    let first = stands_first s at front body rest end stands in
    let next = stands_next s at front body rest end stands in
    let two : length size ≡ 2 = two_long n size number in
    let spot : at + length front ≡ at + 4 = omega (arith, two) in
    let last = behind s (at + length front) body rest end next in
    let stop : at + length front + length body ≡ at + n = omega (arith, two) in
    let there : slice_range s (at + 4) (at + n) ≡ body = subst (λ (k : ℕ). slice_range s k (at + n) ≡ body) spot (subst (λ (k : ℕ). slice_range s (at + length front) k ≡ body) stop (front_is s (at + length front) body rest end next)) in
    let sum : at + 4 + place ≡ at + (4 + place) = omega arith in
    up_to_body s at end kind flags n size (body ++ rest) number first (omega arith) (omega (arith, length-append body rest))
    ∙ body_fault kind flags s (at + 4) (at + n) place why (omega arith) (omega (arith, last.1, stop, fits)) (subst (λ (l : List ℕ). BodyFault flags l place why) (sym there) f)
    ∙ ap (λ (k : ℕ). refuse {A = MessageFields × ℕ} k why) sum

pub message_reader : IsReader message_at SpellsMessage MessageFault
message_reader = record { takes = message_takes; again = message_again; fault_again = message_fault; some = λ x bytes h. omega (arith, ap length h.whole) }

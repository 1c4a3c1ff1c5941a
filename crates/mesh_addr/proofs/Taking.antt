-- What is read is spelled so, and what is refused has its first fault there.
use Rattle.mesh_addr.proofs.Common.{◌≡◌, ℕ, zero, suc, ◌+◌, ◌-◌, ◌*◌, ◌<◌, ◌≤◌, Bool, true, false, eqb, ltb, List, [], ◌∷◌, ◌++◌, length, Option, Some, None, refl, sym, ap, subst, ◌∙◌, arith, inl, inr, ◌⊎◌, slice_range, MatchResult, replicate, ◌&&◌, common_steps, ltb-false, ltb-true, eqb-true, eqb-false, or_cases as or_true, or_parts as or_false, length-replicate, suc-mul, MatchResult-weaker, Refusal, has, octet_at, piece_at, meets_bind, meets_if, range_length, Takes, takes_none, takes_both, Faulty, octet_takes, piece_takes, RawAddr, SpellsHead, SpellsTail, SpellsMids, SpellsPrefixes, AreAll, AreAtMost, prefixes, SpellsBlock, CountedFault, ZerosFault, PrefixFault, BeginsBlock, Shaped, BlockFault, prefix_count, ShapeFields, mid_of, clashes, count_at, flags_at, number_at, counted_at, head_at, tail_at, parts_end, prefix_at, common_at, own_at, addrs_at, block_at}
use Rattle.mesh_addr.proofs.Padding.{split_at}
use Rattle.mesh_addr.specs.Grammar as fault
use Rattle.mesh_addr.proofs.Loops.{next_part}

-- what a reader took, and what that is
abbrev Took : {A : Type 0} → List ℕ → ℕ → ℕ → (A → List ℕ → Type 0) → A × ℕ → Type 0
Took s at end Says x = (text : List ℕ) × Says x.0 text × Takes s at text x.1 end

abbrev IsNumber : ℕ → ℕ → List ℕ → Type 0
IsNumber room n text = (n ≤ room) × (text ≡ n ∷ [])

number_takes : (s : List ℕ) (at end room : ℕ) → end ≤ length s → MatchResult (number_at s at end room) (Took s at end (IsNumber room)) (Faulty at (λ place reason. (place ≡ 0) × ZerosFault room (slice_range s at end) reason))
unfolding number_at
number_takes s at end room fits =
    let P = Took s at end (IsNumber room) in
    let Q = Faulty at (λ place reason. (place ≡ 0) × ZerosFault room (slice_range s at end) reason) in
    let zero_place : at ≡ at + 0 = omega arith in
    meets_bind (octet_at 1 s at end) _ _ P _ Q (octet_takes 1 s at end fits)
    (λ e h. (0, 1, (refl, fault.ZerosFault.no_number h.1), h.0 ∙ ap (λ (n : ℕ). record { place = n; reason = 1 }) zero_place))
    (λ x t. meets_if (ltb room x.0) _ _ P Q
    (λ p. (0, 10, (refl, fault.ZerosFault.number_above x.0 (slice_range s x.1 end) t.parts (ltb-true _ _ p)), ap (λ (n : ℕ). record { place = n; reason = 10 }) zero_place))
    (λ p. (x.0 ∷ [], (ltb-false _ _ p, refl), t)))

abbrev IsCounted : ℕ → List ℕ → List ℕ → Type 0
IsCounted room piece text = (length piece ≤ room) × (text ≡ length piece ∷ piece)

abbrev IsPiece : List ℕ → ℕ → ℕ → ℕ → List ℕ × ℕ → Type 0
IsPiece s at end len x = (length x.0 ≡ len) × Takes s at x.0 x.1 end

abbrev IsShort : List ℕ → ℕ → ℕ → ℕ → Refusal → Type 0
IsShort s at end len e = (e ≡ record { place = at; reason = 1 }) × (length (slice_range s at end) < len)

abbrev NumberAt : List ℕ → ℕ → ℕ → ℕ → Refusal → Type 0
NumberAt s at end room e = Faulty at (λ place reason. (place ≡ 0) × ZerosFault room (slice_range s at end) reason) e

abbrev CountedAt : List ℕ → ℕ → ℕ → ℕ → Refusal → Type 0
CountedAt s at end room e = Faulty at (CountedFault room (slice_range s at end)) e

counted_takes : (s : List ℕ) (at end room : ℕ) → end ≤ length s → MatchResult (counted_at s at end room) (Took s at end (IsCounted room)) (CountedAt s at end room)
unfolding counted_at
counted_takes s at end room fits =
    let P = Took s at end (IsCounted room) in
    let Q = CountedAt s at end room in
    meets_bind (number_at s at end room) _ (Took s at end (IsNumber room)) P (NumberAt s at end room) Q (number_takes s at end room fits) counted_fault
    (λ len t.
    let begins : slice_range s at end ≡ len.0 ∷ slice_range s len.1 end = rw t.1.1 at t.2.parts in
    let place : len.1 ≡ at + 1 = t.2.len ∙ ap (λ (l : List ℕ). at + length l) t.1.1 in
    MatchResult-weaker (piece_at 1 s len.1 end len.0) {P = IsPiece s len.1 end len.0} {P' = P} {Q = IsShort s len.1 end len.0} {Q' = Q} (piece_takes 1 s len.1 end len.0 t.2.within fits)
    (λ x k. (t.0 ++ x.0, (omega (arith, k.0, t.1.0), ap (λ (l : List ℕ). l ++ x.0) t.1.1 ∙ ap (λ (n : ℕ). n ∷ x.0) (sym k.0)), takes_both s at t.0 len.1 x.0 x.1 end t.2 k.1))
    (λ e h. (1, 1, fault.CountedFault.cut len.0 (slice_range s len.1 end) begins t.1.0 h.1, h.0 ∙ ap (λ (n : ℕ). record { place = n; reason = 1 }) place)))
  where
    counted_fault : (e : Refusal) → NumberAt s at end room e → CountedAt s at end room e
    counted_fault e (place, reason, (z, fault.ZerosFault.no_number h), is) = (0, 1, fault.CountedFault.no_number h, is ∙ ap (λ (n : ℕ). record { place = at + n; reason = 1 }) z)
    counted_fault e (place, reason, (z, fault.ZerosFault.number_above n rest h lt), is) = (0, 10, fault.CountedFault.number_above n rest h lt, is ∙ ap (λ (n : ℕ). record { place = at + n; reason = 10 }) z)

abbrev IsHead : Bool → ℕ → List ℕ → List ℕ → Type 0
IsHead flag width head text = (length head ≤ width) × SpellsHead flag head text

head_takes : (s : List ℕ) (flags at end width : ℕ) → at ≤ end → end ≤ length s → MatchResult (head_at s flags at end width) (Took s at end (IsHead (has flags 128) width)) (λ e. (has flags 128 ≡ true) × CountedAt s at end width e)
unfolding head_at
head_takes s flags at end width le fits =
    let P = Took s at end (IsHead (has flags 128) width) in
    let Q = λ (e : Refusal). (has flags 128 ≡ true) × CountedAt s at end width e in
    meets_if (has flags 128) _ _ P Q
    (λ p. MatchResult-weaker (counted_at s at end width) {P = Took s at end (IsCounted width)} {P' = P} {Q = CountedAt s at end width} {Q' = Q} (counted_takes s at end width fits) (λ x t. (t.0, (t.1.0, rw p t.1.1), t.2)) (λ e h. (p, h)))
    (λ p. ([], (omega arith, rw p (refl, refl)), takes_none s at end le))

abbrev IsTail : Bool → Bool → ℕ → List ℕ → List ℕ → Type 0
IsTail full zeros room tail text = (length tail ≤ room) × SpellsTail full zeros tail text

abbrev TailFault : List ℕ → ℕ → ℕ → ℕ → ℕ → Refusal → Type 0
TailFault s flags at end room e = ((has flags 64 ≡ true) × CountedAt s at end room e) ⊎ ((has flags 32 ≡ true) × NumberAt s at end room e)

tail_takes : (s : List ℕ) (flags at end room : ℕ) → at ≤ end → end ≤ length s → has flags 64 && has flags 32 ≡ false → MatchResult (tail_at s flags at end room) (Took s at end (IsTail (has flags 64) (has flags 32) room)) (TailFault s flags at end room)
unfolding tail_at
tail_takes s flags at end room le fits apart =
    let P = Took s at end (IsTail (has flags 64) (has flags 32) room) in
    let Q = TailFault s flags at end room in
    meets_if (has flags 64) _ _ P Q
    (λ p. let no : has flags 32 ≡ false = rw p at apart in
    MatchResult-weaker (counted_at s at end room) {P = Took s at end (IsCounted room)} {P' = P} {Q = CountedAt s at end room} {Q' = Q} (counted_takes s at end room fits) (λ x t. (t.0, (t.1.0, rw (p, no) t.1.1), t.2)) (λ e h. inl (p, h)))
    (λ p. meets_if (has flags 32) _ _ P Q
    (λ q. meets_bind (number_at s at end room) _ (Took s at end (IsNumber room)) P (NumberAt s at end room) Q (number_takes s at end room fits) (λ e h. inr (q, h))
    (λ len t. let long : length (replicate len.0 0) ≡ len.0 = length-replicate {A = ℕ} len.0 0 in
    (t.0, (rw long t.1.0, rw (p, q, long) (refl, t.1.1)), t.2)))
    (λ q. ([], (omega arith, rw (p, q) (refl, refl)), takes_none s at end le)))

abbrev ArePassed : ℕ → ℕ → ℕ → ℕ → ℕ → Type 0
ArePassed n at end size after = (after ≡ at + n * size) × (after ≤ end)

abbrev PartCut : ℕ → ℕ → ℕ → ℕ → Refusal → Type 0
PartCut n at end size e = (i : ℕ) × (i < n) × (at + i * size ≤ end) × (end < at + (i + 1) * size) × (e ≡ record { place = at + i * size; reason = 1 })

parts_take : (n at end size : ℕ) → at ≤ end → MatchResult (parts_end n at end size) (ArePassed n at end size) (PartCut n at end size)
unfolding parts_end
parts_take zero at end size le = (omega arith, le)
parts_take (suc n) at end size le =
    let P = ArePassed (suc n) at end size in
    let Q = PartCut (suc n) at end size in
    meets_if (ltb (end - at) size) _ _ P Q
    (λ p. let lt : end - at < size = ltb-true _ _ p in
    let here : at ≡ at + 0 * size = omega arith in
    (0, omega arith, omega arith, omega arith, ap (λ (m : ℕ). record { place = m; reason = 1 }) here))
    (λ p. let fit : size ≤ end - at = ltb-false _ _ p in
    MatchResult-weaker (parts_end n (at + size) end size) {P = ArePassed n (at + size) end size} {P' = P} {Q = PartCut n (at + size) end size} {Q' = Q} (parts_take n (at + size) end size (omega arith))
    (λ after h. let one : suc n * size ≡ n * size + size = suc-mul n size in (omega (arith, h.0), h.1))
    (λ e h. let one : suc h.0 * size ≡ h.0 * size + size = suc-mul h.0 size in
    let two = next_part h.0 size in
    let three : (suc h.0 + 1) * size ≡ suc h.0 * size + size = next_part (suc h.0) size in
    let place : at + size + h.0 * size ≡ at + suc h.0 * size = omega arith in
    (suc h.0, omega (arith, h.1), omega (arith, h.2), omega (arith, h.3), h.4 ∙ ap (λ (m : ℕ). record { place = m; reason = 1 }) place)))

abbrev OnePrefixFault : ℕ → List ℕ → ℕ → ℕ → Refusal → Type 0
OnePrefixFault width s at end e = Faulty at (λ place reason. (place ≡ 0) × PrefixFault (8 * width) (slice_range s at end) 0 reason) e

abbrev IsPrefix : ℕ → ℕ → List ℕ → Type 0
IsPrefix width p text = (p ≤ 8 * width) × (text ≡ p ∷ [])

prefix_takes : (s : List ℕ) (at end width : ℕ) → end ≤ length s → MatchResult (prefix_at s at end width) (Took s at end (IsPrefix width)) (OnePrefixFault width s at end)
unfolding prefix_at
prefix_takes s at end width fits =
    let P = Took s at end (IsPrefix width) in
    let Q = OnePrefixFault width s at end in
    let here : at ≡ at + 0 = omega arith in
    meets_bind (octet_at 1 s at end) _ (λ x. Takes s at (x.0 ∷ []) x.1 end) P (λ e. (e ≡ record { place = at; reason = 1 }) × (slice_range s at end ≡ [])) Q (octet_takes 1 s at end fits)
    (λ e h. (0, 1, (refl, subst (λ (l : List ℕ). PrefixFault (8 * width) l 0 1) (sym h.1) (fault.PrefixFault.no_prefix tt)), h.0 ∙ ap (λ (m : ℕ). record { place = m; reason = 1 }) here))
    (λ x t. meets_if (ltb (8 * width) x.0) _ _ P Q
    (λ p. (0, 11, (refl, fault.PrefixFault.prefix_above [] x.0 (slice_range s x.1 end) t.parts tt (ltb-true _ _ p)), ap (λ (m : ℕ). record { place = m; reason = 11 }) here))
    (λ p. (x.0 ∷ [], (ltb-false _ _ p, refl), t)))

-- the one prefix length of all, as far as one is written or none is
abbrev IsCommon : Bool → Bool → ℕ → Option ℕ → List ℕ → Type 0
IsCommon one each width (Some p) text = ((one ≡ true) × (each ≡ false) × (p ≤ 8 * width) × (text ≡ p ∷ [])) ⊎ ((one ≡ false) × (each ≡ false) × (p ≡ 8 * width) × (text ≡ []))
IsCommon one each width None text = (one ≡ false) × (each ≡ true) × (text ≡ [])

common_takes : (s : List ℕ) (flags at end width : ℕ) → at ≤ end → end ≤ length s → has flags 16 && has flags 8 ≡ false → MatchResult (common_at s flags at end width) (Took s at end (IsCommon (has flags 16) (has flags 8) width)) (λ e. (has flags 16 ≡ true) × OnePrefixFault width s at end e)
unfolding common_at
common_takes s flags at end width le fits apart =
    let P = Took s at end (IsCommon (has flags 16) (has flags 8) width) in
    let Q = λ (e : Refusal). (has flags 16 ≡ true) × OnePrefixFault width s at end e in
    meets_if (has flags 16) _ _ P Q
    (λ p. let no : has flags 8 ≡ false = rw p at apart in
    meets_bind (prefix_at s at end width) _ (Took s at end (IsPrefix width)) P (OnePrefixFault width s at end) Q (prefix_takes s at end width fits) (λ e h. (p, h)) (λ x t. (t.0, inl (p, no, t.1.0, t.1.1), t.2)))
    (λ p. meets_if (has flags 8) _ _ P Q
    (λ q. ([], (p, q, refl), takes_none s at end le))
    (λ q. ([], inr (p, q, refl, refl), takes_none s at end le)))

-- the next prefix length of an address
abbrev IsOwn : Option ℕ → ℕ → ℕ → List ℕ → Type 0
IsOwn (Some p) most q text = (q ≡ p) × (text ≡ [])
IsOwn None most q text = (q ≤ most) × (text ≡ q ∷ [])

-- those of all addresses
abbrev AreOwn : Option ℕ → ℕ → List ℕ → List ℕ → Type 0
AreOwn (Some p) most qs text = AreAll p qs × (text ≡ [])
AreOwn None most qs text = AreAtMost most qs × (text ≡ qs)

own_takes : (s : List ℕ) (o : Option ℕ) (at end width : ℕ) → at ≤ end → end ≤ length s → MatchResult (own_at s o at end width) (Took s at end (IsOwn o (8 * width))) (λ e. (o ≡ None) × OnePrefixFault width s at end e)
own_takes s (Some p) at end width le fits = ([], (refl, refl), takes_none s at end le)
own_takes s None at end width le fits = MatchResult-weaker (prefix_at s at end width) {P = Took s at end (IsPrefix width)} {P' = Took s at end (IsOwn None (8 * width))} {Q = OnePrefixFault width s at end} {Q' = λ e. (◌≡◌ {A = Option ℕ} None None) × OnePrefixFault width s at end e} (prefix_takes s at end width fits) (λ x t. t) (λ e h. (refl, h))

own_none : (o : Option ℕ) (most : ℕ) → AreOwn o most [] []
own_none o most = grind (arith, common_steps)

own_more : (o : Option ℕ) (most q : ℕ) (qs text more : List ℕ) → IsOwn o most q text → AreOwn o most qs more → AreOwn o most (q ∷ qs) (text ++ more)
own_more o most q qs text more h k = grind (arith, common_steps)

prefix_behind : (most q k reason : ℕ) (rest : List ℕ) → q ≤ most → PrefixFault most rest k reason → PrefixFault most (q ∷ rest) (suc k) reason
prefix_behind most q k reason rest le (fault.PrefixFault.no_prefix h) = fault.PrefixFault.no_prefix (le, h)
prefix_behind most q k reason rest le (fault.PrefixFault.prefix_above before p more h a lt) = fault.PrefixFault.prefix_above (q ∷ before) p more (ap (λ (l : List ℕ). q ∷ l) h) (le, a) lt

abbrev AreAddrs : List ℕ → ShapeFields → ℕ → ℕ → ℕ → ℕ → List RawAddr × ℕ → Type 0
AreAddrs s shape n mid at end x = (length x.0 ≡ n) × SpellsMids shape.head shape.tail (mid_of shape) x.0 (slice_range s mid (mid + n * mid_of shape)) × Took s at end (λ addrs text. AreOwn shape.prefix (8 * shape.width) (prefixes addrs) text) x

abbrev AddrFault : List ℕ → ShapeFields → ℕ → ℕ → ℕ → Refusal → Type 0
AddrFault s shape n at end e = (shape.prefix ≡ None) × Faulty at (λ k reason. (k < n) × PrefixFault (8 * shape.width) (slice_range s at end) k reason) e

addrs_take : (n : ℕ) (s : List ℕ) (shape : ShapeFields) (mid at end : ℕ) → at ≤ end → end ≤ length s → mid + n * mid_of shape ≤ end → MatchResult (addrs_at n s shape mid at end) (AreAddrs s shape n mid at end) (AddrFault s shape n at end)
unfolding addrs_at
addrs_take zero s shape mid at end le fits room = grind (arith, common_steps, own_none, takes_none)
addrs_take (suc n) s shape mid at end le fits room =
    let size : ℕ = mid_of shape in
    let most : ℕ = 8 * shape.width in
    let P = AreAddrs s shape (suc n) mid at end in
    let Q = AddrFault s shape (suc n) at end in
    let more : suc n * size ≡ n * size + size = suc-mul n size in
    let later : mid + size + n * size ≡ mid + suc n * size = omega arith in
    meets_bind (own_at s shape.prefix at end shape.width) _ (Took s at end (IsOwn shape.prefix most)) P (λ e. (shape.prefix ≡ None) × OnePrefixFault shape.width s at end e) Q (own_takes s shape.prefix at end shape.width le fits)
    (λ e h. (h.0, (0, h.1.1, (omega arith, h.1.2.1), h.1.3 ∙ ap (λ (m : ℕ). record { place = at + m; reason = h.1.1 }) h.1.2.0)))
    (λ x t.
    meets_bind (addrs_at n s shape (mid + size) x.1 end) _ (AreAddrs s shape n (mid + size) x.1 end) P (AddrFault s shape n x.1 end) Q (addrs_take n s shape (mid + size) x.1 end t.2.within fits (omega arith))
    (λ e h.
    let own : (x.0 ≤ most) × (t.0 ≡ x.0 ∷ []) = subst (λ (o : Option ℕ). IsOwn o most x.0 t.0) h.0 t.1 in
    let here : slice_range s at end ≡ x.0 ∷ slice_range s x.1 end = rw own.1 at t.2.parts in
    let k : ℕ = h.1.0 in
    let reason : ℕ = h.1.1 in
    let place : x.1 + k ≡ at + suc k = omega (arith, t.2.len, ap length own.1) in
    (h.0, (suc k, reason, (omega (arith, h.1.2.0), subst (λ (l : List ℕ). PrefixFault most l (suc k) reason) (sym here) (prefix_behind most x.0 k reason (slice_range s x.1 end) own.0 h.1.2.1)), h.1.3 ∙ ap (λ (m : ℕ). record { place = m; reason = reason }) place)))
    (λ y k. (
      ap suc k.0,
      (slice_range s mid (mid + size), slice_range s (mid + size) (mid + size + n * size), range_length s mid (mid + size) (omega arith) ∙ omega arith, refl, k.1, rw (← later) (split_at s mid (mid + size) (mid + size + n * size) (omega arith) (omega arith) (omega arith))),
      (t.0 ++ k.2.0, own_more shape.prefix most x.0 (prefixes y.0) t.0 k.2.0 t.1 k.2.1, takes_both s at t.0 x.1 k.2.0 y.1 end t.2 k.2.2),
    )))

prefixes_spelled : (one each : Bool) (width : ℕ) (o : Option ℕ) (ps text more : List ℕ) → IsCommon one each width o text → AreOwn o (8 * width) ps more → SpellsPrefixes one each (8 * width) ps (text ++ more)
prefixes_spelled one each width o ps text more h7 k = grind (arith, common_steps)

abbrev pub IsFault : ℕ → List ℕ → ℕ → ℕ → Refusal → Type 0
IsFault width s at end e = Faulty at (BlockFault width (slice_range s at end)) e

abbrev pub IsBlock : ℕ → List ℕ → ℕ → ℕ → List RawAddr × ℕ → Type 0
IsBlock width s at end x = (text : List ℕ) × SpellsBlock width x.0 text × Takes s at text x.1 end

abbrev IsCount : List ℕ → ℕ → ℕ → ℕ × ℕ → Type 0
IsCount s at end x = (0 < x.0) × Takes s at (x.0 ∷ []) x.1 end

count_takes : (width : ℕ) (s : List ℕ) (at end : ℕ) → end ≤ length s → MatchResult (count_at s at end) (IsCount s at end) (IsFault width s at end)
unfolding count_at
count_takes width s at end fits =
    let Q = IsFault width s at end in
    let here : at ≡ at + 0 = omega arith in
    meets_bind (octet_at 1 s at end) _ (λ x. Takes s at (x.0 ∷ []) x.1 end) (IsCount s at end) (λ e. (e ≡ record { place = at; reason = 1 }) × (slice_range s at end ≡ [])) Q (octet_takes 1 s at end fits)
    (λ e h. (0, 1, fault.BlockFault.no_count h.1, h.0 ∙ ap (λ (m : ℕ). record { place = m; reason = 1 }) here))
    (λ x t. meets_if (eqb x.0 0) _ _ (IsCount s at end) Q
    (λ p. let z : x.0 ≡ 0 = eqb-true _ _ p in (0, 8, fault.BlockFault.no_addresses (slice_range s x.1 end) (t.parts ∙ ap (λ (n : ℕ). n ∷ slice_range s x.1 end) z), ap (λ (m : ℕ). record { place = m; reason = 8 }) here))
    (λ p. let z : x.0 ≡ 0 → ⊥ = eqb-false _ _ p in (omega (arith, z), t)))

abbrev AreFlags : List ℕ → ℕ → ℕ → ℕ × ℕ → Type 0
AreFlags s at end x = (has x.0 64 && has x.0 32 ≡ false) × (has x.0 16 && has x.0 8 ≡ false) × Takes s at (x.0 ∷ []) x.1 end

flags_take : (width : ℕ) (s : List ℕ) (at end count after : ℕ) → end ≤ length s → 0 < count → Takes s at (count ∷ []) after end → MatchResult (flags_at s after end) (AreFlags s after end) (IsFault width s at end)
unfolding flags_at
flags_take width s at end count after fits some t0 =
    let P = AreFlags s after end in
    let Q = IsFault width s at end in
    meets_bind (octet_at 1 s after end) _ (λ x. Takes s after (x.0 ∷ []) x.1 end) P (λ e. (e ≡ record { place = after; reason = 1 }) × (slice_range s after end ≡ [])) Q (octet_takes 1 s after end fits)
    (λ e h. (1, 1, fault.BlockFault.no_flags count (t0.parts ∙ ap (λ (l : List ℕ). count ∷ l) h.1) some, h.0 ∙ ap (λ (m : ℕ). record { place = m; reason = 1 }) t0.len))
    (λ x t.
    let begins : slice_range s at end ≡ count ∷ (x.0 ∷ slice_range s x.1 end) = t0.parts ∙ ap (λ (l : List ℕ). count ∷ l) t.parts in
    meets_if (clashes x.0) _ _ P Q
    (λ p. clash x.0 (slice_range s x.1 end) begins (or_true (has x.0 64 && has x.0 32) (has x.0 16 && has x.0 8) p))
    (λ p. let no = or_false (has x.0 64 && has x.0 32) (has x.0 16 && has x.0 8) p in (no.0, no.1, t))) where
      clash : (flags : ℕ) (rest : List ℕ) → slice_range s at end ≡ count ∷ (flags ∷ rest) → (has flags 64 && has flags 32 ≡ true) ⊎ (has flags 16 && has flags 8 ≡ true) → IsFault width s at end (record { place = after; reason = 9 })
      clash flags rest begins (inl h) = (1, 9, fault.BlockFault.two_tails count flags rest begins some h, ap (λ (m : ℕ). record { place = m; reason = 9 }) t0.len)
      clash flags rest begins (inr h) = (1, 9, fault.BlockFault.two_prefixes count flags rest begins some h, ap (λ (m : ℕ). record { place = m; reason = 9 }) t0.len)

-- a fault of a part, as one of the block
moved : (width : ℕ) (s : List ℕ) (at end after k place reason : ℕ) (e : Refusal) → BlockFault width (slice_range s at end) k reason → e ≡ record { place = after + place; reason = reason } → after + place ≡ at + k → IsFault width s at end e
moved width s at end after k place reason e f is e' = (k, reason, f, is ∙ ap (λ (m : ℕ). record { place = m; reason = reason }) e')

pub block_takes : (width : ℕ) (s : List ℕ) (at end : ℕ) → end ≤ length s → MatchResult (block_at s at end width) (IsBlock width s at end) (IsFault width s at end)
unfolding block_at
block_takes width s at end fits =
    let P = IsBlock width s at end in
    let Q = IsFault width s at end in
    let most : ℕ = 8 * width in
    meets_bind (count_at s at end) _ (IsCount s at end) P Q Q (count_takes width s at end fits) (λ e h. h) (λ n t0.
    meets_bind (flags_at s n.1 end) _ (AreFlags s n.1 end) P Q Q (flags_take width s at end n.0 n.1 fits t0.0 t0.1) (λ e h. h) (λ f t1.
    let begins : slice_range s at end ≡ n.0 ∷ (f.0 ∷ slice_range s f.1 end) = t0.1.parts ∙ ap (λ (l : List ℕ). n.0 ∷ l) t1.2.parts in
    let two : f.1 ≡ at + 2 = omega (arith, t0.1.len, t1.2.len) in
    let Head = IsHead (has f.0 128) width in
    meets_bind (head_at s f.0 f.1 end width) _ (Took s f.1 end Head) P (λ e. (has f.0 128 ≡ true) × CountedAt s f.1 end width e) Q (head_takes s f.0 f.1 end width t1.2.within fits)
    (λ e h. moved width s at end f.1 (2 + h.1.0) h.1.0 h.1.1 e (fault.BlockFault.head n.0 f.0 h.1.0 h.1.1 (slice_range s f.1 end) (record { some = t0.0; tails = t1.0; prefixes = t1.1; parts = begins }) h.0 h.1.2) h.1.3 (omega arith))
    (λ head t2.
    let begun : BeginsBlock (slice_range s at end) n.0 f.0 (t2.0 ++ slice_range s head.1 end) = record { some = t0.0; tails = t1.0; prefixes = t1.1; parts = begins ∙ ap (λ (l : List ℕ). n.0 ∷ (f.0 ∷ l)) t2.2.parts } in
    let room : ℕ = width - length head.0 in
    let Tail = IsTail (has f.0 64) (has f.0 32) room in
    meets_bind (tail_at s f.0 head.1 end room) _ (Took s head.1 end Tail) P (TailFault s f.0 head.1 end room) Q (tail_takes s f.0 head.1 end room t2.2.within fits t1.0)
    (λ e h. tail_fault n.0 f.0 head.0 t2.0 f.1 head.1 two t2.2.len begun t2.1.0 t2.1.1 e h)
    (λ tail t3.
    let size : ℕ = width - (length head.0 + length tail.0) in
    let text : List ℕ = t2.0 ++ t3.0 in
    let both = takes_both s f.1 t2.0 head.1 t3.0 tail.1 end t2.2 t3.2 in
    let shaped : (rest : List ℕ) → slice_range s tail.1 end ≡ rest → Shaped width (slice_range s at end) n.0 f.0 head.0 tail.0 text rest = λ rest is. record {
      head_text = t2.0;
      tail_text = t3.0;
      begins = record { some = t0.0; tails = t1.0; prefixes = t1.1; parts = begins ∙ ap (λ (l : List ℕ). n.0 ∷ (f.0 ∷ l)) (both.parts ∙ ap (λ (l : List ℕ). text ++ l) is) };
      fits = omega (arith, t2.1.0, t3.1.0);
      head_is = t2.1.1;
      tail_is = t3.1.1;
      parts = refl;
    } in
    meets_bind (parts_end n.0 tail.1 end size) _ (ArePassed n.0 tail.1 end size) P (PartCut n.0 tail.1 end size) Q (parts_take n.0 tail.1 end size t3.2.within)
    (λ e h. moved width s at end tail.1 (2 + length text + h.0 * size) (h.0 * size) 1 e (fault.BlockFault.middle n.0 f.0 h.0 head.0 tail.0 text (slice_range s tail.1 end) (shaped (slice_range s tail.1 end) refl) h.1 (omega (arith, h.2, range_length s tail.1 end fits)) (omega (arith, h.3, range_length s tail.1 end fits))) h.4 (omega (arith, both.len)))
    (λ after t4.
    let mids : List ℕ = slice_range s tail.1 after in
    let split : slice_range s tail.1 end ≡ mids ++ slice_range s after end = split_at s tail.1 after end (omega (arith, t4.0)) t4.1 fits in
    let long : length mids ≡ n.0 * size = range_length s tail.1 after (omega (arith, t4.1)) ∙ omega (arith, t4.0) in
    let Common = IsCommon (has f.0 16) (has f.0 8) width in
    meets_bind (common_at s f.0 after end width) _ (Took s after end Common) P (λ e. (has f.0 16 ≡ true) × OnePrefixFault width s after end e) Q (common_takes s f.0 after end width t4.1 fits t1.1)
    (λ e h. let pos : 0 < prefix_count f.0 n.0 = rw h.0 (omega arith) in
    moved width s at end after (2 + length text + length mids + 0) h.1.0 h.1.1 e (fault.BlockFault.prefix n.0 f.0 0 h.1.1 head.0 tail.0 text mids (slice_range s after end) (shaped (mids ++ slice_range s after end) split) long pos h.1.2.1) h.1.3 (omega (arith, both.len, long, t4.0, h.1.2.0)))
    (λ common t5.
    let shape : ShapeFields = record { width = width; head = head.0; tail = tail.0; prefix = common.0 } in
    MatchResult-weaker (addrs_at n.0 s shape tail.1 common.1 end) {P = AreAddrs s shape n.0 tail.1 common.1 end} {P' = P} {Q = AddrFault s shape n.0 common.1 end} {Q' = Q} (addrs_take n.0 s shape tail.1 common.1 end t5.2.within fits (omega (arith, t4.0, t4.1)))
    (λ y t6.
    let prefix_text : List ℕ = t5.0 ++ t6.2.0 in
    let k5 = takes_both s after t5.0 common.1 t6.2.0 y.1 end t5.2 t6.2.2 in
    let k4 = takes_both s tail.1 mids after prefix_text y.1 end (record { parts = split; within = t4.1; len = omega (arith, long, t4.0) }) k5 in
    let k3 = takes_both s head.1 t3.0 tail.1 (mids ++ prefix_text) y.1 end t3.2 k4 in
    let k2 = takes_both s f.1 t2.0 head.1 (t3.0 ++ (mids ++ prefix_text)) y.1 end t2.2 k3 in
    let k1 = takes_both s n.1 (f.0 ∷ []) f.1 (t2.0 ++ (t3.0 ++ (mids ++ prefix_text))) y.1 end t1.2 k2 in
    let k0 = takes_both s at (n.0 ∷ []) n.1 (f.0 ∷ (t2.0 ++ (t3.0 ++ (mids ++ prefix_text)))) y.1 end t0.1 k1 in (
      n.0 ∷ (f.0 ∷ (t2.0 ++ (t3.0 ++ (mids ++ prefix_text)))),
      record {
        flags = f.0;
        head = head.0;
        tail = tail.0;
        head_text = t2.0;
        tail_text = t3.0;
        mids_text = mids;
        prefixes_text = prefix_text;
        some = omega (arith, t0.0, t6.0);
        fits = omega (arith, t2.1.0, t3.1.0);
        head_is = t2.1.1;
        tail_is = t3.1.1;
        mids_is = subst (λ (m : ℕ). SpellsMids head.0 tail.0 size y.0 (slice_range s tail.1 m)) (sym t4.0) t6.1;
        prefixes_is = prefixes_spelled (has f.0 16) (has f.0 8) width common.0 (prefixes y.0) t5.0 t6.2.0 t5.1 t6.2.1;
        whole = ap (λ (m : ℕ). m ∷ (f.0 ∷ (t2.0 ++ (t3.0 ++ (mids ++ prefix_text))))) (sym t6.0);
      },
      k0,
    ))
    (λ e h.
    let each : (has f.0 16 ≡ false) × (has f.0 8 ≡ true) × (t5.0 ≡ []) = subst (λ (o : Option ℕ). IsCommon (has f.0 16) (has f.0 8) width o t5.0) h.0 t5.1 in
    let same : slice_range s after end ≡ slice_range s common.1 end = t5.2.parts ∙ ap (λ (l : List ℕ). l ++ slice_range s common.1 end) each.2 in
    let place : common.1 ≡ after = omega (arith, t5.2.len, ap length each.2) in
    let below : h.1.0 < prefix_count f.0 n.0 = rw (each.0, each.1) h.1.2.0 in
    moved width s at end common.1 (2 + length text + length mids + h.1.0) h.1.0 h.1.1 e (fault.BlockFault.prefix n.0 f.0 h.1.0 h.1.1 head.0 tail.0 text mids (slice_range s common.1 end) (shaped (mids ++ slice_range s common.1 end) (split ∙ ap (λ (l : List ℕ). mids ++ l) same)) long below h.1.2.1) h.1.3 (omega (arith, both.len, long, t4.0, place)))))))))
  where
    tail_fault : (n flags : ℕ) (head text : List ℕ) (start after : ℕ) → start ≡ at + 2 → after ≡ start + length text → BeginsBlock (slice_range s at end) n flags (text ++ slice_range s after end) → length head ≤ width → SpellsHead (has flags 128) head text → (e : Refusal) → TailFault s flags after end (width - length head) e → IsFault width s at end e
    tail_fault n flags head text start after two len begun le is e (inl h) = moved width s at end after (2 + length text + h.1.0) h.1.0 h.1.1 e (fault.BlockFault.full_tail n flags h.1.0 h.1.1 head text (slice_range s after end) begun le is h.0 h.1.2) h.1.3 (omega arith)
    tail_fault n flags head text start after two len begun le is e (inr h) = moved width s at end after (2 + length text) h.1.0 h.1.1 e (fault.BlockFault.zero_tail n flags h.1.1 head text (slice_range s after end) begun le is h.0 h.1.2.1) h.1.3 (omega (arith, h.1.2.0))

-- A first fault is the one that is refused.
use Rattle.mesh_addr.proofs.Common.{common_steps, ◌≡◌, ℕ, zero, suc, ◌+◌, ◌-◌, ◌*◌, ◌<◌, ◌≤◌, Bool, true, false, cond, List, [], ◌∷◌, ◌++◌, length, None, Ok, refl, sym, ap, subst, ◌∙◌, arith, length-append, slice_range, ◌&&◌, ◌||◌, le-ltb, lt-ltb, suc-mul, ◌>>=◌, refuse, has, Stands, behind, stands_first, stands_next, octet_again, octet_cut, piece_cut, CountedFault, ZerosFault, PrefixFault, BeginsBlock, Shaped, BlockFault, count_at, flags_at, number_at, counted_at, head_at, tail_at, parts_end, prefix_at, common_at, addrs_at, block_at}
use Rattle.mesh_addr.specs.Grammar as fault
use Rattle.mesh_addr.proofs.ReadAgain.{count_again, flags_again, number_again, head_again, tail_again, parts_again, prefix_again}
use Rattle.mesh_addr.proofs.Loops.{next_part}

moved : {A : Type 0} (place place' reason : ℕ) → place ≡ place' → refuse {A = A} place reason ≡ refuse place' reason
moved place place' reason e = ap (λ (n : ℕ). refuse n reason) e

module _ (s : List ℕ) (end : ℕ) (fits : end ≤ length s) where
  stands : (at : ℕ) (text rest : List ℕ) → at ≤ end → slice_range s at end ≡ text ++ rest → Stands s at text rest end
  stands at text rest le e = record { parts = e; at_end = le; fits = fits }

  zeros_fault : (at room reason : ℕ) → at ≤ end → ZerosFault room (slice_range s at end) reason → number_at s at end room ≡ refuse at reason
  unfolding number_at
  zeros_fault at room reason le (fault.ZerosFault.no_number e) = rw (octet_cut 1 s at end fits e) refl
  zeros_fault at room reason le (fault.ZerosFault.number_above n rest e lt) = rw (octet_again 1 s at end n rest fits (stands at (n ∷ []) rest le e).parts, lt-ltb room n lt) refl

  counted_fault : (at room place reason : ℕ) → at ≤ end → CountedFault room (slice_range s at end) place reason → counted_at s at end room ≡ refuse (at + place) reason
  unfolding counted_at
  counted_fault at room place reason le (fault.CountedFault.no_number e) = rw (zeros_fault at room 1 le (fault.ZerosFault.no_number e)) (moved at (at + 0) 1 (omega arith))
  counted_fault at room place reason le (fault.CountedFault.number_above n rest e lt) = rw (zeros_fault at room 10 le (fault.ZerosFault.number_above n rest e lt)) (moved at (at + 0) 10 (omega arith))
  counted_fault at room place reason le (fault.CountedFault.cut n rest e small short) =
      let one = stands at (n ∷ []) rest le e in
      let after : slice_range s (at + 1) end ≡ rest = (behind s at (n ∷ []) rest end one).0 in
      rw (number_again s at n room rest end one small, piece_cut 1 s (at + 1) end n fits (omega (arith, ap length after, short))) refl

  prefix_fault : (at width reason : ℕ) → at ≤ end → PrefixFault (8 * width) (slice_range s at end) 0 reason → prefix_at s at end width ≡ refuse at reason
  unfolding prefix_at
  prefix_fault at width reason le h = first_of (slice_range s at end) 0 reason refl refl h where
    first_of : (l : List ℕ) (k reason : ℕ) → slice_range s at end ≡ l → k ≡ 0 → PrefixFault (8 * width) l k reason → prefix_at s at end width ≡ refuse at reason
    first_of [] k reason e z (fault.PrefixFault.no_prefix h) = rw (octet_cut 1 s at end fits e) refl
    first_of (x ∷ l) k reason e z (fault.PrefixFault.no_prefix h) = absurd (omega (arith, z))
    first_of l k reason e z (fault.PrefixFault.prefix_above [] p rest is h lt) = rw (octet_again 1 s at end p rest fits (stands at (p ∷ []) rest le (e ∙ is)).parts, lt-ltb (8 * width) p lt) refl
    first_of l k reason e z (fault.PrefixFault.prefix_above (x ∷ before) p rest is h lt) = absurd (omega (arith, z))

  parts_fault : (i n at size : ℕ) → i < n → at + i * size ≤ end → end < at + (i + 1) * size → parts_end n at end size ≡ refuse (at + i * size) 1
  unfolding parts_end
  parts_fault i zero at size lt le short = absurd (omega arith)
  parts_fault zero (suc n) at size lt le short = rw (lt-ltb (end - at) size (omega arith)) (moved at (at + 0 * size) 1 (omega arith))
  parts_fault (suc i) (suc n) at size lt le short =
      let one : suc i * size ≡ i * size + size = suc-mul i size in
      let two : (suc i + 1) * size ≡ suc i * size + size = next_part (suc i) size in
      let three : (i + 1) * size ≡ i * size + size = next_part i size in
      rw (le-ltb (end - at) size (omega arith), parts_fault i n (at + size) size (omega arith) (omega arith) (omega arith)) (moved (at + size + i * size) (at + suc i * size) 1 (omega arith))

  addrs_fault : (n width mid at k reason : ℕ) (head tail : List ℕ) → at ≤ end → k < n → (l : List ℕ) → slice_range s at end ≡ l → PrefixFault (8 * width) l k reason → addrs_at n s (record { width = width; head = head; tail = tail; prefix = None }) mid at end ≡ refuse (at + k) reason
  unfolding addrs_at
  addrs_fault zero width mid at k reason head tail le lt l e h = absurd (omega arith)
  addrs_fault (suc n) width mid at k reason head tail le lt [] e (fault.PrefixFault.no_prefix h) = rw (prefix_fault at width 1 le (subst (λ (m : List ℕ). PrefixFault (8 * width) m 0 1) (sym e) (fault.PrefixFault.no_prefix tt))) (moved at (at + 0) 1 (omega arith))
  addrs_fault (suc n) width mid at k reason head tail le lt (x ∷ l) e (fault.PrefixFault.no_prefix h) =
      let one = stands at (x ∷ []) l le e in
      let b = behind s at (x ∷ []) l end one in
      rw (prefix_again s at x width l end one h.0, addrs_fault n width (mid + (width - (length head + length tail))) (at + 1) (length l) 1 head tail (omega (arith, b.1)) (omega arith) l b.0 (fault.PrefixFault.no_prefix h.1)) (moved (at + 1 + length l) (at + suc (length l)) 1 (omega arith))
  addrs_fault (suc n) width mid at k reason head tail le lt l e (fault.PrefixFault.prefix_above [] p rest is h above) = rw (prefix_fault at width 11 le (subst (λ (m : List ℕ). PrefixFault (8 * width) m 0 11) (sym (e ∙ is)) (fault.PrefixFault.prefix_above [] p rest refl tt above))) (moved at (at + 0) 11 (omega arith))
  addrs_fault (suc n) width mid at k reason head tail le lt l e (fault.PrefixFault.prefix_above (x ∷ before) p rest is h above) =
      let one = stands at (x ∷ []) (before ++ p ∷ rest) le (e ∙ is) in
      let b = behind s at (x ∷ []) (before ++ p ∷ rest) end one in
      rw (prefix_again s at x width (before ++ p ∷ rest) end one h.0, addrs_fault n width (mid + (width - (length head + length tail))) (at + 1) (length before) 11 head tail (omega (arith, b.1)) (omega arith) (before ++ p ∷ rest) b.0 (fault.PrefixFault.prefix_above before p rest refl h.1 above)) (moved (at + 1 + length before) (at + suc (length before)) 11 (omega arith))

  and_left : (a b : Bool) → a && b ≡ false → b ≡ true → a ≡ false
  and_left a b e is = grind (arith, common_steps)

  or_right : (a b : Bool) → b ≡ true → a || b ≡ true
  or_right a b e = grind (arith, common_steps)

  -- what is read of a block that begins so
  record Begun (at count flags : ℕ) (rest : List ℕ) : Type 0 where
    count_is : count_at s at end ≡ Ok (count, at + 1)
    flags_is : flags_at s (at + 1) end ≡ Ok (flags, at + 1 + 1)
    rest_is : slice_range s (at + 1 + 1) end ≡ rest
    within : at + 1 + 1 ≤ end

  begun : (at count flags : ℕ) (rest : List ℕ) → at ≤ end → BeginsBlock (slice_range s at end) count flags rest → Begun at count flags rest
  begun at count flags rest le h =
      let both = stands at (count ∷ (flags ∷ [])) rest le h.parts in
      let second : Stands s (at + 1) (flags ∷ []) rest end = stands_next s at (count ∷ []) (flags ∷ []) rest end both in
      let b = behind s (at + 1) (flags ∷ []) rest end second in
      record {
        count_is = count_again s at count (flags ∷ rest) end (stands at (count ∷ []) (flags ∷ rest) le h.parts) h.some;
        flags_is = flags_again s (at + 1) flags rest end second h.tails h.prefixes;
        rest_is = b.0;
        within = omega (arith, b.1);
      }

  -- and of one that has its head and tail
  record Formed (at width count flags : ℕ) (head tail text rest : List ℕ) : Type 0 where
    head_end : ℕ
    tail_end : ℕ
    begins : Begun at count flags (text ++ rest)
    head_is : head_at s flags (at + 1 + 1) end width ≡ Ok (head, head_end)
    tail_is : tail_at s flags head_end end (width - length head) ≡ Ok (tail, tail_end)
    rest_is : slice_range s tail_end end ≡ rest
    place : tail_end ≡ at + 2 + length text
    within : tail_end + length rest ≡ end

  formed : (at width count flags : ℕ) (head tail text rest : List ℕ) → at ≤ end → Shaped width (slice_range s at end) count flags head tail text rest → Formed at width count flags head tail text rest
  formed at width count flags head tail text rest le h =
      let start = begun at count flags (text ++ rest) le h.begins in
      let whole : slice_range s (at + 1 + 1) end ≡ (h.head_text ++ h.tail_text) ++ rest = start.rest_is ∙ ap (λ (l : List ℕ). l ++ rest) h.parts in
      let both = stands (at + 1 + 1) (h.head_text ++ h.tail_text) rest start.within whole in
      let first = stands_first s (at + 1 + 1) h.head_text h.tail_text rest end both in
      let second = stands_next s (at + 1 + 1) h.head_text h.tail_text rest end both in
      let b = behind s (at + 1 + 1 + length h.head_text) h.tail_text rest end second in
      record {
        head_end = at + 1 + 1 + length h.head_text;
        tail_end = at + 1 + 1 + length h.head_text + length h.tail_text;
        begins = start;
        head_is = head_again s flags (at + 1 + 1) width head h.head_text (h.tail_text ++ rest) end (has flags 128) refl h.head_is (omega (arith, h.fits)) first;
        tail_is = tail_again s flags (at + 1 + 1 + length h.head_text) (width - length head) tail h.tail_text rest end (has flags 64) (has flags 32) refl refl h.tail_is (omega (arith, h.fits)) second;
        rest_is = b.0;
        place = omega (arith, ap length h.parts, length-append h.head_text h.tail_text);
        within = b.1;
      }

  common_fault : (flags count width mid at place reason : ℕ) (head tail rest : List ℕ) (one each : Bool) → has flags 16 ≡ one → has flags 8 ≡ each → at ≤ end → slice_range s at end ≡ rest → place < cond one 1 (cond each count 0) → PrefixFault (8 * width) rest place reason
      → (common_at s flags at end width >>= λ common. addrs_at count s (record { width = width; head = head; tail = tail; prefix = common.0 }) mid common.1 end) ≡ refuse (at + place) reason
  unfolding common_at
  common_fault flags count width mid at place reason head tail rest true each is is' le e lt h =
      let z : place ≡ 0 = omega arith in
      let here : PrefixFault (8 * width) (slice_range s at end) 0 reason = rw e (subst (λ (n : ℕ). PrefixFault (8 * width) rest n reason) z h) in
      rw (is, prefix_fault at width reason le here) (moved at (at + place) reason (omega arith))
  common_fault flags count width mid at place reason head tail rest false true is is' le e lt h = rw (is, is') (addrs_fault count width mid at place reason head tail le lt rest e h)
  common_fault flags count width mid at place reason head tail rest false false is is' le e lt h = absurd (omega arith)

  pub block_fault : (width at place reason : ℕ) → at ≤ end → BlockFault width (slice_range s at end) place reason → block_at s at end width ≡ refuse (at + place) reason
  unfolding block_at count_at flags_at head_at tail_at
  block_fault width at place reason le (fault.BlockFault.no_count e) = rw (octet_cut 1 s at end fits e) (moved at (at + 0) 1 (omega arith))
  block_fault width at place reason le (fault.BlockFault.no_addresses rest e) = rw (octet_again 1 s at end 0 rest fits (stands at (0 ∷ []) rest le e).parts) (moved at (at + 0) 8 (omega arith))
  block_fault width at place reason le (fault.BlockFault.no_flags count e some) =
      let one = stands at (count ∷ []) [] le e in
      let b = behind s at (count ∷ []) [] end one in
      rw (count_again s at count [] end one some, octet_cut 1 s (at + 1) end fits b.0) refl
  block_fault width at place reason le (fault.BlockFault.two_tails count flags rest e some clash) =
      let both = stands at (count ∷ (flags ∷ [])) rest le e in
      rw (count_again s at count (flags ∷ rest) end (stands at (count ∷ []) (flags ∷ rest) le e) some, octet_again 1 s (at + 1) end flags rest fits (stands_next s at (count ∷ []) (flags ∷ []) rest end both).parts, clash) refl
  block_fault width at place reason le (fault.BlockFault.two_prefixes count flags rest e some clash) =
      let both = stands at (count ∷ (flags ∷ [])) rest le e in
      rw (count_again s at count (flags ∷ rest) end (stands at (count ∷ []) (flags ∷ rest) le e) some, octet_again 1 s (at + 1) end flags rest fits (stands_next s at (count ∷ []) (flags ∷ []) rest end both).parts, or_right (has flags 64 && has flags 32) (has flags 16 && has flags 8) clash) refl
  block_fault width at place reason le (fault.BlockFault.head count flags place' reason' rest h is f) =
      let b = begun at count flags rest le h in
      rw (b.count_is, b.flags_is, is, counted_fault (at + 1 + 1) width place' reason' b.within (rw b.rest_is f)) (moved (at + 1 + 1 + place') (at + (2 + place')) reason' (omega arith))
  block_fault width at place reason le (fault.BlockFault.full_tail count flags place' reason' head text rest h small head_is is f) =
      let b = begun at count flags (text ++ rest) le h in
      let one = stands (at + 1 + 1) text rest b.within b.rest_is in
      let next = behind s (at + 1 + 1) text rest end one in
      rw (b.count_is, b.flags_is, head_again s flags (at + 1 + 1) width head text rest end (has flags 128) refl head_is small one, is, counted_fault (at + 1 + 1 + length text) (width - length head) place' reason' (omega (arith, next.1)) (rw next.0 f)) (moved (at + 1 + 1 + length text + place') (at + (2 + length text + place')) reason' (omega arith))
  block_fault width at place reason le (fault.BlockFault.zero_tail count flags reason' head text rest h small head_is is f) =
      let b = begun at count flags (text ++ rest) le h in
      let one = stands (at + 1 + 1) text rest b.within b.rest_is in
      let next = behind s (at + 1 + 1) text rest end one in
      rw (b.count_is, b.flags_is, head_again s flags (at + 1 + 1) width head text rest end (has flags 128) refl head_is small one, and_left (has flags 64) (has flags 32) h.tails is, is, zeros_fault (at + 1 + 1 + length text) (width - length head) reason' (omega (arith, next.1)) (rw next.0 f)) (moved (at + 1 + 1 + length text) (at + (2 + length text)) reason' (omega arith))
  block_fault width at place reason le (fault.BlockFault.middle count flags i head tail text rest h lt small short) =
      let size : ℕ = width - (length head + length tail) in
      let f = formed at width count flags head tail text rest le h in
      rw (f.begins.count_is, f.begins.flags_is, f.head_is, f.tail_is, parts_fault i count f.tail_end size lt (omega (arith, f.within)) (omega (arith, f.within))) (moved (f.tail_end + i * size) (at + (2 + length text + i * size)) 1 (omega (arith, f.place)))
  block_fault width at place reason le (fault.BlockFault.prefix count flags place' reason' head tail text mids rest h long lt p) =
      let size : ℕ = width - (length head + length tail) in
      let f = formed at width count flags head tail text (mids ++ rest) le h in
      let one = stands f.tail_end mids rest (omega (arith, f.within)) f.rest_is in
      let next = behind s f.tail_end mids rest end one in
      let after : f.tail_end + count * size ≡ f.tail_end + length mids = omega (arith, long) in
      rw (f.begins.count_is, f.begins.flags_is, f.head_is, f.tail_is, parts_again count f.tail_end end size (omega (arith, next.1, long)), after, common_fault flags count width f.tail_end (f.tail_end + length mids) place' reason' head tail rest (has flags 16) (has flags 8) refl refl (omega (arith, next.1)) next.0 lt p) (moved (f.tail_end + length mids + place') (at + (2 + length text + length mids + place')) reason' (omega (arith, f.place)))

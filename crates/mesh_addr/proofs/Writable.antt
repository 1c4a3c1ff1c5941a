-- What is read meets the writer's conditions.
use Rattle.mesh_addr.proofs.Common.{common_steps, ◌≡◌, ℕ, ◌+◌, ◌-◌, ◌*◌, ◌<◌, ◌≤◌, Bool, List, [], ◌∷◌, ◌++◌, length, get_or, take, drop, sym, ap, ◌∙◌, arith, length-append, slice_range, replicate, length-take, take_at, RawAddr, padded, SpellsMids, SpellsPrefixes, AreAll, AreAtMost, AreRaw, IsWritable, prefixes, SpellsBlock}
use Rattle.std.proofs.lemmas.List.Edits.{get_or-between}
use Rattle.mesh_addr.proofs.ReadAgain.{first_all}
pub use Rattle.std.proofs.lemmas.Result.{IfOk-weaker as if_ok}

all_most : (p most : ℕ) (ps : List ℕ) → p ≤ most → AreAll p ps → AreAtMost most ps
all_most p most [] le h = tt
all_most p most (q ∷ ps) le h = let all = first_all p q ps h in (rw all.0 le, all_most p most ps le all.1)

prefixes_most : (one each : Bool) (most : ℕ) (ps text : List ℕ) → SpellsPrefixes one each most ps text → AreAtMost most ps
prefixes_most one each most ps text h = grind (arith, common_steps, all_most)

raw_so : (w : ℕ) (head tail : List ℕ) → length head + length tail ≤ w → (addrs : List RawAddr) (text : List ℕ) → SpellsMids head tail (w - (length head + length tail)) addrs text → AreAtMost (8 * w) (prefixes addrs) → AreRaw w addrs
raw_so w head tail fits [] text h k = tt
raw_so w head tail fits (a ∷ addrs) text h k =
    let whole : List ℕ = head ++ (h.0 ++ tail) in
    let long : length whole ≡ w = length-append head (h.0 ++ tail) ∙ omega (arith, length-append h.0 tail, h.2) in
    let first : take w a.octets ≡ whole = ap (take w) h.3 ∙ take_at whole (replicate (16 - length whole) 0) w long in
    (h.3 ∙ ap padded (sym first), k.0, raw_so w head tail fits addrs h.1 h.4 k.1)

-- addresses that a list of octets spells can be written
pub spelled_writable : (s : List ℕ) → ((i : ℕ) → get_or s i 0 < 256) → (at after w : ℕ) (addrs : List RawAddr) → 0 < w → w ≤ 16 → SpellsBlock w addrs (slice_range s at after) → IsWritable w addrs
spelled_writable s fits at after w addrs wide narrow h =
    let more : List ℕ = h.flags ∷ (h.head_text ++ (h.tail_text ++ (h.mids_text ++ h.prefixes_text))) in
    let first : get_or (slice_range s at after) 0 0 ≡ length addrs = ap (λ (l : List ℕ). get_or l 0 0) h.whole in
    let room : at + 0 < after = omega (arith, length-take (after - at) (drop at s), ap length h.whole) in
    let there : get_or (slice_range s at after) 0 0 ≡ get_or s (at + 0) 0 = get_or-between s at after 0 0 room in
    let small : get_or s (at + 0) 0 < 256 = fits (at + 0) in
    record {
      some = h.some;
      counted = omega (arith, first, there, small);
      wide = wide;
      narrow = narrow;
      raw = raw_so w h.head h.tail h.fits addrs h.mids_text h.mids_is (prefixes_most _ _ _ _ _ h.prefixes_is);
    }

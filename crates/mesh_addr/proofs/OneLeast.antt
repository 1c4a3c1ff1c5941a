-- A block has at most one least spelling: its rank tells the lengths of head and tail and the forms of tail and prefix lengths,
-- and with them all that is written.
use Rattle.mesh_addr.proofs.Common.{◌≡◌, ℕ, ◌+◌, ◌-◌, ◌*◌, ◌≤◌, Bool, cond, List, [], ◌∷◌, ◌++◌, length, take, drop, refl, sym, ap, subst, ◌∙◌, arith, append_assoc, length-append, slice_range, common_steps, take_at, drop_at, has, RawAddr, padded, SpellsHead, SpellsTail, SpellsMids, SpellsPrefixes, AreAll, prefixes, SpellsBlock, IsLeast, known_flags, rank}
use Rattle.mesh_addr.proofs.ReadAgain.{first_all}
use Rattle.mesh_addr.proofs.Fewest.{one_ends}

-- heads that are the same, written in as many octets
heads_once : (b c : Bool) (head text more : List ℕ) → SpellsHead b head text → SpellsHead c head more → length text ≡ length more → (b ≡ c) × (text ≡ more)
heads_once b c head text more h k e = grind (arith, common_steps)

abbrev tail_rank : Bool → Bool → ℕ
tail_rank full zeros = cond full 2 (cond zeros 1 0)

-- tails that are the same, of one form
tails_once : (f z g y : Bool) (tail text more : List ℕ) → SpellsTail f z tail text → SpellsTail g y tail more → tail_rank f z ≡ tail_rank g y → (f ≡ g) × (z ≡ y) × (text ≡ more)
tails_once f z g y tail text more h k e = grind (arith, common_steps)

abbrev form_rank : Bool → Bool → ℕ
form_rank one each = cond one 1 (cond each 2 0)

one_for_all : (p q r : ℕ) (ps : List ℕ) → AreAll p (r ∷ ps) → AreAll q (r ∷ ps) → p ≡ q
one_for_all p q r ps h k = sym (first_all p r ps h).0 ∙ (first_all q r ps k).0

-- prefix lengths that are the same, of one form
prefixes_once : (o e p f : Bool) (most r : ℕ) (ps text more : List ℕ) → SpellsPrefixes o e most (r ∷ ps) text → SpellsPrefixes p f most (r ∷ ps) more → form_rank o e ≡ form_rank p f → (o ≡ p) × (e ≡ f) × (text ≡ more)
prefixes_once o e p f most r ps text more h k i = grind (arith, common_steps, one_for_all)

-- where an address has its middle part
mid_is : (head mid tail octets : List ℕ) → octets ≡ padded (head ++ (mid ++ tail)) → take (length mid) (drop (length head) octets) ≡ mid
mid_is head mid tail octets is = grind (arith, common_steps, append_assoc, drop_at, take_at)

mids_once : (head tail : List ℕ) (size : ℕ) (addrs : List RawAddr) (text more : List ℕ) → SpellsMids head tail size addrs text → SpellsMids head tail size addrs more → text ≡ more
mids_once head tail size [] text more h k = h ∙ sym k
mids_once head tail size (a ∷ addrs) text more h k =
    let same : length h.0 ≡ length k.0 = h.2 ∙ sym k.2 in
    let mid : h.0 ≡ k.0 = sym (mid_is head h.0 tail a.octets h.3) ∙ ap (λ (n : ℕ). take n (drop (length head) a.octets)) same ∙ mid_is head k.0 tail a.octets k.3 in
    h.5 ∙ ap (λ (l : List ℕ). l ++ h.1) mid ∙ ap (λ (l : List ℕ). k.0 ++ l) (mids_once head tail size addrs h.1 k.1 h.4 k.4) ∙ sym k.5

tail_rank_small : (f z : Bool) → tail_rank f z ≤ 2
tail_rank_small f z = grind (arith, common_steps)

form_rank_small : (o e : Bool) → form_rank o e ≤ 2
form_rank_small o e = grind (arith, common_steps)

-- what a rank tells, where tails have at most 16 octets
told : (h t n p h' t' n' p' : ℕ) → t ≤ 2 → t' ≤ 2 → n ≤ 16 → n' ≤ 16 → p ≤ 2 → p' ≤ 2 → ((h * 3 + t) * 17 + n) * 3 + p ≡ ((h' * 3 + t') * 17 + n') * 3 + p' → (h ≡ h') × (t ≡ t') × (n ≡ n') × (p ≡ p')
told h t n p h' t' n' p' a b c d e f i = (omega arith, omega arith, omega arith, omega arith)

-- the ends of a block's first address
ends : (w : ℕ) (a : RawAddr) (more : List RawAddr) (text : List ℕ) (h : SpellsBlock w (a ∷ more) text) → (take (length h.head) a.octets ≡ h.head) × (slice_range a.octets (w - length h.tail) w ≡ h.tail)
ends w a more text h = one_ends w h.head h.tail h.fits a h.mids_is.0 h.mids_is.2 h.mids_is.3

-- two spellings of one length and rank that set only known flags
spelled_once : (w : ℕ) (a : RawAddr) (more : List RawAddr) (x y : List ℕ) (h : SpellsBlock w (a ∷ more) x) (k : SpellsBlock w (a ∷ more) y) → w ≤ 16 → h.flags ≡ known_flags h.flags → k.flags ≡ known_flags k.flags → length x ≡ length y → rank h ≡ rank k → x ≡ y
spelled_once w a more x y h k small known known' long ranked =
    let tells = told (length h.head) (tail_rank (has h.flags 64) (has h.flags 32)) (length h.tail) (form_rank (has h.flags 16) (has h.flags 8)) (length k.head) (tail_rank (has k.flags 64) (has k.flags 32)) (length k.tail) (form_rank (has k.flags 16) (has k.flags 8))
    (tail_rank_small (has h.flags 64) (has h.flags 32)) (tail_rank_small (has k.flags 64) (has k.flags 32)) (omega (arith, small, h.fits)) (omega (arith, small, k.fits)) (form_rank_small (has h.flags 16) (has h.flags 8)) (form_rank_small (has k.flags 16) (has k.flags 8)) ranked in
    let here = ends w a more x h in
    let there = ends w a more y k in
    let head : h.head ≡ k.head = sym here.0 ∙ ap (λ (n : ℕ). take n a.octets) tells.0 ∙ there.0 in
    let tail : h.tail ≡ k.tail = sym here.1 ∙ ap (λ (n : ℕ). slice_range a.octets (w - n) w) tells.2 ∙ there.1 in
    let tails = tails_once (has h.flags 64) (has h.flags 32) (has k.flags 64) (has k.flags 32) k.tail h.tail_text k.tail_text (subst (λ (l : List ℕ). SpellsTail (has h.flags 64) (has h.flags 32) l h.tail_text) tail h.tail_is) k.tail_is tells.1 in
    let forms = prefixes_once (has h.flags 16) (has h.flags 8) (has k.flags 16) (has k.flags 8) (8 * w) a.prefix (prefixes more) h.prefixes_text k.prefixes_text h.prefixes_is k.prefixes_is tells.3 in
    let moved : SpellsMids k.head k.tail (w - (length k.head + length k.tail)) (a ∷ more) h.mids_text = subst (λ (l : List ℕ). SpellsMids k.head l (w - (length k.head + length l)) (a ∷ more) h.mids_text) tail (subst (λ (l : List ℕ). SpellsMids l h.tail (w - (length l + length h.tail)) (a ∷ more) h.mids_text) head h.mids_is) in
    let mids : h.mids_text ≡ k.mids_text = mids_once k.head k.tail (w - (length k.head + length k.tail)) (a ∷ more) h.mids_text k.mids_text moved k.mids_is in
    let before : length h.head_text ≡ length k.head_text = omega (
      arith,
      ap length h.whole,
      ap length k.whole,
      long,
      ap length tails.2,
      ap length mids,
      ap length forms.2,
      length-append h.head_text (h.tail_text ++ (h.mids_text ++ h.prefixes_text)),
      length-append h.tail_text (h.mids_text ++ h.prefixes_text),
      length-append h.mids_text h.prefixes_text,
      length-append k.head_text (k.tail_text ++ (k.mids_text ++ k.prefixes_text)),
      length-append k.tail_text (k.mids_text ++ k.prefixes_text),
      length-append k.mids_text k.prefixes_text,
    ) in
    let heads = heads_once (has h.flags 128) (has k.flags 128) k.head h.head_text k.head_text (subst (λ (l : List ℕ). SpellsHead (has h.flags 128) l h.head_text) head h.head_is) k.head_is before in
    let flags : h.flags ≡ k.flags = known ∙ rw (heads.0, tails.0, tails.1, forms.0, forms.1) refl ∙ sym known' in
    h.whole ∙ rw (flags, heads.1, tails.2, mids, forms.2) refl ∙ sym k.whole

pub one_least : (width : ℕ) (addrs : List RawAddr) (x y : List ℕ) → IsLeast width addrs x → IsLeast width addrs y → x ≡ y
one_least width [] x y h k = absurd (omega (arith, h.spelled.some))
one_least width (a ∷ more) x y h k =
    let shorter : length x ≤ length y = h.least y k.spelled in
    let longer : length y ≤ length x = k.least x h.spelled in
    let long : length x ≡ length y = omega arith in
    let first : rank h.spelled ≤ rank k.spelled = h.preferred y k.spelled (sym long) in
    let second : rank k.spelled ≤ rank h.spelled = k.preferred x h.spelled long in
    spelled_once width a more x y h.spelled k.spelled h.narrow h.unreserved k.unreserved long (omega (arith, first, second))

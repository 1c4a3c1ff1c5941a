-- Which marks the parts of a line lack: a part has letters, digits, dots and slashes at most.
use Rattle.mesh_texts.proofs.Common.{common_steps, ◌≡◌, ℕ, zero, suc, ◌+◌, ◌<◌, ◌/◌, ◌%◌, Bool, true, false, not, ◌&&◌, cond, List, [], ◌∷◌, ◌++◌, Option, refl, ap, ◌∙◌, arith, codes, decimal, nat_eq, slice_get, slice_index, ◌==◌, digits, digits_onto, digit_glyph, ne_eqb, lt-leb, encode_with, encode_lower, lower_digits, Addr4, NetAddr, Interface, RouterSettings, IsName, is_name_octet, router_name, dotted, slashed, node_text, metric_text, choice_text, status_text, nearness_text, relays_text, spaced, name_of_face, face_name}
use Rattle.mesh_atoms.specs.declared.codes.metric.Metric.{Metric}
use Rattle.mesh_atoms.specs.Codes.Codes.{metric_value}
use Rattle.mesh_atoms.specs.declared.tuples.LinkState.{LinkState}
use Rattle.mesh_settled.specs.machine.Names.{name_of_router}
use Rattle.mesh_texts.proofs.Cuts.{lacks, lacks_both, lacks_by, lacks_rest, not_here}

-- Numbers

glyph_high : (mark n : ℕ) → mark < 48 → nat_eq (digit_glyph false n) mark ≡ false
glyph_high mark n low = grind (arith, common_steps)

onto_lacks : (mark : ℕ) → mark < 48 → (k n : ℕ) (acc : List ℕ) → lacks mark acc ≡ true →
    lacks mark (digits_onto k 10 false n acc) ≡ true
onto_lacks mark low zero n acc h = h
onto_lacks mark low (suc k) n acc h = by (n / 10 == 0) more (onto_lacks mark low k (n / 10) (digit_glyph false (n % 10) ∷ acc) more) where
  more : lacks mark (digit_glyph false (n % 10) ∷ acc) ≡ true
  more = ap (λ (b : Bool). not b && lacks mark acc) (glyph_high mark (n % 10) low) ∙ h

  by : (b : Bool) → lacks mark (digit_glyph false (n % 10) ∷ acc) ≡ true → lacks mark (digits_onto k 10 false (n / 10) (digit_glyph false (n % 10) ∷ acc)) ≡ true
      → lacks mark (cond b (digit_glyph false (n % 10) ∷ acc) (digits_onto k 10 false (n / 10) (digit_glyph false (n % 10) ∷ acc))) ≡ true
  by true here there = here
  by false here there = there

pub decimal_lacks : (mark : ℕ) → mark < 48 → (n : ℕ) → lacks mark (decimal n) ≡ true
unfolding digits
decimal_lacks mark low n = onto_lacks mark low 64 n [] refl

-- Addresses and networks

one_mark : (c mark : ℕ) → nat_eq c mark ≡ false → lacks mark (c ∷ []) ≡ true
one_mark c mark e = ap (λ (b : Bool). not b && true) e

pub dotted_lacks : (mark : ℕ) → mark < 48 → nat_eq 46 mark ≡ false → (a : Addr4) → lacks mark (dotted a) ≡ true
unfolding dotted
dotted_lacks mark low dot a = grind (arith, common_steps, one_mark, lacks_both, decimal_lacks)

pub slashed_lacks : (mark : ℕ) → mark < 48 → nat_eq 46 mark ≡ false → nat_eq 47 mark ≡ false → (n : NetAddr) →
    lacks mark (slashed n) ≡ true
unfolding slashed
slashed_lacks mark low dot slash n = grind (arith, common_steps, lacks_both, dotted_lacks, one_mark, decimal_lacks)

pub node_lacks : (mark : ℕ) → mark < 48 → nat_eq 46 mark ≡ false → nat_eq 47 mark ≡ false → (n : NetAddr) →
    lacks mark (node_text n) ≡ true
unfolding node_text
node_lacks mark low dot slash n = grind (arith, common_steps, dotted_lacks, slashed_lacks)

-- Words

pub metric_lacks : (m : Option Metric) → lacks 10 (metric_text m) ≡ true
unfolding metric_text
metric_lacks m = grind (arith, common_steps, decimal_lacks, metric_value)

pub choice_lacks : (choice : Bool) → lacks 10 (choice_text choice) ≡ true
unfolding choice_text
choice_lacks choice = grind (arith, common_steps)

pub status_lacks : (status : LinkState) → lacks 10 (status_text status) ≡ true
unfolding status_text
status_lacks status = grind (arith, common_steps)

pub nearness_lacks : (symmetric : Bool) → lacks 10 (nearness_text symmetric) ≡ true
unfolding nearness_text
nearness_lacks symmetric = grind (arith, common_steps)

spaced_lacks : (addrs : List Addr4) → lacks 10 (spaced addrs) ≡ true
spaced_lacks [] = refl
spaced_lacks (a ∷ more) = lacks_both 10 (codes " " ++ dotted a) (spaced more) (lacks_both 10 (codes " ") (dotted a) refl (dotted_lacks 10 (omega arith) refl a)) (spaced_lacks more)

pub relays_lack : (addrs : List Addr4) → lacks 10 (relays_text addrs) ≡ true
unfolding relays_text
relays_lack [] = refl
relays_lack (a ∷ more) = spaced_lacks (a ∷ more)

-- Names

no_letter : (mark : ℕ) → mark < 48 → is_name_octet mark ≡ false
no_letter mark low = rw (lt-leb 97 mark (omega (arith, low)), lt-leb 48 mark low) refl

pub name_lacks : (mark : ℕ) → mark < 48 → (name : List ℕ) → IsName name → lacks mark name ≡ true
name_lacks mark low name is = lacks_by mark is_name_octet (no_letter mark low) name is.octets

face_lacks : (mark : ℕ) → mark < 48 → (face : Option Interface) → lacks mark (name_of_face face) ≡ true
face_lacks mark low face = grind (arith, common_steps, name_lacks)

pub face_name_lacks : (mark : ℕ) → mark < 48 → (faces : List Interface) (i : ℕ) → lacks mark (face_name faces i) ≡ true
unfolding face_name
face_name_lacks mark low faces i = face_lacks mark low (slice_get faces i)

pub own_name_lacks : (mark : ℕ) → mark < 48 → (r : RouterSettings) → lacks mark r.name ≡ true
own_name_lacks mark low r = name_lacks mark low r.name r.sound.named

router_lacks : (mark : ℕ) → mark < 48 → (r : Option RouterSettings) → lacks mark (name_of_router r) ≡ true
router_lacks mark low r = grind (arith, common_steps, own_name_lacks)

pub router_name_lacks : (mark : ℕ) → mark < 48 → (routers : List RouterSettings) (x : ℕ) →
    lacks mark (router_name routers x) ≡ true
unfolding router_name
router_name_lacks mark low routers x = router_lacks mark low (slice_get routers x)

-- Hexadecimal digits

digit_lacks : (xs : List ℕ) → lacks 10 xs ≡ true → (i : ℕ) → nat_eq (slice_index xs i) 10 ≡ false
digit_lacks [] h i = refl
digit_lacks (x ∷ xs) h zero = ne_eqb x 10 (not_here 10 x xs h)
digit_lacks (x ∷ xs) h (suc i) = digit_lacks xs (lacks_rest 10 x xs h) i

pub hex_lacks : (octets : List ℕ) → lacks 10 (encode_lower octets) ≡ true
unfolding encode_with
hex_lacks [] = refl
hex_lacks (x ∷ octets) =
    let digit = λ (i : ℕ). one_mark (slice_index lower_digits i) 10 (digit_lacks lower_digits refl i) in
    lacks_both 10 (slice_index lower_digits (x / 16) ∷ []) (slice_index lower_digits (x % 16) ∷ encode_lower octets) (digit (x / 16))
    (lacks_both 10 (slice_index lower_digits (x % 16) ∷ []) (encode_lower octets) (digit (x % 16)) (hex_lacks octets))

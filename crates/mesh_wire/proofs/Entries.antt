-- The entries of a message say what the message does.
use Rattle.mesh_wire.proofs.Common.{common_steps, ◌≡◌, ℕ, zero, suc, ◌+◌, ◌-◌, ◌<◌, ◌≤◌, inl, inr, refl, sym, ◌∙◌, ap, subst, arith, List, [], ◌∷◌, Contains, slice_range, Some, None, slice_get, ◌==◌, cases_Bool, eq-eqb, NetAddr, RawAddr, TlvFields, AddrTlvFields, BlockFields, MessageFields, Entry, standing, tellings, of_tlv, of_tlvs, of_block, of_blocks, IsIn, octets_of, value_at, HoldsAddress, HasValue, contains_head as at_head, contains_tail as in_tail, contains_cases, contains_none as none_in}
use Rattle.mesh_wire.proofs.Collected.{AnyOf, StandsOf, SaysOf, any_front, any_back, any_either}
use Rattle.mesh_wire.proofs.Collecting.{of_one, one_of}
use Rattle.mesh_wire.proofs.Standing.{get_drop, get_take, covered}

-- ---- addresses

pub stands_there : (net : NetAddr) (addrs : List RawAddr) → AnyOf (StandsOf net) (standing addrs) → (place : ℕ) × (a : RawAddr) × (slice_get addrs place ≡ Some a) × IsIn a net
stands_there net [] h = absurd h
stands_there net (a ∷ addrs) (inl h) = (zero, a, refl, of_one a None net h)
stands_there net (a ∷ addrs) (inr h) = let (place, b, at, i) = stands_there net addrs h in (suc place, b, at, i)

pub there_stands : (net : NetAddr) (addrs : List RawAddr) (place : ℕ) (a : RawAddr) → slice_get addrs place ≡ Some a → IsIn a net → AnyOf (StandsOf net) (standing addrs)
there_stands net [] place a at i = cc
there_stands net (b ∷ addrs) zero a at i = let e : b ≡ a = cc in inl (one_of b None net (subst (λ (x : RawAddr). IsIn x net) (sym e) i))
there_stands net (b ∷ addrs) (suc place) a at i = inr (there_stands net addrs place a at i)

none_said : (net : NetAddr) (k : ℕ) (x : List ℕ) (addrs : List RawAddr) → AnyOf (SaysOf net k x) (standing addrs) → ⊥
none_said net k x [] h = h
none_said net k x (a ∷ addrs) (inl (of, is)) = cc
none_said net k x (a ∷ addrs) (inr h) = none_said net k x addrs h

-- ---- what one TLV says

same_value : (p q : ℕ × List ℕ) → Some p ≡ Some q → (q.0 ≡ p.0) × (q.1 ≡ p.1)
same_value p q e = let f : q ≡ p = cc in (ap (λ (r : ℕ × List ℕ). r.0) f, ap (λ (r : ℕ × List ℕ). r.1) f)

told_there : (tlv : AddrTlvFields) (net : NetAddr) (k : ℕ) (x : List ℕ) (from : ℕ) (addrs : List RawAddr) → AnyOf (SaysOf net k x) (tellings tlv from addrs) →
    (i : ℕ) × (a : RawAddr) × (slice_get addrs i ≡ Some a) × IsIn a net × (k ≡ tlv.kind) × (x ≡ octets_of (value_at tlv (from + i)))
told_there tlv net k x from [] h = absurd h
told_there tlv net k x from (a ∷ addrs) (inl (of, is)) =
    let v = same_value (tlv.kind, octets_of (value_at tlv from)) (k, x) is in
    let e : from ≡ from + 0 = omega arith in
    (zero, a, refl, of_one a (Some (tlv.kind, octets_of (value_at tlv from))) net of, v.0, v.1 ∙ ap (λ (n : ℕ). octets_of (value_at tlv n)) e)
told_there tlv net k x from (a ∷ addrs) (inr h) =
    let (i, b, at, is_in, kind, value) = told_there tlv net k x (from + 1) addrs h in
    let e : from + 1 + i ≡ from + suc i = omega arith in
    (suc i, b, at, is_in, kind, value ∙ ap (λ (n : ℕ). octets_of (value_at tlv n)) e)

there_told : (tlv : AddrTlvFields) (net : NetAddr) (from : ℕ) (addrs : List RawAddr) (i : ℕ) (a : RawAddr) → slice_get addrs i ≡ Some a → IsIn a net →
    AnyOf (SaysOf net tlv.kind (octets_of (value_at tlv (from + i)))) (tellings tlv from addrs)
there_told tlv net from [] i a at is_in = cc
there_told tlv net from (b ∷ addrs) zero a at is_in = grind (arith, common_steps, one_of)
there_told tlv net from (b ∷ addrs) (suc i) a at is_in = grind (arith, common_steps, (there_told tlv net (from + 1) addrs i a at is_in))

told_stands : (tlv : AddrTlvFields) (net : NetAddr) (from : ℕ) (addrs : List RawAddr) → AnyOf (StandsOf net) (tellings tlv from addrs) → (i : ℕ) × (a : RawAddr) × (slice_get addrs i ≡ Some a) × IsIn a net
told_stands tlv net from [] h = absurd h
told_stands tlv net from (a ∷ addrs) (inl h) = (zero, a, refl, of_one a (Some (tlv.kind, octets_of (value_at tlv from))) net h)
told_stands tlv net from (a ∷ addrs) (inr h) = let (i, b, at, is_in) = told_stands tlv net (from + 1) addrs h in (suc i, b, at, is_in)

uncovered : (addrs : List RawAddr) (first end place : ℕ) (a : RawAddr) → first ≤ place → place < end → slice_get addrs place ≡ Some a → slice_get (slice_range addrs first end) (place - first) ≡ Some a
uncovered addrs first end place a low high at = grind (arith, common_steps, get_take, get_drop)

-- a TLV says a value of an address at a place that it covers
pub record SaysAt (addrs : List RawAddr) (tlv : AddrTlvFields) (net : NetAddr) (k : ℕ) (x : List ℕ) : Type 0 where
  pub place : ℕ
  pub address : RawAddr
  pub at : slice_get addrs place ≡ Some address
  pub is_in : IsIn address net
  pub ext : tlv.ext ≡ 0
  pub first : tlv.first ≤ place
  pub last : place ≤ tlv.last
  pub kind : k ≡ tlv.kind
  pub value : x ≡ octets_of (value_at tlv place)

tlv_says : (addrs : List RawAddr) (tlv : AddrTlvFields) (net : NetAddr) (k : ℕ) (x : List ℕ) → AnyOf (SaysOf net k x) (of_tlv addrs tlv) → SaysAt addrs tlv net k x
tlv_says addrs tlv net k x h = grind (arith, common_steps, cases_Bool, told_there, covered)

says_tlv : (addrs : List RawAddr) (tlv : AddrTlvFields) (net : NetAddr) (k : ℕ) (x : List ℕ) → SaysAt addrs tlv net k x → AnyOf (SaysOf net k x) (of_tlv addrs tlv)
says_tlv addrs tlv net k x s =
    let range = slice_range addrs tlv.first (tlv.last + 1) in
    let at = uncovered addrs tlv.first (tlv.last + 1) s.place s.address s.first (omega (arith, s.last)) s.at in
    let place : tlv.first + (s.place - tlv.first) ≡ s.place = omega (arith, s.first) in
    let said : AnyOf (SaysOf net tlv.kind (octets_of (value_at tlv s.place))) (tellings tlv tlv.first range) =
    subst (λ (n : ℕ). AnyOf (SaysOf net tlv.kind (octets_of (value_at tlv n))) (tellings tlv tlv.first range)) place (there_told tlv net tlv.first range (s.place - tlv.first) s.address at s.is_in) in
    let of_kind : AnyOf (SaysOf net k (octets_of (value_at tlv s.place))) (tellings tlv tlv.first range) = subst (λ (n : ℕ). AnyOf (SaysOf net n (octets_of (value_at tlv s.place))) (tellings tlv tlv.first range)) (sym s.kind) said in
    let whole : AnyOf (SaysOf net k x) (tellings tlv tlv.first range) = subst (λ (v : List ℕ). AnyOf (SaysOf net k v) (tellings tlv tlv.first range)) (sym s.value) of_kind in
    rw (eq-eqb tlv.ext 0 s.ext) whole

tlv_stands : (addrs : List RawAddr) (tlv : AddrTlvFields) (net : NetAddr) → AnyOf (StandsOf net) (of_tlv addrs tlv) → (place : ℕ) × (a : RawAddr) × (slice_get addrs place ≡ Some a) × IsIn a net
tlv_stands addrs tlv net h = elim (cases_Bool (tlv.ext == 0)) [
  | inl e ↦
      let g : AnyOf (StandsOf net) (tellings tlv tlv.first (slice_range addrs tlv.first (tlv.last + 1))) = rw e at h in
      let (i, a, at, is_in) = told_stands tlv net tlv.first (slice_range addrs tlv.first (tlv.last + 1)) g in
      (tlv.first + i, a, (covered addrs tlv.first (tlv.last + 1) i a at).1, is_in)
  | inr e ↦ let g : ⊥ = rw e at h in absurd g
]

-- ---- TLVs and blocks

in_tlvs : (P : Entry → Type 0) (addrs : List RawAddr) (tlvs : List AddrTlvFields) → AnyOf P (of_tlvs addrs tlvs) → (tlv : AddrTlvFields) × Contains tlvs tlv × AnyOf P (of_tlv addrs tlv)
in_tlvs P addrs [] h = absurd h
in_tlvs P addrs (t ∷ tlvs) h = elim (any_either P (of_tlv addrs t) (of_tlvs addrs tlvs) h) [
  | inl g ↦ (t, at_head t tlvs, g)
  | inr g ↦ let (s, has, is) = in_tlvs P addrs tlvs g in (s, in_tail t tlvs s has, is)
]

tlvs_in : (P : Entry → Type 0) (addrs : List RawAddr) (tlvs : List AddrTlvFields) (tlv : AddrTlvFields) → Contains tlvs tlv → AnyOf P (of_tlv addrs tlv) → AnyOf P (of_tlvs addrs tlvs)
tlvs_in P addrs [] tlv has h = absurd (none_in tlv has)
tlvs_in P addrs (t ∷ tlvs) tlv has h = elim (contains_cases t tlvs tlv has) [
  | inl e ↦ any_front P (of_tlv addrs t) (of_tlvs addrs tlvs) (subst (λ (s : AddrTlvFields). AnyOf P (of_tlv addrs s)) (sym e) h)
  | inr later ↦ any_back P (of_tlv addrs t) (of_tlvs addrs tlvs) (tlvs_in P addrs tlvs tlv later h)
]

in_blocks : (P : Entry → Type 0) (blocks : List BlockFields) → AnyOf P (of_blocks blocks) → (b : BlockFields) × Contains blocks b × AnyOf P (of_block b)
in_blocks P [] h = absurd h
in_blocks P (b ∷ blocks) h = elim (any_either P (of_block b) (of_blocks blocks) h) [
  | inl g ↦ (b, at_head b blocks, g)
  | inr g ↦ let (c, has, is) = in_blocks P blocks g in (c, in_tail b blocks c has, is)
]

blocks_in : (P : Entry → Type 0) (blocks : List BlockFields) (block : BlockFields) → Contains blocks block → AnyOf P (of_block block) → AnyOf P (of_blocks blocks)
blocks_in P [] block has h = absurd (none_in block has)
blocks_in P (b ∷ blocks) block has h = elim (contains_cases b blocks block has) [
  | inl e ↦ any_front P (of_block b) (of_blocks blocks) (subst (λ (c : BlockFields). AnyOf P (of_block c)) (sym e) h)
  | inr later ↦ any_back P (of_block b) (of_blocks blocks) (blocks_in P blocks block later h)
]

-- ---- the whole

pub says_of : (m : MessageFields) (net : NetAddr) (k : ℕ) (x : List ℕ) → AnyOf (SaysOf net k x) (of_blocks m.blocks) → HasValue m net k x
says_of m net k x h =
    let (b, in_message, g) = in_blocks (SaysOf net k x) m.blocks h in
    elim (any_either (SaysOf net k x) (standing b.addrs) (of_tlvs b.addrs b.tlvs) g) [
      | inl none ↦ absurd (none_said net k x b.addrs none)
      | inr some ↦
          let (tlv, in_block, said) = in_tlvs (SaysOf net k x) b.addrs b.tlvs some in
          let s = tlv_says b.addrs tlv net k x said in (
            value_at tlv s.place,
            record {
              block = b;
              place = s.place;
              tlv = tlv;
              address = record { address = s.address; in_message = in_message; in_block = s.at; is_in = s.is_in };
              in_block = in_block;
              first = s.first;
              last = s.last;
              part_is = ap (λ (n : ℕ). record { kind = n; ext = 0; value = value_at tlv s.place }) s.kind ∙ ap (λ (n : ℕ). record { kind = tlv.kind; ext = n; value = value_at tlv s.place }) (sym s.ext);
            },
            s.value,
          )
    ]

pub of_says : (m : MessageFields) (net : NetAddr) (k : ℕ) (x : List ℕ) → HasValue m net k x → AnyOf (SaysOf net k x) (of_blocks m.blocks)
of_says m net k x (value, part, is) =
    let b = part.block in
    let s : SaysAt b.addrs part.tlv net k x = record {
      place = part.place;
      address = part.address.address;
      at = part.address.in_block;
      is_in = part.address.is_in;
      ext = sym (ap (λ (p : TlvFields). p.ext) part.part_is);
      first = part.first;
      last = part.last;
      kind = ap (λ (p : TlvFields). p.kind) part.part_is;
      value = is ∙ ap (λ (p : TlvFields). octets_of p.value) part.part_is;
    } in
    blocks_in (SaysOf net k x) m.blocks b part.address.in_message
    (any_back (SaysOf net k x) (standing b.addrs) (of_tlvs b.addrs b.tlvs) (tlvs_in (SaysOf net k x) b.addrs b.tlvs part.tlv part.in_block (says_tlv b.addrs part.tlv net k x s)))

pub has_of : (m : MessageFields) (net : NetAddr) → AnyOf (StandsOf net) (of_blocks m.blocks) → HoldsAddress m net
has_of m net h =
    let (b, in_message, g) = in_blocks (StandsOf net) m.blocks h in
    elim (any_either (StandsOf net) (standing b.addrs) (of_tlvs b.addrs b.tlvs) g) [
      | inl here ↦ let (place, a, at, is_in) = stands_there net b.addrs here in (b, place, record { address = a; in_message = in_message; in_block = at; is_in = is_in })
      | inr told ↦
          let (tlv, in_block, said) = in_tlvs (StandsOf net) b.addrs b.tlvs told in
          let (place, a, at, is_in) = tlv_stands b.addrs tlv net said in
          (b, place, record { address = a; in_message = in_message; in_block = at; is_in = is_in })
    ]

pub of_has : (m : MessageFields) (net : NetAddr) → HoldsAddress m net → AnyOf (StandsOf net) (of_blocks m.blocks)
of_has m net (b, place, at) =
    blocks_in (StandsOf net) m.blocks b at.in_message (any_front (StandsOf net) (standing b.addrs) (of_tlvs b.addrs b.tlvs) (there_stands net b.addrs place at.address at.in_block at.is_in))

-- The rows of a message's addresses, once all is told, are what is kept of its networks.
use Rattle.mesh_wire.proofs.Common.{common_steps, ◌≡◌, ℕ, zero, suc, ◌⊎◌, inl, inr, refl, sym, ◌∙◌, ap, subst, arith, List, [], ◌∷◌, ◌++◌, length, take, Contains, Option, Some, None, slice_get, NetAddr, RawAddr, BlockFields, MessageFields, AddressParts, RowParts, AreCollected, Entry, standing, of_tlvs, of_block, of_blocks, collected, IsIn, addresses, IsRowOf, IsTable, AreAt, TellsRows, after, tell, no_parts, contains_cases, contains_none as none_in, item_at as get_some, contains_at, place_in}
use Rattle.std.proofs.lemmas.List.{take_at}
use Rattle.mesh_wire.proofs.Collected.{AnyOf, At, StandsOf, any_front, any_back, collected_is}
use Rattle.mesh_wire.proofs.Collecting.{one_net, in_none, all_after}
use Rattle.mesh_wire.proofs.Entries.{there_stands, has_of}
use Rattle.mesh_wire.proofs.Standing.{get_within, get_or_index, at_told, told_at}

either_part : {X : Type 0} (xs ys : List X) (p : ℕ) (x : X) → slice_get (xs ++ ys) p ≡ Some x → (slice_get xs p ≡ Some x) ⊎ ((q : ℕ) × (slice_get ys q ≡ Some x))
either_part [] ys p x e = inr (p, e)
either_part (y ∷ xs) ys zero x e = inl e
either_part (y ∷ xs) ys (suc p) x e = either_part xs ys p x e

front_at : {X : Type 0} (xs ys : List X) (p : ℕ) (x : X) → slice_get xs p ≡ Some x → (q : ℕ) × (slice_get (xs ++ ys) q ≡ Some x)
front_at [] ys p x e = absurd (cc)
front_at (y ∷ xs) ys zero x e = (zero, e)
front_at (y ∷ xs) ys (suc p) x e = let (q, f) = front_at xs ys p x e in (suc q, f)

back_at : {X : Type 0} (xs ys : List X) (p : ℕ) (x : X) → slice_get ys p ≡ Some x → (q : ℕ) × (slice_get (xs ++ ys) q ≡ Some x)
back_at [] ys p x e = (p, e)
back_at (y ∷ xs) ys p x e = let (q, f) = back_at xs ys p x e in (suc q, f)

-- an address of the blocks stands among the entries
stands_in : (blocks : List BlockFields) (net : NetAddr) (p : ℕ) (a : RawAddr) → slice_get (addresses blocks) p ≡ Some a → IsIn a net → AnyOf (StandsOf net) (of_blocks blocks)
stands_in [] net p a e is = absurd (cc)
stands_in (b ∷ blocks) net p a e is = elim (either_part b.addrs (addresses blocks) p a e) [
  | inl here ↦ any_front (StandsOf net) (of_block b) (of_blocks blocks) (any_front (StandsOf net) (standing b.addrs) (of_tlvs b.addrs b.tlvs) (there_stands net b.addrs p a here is))
  | inr (q, later) ↦ any_back (StandsOf net) (of_block b) (of_blocks blocks) (stands_in blocks net q a later is)
]

in_addresses : (blocks : List BlockFields) (b : BlockFields) (p : ℕ) (a : RawAddr) → Contains blocks b → slice_get b.addrs p ≡ Some a → (q : ℕ) × (slice_get (addresses blocks) q ≡ Some a)
in_addresses [] b p a has e = absurd (none_in b has)
in_addresses (c ∷ blocks) b p a has e = elim (contains_cases c blocks b has) [
  | inl same ↦ front_at c.addrs (addresses blocks) p a (subst (λ (x : BlockFields). slice_get x.addrs p ≡ Some a) (sym same) e)
  | inr later ↦ let (q, f) = in_addresses blocks b p a later e in back_at c.addrs (addresses blocks) q a f
]

told_to : (es : List Entry) (rows : List AddressParts) (i : ℕ) (t : AddressParts) → slice_get rows i ≡ Some t → (s : AddressParts) × (slice_get (tell es rows) i ≡ Some s) × (s.net ≡ t.net)
told_to es [] i t e = absurd (cc)
told_to es (r ∷ rows) zero t e = (record { net = r.net; parts = after r.net es r.parts }, refl, (let same : r ≡ t = cc in ap (λ (x : AddressParts). x.net) same))
told_to es (r ∷ rows) (suc i) t e = told_to es rows i t e

pub stands_if : (H : Type 0) (S : ℕ → List ℕ → Type 0) (row : Option RowParts) (parts : RowParts) → row ≡ Some parts → At H S row → H
stands_if H S row parts e h = grind (arith, common_steps)

module _ (m : MessageFields) (old : List AddressParts) (row_of : List ℕ) (table : IsTable (addresses m.blocks) old row_of) where
  abbrev pub es : List Entry
  es = of_blocks m.blocks

  row_there : (net : NetAddr) (a : RawAddr) → IsIn a net → (o : Option AddressParts) → IsRowOf a o → (t : AddressParts) × (o ≡ Some t) × (t.net ≡ net)
  row_there net a is (Some t) h = (t, refl, one_net a t.net net h is)
  row_there net a is None long = absurd (in_none a net long is)

  pub all_told : (new : List AddressParts) → new ≡ tell es old → AreCollected es new
  all_told new told = subst (AreCollected es) (sym told) (record {
    ascending = λ i j d lt less. (at_told es old (addresses m.blocks) row_of table.at).ascending i j _ _ lt (get_or_index (tell es old) i d (omega (arith, lt, less))) (get_or_index (tell es old) j d less);
    each = λ t has. (
        let (i, at) = place_in (tell es old) t has in
        let (s, was, net, parts) = told_at es old i t at in
        let (p, a, there, is) = table.there i s was in
        let all : collected s.net es None ≡ Some (after s.net es no_parts) = all_after s.net es (stands_in m.blocks s.net p a there is) in
        subst (λ (n : NetAddr). collected n es None ≡ Some t.parts) net
        (all ∙ ap (λ (r : RowParts). Some (after s.net es r)) (sym (table.fresh i s was)) ∙ ap Some parts));
    all = λ net parts at. (
        let stands = stands_if _ _ (collected net es None) parts at (collected_is net es) in
        let (b, place, here) = has_of m net stands in
        let (q, there) = in_addresses m.blocks b place here.address here.in_message here.in_block in
        let (row, is_row) = get_some row_of q (let w = get_within (addresses m.blocks) q here.address there in omega (arith, w, table.at.count)) in
        let (t, was, same) = row_there net here.address here.is_in (slice_get old row) (table.at.each q row here.address there is_row) in
        let (s, now, is) = told_to es old row t was in
        (s, contains_at (tell es old) row s now, is ∙ same));
  })

tell_len : (entries : List Entry) (rows : List AddressParts) → length (tell entries rows) ≡ length rows
tell_len entries [] = refl
tell_len entries (r ∷ rows) = let e = tell_len entries rows in omega arith

-- the rows as they are written back
pub whole : (m : MessageFields) (first second : List BlockFields) (items start new left : List AddressParts) (row_of places : List ℕ) (len : ℕ) → first ≡ m.blocks → second ≡ m.blocks → start ≡ items → places ≡ row_of → length start ≡ len →
    IsTable (addresses first) items row_of → TellsRows start (addresses second) places (of_blocks second) new → AreCollected (of_blocks m.blocks) (take len (new ++ left))
whole m first second items start new left row_of places len e f g h size table tells =
    let here : IsTable (addresses m.blocks) items row_of = subst (λ (bs : List BlockFields). IsTable (addresses bs) items row_of) e table in
    let at : AreAt start (addresses second) places = subst (λ (bs : List BlockFields). AreAt start (addresses bs) places) (sym f) (subst (AreAt start (addresses m.blocks)) (sym h) (subst (λ (ts : List AddressParts). AreAt ts (addresses m.blocks) row_of) (sym g) here.at)) in
    let told : new ≡ tell (of_blocks m.blocks) items = tells at ∙ ap (λ (bs : List BlockFields). tell (of_blocks bs) start) f ∙ ap (tell (of_blocks m.blocks)) g in
    let same_len : len ≡ length new = (
    let a = ap (λ (ts : List AddressParts). length ts) told in
    let b = tell_len (of_blocks m.blocks) items in
    let c = ap (λ (ts : List AddressParts). length ts) g in
    omega (arith, a, b, c, size)) in
    subst (AreCollected (of_blocks m.blocks)) (sym (take_at new left len (sym same_len))) (all_told m items row_of here new told)

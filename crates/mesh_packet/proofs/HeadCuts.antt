-- Where a message's head is cut off it is refused there, and octets of its size always are one.
use Rattle.mesh_packet.proofs.Common.{◌≡◌, ℕ, ◌+◌, ◌-◌, ◌≤◌, List, ◌++◌, length, take, drop, Option, Ok, sym, ap, subst, ◌∙◌, arith, slice_range, common_steps, length-take, length-drop, take-append-drop, Reading, refuse, has, Stands, behind, range_length, RawAddr, MessageHeader, SpellsMessageHead, HeadCut, originator_cut, limit_cut, count_cut, sequence_cut, width_of, originator_size, limit_size, count_size, head_size, head_at}
use Rattle.mesh_packet.proofs.Fields.{IsField, octet_field, number_field, originator_field}

-- octets of the head's size are a head
pub head_some : (flags : ℕ) (text : List ℕ) → length text ≡ head_size flags → (o : Option RawAddr) × (l : Option ℕ) × (c : Option ℕ) × (q : Option ℕ) × SpellsMessageHead flags o l c q text
head_some flags text size =
    let n1 : ℕ = originator_size flags in
    let n2 : ℕ = limit_size flags in
    let n3 : ℕ = count_size flags in
    let r1 : List ℕ = drop n1 text in
    let r2 : List ℕ = drop n2 r1 in
    let r3 : List ℕ = drop n3 r2 in
    let m1 : length r1 ≡ length text - n1 = length-drop n1 text in
    let m2 : length r2 ≡ length r1 - n2 = length-drop n2 r1 in
    let m3 : length r3 ≡ length r2 - n3 = length-drop n3 r2 in
    let o = (originator_field (has flags 128) (width_of flags)).some (take n1 text) (omega (arith, length-take n1 text, size)) in
    let l = (octet_field (has flags 64)).some (take n2 r1) (omega (arith, length-take n2 r1, size, m1)) in
    let c = (octet_field (has flags 32)).some (take n3 r2) (omega (arith, length-take n3 r2, size, m1, m2)) in
    let q = (number_field (has flags 16)).some r3 (omega (arith, size, m1, m2, m3)) in (
      o.0,
      l.0,
      c.0,
      q.0,
      record {
        originator_text = take n1 text;
        limit_text = take n2 r1;
        count_text = take n3 r2;
        sequence_text = r3;
        originator_is = o.1;
        limit_is = l.1;
        count_is = c.1;
        sequence_is = q.1;
        whole =
            sym (take-append-drop n1 text)
            ∙ ap (λ (x : List ℕ). take n1 text ++ x) (sym (take-append-drop n2 r1) ∙ ap (λ (x : List ℕ). take n2 r1 ++ x) (sym (take-append-drop n3 r2)));
      },
    )

-- a field that fits is read, and so many octets are left
record Passes {A : Type 0} (read : List ℕ → ℕ → ℕ → Reading A) (s : List ℕ) (at size end : ℕ) : Type 0 where
  value : A
  reads : read s at end ≡ Ok (value, at + size)
  within : at + size ≤ end
  left : length (slice_range s (at + size) end) + size ≡ length (slice_range s at end)

passes : {A : Type 0} (read : List ℕ → ℕ → ℕ → Reading A) (Says : A → List ℕ → Type 0) (size : ℕ) → IsField read Says size → (s : List ℕ) (at end : ℕ) → at ≤ end → end ≤ length s → size ≤ length (slice_range s at end) → Passes read s at size end
passes {A} read Says size field s at end le fits enough =
    let all : List ℕ = slice_range s at end in
    let text : List ℕ = take size all in
    let long : length text ≡ size = omega (arith, length-take size all) in
    let stands : Stands s at text (drop size all) end = record { parts = sym (take-append-drop size all); at_end = le; fits = fits } in
    let x = field.some text long in
    let within : at + size ≤ end = omega (arith, (behind s at text (drop size all) end stands).1, long) in
    record {
      value = x.0;
      reads = subst (λ (n : ℕ). read s at end ≡ Ok (x.0, at + n)) long (field.again s at x.0 text (drop size all) end stands x.1);
      within = within;
      left = omega (arith, range_length s (at + size) end fits, range_length s at end fits, within);
    }

pub head_cut_again : (flags : ℕ) (s : List ℕ) (at end place : ℕ) → at ≤ end → end ≤ length s → HeadCut flags (slice_range s at end) place → head_at flags s at end ≡ refuse (at + place) 1
unfolding head_at
head_cut_again flags s at end place le fits (originator_cut cut) = grind (arith, common_steps, originator_field)
head_cut_again flags s at end place le fits (limit_cut enough cut) = grind (arith, common_steps, originator_size, originator_field, octet_field)
head_cut_again flags s at end place le fits (count_cut enough cut) =
    let n1 : ℕ = originator_size flags in
    let n2 : ℕ = limit_size flags in
    let p1 = passes _ _ n1 (originator_field (has flags 128) (width_of flags)) s at end le fits (omega (arith, enough)) in
    let p2 = passes _ _ n2 (octet_field (has flags 64)) s (at + n1) end p1.within fits (omega (arith, enough, p1.left)) in
    let sum : at + n1 + n2 ≡ at + (n1 + n2) = omega arith in
    rw (p1.reads, p2.reads, (octet_field (has flags 32)).cut s (at + n1 + n2) end fits (omega (arith, cut, p1.left, p2.left))) (ap (λ (k : ℕ). refuse {A = MessageHeader × ℕ} k 1) sum)
head_cut_again flags s at end place le fits (sequence_cut enough cut) =
    let n1 : ℕ = originator_size flags in
    let n2 : ℕ = limit_size flags in
    let n3 : ℕ = count_size flags in
    let p1 = passes _ _ n1 (originator_field (has flags 128) (width_of flags)) s at end le fits (omega (arith, enough)) in
    let p2 = passes _ _ n2 (octet_field (has flags 64)) s (at + n1) end p1.within fits (omega (arith, enough, p1.left)) in
    let p3 = passes _ _ n3 (octet_field (has flags 32)) s (at + n1 + n2) end p2.within fits (omega (arith, enough, p1.left, p2.left)) in
    let sum : at + n1 + n2 + n3 ≡ at + (n1 + n2 + n3) = omega arith in
    rw (p1.reads, p2.reads, p3.reads, (number_field (has flags 16)).cut s (at + n1 + n2 + n3) end fits (omega (arith, cut, p1.left, p2.left, p3.left))) (ap (λ (k : ℕ). refuse {A = MessageHeader × ℕ} k 1) sum)

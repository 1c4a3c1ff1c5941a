use Rattle.mesh_bases.proofs.Common.{◌≡◌, ◌+◌, ◌%◌, ◌++◌, ◌∷◌, [], ℕ, List, length, map, drop, get_or, refl, sym, ap, subst, arith, ◌∙◌, Bool, nat_eq, append-nil, append_assoc, length-map, RouterSettings, TcRow, PartSpan, part_of, Derived, Frame, on_each, SendsParts, No_part, First_part}
use Rattle.std.proofs.Math.ListN.{drop_of_length-le}
use Rattle.mesh_bases.proofs.SendingLemmas.PartRows.{parts_behind, next_number}
use Rattle.mesh_bases.proofs.sending.tcs.send_spans.Goals as goal

pub loop-i-preserved : goal.loop-i-preserved
loop-i-preserved c =
    let d : PartSpan = record { first = 0; len = 0 } in
    let derived : Derived = c.args.derived.now in
    let spans : List PartSpan = c.args.spans.now in
    let i : ℕ = c.loop-i.i in
    let value : List ℕ = c.args.validity.now in
    let whole : Bool = nat_eq (length spans) 1 in
    let mapped : List (List TcRow) = map (part_of derived.rows) spans in
    let number : ℕ = c.loop-i.sequence in
    let bytes : List ℕ = c.in_ok-bytes.bytes in
    let frames : List Frame = on_each (length c.args.settings.now.interfaces) bytes in
    let (sent, out, all) = c.loop-i.invariant.sent in
    let (tc, writes, is) = c.in_ok-bytes.ensures in
    let put : c.send_on_each.new.self ≡ c.loop-i.out ++ frames =
    c.in_ok-send_on_each.ensures.ok ∙ (ap (λ (n : ℕ). c.loop-i.out ++ on_each n c.as_slice.result.now) c.len.ensures ∙ ap (λ (b : List ℕ). c.loop-i.out ++ on_each (length c.args.settings.now.interfaces) b) c.as_slice.ensures) in
    record {
      sent = (
        sent ++ frames,
        put ∙ (ap (λ (f : List Frame). f ++ frames) out ∙ append_assoc c.args.out.now sent frames),
        λ s settings has more sends.
            let next : SendsParts s value whole ((number + 1) % 65536) (drop (i + 1) mapped) more = sends in
            subst (λ (f : List Frame). SendsParts s value whole derived.sequence mapped f) (sym (append_assoc sent frames more))
            (all s settings has (frames ++ more)
            (subst (λ (parts : List (List TcRow)). SendsParts s value whole number parts (frames ++ more)) (sym (parts_behind derived.rows spans i d c.loop-i-test.true))
            (subst (λ (r : RouterSettings). SendsParts s value whole number (part_of derived.rows (get_or spans i d) ∷ drop (i + 1) mapped) (on_each (length r.interfaces) bytes ++ more)) settings
            (First_part tc bytes (is s settings has) (rw settings writes) next)))),
      );
      number = next_number derived.sequence i number _ c.loop-i.invariant.number refl;
    }

pub returns-clause-sent : goal.returns-clause-sent
returns-clause-sent c =
    let derived : Derived = c.args.derived.now in
    let spans : List PartSpan = c.args.spans.now in
    let value : List ℕ = c.args.validity.now in
    let whole : Bool = nat_eq (length spans) 1 in
    let mapped : List (List TcRow) = map (part_of derived.rows) spans in
    let (sent, out, all) = c.loop-i.invariant.sent in
    let done : c.loop-i.i ≡ length spans = omega arith in
    let none : drop c.loop-i.i mapped ≡ [] = drop_of_length-le mapped (let size = length-map spans (part_of derived.rows) in omega (arith, done, size)) in (
      sent,
      out,
      c.loop-i.invariant.number ∙ ap (λ (n : ℕ). (derived.sequence + n) % 65536) done,
      λ s settings has.
          subst (λ (f : List Frame). SendsParts s value whole derived.sequence mapped f) (append-nil sent)
          (all s settings has [] (subst (λ (parts : List (List TcRow)). SendsParts s value whole c.loop-i.sequence parts []) (sym none) No_part)),
    )

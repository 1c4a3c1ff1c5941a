use Rattle.mesh_texts.proofs.Common.{◌≡◌, ◌+◌, ◌-◌, ◌++◌, List, ℕ, take, drop, ap, ◌∙◌, arith, append_assoc, sym, encode_lower}
use Rattle.mesh_texts.proofs.LinesLemmas.Digits.{digits_none, digits_more}
use Rattle.mesh_texts.proofs.lines.pieces.put_hex.Goals as goal

pub loop-at-init : goal.loop-at-init
loop-at-init c = record { within = omega arith; wrote = digits_none c.args.out.now c.args.octets.now }

pub loop-at-preserved : goal.loop-at-preserved
loop-at-preserved c =
    let i = c.loop-at.invariant in
    let octets : List ℕ = c.args.octets.now in
    let at : ℕ = c.loop-at.at in
    let size : ℕ = c.min-size.result in
    let same : at + size - at ≡ size = omega arith in
    let put : c.put_short_hex.new.out ≡ c.loop-at.out ++ encode_lower (take size (drop at octets)) = rw same at c.in_ok-put_short_hex.ensures.ok in
    record {
      within = omega arith;
      wrote = put ∙ ap (λ (l : List ℕ). l ++ encode_lower (take size (drop at octets))) i.wrote
          ∙ append_assoc c.args.out.now (encode_lower (take at octets)) (encode_lower (take size (drop at octets)))
          ∙ ap (λ (l : List ℕ). c.args.out.now ++ l) (sym (digits_more octets at size));
    }

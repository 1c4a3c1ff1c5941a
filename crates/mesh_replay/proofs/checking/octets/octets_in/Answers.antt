use Rattle.mesh_replay.proofs.Common.{◌≡◌, ℕ, List, sym, ◌∙◌, ap, subst, Some, Option, IfSome, false≢true, encode_lower, if_ok_weaker}
use Rattle.mesh_replay.proofs.FramesLemmas.Items.{only_octets, no_octets}
use Rattle.mesh_replay.proofs.checking.octets.octets_in.Goals as goal
use Rattle.mesh_replay.proofs.checking.octets.octets_in.Goals.{then-is_lower, else-is_lower}

pub returns-after-is_lower : goal.returns-after-is_lower
returns-after-is_lower c = elim c.if-is_lower.branch [
  | then-is_lower w ↦ record {
    some = subst (λ (o : Option (List ℕ)). IfSome o (λ octets. encode_lower octets ≡ c.args.digits.now)) (sym w.result-is)
        (ap encode_lower (w.from_vec.ensures ∙ sym c.as_slice.ensures.value) ∙ c.in_ok-is_lower-in-Ok.ensures.0 w.if-is_lower.true);
    only = λ other are same. w.result-is ∙ ap (λ (l : List ℕ). Some l) (w.from_vec.ensures ∙ only_octets c.args.digits.now c.in-Ok.octets.items c.in-Ok.ensures.ok other are same);
  }
  | else-is_lower w ↦ record {
    some = subst (λ (o : Option (List ℕ)). IfSome o (λ octets. encode_lower octets ≡ c.args.digits.now)) (sym w.result-is) tt;
    only = λ other are same. absurd (false≢true (sym w.if-is_lower.false ∙ c.in_ok-is_lower-in-Ok.ensures.1
        (ap encode_lower (c.as_slice.ensures.value ∙ only_octets c.args.digits.now c.in-Ok.octets.items c.in-Ok.ensures.ok other are same) ∙ same)));
  }
]

pub returns-in-Err : goal.returns-in-Err
returns-in-Err c = if_ok_weaker c.none_for.result
    (λ told (none, not). record {
      some = subst (λ (o : Option (List ℕ)). IfSome o (λ octets. encode_lower octets ≡ c.args.digits.now)) (sym none) tt;
      only = λ other are same. no_octets c.args.digits.now c.in-Err.fault told c.in-Err.ensures.err not other are same;
    }) c.none_for.ensures

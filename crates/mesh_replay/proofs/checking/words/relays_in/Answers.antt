use Rattle.mesh_replay.proofs.Common.{arith, common_steps, ◌≡◌, sym, ◌∙◌, ap, Decides-eqb, not_from_Decides, slice_eq-Decides, relays_text}
use Rattle.mesh_replay.proofs.RelaysLemmas.Words.{none_alone, none_text, spaced_text}
use Rattle.mesh_replay.proofs.checking.words.relays_in.Goals as goal

pub returns-then-eq : goal.returns-then-eq
returns-then-eq c = grind (arith, common_steps, slice_eq-Decides, none_text, none_alone, c.eq.ensures, c.as_slice.ensures, c.new.ensures)

pub returns-in_default : goal.returns-in_default
returns-in_default c = record {
  some = tt;
  only = λ relays wide is.
      (let decides = slice_eq-Decides Decides-eqb c.args.text.now c.as_slice.result.now c.eq.result c.eq.ensures in
      let other = not_from_Decides c.eq.result decides c.if-eq.false in
      let read = c.in_ok-relays.ensures relays wide (spaced_text relays c.args.text.now is (λ e. other (e ∙ sym c.as_slice.ensures))) in
      sym c.in_default.is ∙ read);
}

pub returns-then-branch : goal.returns-then-branch
returns-then-branch c = record {
  some = ap relays_text (sym c.as_slice-2.ensures) ∙ c.in_ok-tells.ensures.0 c.if-branch.true;
  only = λ relays wide is.
      (let decides = slice_eq-Decides Decides-eqb c.args.text.now c.as_slice.result.now c.eq.result c.eq.ensures in
      let other = not_from_Decides c.eq.result decides c.if-eq.false in
      let read = c.in_ok-relays.ensures relays wide (spaced_text relays c.args.text.now is (λ e. other (e ∙ sym c.as_slice.ensures))) in
      sym c.in-Some.is ∙ read);
}

pub returns-else-branch : goal.returns-else-branch
returns-else-branch c = record {
  some = tt;
  only = λ relays wide is.
      (let decides = slice_eq-Decides Decides-eqb c.args.text.now c.as_slice.result.now c.eq.result c.eq.ensures in
      let other = not_from_Decides c.eq.result decides c.if-eq.false in
      let read = c.in_ok-relays.ensures relays wide (spaced_text relays c.args.text.now is (λ e. other (e ∙ sym c.as_slice.ensures))) in
      let same : c.as_slice-2.result.now ≡ relays = (let found = c.in-Some.is in let list = c.as_slice-2.ensures in cc) in
      let yes = c.in_ok-tells.ensures.1 (ap relays_text same ∙ is) in
      let no = c.if-branch.false in cc);
}

use Rattle.mesh_replay.proofs.Common.{ℕ, ◌∙◌, ap, refl, subst, sym, TcsDue, Derived, router_state, tc_items}
use Rattle.mesh_replay.proofs.checking.renewal.take_due_lines.Goals as goal

pub returns : goal.returns
returns c =
    let hellos = c.take_hellos-hellos.ensures in
    let tcs = c.in_ok-parts.ensures in
    let new = c.take_parts.new.derived in
    let third = c.take_parts.ensures.others in
    record {
      hellos = λ was held next settings. hellos.due was (router_state held new) next.next_hello settings (ap (λ (d : Derived). d.last) third ∙ ap (λ (d : Derived). d.last) hellos.others) (ap (λ (d : Derived). d.next_hello) third);
      tcs = λ was held next settings. subst (λ (n : ℕ). TcsDue was (router_state held new) (tc_items (router_state held new) n c.in_ok-parts.parts)) (ap (λ (d : Derived). d.sequence) hellos.others)
          (tcs.due was held (next.next_tc ∙ sym (ap (λ (d : Derived). d.next_tc) hellos.others)) (next.sequence ∙ sym (ap (λ (d : Derived). d.sequence) hellos.others)) settings);
      within = tcs.within;
      before_is = refl;
      none = c.new.ensures;
      others = third ∙ (ap (λ (t : Derived). let x : Derived = record t { next_tc = new.next_tc; sequence = new.sequence } in x) hellos.others
          ∙ ap (λ (n : ℕ). let x : Derived = record c.args.derived.now { next_hello = n; next_tc = new.next_tc; sequence = new.sequence } in x) (sym (ap (λ (x : Derived). x.next_hello) third)));
    }

use Rattle.mesh_replay.proofs.Common.{arith, common_steps, ◌∙◌, inl, inr, refl, some_or_none}
use Rattle.mesh_replay.proofs.checking.renewal.begin.Goals as goal

pub returns-then-quiet : goal.returns-then-quiet
returns-then-quiet g c =
    let none = c.replace-relays.ensures.after ∙ c.nothing_told.ensures in
    record {
      rows = inl (c.if-quiet.true, refl);
      ansn = inl (refl, refl);
      emptied = inr (some_or_none c.args.derived.now.rows, refl);
      others = rw none refl;
      relays = c.replace-relays.ensures.value;
      stand = λ stands. c.if-quiet.true;
    }

pub returns : goal.returns
returns g c = grind (arith, common_steps, c.replace-relays.ensures.after, c.nothing_told.ensures, c.in_ok-renew_rows.ensures.rows, c.in_ok-renew_rows.ensures.ansn, c.in_ok-renew_rows.ensures.emptied, c.renew_rows.ensures.others)

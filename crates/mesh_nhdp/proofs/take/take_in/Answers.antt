use Rattle.mesh_nhdp.proofs.Common.{not-false, ◌<◌, refl, sym, subst, Taken, Broken_at, Breaks, Takes, told_of, Judges}
use Rattle.mesh_nhdp.proofs.Judges.{overfull, taken_sound}
use Rattle.mesh_nhdp.proofs.RowsRepeat.{both_true}
use Rattle.mesh_nhdp.proofs.RepeatsLaw.{repeats_same, unchanged_same}
use Rattle.mesh_nhdp.proofs.take.take_in.Goals as goal

pub returns-in-Breaks : goal.returns-in-Breaks
returns-in-Breaks g c =
    let arrival = c.args.arrival.now in
    let judged = subst (Judges c.args.settings.now arrival.iface arrival.sender arrival.hello.now c.args.sets.now) c.in-Breaks.is c.in_ok-number.ensures in
    record { ok = (Broken_at c.in-Breaks.number, refl, Breaks c.in-Breaks.number judged); same = λ unchanged. unchanged_same _ arrival.moment; sound = c.requires.sound }

pub returns-in-Overfills : goal.returns-in-Overfills
returns-in-Overfills g c =
    let arrival = c.args.arrival.now in
    let judged = subst (Judges c.args.settings.now arrival.iface arrival.sender arrival.hello.now c.args.sets.now) c.in-Overfills.is c.in_ok-number.ensures in
    record {
      ok = overfull c.args.settings.now arrival.moment arrival.iface arrival.sender arrival.hello.now c.args.sets.now c.in-Overfills.base judged;
      same = λ unchanged. unchanged_same _ arrival.moment;
      sound = c.requires.sound;
    }

pub returns-in_ok-rows-in-Fits : goal.returns-in_ok-rows-in-Fits
returns-in_ok-rows-in-Fits g c =
    let settings = c.args.settings.now in
    let arrival = c.args.arrival.now in
    let told = told_of c.in-Fits.telling in
    let heard = c.in_ok-rows-in-Fits.ensures in
    let (fault, tells, few, room) = subst (Judges settings arrival.iface arrival.sender arrival.hello.now c.args.sets.now) c.in-Fits.is c.in_ok-number.ensures in
    record {
      ok = (Taken, refl, Takes told fault tells few room heard.after);
      same = λ unchanged. (
          let both = both_true c.is_repeated-repeated.result c.in_ok-rows-in-Fits.rows (not-false _ unchanged) in
          repeats_same settings arrival.moment arrival.iface told arrival.hello.now arrival.own.now c.requires.own c.args.sets.now c.hear.new.sets
          (subst (λ n. 0 < n) (sym tells.validity) c.requires.ready.lasts) c.requires.sound heard.after (c.is_repeated-repeated.ensures both.0) (heard.repeats both.1));
      sound = taken_sound settings arrival.moment arrival.iface arrival.sender arrival.hello.now told c.args.sets.now c.hear.new.sets fault tells c.requires.ready.lasts c.requires.sound heard.after few room;
    }

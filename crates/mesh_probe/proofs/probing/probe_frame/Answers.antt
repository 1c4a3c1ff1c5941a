use Rattle.mesh_probe.proofs.Common.{ℕ, ◌<◌, ◌∷◌, [], List, length, arith, sym, ap, subst, RouterSettings, State, IsRoundedUp, IsLeastCode, Everywhere, WritesLeastTc}
use Rattle.mesh_atoms.specs.declared.tc.TcRow.{TcRow}
use Rattle.mesh_atoms.specs.Writable.{AreOneType, HaveTypeWhole}
use Rattle.mesh_machine.proofs.nhdp.TcCounts.{tc_rows_few}
use Rattle.mesh_probe.proofs.OneTime.{least_is_rounded}
use Rattle.mesh_probe.proofs.probing.probe_frame.Goals as goal
use Rattle.mesh_bases.proofs.SendingLemmas.Written.{sent_if_some, rows_one_type, rows_whole}

pub write_tc-requires-clause-few : goal.write_tc-requires-clause-few
write_tc-requires-clause-few g c =
    let p : State = g.R.RouterView.state c.args.router.now in
    let few = tc_rows_few p p.last p.rows c.requires.neighbourhood c.requires.rows in
    let same = ap (λ (rows : List TcRow). length rows) c.in_ok-tc.ensures.rows in
    omega (arith, few, same)

pub write_tc-requires-clause-interval : goal.write_tc-requires-clause-interval
write_tc-requires-clause-interval g c = let (time, at, rounded) = c.in_ok-tc.ensures.interval in sent_if_some _ _ time at rounded

pub write_tc-requires-clause-kinds : goal.write_tc-requires-clause-kinds
write_tc-requires-clause-kinds g c =
    let p : State = g.R.RouterView.state c.args.router.now in
    subst (λ (rows : List TcRow). AreOneType rows) (sym c.in_ok-tc.ensures.rows) (rows_one_type p p.rows c.requires.rows)

pub write_tc-requires-clause-whole : goal.write_tc-requires-clause-whole
write_tc-requires-clause-whole g c =
    let p : State = g.R.RouterView.state c.args.router.now in
    subst (λ (rows : List TcRow). HaveTypeWhole rows) (sym c.in_ok-tc.ensures.rows) (rows_whole p p.rows c.requires.rows)

pub write_tc-requires-clause-value : goal.write_tc-requires-clause-value
write_tc-requires-clause-value g c = Everywhere c.hold_code.ensures.sent

pub write_tc-requires-clause-near : goal.write_tc-requires-clause-near
write_tc-requires-clause-near g c =
    least_is_rounded c.settings.result.now.times.topology_hold c.in_ok-tc.tc.validity c.hold_code.result
    (subst (λ (r : RouterSettings). IsRoundedUp r.times.topology_hold c.in_ok-tc.tc.validity) (sym c.settings.ensures) c.in_ok-tc.ensures.validity) c.hold_code.ensures

pub returns : goal.returns
returns g c = record {
  tc = c.in_ok-tc.tc;
  tc_is = c.in_ok-tc.ensures;
  code = c.hold_code.result;
  is_code = subst (λ (r : RouterSettings). IsLeastCode r.times.topology_hold c.hold_code.result) c.settings.ensures c.hold_code.ensures;
  writes = subst (λ (limit : ℕ). WritesLeastTc c.in_ok-tc.tc limit (c.hold_code.result ∷ []) c.in_ok-bytes.bytes) c.hop_limit_of.ensures.value c.in_ok-bytes.ensures.least;
  octet = subst (λ (limit : ℕ). limit < 256) c.hop_limit_of.ensures.value c.hop_limit_of.ensures.octet;
}

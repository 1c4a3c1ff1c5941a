use Rattle.mesh_wire.proofs.Common.{map, take, drop, length, ◌-◌, slice_range, on_ok_weaker, addr_fields, Adds, LaysAll}
use Rattle.mesh_wire.proofs.RunLaws.{columns_added}
use Rattle.mesh_wire.proofs.runs.+put_columns.Goals as goal

pub returns-in_ok-put_runs-in-len1-up : goal.returns-in_ok-put_runs-in-len1-up
returns-in_ok-put_runs-in-len1-up t c =
    let cs = c.args.columns.now in
    let lines = slice_range c.args.lines.now c.args.start c.args.end in
    let old = map addr_fields c.args.tlvs.now in
    let mid = map addr_fields c.put_runs.new.tlvs in
    let new = map addr_fields c.put_columns.new.tlvs in
    on_ok_weaker {P = Adds (LaysAll (take (length cs - 1) (drop 1 cs)) lines) mid new} {Q = Adds (LaysAll cs lines) old new} c.put_columns.result
    (columns_added cs lines _ old mid new c.in-len1-up.len_at_least c.in_ok-put_runs-in-len1-up.ensures) c.put_columns.ensures

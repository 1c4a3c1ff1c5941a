use Rattle.mesh_nhdp.proofs.Common.{◌<◌, ◌≤◌, ◌+◌, ◌-◌, sym, length, arith, told_of, iff_false}
use Rattle.mesh_nhdp.proofs.FewRows.{few_rows}
use Rattle.mesh_nhdp.proofs.Judges.{overfills, fits}
use Rattle.mesh_nhdp.proofs.judge.base_to_fill.Goals as goal

pub returns-then-len-room : goal.returns-then-len-room
returns-then-len-room g c settings own =
    let near = c.args.sets.now in
    let (count, most, rows) = few_rows settings (told_of c.args.telling.now) c.args.hello.now c.args.own.now c.as_slice-listed.result.now own (sym c.as_slice-listed.ensures) in
    let few : c.two_hop_count-room.result ≤ 16384 = omega (arith, c.two_hop_count-room.ensures, c.requires) in
    let all : length c.args.hello.now.rows ≤ 16384 - c.two_hop_count-room.result = omega (arith, c.len.ensures, c.if-len-room.true) in
    let room : c.two_hop_count-room.result + count ≤ 16384 = omega (arith, few, most, all) in (
      iff_false c.in_ok-is_full_of_addresses.ensures c.if-branch.false,
      fits settings c.args.iface near (told_of c.args.telling.now) c.args.hello.now count c.two_hop_count-room.result rows c.two_hop_count-room.ensures room,
    )

pub returns-then-count-room : goal.returns-then-count-room
returns-then-count-room g c settings own =
    let near = c.args.sets.now in
    let few : c.two_hop_count-room.result ≤ 16384 = omega (arith, c.two_hop_count-room.ensures, c.requires) in
    let more : 16384 < c.two_hop_count-room.result + c.in_ok-count.count = omega (arith, few, c.if-count-room.true) in (
      iff_false c.in_ok-is_full_of_addresses.ensures c.if-branch.false,
      overfills settings c.args.iface near (told_of c.args.telling.now) c.args.hello.now c.in_ok-count.count c.two_hop_count-room.result (c.in_ok-count.ensures settings (told_of c.args.telling.now) own (sym c.as_slice-listed.ensures))
          c.two_hop_count-room.ensures few more,
    )

pub returns-else-count-room : goal.returns-else-count-room
returns-else-count-room g c settings own =
    let near = c.args.sets.now in
    let few : c.two_hop_count-room.result ≤ 16384 = omega (arith, c.two_hop_count-room.ensures, c.requires) in
    let room : c.two_hop_count-room.result + c.in_ok-count.count ≤ 16384 = omega (arith, few, c.if-count-room.false) in (
      iff_false c.in_ok-is_full_of_addresses.ensures c.if-branch.false,
      fits settings c.args.iface near (told_of c.args.telling.now) c.args.hello.now c.in_ok-count.count c.two_hop_count-room.result (c.in_ok-count.ensures settings (told_of c.args.telling.now) own (sym c.as_slice-listed.ensures))
          c.two_hop_count-room.ensures room,
    )

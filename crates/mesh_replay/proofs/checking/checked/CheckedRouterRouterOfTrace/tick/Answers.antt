use Rattle.mesh_replay.proofs.Common.{refl, if_ok_weaker}
use Rattle.mesh_replay.proofs.RouterLemmas.Following.{begun, by_settings, expired, few_rows, tick_begins, ticks_so}
use Rattle.mesh_replay.proofs.checking.checked.CheckedRouterRouterOfTrace.tick.Goals as goal

pub take_due_lines-requires-clause-few : goal.take_due_lines-requires-clause-few
take_due_lines-requires-clause-few g c =
    let changes = expired c.args.self.now.holding c.expire.new.self c.args.self.now.derived c.requires.kept c.in_ok-quiet.ensures.settings c.in_ok-quiet.ensures.live c.in_ok-quiet.ensures.near in
    few_rows changes (begun c.expire.new.self c.settings-settings.ensures c.nhdp-near.ensures.near c.in_ok-before.ensures) c.begin.new.derived refl

pub returns-clause-ticks : goal.returns-clause-ticks
returns-clause-ticks g c =
    let changes = expired c.args.self.now.holding c.expire.new.self c.args.self.now.derived c.requires.kept c.in_ok-quiet.ensures.settings c.in_ok-quiet.ensures.live c.in_ok-quiet.ensures.near in
    let begins = begun c.expire.new.self c.settings-settings.ensures c.nhdp-near.ensures.near c.in_ok-before.ensures in
    if_ok_weaker c.take_due_lines.result (λ lines takes. ticks_so changes begins lines (by_settings c.settings-settings.ensures takes) c.in_ok-quiet.ensures.live) c.take_due_lines.ensures

pub returns-clause-begins : goal.returns-clause-begins
returns-clause-begins g c =
    let changes = expired c.args.self.now.holding c.expire.new.self c.args.self.now.derived c.requires.kept c.in_ok-quiet.ensures.settings c.in_ok-quiet.ensures.live c.in_ok-quiet.ensures.near in
    let begins = begun c.expire.new.self c.settings-settings.ensures c.nhdp-near.ensures.near c.in_ok-before.ensures in
    if_ok_weaker c.take_due_lines.result (λ lines takes. tick_begins changes begins lines (by_settings c.settings-settings.ensures takes)) c.take_due_lines.ensures

use Rattle.mesh_core.proofs.Common.{refl, ap, Derived}
use Rattle.mesh_core.proofs.EventLemmas.Endings.{ends_each}
use Rattle.mesh_core.proofs.event.ending.end_event.Goals as goal

pub returns-clause-ends : goal.returns-clause-ends
returns-clause-ends g c =
    ends_each c.args.wants c.args.outdated.now (record { relays = c.in_ok-outdated.field-0; routes = c.in_ok-outdated-2.field-0 }) c.args.quiet c.args.holding.now c.args.now c.args.derived.now
    (record c.renew_rows.new.derived { relays = c.renew_relays.new.relays; routes = c.renew_routes.new.routes; last = c.args.now })
    (record {
      near = c.requires.near;
      topology = c.requires.topology;
      last = refl;
      rows = rw (← c.settings-settings.ensures, ← c.nhdp-near.ensures.near) c.in_ok-renew_rows.ensures.rows;
      ansn = c.in_ok-renew_rows.ensures.ansn;
      emptied = c.in_ok-renew_rows.ensures.emptied;
      wants_relays = c.in_ok-outdated.ensures.wanted;
      relays = rw (← c.settings-settings.ensures, ← c.nhdp-near.ensures.near, ← ap (λ (d : Derived). d.relays) c.renew_rows.ensures.others) c.in_ok-outdated.ensures.current;
      wants_routes = c.in_ok-outdated-2.ensures.wanted;
      routes = rw (← ap (λ (d : Derived). d.routes) c.renew_rows.ensures.others) c.in_ok-outdated-2.ensures.current;
    })

use Rattle.mesh_emulate.proofs.Common.{Err, subst, MakesBoth, MakesWanted, WholeRunMakes, IsProbedText, ErrandMakes, Opened, AreRoutersAt, NetState}
use Rattle.mesh_emulate.proofs.Ends.{end_routers}
use Rattle.mesh_emulate.proofs.Parts.{run_over}
use Rattle.mesh_emulate.proofs.Putting.{puts_as, both_put, both_stop, wanted_starts}
use Rattle.mesh_emulate.proofs.emulation.tell_all.Goals as goal

pub probe_net-requires-clause-routers : goal.probe_net-requires-clause-routers
probe_net-requires-clause-routers g c =
    let (pieces, made, stands) = c.in-Ok.ensures.leaves in
    let s = c.args.scenario.now in
    let (run, same) = run_over s c.args.errand (g.N.Network.net c.args.net) (g.N.Network.net c.tell_net.new.net) pieces c.requires.opening made in
    subst (λ (n : NetState). AreRoutersAt s n.routers s.end) same (end_routers s run)

pub returns-in-Ok-clause-leaves : goal.returns-in-Ok-clause-leaves
returns-in-Ok-clause-leaves g c =
    let final = g.N.Network.net c.tell_net.new.net in
    let run = WholeRunMakes c.args.scenario.now c.args.errand (g.N.Network.net c.args.net) final in
    let probe = MakesWanted (IsProbedText c.args.scenario.now final.routers) c.args.errand.probe in
    puts_as (MakesBoth run probe) (ErrandMakes c.args.scenario.now c.args.errand) (g.O.Sink.content c.args.out.now) (g.O.Sink.content c.probe_net.new.out)
    (g.O.Sink.faults c.args.out.now) (g.O.Sink.faults c.probe_net.new.out) c.probe_net.result (λ pieces x both. Opened (g.N.Network.net c.args.net) final c.requires.opening both)
    (both_put run probe (g.O.Sink.content c.args.out.now) (g.O.Sink.content c.tell_net.new.out) (g.O.Sink.faults c.args.out.now) (g.O.Sink.faults c.tell_net.new.out)
    (g.O.Sink.content c.probe_net.new.out) (g.O.Sink.faults c.probe_net.new.out) c.probe_net.result c.in-Ok.ensures.leaves c.tell_net.ensures.later c.probe_net.ensures.leaves)

pub returns-in-Err-clause-leaves : goal.returns-in-Err-clause-leaves
returns-in-Err-clause-leaves g c =
    let final = g.N.Network.net c.tell_net.new.net in
    let run = WholeRunMakes c.args.scenario.now c.args.errand (g.N.Network.net c.args.net) final in
    let probe = MakesWanted (IsProbedText c.args.scenario.now final.routers) c.args.errand.probe in
    puts_as (MakesBoth run probe) (ErrandMakes c.args.scenario.now c.args.errand) (g.O.Sink.content c.args.out.now) (g.O.Sink.content c.tell_net.new.out)
    (g.O.Sink.faults c.args.out.now) (g.O.Sink.faults c.tell_net.new.out) (Err c.in-Err.stop) (λ pieces x both. Opened (g.N.Network.net c.args.net) final c.requires.opening both)
    (both_stop run probe (g.O.Sink.content c.args.out.now) (g.O.Sink.content c.tell_net.new.out) (g.O.Sink.faults c.args.out.now) (g.O.Sink.faults c.tell_net.new.out)
    c.in-Err.stop (wanted_starts (IsProbedText c.args.scenario.now final.routers) c.args.errand.probe) c.in-Err.ensures.leaves)

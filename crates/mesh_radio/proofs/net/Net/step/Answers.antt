use Rattle.mesh_radio.proofs.Common.{◌≡◌, ap, refl, NetValue, states_of}
use Rattle.mesh_radio.proofs.Happenings.{told_step, told_named, told_packets, sound_unless_spent}
use Rattle.mesh_radio.proofs.net.Net.step.Goals as goal

its_net : {v w : NetValue} → v ≡ w → v.net ≡ w.net
its_net e = ap (λ (v : NetValue). v.net) e

pub tell_next-came-requires : goal.tell_next-came-requires
tell_next-came-requires g c = record { sound = c.self.invariant c.if-self.false }

pub invariant_of-self : goal.invariant_of-self
invariant_of-self g c =
    sound_unless_spent 0 (states_of c.self.inside.cores.items) (states_of c.tell_next-came.new.routers.items) c.self.inside.scene c.tell_next-came.new.scene c.tell_next-came.result _ c.tell_next-came.ensures c.is_err-self-inside.ensures.value

pub returns-clause-step : goal.returns-clause-step
returns-clause-step g c =
    told_step (states_of c.self.inside.cores.items) (states_of c.tell_next-came.new.routers.items) c.self.inside.scene c.tell_next-came.new.scene c.tell_next-came.result c.tell_next-came.ensures c.args.self.now.net (its_net c.self.view_is)

pub returns-clause-named : goal.returns-clause-named
returns-clause-named g c =
    told_named (states_of c.self.inside.cores.items) (states_of c.tell_next-came.new.routers.items) c.self.inside.scene c.tell_next-came.new.scene c.tell_next-came.result c.tell_next-came.ensures c.args.self.now.net (its_net c.self.view_is)

pub returns-clause-packets : goal.returns-clause-packets
returns-clause-packets g c =
    told_packets (states_of c.self.inside.cores.items) (states_of c.tell_next-came.new.routers.items) c.self.inside.scene c.tell_next-came.new.scene c.tell_next-came.result c.tell_next-came.ensures

pub returns-clause-spent : goal.returns-clause-spent
returns-clause-spent g c = c.is_err-self-inside.ensures.value

pub returns-then-self-clause-step : goal.returns-then-self-clause-step
returns-then-self-clause-step g c = tt

pub returns-then-self-clause-named : goal.returns-then-self-clause-named
returns-then-self-clause-named g c = tt

pub returns-then-self-clause-packets : goal.returns-then-self-clause-packets
returns-then-self-clause-packets g c = tt

pub returns-then-self-clause-stays : goal.returns-then-self-clause-stays
returns-then-self-clause-stays g c = λ spent. refl

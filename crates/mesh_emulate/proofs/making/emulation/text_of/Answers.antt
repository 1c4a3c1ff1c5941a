use Rattle.mesh_emulate.proofs.Common.{arith, length-map, IfOk-weaker}
use Rattle.mesh_radio.specs.Value.{states_of}
use Rattle.mesh_emulate.proofs.MakingLemmas.Telling.{ends_with, at_end, few_states, made_text_is}
use Rattle.mesh_emulate.proofs.making.emulation.text_of.Goals as goal

pub text_at_end-requires-clause-network : goal.text_at_end-requires-clause-network
text_at_end-requires-clause-network g c =
    let net = c.run_until_end.new.self.net in
    let ends = ends_with c.args.scenario.now c.in_ok-net.net.net net c.in_ok-net.ensures.opening c.in_ok-run_until_end.ensures.over in
    at_end c.args.scenario.now net ends (states_of c.cores.result.now) c.cores.ensures

pub text_at_end-requires-clause-few : goal.text_at_end-requires-clause-few
text_at_end-requires-clause-few g c =
    let net = c.run_until_end.new.self.net in
    let ends = ends_with c.args.scenario.now c.in_ok-net.net.net net c.in_ok-net.ensures.opening c.in_ok-run_until_end.ensures.over in
    let few = few_states c.args.scenario.now net ends (states_of c.cores.result.now) c.cores.ensures in
    omega (arith, few, length-map c.cores.result.now (λ k. k.state))

pub returns : goal.returns
returns g c =
    let net = c.run_until_end.new.self.net in
    let ends = ends_with c.args.scenario.now c.in_ok-net.net.net net c.in_ok-net.ensures.opening c.in_ok-run_until_end.ensures.over in
    IfOk-weaker c.text_at_end.result _ _ (made_text_is c.args.scenario.now net ends (states_of c.cores.result.now) c.cores.ensures c.args.kind c.counts.result c.counts.ensures) c.text_at_end.ensures

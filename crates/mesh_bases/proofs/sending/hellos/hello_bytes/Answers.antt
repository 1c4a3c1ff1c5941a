use Rattle.mesh_bases.proofs.Common.{refl, if_ok_weaker}
use Rattle.mesh_bases.proofs.SendingLemmas.Written.{state_with, sent_time, sent_if_some, status_whole}
use Rattle.mesh_bases.proofs.sending.hellos.hello_bytes.Goals as goal

pub write_hello-requires-clause-validity : goal.write_hello-requires-clause-validity
write_hello-requires-clause-validity g c =
    let is = c.in_ok-hello.ensures.ok (state_with c.args.nhdp.now.settings c.args.nhdp.now.near c.args.relays.now) refl refl refl in sent_time _ _ is.validity

pub write_hello-requires-clause-interval : goal.write_hello-requires-clause-interval
write_hello-requires-clause-interval g c =
    let is = c.in_ok-hello.ensures.ok (state_with c.args.nhdp.now.settings c.args.nhdp.now.near c.args.relays.now) refl refl refl in
    let (time, at, rounded) = is.interval in sent_if_some _ _ time at rounded

pub write_hello-requires-clause-whole : goal.write_hello-requires-clause-whole
write_hello-requires-clause-whole g c =
    let is = c.in_ok-hello.ensures.ok (state_with c.args.nhdp.now.settings c.args.nhdp.now.near c.args.relays.now) refl refl refl in status_whole _ _ _ c.in_ok-hello.hello is

pub returns : goal.returns
returns g c = if_ok_weaker c.write_hello.result (λ bytes writes s settings near relays. (c.in_ok-hello.hello, c.in_ok-hello.ensures.ok s settings near relays, writes)) c.write_hello.ensures.writes

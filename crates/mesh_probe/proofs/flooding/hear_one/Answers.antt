use Rattle.mesh_probe.proofs.Common.{subst, map, At, State}
use Rattle.mesh_probe.proofs.Turns.{becomes, state_there, within}
use Rattle.mesh_probe.proofs.flooding.hear_one.Goals as goal

pub returns : goal.returns
returns g c =
    let (p, at, late, less) = c.requires.router in
    let states = map g.R.RouterView.state c.args.routers.now in
    let is = state_there g.R.RouterView.state c.args.routers.now c.args.arc.now.to p c.index-routers-arc.result at in
    record {
      p = _;
      q = _;
      sent = c.hear_frame.new.out;
      at = subst (λ (q : State). At states c.args.arc.now.to q) is at;
      step = c.in_ok-hear_frame.ensures.step;
      becomes = becomes g.R.RouterView.state c.args.routers.now c.args.arc.now.to c.hear_frame.new.self (within g.R.RouterView.state c.args.routers.now c.args.arc.now.to p at);
      sends = c.in_ok-put_sent.ensures;
      sendable = c.in_ok-hear_frame.ensures.sendable;
      settings = c.in_ok-hear_frame.ensures.settings;
      last = c.in_ok-hear_frame.ensures.last;
    }

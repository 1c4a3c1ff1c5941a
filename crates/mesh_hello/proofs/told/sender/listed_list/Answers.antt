use Rattle.mesh_hello.proofs.Common.{◌++◌, ◌∙◌, ap}
use Rattle.mesh_hello.proofs.Collect.{iff_on}
use Rattle.mesh_hello.proofs.ToldLemmas.Senders.{lists_all}
use Rattle.mesh_hello.proofs.told.sender.listed_list.Goals as goal

pub returns : goal.returns
returns c = (
  c.ascending.ensures.order,
  λ a. iff_on (c.ascending.ensures.same a)
      (lists_all c.args.hello.now c.args.sender c.in_ok-addrs.addrs.items c.in_ok-others.others.items _ c.in_ok-addrs.ensures c.in_ok-others.ensures
      (c.in_ok-extend_from_slice.ensures.items ∙ ap (λ more. c.in_ok-addrs.addrs.items ++ more) c.deref.ensures.value) a),
)

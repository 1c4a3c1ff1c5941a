use Rattle.mesh_bases.proofs.Common.{List, [], ◌∷◌, ◌++◌, sym, ap, ◌∙◌, Addr4, Selector, adds_one}
use Rattle.mesh_bases.proofs.Selectors.{one_selector}
use Rattle.mesh_bases.proofs.advertise.put_selector.Goals as goal

pub returns-in_ok-push : goal.returns-in_ok-push
returns-in_ok-push c = one_selector c.args.originator c.args.neighbour.now c.in-Some.metric c.args.selectors.now.items c.push.new.self.items (sym c.metric_of.ensures ∙ c.in-Some.is)
    (adds_one _ _ _ (c.in_ok-push.ensures.items ∙ ap (λ (addrs : List Addr4). let x : Selector = record { originator = c.args.originator; addrs = addrs; metric = c.in-Some.metric } in c.args.selectors.now.items ++ (x ∷ [])) c.in_ok-addrs.ensures))

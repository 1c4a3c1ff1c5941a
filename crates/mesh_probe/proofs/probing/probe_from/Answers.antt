use Rattle.mesh_probe.proofs.Common.{◌≡◌, List, length, map, get_or, refl, subst, slice_get_read, RouterSettings, Router}
use Rattle.mesh_probe.proofs.Beginning.{least_number, no_number}
use Rattle.mesh_probe.proofs.probing.probe_from.Goals as goal

pub returns-in_ok-coverage_of-in-Some-clause-number : goal.returns-in_ok-coverage_of-in-Some-clause-number
returns-in_ok-coverage_of-in-Some-clause-number g c =
    let s = c.args.scenario.now in
    let r : RouterSettings = c.index-as_slice-origin.result in
    let there : r ≡ get_or s.routers c.args.origin r = subst (λ (l : List RouterSettings). r ≡ get_or l c.args.origin r) c.as_slice.ensures c.index-as_slice-origin.is in
    let is : Router s c.args.origin r = slice_get_read s.routers (length s.routers) c.args.origin r refl c.requires.origin there in
    least_number s (map g.R.RouterView.state c.args.routers.now) c.args.origin r is c.originator-originator.result c.originator-originator.ensures.is c.originator-originator.ensures.only
    c.in-Some.number c.in_ok-coverage_of-in-Some.field-0 c.in_ok-coverage_of-in-Some.ensures.number c.in-Some.ensures

pub returns-in-None-clause-number : goal.returns-in-None-clause-number
returns-in-None-clause-number g c =
    let s = c.args.scenario.now in
    let r : RouterSettings = c.index-as_slice-origin.result in
    let there : r ≡ get_or s.routers c.args.origin r = subst (λ (l : List RouterSettings). r ≡ get_or l c.args.origin r) c.as_slice.ensures c.index-as_slice-origin.is in
    let is : Router s c.args.origin r = slice_get_read s.routers (length s.routers) c.args.origin r refl c.requires.origin there in
    no_number s (map g.R.RouterView.state c.args.routers.now) c.args.origin r is c.originator-originator.result c.originator-originator.ensures.is c.originator-originator.ensures.only c.in-None.ensures

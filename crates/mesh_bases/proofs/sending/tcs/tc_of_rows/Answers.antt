use Rattle.mesh_bases.proofs.Common.{refl, sym, subst, ◌∙◌, RouterSettings, IsOriginator}
use Rattle.mesh_bases.proofs.sending.tcs.tc_of_rows.Goals as goal

pub returns-clause-is : goal.returns-clause-is
returns-clause-is c = λ s is ansn. record {
  originator = subst (λ (r : RouterSettings). IsOriginator r c.originator.result) (sym is) c.originator.ensures.is;
  sequence_is = refl;
  ansn = sym ansn;
  complete_is = refl;
  validity_is = c.time_nearby.ensures;
  interval = (c.time_at_least.result, refl, rw is c.time_at_least.ensures);
  rows_are = c.from_vec.ensures ∙ c.in_ok-from_slice.ensures.items;
}

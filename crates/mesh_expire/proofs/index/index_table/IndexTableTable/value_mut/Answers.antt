use Rattle.mesh_expire.proofs.Common.{arith, common_steps, refl, sym, ap, option_map}
use Rattle.mesh_expire.proofs.Laws.{changed_at-absent}
use Rattle.mesh_expire.proofs.IndexLemmas.Moments.{written, still_indexed}
use Rattle.mesh_expire.proofs.index.index_table.IndexTableTable.value_mut.Goals as goal

pub invariant_of-self-lent : goal.invariant_of-self-lent
invariant_of-self-lent g c w =
    still_indexed g.K.PartialEq.eq g.met.K.Eq.laws c.self.inside.moments c.self.inside.map.entries _ c.args.key.now w c.self.invariant
    (written g.K.PartialEq.eq g.met.K.Eq.laws c.self.inside.map.entries _ c.args.key.now (λ e. (w, e.1)) c.in-Some.entry.now c.in-Some.ensures.unique (sym c.in-Some.ensures.value) (c.get_mut.follows.holds (w, c.in-Some.entry.now.1)).0)

pub returns-in-Some : goal.returns-in-Some
returns-in-Some g c =
    rw (← c.self.view_is) (
      (refl, λ w. written g.K.PartialEq.eq g.met.K.Eq.laws c.self.inside.map.entries _ c.args.key.now (λ e. (w, e.1)) c.in-Some.entry.now c.in-Some.ensures.unique (sym c.in-Some.ensures.value) (c.get_mut.follows.holds (w, c.in-Some.entry.now.1)).0, refl),
      record { lends = tt; value = ap (option_map (λ e. e.0)) c.in-Some.ensures.value; distinct = c.in-Some.ensures.unique },
    )

pub returns-in-None : goal.returns-in-None
returns-in-None g c = grind (arith, common_steps, changed_at-absent, c.in-None.ensures.value, c.in-None.ensures.unique)

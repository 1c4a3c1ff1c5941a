use Rattle.mesh_expire.proofs.Common.{common_steps, arith, refl, sym, ap, option_map}
use Rattle.mesh_expire.proofs.Laws.{changed_at-absent, distinct-changed_at}
use Rattle.mesh_expire.proofs.Places.{changes}
use Rattle.mesh_expire.proofs.list_table.ListTableTable.value_mut.Goals as goal

pub invariant_of-self-lent : goal.invariant_of-self-lent
invariant_of-self-lent g c w =
    rw (changes g.met.K.Eq.laws c.args.key.now (λ e. (w, e.1)) c.self.inside.entries.items c.in-Some.i c.index_mut.result.now c.index_mut.ensures.value c.in-Some.ensures.some c.self.invariant).0
    (distinct-changed_at g.K.PartialEq.eq c.args.key.now _ c.self.inside.entries.items c.self.invariant)

pub returns-in-Some : goal.returns-in-Some
returns-in-Some g c =
    let there = λ (w : g.row.V.Denot). changes g.met.K.Eq.laws c.args.key.now (λ e. (w, e.1)) c.self.inside.entries.items c.in-Some.i c.index_mut.result.now c.index_mut.ensures.value c.in-Some.ensures.some c.self.invariant in
    rw (← c.self.view_is) (
      (refl, λ w. (there w).0, refl),
      record { lends = tt; value = sym (ap (option_map (λ e. e.0)) (there c.index_mut.result.now.1.0).1); distinct = c.self.invariant },
    )

pub returns-in-None : goal.returns-in-None
returns-in-None g c = grind (arith, common_steps, changed_at-absent, c.in-None.ensures.none, c.self.invariant)

pub invariant_of-self : goal.invariant_of-self
invariant_of-self g c = c.self.invariant

use Rattle.mesh_expire.proofs.Common.{refl, sym, slice_get_within}
use Rattle.mesh_expire.proofs.IndexLemmas.Moments.{goes_from_place}
use Rattle.mesh_expire.proofs.index.index_table.remove_from_place.Goals as goal

pub returns-clause-indexed : goal.returns-clause-indexed
returns-clause-indexed g c =
    record {
      tells = goes_from_place g.K.PartialEq.eq g.met.K.Eq.laws c.args.moments.now c.take_key.new.moments c.args.map.now.entries c.swap_remove_index.new.self.entries c.args.place _ c.requires.tells c.requires.distinct
          (sym c.in-Some.ensures.entry) c.take_key.ensures (λ q. c.in-Some.ensures.updates.0 q);
      distinct = c.swap_remove_index.ensures.unique;
    }

pub returns-clause-found : goal.returns-clause-found
returns-clause-found g c = (λ _. slice_get_within c.args.map.now.entries c.args.place _ (sym c.in-Some.ensures.entry), λ _. refl)

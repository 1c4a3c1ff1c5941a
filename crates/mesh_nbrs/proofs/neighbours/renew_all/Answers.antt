use Rattle.mesh_nbrs.proofs.Common.{common_steps, ◌≡◌, ℕ, ◌≤◌, length, List, Option, Some, None, sym, refl, arith, addr_equiv, same_addr, Addr4, Neighbour, Base, find, addr_eq, LinkNote, Summary, by_summary, HasSummary, AreSummariesOf}
use Rattle.std.proofs.lemmas.Option.{slice_get_cases}
use Rattle.mesh_nbrs.proofs.Owning.{keeps_twice}
use Rattle.mesh_nbrs.proofs.Walks.{IsWalked, walk_begins, walk_on, walk_ends}
use Rattle.mesh_nbrs.proofs.neighbours.renew_all.Goals as goal

module _ (parts : List (Addr4 × Summary)) where
  -- what becomes of a neighbour, whatever the notes that the parts are of
  abbrev May : Neighbour × ℕ → Neighbour × ℕ → Type 0
  May old new = (notes : List LinkNote) → AreSummariesOf notes parts → HasSummary notes (Some old) (Some new)

  -- after a walk over all places
  all_walked : (before now : Base Addr4 Neighbour) (place : ℕ) → length now ≤ place → IsWalked addr_eq May before now place
      → (notes : List LinkNote) → AreSummariesOf notes parts → (o : Addr4) → HasSummary notes (find addr_eq before o) (find addr_eq now o)
  all_walked before now place all h notes are o = by_case (find addr_eq now o) refl where
    by_case : (new : Option (Neighbour × ℕ)) → find addr_eq now o ≡ new → HasSummary notes (find addr_eq before o) new
    by_case None is = rw (h.none o is) refl
    by_case (Some e) is = let was = walk_ends May before now place same_addr all h o e is in rw (was.1) (was.2 notes are)

pub loop-place-init : goal.loop-place-init
loop-place-init g c = record { walked = walk_begins _ _ addr_equiv c.requires; addrs = λ o. refl }

pub loop-place-preserved : goal.loop-place-preserved
loop-place-preserved g c =
    let before = g.T.Table.content c.args.table.now in
    let now = g.T.Table.content c.loop-place.table in
    let next = g.T.Table.content c.renew.new.table in
    record {
      walked = walk_on (May c.args.parts.now.entries) before now c.loop-place.place addr_equiv next c.in-Some.originator.now
          (c.in-Some.neighbour.now, c.in-Some.field-0-2) (λ e. (by_summary c.together.result e.0, c.together.result.until)) (sym c.in-Some.ensures)
          (λ notes are. (c.together.result, rw c.as_slice.ensures at (c.together.ensures notes are), refl)) c.in_ok-renew.ensures.ok c.loop-place.invariant.walked;
      addrs = keeps_twice before now next c.loop-place.invariant.addrs c.renew.ensures.addrs;
    }

pub returns-in-None-clause-ok : goal.returns-in-None-clause-ok
returns-in-None-clause-ok g c = grind (arith, common_steps, slice_get_cases, all_walked, c.in-None.ensures, c.loop-place.invariant.walked)

pub returns-clause-ok : goal.returns-clause-ok
returns-clause-ok g c = all_walked _ _ _ c.loop-place.place (omega (arith, c.loop-place.invariant.walked.len, c.len-place-end.ensures.value)) c.loop-place.invariant.walked

use Rattle.mesh_texts.proofs.Common.{List, ℕ, ◌++◌, drop, map, Wrote, Grows, AreSections}
use Rattle.mesh_texts.proofs.summary.put_sections.Given as goal

-- what stands, with the sections that are still to come, is the whole
abbrev pub invariant-loop-router : goal.invariant-loop-router
invariant-loop-router g l = record {
  kept : Grows l.fn.out l.out;
  text : (rest : List ℕ) → AreSections (map g.R.RouterView.state (drop l.router-index l.routers)) rest
      → Wrote (AreSections (map g.R.RouterView.state l.routers)) l.fn.out (l.out ++ rest);
}

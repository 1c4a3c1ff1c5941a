-- What holds of every made network, and what its text tells.
use Rattle.mesh_emulate.proofs.Common.{common_steps, ◌≡◌, ℕ, ◌+◌, List, [], ◌∷◌, ◌++◌, length, map, Option, None, Some, refl, sym, ap, ◌∙◌, subst, arith, codes, decimal, Contains, slice_get, length-map, NetAddr, RouterSettings, Scenario, Router, RadioLeast, At, Settled, MadeNetworksRunMachines, MadeNetworksTellSettled, Reached, AreRadioRoutes, TellsLeastRoutes, metrics_of, IsGreatest, settled_rows, IsSettledNetwork, line_after, line_end, begins_otherwise, number, counts_plain, nothing_plain, says_exactly, tells_whether, run_states, routers_are_runs, end_is_settled, IsLine, BeginsWith, WholeRun, Kind}
use Rattle.mesh_emulate.specs.Making.Lines.{kind_text, made_line, greatest_text, routes_line}
use Rattle.mesh_emulate.proofs.MakingLemmas.Reaching.{all_reached, metrics_same, where_from, is_there, all_apart}
use Rattle.mesh_texts.specs.Network.{counts_line, settled_text}

pub run_as_machines : MadeNetworksRunMachines
run_as_machines k n seed m = routers_are_runs m.scenario m.run

-- Lines

kind_line : (k : Kind) (l : List ℕ) → IsLine l → IsLine (kind_text k ++ l)
kind_line k l is = grind (arith, common_steps, line_after)

made_is_line : (k : Kind) (s : Scenario) → IsLine (made_line k s)
unfolding made_line
made_is_line k s =
    line_after (codes "made ") _ refl (kind_line k _
    (line_after (codes " routers ") _ refl (line_after (decimal (length s.routers)) _ (number (length s.routers))
    (line_after (codes " arcs ") _ refl (line_after (decimal (length s.arcs)) _ (number (length s.arcs))
    (line_after (codes " seed ") _ refl (line_after (decimal s.seed) _ (number s.seed) line_end)))))))

made_begins : (k : Kind) (s : Scenario) → BeginsWith (codes "settled yes\n") (made_line k s) → ⊥
unfolding made_line
made_begins k s b = begins_otherwise (codes "settled yes\n") (made_line k s) 0 refl refl b

greatest_line : (greatest : Option ℕ) (l : List ℕ) → IsLine l → IsLine (greatest_text greatest ++ l)
greatest_line None l is = line_after (codes "none") l refl is
greatest_line (Some metric) l is = line_after (decimal metric) l (number metric) is

routes_is_line : (count : ℕ) (greatest : Option ℕ) → IsLine (routes_line count greatest)
unfolding routes_line
routes_is_line count greatest =
    line_after (codes "routes ") _ refl (line_after (decimal count) _ (number count) (line_after (codes " greatest ") _ refl (greatest_line greatest _ line_end)))

routes_begins : (count : ℕ) (greatest : Option ℕ) → BeginsWith (codes "settled yes\n") (routes_line count greatest) → ⊥
unfolding routes_line
routes_begins count greatest b = begins_otherwise (codes "settled yes\n") (routes_line count greatest) 0 refl refl b

-- three lines, and what stands behind them
three : (a b c d : List ℕ) → a ++ (b ++ (c ++ d)) ≡ (a ++ (b ++ (c ++ []))) ++ (d ++ [])
three a b c d = grind (arith, common_steps)

-- Whether it is settled

pub tell_settled : MadeNetworksTellSettled
tell_settled k n seed m =
    let s = m.scenario in
    let t = m.is_text in
    let first = made_line k s in
    let second = counts_line s m.run.final.traffic.counts in
    let told = t.tells_routes in
    let count = length (metrics_of m.run.final.routers) in
    let routes : routes_line count told.greatest ≡ t.routes = sym told.whole in
    let counts = counts_plain s m.run.final.traffic.counts in
    tells_whether s m.run t.gap m.text t.is_gap
    (says_exactly s t.gap (first ∷ second ∷ t.routes ∷ []) [] m.text
    (made_is_line k s, (counts.line, (subst IsLine routes (routes_is_line count told.greatest), tt)))
    (omega arith)
    (made_begins k s, (counts.no_settled, (subst (λ (l : List ℕ). BeginsWith (codes "settled yes\n") l → ⊥) routes (routes_begins count told.greatest), tt)))
    (nothing_plain [] refl) (t.whole ∙ three first second t.routes (settled_text s t.gap)))

-- The least routes

module _ (s : Scenario) (run : WholeRun s) (settled : Settled s run.final.routers s.end) where
  network : IsSettledNetwork s run.final.routers s.end
  network = end_is_settled s run settled

  least_there : (x : ℕ) (dest : NetAddr) (metric : ℕ) →
      Contains (all_reached 0 run.final.routers) (record { router = x; dest = dest; metric = metric }) →
      ((r : RouterSettings) × Router s x r) × RadioLeast s x dest metric
  least_there x dest metric within =
      let ps = run.final.routers in
      let found = where_from 0 ps (record { router = x; dest = dest; metric = metric }) within in
      let number : 0 + found.j ≡ x = ap (λ (q : Reached). q.router) found.is in
      let place : found.j ≡ x = omega (arith, number) in
      let at : At ps x found.p = record { is = subst (λ (k : ℕ). slice_get ps k ≡ Some found.p) place found.at } in (
        (found.p.settings, (run_states s run).settings x found.p at),
        (settled_rows s ps s.end x found.p network at dest metric).0
            (found.r, found.within, ap (λ (q : Reached). q.dest) found.is, ap (λ (q : Reached). q.metric) found.is),
      )

  least_back : (x : ℕ) (dest : NetAddr) (metric : ℕ) → ((r : RouterSettings) × Router s x r) × RadioLeast s x dest metric →
      Contains (all_reached 0 run.final.routers) (record { router = x; dest = dest; metric = metric })
  least_back x dest metric ((r, is), least) =
      let ps = run.final.routers in
      let (p, at) = (run_states s run).all x r is in
      let (row, within, to, cost) = (settled_rows s ps s.end x p network at dest metric).1 least in
      let at_dest : NetAddr → Reached = λ d. record { router = x; dest = d; metric = row.metric } in
      let at_metric : ℕ → Reached = λ c. record { router = x; dest = dest; metric = c } in
      subst (Contains (all_reached 0 ps)) (ap at_dest to ∙ ap at_metric cost) (is_there 0 x ps x p row (omega arith) at.is within)

  pub least_routes : AreRadioRoutes s (all_reached 0 run.final.routers)
  least_routes = record {
    each = λ x dest metric. (least_there x dest metric, least_back x dest metric);
    once = all_apart 0 run.final.routers (λ j p at. (network.sound j p (record { is = at })).routes.ordered);
  }

pub tells_least_routes : TellsLeastRoutes
tells_least_routes k n seed m says =
    let s = m.scenario in
    let t = m.is_text in
    let ps = m.run.final.routers in
    let first = made_line k s in
    let second = counts_line s m.run.final.traffic.counts in
    let last = settled_text s t.gap in
    let settled : Settled s ps s.end = (tell_settled k n seed m).0 says in
    let same : map (λ r. r.metric) (all_reached 0 ps) ≡ metrics_of ps = metrics_same 0 ps in
    let greatest = t.tells_routes.greatest in
    let count : length (metrics_of ps) ≡ length (all_reached 0 ps) =
    ap (λ (l : List ℕ). length l) (sym same) ∙ length-map (all_reached 0 ps) (λ r. r.metric) in (
      all_reached 0 ps,
      least_routes s m.run settled,
      greatest,
      subst (λ (l : List ℕ). IsGreatest l greatest) (sym same) t.tells_routes.is_greatest,
      (
        first,
        second,
        last,
        made_is_line k s,
        (counts_plain s m.run.final.traffic.counts).line,
        t.whole ∙ ap (λ (l : List ℕ). first ++ (second ++ (l ++ last))) (t.tells_routes.whole ∙ ap (λ (c : ℕ). routes_line c greatest) count),
      ),
    )

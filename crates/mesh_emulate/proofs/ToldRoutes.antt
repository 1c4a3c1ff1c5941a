-- What the text of an emulation tells: each router a run of the machine, whether the network is settled, and then its routes.
use Rattle.mesh_emulate.proofs.Common.{common_steps, ◌≡◌, ℕ, ◌<◌, ◌^◌, ◌↔◌, List, ◌++◌, Some, sym, ap, subst, arith, slice_get, Contains, Addr4, NetAddr, Route, Interface, RouterSettings, Router, RadioLeast, At, State, IsSettledNetwork, LeadsOn, settled_rows, settled_next_hops, SaysSettled, ArePlain, Prints, PrintsBy, LeadsOnwards, Arrives, Goes_on, At_gateway, LeadsThere, TellsWhetherSettled, ends_settled, tells_whether, prints_rows, prints_rows_by, run_states, routers_are_runs, end_is_settled, Emulation, RunsMachines, TellsSettled, PrintsLeastRoutes, PrintsNextHops, sending, TripsAreOnly, TripsReachRouters, TripsReachNetworks, TripsNeverStray, Wants}
use Rattle.mesh_data.specs.Laws.{OfEachTrip, IsOnly, ReachesRouter, ReachesNetwork, NeverStrays}
use Rattle.mesh_paths.specs.SettledRoutes as rows
use Rattle.mesh_settled.proofs.GapsLemmas.FaceLemmas.{end_has_least}
use Rattle.mesh_texts.specs.Lines.Marks.{face_name, name_of_face}
use Rattle.mesh_emulate.proofs.Ends.{at_end}
use Rattle.mesh_emulate.proofs.EventTexts.{run_text, is_run_text, text_is}
use Rattle.mesh_emulate.proofs.PlainLines.{both_plain}
use Rattle.mesh_emulate.proofs.ProbeLines.{probe_is_plain}
use Rattle.mesh_emulate.proofs.TripLines.{trip_is_plain}

pub runs_machines : RunsMachines
runs_machines input wants e = routers_are_runs e.scenario e.run

-- Whether it is settled

-- what stands behind the text of the run
plain : (input : List ℕ) (wants : Wants) (e : Emulation input wants) → ArePlain (e.trip ++ e.probe)
plain input wants e = grind (arith, common_steps, both_plain, trip_is_plain, probe_is_plain)

pub tells_settled : TellsSettled
tells_settled input wants e =
    let told = is_run_text input wants e in
    subst (TellsWhetherSettled e.run) (sym (text_is input wants e))
    (tells_whether e.scenario e.run told.gap (run_text input wants e ++ (e.trip ++ e.probe)) told.is_gap
    (ends_settled e.scenario wants.trace e.run (run_text input wants e) (e.trip ++ e.probe) told (plain input wants e)))

-- Routes

module _ (input : List ℕ) (wants : Wants) (e : Emulation input wants) (says : SaysSettled e.text) where
  abbrev told_text : List ℕ
  told_text = run_text input wants e

  abbrev whole : List ℕ
  whole = told_text ++ (e.trip ++ e.probe)

  -- the routers at the end are a settled network
  pub network : IsSettledNetwork e.scenario e.run.final.routers e.scenario.end
  network = end_is_settled e.scenario e.run ((tells_settled input wants e).0 says)

  -- the state of a router of the scenario, which has the router's settings
  pub state_of : (x : ℕ) (router : RouterSettings) → Router e.scenario x router →
      (p : State) × At e.run.final.routers x p × (p.settings ≡ router)
  state_of x router is =
      let (p, at) = (run_states e.scenario e.run).all x router is in
      (p, at, one_router (p.settings) router ((run_states e.scenario e.run).settings x p at) is)
    where
      one_router : (a b : RouterSettings) → Router e.scenario x a → Router e.scenario x b → a ≡ b
      one_router a b p q = cc

  least_routes : (x : ℕ) (router : RouterSettings) → Router e.scenario x router → (dest : NetAddr) (metric : ℕ) →
      dest.addr.0 < 2 ^ 32 → metric < 2 ^ 64 → Prints e.text router.name dest metric ↔ RadioLeast e.scenario x dest metric
  least_routes x router is dest metric d m =
      let (p, at, same) = state_of x router is in
      let told = prints_rows e.scenario wants.trace e.run told_text (e.trip ++ e.probe) (is_run_text input wants e) (plain input wants e) x p at dest metric d m in
      let least = settled_rows e.scenario e.run.final.routers e.scenario.end x p network at dest metric in
      let named = ap (λ (r : RouterSettings). r.name) same in (
        λ prints. least.0 (told.0 (subst (λ (name : List ℕ). Prints whole name dest metric) (sym named) (subst (λ (t : List ℕ). Prints t router.name dest metric) (text_is input wants e) prints))),
        λ radio. subst (λ (t : List ℕ). Prints t router.name dest metric) (sym (text_is input wants e)) (subst (λ (name : List ℕ). Prints whole name dest metric) named (told.1 (least.1 radio))),
      )

  -- where the router that a row leads to leads on
  onwards : (dest : NetAddr) (n near metric : ℕ) → dest.addr.0 < 2 ^ 32 → metric < 2 ^ 64 →
      LeadsOn e.scenario e.run.final.routers dest n near metric → LeadsOnwards e.scenario e.text dest n near metric
  onwards dest n near metric d m (rows.Arrives host own same) = Arrives host own same
  onwards dest n near metric d m (rows.Goes_on q rest at has same) =
      Goes_on rest ((run_states e.scenario e.run).settings n q at)
      (subst (λ (t : List ℕ). Prints t q.settings.name dest rest) (sym (text_is input wants e))
      ((prints_rows e.scenario wants.trace e.run told_text (e.trip ++ e.probe) (is_run_text input wants e) (plain input wants e) n q at dest rest d (omega (arith, m, same))).1 has)) same
  onwards dest n near metric d m (rows.At_gateway own attached le) = At_gateway own attached le

  named : (faces : List Interface) (i : ℕ) (face : Interface) → slice_get faces i ≡ Some face → face.name ≡ face_name faces i
  unfolding face_name
  named faces i face at = sym (ap name_of_face at)

  -- where a row of a router leads
  leads : (x : ℕ) (p : State) → At e.run.final.routers x p → (row : Route) → Contains p.routes row → row.dest.addr.0 < 2 ^ 32 →
      row.metric < 2 ^ 64 → LeadsThere e.scenario e.text x row.dest row.metric row.next (face_name p.settings.interfaces row.iface)
  leads x p at row stands d m =
      let (n, near, hop, willing, to, on) = settled_next_hops e.scenario e.run.final.routers e.scenario.end x p network at row stands in
      let here = (run_states e.scenario e.run).settings x p at in
      let (a, ((face, is_face, has), least)) = end_has_least e.scenario n to.j x row.iface to.back p.settings to.joins.home here in
      record {
        n = n;
        near = near;
        hop = record {
          i = row.iface;
          j = to.j;
          router = p.settings;
          is_router = here;
          interface = face;
          is_interface = is_face;
          named = named p.settings.interfaces row.iface face is_face;
          owner = to.q.settings;
          is_owner = (run_states e.scenario e.run).settings n to.q to.at;
          has = to.on;
          there = to.there;
          back = to.back;
          joins = to.joins;
          value = to.value;
          least = hop;
          cheapest = willing;
        };
        onward = onwards row.dest n near row.metric d m on;
      }

  next_hops : (x : ℕ) (router : RouterSettings) → Router e.scenario x router → (dest : NetAddr) (metric : ℕ) (next : Addr4)
      (face : List ℕ) → dest.addr.0 < 2 ^ 32 → metric < 2 ^ 64 → next.0 < 2 ^ 32 →
      PrintsBy e.text router.name dest metric next face → LeadsThere e.scenario e.text x dest metric next face
  next_hops x router is dest metric next face d m a by =
      let (p, at, same) = state_of x router is in
      let named = ap (λ (r : RouterSettings). r.name) same in
      let (row, stands, to, at_metric, by_next, on_face) = (prints_rows_by e.scenario wants.trace e.run told_text (e.trip ++ e.probe) (is_run_text input wants e) (plain input wants e) x p at dest metric next face d m a).0
      (subst (λ (name : List ℕ). PrintsBy whole name dest metric next face) (sym named) (subst (λ (t : List ℕ). PrintsBy t router.name dest metric next face) (text_is input wants e) by)) in
      subst (λ (f : List ℕ). LeadsThere e.scenario e.text x dest metric next f) on_face
      (subst (λ (b : Addr4). LeadsThere e.scenario e.text x dest metric b (face_name p.settings.interfaces row.iface)) by_next
      (subst (λ (c : ℕ). LeadsThere e.scenario e.text x dest c row.next (face_name p.settings.interfaces row.iface)) at_metric
      (subst (λ (t : NetAddr). LeadsThere e.scenario e.text x t row.metric row.next (face_name p.settings.interfaces row.iface)) to
      (leads x p at row stands (subst (λ (t : NetAddr). t.addr.0 < 2 ^ 32) (sym to) d) (subst (λ (c : ℕ). c < 2 ^ 64) (sym at_metric) m)))))

pub prints_least_routes : PrintsLeastRoutes
prints_least_routes input wants e says x router is dest metric d m = least_routes input wants e says x router is dest metric d m

pub prints_next_hops : PrintsNextHops
prints_next_hops input wants e says x router is dest metric next face d m a by = next_hops input wants e says x router is dest metric next face d m a by

-- Trips

pub trips_are_only : OfEachTrip IsOnly → TripsAreOnly
trips_are_only law input trace packet probe e other is =
    law e.scenario e.run.final.routers e.is_trip.from packet.dest e.is_trip.trip e.is_trip.is_trip (λ x p at. (at_end e.scenario e.run x p at).0) other is

pub trips_reach_routers : OfEachTrip ReachesRouter → TripsReachRouters
trips_reach_routers law input trace packet probe e says y c lies =
    law e.scenario e.run.final.routers e.is_trip.from packet.dest e.is_trip.trip e.is_trip.is_trip e.scenario.end y c (network input (sending trace packet probe) e says) lies

pub trips_reach_networks : OfEachTrip ReachesNetwork → TripsReachNetworks
trips_reach_networks law input trace packet probe e says has =
    law e.scenario e.run.final.routers e.is_trip.from packet.dest e.is_trip.trip e.is_trip.is_trip e.scenario.end (network input (sending trace packet probe) e says) has

pub trips_never_stray : OfEachTrip NeverStrays → TripsNeverStray
trips_never_stray law input trace packet probe e says near =
    law e.scenario e.run.final.routers e.is_trip.from packet.dest e.is_trip.trip e.is_trip.is_trip e.scenario.end (network input (sending trace packet probe) e says) near

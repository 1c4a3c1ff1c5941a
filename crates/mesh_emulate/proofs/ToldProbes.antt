-- What the text of an emulation tells of the probe of its network.
use Rattle.mesh_emulate.proofs.Common.{arith, common_steps, ◌≡◌, ℕ, ◌≤◌, true, not, List, [], ◌∷◌, ◌++◌, length, get_or, refl, sym, ap, ◌∙◌, subst, filter, Bool, AllByRecursion as Each, flat_map, append-nil, Contains-get_or, recursion_from_All, RouterSettings, Scenario, probing, ReachesJoined, reached_counts, TellsAllReached, ProbesReachJoined, ProbesTellAll, EmulatedProbesSendOnce, Coverage, Probe, NoNumber, Done, IfDone, ProbesReach, ArePeers, is_reached, probe_start, unreached_line, IsProbeText, run_states}
use Rattle.std.proofs.lemmas.Cmp.{nat_eq_equiv}
use Rattle.std.proofs.lemmas.Map.Views.{list_any-from_Contains}
use Rattle.mesh_emulate.proofs.ToldRoutes.{network, state_of}
use Rattle.mesh_probe.specs.Probes as probes

if_done : (P Q : Coverage → Type 0) → ((c : Coverage) → P c → Q c) → (probe : Probe) → IfDone P probe → IfDone Q probe
if_done P Q turn probe is = grind (arith, common_steps)

pub probes_reach_joined : ProbesReach → ProbesReachJoined
probes_reach_joined law input trace send name e says freely =
    let told = e.is_probe.is_probe in
    let origin = e.is_probe.origin in
    let (router, is_router, named) = e.is_probe.named in
    let (p, at, same) = state_of input (probing trace send name) e says origin router is_router in
    let limit : length e.scenario.routers ≤ p.settings.times.tc_hop_limit =
    subst (λ (r : RouterSettings). length e.scenario.routers ≤ r.times.tc_hop_limit) (sym same) (freely.limit router is_router) in
    if_done (probes.ReachesAll e.scenario e.run.final.routers e.scenario.end origin) (ReachesJoined e.scenario origin)
    (λ c reaches. reaches p at (network input (probing trace send name) e says) freely.willing limit freely.room)
    e.is_probe.probe (law e.scenario e.run.final.routers told.after e.scenario.end origin e.is_probe.probe told.number told.flood told.reached)

-- Where all are reached, each is counted

-- all pass a test
all_pass : (test : ℕ → Bool) (xs : List ℕ) → Each (λ x. test x ≡ true) xs → (filter test xs ≡ xs) × (filter (λ x. not (test x)) xs ≡ [])
all_pass test [] all = (refl, refl)
all_pass test (x ∷ xs) (here, all) =
    let (kept, none) = all_pass test xs all in
    (rw here (ap (λ (l : List ℕ). x ∷ l) kept), rw here none)

peers_pass : (s : Scenario) (origin : ℕ) (c : Coverage) (peers : List ℕ) → ArePeers s origin peers → ReachesJoined s origin c → Each (λ z. is_reached c z ≡ true) peers
peers_pass s origin c peers are reaches = recursion_from_All (λ z. is_reached c z ≡ true) peers (λ k d less. (
    let z = get_or peers k d in
    let peer = (are.each z).0 (Contains-get_or peers k d less) in
    list_any-from_Contains nat_eq_equiv z c.reached (reaches z peer.1 peer.0)))

tells_all : (s : Scenario) (origin : ℕ) (text : List ℕ) (probe : Probe) → IsProbeText s origin probe text → IfDone (ReachesJoined s origin) probe → IfDone (TellsAllReached s origin text) probe
tells_all s origin text NoNumber is reaches = tt
tells_all s origin text (Done c) (peers, are, is) reaches =
    let (kept, none) = all_pass (is_reached c) peers (peers_pass s origin c peers are reaches) in
    let n = length peers in
    let more : List ℕ → List ℕ = λ l. flat_map (unreached_line s) l in
    let counts : ℕ → List ℕ = λ k. reached_counts k n c in
    let end : counts (length (filter (is_reached c) peers)) ++ more (filter (λ z. not (is_reached c z)) peers) ≡ counts n =
    ap (λ (k : ℕ). counts k ++ more (filter (λ z. not (is_reached c z)) peers)) (ap length kept) ∙ ap (λ (l : List ℕ). counts n ++ more l) none ∙ append-nil (counts n) in
    (peers, are, is ∙ ap (λ (l : List ℕ). probe_start s origin ++ l) end)

pub probes_tell_all : ProbesReach → ProbesTellAll
probes_tell_all law input trace send name e says freely =
    tells_all e.scenario e.is_probe.origin e.probe e.is_probe.probe e.is_probe.is_text (probes_reach_joined law input trace send name e says freely)

-- Whatever the network

pub probes_send_once : probes.ProbesSendOnce → EmulatedProbesSendOnce
probes_send_once law input trace send name e = grind (arith, common_steps, run_states)

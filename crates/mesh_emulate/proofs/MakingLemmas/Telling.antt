-- What is told of a run of a made network.
use Rattle.mesh_emulate.proofs.Common.{common_steps, ◌≡◌, ℕ, ◌≤◌, List, length, refl, sym, ap, ◌∙◌, subst, arith, RadioGraph, Scenario, IsRadioGraph, State, IsEndText, IsMadeText, MadeEmulation, IsMade, NetEvent, NetState, IsOpeningNet, IsOver, NetRun, IsNetwork, end_is_network, final_count, WholeRun, Kind}
use Rattle.mesh_atoms.specs.declared.network.Counts.{Counts}

-- a run of the network of a scenario that ends with this one
abbrev pub EndsWith : Scenario → NetState → Type 0
EndsWith s net = (run : WholeRun s) × (run.final ≡ net)

pub ends_with : (s : Scenario) (opening net : NetState) → IsOpeningNet s opening →
    (events : List NetEvent) × NetRun opening events net × IsOver net → EndsWith s net
ends_with s opening net opens (events, runs, over) =
    (record { opening = opening; events = events; final = net; is_opening = opens; runs = runs; over = over }, refl)

module _ (s : Scenario) (net : NetState) (ends : EndsWith s net) (states : List State) (same : states ≡ net.routers) where
  its_states : ends.0.final.routers ≡ states
  its_states = ap (λ (n : NetState). n.routers) ends.1 ∙ sym same

  pub at_end : (g : RadioGraph) → IsRadioGraph s g → IsNetwork s g states s.end
  at_end g graph = subst (λ (l : List State). IsNetwork s g l s.end) its_states (end_is_network s g ends.0 graph)

  pub few_states : length states ≤ 64
  few_states = grind (arith, common_steps, its_states, final_count)

  pub made_text_is : (k : Kind) (counts : Counts) → counts ≡ net.traffic.counts → (text : List ℕ) → IsEndText k s states counts text → (run : WholeRun s) × IsMadeText k s run text
  made_text_is k counts are text is = (
    ends.0,
    subst (λ (c : Counts). IsEndText k s ends.0.final.routers c text) (are ∙ ap (λ (n : NetState). n.traffic.counts) (sym ends.1))
        (subst (λ (l : List State). IsEndText k s l counts text) (sym its_states) is),
  )

pub emulated : (k : Kind) (n seed : ℕ) (s : Scenario) → IsMade k n seed s → (text : List ℕ) → (run : WholeRun s) × IsMadeText k s run text →
    (m : MadeEmulation k n seed) × (m.text ≡ text)
emulated k n seed s made text (run, is) = (record { scenario = s; is_made = made; run = run; text = text; is_text = is }, refl)

-- A network before its first line.
use Rattle.mesh_replay.proofs.Common.{◌≡◌, ℕ, ◌+◌, ◌<◌, List, [], ◌∷◌, ◌++◌, refl, sym, ◌∙◌, ap, map, subst, length, get_or, All, arith, Some, length-append, slice_get, map-append, slice_get_read, All-nil, State, RouterSettings, IsOpening, IsOpeningNet, each_more, same_at, Case, Progress, FirstTick, IsCase, at, AreAtOpeningUpTo, IsOpeningProgress, IsAtFirstLine, HasRead, IsSoundScene, net_of, lines_from}
use Rattle.mesh_trace.specs.machine.Traffic as net
use Rattle.mesh_replay.proofs.RouterLemmas.Following.{kept_at_opening}

module _ {A : Type 0} (state : A → State) where
  pub opening_more : (settings : List RouterSettings) (k : ℕ) (r : RouterSettings) (router : A) (old new : List A) → k < length settings → r ≡ get_or settings k r → new ≡ old ++ router ∷ [] →
      IsOpening r (state router) → AreAtOpeningUpTo settings k (map state old) → AreAtOpeningUpTo settings (k + 1) (map state new)
  opening_more settings k r router old new lt is p fresh h =
      let one_more : map state new ≡ map state old ++ state router ∷ [] = ap (map state) p ∙ map-append state old (router ∷ []) in
      rw one_more (record {
        count_is = let e = length-append (map state old) (state router ∷ []) in let f = h.count_is in omega (arith, e, f);
        each = each_more (λ x t. (q : RouterSettings) × (slice_get settings x ≡ Some q) × IsOpening q t) (map state old) (state router) h.each
            (rw h.count_is (r, slice_get_read settings (length settings) k r refl lt is, fresh));
      })

module _ (case : Case) (routers : List State) (due : FirstTick) (last_ticks : ℕ) (progress : Progress) (begun : IsOpeningProgress case.scenario.now.seed progress) (opens : IsAtFirstLine case.scenario.now routers due last_ticks) where
  pub opening_sound : IsCase case → IsSoundScene case routers due last_ticks progress
  opening_sound is = record {
    case_is = is;
    progress_is = record {
      reading = record { within = let e = begun.at_start in omega (arith, e); few = let e = begun.none_taken in omega (arith, e) };
      seed = begun.seed_is;
      flying = subst (λ (t : net.Traffic). All (λ (d : net.Delivery). d.arc < length case.scenario.now.arcs) t.air) (sym begun.traffic_is) (All-nil (λ (d : net.Delivery). d.arc < length case.scenario.now.arcs));
    };
    kept = record {
      count = opens.are.count_is;
      settings = λ x t at. let (r, stands, fresh) = opens.are.each x t at in rw fresh.settings_are stands;
      kept = λ x t at. let (r, stands, fresh) = opens.are.each x t at in kept_at_opening r t fresh;
    };
    first = opens.first;
    few = let none = opens.none in omega (arith, none);
  }

  -- no line leads to the network before its first event
  pub opening_read : HasRead case progress.reader (net_of case routers last_ticks progress)
  opening_read =
      let first = at (net_of case routers last_ticks progress) 0 [] in
      let opening : IsOpeningNet case.scenario.now (net_of case routers last_ticks progress) = record {
        scenario_is = refl;
        count = opens.are.count_is;
        opening = λ x settings state there at. let (r, stands, fresh) = opens.are.each x state at in rw (same_at case.scenario.now.routers x settings r there stands) fresh;
        traffic = begun.traffic_is;
        last_ticks = opens.none;
      } in
      record {
        lines = [];
        router = 0;
        reaches = (first, record { opening = opening; nobody = refl; none = refl }, refl);
        read = ap (lines_from case.trace.now) (sym begun.at_start);
        taken = begun.none_taken;
      }

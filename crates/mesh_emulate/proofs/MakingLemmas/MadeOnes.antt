-- The settings of the routers of a made scenario.
use Rattle.mesh_emulate.proofs.Common.{common_steps, ◌≡◌, ℕ, zero, suc, ◌+◌, ◌*◌, ◌≤◌, List, [], ◌∷◌, map, length, Some, sym, ap, ◌∙◌, subst, arith, slice_get, RadioArc, RouterSettings, AreArcs, ends_of, stated_lists, AddressLists, HaveAllSenders, HaveAllQualities, addr_lists, all_have, counts_same, lists_same, RouterPair, name_of, IsMadeRouter, AreMadeArcs, IsStated, AreStated, StatedRouter, ArePlainFields, Kind, no_members}
use Rattle.mesh_atoms.specs.declared.admit.QualityStep.{QualityStep}
use Rattle.mesh_atoms.specs.declared.settings.Times.{Times}
use Rattle.mesh_config.specs.Fields.{RouterParts, settings_parts, stated_parts, thresholds_of, threshold_pair}
use Rattle.mesh_emulate.proofs.MakingLemmas.Apart.{AreApart}
use Rattle.mesh_emulate.proofs.MakingLemmas.ArcEnds.{arcs_sound}
use Rattle.mesh_emulate.proofs.MakingLemmas.StatedOnes.{one_each}
use Rattle.mesh_config.specs.Stated.Rules.{plain_thresholds}
use Rattle.mesh_config.specs.Stated.Times.{TimesIs}

module _ (times : Times) (default : TimesIs no_members times) where
  one_made : (i : ℕ) (r : RouterSettings) (d : StatedRouter) → settings_parts r ≡ stated_parts times d → IsStated i d → IsMadeRouter i r
  one_made i r d same is = record {
    fields = subst (ArePlainFields (name_of i)) (sym (ap (λ (p : RouterParts). p.fields) same)) is.is_plain.are_fields;
    times = subst (TimesIs no_members) (sym (ap (λ (p : RouterParts). p.times) same)) default;
    interfaces = ap (λ (p : RouterParts). p.interfaces) same ∙ is.interfaces;
    thresholds = all_have (λ (t : ℕ × ℕ). t ≡ plain_thresholds) thresholds_of (threshold_pair d.head.rules.thresholds) r.interfaces d.interfaces (ap (λ (p : RouterParts). p.thresholds) same) is.is_plain.are_thresholds;
    attached = ap (λ (p : RouterParts). p.attached) same ∙ is.attached;
  }

  made_from : (i : ℕ) (ss : List RouterSettings) (ds : List StatedRouter) → map settings_parts ss ≡ map (stated_parts times) ds →
      AreStated i ds →
      (x n : ℕ) (r : RouterSettings) → i + x ≡ n → slice_get ss x ≡ Some r → IsMadeRouter n r
  made_from i [] ds same all x n r place at = absurd cc
  made_from i (s ∷ ss) [] same all x n r place at = absurd cc
  made_from i (s ∷ ss) (d ∷ ds) same all zero n r place at = grind (arith, common_steps, one_made)
  made_from i (s ∷ ss) (d ∷ ds) same all (suc x) n r place at =
      let rest : map settings_parts ss ≡ map (stated_parts times) ds = cc in
      made_from (i + 1) ss ds rest all.1 x n r (omega (arith, place)) at

  pub made_routers : (ss : List RouterSettings) (ds : List StatedRouter) → map settings_parts ss ≡ map (stated_parts times) ds →
      AreStated 0 ds →
      (i : ℕ) (r : RouterSettings) → slice_get ss i ≡ Some r → IsMadeRouter i r
  made_routers ss ds same all i r at = made_from 0 ss ds same all i i r (omega arith) at

module _ (times : Times) (ss : List RouterSettings) (ds : List StatedRouter) (same : map settings_parts ss ≡ map (stated_parts times) ds) where
  pub made_count : length ss ≡ length ds
  made_count = grind (arith, common_steps)

  pub made_arcs : (k : Kind) (n seed : ℕ) (pairs : List RouterPair) (arcs : List RadioArc) → n ≤ 64 → AreApart n (2 * n) pairs →
      AreMadeArcs k n seed 0 pairs arcs →
      AreStated 0 ds → length ds ≡ n → AreArcs (map (λ r. length r.interfaces) ss) (map ends_of arcs)
  made_arcs k n seed pairs arcs few apart made all count =
      rw (counts_same times ss ds same) (arcs_sound k n seed pairs arcs few apart made _ (λ x within. one_each 0 ds all x (omega (arith, within, count))))

  pub made_senders : (arcs : List RadioArc) → HaveAllSenders (stated_lists ds) arcs 0 ss → HaveAllSenders (addr_lists ss) arcs 0 ss
  made_senders arcs have = subst (λ (lists : AddressLists). HaveAllSenders lists arcs 0 ss) (sym (lists_same times ss ds same)) have

  pub made_qualities : (arcs : List (RadioArc × List QualityStep)) → HaveAllQualities (stated_lists ds) arcs 0 ss → HaveAllQualities (addr_lists ss) arcs 0 ss
  made_qualities arcs have = subst (λ (lists : AddressLists). HaveAllQualities lists arcs 0 ss) (sym (lists_same times ss ds same)) have

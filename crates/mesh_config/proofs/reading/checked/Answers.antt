use Rattle.mesh_config.proofs.Common.{◌≡◌, List, [], map, length, true, None, Ok, refl, sym, ap, ◌∙◌, subst, RadioArc, are_distinct, ends_eq, StatedRouter, StatedArc, first, stated_visits, duplicates, joins, stated_duplicates, stated_identifiers, arc_places, ends_of, stated_lists, stated_arc_fields, settings_parts, stated_parts, QualityStep, HaveAllSenders, AddressLists, addr_lists, with_steps, stated_steps, HaveAllQualities}
use Rattle.mesh_config.proofs.ChecksLemmas.Links.{duplicates_same}
use Rattle.mesh_config.proofs.Builds.{stated_passed}
use Rattle.mesh_config.proofs.JoinFacts.{joins_distinct}
use Rattle.mesh_config.proofs.Sounds.{sound_routers, sound_arcs, lists_same}
use Rattle.mesh_config.proofs.reading.checked.Goals as goal

pub make_routers-requires-clause-clear : goal.make_routers-requires-clause-clear
make_routers-requires-clause-clear c = ap first (sym (duplicates_same c.as_slice-all.result.now)) ∙ c.in_ok-no_duplicates.ensures.0

pub make_routers-requires-clause-apart : goal.make_routers-requires-clause-apart
make_routers-requires-clause-apart c =
    let all = c.as_slice-all.result.now in let arcs = c.in_ok-arcs.arcs in
    let none : first (stated_duplicates all) ≡ None = ap first (sym (duplicates_same all)) ∙ c.in_ok-no_duplicates.ensures.0 in
    let apart : are_distinct ends_eq (map ends_of arcs) ≡ true = joins_distinct (map stated_identifiers all) (map arc_places c.as_slice-stated_arcs.result.now) (map ends_of arcs) c.in_ok-arcs.ensures.read in
    record {
      distinct_addrs = (stated_passed all none).in_third;
      distinct_arcs = rw c.as_slice.ensures apart;
    }

pub invariant_of-result : goal.invariant_of-result
invariant_of-result c =
    let d = c.args.stated.now in let ss = c.in_ok-routers.routers in let arcs = c.in_ok-arcs.arcs in
    let same : map settings_parts ss ≡ map (stated_parts d.times) d.routers = c.in_ok-routers.ensures.parts ∙ ap (map (stated_parts d.times)) c.as_slice-all.ensures in
    let clear : first (stated_duplicates d.routers) ≡ None =
    ap first (sym (duplicates_same d.routers)) ∙ (sym (ap (λ (rs : List StatedRouter). first (duplicates (map stated_identifiers rs))) c.as_slice-all.ensures) ∙ c.in_ok-no_duplicates.ensures.0) in
    let joined : joins (map stated_identifiers d.routers) [] (map arc_places d.arcs) ≡ Ok (map ends_of arcs) =
    rw (← c.as_slice-all.ensures, ← c.as_slice-stated_arcs.ensures) c.in_ok-arcs.ensures.read in
    let few : length arcs ≡ length d.arcs = c.in_ok-arcs.ensures.size ∙ ap (λ (xs : List StatedArc). length xs) c.as_slice-stated_arcs.ensures in
    record {
      end_in_range = d.numbers.end_in_range;
      seed_in_range = d.numbers.seed_in_range;
      loss_in_range = d.numbers.loss_in_range;
      sound_routers = sound_routers d.times ss d.routers d.few_routers clear same;
      sound_arcs = sound_arcs d.times ss d.routers (map arc_places d.arcs) arcs same (rw few d.few_arcs) joined;
    }

pub returns : goal.returns
returns c =
    let d = c.args.stated.now in let ss = c.in_ok-routers.routers in let arcs = c.in_ok-arcs.arcs in
    let same : map settings_parts ss ≡ map (stated_parts d.times) d.routers = c.in_ok-routers.ensures.parts ∙ ap (map (stated_parts d.times)) c.as_slice-all.ensures in
    let dups : first (duplicates (map stated_identifiers d.routers)) ≡ None =
    sym (ap (λ (rs : List StatedRouter). first (duplicates (map stated_identifiers rs))) c.as_slice-all.ensures) ∙ c.in_ok-no_duplicates.ensures.0 in
    let joined : joins (map stated_identifiers d.routers) [] (map arc_places d.arcs) ≡ Ok (map ends_of arcs) =
    rw (← c.as_slice-all.ensures, ← c.as_slice-stated_arcs.ensures) c.in_ok-arcs.ensures.read in
    let found : first (stated_visits d) ≡ None = rw (dups, joined) in
    let lists : stated_lists c.as_slice-all.result.now ≡ addr_lists ss = ap stated_lists c.as_slice-all.ensures ∙ sym (lists_same d.times ss d.routers same) in
    let says : AddressLists → List RadioArc → Type 0 = λ ls xs. HaveAllSenders ls xs 0 ss in
    let senders : HaveAllSenders (addr_lists ss) arcs 0 ss =
    subst (says (addr_lists ss)) c.as_slice.ensures (subst (λ (ls : AddressLists). says ls c.as_slice.result.now) lists c.in_ok-routers.ensures.senders) in
    let admits : AddressLists → List (RadioArc × List QualityStep) → Type 0 = λ ls xs. HaveAllQualities ls xs 0 ss in
    let with_all : with_steps c.as_slice.result.now (stated_steps c.as_slice-stated_arcs.result.now) ≡ with_steps arcs (stated_steps d.arcs) =
    ap (λ (xs : List RadioArc). with_steps xs (stated_steps c.as_slice-stated_arcs.result.now)) c.as_slice.ensures ∙ ap (λ (xs : List StatedArc). with_steps arcs (stated_steps xs)) c.as_slice-stated_arcs.ensures in
    let qualities : HaveAllQualities (addr_lists ss) (with_steps arcs (stated_steps d.arcs)) 0 ss =
    subst (admits (addr_lists ss)) with_all (subst (λ (ls : AddressLists). admits ls (with_steps c.as_slice.result.now (stated_steps c.as_slice-stated_arcs.result.now))) lists c.in_ok-routers.ensures.qualities) in (
      found,
      record {
        same_end = refl;
        same_seed = refl;
        same_loss_until = refl;
        same_routers = same;
        are_joined = joined;
        same_arcs = c.in_ok-arcs.ensures.says ∙ ap (map stated_arc_fields) c.as_slice-stated_arcs.ensures;
        are_senders = senders;
        are_qualities = qualities;
      },
    )

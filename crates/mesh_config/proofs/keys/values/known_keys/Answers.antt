use Rattle.mesh_config.proofs.Common.{◌≡◌, ◌∙◌, Some, List, ℕ, Bool, list_any, table_view, Entry, name_eq, first_unknown}
use Rattle.mesh_config.proofs.KeysLemmas.Keys.{passes_known, finds_unknown}
use Rattle.mesh_config.proofs.keys.values.known_keys.Goals as goal

pub returns-then-not-is_known : goal.returns-then-not-is_known
returns-then-not-is_known c =
    let test : List ℕ → Bool = λ key. list_any (λ k. name_eq key k.now) c.args.known.now in
    let e : Entry = (c.in-Some.key.now, c.in-Some.field-0-1.now) in
    let found : first_unknown test (table_view c.args.table.now) ≡ Some c.as_str-key.result.now =
    c.loop-key.invariant ∙ finds_unknown test c.loop-key.key-iterator c.next.new.self e c.as_str-key.result.now c.is_known.result c.in-Some.ensures.steps c.as_str-key.ensures.value c.is_known.ensures c.if-not-is_known.true in
    rw found c.refused.ensures.answer

pub loop-key-preserved : goal.loop-key-preserved
loop-key-preserved c =
    let test : List ℕ → Bool = λ key. list_any (λ k. name_eq key k.now) c.args.known.now in
    let e : Entry = (c.in-Some.key.now, c.in-Some.field-0-1.now) in
    c.loop-key.invariant ∙ passes_known test c.loop-key.key-iterator c.next.new.self e c.as_str-key.result.now c.is_known.result c.in-Some.ensures.steps c.as_str-key.ensures.value c.is_known.ensures c.if-not-is_known.false

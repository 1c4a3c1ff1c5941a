use Rattle.mesh_trace.proofs.Common.{◌≡◌, rules, sym, ap, ◌∙◌, is_some, false≢true, answers_always, HelloRow, one_row}
use Rattle.mesh_trace.proofs.SpellingLemmas.Searching.{found, absent}
use Rattle.mesh_trace.proofs.spelling.hello.is_local.Goals as goal

pub returns-in-Ok : goal.returns-in-Ok
returns-in-Ok c =
    let facts = c.in-Ok.ensures in
    let result = facts.position (λ (r : HelloRow). r.addr) (answers_always _ _ _ (λ f a r g called. search rules)) in
    let rows = c.args.rows.now in
    let row : HelloRow = c.index-rows-place.result in
    let at = c.index-rows-place.is in
    let here : row.addr ≡ c.args.net = ap (λ (r : HelloRow). r.addr) at ∙ found rows c.requires c.args.net c.in-Ok.place result row in
    let some = ap (λ (r : HelloRow). is_some r.local) at in (
      λ yes. (row, (c.in-Ok.place, facts.bound, sym at), here, some ∙ sym c.is_some.ensures ∙ yes),
      λ is.
          let same : is.0 ≡ row = one_row (λ (r : HelloRow). r.addr) rows c.requires is.0 row is.1 (c.in-Ok.place, facts.bound, sym at) (is.2 ∙ sym here) in
          c.is_some.ensures ∙ sym some ∙ sym (ap (λ (r : HelloRow). is_some r.local) same) ∙ is.3,
    )

pub returns-in-Err : goal.returns-in-Err
returns-in-Err c =
    let facts = c.in-Err.ensures in
    let result = facts.position (λ (r : HelloRow). r.addr) (answers_always _ _ _ (λ f a r g called. search rules)) in
    (λ yes. absurd (false≢true yes), λ is. absurd (absent c.args.rows.now c.requires c.args.net c.in-Err.field-0 result is.0 is.1 is.2))

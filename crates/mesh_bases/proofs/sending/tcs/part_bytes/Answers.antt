use Rattle.mesh_bases.proofs.Common.{◌≡◌, List, sym, ap, subst, ◌∙◌, TcRow, AreOneType, HaveTypeWhole, part_of, IsTcOfRows, if_ok_weaker}
use Rattle.mesh_bases.proofs.SendingLemmas.PartRows.{part_one_type, part_whole}
use Rattle.mesh_bases.proofs.SendingLemmas.Written.{rows_one_type, rows_whole}
use Rattle.mesh_bases.proofs.sending.tcs.part_bytes.Goals as goal

pub write_tc-requires-clause-kinds : goal.write_tc-requires-clause-kinds
write_tc-requires-clause-kinds c =
    let is : c.in_ok-tc.tc.rows ≡ part_of c.args.derived.now.rows c.args.span = c.in_ok-tc.ensures.rows ∙ (c.rows_of-rows.ensures ∙ ap (λ (rows : List TcRow). part_of rows c.args.span) c.as_slice.ensures) in
    subst (λ (rows : List TcRow). AreOneType rows) (sym is) (part_one_type c.args.derived.now.rows c.args.span.first c.args.span.len (rows_one_type c.requires.rows.0 c.args.derived.now.rows c.requires.rows.1))

pub write_tc-requires-clause-whole : goal.write_tc-requires-clause-whole
write_tc-requires-clause-whole c =
    let is : c.in_ok-tc.tc.rows ≡ part_of c.args.derived.now.rows c.args.span = c.in_ok-tc.ensures.rows ∙ (c.rows_of-rows.ensures ∙ ap (λ (rows : List TcRow). part_of rows c.args.span) c.as_slice.ensures) in
    subst (λ (rows : List TcRow). HaveTypeWhole rows) (sym is) (part_whole c.args.derived.now.rows c.args.span.first c.args.span.len (rows_whole c.requires.rows.0 c.args.derived.now.rows c.requires.rows.1))

pub returns : goal.returns
returns c =
    let is : c.rows_of-rows.result.now ≡ part_of c.args.derived.now.rows c.args.span = c.rows_of-rows.ensures ∙ ap (λ (rows : List TcRow). part_of rows c.args.span) c.as_slice.ensures in
    if_ok_weaker c.write_tc.result (λ bytes writes. (
      c.in_ok-tc.tc,
      writes,
      λ s settings has. subst (λ (rows : List TcRow). IsTcOfRows s c.args.validity.now c.args.complete c.args.sequence rows c.in_ok-tc.tc) is (c.in_ok-tc.ensures.is s settings has.ansn),
    )) c.write_tc.ensures.writes

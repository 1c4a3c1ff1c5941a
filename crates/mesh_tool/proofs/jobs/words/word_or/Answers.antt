use Rattle.mesh_tool.proofs.Common.{Global, length, refl, string_bytes, sym, ltb-false}
use Rattle.std.proofs.lemmas.Option.{slice_get-map, slice_get_read, slice_get_past}
use Rattle.mesh_tool.proofs.jobs.words.word_or.Goals as goal

pub returns-in-Some : goal.returns-in-Some
returns-in-Some c =
    let words = c.args.words.now in let found = c.in-Some.ensures.lookup in
    rw (slice_get-map (string_bytes {Z = Global}) words c.args.place, slice_get_read words (length words) c.args.place c.in-Some.word.now refl found.3.0 found.1) c.as_bytes.ensures.value

pub returns-in-None : goal.returns-in-None
returns-in-None c =
    let words = c.args.words.now in
    rw (slice_get-map (string_bytes {Z = Global}) words c.args.place, slice_get_past words c.args.place (ltb-false c.args.place (length words) (sym c.in-None.ensures.lookup.0))) refl

use Rattle.mesh_tool.proofs.Common.{◌≡◌, ℕ, ◌+◌, ◌<◌, List, ◌∷◌, length, drop, map, get_or, sym, ap, ◌∙◌, arith, Some, None, Option, String, string_bytes, drop-map, drop_more, Parsing, read_on, takes, texts, or_at}
use Rattle.std.specs.declared.alloc.Global.{Global}
use Rattle.mesh_tool.proofs.words.words.job_in.Goals as goal

word_at : (words : List (String Global)) (i : ℕ) (d : String Global) → i < length words → d ≡ get_or words i d → drop i (texts words) ≡ string_bytes d ∷ drop (i + 1) (texts words)
word_at words i d within is =
    drop-map string_bytes i words ∙ ap (map string_bytes) (drop_more words i d within) ∙ ap (λ (s : String Global). string_bytes s ∷ map string_bytes (drop (i + 1) words)) (sym is)
    ∙ ap (λ (l : List (List ℕ)). string_bytes d ∷ l) (sym (drop-map string_bytes (i + 1) words))

one_on : (asked : Parsing) (place : ℕ) (word : List ℕ) (more : List (List ℕ)) (next : Option Parsing) → next ≡ takes asked place word →
    read_on asked place (word ∷ more) ≡ or_at place next (λ n. read_on n (place + 1) more)
one_on asked place word more next is = ap (λ (o : Option Parsing). or_at place o (λ n. read_on n (place + 1) more)) (sym is)

pub returns-in-None : goal.returns-in-None
returns-in-None c =
    let word = c.index-words-place.result in
    let at = word_at c.args.words.now c.loop-place.place word (omega arith) c.index-words-place.is in
    let taken : None ≡ takes c.loop-place.asked c.loop-place.place (string_bytes word) = sym c.in-None.is ∙ c.takes.ensures ∙ ap (takes c.loop-place.asked c.loop-place.place) c.as_str.ensures.value in
    sym (c.loop-place.invariant.left ∙ ap (read_on c.loop-place.asked c.loop-place.place) at ∙ one_on c.loop-place.asked c.loop-place.place (string_bytes word) _ None taken)

pub loop-place-preserved : goal.loop-place-preserved
loop-place-preserved c =
    let word = c.index-words-place.result in
    let at = word_at c.args.words.now c.loop-place.place word (omega arith) c.index-words-place.is in
    let taken : Some c.in-Some.next ≡ takes c.loop-place.asked c.loop-place.place (string_bytes word) = sym c.in-Some.is ∙ c.takes.ensures ∙ ap (takes c.loop-place.asked c.loop-place.place) c.as_str.ensures.value in
    record { left = c.loop-place.invariant.left ∙ ap (read_on c.loop-place.asked c.loop-place.place) at ∙ one_on c.loop-place.asked c.loop-place.place (string_bytes word) _ (Some c.in-Some.next) taken }

-- Each line says one thing, and the listing of an input is one list of pieces.
use Rattle.mesh_dump.proofs.Common.{arith, common_steps, ◌≡◌, ℕ, ◌+◌, inl, inr, List, [], ◌∷◌, Some, Result, Ok, Err, Bool, refl, sym, ap, subst, ◌∙◌, lines, Refusal, IsLineText, AreListings, DumpMakes, FrameSays, ReadsAs, refusals}
use Rattle.mesh_packet.specs.declared.packet.Span.{Span}
use Rattle.mesh_packet.specs.Fields.{PacketFields}
use Rattle.mesh_packet.proofs.OneReading.{one_packet, one_fault, spells_or_faults, not_both}
use Rattle.mesh_report.proofs.OneListing.{one_listing}
use Rattle.mesh_dump.proofs.Hex.{written_or_not, not_hex_once, not_hex_too}

-- what a line says
abbrev Read : Type 0
Read = Result (PacketFields × List Span) Refusal

frame_once : (frame : List ℕ) (a b : Read) → FrameSays frame a → FrameSays frame b → a ≡ b
frame_once frame a b h k = grind (arith, common_steps, one_packet, not_both, one_fault)

pub reads_once : (line : List ℕ) (a b : Read) → ReadsAs line a → ReadsAs line b → a ≡ b
reads_once line a b h3 h4 = grind (arith, common_steps, frame_once, not_hex_too, not_hex_once)

pub always_reads : (line : List ℕ) → (read : Read) × ReadsAs line read
always_reads line = elim (written_or_not line) [
  | inl (octets, e) ↦ elim (spells_or_faults octets) [
    | inl (packet, spans, spelled) ↦ (Ok (packet, spans), inl (octets, e, spelled))
    | inr (place, reason, fault) ↦ (Err (record { place = place; reason = reason }), inl (octets, e, fault))
  ]
  | inr (refusal, not) ↦ (Err refusal, inr (refusal, not, refl))
]

one_lines : (recode : Bool) (number : ℕ) (lines : List (List ℕ)) (m n : ℕ) (a b : List (List ℕ)) → AreListings recode number lines m a → AreListings recode number lines n b → (m ≡ n) × (a ≡ b)
one_lines recode number [] m n a b h k = (h.0 ∙ sym k.0, h.1 ∙ sym k.1)
one_lines recode number (line ∷ lines) m n a b (i, x, j, y, is, more, sum, e) (i', x', j', y', is', more', sum', e') =
    let same : is.read ≡ is'.read = reads_once line is.read is'.read is.reads is'.reads in
    let others = one_lines recode (number + 1) lines j j' y y' more more' in
    let first : x ≡ x' = one_listing recode number is'.read x x' (subst (λ (t : Read). IsLineText recode number t x) same is.is) is'.is in
    let count : i ≡ i' = is.count_is ∙ ap (λ (t : Read). refusals t) same ∙ sym is'.count_is in
    (sum ∙ ap (λ (k : ℕ). k + j) count ∙ ap (λ (k : ℕ). i' + k) others.0 ∙ sym sum', e ∙ ap (λ (t : List ℕ). t ∷ y) first ∙ ap (λ (ps : List (List ℕ)). x' ∷ ps) others.1 ∙ sym e')

pub one_text : (input : List ℕ) (recode : Bool) (m n : ℕ) (a b : List (List ℕ)) → DumpMakes input recode a (Some m) → DumpMakes input recode b (Some n) → (m ≡ n) × (a ≡ b)
one_text input recode m n a b h6 h7 = grind (arith, common_steps, one_lines, lines)

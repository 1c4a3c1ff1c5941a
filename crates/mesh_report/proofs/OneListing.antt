-- A message reads in one way, and a line has one listing.
use Rattle.mesh_report.proofs.Common.{common_steps, ◌≡◌, ℕ, List, [], ◌∷◌, ◌++◌, length, Option, Result, Ok, Err, Bool, true, false, inl, inr, sym, ap, ◌∙◌, arith, refl, NetAddr, MessageFields, PacketFields, Span, Keeps, IsMessagesText, IsPacketListed, recode_line, IsRecodeLine, IsRecode, IsLineText, ReadsMessage, IsReading}
use Rattle.mesh_atoms.specs.declared.refusal.Refusal.{Refusal}
use Rattle.mesh_wire.proofs.OneHello.{one_hello}
use Rattle.mesh_wire.proofs.OneTc.{one_tc}
use Rattle.mesh_wire.proofs.Single.{one_broken}
use Rattle.mesh_packet.proofs.OneForm.{form_once}

-- two texts that are each of two parts, and the parts are the same
pub same_both : {a b x x' y y' : List ℕ} → a ≡ x ++ y → b ≡ x' ++ y' → x ≡ x' → y ≡ y' → a ≡ b
same_both {a} {b} {x} {x'} {y} {y'} e e' p q = e ∙ ap (λ (l : List ℕ). l ++ y) p ∙ ap (λ (l : List ℕ). x' ++ l) q ∙ sym e'

-- one typed value at most, and one first rule, have one line
one_line : {X : Type 0} (Breaks : ℕ → Option NetAddr → Type 0) (Is : X → Type 0) (line_of : X → List ℕ) → (Keeps Breaks → (x y : X) → Is x → Is y → x ≡ y)
    → (a b : List ℕ) → ReadsMessage Breaks Is line_of a → ReadsMessage Breaks Is line_of b → a ≡ b
one_line Breaks Is line_of only a b h6 h7 = grind (arith, common_steps, one_broken)

pub one_way : (message : MessageFields) (a b : List ℕ) → IsReading message a → IsReading message b → a ≡ b
one_way message a b h k = grind (arith, common_steps, one_line, one_hello, one_tc)

one_messages : (messages : List MessageFields) (spans : List Span) (a b : List ℕ) → IsMessagesText messages spans a → IsMessagesText messages spans b → a ≡ b
one_messages [] [] a b e e' = e ∙ sym e'
one_messages [] (s ∷ spans) a b e e' = absurd e
one_messages (m ∷ messages) [] a b e e' = absurd e
one_messages (m ∷ messages) (s ∷ spans) a b (x, y, (r, reads, is), more, e) (x', y', (r', reads', is'), more', e') = grind (arith, common_steps, same_both, one_way, (one_messages messages spans y y' more more'))

one_packet : (number : ℕ) (packet : PacketFields) (spans : List Span) (a b : List ℕ) → IsPacketListed number packet spans a → IsPacketListed number packet spans b → a ≡ b
one_packet number packet spans a b (x, is, e) (x', is', e') = same_both e e' refl (one_messages packet.messages spans x x' is is')

-- a packet has one least form, which is too long or isn't
one_recode_line : (packet : PacketFields) (a b : List ℕ) → IsRecodeLine packet a → IsRecodeLine packet b → a ≡ b
one_recode_line packet a b (inl (x, least, fits, e)) (inl (y, least', fits', e')) = e ∙ ap recode_line (form_once packet x y least least') ∙ sym e'
one_recode_line packet a b (inl (x, least, fits, e)) (inr ((y, least', long), e')) = absurd (omega (arith, fits, long, ap length (form_once packet x y least least')))
one_recode_line packet a b (inr ((x, least, long), e)) (inl (y, least', fits, e')) = absurd (omega (arith, fits, long, ap length (form_once packet x y least least')))
one_recode_line packet a b (inr (long, e)) (inr (long', e')) = e ∙ sym e'

one_recode : (recode : Bool) (packet : PacketFields) (a b : List ℕ) → IsRecode recode packet a → IsRecode recode packet b → a ≡ b
one_recode false packet a b h k = h ∙ sym k
one_recode true packet a b h k = one_recode_line packet a b h k

pub one_listing : (recode : Bool) (number : ℕ) (read : Result (PacketFields × List Span) Refusal) (a b : List ℕ) → IsLineText recode number read a → IsLineText recode number read b → a ≡ b
one_listing recode number (Ok read) a b (x, y, is, last, e) (x', y', is', last', e') = same_both e e' (one_packet number read.0 read.1 x x' is is') (one_recode recode read.0 y y' last last')
one_listing recode number (Err refusal) a b e e' = e ∙ sym e'

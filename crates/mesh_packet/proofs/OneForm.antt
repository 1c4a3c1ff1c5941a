-- A packet has at most one least form, since each address block has at most one.
use Rattle.mesh_packet.proofs.Common.{arith, common_steps, ◌≡◌, ℕ, ◌+◌, List, [], ◌∷◌, ◌++◌, length, sym, ap, ◌∙◌, SpellsItems, least_short, least_tlv, least_addr_tlv, least_block, least_head, least_number, least_header_tlvs, message_flags, packet_flags, LeastPair, LeastBody, LeastMessage, LeastForm}
use Rattle.mesh_addr.proofs.OneLeast.{one_least}

-- an item has at most one text
abbrev pub HasOneText : {B : Type 0} → (B → List ℕ → Type 0) → Type 0
HasOneText {B} Least = (x : B) (a b : List ℕ) → Least x a → Least x b → a ≡ b

pub items_once : {B : Type 0} (Least : B → List ℕ → Type 0) → HasOneText Least → HasOneText (SpellsItems Least)
items_once Least once [] a b h k = h ∙ sym k
items_once Least once (x ∷ xs) a b h k = grind (arith, common_steps, (items_once Least once xs h.1 k.1 h.3 k.3))

pair_once : HasOneText LeastPair
pair_once b x y h k =
    h.whole ∙ ap (λ (l : List ℕ). l ++ least_block (least_addr_tlv (length b.addrs)) b.tlvs) (one_least b.width b.addrs h.addrs k.addrs h.addrs_is k.addrs_is) ∙ sym k.whole

pub body_once : HasOneText LeastBody
body_once m x y h k =
    h.whole ∙ ap (λ (l : List ℕ). least_head m ++ (least_block least_tlv m.tlvs ++ l)) (items_once LeastPair pair_once m.blocks h.blocks k.blocks h.blocks_is k.blocks_is) ∙ sym k.whole

pub message_once : HasOneText LeastMessage
message_once m x y h k =
    h.whole ∙ ap (λ (l : List ℕ). m.kind ∷ (message_flags m ∷ (least_short (4 + length l) ++ l))) (body_once m h.body k.body h.body_is k.body_is) ∙ sym k.whole

pub form_once : HasOneText LeastForm
form_once p x y h k =
    h.whole ∙ ap (λ (l : List ℕ). packet_flags p ∷ (least_number p.sequence ++ (least_header_tlvs p.tlvs ++ l))) (items_once LeastMessage message_once p.messages h.messages k.messages h.messages_is k.messages_is) ∙ sym k.whole

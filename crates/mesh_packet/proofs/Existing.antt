-- Each packet that can be encoded has a least form.
use Rattle.mesh_packet.proofs.Common.{ℕ, ◌++◌, ◌+◌, List, [], ◌∷◌, length, refl, sym, subst, All, All-head, All-tail, IsLeast, SpellsItems, least_short, least_tlv, least_addr_tlv, least_block, BlockFields, MessageFields, PacketFields, IsEncodableBlock, IsEncodableMessage, IsEncodable, least_head, least_number, least_header_tlvs, message_flags, packet_flags, LeastPair, LeastMessage, LeastForm}
use Rattle.mesh_packet.proofs.LeastBlocks.{least_exists}

items_exist : {A : Type 0} (P : A → Type 0) (Least : A → List ℕ → Type 0) → ((x : A) → P x → (text : List ℕ) × Least x text) → (xs : List A) → All P xs → (text : List ℕ) × SpellsItems Least xs text
items_exist P Least one [] fit = ([], refl)
items_exist P Least one (x ∷ xs) fit =
    let first = one x (All-head P x xs fit) in
    let others = items_exist P Least one xs (All-tail P x xs fit) in
    (first.0 ++ others.0, (first.0, others.0, first.1, others.1, refl))

pair_exists : (width : ℕ) (b : BlockFields) → IsEncodableBlock width b → (text : List ℕ) × LeastPair b text
pair_exists width b fit =
    let addrs = least_exists width b.addrs fit.addrs in
    let least : IsLeast b.width b.addrs addrs.0 = subst (λ (w : ℕ). IsLeast w b.addrs addrs.0) (sym fit.width_is) addrs.1 in
    (addrs.0 ++ least_block (least_addr_tlv (length b.addrs)) b.tlvs, record { addrs = addrs.0; addrs_is = least; whole = refl })

message_exists : (m : MessageFields) → IsEncodableMessage m → (text : List ℕ) × LeastMessage m text
message_exists m fit =
    let blocks = items_exist (IsEncodableBlock m.width) LeastPair (pair_exists m.width) m.blocks fit.blocks in
    let body : List ℕ = least_head m ++ (least_block least_tlv m.tlvs ++ blocks.0) in
    (m.kind ∷ (message_flags m ∷ (least_short (4 + length body) ++ body)), record { body = body; body_is = record { blocks = blocks.0; blocks_is = blocks.1; whole = refl }; whole = refl })

pub form_exists : (p : PacketFields) → IsEncodable p → (bytes : List ℕ) × LeastForm p bytes
form_exists p fit =
    let messages = items_exist IsEncodableMessage LeastMessage message_exists p.messages fit.messages in
    (packet_flags p ∷ (least_number p.sequence ++ (least_header_tlvs p.tlvs ++ messages.0)), record { messages = messages.0; messages_is = messages.1; whole = refl })

-- What makes the least text of a value too long.
use Rattle.mesh_packet.proofs.Common.{◌≡◌, ℕ, ◌+◌, ◌<◌, ◌≤◌, List, [], ◌∷◌, length, map, ap, arith, length-append, common_steps, flat_map, least_tlv, least_addr_tlv, least_block, least_short, AreTooLong, fields, BlockFields, MessageFields, LeastPair, LeastBody, LeastMessage, least_head, least_header_tlvs, Passes}
use Rattle.mesh_tlv.specs.declared.tlv.Tlv.{Tlv}
use Rattle.mesh_tlv.proofs.Lengths.{tlv_longer, addr_tlv_longer, block_longer}
use Rattle.mesh_packet.proofs.OneForm.{body_once}

body_long : (m : MessageFields) (x : List ℕ) (h : LeastBody m x) → length x ≡ length (least_head m) + (length (least_block least_tlv m.tlvs) + length h.blocks)
body_long m x h = grind (arith, common_steps, length-append)

message_long : (m : MessageFields) (x : List ℕ) (h : LeastMessage m x) → length x ≡ 4 + length h.body
message_long m x h = omega (arith, ap length h.whole, length-append (least_short (4 + length h.body)) h.body)

-- ---- what passes the limit

block_passes : {A : Type 0} (least : A → List ℕ) (tlvs : List A) → 65535 < length (flat_map least tlvs) → 65535 < length (least_block least tlvs)
block_passes least tlvs lt = omega (arith, lt, length-append (least_short (length (flat_map least tlvs))) (flat_map least tlvs))

pub pair_passes : (b : BlockFields) → AreTooLong (least_addr_tlv (length b.addrs)) (λ tlv. tlv.value) b.tlvs → Passes (LeastPair b) 0
pair_passes b long = λ text h.
    let least = least_addr_tlv (length b.addrs) in
    omega (arith, ap length h.whole, length-append h.addrs (least_block least b.tlvs), block_passes least b.tlvs (block_longer least (λ tlv. tlv.value) (addr_tlv_longer (length b.addrs)) b.tlvs long))

pub body_tlvs_pass : (m : MessageFields) → AreTooLong least_tlv (λ tlv. tlv.value) m.tlvs → Passes (LeastBody m) 0
body_tlvs_pass m long = λ text h. omega (arith, body_long m text h, block_passes least_tlv m.tlvs (block_longer least_tlv (λ tlv. tlv.value) tlv_longer m.tlvs long))

pub message_passes_by_length : (m : MessageFields) (before : ℕ) (body : List ℕ) → LeastBody m body → 65507 < before + (4 + length body) → Passes (LeastMessage m) before
message_passes_by_length m before body b lt = λ text h. omega (arith, message_long m text h, ap length (body_once m body h.body b h.body_is))

pub header_tlvs_pass : (tlvs : List Tlv) → 1 ≤ length tlvs → AreTooLong least_tlv (λ tlv. tlv.value) (map fields tlvs) → 65507 < length (least_header_tlvs (map fields tlvs))
header_tlvs_pass [] some long = absurd (omega (arith, some))
header_tlvs_pass (t ∷ ts) some long = omega (arith, block_passes least_tlv (map fields (t ∷ ts)) (block_longer least_tlv (λ tlv. tlv.value) tlv_longer (map fields (t ∷ ts)) long))

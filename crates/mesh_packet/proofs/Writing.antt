-- What the writers put behind the old octets, part by part.
use Rattle.mesh_packet.proofs.Common.{◌≡◌, ℕ, List, [], ◌++◌, length, Result, Err, append_assoc, arith, common_steps, err_from_is_err_and, WroteLeast, SpellsItems, least_tlv, least_addr_tlv, least_block, BlockFields, MessageFields, LeastPair, LeastBody, least_head, Wrote, as_encode_fault}
use Rattle.std.specs.Result.{IsErrAnd}
use Rattle.mesh_tlv.specs.declared.tlv.WriteTlv.{WriteTlv}
use Rattle.mesh_tlv.specs.declared.tlv.WriteTlv.TheVariants as tlvs
use Rattle.mesh_packet.specs.declared.packet.EncodeFault.{EncodeFault}
use Rattle.mesh_packet.specs.declared.packet.EncodeFault.TheVariants as faults

told : (f : WriteTlv) → as_encode_fault f ≡ faults.TooLong → f ≡ tlvs.TooLong
told f h = grind (arith, common_steps)

-- what is handed on as too long was too long
pub was_too_long : {A B : Type 0} (r : Result A EncodeFault) (w : Result B WriteTlv) (f : WriteTlv) → w ≡ Err f → IsErrAnd r (λ e. e ≡ as_encode_fault f) → r ≡ Err faults.TooLong → w ≡ Err tlvs.TooLong
was_too_long {A} {B} r w f is and e = grind (arith, common_steps, err_from_is_err_and, told)

pub pair_wrote : (b : BlockFields) (old mid new : List ℕ) → WroteLeast b.width b.addrs old mid → new ≡ mid ++ least_block (least_addr_tlv (length b.addrs)) b.tlvs → Wrote (LeastPair b) old new
pair_wrote b old mid new h e = grind (arith, common_steps, append_assoc)

pub body_wrote : (m : MessageFields) (old head tlvs new : List ℕ) → head ≡ old ++ least_head m → tlvs ≡ head ++ least_block least_tlv m.tlvs → Wrote (SpellsItems LeastPair m.blocks) tlvs new → Wrote (LeastBody m) old new
body_wrote m old head tlvs new e k h = grind (arith, common_steps, append_assoc)

-- a body that was put behind no octets
pub body_alone : (m : MessageFields) (old new : List ℕ) → old ≡ [] → Wrote (LeastBody m) old new → LeastBody m new
body_alone m old new e h = rw (h.1, e) h.2

-- a fault that is handed on
pub handed_on : {A B : Type 0} (r : Result A EncodeFault) (w : Result B EncodeFault) (f : EncodeFault) → w ≡ Err f → IsErrAnd r (λ e. e ≡ f) → r ≡ Err faults.TooLong → w ≡ Err faults.TooLong
handed_on {A} {B} r w f is and e = grind (arith, common_steps, err_from_is_err_and)

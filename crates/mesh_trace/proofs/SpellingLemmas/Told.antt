-- What is said of addresses, block by block and part by part.
use Rattle.mesh_trace.proofs.Common.{common_steps, ◌≤◌, List, [], ◌∷◌, arith, All, Contains, All-nil, All-cons, RawAddr, AreRaw, BlockFields, MessageFields, AddrTlvFields, Saying, SaysOnly, TellsOnly}

-- addresses of four octets have prefixes of at most 32 bits
pub raw_narrow : (addrs : List RawAddr) → AreRaw 4 addrs → All (λ (a : RawAddr). a.prefix ≤ 32) addrs
raw_narrow [] h = All-nil (λ (a : RawAddr). a.prefix ≤ 32)
raw_narrow (a ∷ addrs) h = All-cons (λ (x : RawAddr). x.prefix ≤ 32) a addrs (let le = h.1 in omega (arith, le)) (raw_narrow addrs h.2)

module _ (P : Saying) (m : MessageFields) where
  abbrev pub BlocksSayOnly : Type 0
  BlocksSayOnly = (b : BlockFields) → Contains m.blocks b → (tlv : AddrTlvFields) → Contains b.tlvs tlv → SaysOnly P b.addrs tlv

  pub parts_of_blocks : BlocksSayOnly → TellsOnly P m
  parts_of_blocks says net part p = grind (arith, common_steps)

  pub blocks_of_parts : TellsOnly P m → BlocksSayOnly
  blocks_of_parts tells b has tlv in_block place a net first last at is = grind (arith, common_steps)

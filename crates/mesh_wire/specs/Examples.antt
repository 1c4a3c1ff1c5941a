-- Small messages and what they read as.
use Rattle.std.proofs.Common.{lit≤, refl}
use Rattle.std.specs.Prelude.{ℕ, List, [], ◌∷◌, Some, None, true, false}
use Rattle.mesh_atoms.specs.declared.addr.NetAddr.{NetAddr}
use Rattle.mesh_atoms.specs.Ascends.{one_ascends}
use Rattle.mesh_atoms.specs.declared.hello.LocalIf.TheVariants.{This}
use Rattle.mesh_atoms.specs.declared.hello.HelloRow.{HelloRow}
use Rattle.mesh_atoms.specs.declared.hello.Hello.{Hello}
use Rattle.mesh_addr.specs.declared.records.RawAddr.{RawAddr}
use Rattle.mesh_tlv.specs.Fields.{AddrTlvFields}
use Rattle.mesh_packet.specs.Fields.{BlockFields, MessageFields}
use Rattle.mesh_wire.specs.HelloRows.{sender_row}

-- the octets after those of an IPv4 address
abbrev pub zeros : List ℕ
zeros = 0 ∷ (0 ∷ (0 ∷ (0 ∷ (0 ∷ (0 ∷ (0 ∷ (0 ∷ (0 ∷ (0 ∷ (0 ∷ (0 ∷ [])))))))))))

-- 10.0.0.1
abbrev pub own : RawAddr
own = record { octets = 10 ∷ (0 ∷ (0 ∷ (1 ∷ zeros))); prefix = 32 }

-- the network of that address alone
abbrev pub own_net : NetAddr
own_net = record { addr = record { 0 = 167772161 }; prefix = 32; within = lit≤ tt; clear = refl }

-- LOCAL_IF of the first address: it is of the interface that sends
abbrev pub local : AddrTlvFields
local = record { kind = 2; ext = 0; first = 0; last = 0; multi = false; value = Some (0 ∷ []) }

-- its block
abbrev pub own_block : BlockFields
own_block = record { width = 4; addrs = own ∷ []; tlvs = local ∷ [] }

-- the HELLO of a router that hears nobody: its own address, on the interface that sends
abbrev pub lone : MessageFields
lone = record {
  kind = 0;
  width = 4;
  originator = Some own;
  limit = None;
  count = None;
  sequence = None;
  tlvs = (record { kind = 1; ext = 0; value = Some (100 ∷ []) })
      ∷ ((record { kind = 0; ext = 0; value = Some (88 ∷ []) }) ∷ ((record { kind = 7; ext = 0; value = Some (119 ∷ []) }) ∷ []));
  blocks = own_block ∷ [];
}

-- its row
abbrev pub own_row : HelloRow
own_row = sender_row own_net (Some This)

-- what it reads as
abbrev pub lone_hello : Hello
lone_hello = record {
  originator = Some (record { 0 = 167772161 });
  validity = 49152;
  interval = Some 16384;
  willing = record { flooding = 7; routing = 7; flooding_within = lit≤ tt; routing_within = lit≤ tt };
  rows = own_row ∷ [];
  ascending = one_ascends (λ (row : HelloRow). row.addr) own_row;
}

-- a message of nothing but its header
abbrev pub bare : MessageFields
bare = record { kind = 0; width = 4; originator = None; limit = None; count = None; sequence = None; tlvs = []; blocks = [] }

-- 10.0.0.2, a neighbour
abbrev pub near : RawAddr
near = record { octets = 10 ∷ (0 ∷ (0 ∷ (2 ∷ zeros))); prefix = 32 }

-- the network of that address alone
abbrev pub near_net : NetAddr
near_net = record { addr = record { 0 = 167772162 }; prefix = 32; within = lit≤ tt; clear = refl }

-- SYMMETRIC for the first of its addresses, HEARD for the second
abbrev pub states : AddrTlvFields
states = record { kind = 3; ext = 0; first = 1; last = 2; multi = true; value = Some (1 ∷ (2 ∷ [])) }

-- two addresses before the last one, which the TLV covers
abbrev pub two_near : MessageFields
two_near = record bare { blocks = (record { width = 4; addrs = own ∷ (own ∷ (near ∷ [])); tlvs = states ∷ [] }) ∷ [] }

-- NBR_ADDR_TYPE of 4 on 10.0.0.2 and 10.0.0.1
abbrev pub unknown : AddrTlvFields
unknown = record { kind = 9; ext = 0; first = 0; last = 1; multi = false; value = Some (4 ∷ []) }

-- their block
abbrev pub pair : BlockFields
pair = record { width = 4; addrs = near ∷ (own ∷ []); tlvs = unknown ∷ [] }

-- a TC whose addresses are of no known type
abbrev pub odd_types : MessageFields
odd_types = record {
  kind = 1;
  width = 4;
  originator = Some own;
  limit = Some 3;
  count = Some 2;
  sequence = Some 5;
  tlvs = (record { kind = 1; ext = 0; value = Some (88 ∷ (2 ∷ (100 ∷ []))) }) ∷ ((record { kind = 8; ext = 1; value = Some (0 ∷ (7 ∷ [])) }) ∷ []);
  blocks = pair ∷ [];
}

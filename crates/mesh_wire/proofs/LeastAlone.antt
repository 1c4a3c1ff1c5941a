-- The least form of a packet of one message alone has each address block in the fewest octets.
use Rattle.mesh_wire.proofs.Common.{ℕ, ◌<◌, List, [], length, refl, sym, subst, arith, slice_index, SpellsBlock, SpellsItems, BlockFields, MessageFields, IsEncodableBlock, IsEncodableMessage, LeastPair, LeastMessage, LeastForm, SpellsBriefly, HasBriefBlocks, IsSoleMessage, alone}
use Rattle.mesh_packet.proofs.Spelled.{pair_spelled, items_spelled, width_told, body_spelled, message_spelled}

brief_pair : (width : ℕ) (b : BlockFields) (text : List ℕ) → IsEncodableBlock width b → LeastPair b text → SpellsBriefly width b text
unfolding pair_spelled
brief_pair width b text fit h = record {
  pair = pair_spelled width b text fit h;
  fewest = λ other spelled. h.addrs_is.least other (subst (λ (w : ℕ). SpellsBlock w b.addrs other) (sym fit.width_is) spelled);
}

brief_blocks : (m : MessageFields) (text : List ℕ) (fit : IsEncodableMessage m) (h : LeastMessage m text) → HasBriefBlocks (message_spelled m text fit h)
unfolding message_spelled body_spelled
brief_blocks m text fit h =
    let blocks : List ℕ = h.body_is.blocks in
    subst (λ (w : ℕ). SpellsItems (SpellsBriefly w) m.blocks blocks) (sym (width_told m fit))
    (items_spelled (IsEncodableBlock m.width) LeastPair (SpellsBriefly m.width) (brief_pair m.width) m.blocks blocks fit.blocks h.body_is.blocks_is)

pub sole_message : (m : MessageFields) (bytes : List ℕ) → ((i : ℕ) → slice_index bytes i < 256) → IsEncodableMessage m → LeastForm (alone m) bytes → IsSoleMessage m bytes
sole_message m bytes octets fit least =
    let (text, rest, one, none, parts) = least.messages_is in
    record {
      octets = octets;
      span = record { start = 1; len = length text };
      spelled = record {
        flags = 0;
        sequence = [];
        tlvs = [];
        messages = least.messages;
        version = omega arith;
        sequence_is = refl;
        tlvs_is = (refl, refl);
        messages_is = (text, rest, message_spelled m text fit one, refl, none, parts);
        whole = least.whole;
      };
      brief = brief_blocks m text fit one;
    }

use Rattle.mesh_wire.proofs.Common.{ℕ, List, ◌<◌, subst, rules, slice_index, fields_of_message, LeastForm, alone}
use Rattle.mesh_wire.proofs.LeastAlone.{sole_message}
use Rattle.mesh_wire.proofs.write.alone.Goals as goal

pub returns : goal.returns
returns c =
    let octets : (i : ℕ) → slice_index c.in_ok-bytes.bytes i < 256 = subst (λ (bytes : List ℕ). (i : ℕ) → slice_index bytes i < 256) c.as_slice.ensures c.are_octets.ensures in
    let least : LeastForm (alone (fields_of_message c.args.message)) c.in_ok-bytes.bytes = search rules in
    (sole_message (fields_of_message c.args.message) c.in_ok-bytes.bytes octets c.requires.encodable least, least)

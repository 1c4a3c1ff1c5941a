use Rattle.mesh_addr.proofs.Common.{[], ◌++◌, refl, ap, ◌∙◌, append_assoc, arith, length-append, padded}
use Rattle.mesh_addr.proofs.reader.joined_octets.Goals as goal

pub returns : goal.returns
returns c =
    let head = c.args.head.now in
    let mid = c.args.mid.now in
    let one = c.put_octets.ensures [] refl refl in
    let two = c.put_octets-2.ensures head refl one in
    let three = c.put_octets-3.ensures (head ++ mid) (omega (arith, length-append head mid)) two in
    three ∙ ap padded (append_assoc head mid c.args.tail.now)

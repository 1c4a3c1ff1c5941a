use Rattle.mesh_addr.proofs.Common.{◌≡◌, ◌≤◌, ℕ, arith, last_octets}
use Rattle.mesh_addr.proofs.Limits.{is_same, limit_found, tails_less}
use Rattle.mesh_addr.proofs.choices.shared_tail.Goals as goal

pub returns-else-ne : goal.returns-else-ne
returns-else-ne c =
    let len : ℕ = c.loop-len.len in
    let a = c.args.a.now in
    let b = c.args.b.now in
    let w : ℕ = c.args.width in
    let fits : len ≤ w = omega (arith, c.loop-len.invariant.within, c.requires.most) in
    limit_found c.args.most len (λ n. last_octets w n a ≡ last_octets w n b) c.loop-len.invariant.within c.loop-len.invariant.greatest
    (is_same c.ne.result (last_octets w len a) (last_octets w len b) c.ne.ensures c.if-ne.false) (λ n le e. tails_less a.octets b.octets w n len le fits e)

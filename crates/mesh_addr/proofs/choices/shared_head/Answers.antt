use Rattle.mesh_addr.proofs.Common.{◌≡◌, ℕ, take}
use Rattle.mesh_addr.proofs.Limits.{is_same, limit_found, take_less}
use Rattle.mesh_addr.proofs.choices.shared_head.Goals as goal

pub returns-else-ne : goal.returns-else-ne
returns-else-ne c =
    let len : ℕ = c.loop-len.len in
    let a = c.args.a.now.octets in
    let b = c.args.b.now.octets in
    limit_found c.args.most len (λ n. take n a ≡ take n b) c.loop-len.invariant.within c.loop-len.invariant.greatest
    (is_same c.ne.result (take len a) (take len b) c.ne.ensures c.if-ne.false) (λ n le e. take_less a b n len le e)

use Rattle.mesh_addr.proofs.Common.{◌≤◌, ℕ, take, sym, ◌∙◌, arith, replicate, take-replicate, last_octets, EndsInZeros}
use Rattle.mesh_addr.proofs.Limits.{is_same, is_other, one_less, limit_found, zeros_less}
use Rattle.mesh_addr.proofs.choices.zero_tail.Goals as goal

pub loop-len-preserved : goal.loop-len-preserved
loop-len-preserved c =
    let len : ℕ = c.loop-len.len in
    let short : len ≤ 16 = omega (arith, c.loop-len.invariant.within, c.requires.most, c.requires.width) in
    record {
      within = omega (arith, c.loop-len.invariant.within);
      greatest = one_less c.args.most len (EndsInZeros c.args.width c.args.first.now) c.loop-len.invariant.greatest
          (λ e. is_other c.ne.result (last_octets c.args.width len c.args.first.now) (take len (replicate 16 0)) c.ne.ensures c.if-ne.true (e ∙ sym (take-replicate {X = ℕ} len 16 0 short)));
    }

pub returns-else-ne : goal.returns-else-ne
returns-else-ne c =
    let len : ℕ = c.loop-len.len in
    let fits : len ≤ c.args.width = omega (arith, c.loop-len.invariant.within, c.requires.most) in
    let short : len ≤ 16 = omega (arith, fits, c.requires.width) in
    limit_found c.args.most len (EndsInZeros c.args.width c.args.first.now) c.loop-len.invariant.within c.loop-len.invariant.greatest
    (is_same c.ne.result (last_octets c.args.width len c.args.first.now) (take len (replicate 16 0)) c.ne.ensures c.if-ne.false ∙ take-replicate {X = ℕ} len 16 0 short)
    (λ n le e. zeros_less c.args.first.now c.args.width n len le fits e)

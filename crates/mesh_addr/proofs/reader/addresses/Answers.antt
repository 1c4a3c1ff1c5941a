use Rattle.mesh_addr.proofs.Common.{◌≡◌, ℕ, ◌+◌, List, ◌++◌, ◌∷◌, [], sym, ap, refl, ◌∙◌, arith, length, length-take, slice_range, drop, err_from_is_err_and, shape_of, addr_of, mid_of}
use Rattle.mesh_addr.proofs.Loops.{goes_on, ends, is_done, next_part}
use Rattle.mesh_addr.proofs.reader.addresses.Goals as goal

pub returns-in_err-prefix : goal.returns-in_err-prefix
returns-in_err-prefix c =
    let p = err_from_is_err_and c.from_residual-in_err-prefix.result c.from_residual-in_err-prefix.ensures.1 in
    rw (p.1, p.2) (ends c.args.frame.now (shape_of c.args.shape.now) c.loop.addrs c.args.count c.loop.counter c.loop.mid c.loop.place c.args.end _ c.loop.invariant.reads c.loop-test.true c.in_err-prefix.field-0.0 (sym c.in_err-prefix.ensures.exact))

pub loop-preserved : goal.loop-preserved
loop-preserved c = record {
  reads =
      let shape = shape_of c.args.shape.now in
      let prefix : ℕ = c.in_ok-prefix.prefix in
      let (gap, long, blank_is) = c.outline-blank.ensures in
      let size : length (slice_range c.args.frame.now c.loop.mid (c.loop.mid + mid_of shape)) ≡ mid_of shape = omega (arith, length-take (mid_of shape) (drop c.loop.mid c.args.frame.now)) in
      let a = addr_of shape (slice_range c.args.frame.now c.loop.mid (c.loop.mid + mid_of shape)) prefix in
      let e : c.push.new.self ≡ c.loop.addrs ++ a ∷ [] = c.in_ok-push.ensures.ok ∙ ap (λ (octets : List ℕ). c.loop.addrs ++ record { octets = octets; prefix = prefix } ∷ []) (c.with_middle-octets.ensures shape.head gap shape.tail refl (omega (arith, long, size)) blank_is) in
      rw e (goes_on c.args.frame.now shape c.loop.addrs c.args.count c.loop.counter c.loop.mid c.loop.place c.args.end _ c.loop.invariant.reads c.loop-test.true prefix c.in_ok-prefix.after (sym c.in_ok-prefix.ensures.exact));
  mid = omega (arith, next_part c.loop.counter (mid_of (shape_of c.args.shape.now)));
  within = omega (arith, c.in_ok-prefix.ensures.after);
}

pub returns : goal.returns
returns c = is_done c.args.frame.now (shape_of c.args.shape.now) c.loop.addrs c.args.count c.loop.counter c.loop.mid c.loop.place c.args.end _ c.loop.invariant.reads c.loop-test.false

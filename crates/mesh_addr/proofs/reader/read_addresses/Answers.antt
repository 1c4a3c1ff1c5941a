use Rattle.mesh_addr.proofs.Common.{◌<◌, ◌≤◌, arith, slice_range, IfOk-weaker, IsWritable, SpellsBlock}
use Rattle.mesh_addr.proofs.Writable.{spelled_writable}
use Rattle.mesh_addr.proofs.Calls.{IsRead, spelled_or_refused, only, first}
use Rattle.mesh_addr.proofs.reader.read_addresses.Goals as goal

pub returns-clause-after : goal.returns-clause-after
returns-clause-after c =
    IfOk-weaker c.addresses_of_block.result (λ x. IsRead c.args.width c.args.frame.now c.args.at c.args.end (x.0, x.1)) (λ x. (c.args.at < x.1) × (x.1 ≤ c.args.end)) (λ x h. (h.0, h.1))
    (spelled_or_refused (λ x. (x.0, x.1)) c.addresses_of_block.result c.args.frame.now c.args.at c.args.end c.args.width c.addresses_of_block.ensures c.requires.at c.requires.end).0

pub returns-clause-value : goal.returns-clause-value
returns-clause-value c =
    IfOk-weaker c.addresses_of_block.result (λ x. IsRead c.args.width c.args.frame.now c.args.at c.args.end (x.0, x.1)) (λ x. SpellsBlock c.args.width x.0 (slice_range c.args.frame.now c.args.at x.1)) (λ x h. h.2)
    (spelled_or_refused (λ x. (x.0, x.1)) c.addresses_of_block.result c.args.frame.now c.args.at c.args.end c.args.width c.addresses_of_block.ensures c.requires.at c.requires.end).0

pub returns-clause-writable : goal.returns-clause-writable
returns-clause-writable c =
    IfOk-weaker c.addresses_of_block.result (λ x. IsRead c.args.width c.args.frame.now c.args.at c.args.end (x.0, x.1)) (λ x. IsWritable c.args.width x.0)
    (λ x h. spelled_writable c.args.frame.now (λ i. omega (arith, c.type_inv.frame i)) c.args.at x.1 c.args.width x.0 c.requires.some c.requires.width h.2)
    (spelled_or_refused (λ x. (x.0, x.1)) c.addresses_of_block.result c.args.frame.now c.args.at c.args.end c.args.width c.addresses_of_block.ensures c.requires.at c.requires.end).0

pub returns-clause-refused : goal.returns-clause-refused
returns-clause-refused c = (spelled_or_refused (λ x. (x.0, x.1)) c.addresses_of_block.result c.args.frame.now c.args.at c.args.end c.args.width c.addresses_of_block.ensures c.requires.at c.requires.end).1

pub returns-clause-only : goal.returns-clause-only
returns-clause-only c = only (λ x. (x.0, x.1)) c.addresses_of_block.result c.args.frame.now c.args.at c.args.end c.args.width c.addresses_of_block.ensures c.requires.at c.requires.end

pub returns-clause-first : goal.returns-clause-first
returns-clause-first c = first (λ x. (x.0, x.1)) c.addresses_of_block.result c.args.frame.now c.args.at c.args.end c.args.width c.addresses_of_block.ensures c.requires.at c.requires.end

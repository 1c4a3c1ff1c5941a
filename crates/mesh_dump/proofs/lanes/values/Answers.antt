use Rattle.mesh_dump.proofs.Common.{ℕ, get_or-replicate}
use Rattle.mesh_dump.proofs.lanes.values.Goals as goal

pub returns : goal.returns
returns c = record {
  len = c.where_below.ensures.len;
  each = λ k lt. rw (c.where_below.ensures.each k lt, c.where_below-value.ensures.each k lt, c.less-number.ensures.each k lt, c.more-ten_more.ensures.each k lt, c.less-letter.ensures.each k lt, c.with_bits.ensures.each k lt, get_or-replicate {A = ℕ} 32 k 255 0 lt);
}

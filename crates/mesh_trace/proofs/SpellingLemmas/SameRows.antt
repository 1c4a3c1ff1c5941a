-- When rows of a HELLO are the same, and when HELLOs are.
use Rattle.mesh_trace.proofs.Common.{arith, ◌≡◌, Bool, true, false, eqb, ◌&&◌, ap, sym, ◌∙◌, Decides, common_steps, option_eq, booleans_Decides, false≢true, Decides-and, Decides-like, Metric, HelloRow, LinkStatus, LocalIf}
use Rattle.std.proofs.Math.Bool.{beq}
use Rattle.mesh_atoms.specs.declared.hello.LinkStatus.TheVariants as link
use Rattle.mesh_atoms.specs.declared.hello.LocalIf.TheVariants as local
use Rattle.mesh_atoms.specs.declared.hello.Metrics.{Metrics}
use Rattle.mesh_atoms.specs.declared.hello.Mpr.{Mpr}
use Rattle.mesh_atoms.specs.declared.hello.OtherStatus.{OtherStatus}
use Rattle.mesh_atoms.specs.declared.hello.OtherStatus.TheVariants as other
use Rattle.mesh_atoms.proofs.Rows.{options, nets, metrics}
use Rattle.mesh_wire.proofs.OneHello.{same_metrics, same_mpr}

-- what tells variants apart

yes : {P : Type 0} (b : Bool) → b ≡ true → P → Decides b P
yes b e p = (λ _. p, λ _. e)

no : {P : Type 0} (b : Bool) → b ≡ false → (P → ⊥) → Decides b P
no b e not = (λ t. absurd (false≢true (sym e ∙ t)), λ p. absurd (not p))

locals : (test : LocalIf → LocalIf → Bool) → test local.This local.This ≡ true → test local.Other local.Other ≡ true → test local.This local.Other ≡ false → test local.Other local.This ≡ false → (a b : LocalIf) → Decides (test a b) (a ≡ b)
locals test tt oo to ot a b = grind (arith, common_steps, yes, no)

others : (test : OtherStatus → OtherStatus → Bool) → test other.Lost other.Lost ≡ true → test other.Symmetric other.Symmetric ≡ true → test other.Lost other.Symmetric ≡ false → test other.Symmetric other.Lost ≡ false → (a b : OtherStatus) → Decides (test a b) (a ≡ b)
others test ll ss ls sl a b = grind (arith, common_steps, yes, no)

links : (test : LinkStatus → LinkStatus → Bool) → test link.Lost link.Lost ≡ true → test link.Symmetric link.Symmetric ≡ true → test link.Heard link.Heard ≡ true →
    test link.Lost link.Symmetric ≡ false → test link.Symmetric link.Lost ≡ false → test link.Lost link.Heard ≡ false → test link.Heard link.Lost ≡ false →
    test link.Symmetric link.Heard ≡ false → test link.Heard link.Symmetric ≡ false → (a b : LinkStatus) → Decides (test a b) (a ≡ b)
links test ll ss hh ls sl lh hl sh hs a b = grind (arith, common_steps, yes, no)

-- ---- rows

pub same_row : (a b : HelloRow) → a.addr ≡ b.addr → a.local ≡ b.local → a.link ≡ b.link → a.other ≡ b.other → a.metrics ≡ b.metrics → a.mpr ≡ b.mpr → a ≡ b
same_row a b n l k o m r = grind (arith, common_steps, metrics)

abbrev metrics_test : Metrics → Metrics → Bool
metrics_test a b = option_eq (λ (m n : Metric). eqb m.code n.code) a.link_in b.link_in && (option_eq (λ (m n : Metric). eqb m.code n.code) a.link_out b.link_out
    && (option_eq (λ (m n : Metric). eqb m.code n.code) a.near_in b.near_in && option_eq (λ (m n : Metric). eqb m.code n.code) a.near_out b.near_out))

all_metrics : (a b : Metrics) → Decides (metrics_test a b) (a ≡ b)
all_metrics a b = Decides-like _ (λ h. same_metrics a b h.0 h.1.0 h.1.1.0 h.1.1.1)
    (λ e. (ap (λ (m : Metrics). m.link_in) e, (ap (λ (m : Metrics). m.link_out) e, (ap (λ (m : Metrics). m.near_in) e, ap (λ (m : Metrics). m.near_out) e))))
    (Decides-and _ _ (options _ metrics a.link_in b.link_in) (Decides-and _ _ (options _ metrics a.link_out b.link_out) (Decides-and _ _ (options _ metrics a.near_in b.near_in) (options _ metrics a.near_out b.near_out))))

mprs : (a b : Mpr) → Decides (beq a.flooding b.flooding && beq a.routing b.routing) (a ≡ b)
mprs a b = Decides-like _ (λ h. same_mpr a b h.0 h.1) (λ e. (ap (λ (m : Mpr). m.flooding) e, ap (λ (m : Mpr). m.routing) e)) (Decides-and _ _ (booleans_Decides a.flooding b.flooding) (booleans_Decides a.routing b.routing))

module _ (local_test : LocalIf → LocalIf → Bool) (link_test : LinkStatus → LinkStatus → Bool) (other_test : OtherStatus → OtherStatus → Bool) where
  rows : ((a b : LocalIf) → Decides (local_test a b) (a ≡ b)) → ((a b : LinkStatus) → Decides (link_test a b) (a ≡ b)) → ((a b : OtherStatus) → Decides (other_test a b) (a ≡ b)) → (a b : HelloRow) →
      Decides ((eqb a.addr.addr.0 b.addr.addr.0 && eqb a.addr.prefix b.addr.prefix) && (option_eq local_test a.local b.local && (option_eq link_test a.link b.link
      && (option_eq other_test a.other b.other && (metrics_test a.metrics b.metrics && (beq a.mpr.flooding b.mpr.flooding && beq a.mpr.routing b.mpr.routing)))))) (a ≡ b)
  rows of_local of_link of_other a b = Decides-like _ (λ h. same_row a b h.0 h.1.0 h.1.1.0 h.1.1.1.0 h.1.1.1.1.0 h.1.1.1.1.1)
      (λ e. (ap (λ (r : HelloRow). r.addr) e, (ap (λ (r : HelloRow). r.local) e, (ap (λ (r : HelloRow). r.link) e, (ap (λ (r : HelloRow). r.other) e, (ap (λ (r : HelloRow). r.metrics) e, ap (λ (r : HelloRow). r.mpr) e))))))
      (Decides-and _ _ (nets a.addr b.addr) (Decides-and _ _ (options local_test of_local a.local b.local) (Decides-and _ _ (options link_test of_link a.link b.link)
      (Decides-and _ _ (options other_test of_other a.other b.other) (Decides-and _ _ (all_metrics a.metrics b.metrics) (mprs a.mpr b.mpr))))))

-- rows by the tests that tell variants apart
pub hello_rows : (local_test : LocalIf → LocalIf → Bool) (link_test : LinkStatus → LinkStatus → Bool) (other_test : OtherStatus → OtherStatus → Bool) →
    local_test local.This local.This ≡ true → local_test local.Other local.Other ≡ true → local_test local.This local.Other ≡ false → local_test local.Other local.This ≡ false →
    link_test link.Lost link.Lost ≡ true → link_test link.Symmetric link.Symmetric ≡ true → link_test link.Heard link.Heard ≡ true →
    link_test link.Lost link.Symmetric ≡ false → link_test link.Symmetric link.Lost ≡ false → link_test link.Lost link.Heard ≡ false → link_test link.Heard link.Lost ≡ false →
    link_test link.Symmetric link.Heard ≡ false → link_test link.Heard link.Symmetric ≡ false →
    other_test other.Lost other.Lost ≡ true → other_test other.Symmetric other.Symmetric ≡ true → other_test other.Lost other.Symmetric ≡ false → other_test other.Symmetric other.Lost ≡ false →
    (a b : HelloRow) → Decides ((eqb a.addr.addr.0 b.addr.addr.0 && eqb a.addr.prefix b.addr.prefix) && (option_eq local_test a.local b.local && (option_eq link_test a.link b.link
    && (option_eq other_test a.other b.other && (metrics_test a.metrics b.metrics && (beq a.mpr.flooding b.mpr.flooding && beq a.mpr.routing b.mpr.routing)))))) (a ≡ b)
hello_rows local_test link_test other_test a1 a2 a3 a4 b1 b2 b3 b4 b5 b6 b7 b8 b9 c1 c2 c3 c4 a b =
    rows local_test link_test other_test (locals local_test a1 a2 a3 a4) (links link_test b1 b2 b3 b4 b5 b6 b7 b8 b9) (others other_test c1 c2 c3 c4) a b

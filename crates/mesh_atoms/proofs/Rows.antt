-- When rows of a TC are the same.
use Rattle.mesh_atoms.proofs.Common.{arith, common_steps, le_prop, ◌≡◌, ℕ, ◌<◌, subst, Bool, eqb, ◌&&◌, ap, Decides, Option, option_eq, Addr4, NetAddr, Metric}
use Rattle.std.proofs.Math.Bool.{beq}
use Rattle.std.proofs.lemmas.Bool.Decides.{Decides-and, Decides-eqb, Decides-like}
use Rattle.mesh_atoms.specs.declared.tc.TcRow.{TcRow}
use Rattle.mesh_atoms.proofs.Nets.{same_net}

pub options : {X : Type 0} (test : X → X → Bool) → ((x y : X) → Decides (test x y) (x ≡ y)) → (a b : Option X) → Decides (option_eq test a b) (a ≡ b)
options test same a b = grind (arith, common_steps)

pub nets : (a b : NetAddr) → Decides (eqb a.addr.0 b.addr.0 && eqb a.prefix b.prefix) (a ≡ b)
nets a b = Decides-like _ (λ h. same_net a b (ap (λ (n : ℕ). let x : Addr4 = record { 0 = n } in x) h.0) h.1) (λ e. (ap (λ (n : NetAddr). n.addr.0) e, ap (λ (n : NetAddr). n.prefix) e)) (Decides-and _ _ (Decides-eqb a.addr.0 b.addr.0) (Decides-eqb a.prefix b.prefix))

abbrev metric_of : (code : ℕ) → code < 4096 → Metric
metric_of code in_range = record { code = code; in_range = in_range }

pub same_metric : (a b : Metric) → a.code ≡ b.code → a ≡ b
same_metric a b e = subst (λ (k : ℕ). (h : k < 4096) → a ≡ metric_of k h) e (λ h. ap (λ (x : a.code < 4096). metric_of a.code x) (le_prop a.in_range h)) b.in_range

pub metrics : (a b : Metric) → Decides (eqb a.code b.code) (a ≡ b)
metrics a b = Decides-like _ (same_metric a b) (ap (λ (m : Metric). m.code)) (Decides-eqb a.code b.code)

pub rows : (a b : TcRow) → Decides ((eqb a.dest.addr.0 b.dest.addr.0 && eqb a.dest.prefix b.dest.prefix) && (beq a.origin b.origin && (beq a.routable b.routable
    && (option_eq eqb a.gateway b.gateway && option_eq (λ (m n : Metric). eqb m.code n.code) a.metric b.metric)))) (a ≡ b)
rows a b = grind (arith, common_steps, Decides-like, Decides-and, nets, options, metrics)

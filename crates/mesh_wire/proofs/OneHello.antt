-- A message that keeps the rules of a HELLO reads as one HELLO.
use Rattle.mesh_wire.proofs.Common.{arith, common_steps, ◌≡◌, ℕ, inr, List, Bool, refl, sym, ap, subst, ◌∙◌, ◌↔◌, AllPairs, Contains, Option, Some, None, IsSome, IsTrue, Addr4, NetAddr, IsBefore, ascends_prop, LocalIf, Willing, HelloRow, Hello, IsAlone, same_answer, row_octet, HasWilling, WillingIs, TellsOther, IsReadHelloRow, HelloIs, sender_row, BreaksHello, TwoValues, LOCAL_IF, MPR, OctetKind, Local, MessageFields, MetricKind, Link_in, Link_out, Near_in, Near_out, metric_of, MetricIs, HasTwoMetrics, statuses, type_of, OctetIs, SaysFlag, Keeps}
use Rattle.mesh_atoms.specs.declared.hello.Metrics.{Metrics}
use Rattle.mesh_atoms.specs.declared.hello.Mpr.{Mpr}
use Rattle.mesh_atoms.proofs.Equal.{same_willing}
use Rattle.mesh_wire.specs.HelloRules.{WrongMetric}
use Rattle.mesh_wire.proofs.Single.{one_time, one_interval, one_originator, one_octet, one_metric, one_rows}
use Rattle.mesh_wire.proofs.Statuses.{local_among, same_local, same_row, alone_row}

-- ---- rows

pub same_metrics : (m n : Metrics) → m.link_in ≡ n.link_in → m.link_out ≡ n.link_out → m.near_in ≡ n.near_in → m.near_out ≡ n.near_out → m ≡ n
same_metrics m n a b c d = grind (arith, common_steps)

abbrev mpr_of : Bool → Bool → Mpr
mpr_of a b = record { flooding = a; routing = b }

pub same_mpr : (m n : Mpr) → m.flooding ≡ n.flooding → m.routing ≡ n.routing → m ≡ n
same_mpr m n a b = ap (λ (x : Bool). mpr_of x m.routing) a ∙ ap (λ (x : Bool). mpr_of n.flooding x) b

-- ---- what rows of one address say

module _ (message : MessageFields) (keeps : Keeps (BreaksHello message)) where
  not_two_metrics : (net : NetAddr) → HasTwoMetrics message net → ⊥
  not_two_metrics net metrics = keeps 29 (Some net) (WrongMetric net (inr metrics))

  one_status : (net : NetAddr) (kind : OctetKind) → Contains statuses kind → (a b : Option ℕ) → OctetIs message net (type_of kind) a → OctetIs message net (type_of kind) b → a ≡ b
  one_status net kind among a b = one_octet message net (type_of kind) a b (λ two. keeps 27 (Some net) (TwoValues net kind among two))

  others_alike : (r s : HelloRow) → r.addr ≡ s.addr → TellsOther message r → TellsOther message s → r ≡ s
  others_alike r s a h g =
      let metric : (kind : MetricKind) → metric_of kind r.metrics ≡ metric_of kind s.metrics =
      λ kind. one_metric message r.addr kind _ _ (not_two_metrics r.addr) (h.metric kind) (subst (λ (net : NetAddr). MetricIs message net kind (metric_of kind s.metrics)) (sym a) (g.metric kind)) in
      let flag : (n : ℕ) (b : Bool) → IsTrue b ↔ SaysFlag message s.addr MPR n → IsTrue b ↔ SaysFlag message r.addr MPR n = λ n b said. subst (λ (net : NetAddr). IsTrue b ↔ SaysFlag message net MPR n) (sym a) said in
      same_row r s a
      (λ kind among. one_status r.addr kind among (row_octet r kind) (row_octet s kind) (h.status kind among) (subst (λ (net : NetAddr). OctetIs message net (type_of kind) (row_octet s kind)) (sym a) (g.status kind among)))
      (same_metrics r.metrics s.metrics (metric Link_in) (metric Link_out) (metric Near_in) (metric Near_out))
      (same_mpr r.mpr s.mpr (same_answer r.mpr.flooding s.mpr.flooding h.flooding (flag 1 s.mpr.flooding g.flooding)) (same_answer r.mpr.routing s.mpr.routing h.routing (flag 2 s.mpr.routing g.routing)))

  senders_alike : (r s : HelloRow) → r.addr ≡ s.addr → r.local ≡ s.local → IsAlone r → IsAlone s → r ≡ s
  senders_alike r s a l h g = alone_row r h ∙ ap (λ (x : NetAddr). sender_row x r.local) a ∙ ap (sender_row s.addr) l ∙ sym (alone_row s g)

  alike : (r s : HelloRow) (q : Option LocalIf) → r.addr ≡ s.addr → r.local ≡ q → s.local ≡ q → IsReadHelloRow message r → IsReadHelloRow message s → r ≡ s
  alike r s None a e f h g = others_alike r s a (h.of_other e) (g.of_other f)
  alike r s (Some x) a e f h g = senders_alike r s a (e ∙ sym f) (h.of_sender (subst IsSome (sym e) refl)) (g.of_sender (subst IsSome (sym f) refl))

  -- a row is told by its address
  told : (r s : HelloRow) → r.addr ≡ s.addr → IsReadHelloRow message r → IsReadHelloRow message s → r ≡ s
  told r s a h g =
      let there : OctetIs message r.addr LOCAL_IF (row_octet s Local) = subst (λ (net : NetAddr). OctetIs message net LOCAL_IF (row_octet s Local)) (sym a) g.local in
      alike r s s.local a (same_local r s (one_status r.addr Local local_among (row_octet r Local) (row_octet s Local) h.local there)) refl h g

-- ---- the whole

one_octet_of_willing : (message : MessageFields) (a b : ℕ) → HasWilling message a → HasWilling message b → a ≡ b
one_octet_of_willing message a b h3 h4 = grind (arith, common_steps)

one_willing : (message : MessageFields) (a b : Willing) → WillingIs message a → WillingIs message b → a ≡ b
one_willing message a b h3 h4 = grind (arith, common_steps, one_octet_of_willing, same_willing)

abbrev pub Up : List HelloRow → Type 0
Up rows = AllPairs (λ (r t : HelloRow). IsBefore r.addr t.addr) rows

abbrev pub hello_from : Option Addr4 → ℕ → Option ℕ → Willing → (rows : List HelloRow) → Up rows → Hello
hello_from o v i w r up = record { originator = o; validity = v; interval = i; willing = w; rows = r; ascending = up }

pub from_rows : (o : Option Addr4) (v : ℕ) (i : Option ℕ) (w : Willing) (r t : List HelloRow) (up : Up r) (up' : Up t) → r ≡ t → hello_from o v i w r up ≡ hello_from o v i w t up'
from_rows o v i w r t up up' e =
    subst (λ (x : List HelloRow). (h : Up x) → hello_from o v i w r up ≡ hello_from o v i w x h) e
    (λ h. ap (hello_from o v i w r) (ascends_prop (λ (row : HelloRow). row.addr) r up h)) up'

pub one_hello : (message : MessageFields) → Keeps (BreaksHello message) → (a b : Hello) → HelloIs message a → HelloIs message b → a ≡ b
one_hello message keeps a b h g =
    ap (λ (x : Option Addr4). hello_from x a.validity a.interval a.willing a.rows a.ascending) (one_originator message.originator a.originator b.originator h.originator g.originator)
    ∙ ap (λ (x : ℕ). hello_from b.originator x a.interval a.willing a.rows a.ascending) (one_time message 1 1 a.validity b.validity h.validity.0 g.validity.0)
    ∙ ap (λ (x : Option ℕ). hello_from b.originator b.validity x a.willing a.rows a.ascending) (one_interval message 1 a.interval b.interval h.interval g.interval)
    ∙ ap (λ (x : Willing). hello_from b.originator b.validity b.interval x a.rows a.ascending) (one_willing message a.willing b.willing h.willing g.willing)
    ∙ from_rows b.originator b.validity b.interval b.willing a.rows b.rows a.ascending b.ascending
    (one_rows message (λ (row : HelloRow). row.addr) (IsReadHelloRow message) (told message keeps) a.rows b.rows h.rows g.rows)

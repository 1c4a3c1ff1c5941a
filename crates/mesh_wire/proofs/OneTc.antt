-- A message that keeps the rules of a TC reads as one TC.
use Rattle.mesh_wire.proofs.Common.{arith, common_steps, ◌≡◌, ℕ, ◌+◌, ◌*◌, inr, List, [], ◌∷◌, Bool, refl, sym, ap, subst, ◌∙◌, AllPairs, Option, Some, Addr4, NetAddr, IsBefore, ascends_prop, Metric, TcRow, Tc, GATEWAY, TlvFields, MessageFields, Near_out, Keeps, ContentIs, IsReadTcRow, TcIs, BreaksTc, TwoGateways, WrongMetric, distance_of, same_some, same_answer}
use Rattle.mesh_wire.proofs.Single.{one_time, one_interval, one_originator, one_octet, one_metric, one_rows}

-- ---- rows

abbrev row_of : NetAddr → Bool → Bool → Option ℕ → Option Metric → TcRow
row_of d o r g m = record { dest = d; origin = o; routable = r; gateway = g; metric = m }

module _ (message : MessageFields) (keeps : Keeps (BreaksTc message)) where
  told_here : (r : TcRow) (o q : Bool) (g : Option ℕ) (m : Option Metric) → IsReadTcRow message r → IsReadTcRow message (row_of r.dest o q g m) → r ≡ row_of r.dest o q g m
  told_here r o q g m h k =
      ap (λ (x : Bool). row_of r.dest x r.routable r.gateway r.metric) (same_answer r.origin o h.origin k.origin)
      ∙ ap (λ (x : Bool). row_of r.dest o x r.gateway r.metric) (same_answer r.routable q h.routable k.routable)
      ∙ ap (λ (x : Option ℕ). row_of r.dest o q x r.metric) (one_octet message r.dest GATEWAY r.gateway g (λ values. keeps 38 (Some r.dest) (TwoGateways r.dest values)) h.gateway_is k.gateway_is)
      ∙ ap (λ (x : Option Metric). row_of r.dest o q g x) (one_metric message r.dest Near_out r.metric m (λ metrics. keeps 39 (Some r.dest) (WrongMetric r.dest (inr metrics))) h.metric k.metric)

  -- a row is told by its address
  told : (r s : TcRow) → r.dest ≡ s.dest → IsReadTcRow message r → IsReadTcRow message s → r ≡ s
  told r s d h k =
      let here : IsReadTcRow message (row_of r.dest s.origin s.routable s.gateway s.metric) =
      subst (λ (net : NetAddr). IsReadTcRow message (row_of net s.origin s.routable s.gateway s.metric)) (sym d) k in
      told_here r s.origin s.routable s.gateway s.metric h here ∙ ap (λ (net : NetAddr). row_of net s.origin s.routable s.gateway s.metric) d

-- ---- the whole

one_part : (a b : TlvFields) (parts : List TlvFields) → parts ≡ a ∷ [] → parts ≡ b ∷ [] → a ≡ b
one_part a b parts e f = cc

one_short : (a b c d : ℕ) (octets : List ℕ) → octets ≡ a ∷ b ∷ [] → octets ≡ c ∷ d ∷ [] → 256 * a + b ≡ 256 * c + d
one_short a b c d octets e f = grind (arith, common_steps)

one_content : (message : MessageFields) (a b : ℕ) (x y : Bool) → ContentIs message a x → ContentIs message b y → (a ≡ b) × (x ≡ y)
one_content message a b x y h5 h6 = grind (arith, common_steps, one_part, one_short)

abbrev pub Up : List TcRow → Type 0
Up rows = AllPairs (λ (r t : TcRow). IsBefore r.dest t.dest) rows

abbrev pub tc_from : Addr4 → ℕ → ℕ → Bool → ℕ → Option ℕ → (rows : List TcRow) → Up rows → Tc
tc_from o s n c v i r up = record { originator = o; sequence = s; ansn = n; complete = c; validity = v; interval = i; rows = r; ascending = up }

pub from_rows : (o : Addr4) (s n : ℕ) (c : Bool) (v : ℕ) (i : Option ℕ) (r t : List TcRow) (up : Up r) (up' : Up t) → r ≡ t → tc_from o s n c v i r up ≡ tc_from o s n c v i t up'
from_rows o s n c v i r t up up' e =
    subst (λ (x : List TcRow). (h : Up x) → tc_from o s n c v i r up ≡ tc_from o s n c v i x h) e
    (λ h. ap (tc_from o s n c v i r) (ascends_prop (λ (row : TcRow). row.dest) r up h)) up'

pub one_tc : (message : MessageFields) → Keeps (BreaksTc message) → (a b : Tc) → TcIs message a → TcIs message b → a ≡ b
one_tc message keeps a b h g =
    let distance : ℕ = distance_of message.count in
    let originator : Some a.originator ≡ Some b.originator = one_originator message.originator (Some a.originator) (Some b.originator) h.originator g.originator in
    let content = one_content message a.ansn b.ansn a.complete b.complete h.content g.content in
    ap (λ (x : Addr4). tc_from x a.sequence a.ansn a.complete a.validity a.interval a.rows a.ascending) (same_some (sym originator) refl)
    ∙ ap (λ (x : ℕ). tc_from b.originator x a.ansn a.complete a.validity a.interval a.rows a.ascending) (same_some h.sequence g.sequence)
    ∙ ap (λ (x : ℕ). tc_from b.originator b.sequence x a.complete a.validity a.interval a.rows a.ascending) content.0
    ∙ ap (λ (x : Bool). tc_from b.originator b.sequence b.ansn x a.validity a.interval a.rows a.ascending) content.1
    ∙ ap (λ (x : ℕ). tc_from b.originator b.sequence b.ansn b.complete x a.interval a.rows a.ascending) (one_time message 1 distance a.validity b.validity h.validity.0 g.validity.0)
    ∙ ap (λ (x : Option ℕ). tc_from b.originator b.sequence b.ansn b.complete b.validity x a.rows a.ascending) (one_interval message distance a.interval b.interval h.interval g.interval)
    ∙ from_rows b.originator b.sequence b.ansn b.complete b.validity b.interval a.rows b.rows a.ascending b.ascending
    (one_rows message (λ (row : TcRow). row.dest) (IsReadTcRow message) (told message keeps) a.rows b.rows h.rows g.rows)

-- What the HELLO of an interface says of an address follows from the link and the neighbour that have it.
use Rattle.mesh_machine.proofs.Common.{◌≡◌, ℕ, ◌⊎◌, inl, inr, refl, sym, ◌∙◌, ap, subst, Bool, true, false, cond, ◌||◌, ◌&&◌, arith, ◌↔◌, Contains, List, Option, Some, None, IsTrue, is_some, not, nat_lt, common_steps, none-some, Addr4, Metric, RouterSettings, Neighbour, base_of, SoundNeighbourhood, State, state_of, is_symmetric, is_heard, HasSymmetricWith, link_at, neighbour_at, has_found, link_equiv, same_link, looks_up_links, looks_up_neighbours, IsSaidOf, IsFloodingRelay, is_link_symmetric, link_metric_in, link_metric_out, near_metric_in, near_metric_out, or_else, IsRelayOf, IsNeighbourWith, IsLinkWith}
use Rattle.mesh_atoms.specs.declared.tuples.Link.{Link}
use Rattle.mesh_atoms.specs.declared.tuples.LinkKey.{LinkKey}
use Rattle.mesh_atoms.specs.Hello.{Says, SaysLink, HasLinkTo, IsSaid, Near_in, Near_out, Link_in, Link_out, Flooding, Routing}
use Rattle.mesh_atoms.specs.declared.tuples.LinkState.{LinkState}
use Rattle.mesh_atoms.specs.declared.tuples.LinkState.TheVariants.{Pending as Is_pending, Lost as Is_lost, Symmetric as Is_symmetric, Heard as Is_heard}
use Rattle.mesh_atoms.specs.Words.{IsValue}
use Rattle.mesh_machine.specs.declared.said.Said.{Said}
use Rattle.mesh_atoms.proofs.Options.{same_some}

-- The status of a link, as a choice

abbrev state_by : Bool → Bool → Bool → Bool → LinkState
state_by p l s h = cond p Is_pending (cond l Is_lost (cond s Is_symmetric (cond h Is_heard Is_lost)))

symmetric_to : (p l s h : Bool) → cond p false (cond l false s) ≡ true → state_by p l s h ≡ Is_symmetric
symmetric_to p l s h is = grind (arith, common_steps)

symmetric_from : (p l s h : Bool) → state_by p l s h ≡ Is_symmetric → cond p false (cond l false s) ≡ true
symmetric_from p l s h is = grind (arith, common_steps)

heard_to : (p l s h : Bool) → (not p && (not l && (not s && h))) ≡ true → state_by p l s h ≡ Is_heard
heard_to p l s h is = grind (arith, common_steps)

heard_from : (p l s h : Bool) → state_by p l s h ≡ Is_heard → (not p && (not l && (not s && h))) ≡ true
heard_from p l s h is = grind (arith, common_steps)

is_symmetric_to : (l : Link) (now : ℕ) → is_symmetric l now ≡ true → state_of l now ≡ Is_symmetric
is_symmetric_to l now is = symmetric_to l.pending l.lost (nat_lt now l.sym) (nat_lt now l.heard) is

is_symmetric_from : (l : Link) (now : ℕ) → state_of l now ≡ Is_symmetric → is_symmetric l now ≡ true
is_symmetric_from l now is = symmetric_from l.pending l.lost (nat_lt now l.sym) (nat_lt now l.heard) is

is_heard_to : (l : Link) (now : ℕ) → is_heard l now ≡ true → state_of l now ≡ Is_heard
is_heard_to l now is = heard_to l.pending l.lost (nat_lt now l.sym) (nat_lt now l.heard) is

is_heard_from : (l : Link) (now : ℕ) → state_of l now ≡ Is_heard → is_heard l now ≡ true
is_heard_from l now is = heard_from l.pending l.lost (nat_lt now l.sym) (nat_lt now l.heard) is

-- SYMMETRIC by the link, or by the neighbour where not by the link
either_shows : {L N : Type 0} (b c : Bool) → (IsTrue b ↔ L) → (IsTrue c ↔ N) → IsTrue (b || c) ↔ (L ⊎ (N × (L → ⊥)))
either_shows b c p q = grind (arith, common_steps)

-- of two metrics, each of which has one value at most, the one that is taken
said_is : (near link : Metric → Type 0) → ((m n : Metric) → near m → near n → m ≡ n) → ((m n : Metric) → link m → link n → m ≡ n) → (a b : Option Metric) →
    IsValue near a → IsValue link b → (m : Option Metric) → IsSaid near link m ↔ (m ≡ or_else a b)
said_is near link one_near one_link a b v w m = grind (arith, common_steps, none-some, same_some)

module _ (s : State) (settings : RouterSettings) (i now : ℕ) (a : Addr4) (sound : SoundNeighbourhood settings now s.bases.neighbourhood) where
  -- The link of the interface that has the address

  one_link : (p q : LinkState) (e f : Link) → HasLinkTo s i now a p e → HasLinkTo s i now a q f → e ≡ f
  one_link p q e f v w =
      let x = (looks_up_links s i v.0 e (sound.distinct_links i)).0 v.1 in
      let y = (looks_up_links s i w.0 f (sound.distinct_links i)).0 w.1 in
      let same : v.0 ≡ w.0 = sound.links_apart i v.0 w.0 (e, x.0) (f, y.0) a x.1 y.1 v.2 w.2 in
      ap (λ (z : Link × ℕ). z.0) (same_some (subst (λ (k : LinkKey). link_at s.bases.neighbourhood i k ≡ Some (e, x.0)) same x.1) y.1)

  link_to : (e : LinkKey × (Link × ℕ)) (p : LinkState) → IsLinkWith (base_of s.bases.neighbourhood.links i) a e → state_of e.1.0 now ≡ p → HasLinkTo s i now a p e.1.0
  link_to e p with' is =
      let found = (has_found link_equiv same_link (base_of s.bases.neighbourhood.links i) e.0 e.1.0 (sound.distinct_links i)).0 (e.1.1, with'.0) in
      (e.0, (looks_up_links s i e.0 e.1.0 (sound.distinct_links i)).1 found, with'.1, is)

  no_link : {B : Type 0} → IsValue (IsLinkWith (base_of s.bases.neighbourhood.links i) a) None → (p : LinkState) (l : Link) → HasLinkTo s i now a p l → B
  no_link none p l w =
      let found = (looks_up_links s i w.0 l (sound.distinct_links i)).0 w.1 in
      let has = (has_found link_equiv same_link (base_of s.bases.neighbourhood.links i) w.0 l (sound.distinct_links i)).1 found in
      absurd (none (w.0, (l, has.0)) (has.1, w.2))

  -- any link with the address is this one, so it is what this one is
  is_of : (e : LinkKey × (Link × ℕ)) (p : LinkState) (l : Link) → IsLinkWith (base_of s.bases.neighbourhood.links i) a e → HasLinkTo s i now a p l → state_of e.1.0 now ≡ p
  is_of e p l with' w = ap (λ (x : Link). state_of x now) (one_link (state_of e.1.0 now) p e.1.0 l (link_to e (state_of e.1.0 now) with' refl) w) ∙ w.3

  link_shows : (link : Option (LinkKey × (Link × ℕ))) → IsValue (IsLinkWith (base_of s.bases.neighbourhood.links i) a) link → IsTrue (is_link_symmetric link now) ↔ SaysLink s i now a Is_symmetric
  link_shows None none = (λ h. absurd cc, λ w. no_link none Is_symmetric w.0 w.1)
  link_shows (Some e) with' = (
    λ h. (e.1.0, link_to e Is_symmetric with' (is_symmetric_to e.1.0 now h)),
    λ w. is_symmetric_from e.1.0 now (is_of e Is_symmetric w.0 with' w.1),
  )

  link_in_of : (link : Option (LinkKey × (Link × ℕ))) → IsValue (IsLinkWith (base_of s.bases.neighbourhood.links i) a) link → IsValue (λ m. Says s i now a (Link_in m)) (link_metric_in link now)
  link_in_of None none = λ m w. elim w.1 [ inl h ↦ no_link none Is_heard w.0 h | inr h ↦ no_link none Is_symmetric w.0 h ]
  link_in_of (Some e) with' = by_status (is_symmetric e.1.0 now) (is_heard e.1.0 now) refl refl
    where
      by_status : (b c : Bool) → is_symmetric e.1.0 now ≡ b → is_heard e.1.0 now ≡ c →
          IsValue (λ m. Says s i now a (Link_in m)) (cond b (Some e.1.0.link_in) (cond c (Some e.1.0.link_in) None))
      by_status true c p q = (e.1.0, inr (link_to e Is_symmetric with' (is_symmetric_to e.1.0 now p)), refl)
      by_status false true p q = (e.1.0, inl (link_to e Is_heard with' (is_heard_to e.1.0 now q)), refl)
      by_status false false p q = λ m w. elim w.1 [
        | inl h ↦ let is = is_heard_from e.1.0 now (is_of e Is_heard w.0 with' h) in absurd cc
        | inr h ↦ let is = is_symmetric_from e.1.0 now (is_of e Is_symmetric w.0 with' h) in absurd cc
      ]

  link_out_of : (link : Option (LinkKey × (Link × ℕ))) → IsValue (IsLinkWith (base_of s.bases.neighbourhood.links i) a) link → IsValue (λ m. Says s i now a (Link_out m)) (link_metric_out link now)
  link_out_of None none = λ m w. no_link none Is_symmetric w.0 w.1
  link_out_of (Some e) with' = by_status (is_symmetric e.1.0 now) e.1.0.link_out refl refl
    where
      by_status : (b : Bool) (out : Option Metric) → is_symmetric e.1.0 now ≡ b → e.1.0.link_out ≡ out → IsValue (λ m. Says s i now a (Link_out m)) (cond b out None)
      by_status true None p q = λ m w.
          let same = one_link (state_of e.1.0 now) Is_symmetric e.1.0 w.0 (link_to e (state_of e.1.0 now) with' refl) w.1 in
          absurd (none-some m (sym q ∙ (ap (λ (l : Link). l.link_out) same ∙ w.2)))
      by_status true (Some m) p q = (e.1.0, link_to e Is_symmetric with' (is_symmetric_to e.1.0 now p), q)
      by_status false out p q = λ m w. let is = is_symmetric_from e.1.0 now (is_of e Is_symmetric w.0 with' w.1) in absurd cc

  one_link_in : (m n : Metric) → Says s i now a (Link_in m) → Says s i now a (Link_in n) → m ≡ n
  one_link_in m n v w = sym v.2 ∙ (ap (λ (l : Link). l.link_in) (of v.1 w.1) ∙ w.2)
    where
      of : (HasLinkTo s i now a Is_heard v.0 ⊎ HasLinkTo s i now a Is_symmetric v.0) → (HasLinkTo s i now a Is_heard w.0 ⊎ HasLinkTo s i now a Is_symmetric w.0) → v.0 ≡ w.0
      of (inl p) (inl q) = one_link Is_heard Is_heard v.0 w.0 p q
      of (inl p) (inr q) = one_link Is_heard Is_symmetric v.0 w.0 p q
      of (inr p) (inl q) = one_link Is_symmetric Is_heard v.0 w.0 p q
      of (inr p) (inr q) = one_link Is_symmetric Is_symmetric v.0 w.0 p q

  one_link_out : (m n : Metric) → Says s i now a (Link_out m) → Says s i now a (Link_out n) → m ≡ n
  one_link_out m n v w = same_some (sym (ap (λ (l : Link). l.link_out) (one_link Is_symmetric Is_symmetric v.0 w.0 v.1 w.1)) ∙ v.2) w.2

  -- The symmetric neighbour that has the address

  one_near : (o p : Addr4) (m n : Neighbour) → HasSymmetricWith s a o m → HasSymmetricWith s a p n → (o ≡ p) × (m ≡ n)
  one_near o p m n v w =
      let x = (looks_up_neighbours s o m sound.distinct_neighbours).0 v.0.0 in
      let y = (looks_up_neighbours s p n sound.distinct_neighbours).0 w.0.0 in
      let same : o ≡ p = sound.neighbours_apart o p (m, x.0) (n, y.0) a x.1 y.1 v.1 w.1 in
      (same, ap (λ (z : Neighbour × ℕ). z.0) (same_some (subst (λ (k : Addr4). neighbour_at s.bases.neighbourhood k ≡ Some (m, x.0)) same x.1) y.1))

  near_to : (e : Addr4 × (Neighbour × ℕ)) → IsNeighbourWith s.bases.neighbourhood.neighbours a e → HasSymmetricWith s a e.0 e.1.0
  near_to e with' = (((e.1.1, with'.0), with'.1), with'.2)

  no_near : {B : Type 0} → IsValue (IsNeighbourWith s.bases.neighbourhood.neighbours a) None → (o : Addr4) (n : Neighbour) → HasSymmetricWith s a o n → B
  no_near none o n w = let ((has, is), in') = w in absurd (none (o, (n, has.0)) (has.1, is, in'))

  near_shows : (near : Option (Addr4 × (Neighbour × ℕ))) → IsValue (IsNeighbourWith s.bases.neighbourhood.neighbours a) near →
      IsTrue (is_some near) ↔ ((o : Addr4) × (n : Neighbour) × HasSymmetricWith s a o n)
  near_shows None none = (λ h. absurd cc, λ w. no_near none w.0 w.1 w.2)
  near_shows (Some e) with' = (λ h. (e.0, e.1.0, near_to e with'), λ w. refl)

  near_in_of : (near : Option (Addr4 × (Neighbour × ℕ))) → IsValue (IsNeighbourWith s.bases.neighbourhood.neighbours a) near → IsValue (λ m. Says s i now a (Near_in m)) (near_metric_in near)
  near_in_of None none = λ m w. no_near none w.0 w.1 w.2
  near_in_of (Some e) with' = by_metric e.1.0.metric_in refl
    where
      by_metric : (o : Option Metric) → e.1.0.metric_in ≡ o → IsValue (λ m. Says s i now a (Near_in m)) o
      by_metric None q = λ m w. let same = (one_near e.0 w.0 e.1.0 w.1 (near_to e with') w.2).1 in absurd (none-some m (sym q ∙ (ap (λ (n : Neighbour). n.metric_in) same ∙ w.3)))
      by_metric (Some m) q = (e.0, e.1.0, near_to e with', q)

  near_out_of : (near : Option (Addr4 × (Neighbour × ℕ))) → IsValue (IsNeighbourWith s.bases.neighbourhood.neighbours a) near → IsValue (λ m. Says s i now a (Near_out m)) (near_metric_out near)
  near_out_of None none = λ m w. no_near none w.0 w.1 w.2
  near_out_of (Some e) with' = by_metric e.1.0.metric_out refl
    where
      by_metric : (o : Option Metric) → e.1.0.metric_out ≡ o → IsValue (λ m. Says s i now a (Near_out m)) o
      by_metric None q = λ m w. let same = (one_near e.0 w.0 e.1.0 w.1 (near_to e with') w.2).1 in absurd (none-some m (sym q ∙ (ap (λ (n : Neighbour). n.metric_out) same ∙ w.3)))
      by_metric (Some m) q = (e.0, e.1.0, near_to e with', q)

  one_near_in : (m n : Metric) → Says s i now a (Near_in m) → Says s i now a (Near_in n) → m ≡ n
  one_near_in m n v w = same_some (sym (ap (λ (x : Neighbour). x.metric_in) (one_near v.0 w.0 v.1 w.1 v.2 w.2).1) ∙ v.3) w.3

  one_near_out : (m n : Metric) → Says s i now a (Near_out m) → Says s i now a (Near_out n) → m ≡ n
  one_near_out m n v w = same_some (sym (ap (λ (x : Neighbour). x.metric_out) (one_near v.0 w.0 v.1 w.1 v.2 w.2).1) ∙ v.3) w.3

  -- Relays

  near_at : (near : Option (Addr4 × (Neighbour × ℕ))) (e : Addr4 × (Neighbour × ℕ)) → IsValue (IsNeighbourWith s.bases.neighbourhood.neighbours a) near → near ≡ Some e → HasSymmetricWith s a e.0 e.1.0
  near_at near e none is = grind (arith, common_steps, none-some, same_some, near_to)

  relay_at : (relays : List Addr4) (near : Option (Addr4 × (Neighbour × ℕ))) (o : Addr4) (n : Neighbour) → IsValue (IsNeighbourWith s.bases.neighbourhood.neighbours a) near →
      HasSymmetricWith s a o n → Contains relays o → IsRelayOf relays near
  relay_at relays None o n none w has = no_near none o n w
  relay_at relays (Some e) o n with' w has = record { entry = e; is = refl; has = subst (λ (x : Addr4). Contains relays x) (one_near o e.0 n e.1.0 w (near_to e with')).0 has }

  routing_of : (near : Option (Addr4 × (Neighbour × ℕ))) → IsValue (IsNeighbourWith s.bases.neighbourhood.neighbours a) near → IsRelayOf s.relays.routing near ↔ Says s i now a Routing
  routing_of near is = (
    λ w. (w.entry.0, w.entry.1.0, near_at near w.entry is w.is, w.has),
    λ w. let (o, n, with', has) = w in relay_at s.relays.routing near o n is with' has,
  )

  flooding_of : (link : Option (LinkKey × (Link × ℕ))) (near : Option (Addr4 × (Neighbour × ℕ))) → IsValue (IsLinkWith (base_of s.bases.neighbourhood.links i) a) link →
      IsValue (IsNeighbourWith s.bases.neighbourhood.neighbours a) near → IsFloodingRelay s.relays.flooding i (is_link_symmetric link now) near ↔ Says s i now a Flooding
  flooding_of link near linked is = (
    λ w.
        let (l, to) = (link_shows link linked).0 w.shown in
        (l, to, w.relay.entry.0, w.relay.entry.1.0, a, to.2, near_at near w.relay.entry is w.relay.is, w.list, w.at, w.relay.has),
    λ w.
        let (l, to, o, n, b, in', with', list, at, has) = w in
        let x = (looks_up_links s i to.0 l (sound.distinct_links i)).0 to.1 in
        let (p, m, u, found, all) = sound.owner i to.0 l x.0 x.1 in
        let y = (looks_up_neighbours s o n sound.distinct_neighbours).0 with'.0.0 in
        let same : o ≡ p = sound.neighbours_apart o p (n, y.0) (m, u) b y.1 found with'.1 (all b in') in
        let one : n ≡ m = ap (λ (z : Neighbour × ℕ). z.0) (same_some (subst (λ (k : Addr4). neighbour_at s.bases.neighbourhood k ≡ Some (n, y.0)) same y.1) found) in
        let mine : Contains n.addrs a = subst (λ (z : Neighbour). Contains z.addrs a) (sym one) (all a to.2) in
        record { list = list; at = at; shown = (link_shows link linked).1 (l, to); relay = relay_at list near o n is (with'.0, mine) has },
  )

  -- all of it
  pub said_by : (link : Option (LinkKey × (Link × ℕ))) (near : Option (Addr4 × (Neighbour × ℕ))) (said : Said) → IsValue (IsLinkWith (base_of s.bases.neighbourhood.links i) a) link →
      IsValue (IsNeighbourWith s.bases.neighbourhood.neighbours a) near → said.symmetric ≡ (is_link_symmetric link now || is_some near) →
      said.metric_in ≡ or_else (near_metric_in near) (link_metric_in link now) → said.metric_out ≡ or_else (near_metric_out near) (link_metric_out link now) →
      (IsTrue said.flooding ↔ IsFloodingRelay s.relays.flooding i (is_link_symmetric link now) near) → (IsTrue said.routing ↔ IsRelayOf s.relays.routing near) → IsSaidOf s i now a said
  said_by link near said linked is symmetric metric_in metric_out flooding routing = record {
    symmetric = rw symmetric (either_shows (is_link_symmetric link now) (is_some near) (link_shows link linked) (near_shows near is));
    metric_in = rw metric_in (said_is _ _ one_near_in one_link_in (near_metric_in near) (link_metric_in link now) (near_in_of near is) (link_in_of link linked));
    metric_out = rw metric_out (said_is _ _ one_near_out one_link_out (near_metric_out near) (link_metric_out link now) (near_out_of near is) (link_out_of link linked));
    flooding = (λ h. (flooding_of link near linked is).0 (flooding.0 h), λ w. flooding.1 ((flooding_of link near linked is).1 w));
    routing = (λ h. (routing_of near is).0 (routing.0 h), λ w. routing.1 ((routing_of near is).1 w));
  }

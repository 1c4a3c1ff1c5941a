-- However far a flood of a TC has come, no router has sent it twice on an interface.
use Rattle.mesh_probe.proofs.Common.{◌≡◌, ℕ, inl, inr, refl, sym, ◌∙◌, subst, List, [], ◌∷◌, ◌++◌, length, Contains, true, slice_get, append_assoc, Contains-append_cases, Scenario, Tc, At, AreStates, State, on_each, MessageFields, Transmission, sent_by, FloodsTo, Nothing_heard, One_more, SendsOnceFrom, IsTcOf, true_false}
use Rattle.mesh_probe.proofs.Carried.{Carries, at_hop}
use Rattle.mesh_probe.proofs.Covers.{frame_is, has_first}
use Rattle.mesh_probe.proofs.Once.{Apart, Fresh, apart_append, frames_apart, pairs}
use Rattle.mesh_probe.proofs.Once as once
use Rattle.mesh_probe.proofs.Seen.{faces_in}
use Rattle.mesh_probe.proofs.Simulate.{IsFlooded, net, AreLike, Matches, No_frames, A_frame, matches_append, all, opens}
use Rattle.mesh_probe.proofs.Starts.{flooded, queue, sent_apart}
use Rattle.mesh_probe.proofs.Wave.{has, Spread, Going, frames_on}

module _ (s : Scenario) (states : List State) (now origin : ℕ) (tc : Tc) (limit : ℕ) (routers : AreStates s states) (p : State) (at : At states origin p)
    (bytes : List ℕ) (is : IsTcOf p tc limit bytes) where
  abbrev m : MessageFields
  m = is.writes.message

  abbrev G : IsFlooded s states now origin tc m limit ⊥
  G = flooded s states now origin tc limit ⊥ routers (λ e. absurd e) (λ e. absurd e) p at bytes is

  abbrev first : List Transmission
  first = sent_by origin (on_each (length p.settings.interfaces) bytes)

  -- the frames that are heard and those that wait, as a wave's, no two of which are of one router and one interface
  record Sofar (heard waiting : List Transmission) (mid : List State) : Type 0 where
    pub st : Spread
    pub gone : List Going
    pub going : List Going
    pub like : AreLike G mid st
    pub are_gone : Matches G heard gone
    pub are_going : Matches G waiting going
    pub apart : Apart (gone ++ going)
    pub sent : (g : Going) → Contains (gone ++ going) g → has st.sent g.from ≡ true

  begins : Sofar [] first states
  begins =
      let faces : ℕ = faces_in (slice_get s.routers origin) in
      record {
        st = record { told = origin ∷ []; sent = origin ∷ [] };
        gone = [];
        going = frames_on origin 0 faces;
        like = opens G;
        are_gone = No_frames;
        are_going = queue s states now origin tc limit ⊥ routers (λ e. absurd e) (λ e. absurd e) p at bytes is;
        apart = frames_apart origin 0 faces;
        sent = λ g c. subst (λ (x : ℕ). has (origin ∷ []) x ≡ true) (sym (frame_is origin 0 faces g c).0) (has_first origin []);
      }

  -- the first frame that waits
  record Next (f : Transmission) (rest : List Transmission) (going : List Going) : Type 0 where
    pub hops : ℕ
    pub others : List Going
    pub is_first : going ≡ record { from = f.router; iface = f.frame.iface; hops = hops } ∷ others
    pub carries : Carries (at_hop m limit hops) f.frame.bytes
    pub matches : Matches G rest others

  next_of : {f : Transmission} {rest : List Transmission} {going : List Going} → Matches G (f ∷ rest) going → Next f rest going
  next_of (A_frame {gs = gs} hops carries rest) = record { hops = hops; others = gs; is_first = refl; carries = carries; matches = rest }

  sofar : {heard waiting : List Transmission} {mid : List State} → FloodsTo s now states first heard mid waiting → Sofar heard waiting mid
  sofar Nothing_heard = begins
  sofar (One_more {f = f} sender to of hear) =
      let x = sofar to in
      let n = next_of x.are_going in
      let g : Going = record { from = f.router; iface = f.frame.iface; hops = n.hops } in
      let r = all G f n.hops sender of n.carries x.st x.like hear in
      let fresh : Fresh x.st r.after r.out = once.all (net G) g r.hears in
      let before : Apart (x.gone ++ (g ∷ n.others)) = subst (λ gs. Apart (x.gone ++ gs)) n.is_first x.apart in
      let sent : (h : Going) → Contains (x.gone ++ (g ∷ n.others)) h → has x.st.sent h.from ≡ true =
      subst (λ gs. (h : Going) → Contains (x.gone ++ gs) h → has x.st.sent h.from ≡ true) n.is_first x.sent in
      let regroup : (x.gone ++ (g ∷ n.others)) ++ r.out ≡ (x.gone ++ (g ∷ [])) ++ (n.others ++ r.out) =
      append_assoc x.gone (g ∷ n.others) r.out ∙ sym (append_assoc x.gone (g ∷ []) (n.others ++ r.out)) in
      let apart_all : Apart ((x.gone ++ (g ∷ n.others)) ++ r.out) = apart_append before fresh.apart
      (λ a b c d from at. true_false (subst (λ (v : ℕ). has x.st.sent v ≡ true) from (sent a c)) (fresh.unsent b d)) in
      let sent_all : (h : Going) → Contains ((x.gone ++ (g ∷ n.others)) ++ r.out) h → has r.after.sent h.from ≡ true =
      λ h c. elim (Contains-append_cases (x.gone ++ (g ∷ n.others)) r.out h c) [ inl l ↦ fresh.grows.sent h.from (sent h l) | inr l ↦ fresh.sent h l ] in
      record {
        st = r.after;
        gone = x.gone ++ (g ∷ []);
        going = n.others ++ r.out;
        like = r.like;
        are_gone = matches_append G x.are_gone (A_frame n.hops n.carries No_frames);
        are_going = matches_append G n.matches r.frames;
        apart = subst (λ gs. Apart gs) regroup apart_all;
        sent = subst (λ gs. (h : Going) → Contains gs h → has r.after.sent h.from ≡ true) regroup sent_all;
      }

  pub sends_once : SendsOnceFrom s now states first
  sends_once heard waiting mid to =
      let x = sofar to in
      sent_apart G (matches_append G x.are_gone x.are_going) (pairs (x.gone ++ x.going) x.apart)

-- A flood of the machine's steps is a wave.
use Rattle.mesh_probe.proofs.Common.{common_steps, ◌≡◌, ℕ, zero, suc, ◌+◌, ◌-◌, ◌<◌, ◌≤◌, ◌⊎◌, inl, inr, refl, sym, ◌∙◌, ap, subst, arith, List, [], ◌∷◌, ◌++◌, length, Contains, Option, Some, None, slice_get, Bool, true, false, nat_le, cases_eq, cases_Bool, lt-leb, map-append, Addr4, RouterSettings, Scenario, Tc, FloodKey, Link, LinkKey, Noted, Base, base_of, find, addr_eq, flood_eq, Live, At, AreStates, State, Neighbourhood, NotedMessages, Bases, IsOriginator, link_at, same_addr, MessageFields, SpellsMessage, Keeps, BreaksTc, hopped, Heading, Forward, AfterNote, Notes, key_of, is_last, has_no_hops, forward_by, is_received, is_forwarded, IsSettledNetwork, owner, originator_in, Arrival, Frame, on_each, Hear, Step, forwarding, Transmission, hearers_of, IsInterfaceSender, sent_by, BecomesAt, AllHear, All_have_heard, Next_hears, Flood, key_of_tc, IsUnknown, AreUnknown, one_originator, addr_itself as same_eq, contains_tail as in_tail, contains_cases, contains_none as none_of, true_false, same_some}
use Rattle.mesh_atoms.specs.Sound.{SoundNeighbourhood}
use Rattle.mesh_wire.specs.Hello.{OriginatorIs}
use Rattle.mesh_flood.specs.declared.verdict.Forward.TheVariants as forward
use Rattle.mesh_probe.proofs.Wave.{has, Spread, Going, frames_on, where_sent, Net, Takes, Deaf, Quiet, Sends, Hears, All_heard, One_hears, Wave, Ends, Goes}
use Rattle.mesh_probe.specs.Flood as flood
use Rattle.mesh_probe.proofs.Carried.{Carries, at_hop, carried_on}
use Rattle.mesh_probe.proofs.Seen.{faces_in, HoldsFlag, AreJoined}
use Rattle.mesh_probe.proofs.Heard.{Hearing, hearing}
use Rattle.mesh_paths.proofs.LinksStay.{link_stays}
use Rattle.mesh_probe.proofs.Links.{same_selector}
use Rattle.mesh_probe.proofs.Noted.{does, never_own, not_twice, deaf, sends_nothing, is_do, unknown_live, unknown_deaf, Stands, stands_live, stands_noted, stands_new}
use Rattle.mesh_probe.proofs.Covers.{has_first, has_later, has_cases}
use Rattle.mesh_machine.proofs.Soundness.{same_originator}

-- Keys

pub same_key : (heading : Heading) (tc : Tc) → heading.kind ≡ 1 → heading.originator ≡ tc.originator → heading.sequence ≡ tc.sequence → key_of heading ≡ key_of_tc tc
same_key heading tc a b c = grind (arith, common_steps)

-- Hops

above_one : (n : ℕ) → nat_le n 1 ≡ false → 1 < n
above_one n e = grind (arith, common_steps)

pub few_hops : (heading : Heading) (l c : ℕ) → heading.limit ≡ Some l → heading.count ≡ Some c → 1 < l → c < 255 → has_no_hops heading ≡ false
few_hops heading l c e f low far = grind (arith, common_steps, cases_Bool)

pub hops_left : (heading : Heading) (l : ℕ) → heading.limit ≡ Some l → has_no_hops heading ≡ false → 1 < l
hops_left heading l e nay = grind (arith, common_steps, is_last, above_one)

pub no_hops : (own : Addr4) (heading : Heading) (flag : Bool) (received forwarded : Base FloodKey Noted) → has_no_hops heading ≡ true → is_forwarded (forward_by own heading (Some flag) received forwarded) ≡ false
no_hops own heading flag received forwarded e = grind (arith, common_steps)

-- a message of a TC with that hop limit, which breaks no rule after any number of hops, and the routers over which its originator
-- sends it. What needs a settled network holds where there is a `Prem`
pub record IsFlooded (s : Scenario) (states : List State) (now origin : ℕ) (tc : Tc) (m : MessageFields) (limit : ℕ) (Prem : Type 0) : Type 0 where
  pub octet : limit < 256
  pub kind : m.kind ≡ 1
  pub originator : OriginatorIs m.originator (Some tc.originator)
  pub sequence : m.sequence ≡ Some tc.sequence
  pub keeps : (hops : ℕ) → Keeps (BreaksTc (at_hop m limit hops))
  pub routers : AreStates s states
  pub settled : Prem → IsSettledNetwork s states now
  pub unknown : Prem → AreUnknown states tc
  pub first : State
  pub at : At states origin first
  pub own : IsOriginator first.settings tc.originator

module _ {s : Scenario} {states : List State} {now origin : ℕ} {tc : Tc} {m : MessageFields} {limit : ℕ} {Prem : Type 0} (G : IsFlooded s states now origin tc m limit Prem) where
  abbrev pub net : Net
  net = record {
    count = length s.routers;
    faces = λ x. faces_in (slice_get s.routers x);
    hearers = hearers_of s.arcs;
    Link = AreJoined s;
    Flag = λ x i w j flag. Prem → HoldsFlag s states now x i w j flag;
    More = λ h. Prem × (h + 2 ≤ limit);
  }

  -- frames of the machine that carry the message are frames of the wave
  pub data Matches : List Transmission → List Going → Type 0 where
    No_frames : Matches [] []
    A_frame : {f : Transmission} {fs : List Transmission} {gs : List Going} (hops : ℕ) → Carries (at_hop m limit hops) f.frame.bytes → Matches fs gs →
        Matches (f ∷ fs) (record { from = f.router; iface = f.frame.iface; hops = hops } ∷ gs)

  pub matches_append : {fs hs : List Transmission} {gs ks : List Going} → Matches fs gs → Matches hs ks → Matches (fs ++ hs) (gs ++ ks)
  matches_append No_frames b = b
  matches_append (A_frame hops c rest) b = A_frame hops c (matches_append rest b)

  pub on_each_matches : (w hops count : ℕ) (bytes : List ℕ) → Carries (at_hop m limit hops) bytes → Matches (sent_by w (on_each count bytes)) (frames_on w hops count)
  on_each_matches w hops zero bytes c = No_frames
  on_each_matches w hops (suc i) bytes c =
      let last : Frame = record { iface = i; bytes = bytes } in
      let send : Frame → Transmission = λ f. record { router = w; frame = f } in
      subst (λ (xs : List Transmission). Matches xs (frames_on w hops (suc i))) (sym (map-append send (on_each i bytes) (last ∷ [])))
      (matches_append (on_each_matches w hops i bytes c) (A_frame {f = send last} hops c No_frames))

  -- a router that was in state q0 is in state q, where the message has spread so far
  pub record IsLike (w : ℕ) (q0 q : State) (st : Spread) : Type 0 where
    pub settings : q.settings ≡ q0.settings
    pub links : Prem → (j : ℕ) (key : LinkKey) → link_at q.bases.neighbourhood j key ≡ link_at q0.bases.neighbourhood j key
    pub unknown : Prem → has st.told w ≡ false → IsUnknown (key_of_tc tc) q.bases.noted
    pub sent : has st.sent w ≡ true → IsOriginator q.settings tc.originator ⊎ Stands (key_of_tc tc) now q.bases.noted.forwarded

  pub record AreLike (cur : List State) (st : Spread) : Type 0 where
    pub each : (w : ℕ) (q : State) → At cur w q → (q0 : State) × At states w q0 × IsLike w q0 q st
    pub told : has st.told origin ≡ true

  -- one router hears a frame
  pub record Does (w hops : ℕ) (q0 q : State) (st : Spread) (flag : Option Bool) (sent : List Frame) : Type 0 where
    pub sends : Bool
    pub new : Spread
    pub takes : Takes (net.More hops) w st flag new sends
    pub like : IsLike w q0 q new
    pub frames : Matches (sent_by w sent) (where_sent sends (frames_on w (suc hops) (net.faces w)))

  -- what is known of a hearing
  pub record Facts (j hops : ℕ) (p q : State) (sent : List Frame) (flag : Option Bool) : Type 0 where
    pub own : Addr4
    pub is_own : IsOriginator p.settings own
    pub heading : Heading
    pub key : key_of heading ≡ key_of_tc tc
    pub from : heading.originator ≡ tc.originator
    pub limit_is : heading.limit ≡ Some (limit - hops)
    pub count_is : heading.count ≡ Some hops
    pub live : Bases
    pub is_live : Live p.settings now p.bases live
    pub octets : List ℕ
    pub spelled : SpellsMessage (at_hop m limit hops) octets
    pub is_done : Bool
    pub noted : NotedMessages
    pub answer : Forward
    pub answered : answer ≡ forward_by own heading flag (base_of live.noted.received j) live.noted.forwarded
    pub notes : AfterNote p.settings.times now j heading is_done answer live.noted noted
    pub sends : sent ≡ forwarding (length p.settings.interfaces) octets answer
    pub settings : q.settings ≡ p.settings
    pub near : q.bases.neighbourhood ≡ live.neighbourhood
    pub noted_is : q.bases.noted ≡ noted

  facts : (j hops : ℕ) (sender : Addr4) (p q : State) (sent : List Frame) →
      (h : Hearing (at_hop m limit hops) (record { now = now; iface = j; sender = sender }) p q sent) → Facts j hops p q sent h.took.floods.link
  facts j hops sender p q sent h = grind (arith, common_steps, same_originator, same_key, same_some)

  sound_near : Prem → (w : ℕ) (q0 : State) → At states w q0 → SoundNeighbourhood q0.settings now q0.bases.neighbourhood
  sound_near prem w q0 at = subst (λ (n : ℕ). SoundNeighbourhood q0.settings n q0.bases.neighbourhood) ((G.settled prem).moment w q0 at) ((G.settled prem).sound w q0 at).neighbourhood

  -- links stay
  live_links : (w j hops : ℕ) (q0 p q : State) (sent : List Frame) (flag : Option Bool) (st : Spread) → At states w q0 → IsLike w q0 p st → (f : Facts j hops p q sent flag) →
      Prem → (i : ℕ) (key : LinkKey) → link_at f.live.neighbourhood i key ≡ link_at q0.bases.neighbourhood i key
  live_links w j hops q0 p q sent flag st at like f prem i key = grind (arith, common_steps, link_stays, sound_near)

  hold_above : (p : State) → 0 < p.settings.times.forwarded_hold
  hold_above p = let l = p.settings.times.sound.forwarded_hold_range.least in omega (arith, l)

  stand_after : (j hops : ℕ) (p q : State) (sent : List Frame) (flag : Option Bool) → (f : Facts j hops p q sent flag) → IsOriginator p.settings tc.originator ⊎ Stands (key_of_tc tc) now p.bases.noted.forwarded →
      IsOriginator q.settings tc.originator ⊎ Stands (key_of_tc tc) now q.bases.noted.forwarded
  stand_after j hops p q sent flag f (inl own) = inl (subst (λ (r : RouterSettings). IsOriginator r tc.originator) (sym f.settings) own)
  stand_after j hops p q sent flag f (inr s) =
      inr (subst (λ (n : NotedMessages). Stands (key_of_tc tc) now n.forwarded) (sym f.noted_is)
      (stands_noted (key_of_tc tc) (key_of f.heading) now p.settings.times.forwarded_hold (is_forwarded f.answer) f.live.noted.forwarded f.noted.forwarded (hold_above p)
      (stands_live (key_of_tc tc) now p.bases.noted.forwarded f.live.noted.forwarded s f.is_live.noted.forwarded) f.notes.forwarded))

  -- the router is as before, but for the message
  like_after : (w j hops : ℕ) (q0 p q : State) (sent : List Frame) (flag : Option Bool) (st new : Spread) → At states w q0 → IsLike w q0 p st → (f : Facts j hops p q sent flag) →
      (Prem → has new.told w ≡ false → IsUnknown (key_of_tc tc) f.noted) →
      (has new.sent w ≡ true → IsOriginator q.settings tc.originator ⊎ Stands (key_of_tc tc) now q.bases.noted.forwarded) → IsLike w q0 q new
  like_after w j hops q0 p q sent flag st new at like f unknown_after sent_after = record {
    settings = f.settings ∙ like.settings;
    links = λ prem i key. ap (λ (n : Neighbourhood). link_at n i key) f.near ∙ live_links w j hops q0 p q sent flag st at like f prem i key;
    unknown = λ prem e. subst (λ (n : NotedMessages). IsUnknown (key_of_tc tc) n) (sym f.noted_is) (unknown_after prem e);
    sent = sent_after;
  }

  unknown_at : (w j hops : ℕ) (q0 p q : State) (sent : List Frame) (flag : Option Bool) (st : Spread) → IsLike w q0 p st → (f : Facts j hops p q sent flag) →
      Prem → has st.told w ≡ false → IsUnknown (key_of_tc tc) f.live.noted
  unknown_at w j hops q0 p q sent flag st like f prem e = unknown_live (key_of_tc tc) now p.bases.noted f.live.noted (like.unknown prem e) f.is_live.noted

  nothing : (w : ℕ) (sent : List Frame) → sent ≡ [] → Matches (sent_by w sent) []
  nothing w sent e = subst (λ (x : List Frame). Matches (sent_by w x) []) (sym e) No_frames

  -- without a link nothing happens
  deaf_does : (w j hops : ℕ) (q0 p q : State) (sent : List Frame) (st : Spread) → At states w q0 → IsLike w q0 p st → (f : Facts j hops p q sent None) → Does w hops q0 q st None sent
  deaf_does w j hops q0 p q sent st at like f =
      let (r, g) = deaf f.own f.heading (base_of f.live.noted.received j) f.live.noted.forwarded in
      let not_received : is_received f.answer ≡ false = ap is_received f.answered ∙ r in
      let not_forwarded : is_forwarded f.answer ≡ false = ap is_forwarded f.answered ∙ g in
      record {
        sends = false;
        new = st;
        takes = Deaf;
        like = like_after w j hops q0 p q sent None st st at like f
            (λ prem e. unknown_deaf (key_of_tc tc) p.settings.times now j f.heading f.is_done f.answer f.live.noted f.noted (unknown_at w j hops q0 p q sent None st like f prem e) f.notes not_received not_forwarded)
            (λ e. stand_after j hops p q sent None f (like.sent e));
        frames = nothing w sent (f.sends ∙ sends_nothing (length p.settings.interfaces) f.octets f.answer not_forwarded);
      }

  -- a fresh router that is selected sends
  must_send : (w j hops : ℕ) (q0 p q : State) (sent : List Frame) (flag : Bool) (st : Spread) → At states w q0 → IsLike w q0 p st → has st.told origin ≡ true → (f : Facts j hops p q sent (Some flag)) →
      has st.told w ≡ false → flag ≡ true → Prem → hops + 2 ≤ limit → is_forwarded f.answer ≡ true
  must_send w j hops q0 p q sent flag st at like told f fresh chosen prem room =
      let S = G.settled prem in
      let u = unknown_at w j hops q0 p q sent (Some flag) st like f prem fresh in
      let other : addr_eq f.heading.originator f.own ≡ false = elim (cases_Bool (addr_eq f.heading.originator f.own)) [
        | inl same ↦
            let mine : f.own ≡ tc.originator = sym (same_addr f.heading.originator f.own same) ∙ f.from in
            let first : IsOriginator q0.settings tc.originator =
            subst (λ (r : RouterSettings). IsOriginator r tc.originator) like.settings (subst (λ (a : Addr4). IsOriginator p.settings a) mine f.is_own) in
            let e : w ≡ origin = owner s states now S w origin tc.originator (originator_in s states now S tc.originator at first) (originator_in s states now S tc.originator G.at G.own) in
            true_false (subst (λ (x : ℕ). has st.told x ≡ true) (sym e) told) fresh
        | inr e ↦ e
      ] in
      let left : has_no_hops f.heading ≡ false = few_hops f.heading (limit - hops) hops f.limit_is f.count_is (omega (arith, room)) (omega (arith, room, G.octet)) in
      let received : find flood_eq (base_of f.live.noted.received j) (key_of f.heading) ≡ None =
      subst (λ (k : FloodKey). find flood_eq (base_of f.live.noted.received j) k ≡ None) (sym f.key) (u.received j) in
      let forwarded : find flood_eq f.live.noted.forwarded (key_of f.heading) ≡ None =
      subst (λ (k : FloodKey). find flood_eq f.live.noted.forwarded k ≡ None) (sym f.key) u.forwarded in
      let answer : forward_by f.own f.heading (Some true) (base_of f.live.noted.received j) f.live.noted.forwarded ≡ forward.Do =
      does f.own f.heading (base_of f.live.noted.received j) f.live.noted.forwarded other left received
      (lt-leb 16384 (length (base_of f.live.noted.received j)) (u.room_received j)) forwarded (lt-leb 16384 (length f.live.noted.forwarded) u.room_forwarded) in
      ap is_forwarded (f.answered ∙ ap (λ (b : Bool). forward_by f.own f.heading (Some b) (base_of f.live.noted.received j) f.live.noted.forwarded) chosen ∙ answer)

  -- a router that has sent the message doesn't send it again
  not_sent : (w j hops : ℕ) (q0 p q : State) (sent : List Frame) (flag : Bool) (st : Spread) → IsLike w q0 p st → (f : Facts j hops p q sent (Some flag)) →
      is_forwarded f.answer ≡ true → has st.sent w ≡ false
  not_sent w j hops q0 p q sent flag st like f forwards = elim (cases_Bool (has st.sent w)) [
    | inl before ↦ elim (like.sent before) [
      | inl own ↦
          let same : f.heading.originator ≡ f.own = f.from ∙ one_originator p.settings tc.originator f.own own f.is_own in
          let nay = never_own f.own f.heading (Some flag) (base_of f.live.noted.received j) f.live.noted.forwarded (same_eq f.heading.originator f.own same) in
          true_false forwards (ap is_forwarded f.answered ∙ nay)
      | inr stands ↦
          let live = stands_live (key_of_tc tc) now p.bases.noted.forwarded f.live.noted.forwarded stands f.is_live.noted.forwarded in
          let found : find flood_eq f.live.noted.forwarded (key_of f.heading) ≡ Some live.e =
          subst (λ (k : FloodKey). find flood_eq f.live.noted.forwarded k ≡ Some live.e) (sym f.key) live.found in
          let nay = not_twice f.own f.heading (Some flag) (base_of f.live.noted.received j) f.live.noted.forwarded live.e found in
          true_false forwards (ap is_forwarded f.answered ∙ nay)
    ]
    | inr e ↦ e
  ]

  linked_does : (w j hops : ℕ) (q0 p q : State) (sent : List Frame) (flag : Bool) (st : Spread) → At states w q0 → IsLike w q0 p st → has st.told origin ≡ true → (f : Facts j hops p q sent (Some flag)) →
      Does w hops q0 q st (Some flag) sent
  linked_does w j hops q0 p q sent flag st at like told f = elim (cases_Bool (is_forwarded f.answer)) [
    | inl forwards ↦
        let new : Spread = record { told = w ∷ st.told; sent = w ∷ st.sent } in
        let is : f.answer ≡ forward.Do = is_do f.answer forwards in
        let left : has_no_hops f.heading ≡ false = elim (cases_Bool (has_no_hops f.heading)) [
          | inl gone ↦ true_false forwards (ap is_forwarded f.answered ∙ no_hops f.own f.heading flag (base_of f.live.noted.received j) f.live.noted.forwarded gone)
          | inr e ↦ e
        ] in
        let above = hops_left f.heading (limit - hops) f.limit_is left in
        let carried = carried_on m limit hops f.octets G.octet (omega (arith, above)) f.spelled in
        let count : net.faces w ≡ length p.settings.interfaces =
        ap faces_in (G.routers.settings w q0 at) ∙ ap (λ (r : RouterSettings). length r.interfaces) (sym like.settings) in
        let sends_on : on_each (length p.settings.interfaces) (0 ∷ hopped f.octets) ≡ sent = sym (f.sends ∙ ap (λ (a : Forward). forwarding (length p.settings.interfaces) f.octets a) is) in
        record {
          sends = true;
          new = new;
          takes = Sends flag (not_sent w j hops q0 p q sent flag st like f forwards);
          like = like_after w j hops q0 p q sent (Some flag) st new at like f
              (λ prem e. true_false (has_first w st.told) e)
              (λ e. inr (subst (λ (n : NotedMessages). Stands (key_of_tc tc) now n.forwarded) (sym f.noted_is)
              (stands_new (key_of_tc tc) now p.settings.times.forwarded_hold f.live.noted.forwarded f.noted.forwarded (hold_above p)
              (subst (λ (k : FloodKey). Notes true k (now + p.settings.times.forwarded_hold) f.live.noted.forwarded f.noted.forwarded) f.key
              (subst (λ (b : Bool). Notes b (key_of f.heading) (now + p.settings.times.forwarded_hold) f.live.noted.forwarded f.noted.forwarded) forwards f.notes.forwarded)))));
          frames = subst (λ (x : List Frame). Matches (sent_by w x) (frames_on w (suc hops) (net.faces w))) sends_on
              (subst (λ (n : ℕ). Matches (sent_by w (on_each (length p.settings.interfaces) (0 ∷ hopped f.octets))) (frames_on w (suc hops) n)) (sym count)
              (on_each_matches w (suc hops) (length p.settings.interfaces) (0 ∷ hopped f.octets) carried));
        }
    | inr quiet ↦
        let new : Spread = record { told = w ∷ st.told; sent = st.sent } in
        record {
          sends = false;
          new = new;
          takes = Quiet flag (λ fresh chosen more. true_false (must_send w j hops q0 p q sent flag st at like told f fresh chosen more.0 more.1) quiet);
          like = like_after w j hops q0 p q sent (Some flag) st new at like f
              (λ prem e. true_false (has_first w st.told) e)
              (λ e. stand_after j hops p q sent (Some flag) f (like.sent e));
          frames = nothing w sent (f.sends ∙ sends_nothing (length p.settings.interfaces) f.octets f.answer quiet);
        }
  ]

  by_flag : (w j hops : ℕ) (q0 p q : State) (sent : List Frame) (flag : Option Bool) (st : Spread) → At states w q0 → IsLike w q0 p st → has st.told origin ≡ true → (f : Facts j hops p q sent flag) →
      Does w hops q0 q st flag sent
  by_flag w j hops q0 p q sent None st at like told f = deaf_does w j hops q0 p q sent st at like f
  by_flag w j hops q0 p q sent (Some flag) st at like told f = linked_does w j hops q0 p q sent flag st at like told f

  one : (w j hops : ℕ) (sender : Addr4) (bytes : List ℕ) (q0 p q : State) (st : Spread) (sent : List Frame) → At states w q0 → IsLike w q0 p st → has st.told origin ≡ true →
      Carries (at_hop m limit hops) bytes → Step p (Hear (record { now = now; iface = j; sender = sender }) bytes) sent q →
      (flag : Option Bool) × Does w hops q0 q st flag sent × (Prem → (x i : ℕ) → IsInterfaceSender s x i sender → HoldsFlag s states now x i w j flag)
  unfolding facts
  one w j hops sender bytes q0 p q st sent at_w like told carries step =
      let arrival : Arrival = record { now = now; iface = j; sender = sender } in
      let h = hearing (at_hop m limit hops) arrival bytes p q sent carries G.kind (G.keeps hops) step in
      let f = facts j hops sender p q sent h in
      let flag = h.took.floods.link in (
        flag,
        by_flag w j hops q0 p q sent flag st at_w like told f,
        λ prem x i is. (
          q0,
          sender,
          at_w,
          is,
          same_selector (base_of q0.bases.neighbourhood.links j) (base_of h.live.neighbourhood.links j) now sender flag
              (live_links w j hops q0 p q sent flag st at_w like f prem j) h.took.floods.selector,
        ),
      )

  -- all hearers hear a frame
  other_told : {More : Type 0} {w : ℕ} {old new : Spread} {flag : Option Bool} {sends : Bool} (v : ℕ) → Takes More w old flag new sends → has new.told v ≡ false → has old.told v ≡ false
  other_told v h1 e = grind (arith, common_steps, cases_Bool, true_false, has_later)

  other_sent : {More : Type 0} {w : ℕ} {old new : Spread} {flag : Option Bool} {sends : Bool} (v : ℕ) → (v ≡ w → ⊥) → Takes More w old flag new sends → has new.sent v ≡ true → has old.sent v ≡ true
  other_sent v other h2 e = grind (arith, common_steps, has_cases)

  still_told : {More : Type 0} {w : ℕ} {old new : Spread} {flag : Option Bool} {sends : Bool} (v : ℕ) → Takes More w old flag new sends → has old.told v ≡ true → has new.told v ≡ true
  still_told v h1 e = grind (arith, common_steps, has_later)

  replaced : (cur mid : List State) (w hops : ℕ) (q0 q : State) (st : Spread) (flag : Option Bool) (sent : List Frame) → AreLike cur st → At states w q0 → BecomesAt cur w q mid →
      (d : Does w hops q0 q st flag sent) → AreLike mid d.new
  replaced cur mid w hops q0 q st flag sent like at_w replaces d = record {
    told = still_told origin d.takes like.told;
    each = λ v q' at_v. elim (cases_eq v w) [
      | inl e ↦
          let here : At mid w q' = subst (λ (x : ℕ). At mid x q') e at_v in
          let same : q ≡ q' = same_some replaces.at.is here.is in (
            q0,
            subst (λ (x : ℕ). At states x q0) (sym e) at_w,
            subst (λ (x : ℕ). IsLike x q0 q' d.new) (sym e) (subst (λ (x : State). IsLike w q0 x d.new) same d.like),
          )
      | inr other ↦
          let before : At cur v q' = record { is = sym (replaces.others v other) ∙ at_v.is } in
          let (r0, at_r, l) = like.each v q' before in (
            r0,
            at_r,
            record {
              settings = l.settings;
              links = l.links;
              unknown = λ prem e. l.unknown prem (other_told v d.takes e);
              sent = λ e. l.sent (other_sent v other d.takes e);
            },
          )
    ];
  }

  pub record Hearers (f : Transmission) (hops : ℕ) (hearers : List (ℕ × ℕ)) (st : Spread) (new : List State) (more : List Transmission) : Type 0 where
    pub after : Spread
    pub out : List Going
    pub hears : Hears net (record { from = f.router; iface = f.frame.iface; hops = hops }) hearers st after out
    pub frames : Matches more out
    pub like : AreLike new after

  pub all : (f : Transmission) (hops : ℕ) (sender : Addr4) → IsInterfaceSender s f.router f.frame.iface sender → Carries (at_hop m limit hops) f.frame.bytes →
      {hearers : List (ℕ × ℕ)} {cur new : List State} {more : List Transmission} (st : Spread) → AreLike cur st → AllHear now sender f.frame.bytes hearers cur new more → Hearers f hops hearers st new more
  all f hops sender is carries st like All_have_heard = record { after = st; out = []; hears = All_heard; frames = No_frames; like = like }
  all f hops sender is carries st like (Next_hears {w = w} {j = j} {hearers = hearers} {old = cur} {mid = mid} {new = new} {p = p} {q = q} {sent = sent} {more = more} at step replaces rest) =
      let (q0, at_w, l) = like.each w p at in
      let (flag, d, holds) = one w j hops sender f.frame.bytes q0 p q st sent at_w l like.told carries step in
      let r = all f hops sender is carries d.new (replaced cur mid w hops q0 q st flag sent like at_w replaces d) rest in
      record {
        after = r.after;
        out = where_sent d.sends (frames_on w (suc hops) (net.faces w)) ++ r.out;
        hears = One_hears flag d.sends (λ prem. holds prem f.router f.frame.iface is) d.takes r.hears;
        frames = matches_append d.frames r.frames;
        like = r.like;
      }

  pub record Waves (st : Spread) (queue : List Going) (heard : List Transmission) : Type 0 where
    pub after : Spread
    pub all_heard : List Going
    pub is_wave : Wave net st queue after all_heard
    pub frames : Matches heard all_heard

  pub simulate : {cur new : List State} {queue heard : List Transmission} {gs : List Going} (st : Spread) → AreLike cur st → Matches queue gs → Flood s now cur queue new heard → Waves st gs heard
  simulate st like No_frames flood.No_frame_waits = record { after = st; all_heard = []; is_wave = Ends; frames = No_frames }
  simulate st like (A_frame {f = f} hops carries rest) (flood.First_frame sender is hear flood) =
      let r = all f hops sender is carries st like hear in
      let w = simulate r.after r.like (matches_append rest r.frames) flood in
      record {
        after = w.after;
        all_heard = record { from = f.router; iface = f.frame.iface; hops = hops } ∷ w.all_heard;
        is_wave = Goes r.hears w.is_wave;
        frames = A_frame hops carries w.frames;
      }

  pub opens : AreLike states (record { told = origin ∷ []; sent = origin ∷ [] })
  opens = record {
    told = has_first origin [];
    each = λ w q at. (
      q,
      at,
      record {
        settings = refl;
        links = λ prem j key. refl;
        unknown = λ prem fresh. G.unknown prem w q at;
        sent = λ e. elim (has_cases origin w [] e) [
          | inl same ↦ inl (subst (λ (x : State). IsOriginator x.settings tc.originator) (same_some G.at.is (subst (λ (x : ℕ). slice_get states x ≡ Some q) same at.is)) G.own)
          | inr nay ↦ absurd (let f : false ≡ true = nay in cc)
        ];
      },
    );
  }

  pub at_place : {fs : List Transmission} {gs : List Going} → Matches fs gs → (g : Going) → Contains gs g → (f : Transmission) × Contains fs f × (f.router ≡ g.from) × (f.frame.iface ≡ g.iface)
  at_place No_frames g c = absurd (none_of g c)
  at_place (A_frame {f = f} {fs = fs} {gs = gs} hops carries rest) g c = elim (contains_cases (record { from = f.router; iface = f.frame.iface; hops = hops }) gs g c) [
    | inl e ↦ (f, (0, omega arith, refl), ap (λ (x : Going). x.from) e, ap (λ (x : Going). x.iface) e)
    | inr later ↦ let (h, stands, a, b) = at_place rest g later in (h, in_tail f fs h stands, a, b)
  ]

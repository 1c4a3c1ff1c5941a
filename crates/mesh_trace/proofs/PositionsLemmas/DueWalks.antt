-- The HELLOs and TCs of a tick.
use Rattle.mesh_trace.proofs.Common.{common_steps, ◌≡◌, ℕ, suc, ◌+◌, ◌%◌, List, [], ◌∷◌, ◌++◌, length, map, drop, Some, Bool, refl, sym, ap, ◌∙◌, subst, append_assoc, arith, slice_get, flat_map, enumerate_from, append-nil, Interface, Tc as TcValue, TcRow, State, IsValidity, Frame, on_each, IsHelloFrame, IsTcOfRows, SendsParts, No_part, First_part, some_interface, Emission, Traffic, SendsAll, frame_of, WritesTc, sent_lines, NetState, part_items, TellsItem, Tells_hello, Tells_tc, TellsFrame, AreTcFrames, Item, Sent, Lost, with_traffic}
use Rattle.mesh_trace.specs.Positions.Standing.{Hello, Tc}
use Rattle.mesh_trace.proofs.PositionsLemmas.Leading.{at}
use Rattle.mesh_trace.proofs.PositionsLemmas.SendingWalks.{frame_walk, frames_walk}
use Rattle.mesh_trace.proofs.PositionsLemmas.TcFrames.{on_first, parts_one}
use Rattle.mesh_trace.proofs.PositionsLemmas.Walks.{Walks, walks_nowhere, walks_on}

-- ---- emissions in two parts

pub record Cut (es : List Emission) (a b : List Frame) : Type 0 where
  pub front : List Emission
  pub behind : List Emission
  pub whole : es ≡ front ++ behind
  pub front_is : map frame_of front ≡ a
  pub behind_is : map frame_of behind ≡ b

pub cut_of : (es : List Emission) (a b : List Frame) → map frame_of es ≡ a ++ b → Cut es a b
cut_of es [] b same = record { front = []; behind = es; whole = refl; front_is = refl; behind_is = same }
cut_of [] (f ∷ a) b same = absurd cc
cut_of (e ∷ es) (f ∷ a) b same =
    let first : frame_of e ≡ f = cc in
    let others : map frame_of es ≡ a ++ b = cc in
    let more = cut_of es a b others in
    record {
      front = e ∷ more.front;
      behind = more.behind;
      whole = ap (λ (l : List Emission). e ∷ l) more.whole;
      front_is = rw (first, more.front_is) refl;
      behind_is = more.behind_is;
    }

pub sends_cut : (net : NetState) (now x : ℕ) (front behind : List Emission) (before after : Traffic) → SendsAll net.scenario now x (front ++ behind) before after →
    (mid : Traffic) × SendsAll net.scenario now x front before mid × SendsAll net.scenario now x behind mid after
sends_cut net now x [] behind before after sends = (before, refl, sends)
sends_cut net now x (e ∷ es) behind before after (one, first, more) =
    let (mid, left, right) = sends_cut net now x es behind one after more in (mid, (one, first, left), right)

pub lines_cut : (f : Emission → List ℕ) (front behind : List Emission) → flat_map f (front ++ behind) ≡ flat_map f front ++ flat_map f behind
lines_cut f [] behind = refl
lines_cut f (e ∷ es) behind = ap (λ (l : List ℕ). f e ++ l) (lines_cut f es behind) ∙ sym (append_assoc (f e) (flat_map f es) (flat_map f behind))

-- ---- HELLOs

pub hellos_walk : (net : NetState) (x : ℕ) (s : State) (rest : List Item) (faces : List Interface) (n : ℕ) (es : List Emission) (before after : Traffic) → slice_get net.routers x ≡ Some s →
    length es ≡ length faces → ((k : ℕ) (e : Emission) → slice_get es k ≡ Some e → IsHelloFrame s (n + k) (frame_of e)) →
    SendsAll net.scenario s.last x es before after →
    Walks (at (with_traffic net before) x (map (λ f. Hello f.0) (enumerate_from n faces) ++ rest)) (at (with_traffic net after) x rest) (flat_map (sent_lines net.scenario s.last s.settings) es)
hellos_walk net x s rest [] n [] before after stood same hellos sends = grind (arith, common_steps, walks_nowhere)
hellos_walk net x s rest [] n (e ∷ es) before after stood same hellos sends = absurd (omega (arith, same))
hellos_walk net x s rest (face ∷ faces) n [] before after stood same hellos sends = absurd (omega (arith, same))
hellos_walk net x s rest (face ∷ faces) n (e ∷ es) before after stood same hellos (mid, one, more) =
    let items : List Item = map (λ f. Hello f.0) (enumerate_from (n + 1) faces) ++ rest in
    let frame = hellos 0 e refl in
    let zero_more : n + 0 ≡ n = omega arith in
    walks_on _ (at (with_traffic net mid) x items) _ (sent_lines net.scenario s.last s.settings e) (flat_map (sent_lines net.scenario s.last s.settings) es)
    (frame_walk (with_traffic net before) x s (Hello n) e mid [] items stood one
    (λ line tells. subst (λ (l : List Item). TellsItem (with_traffic net before) x s line (Hello n) (with_traffic net mid) l) (sym (append-nil (map Lost e.lost)))
    (Tells_hello (frame_of e) (subst (λ (i : ℕ). IsHelloFrame s i (frame_of e)) zero_more frame) tells)))
    (hellos_walk net x s rest faces (n + 1) es mid after stood (omega (arith, same))
    (λ k f there. let longer : (n + 1) + k ≡ n + suc k = omega arith in subst (λ (i : ℕ). IsHelloFrame s i (frame_of f)) (sym longer) (hellos (suc k) f there)) more)

-- ---- TCs

-- a TC on each interface
each_walk : (net : NetState) (x : ℕ) (s : State) (complete : Bool) (sequence : ℕ) (rows : List TcRow) (validity : List ℕ) (tc : TcValue) (bytes : List ℕ) (es : List Emission) (rest : List Item) (before after : Traffic) →
    slice_get net.routers x ≡ Some s → IsValidity s.settings.times.topology_hold s.settings.near_hold validity → IsTcOfRows s validity complete sequence rows tc →
    WritesTc tc s.settings.times.tc_hop_limit validity bytes → map frame_of es ≡ record { iface = 0; bytes = bytes } ∷ drop 1 (on_each (length s.settings.interfaces) bytes) →
    SendsAll net.scenario s.last x es before after →
    Walks (at (with_traffic net before) x (Tc complete sequence rows ∷ rest)) (at (with_traffic net after) x rest) (flat_map (sent_lines net.scenario s.last s.settings) es)
each_walk net x s complete sequence rows validity tc bytes [] rest before after stood is_validity is_tc written are sends = absurd cc
each_walk net x s complete sequence rows validity tc bytes (e ∷ es) rest before after stood is_validity is_tc written are (mid, one, more) =
    let further = drop 1 (on_each (length s.settings.interfaces) bytes) in
    let zeroth : Frame = record { iface = 0; bytes = bytes } in
    let first : frame_of e ≡ zeroth = cc in
    let others : map frame_of es ≡ further = cc in
    let frames : AreTcFrames s complete sequence rows zeroth further =
    record {
      validity = validity;
      is_validity = is_validity;
      sends = parts_one s validity complete sequence rows tc bytes (zeroth ∷ further) is_tc written (sym (on_first (length s.settings.interfaces) bytes (some_interface s.settings)));
    } in
    walks_on _ (at (with_traffic net mid) x (map Sent further ++ rest)) _ (sent_lines net.scenario s.last s.settings e) (flat_map (sent_lines net.scenario s.last s.settings) es)
    (frame_walk (with_traffic net before) x s (Tc complete sequence rows) e mid (map Sent further) rest stood one
    (λ line tells. Tells_tc zeroth further frames (subst (λ (f : Frame). TellsFrame (with_traffic net before) x s f line (with_traffic net mid) (map Lost e.lost)) first tells)))
    (frames_walk net x s rest es further mid after stood others more)

pub parts_walk : (net : NetState) (x : ℕ) (s : State) (rest : List Item) (validity : List ℕ) (complete : Bool) (sequence : ℕ) (parts : List (List TcRow)) (frames : List Frame) (es : List Emission) (before after : Traffic) →
    slice_get net.routers x ≡ Some s → IsValidity s.settings.times.topology_hold s.settings.near_hold validity → SendsParts s validity complete sequence parts frames → map frame_of es ≡ frames →
    SendsAll net.scenario s.last x es before after →
    Walks (at (with_traffic net before) x (part_items complete sequence parts ++ rest)) (at (with_traffic net after) x rest) (flat_map (sent_lines net.scenario s.last s.settings) es)
parts_walk net x s rest validity complete sequence parts frames [] before after stood is_validity No_part are sends = grind (arith, common_steps, walks_nowhere)
parts_walk net x s rest validity complete sequence parts frames (e ∷ es) before after stood is_validity No_part are sends = absurd cc
parts_walk net x s rest validity complete sequence parts frames es before after stood is_validity (First_part {rows = rows} {parts = others} {more = later} tc bytes is_tc written more_parts) are sends =
    let each = on_each (length s.settings.interfaces) bytes in
    let cut = cut_of es each later are in
    let (mid, sends_front, sends_behind) = sends_cut net s.last x cut.front cut.behind before after (subst (λ (l : List Emission). SendsAll net.scenario s.last x l before after) cut.whole sends) in
    let items : List Item = part_items complete ((sequence + 1) % 65536) others ++ rest in
    let text = flat_map (sent_lines net.scenario s.last s.settings) in
    subst (λ (l : List ℕ). Walks (at (with_traffic net before) x (Tc complete sequence rows ∷ items)) (at (with_traffic net after) x rest) l)
    (sym (ap text cut.whole ∙ lines_cut (sent_lines net.scenario s.last s.settings) cut.front cut.behind))
    (walks_on _ (at (with_traffic net mid) x items) _ (text cut.front) (text cut.behind)
    (each_walk net x s complete sequence rows validity tc bytes cut.front items before mid stood is_validity is_tc written
    (cut.front_is ∙ on_first (length s.settings.interfaces) bytes (some_interface s.settings)) sends_front)
    (parts_walk net x s rest validity complete ((sequence + 1) % 65536) others later cut.behind mid after stood is_validity more_parts cut.behind_is sends_behind))

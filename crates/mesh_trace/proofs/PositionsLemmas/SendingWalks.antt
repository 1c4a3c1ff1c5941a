-- Frames that are told, with their losses.
use Rattle.mesh_trace.proofs.Common.{arith, ◌≡◌, ℕ, ◌<◌, List, [], ◌∷◌, ◌++◌, length, map, Some, refl, sym, subst, append_assoc, All, slice_get, common_steps, flat_map, append-nil, All-head, All-tail, Scenario, State, Frame, Emission, Traffic, Sends, SendsAll, frame_of, sent_lost, face_name, sent_line, lost_line, sent_lines, NetState, TellsItem, Tells_frame, Tells_loss, TellsFrame, Item, Lost, Sent, with_traffic, LineLeads, item_at as stands}
use Rattle.mesh_trace.proofs.PositionsLemmas.Leading.{at, to_item}
use Rattle.mesh_trace.proofs.PositionsLemmas.TextLines.{OneLine, sent_one, loss_one}
use Rattle.mesh_trace.proofs.PositionsLemmas.Walks.{Walks, walks_nowhere, walks_one, walks_on}

-- ---- losses

pub lost_one : (s : Scenario) (moment n : ℕ) → n < length s.arcs → OneLine (lost_line s moment n)
unfolding lost_line
lost_one s moment n below =
    let (arc, there) = stands s.arcs n below in
    rw there (loss_one moment s.routers arc)

losses_walk : (net : NetState) (x : ℕ) (s : State) (rest : List Item) (lost : List ℕ) → slice_get net.routers x ≡ Some s → All (λ n. n < length net.scenario.arcs) lost →
    Walks (at net x (map Lost lost ++ rest)) (at net x rest) (flat_map (lost_line net.scenario s.last) lost)
losses_walk net x s rest [] stood below = walks_nowhere (at net x rest)
losses_walk net x s rest (n ∷ lost) stood below =
    walks_on (at net x (Lost n ∷ (map Lost lost ++ rest))) (at net x (map Lost lost ++ rest)) (at net x rest) (lost_line net.scenario s.last n) (flat_map (lost_line net.scenario s.last) lost)
    (walks_one _ _ (lost_line net.scenario s.last n) (lost_one net.scenario s.last n (All-head (λ (k : ℕ). k < length net.scenario.arcs) n lost below))
    (λ line is. to_item net x (Lost n) (map Lost lost ++ rest) line s net [] stood (Tells_loss is)))
    (losses_walk net x s rest lost stood (All-tail (λ (k : ℕ). k < length net.scenario.arcs) n lost below))

-- ---- a frame

-- the item is told by the line of the frame, and then more is to be told
abbrev pub ToldBy : NetState → ℕ → State → Item → Emission → Traffic → List Item → Type 0
ToldBy net x s item e after more =
    (line : List ℕ) → TellsFrame net x s (frame_of e) line (with_traffic net after) (map Lost e.lost) → TellsItem net x s line item (with_traffic net after) (map Lost e.lost ++ more)

pub frame_walk : (net : NetState) (x : ℕ) (s : State) (item : Item) (e : Emission) (after : Traffic) (more rest : List Item) → slice_get net.routers x ≡ Some s →
    Sends net.scenario s.last x e net.traffic after → ToldBy net x s item e after more →
    Walks (at net x (item ∷ rest)) (at (with_traffic net after) x (more ++ rest)) (sent_lines net.scenario s.last s.settings e)
unfolding sent_lines
frame_walk net x s item e after more rest stood sends told =
    let text = sent_line s.last s.settings.name (face_name s.settings.interfaces e.iface) e.frame in
    walks_on (at net x (item ∷ rest)) (at (with_traffic net after) x (map Lost e.lost ++ (more ++ rest))) (at (with_traffic net after) x (more ++ rest)) text (flat_map (lost_line net.scenario s.last) e.lost)
    (walks_one _ _ text (sent_one s.last s.settings e.iface e.frame)
    (λ line is. subst (λ (l : List Item). LineLeads (at net x (item ∷ rest)) line (at (with_traffic net after) x l)) (append_assoc (map Lost e.lost) more rest)
    (to_item net x item rest line s (with_traffic net after) (map Lost e.lost ++ more) stood
    (told line (record { line_is = is; lost = e.lost; traffic = after; sends = sends; leads = refl; losses_are = refl })))))
    (losses_walk (with_traffic net after) x s (more ++ rest) e.lost stood (All-head (λ (e : Emission). All (λ n. n < length net.scenario.arcs) e.lost) e [] (sent_lost net.scenario s.last x (e ∷ []) net.traffic after (after, sends, refl))))

-- ---- frames of given octets

pub frames_walk : (net : NetState) (x : ℕ) (s : State) (rest : List Item) (es : List Emission) (fs : List Frame) (before after : Traffic) → slice_get net.routers x ≡ Some s →
    map frame_of es ≡ fs → SendsAll net.scenario s.last x es before after →
    Walks (at (with_traffic net before) x (map Sent fs ++ rest)) (at (with_traffic net after) x rest) (flat_map (sent_lines net.scenario s.last s.settings) es)
frames_walk net x s rest [] fs before after stood are same = grind (arith, common_steps, map, walks_nowhere)
frames_walk net x s rest (e ∷ es) fs before after stood are (mid, one, more) =
    subst (λ (l : List Frame). Walks (at (with_traffic net before) x (map Sent l ++ rest)) (at (with_traffic net after) x rest) (flat_map (sent_lines net.scenario s.last s.settings) (e ∷ es))) are
    (walks_on _ (at (with_traffic net mid) x (map Sent (map frame_of es) ++ rest)) _ (sent_lines net.scenario s.last s.settings e) (flat_map (sent_lines net.scenario s.last s.settings) es)
    (frame_walk (with_traffic net before) x s (Sent (frame_of e)) e mid [] (map Sent (map frame_of es) ++ rest) stood one (λ line tells. subst (λ (l : List Item). TellsItem (with_traffic net before) x s line (Sent (frame_of e)) (with_traffic net mid) l) (sym (append-nil (map Lost e.lost))) (Tells_frame tells)))
    (frames_walk net x s rest es (map frame_of es) mid after stood refl more))

-- The items of an event are told, each by a line and by the losses of the frame that the line tells.
use Rattle.mesh_replay.proofs.Common.{◌≡◌, ℕ, List, [], ◌∷◌, ◌++◌, refl, sym, ◌∙◌, ap, append_assoc, codes, decimal, Option, Some, Ok, Err, inl, inr, ◌+◌, drop, subst, append-nil, Bool, true, false, ◌<◌, ◌≤◌, map, length, None, zero, suc, ◌%◌, get_or, arith, length-append, ◌⊎◌, ◌≢◌, slice_get, slice_set, encode_lower, decode_of, RouterSettings, joined, line_of, sent_line, lost_line, sent_front, GoesOut, HasHello, HasTc, drop_more, drop_all, get_or_append_left, get_or_push, get_or_from_slice_get, slice_get_within, Scenario, State, Reader, Frame, NetState, Traffic as Flights, Sends, TellsItem, Tells_frame, Tells_loss, TellsFrame, Tells_hello, AreTcFrames, Tells_tc, Item, Lost, Sent, with_state, with_traffic, Hello, IsLineOf, lines_from, Case, CheckedEvent, Progress, AnyState, MayBeIn, IsProgress, LeadsPast, StandsIn, TellsItems, at, Went, FitsOrStops, IsNextText, IsStill, TakesText, TookText, sent_text, TakesNext, enumerate_from, item_at, Interface, is_nothing, cases_lt, Tc as TcValue, TcRow, PartSpan, part_of, on_each, IsTcOfRows, span_items}
use Rattle.hex.specs.declared.error.FromHexError.{FromHexError}
use Rattle.hex.specs.declared.error.FromHexError.TheVariants.{OutOfMemory}
use Rattle.hex.proofs.HexLemmas.{decode_of-encode_lower}
use Rattle.mesh_trace.specs.machine.Sendable.{AreOctets}
use Rattle.mesh_trace.specs.Positions.Standing.{Tc}
use Rattle.mesh_trace.proofs.PositionsLemmas.Leading.{undone, leads_item, to_item, tells_frame, tells_loss}
use Rattle.mesh_replay.proofs.CheckingLemmas.Telling.{went_one, stops_here, goes_on, goes_there, goes_not, progress_read, set_itself}
use Rattle.mesh_atoms.specs.declared.hello.Hello.{Hello as HelloValue}
use Rattle.mesh_trace.proofs.PositionsLemmas.AlikeItems.{tells_hello, tells_tc}
use Rattle.mesh_wire.specs.Writes.{WritesHello, WritesTc}
use Rattle.mesh_replay.proofs.CheckingLemmas.Texts.{takes_at}
use Rattle.mesh_replay.proofs.FramesLemmas.Once.{hello_once, tc_once}
use Rattle.mesh_atoms.specs.Validity.{IsValidity}
use Rattle.mesh_trace.proofs.machine.Originators.{some_interface}
use Rattle.mesh_trace.proofs.PositionsLemmas.LinesLeft.{validity_once}
use Rattle.mesh_trace.proofs.PositionsLemmas.TcFrames.{on_first, one_part, parts_one, first_is}

-- ---- The octets that the line of a frame tells.

-- a line of parts and one more
parts_line : (parts : List (List ℕ)) (last : List ℕ) → line_of (parts ++ last ∷ []) ≡ joined parts ++ (last ++ codes "\n")
parts_line [] last = refl
parts_line (part ∷ parts) last = ap (λ (l : List ℕ). part ++ l) (parts_line parts last) ∙ sym (append_assoc part (joined parts) (last ++ codes "\n"))

-- the line of a frame is what stands before its octets, and their digits
pub sent_parts : (moment : ℕ) (router face bytes : List ℕ) → sent_line moment router face bytes ≡ sent_front moment router face ++ (encode_lower bytes ++ codes "\n")
unfolding sent_line
sent_parts moment router face bytes = parts_line (codes "sent " ∷ decimal moment ∷ codes " " ∷ router ∷ codes " " ∷ face ∷ codes " " ∷ []) (encode_lower bytes)

-- octets that were read from digits
pub only_octets : (digits octets : List ℕ) → decode_of digits ≡ Ok octets → (other : List ℕ) → AreOctets other → encode_lower other ≡ digits → octets ≡ other
only_octets digits octets read other are same =
    let both : Ok octets ≡ Ok other = sym read ∙ (ap decode_of (sym same) ∙ decode_of-encode_lower other are) in cc

-- no octets are told where none were read
pub no_octets : (digits : List ℕ) (fault : FromHexError) (told : Option (List ℕ)) → (fault ≡ OutOfMemory) ⊎ (decode_of digits ≡ Err fault) → fault ≢ OutOfMemory →
    (other : List ℕ) → AreOctets other → encode_lower other ≡ digits → told ≡ Some other
no_octets digits fault told (inl full) not other are same = absurd (not full)
no_octets digits fault told (inr read) not other are same =
    let both : Err fault ≡ Ok other = sym read ∙ (ap decode_of (sym same) ∙ decode_of-encode_lower other are) in absurd cc

-- ---- An item of an event is told by one line, and by the losses of the frame that the line tells.

-- ---- by one line

-- its line was taken
pub item_told : {case : Case} {old : Progress} {reader : Reader} {x : ℕ} {s t : State} {item : Item} {text : List ℕ} → TookText case.trace.now old.reader reader text →
    ((net : NetState) (line : List ℕ) → StandsIn case old x s net → IsLineOf line text → TellsItem net x s line item (with_state net x t) []) →
    LeadsPast case old (record old { reader = reader }) x s t (item ∷ []) [] true
item_told {case} {old} {reader} {x} {s} {t} {item} took to = record {
  leads = λ net rest is. goes_there (subst (λ (f : Flights). Went case.trace.now old.reader reader (at net x (item ∷ rest)) (at (record net { routers = slice_set net.routers x t; traffic = f }) x rest))
      is.traffic (went_one took (to_item net x item rest took.line s (with_state net x t) [] is.stands (to net took.line is took.is))));
}

-- no line that is there tells it
pub item_not : {case : Case} {old new : Progress} {x : ℕ} {s t : State} {item : Item} {left : List Item} → IsStill old.reader new.reader →
    ((net after : NetState) (line : List ℕ) (lines : List (List ℕ)) (more : List Item) → StandsIn case old x s net → lines_from case.trace.now old.reader.at ≡ line ∷ lines → TellsItem net x s line item after more → ⊥) →
    LeadsPast case old new x s t (item ∷ []) left false
item_not {x = x} {s = s} {item = item} still none = record {
  leads = λ net rest is. goes_not (stops_here still
      (λ line lines q there leads. (let told = leads_item net x item rest line q leads in
      let same : told.s ≡ s = (let one = told.stands in let other = is.stands in cc) in
      none net told.new line lines told.more is there (subst (λ (t : State). TellsItem net x t line item told.new told.more) same told.tells)))
      (undone net x item rest));
}

-- the line of a loss is looked for
pub loss_told : {case : Case} {old : Progress} {reader : Reader} {event : CheckedEvent} {n : ℕ} {fits : Bool} → IsProgress case old →
    TakesText case.trace.now old.reader reader (lost_line case.scenario.now event.moment n) fits → TellsItems case old (record old { reader = reader }) event AnyState (λ s. Lost n ∷ []) (λ s. []) fits
loss_told {case} {old} {reader} {event} {n} {fits} progress takes = record { progress = progress_read progress takes.reading; told = λ s is so. by_cases fits takes s is } where
  text_is : (s : State) (net : NetState) → MayBeIn event s → StandsIn case old event.router s net → lost_line case.scenario.now event.moment n ≡ lost_line net.scenario s.last n
  text_is s net is at = ap (λ (z : Scenario). lost_line z event.moment n) (sym at.scenario) ∙ ap (λ (m : ℕ). lost_line net.scenario m n) (sym is.last)

  by_cases : (b : Bool) → TakesText case.trace.now old.reader reader (lost_line case.scenario.now event.moment n) b → (s : State) → MayBeIn event s → LeadsPast case old (record old { reader = reader }) event.router s s (Lost n ∷ []) [] b
  by_cases true takes s is = item_told (takes.takes refl)
      (λ net line at line_is. subst (λ (l : List State). TellsItem net event.router s line (Lost n) (record net { routers = l }) []) (sym (set_itself net.routers event.router s at.stands))
      (Tells_loss (line_is ∙ text_is s net is at)))
  by_cases false takes s is = item_not (takes.still refl)
      (λ net after line lines more at there tells. takes.other refl (record { line = line; lines = lines; next = there; is = (tells_loss net event.router s line n after more tells).0 ∙ sym (text_is s net is at) }))

-- ---- by the line of a frame

sent_is : {event : CheckedEvent} {s : State} → MayBeIn event s → (frame : Frame) → sent_text event.settings.now event.moment frame.iface frame.bytes ≡ sent_text s.settings s.last frame.iface frame.bytes
sent_is {event} {s} is frame =
    ap (λ (r : RouterSettings). sent_text r event.moment frame.iface frame.bytes) (sym is.settings) ∙ ap (λ (n : ℕ). sent_text s.settings n frame.iface frame.bytes) (sym is.last)

-- its line was taken, and the frame goes out: what is left is what the item leaves behind the losses
pub frame_told : {case : Case} {old new : Progress} {reader : Reader} {event : CheckedEvent} {s : State} {frame : Frame} {fits : Bool} (item : Item) (more : List Item) → MayBeIn event s →
    TookText case.trace.now old.reader reader (sent_text event.settings.now event.moment frame.iface frame.bytes) →
    ((net after : NetState) (line : List ℕ) (losses : List Item) → TellsFrame net event.router s frame line after losses → TellsItem net event.router s line item after (losses ++ more)) →
    GoesOut case (record old { reader = reader }) new event frame fits → LeadsPast case old new event.router s s (item ∷ []) more fits
frame_told {case} {old} {new} {reader} {event} {s} {frame} {fits} item more is_in took tells out = record { leads = λ net rest is. by net rest is } where
  by : (net : NetState) (rest : List Item) → StandsIn case old event.router s net → FitsOrStops case.trace.now old.reader new.reader (at net event.router (item ∷ rest))
      (at (with_traffic (with_state net event.router s) new.traffic.traffic) event.router (more ++ rest)) fits
  by net rest is =
      let x = event.router in
      let after = with_traffic net out.flights.traffic in
      let sends : Sends net.scenario s.last x (record { iface = frame.iface; frame = frame.bytes; lost = out.lost }) net.traffic out.flights.traffic =
      subst (λ (t : Flights). Sends net.scenario s.last x (record { iface = frame.iface; frame = frame.bytes; lost = out.lost }) t out.flights.traffic) (sym is.traffic)
      (subst (λ (z : Scenario). Sends z s.last x (record { iface = frame.iface; frame = frame.bytes; lost = out.lost }) old.traffic.traffic out.flights.traffic) (sym is.scenario)
      (subst (λ (n : ℕ). Sends case.scenario.now n x (record { iface = frame.iface; frame = frame.bytes; lost = out.lost }) old.traffic.traffic out.flights.traffic) (sym is_in.last) out.sends)) in
      let sent : TellsFrame net x s frame took.line after (map Lost out.lost) =
      record { line_is = took.is ∙ sent_is is_in frame; lost = out.lost; traffic = out.flights.traffic; sends = sends; leads = refl; losses_are = refl } in
      let one : Went case.trace.now old.reader reader (at net x (item ∷ rest)) (at after x (map Lost out.lost ++ (more ++ rest))) =
      subst (λ (l : List Item). Went case.trace.now old.reader reader (at net x (item ∷ rest)) (at after x l)) (append_assoc (map Lost out.lost) more rest)
      (went_one took (to_item net x item rest took.line s after (map Lost out.lost ++ more) is.stands (tells net after took.line (map Lost out.lost) sent))) in
      goes_on one ((out.tells.told s is_in tt).leads after (more ++ rest) (record { scenario = is.scenario; traffic = refl; stands = is.stands }))

-- the same of an item that leaves nothing behind the losses
pub frame_alone : {case : Case} {old new : Progress} {reader : Reader} {event : CheckedEvent} {s : State} {frame : Frame} {fits : Bool} (item : Item) → MayBeIn event s →
    TookText case.trace.now old.reader reader (sent_text event.settings.now event.moment frame.iface frame.bytes) →
    ((net after : NetState) (line : List ℕ) (losses : List Item) → TellsFrame net event.router s frame line after losses → TellsItem net event.router s line item after losses) →
    GoesOut case (record old { reader = reader }) new event frame fits → LeadsPast case old new event.router s s (item ∷ []) [] fits
frame_alone {event = event} {s = s} item is_in took tells out =
    frame_told item [] is_in took (λ net after line losses sent. subst (λ (l : List Item). TellsItem net event.router s line item after l) (sym (append-nil losses)) (tells net after line losses sent)) out

-- no line that is there tells a frame of the item
pub frame_not : {case : Case} {old new : Progress} {event : CheckedEvent} {s : State} {item : Item} {left : List Item} → MayBeIn event s → IsStill old.reader new.reader →
    ((net after : NetState) (line : List ℕ) (more : List Item) → TellsItem net event.router s line item after more →
    (frame : Frame) × IsLineOf line (sent_text s.settings s.last frame.iface frame.bytes) × (IsNextText case.trace.now old.reader (sent_text event.settings.now event.moment frame.iface frame.bytes) → ⊥)) →
    LeadsPast case old new event.router s s (item ∷ []) left false
frame_not is_in still none = item_not still (λ net after line lines more at there tells.
    (let (frame, is, not) = none net after line more tells in not (record { line = line; lines = lines; next = there; is = is ∙ sym (sent_is is_in frame) })))

-- a frame of given octets
pub sent_told : {case : Case} {old new : Progress} {reader : Reader} {event : CheckedEvent} {frame : Frame} {reads fits : Bool} →
    TakesText case.trace.now old.reader reader (sent_text event.settings.now event.moment frame.iface frame.bytes) reads → reads ≡ true → GoesOut case (record old { reader = reader }) new event frame fits →
    TellsItems case old new event AnyState (λ s. Sent frame ∷ []) (λ s. []) fits
sent_told {frame = frame} takes good out = record {
  progress = out.tells.progress;
  told = λ s is so. frame_alone (Sent frame) is (takes.takes good) (λ net after line losses sent. Tells_frame sent) out;
}

pub sent_not : {case : Case} {old : Progress} {reader : Reader} {event : CheckedEvent} {frame : Frame} {reads : Bool} → IsProgress case old →
    TakesText case.trace.now old.reader reader (sent_text event.settings.now event.moment frame.iface frame.bytes) reads → reads ≡ false →
    TellsItems case old (record old { reader = reader }) event AnyState (λ s. Sent frame ∷ []) (λ s. []) false
sent_not {event = event} {frame = frame} progress takes bad = record {
  progress = progress_read progress takes.reading;
  told = λ s is so. frame_not is (takes.still bad) (λ net after line more tells. (frame, (tells_frame net event.router s line frame after more tells).line_is, takes.other bad));
}

-- frames from a place on
pub frames_from : (frames : List Frame) (n : ℕ) (f : Frame) → Some f ≡ slice_get frames n → map Sent (drop n frames) ≡ Sent f ∷ map Sent (drop (n + 1) frames)
frames_from frames n f here =
    ap (map Sent) (drop_more frames n f (slice_get_within frames n f (sym here)) ∙ ap (λ (g : Frame). g ∷ drop (n + 1) frames) (get_or_from_slice_get frames n f f (sym here)))

-- ---- A HELLO that is told.

-- the line of its frame was taken, and the frame goes out
pub hello_told : {case : Case} {old new : Progress} {reader : Reader} {event : CheckedEvent} {i : ℕ} {hello : HelloValue} {bytes : List ℕ} {told : Option (List ℕ)} {fits : Bool} →
    TakesNext (WritesHello hello) (sent_text event.settings.now event.moment i) case.trace.now old.reader reader told → told ≡ Some bytes →
    GoesOut case (record old { reader = reader }) new event (record { iface = i; bytes = bytes }) fits → TellsItems case old new event (HasHello i hello) (λ s. Hello i ∷ []) (λ s. []) fits
hello_told {i = i} {hello = hello} {bytes = bytes} takes is_told out =
    let (written, took) = takes_at takes is_told in
    let frame : Frame = record { iface = i; bytes = bytes } in
    record {
      progress = out.tells.progress;
      told = λ s is has. frame_alone (Hello i) is took
          (λ net after line losses sent. Tells_hello frame (record { iface = refl; hello = hello; is_now = has.is; written = written }) sent) out;
    }

-- the next line tells no such frame
pub hello_not : {case : Case} {old : Progress} {reader : Reader} {event : CheckedEvent} {i : ℕ} {hello : HelloValue} {told : Option (List ℕ)} → IsProgress case old →
    TakesNext (WritesHello hello) (sent_text event.settings.now event.moment i) case.trace.now old.reader reader told → told ≡ None →
    TellsItems case old (record old { reader = reader }) event (HasHello i hello) (λ s. Hello i ∷ []) (λ s. []) false
hello_not {case} {old} {event = event} {i = i} {hello = hello} {told = none} progress takes is_none = record {
  progress = progress_read progress takes.reading;
  told = λ s is has. frame_not is (takes.still (is_nothing none is_none)) (λ net after line more tells. (let told = tells_hello net event.router s line i after more tells in
      let one = hello_once s i s.last s.last has.sound.bases.neighbourhood told.is.hello hello told.is.is_now has.is in (
        told.frame,
        told.tells.line_is,
        λ next. takes.none (is_nothing none is_none) told.frame.bytes (subst (λ (h : HelloValue). WritesHello h told.frame.bytes) one told.is.written)
            (subst (λ (k : ℕ). IsNextText case.trace.now old.reader (sent_text event.settings.now event.moment k told.frame.bytes)) told.is.iface next),
      )));
}

-- ---- one interface after the other

pub hellos_more : (faces : List Interface) (n : ℕ) → n < length faces → map (λ f. Hello f.0) (enumerate_from n (drop n faces)) ≡ Hello n ∷ map (λ f. Hello f.0) (enumerate_from (n + 1) (drop (n + 1) faces))
hellos_more faces n inside =
    let (face, here) = item_at faces n inside in
    ap (λ (l : List Interface). map (λ f. Hello f.0) (enumerate_from n l)) (drop_more faces n face inside)

pub hellos_done : (faces : List Interface) (n : ℕ) → length faces ≤ n → map (λ f. Hello f.0) (enumerate_from n (drop n faces)) ≡ []
hellos_done faces n past = ap (λ (l : List Interface). map (λ f. Hello f.0) (enumerate_from n l)) (drop_all n faces past)

-- ---- A TC that is told, on the first interface and then on each further one.

-- the frames on all interfaces but the first
abbrev pub further_of : RouterSettings → List ℕ → List Frame
further_of r bytes = drop 1 (on_each (length r.interfaces) bytes)

validity_in : {event : CheckedEvent} {validity : List ℕ} {s : State} → IsValidity event.settings.now.times.topology_hold event.settings.now.near_hold validity → MayBeIn event s →
    IsValidity s.settings.times.topology_hold s.settings.near_hold validity
validity_in {validity = validity} is_validity is = subst (λ (r : RouterSettings). IsValidity r.times.topology_hold r.near_hold validity) (sym is.settings) is_validity

are_frames : {event : CheckedEvent} {validity : List ℕ} {tc : TcValue} {s : State} (bytes : List ℕ) → IsValidity event.settings.now.times.topology_hold event.settings.now.near_hold validity → MayBeIn event s → HasTc validity tc s →
    WritesTc tc event.settings.now.times.tc_hop_limit validity bytes → AreTcFrames s tc.complete tc.sequence tc.rows (record { iface = 0; bytes = bytes }) (further_of event.settings.now bytes)
are_frames {validity = validity} {tc = tc} {s = s} bytes is_validity is has written =
    subst (λ (r : RouterSettings). AreTcFrames s tc.complete tc.sequence tc.rows (record { iface = 0; bytes = bytes }) (further_of r bytes)) is.settings (record {
      validity = validity;
      is_validity = validity_in is_validity is;
      sends = parts_one s validity tc.complete tc.sequence tc.rows tc bytes (record { iface = 0; bytes = bytes } ∷ further_of s.settings bytes) has
          (subst (λ (r : RouterSettings). WritesTc tc r.times.tc_hop_limit validity bytes) (sym is.settings) written)
          (sym (on_first (length s.settings.interfaces) bytes (some_interface s.settings)));
    })

module _ {case : Case} {old : Progress} {reader : Reader} {event : CheckedEvent} {validity : List ℕ} {tc : TcValue} {told : Option (List ℕ)} (is_validity : IsValidity event.settings.now.times.topology_hold event.settings.now.near_hold validity)
    (takes : TakesNext (λ bytes. WritesTc tc event.settings.now.times.tc_hop_limit validity bytes) (sent_text event.settings.now event.moment 0) case.trace.now old.reader reader told) where
  -- the line of its first frame was taken, and the frame goes out
  pub tc_told : {after : Progress} {bytes : List ℕ} {fits : Bool} → told ≡ Some bytes → GoesOut case (record old { reader = reader }) after event (record { iface = 0; bytes = bytes }) fits →
      TellsItems case old after event (HasTc validity tc) (λ s. Tc tc.complete tc.sequence tc.rows ∷ []) (λ s. map Sent (further_of event.settings.now bytes)) fits
  tc_told {bytes = bytes} is_told out =
      let (written, took) = takes_at takes is_told in
      record {
        progress = out.tells.progress;
        told = λ s is has. frame_told (Tc tc.complete tc.sequence tc.rows) (map Sent (further_of event.settings.now bytes)) is took
            (λ net after line losses sent. Tells_tc (record { iface = 0; bytes = bytes }) (further_of event.settings.now bytes) (are_frames bytes is_validity is has written) sent) out;
      }

  -- the next line tells no such frame
  pub tc_not : IsProgress case old → told ≡ None → TellsItems case old (record old { reader = reader }) event (HasTc validity tc) (λ s. Tc tc.complete tc.sequence tc.rows ∷ []) (λ s. []) false
  tc_not progress is_none = record {
    progress = progress_read progress takes.reading;
    told = λ s is has. frame_not is (takes.still (is_nothing told is_none)) (λ net after line more tells. (let t = tells_tc net event.router s line tc.complete tc.sequence tc.rows after more tells in
        let part = one_part s t.are.validity tc.complete tc.sequence tc.rows (t.first ∷ t.further) t.are.sends in
        let first : t.first ≡ record { iface = 0; bytes = part.bytes } = first_is s part.bytes t.first t.further part.are in
        let validities : t.are.validity ≡ validity = validity_once s.settings.times.topology_hold s.settings.near_hold t.are.validity validity t.are.is_validity (validity_in is_validity is) in
        let tcs : part.tc ≡ tc = tc_once s validity tc.complete tc.sequence tc.rows part.tc tc (subst (λ (v : List ℕ). IsTcOfRows s v tc.complete tc.sequence tc.rows part.tc) validities part.is_tc) has in
        let one : WritesTc part.tc s.settings.times.tc_hop_limit validity part.bytes = subst (λ (v : List ℕ). WritesTc part.tc s.settings.times.tc_hop_limit v part.bytes) validities part.written in
        let two : WritesTc tc s.settings.times.tc_hop_limit validity part.bytes = subst (λ (v : TcValue). WritesTc v s.settings.times.tc_hop_limit validity part.bytes) tcs one in (
          t.first,
          t.tells.line_is,
          λ next. takes.none (is_nothing told is_none) part.bytes (subst (λ (r : RouterSettings). WritesTc tc r.times.tc_hop_limit validity part.bytes) is.settings two)
              (subst (λ (f : Frame). IsNextText case.trace.now old.reader (sent_text event.settings.now event.moment f.iface f.bytes)) first next),
        )));
  }

-- the same of its rows, number and completeness by other words
pub tc_named : {case : Case} {old new : Progress} {event : CheckedEvent} {IsSo : State → Type 0} {validity : List ℕ} {complete : Bool} {number : ℕ} {rows : List TcRow} {tc : TcValue} {fits : Bool} →
    ((s : State) → MayBeIn event s → IsSo s → IsTcOfRows s validity complete number rows tc) → TellsItems case old new event (HasTc validity tc) (λ s. Tc tc.complete tc.sequence tc.rows ∷ []) (λ s. []) fits →
    TellsItems case old new event IsSo (λ s. Tc complete number rows ∷ []) (λ s. []) fits
tc_named {case} {old} {new} {event} {complete = complete} {number = number} {rows = rows} {tc = tc} {fits = fits} is_tc tells = record {
  progress = tells.progress;
  told = λ s is so. (let has = is_tc s is so in
      let named : Tc tc.complete tc.sequence tc.rows ≡ Tc complete number rows = (let a = has.complete_is in let b = has.sequence_is in let c = has.rows_are in cc) in
      subst (λ (item : Item). LeadsPast case old new event.router s s (item ∷ []) [] fits) named (tells.told s is (record {
        originator = has.originator;
        sequence_is = refl;
        ansn = has.ansn;
        complete_is = refl;
        validity_is = has.validity_is;
        interval = has.interval;
        rows_are = refl;
      })));
}

-- one run of the rows more
pub spans_more : (complete : Bool) (number : ℕ) (rows : List TcRow) (spans : List PartSpan) (i : ℕ) (d : PartSpan) → i < length spans →
    span_items complete number rows (drop i spans) ≡ Tc complete number (part_of rows (get_or spans i d)) ∷ span_items complete ((number + 1) % 65536) rows (drop (i + 1) spans)
spans_more complete number rows spans i d lt = ap (λ (l : List PartSpan). span_items complete number rows l) (drop_more spans i d lt)

-- ---- the further interfaces

each_count : (n : ℕ) (bytes : List ℕ) → length (on_each n bytes) ≡ n
each_count zero bytes = refl
each_count (suc n) bytes =
    let last : Frame = record { iface = n; bytes = bytes } in
    let more = each_count n bytes in
    let len = length-append (on_each n bytes) (last ∷ []) in omega (arith, len, more)

each_at : (n i : ℕ) (bytes : List ℕ) (d : Frame) → i < n → get_or (on_each n bytes) i d ≡ record { iface = i; bytes = bytes }
each_at zero i bytes d lt = absurd (omega (arith, lt))
each_at (suc n) i bytes d lt =
    let last : Frame = record { iface = n; bytes = bytes } in
    let count = each_count n bytes in
    elim (cases_lt i n) [
      | inl less ↦ get_or_append_left (on_each n bytes) (last ∷ []) d i (omega (arith, less, count)) ∙ each_at n i bytes d less
      | inr not_less ↦
          let same : i ≡ n = omega (arith, lt, not_less) in
          get_or_push (on_each n bytes) last d i (omega (arith, count, same)) ∙ ap (λ (k : ℕ). let f : Frame = record { iface = k; bytes = bytes } in f) (sym same)
    ]

-- one interface more
pub each_more : (n i : ℕ) (bytes : List ℕ) → i < n → map Sent (drop i (on_each n bytes)) ≡ Sent (record { iface = i; bytes = bytes }) ∷ map Sent (drop (i + 1) (on_each n bytes))
each_more n i bytes lt =
    let d : Frame = record { iface = 0; bytes = bytes } in
    let count = each_count n bytes in
    ap (map Sent) (drop_more (on_each n bytes) i d (omega (arith, lt, count)) ∙ ap (λ (f : Frame). f ∷ drop (i + 1) (on_each n bytes)) (each_at n i bytes d lt))

pub each_done : (n i : ℕ) (bytes : List ℕ) → n ≤ i → map Sent (drop i (on_each n bytes)) ≡ []
each_done n i bytes past = let count = each_count n bytes in ap (map Sent) (drop_all i (on_each n bytes) (omega (arith, past, count)))

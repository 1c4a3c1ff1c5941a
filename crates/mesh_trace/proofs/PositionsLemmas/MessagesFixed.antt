-- What the messages of a frame leave is fixed but for the order of tuples, and so is what they forward.
use Rattle.mesh_trace.proofs.Common.{◌≡◌, ℕ, refl, sym, ◌∙◌, ap, subst, arith, List, [], ◌∷◌, ◌++◌, Option, Some, None, Bool, Addr4, NetAddr, Hello, RouterSettings, Tc, TcAnswer, TakesTc, NotedMessages, Bases, IsOriginator, TakesHello, RawAddr, Span, MessageFields, Heading, Forward, process_of, Arrival, Fate, Frame, octets_at, SoundBases, IsHeading, is_processed, ConsidersForwarding, ProcessesTc, Tc_taken, Tc_passed, TakesMessage, Hello_read, Hello_broken, Tc_read, Tc_broken, Other_passed, Other_left, TakesMessages, No_messages, First_message, message_sound, OriginatorIs, Keeps, TcIs, one_hello, one_tc, AlikeBases, MessagesAreFixed}
use Rattle.mesh_texts.specs.machine.wire.Rules.{FirstBroken}
use Rattle.mesh_trace.proofs.PositionsLemmas.AlikeBases.{near_back, topology_back}
use Rattle.mesh_trace.proofs.PositionsLemmas.HellosFixed.{takes_hello_once}
use Rattle.mesh_trace.proofs.PositionsLemmas.TcsFixed.{ForwardOnce, process_once, considers_once, takes_tc_once}
use Rattle.mesh_atoms.proofs.Values.{same_addr}

not_broken : (Breaks : ℕ → Option NetAddr → Type 0) (number : ℕ) (net : Option NetAddr) → Keeps Breaks → FirstBroken Breaks number net → ⊥
not_broken Breaks number net keeps broken = keeps number net broken.broken

zero_one : (kind : ℕ) → kind ≡ 0 → kind ≡ 1 → ⊥
zero_one kind zeroth first = omega (arith, zeroth, first)

originator_once : (raw : Option RawAddr) (a b : Addr4) → OriginatorIs raw (Some a) → OriginatorIs raw (Some b) → b ≡ a
originator_once None a b h k = absurd h
originator_once (Some raw) a b h k = same_addr b a (k ∙ sym h)

abbrev heading_of : ℕ → Addr4 → ℕ → Option ℕ → Option ℕ → Heading
heading_of kind originator sequence limit count = record { kind = kind; originator = originator; sequence = sequence; limit = limit; count = count }

heading_once : (message : MessageFields) (one other : Heading) → IsHeading message one → IsHeading message other → other ≡ one
heading_once message one other h k =
    let kind : other.kind ≡ one.kind = k.kind ∙ sym h.kind in
    let originator = originator_once message.originator one.originator other.originator h.originator k.originator in
    let both : Some other.sequence ≡ Some one.sequence = sym k.sequence ∙ h.sequence in
    let sequence : other.sequence ≡ one.sequence = cc in
    let limit : other.limit ≡ one.limit = k.limit ∙ sym h.limit in
    let count : other.count ≡ one.count = k.count ∙ sym h.count in
    ap (λ (x : ℕ). heading_of x other.originator other.sequence other.limit other.count) kind
    ∙ (ap (λ (x : Addr4). heading_of one.kind x other.sequence other.limit other.count) originator
    ∙ (ap (λ (x : ℕ). heading_of one.kind one.originator x other.limit other.count) sequence
    ∙ (ap (λ (x : Option ℕ). heading_of one.kind one.originator one.sequence x other.count) limit
    ∙ ap (λ (x : Option ℕ). heading_of one.kind one.originator one.sequence one.limit x) count)))

-- what a message leaves, and what it sends
record MessageOnce (one other : Bases) (sent more : List Frame) : Type 0 where
  bases : AlikeBases one other
  same : more ≡ sent

module _ (settings : RouterSettings) (own : Addr4) (arrival : Arrival) (a b : Bases) (sound : SoundBases settings arrival.now a) (sound' : SoundBases settings arrival.now b) (alike : AlikeBases a b) where
  forwards_once : (heading heading' : Heading) → heading' ≡ heading → (octets : List ℕ) (done : Bool) (noted noted' : NotedMessages) (sent sent' : List Frame) (answer answer' : Forward) →
      ConsidersForwarding settings own arrival heading octets done a noted sent answer → ConsidersForwarding settings own arrival heading' octets done b noted' sent' answer' → ForwardOnce noted noted' sent sent'
  forwards_once heading heading' same octets done noted noted' sent sent' answer answer' h k =
      considers_once settings own arrival heading octets done a b noted noted' sent sent' answer answer' sound.neighbourhood sound.noted sound'.noted alike.neighbourhood
      (near_back a.neighbourhood b.neighbourhood alike.neighbourhood) alike.noted h (subst (λ (x : Heading). ConsidersForwarding settings own arrival x octets done b noted' sent' answer') same k)

  processed_once : (heading heading' : Heading) → heading' ≡ heading → process_of own heading' b.noted ≡ process_of own heading a.noted
  processed_once heading heading' same = ap (λ (x : Heading). process_of own x b.noted) same ∙ process_once settings arrival.now a.noted b.noted sound.noted sound'.noted alike.noted own heading

  tc_once : (message : MessageFields) (octets : List ℕ) (tc tc' : Tc) (heading heading' : Heading) (one other : Bases) (sent more : List Frame) (fate fate' : Fate) → TcIs message tc → tc' ≡ tc → heading' ≡ heading →
      ProcessesTc settings own arrival a tc heading octets one sent fate → ProcessesTc settings own arrival b tc' heading' octets other more fate' → MessageOnce one other sent more
  tc_once message octets tc tc' heading heading' one other sent more fate fate' reads same_tc same (Tc_taken {topology} {noted} {answer} {sent = s} {onward} due takes considers)
      (Tc_taken {topology = topology'} {noted = noted'} {answer = answer'} {sent = s'} {onward = onward'} due' takes' considers') =
      let (topologies, answers) = takes_tc_once arrival.now tc reads.rows.ascending settings a.topology b.topology sound.topology sound'.topology alike.topology (topology_back a.topology b.topology alike.topology)
      topology topology' answer answer' takes (subst (λ (t : Tc). TakesTc arrival.now t b.topology topology' answer') same_tc takes') in
      let forward = forwards_once heading heading' same octets (is_processed answer) noted noted' s s' onward onward' considers
      (subst (λ (x : TcAnswer). ConsidersForwarding settings own arrival heading' octets (is_processed x) b noted' s' onward') answers considers') in
      record { bases = record { neighbourhood = alike.neighbourhood; topology = topologies; noted = forward.noted }; same = forward.same }
  tc_once message octets tc tc' heading heading' one other sent more fate fate' reads same_tc same (Tc_taken due takes considers) (Tc_passed apart considers') =
      absurd (apart (processed_once heading heading' same ∙ due))
  tc_once message octets tc tc' heading heading' one other sent more fate fate' reads same_tc same (Tc_passed apart considers) (Tc_taken due takes considers') =
      absurd (apart (sym (processed_once heading heading' same) ∙ due))
  tc_once message octets tc tc' heading heading' one other sent more fate fate' reads same_tc same (Tc_passed {noted} {sent = s} {onward} apart considers) (Tc_passed {noted = noted'} {sent = s'} {onward = onward'} apart' considers') =
      let forward = forwards_once heading heading' same octets _ noted noted' s s' onward onward' considers considers' in
      record { bases = record { neighbourhood = alike.neighbourhood; topology = alike.topology; noted = forward.noted }; same = forward.same }

  stays : MessageOnce a b [] []
  stays = record { bases = alike; same = refl }

  message_once : (message : MessageFields) (octets : List ℕ) (one other : Bases) (sent more : List Frame) (fate fate' : Fate) → TakesMessage settings own arrival a message octets one sent fate →
      TakesMessage settings own arrival b message octets other more fate' → MessageOnce one other sent more
  message_once message octets one other sent more fate fate' (Hello_read {near = near} {answer = answer} hello kind keeps reads takes) (Hello_read {near = near'} {answer = answer'} hello' kind' keeps' reads' takes') =
      let same : hello' ≡ hello = one_hello message keeps hello' hello reads' reads in
      let near_alike = takes_hello_once settings arrival.now arrival.iface arrival.sender hello a.neighbourhood b.neighbourhood sound.neighbourhood sound'.neighbourhood alike.neighbourhood reads.rows.ascending near near' answer answer' takes
      (subst (λ (x : Hello). TakesHello settings arrival.now arrival.iface arrival.sender x b.neighbourhood near' answer') same takes') in
      record { bases = record { neighbourhood = near_alike; topology = alike.topology; noted = alike.noted }; same = refl }
  message_once message octets one other sent more fate fate' (Hello_read {near = near} {answer = answer} hello kind keeps reads takes) (Hello_broken net' kind' broken') = absurd (not_broken _ _ net' keeps broken')
  message_once message octets one other sent more fate fate' (Hello_read {near = near} {answer = answer} hello kind keeps reads takes) (Tc_read {new = new'} {sent = s'} {fate = f'} tc' heading' kind' keeps' reads' is' process') = absurd (zero_one message.kind kind kind')
  message_once message octets one other sent more fate fate' (Hello_read {near = near} {answer = answer} hello kind keeps reads takes) (Tc_broken net' kind' broken') = absurd (zero_one message.kind kind kind')
  message_once message octets one other sent more fate fate' (Hello_read {near = near} {answer = answer} hello kind keeps reads takes) (Other_passed {noted = noted'} {sent = s'} {onward = onward'} heading' not_hello' not_tc' is' considers') = absurd (not_hello' kind)
  message_once message octets one other sent more fate fate' (Hello_read {near = near} {answer = answer} hello kind keeps reads takes) (Other_left not_hello' not_tc' none') = absurd (not_hello' kind)
  message_once message octets one other sent more fate fate' (Hello_broken net kind broken) (Hello_read {near = near'} {answer = answer'} hello' kind' keeps' reads' takes') = absurd (not_broken _ _ net keeps' broken)
  message_once message octets one other sent more fate fate' (Hello_broken net kind broken) (Hello_broken net' kind' broken') = stays
  message_once message octets one other sent more fate fate' (Hello_broken net kind broken) (Tc_read {new = new'} {sent = s'} {fate = f'} tc' heading' kind' keeps' reads' is' process') = absurd (zero_one message.kind kind kind')
  message_once message octets one other sent more fate fate' (Hello_broken net kind broken) (Tc_broken net' kind' broken') = absurd (zero_one message.kind kind kind')
  message_once message octets one other sent more fate fate' (Hello_broken net kind broken) (Other_passed {noted = noted'} {sent = s'} {onward = onward'} heading' not_hello' not_tc' is' considers') = absurd (not_hello' kind)
  message_once message octets one other sent more fate fate' (Hello_broken net kind broken) (Other_left not_hello' not_tc' none') = absurd (not_hello' kind)
  message_once message octets one other sent more fate fate' (Tc_read {new = new} {sent = s} {fate = f} tc heading kind keeps reads is process) (Hello_read {near = near'} {answer = answer'} hello' kind' keeps' reads' takes') = absurd (zero_one message.kind kind' kind)
  message_once message octets one other sent more fate fate' (Tc_read {new = new} {sent = s} {fate = f} tc heading kind keeps reads is process) (Hello_broken net' kind' broken') = absurd (zero_one message.kind kind' kind)
  message_once message octets one other sent more fate fate' (Tc_read {new = new} {sent = s} {fate = f} tc heading kind keeps reads is process) (Tc_read {new = new'} {sent = s'} {fate = f'} tc' heading' kind' keeps' reads' is' process') =
      tc_once message octets tc tc' heading heading' new new' s s' f f' reads (one_tc message keeps tc' tc reads' reads) (heading_once message heading heading' is is') process process'
  message_once message octets one other sent more fate fate' (Tc_read {new = new} {sent = s} {fate = f} tc heading kind keeps reads is process) (Tc_broken net' kind' broken') = absurd (not_broken _ _ net' keeps broken')
  message_once message octets one other sent more fate fate' (Tc_read {new = new} {sent = s} {fate = f} tc heading kind keeps reads is process) (Other_passed {noted = noted'} {sent = s'} {onward = onward'} heading' not_hello' not_tc' is' considers') = absurd (not_tc' kind)
  message_once message octets one other sent more fate fate' (Tc_read {new = new} {sent = s} {fate = f} tc heading kind keeps reads is process) (Other_left not_hello' not_tc' none') = absurd (not_tc' kind)
  message_once message octets one other sent more fate fate' (Tc_broken net kind broken) (Hello_read {near = near'} {answer = answer'} hello' kind' keeps' reads' takes') = absurd (zero_one message.kind kind' kind)
  message_once message octets one other sent more fate fate' (Tc_broken net kind broken) (Hello_broken net' kind' broken') = absurd (zero_one message.kind kind' kind)
  message_once message octets one other sent more fate fate' (Tc_broken net kind broken) (Tc_read {new = new'} {sent = s'} {fate = f'} tc' heading' kind' keeps' reads' is' process') = absurd (not_broken _ _ net keeps' broken)
  message_once message octets one other sent more fate fate' (Tc_broken net kind broken) (Tc_broken net' kind' broken') = stays
  message_once message octets one other sent more fate fate' (Tc_broken net kind broken) (Other_passed {noted = noted'} {sent = s'} {onward = onward'} heading' not_hello' not_tc' is' considers') = absurd (not_tc' kind)
  message_once message octets one other sent more fate fate' (Tc_broken net kind broken) (Other_left not_hello' not_tc' none') = absurd (not_tc' kind)
  message_once message octets one other sent more fate fate' (Other_passed {noted = noted} {sent = s} {onward = onward} heading not_hello not_tc is considers) (Hello_read {near = near'} {answer = answer'} hello' kind' keeps' reads' takes') = absurd (not_hello kind')
  message_once message octets one other sent more fate fate' (Other_passed {noted = noted} {sent = s} {onward = onward} heading not_hello not_tc is considers) (Hello_broken net' kind' broken') = absurd (not_hello kind')
  message_once message octets one other sent more fate fate' (Other_passed {noted = noted} {sent = s} {onward = onward} heading not_hello not_tc is considers) (Tc_read {new = new'} {sent = s'} {fate = f'} tc' heading' kind' keeps' reads' is' process') = absurd (not_tc kind')
  message_once message octets one other sent more fate fate' (Other_passed {noted = noted} {sent = s} {onward = onward} heading not_hello not_tc is considers) (Tc_broken net' kind' broken') = absurd (not_tc kind')
  message_once message octets one other sent more fate fate' (Other_passed {noted = noted} {sent = s} {onward = onward} heading not_hello not_tc is considers) (Other_passed {noted = noted'} {sent = s'} {onward = onward'} heading' not_hello' not_tc' is' considers') =
      let forward = forwards_once heading heading' (heading_once message heading heading' is is') octets _ noted noted' s s' onward onward' considers considers' in
      record { bases = record { neighbourhood = alike.neighbourhood; topology = alike.topology; noted = forward.noted }; same = forward.same }
  message_once message octets one other sent more fate fate' (Other_passed {noted = noted} {sent = s} {onward = onward} heading not_hello not_tc is considers) (Other_left not_hello' not_tc' none') = absurd (none' heading is)
  message_once message octets one other sent more fate fate' (Other_left not_hello not_tc none) (Hello_read {near = near'} {answer = answer'} hello' kind' keeps' reads' takes') = absurd (not_hello kind')
  message_once message octets one other sent more fate fate' (Other_left not_hello not_tc none) (Hello_broken net' kind' broken') = absurd (not_hello kind')
  message_once message octets one other sent more fate fate' (Other_left not_hello not_tc none) (Tc_read {new = new'} {sent = s'} {fate = f'} tc' heading' kind' keeps' reads' is' process') = absurd (not_tc kind')
  message_once message octets one other sent more fate fate' (Other_left not_hello not_tc none) (Tc_broken net' kind' broken') = absurd (not_tc kind')
  message_once message octets one other sent more fate fate' (Other_left not_hello not_tc none) (Other_passed {noted = noted'} {sent = s'} {onward = onward'} heading' not_hello' not_tc' is' considers') = absurd (none heading' is')
  message_once message octets one other sent more fate fate' (Other_left not_hello not_tc none) (Other_left not_hello' not_tc' none') = stays

all_once : (settings : RouterSettings) (own : Addr4) (arrival : Arrival) (bytes : List ℕ) (messages : List MessageFields) (spans : List Span) (a b one other : Bases) (sent more : List Frame) (fates others : List Fate) →
    IsOriginator settings own → SoundBases settings arrival.now a → SoundBases settings arrival.now b → AlikeBases a b → TakesMessages settings own arrival bytes a messages spans one sent fates →
    TakesMessages settings own arrival bytes b messages spans other more others → AlikeBases one other × (more ≡ sent)
all_once settings own arrival bytes [] spans a b one other sent more fates others mine sound sound' alike No_messages No_messages = (alike, refl)
all_once settings own arrival bytes (message ∷ messages) [] a b one other sent more fates others mine sound sound' alike takes takes' = elim takes [ ]
all_once settings own arrival bytes (message ∷ messages) (span ∷ spans) a b one other sent more fates others mine sound sound' alike
    (First_message {mid = mid} {sent = first} {more = rest} {fate = fate} {fates = behind} takes takes_rest) (First_message {mid = mid'} {sent = first'} {more = rest'} {fate = fate'} {fates = behind'} takes' takes_rest') =
    let octets = octets_at bytes span in
    let now = message_once settings own arrival a b sound sound' alike message octets mid mid' first first' fate fate' takes takes' in
    let (bases, same) = all_once settings own arrival bytes messages spans mid mid' one other rest rest' behind behind' mine
    (message_sound settings own arrival a message octets mid first fate mine sound takes) (message_sound settings own arrival b message octets mid' first' fate' mine sound' takes') now.bases takes_rest takes_rest' in
    (bases, ap (λ (l : List Frame). l ++ rest') now.same ∙ ap (λ (l : List Frame). first ++ l) same)

pub messages_are_fixed : MessagesAreFixed
messages_are_fixed settings own arrival bytes messages spans a b one other sent more fates others mine sound sound' alike takes takes' =
    all_once settings own arrival bytes messages spans a b one other sent more fates others mine sound sound' alike takes takes'

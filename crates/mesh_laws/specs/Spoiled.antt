-- States and answers with one thing spoiled, which one clause of a definition alone refuses.
use Rattle.std.specs.Prelude.{◌≡◌, ◌≢◌, ℕ, ◌+◌, ◌<◌, ◌≤◌, Contains, Some, None, length, Bool, true, false}
use Rattle.mesh_atoms.specs.declared.addr.Addr4.{Addr4}
use Rattle.mesh_atoms.specs.declared.codes.metric.Metric.{Metric}
use Rattle.mesh_atoms.specs.declared.hello.Hello.{Hello}
use Rattle.mesh_atoms.specs.declared.hello.HelloRow.{HelloRow}
use Rattle.mesh_atoms.specs.declared.tc.Tc.{Tc}
use Rattle.mesh_atoms.specs.declared.tuples.LinkKey.{LinkKey}
use Rattle.mesh_atoms.specs.declared.tuples.RouterKey.{RouterKey}
use Rattle.mesh_atoms.specs.declared.tuples.AddressKey.{AddressKey}
use Rattle.mesh_atoms.specs.declared.tuples.NetworkKey.{NetworkKey}
use Rattle.mesh_atoms.specs.declared.tuples.Advertiser.{Advertiser}
use Rattle.mesh_atoms.specs.declared.tuples.RouterTuple.{RouterTuple}
use Rattle.mesh_atoms.specs.declared.tuples.AddressTuple.{AddressTuple}
use Rattle.mesh_atoms.specs.declared.tuples.NetworkTuple.{NetworkTuple}
use Rattle.mesh_atoms.specs.declared.tuples.TwoHopKey.{TwoHopKey}
use Rattle.mesh_atoms.specs.declared.tuples.Link.{Link}
use Rattle.mesh_atoms.specs.declared.tuples.TwoHop.{TwoHop}
use Rattle.mesh_atoms.specs.declared.tuples.Neighbour.{Neighbour}
use Rattle.mesh_atoms.specs.declared.tuples.Lost.{Lost}
use Rattle.mesh_atoms.specs.declared.tuples.Noted.{Noted}
use Rattle.mesh_atoms.specs.declared.settings.Times.{Times}
use Rattle.mesh_atoms.specs.declared.settings.RouterSettings.{RouterSettings}
use Rattle.mesh_atoms.specs.declared.limits.TheConstants.{MOST_TUPLES}
use Rattle.mesh_atoms.specs.AfterHello.{AfterHello, IsTheirs, IsApart, GoesOn}
use Rattle.mesh_atoms.specs.AfterTc.{AfterTc, GivesRouter, GivesAddress, GivesNetwork}
use Rattle.mesh_atoms.specs.Base.{find, base_of, addr_eq, router_eq, address_eq, network_eq, flood_eq}
use Rattle.mesh_atoms.specs.Codes.Codes.{metric_value}
use Rattle.mesh_atoms.specs.Hello.{Says, Near_in, Link_out}
use Rattle.mesh_atoms.specs.HelloTold.{Told, Tells, two_hop_of}
use Rattle.mesh_atoms.specs.Live.{HasLinkOf, HasSymmetricOf, Restores, IsSymmetricAddress, LiveNeighbourhood}
use Rattle.mesh_atoms.specs.Quality.{quality_at, rule_of}
use Rattle.mesh_atoms.specs.Settled.{IsTwoHopBy}
use Rattle.mesh_atoms.specs.Sound.{SoundNeighbourhood}
use Rattle.mesh_atoms.specs.State.{State, Neighbourhood, TopologyBase, NotedMessages, link_at, lost_at, HasAddress}
use Rattle.mesh_atoms.specs.TakesHello.{TakesHello, Taken, Full_of_two_hops, IsHeld, IsFullOfAddresses, AreTwoHopRows}
use Rattle.mesh_atoms.specs.Words.{IsBeyond}
use Rattle.mesh_flood.specs.declared.verdict.Heading.{Heading}
use Rattle.mesh_flood.specs.declared.verdict.Forward.{Forward}
use Rattle.mesh_flood.specs.Noting.{AfterNote}
use Rattle.mesh_flood.specs.Verdict.{key_of, is_received, is_forwarded}

-- Neighbours as their links have them

-- a neighbour out of nothing
abbrev pub RefusesNeighbourOutOfNothing : Type 0
RefusesNeighbourOutOfNothing = (near : Neighbourhood) (now : ℕ) (e : Neighbour × ℕ) → Restores near now None (Some e) → ⊥

-- a neighbour that goes though it has a link
abbrev pub RefusesNeighbourGone : Type 0
RefusesNeighbourGone =
    (near : Neighbourhood) (now i : ℕ) (e : Neighbour × ℕ) (key : LinkKey) (f : Link × ℕ) → HasLinkOf near e.0.addrs i key f → Restores near now (Some e) None → ⊥

-- a selector flag that stays though the neighbour is symmetric no more
abbrev pub RefusesSelectorKept : Type 0
RefusesSelectorKept =
    (near : Neighbourhood) (now : ℕ) (e f : Neighbour × ℕ) → f.0.symmetric ≡ false → f.0.selector ≡ true → Restores near now (Some e) (Some f) → ⊥

-- a neighbour whose moment is before that of one of its links
abbrev pub RefusesNeighbourTooShort : Type 0
RefusesNeighbourTooShort =
    (near : Neighbourhood) (now i : ℕ) (e f : Neighbour × ℕ) (key : LinkKey) (link : Link) (until : ℕ) →
    HasLinkOf near f.0.addrs i key (link, until) → f.1 < until → Restores near now (Some e) (Some f) → ⊥

-- a neighbour whose moment is after those of all its links
abbrev pub RefusesNeighbourTooLong : Type 0
RefusesNeighbourTooLong =
    (near : Neighbourhood) (now : ℕ) (e f : Neighbour × ℕ) →
    ((i : ℕ) (key : LinkKey) (link : Link) (until : ℕ) → HasLinkOf near f.0.addrs i key (link, until) → until < f.1) →
    Restores near now (Some e) (Some f) → ⊥

-- a neighbour that stays, and has other addresses than before
abbrev pub RefusesOtherAddresses : Type 0
RefusesOtherAddresses = (near : Neighbourhood) (now : ℕ) (e f : Neighbour × ℕ) → f.0.addrs ≢ e.0.addrs → Restores near now (Some e) (Some f) → ⊥

-- a neighbour that stays, and has another willingness than before
abbrev pub RefusesOtherWillingness : Type 0
RefusesOtherWillingness = (near : Neighbourhood) (now : ℕ) (e f : Neighbour × ℕ) → f.0.willing ≢ e.0.willing → Restores near now (Some e) (Some f) → ⊥

-- a selector flag that is cleared though the neighbour stays symmetric
abbrev pub RefusesSelectorCleared : Type 0
RefusesSelectorCleared =
    (near : Neighbourhood) (now : ℕ) (e f : Neighbour × ℕ) →
    e.0.selector ≡ true → f.0.symmetric ≡ true → f.0.selector ≡ false → Restores near now (Some e) (Some f) → ⊥

-- a neighbour that isn't symmetric though it has a SYMMETRIC link
abbrev pub RefusesSymmetricUntold : Type 0
RefusesSymmetricUntold =
    (near : Neighbourhood) (now : ℕ) (e f : Neighbour × ℕ) (link : Link) →
    HasSymmetricOf near now f.0.addrs link → f.0.symmetric ≡ false → Restores near now (Some e) (Some f) → ⊥

-- a neighbour that is symmetric though it has no SYMMETRIC link
abbrev pub RefusesSymmetricOutOfNothing : Type 0
RefusesSymmetricOutOfNothing =
    (near : Neighbourhood) (now : ℕ) (e f : Neighbour × ℕ) →
    ((link : Link) → HasSymmetricOf near now f.0.addrs link → ⊥) → f.0.symmetric ≡ true → Restores near now (Some e) (Some f) → ⊥

-- a neighbour that has not the least in-metric of its SYMMETRIC links
abbrev pub RefusesOtherMetricIn : Type 0
RefusesOtherMetricIn =
    (near : Neighbourhood) (now : ℕ) (e f : Neighbour × ℕ) (link : Link) →
    HasSymmetricOf near now f.0.addrs link → ((l : Link) → HasSymmetricOf near now f.0.addrs l → metric_value link.link_in ≤ metric_value l.link_in) →
    ((m : Metric) → f.0.metric_in ≡ Some m → metric_value m ≢ metric_value link.link_in) → Restores near now (Some e) (Some f) → ⊥

-- a neighbour that has not the least out-metric of its SYMMETRIC links
abbrev pub RefusesOtherMetricOut : Type 0
RefusesOtherMetricOut =
    (near : Neighbourhood) (now : ℕ) (e f : Neighbour × ℕ) (link : Link) (least : Metric) →
    HasSymmetricOf near now f.0.addrs link → link.link_out ≡ Some least →
    ((l : Link) (m : Metric) → HasSymmetricOf near now f.0.addrs l → l.link_out ≡ Some m → metric_value least ≤ metric_value m) →
    ((m : Metric) → f.0.metric_out ≡ Some m → metric_value m ≢ metric_value least) → Restores near now (Some e) (Some f) → ⊥

-- Lost addresses

-- after expiry, an address that is told as lost though it is a symmetric neighbour's
abbrev pub RefusesLostThoughBack : Type 0
RefusesLostThoughBack =
    (settings : RouterSettings) (now : ℕ) (old new : Neighbourhood) (a : Addr4) (e : Lost × ℕ) →
    lost_at new a ≡ Some e → IsSymmetricAddress new a → LiveNeighbourhood settings now old new → ⊥

-- an address that was a symmetric neighbour's and is none's, and is not told as lost
abbrev pub RefusesLossUntold : Type 0
RefusesLossUntold =
    (settings : RouterSettings) (now : ℕ) (old new : Neighbourhood) (a : Addr4) →
    IsSymmetricAddress old a → (IsSymmetricAddress new a → ⊥) → lost_at new a ≡ None → LiveNeighbourhood settings now old new → ⊥

-- an address that was no symmetric neighbour's, and is told as lost out of nothing
abbrev pub RefusesLostOutOfNothing : Type 0
RefusesLostOutOfNothing =
    (settings : RouterSettings) (now : ℕ) (old new : Neighbourhood) (a : Addr4) (e : Lost × ℕ) →
    (IsSymmetricAddress old a → ⊥) → lost_at old a ≡ None → lost_at new a ≡ Some e → LiveNeighbourhood settings now old new → ⊥

-- a new lost tuple that ends at another moment than the hold time says
abbrev pub RefusesLostAtAnotherMoment : Type 0
RefusesLostAtAnotherMoment =
    (settings : RouterSettings) (now : ℕ) (old new : Neighbourhood) (a : Addr4) (e : Lost × ℕ) →
    IsSymmetricAddress old a → lost_at new a ≡ Some e → e.1 ≢ now + settings.times.neighbour_hold → LiveNeighbourhood settings now old new → ⊥

-- a lost tuple that is gone before its moment, though its address was and is no symmetric neighbour's
abbrev pub RefusesLostGone : Type 0
RefusesLostGone =
    (settings : RouterSettings) (now : ℕ) (old new : Neighbourhood) (a : Addr4) (e : Lost × ℕ) →
    (IsSymmetricAddress old a → ⊥) → (IsSymmetricAddress new a → ⊥) → lost_at old a ≡ Some e → now < e.1 → lost_at new a ≡ None →
    LiveNeighbourhood settings now old new → ⊥

-- a lost tuple that stays, and ends at another moment than before, though its address was and is no symmetric neighbour's
abbrev pub RefusesLostMoved : Type 0
RefusesLostMoved =
    (settings : RouterSettings) (now : ℕ) (old new : Neighbourhood) (a : Addr4) (e f : Lost × ℕ) →
    (IsSymmetricAddress old a → ⊥) → (IsSymmetricAddress new a → ⊥) → lost_at old a ≡ Some e → lost_at new a ≡ Some f → f.1 ≢ e.1 →
    LiveNeighbourhood settings now old new → ⊥

-- in a sound neighbourhood, a lost address of a symmetric neighbour
abbrev pub RefusesLostSymmetric : Type 0
RefusesLostSymmetric =
    (settings : RouterSettings) (now : ℕ) (near : Neighbourhood) (a : Addr4) (e : Lost × ℕ) →
    lost_at near a ≡ Some e → IsSymmetricAddress near a → SoundNeighbourhood settings now near → ⊥

-- and one of the router's own
abbrev pub RefusesOwnLost : Type 0
RefusesOwnLost =
    (settings : RouterSettings) (now : ℕ) (near : Neighbourhood) (a : Addr4) (e : Lost × ℕ) →
    lost_at near a ≡ Some e → HasAddress settings a → SoundNeighbourhood settings now near → ⊥

-- Links

-- in a sound neighbourhood, two links of an interface that have an address in common
abbrev pub RefusesLinksTogether : Type 0
RefusesLinksTogether =
    (settings : RouterSettings) (now i : ℕ) (near : Neighbourhood) (k l : LinkKey) (e f : Link × ℕ) (a : Addr4) →
    link_at near i k ≡ Some e → link_at near i l ≡ Some f → Contains e.0.addrs a → Contains f.0.addrs a → k ≢ l → SoundNeighbourhood settings now near → ⊥

-- after a HELLO, a link of another interface that stays, of a neighbour that the HELLO speaks of, with an address that isn't listed
abbrev pub RefusesLinkOfUnlisted : Type 0
RefusesLinkOfUnlisted =
    (settings : RouterSettings) (now i j : ℕ) (told : Told) (hello : Hello) (old new : Neighbourhood) (key : LinkKey) (e f : Link × ℕ) (a : Addr4) →
    j ≢ i → link_at old j key ≡ Some e → link_at new j key ≡ Some f → Contains e.0.addrs a → IsTheirs old told a → IsBeyond e.0.addrs told.listed →
    AfterHello settings now i told hello old new → ⊥

-- after a HELLO, another link of its interface that stays, though it has some of the sending list's addresses
abbrev pub RefusesLinkOfSharedAddress : Type 0
RefusesLinkOfSharedAddress =
    (settings : RouterSettings) (now i : ℕ) (told : Told) (hello : Hello) (old new : Neighbourhood) (key : LinkKey) (e f : Link × ℕ) →
    key ≢ told.least → link_at old i key ≡ Some e → link_at new i key ≡ Some f → (IsApart told.shown.sending e.0 → ⊥) →
    AfterHello settings now i told hello old new → ⊥

-- after a HELLO, a link that is gone though it goes on
abbrev pub RefusesLinkGone : Type 0
RefusesLinkGone =
    (settings : RouterSettings) (now i j : ℕ) (told : Told) (hello : Hello) (old new : Neighbourhood) (key : LinkKey) (e : Link × ℕ) →
    j ≢ i → link_at old j key ≡ Some e → link_at new j key ≡ None → GoesOn old told i j e.0 → AfterHello settings now i told hello old new → ⊥

-- Qualities

-- in a sound neighbourhood, a link whose quality isn't that of the moment
abbrev pub RefusesOtherQuality : Type 0
RefusesOtherQuality =
    (settings : RouterSettings) (now i : ℕ) (near : Neighbourhood) (key : LinkKey) (e : Link × ℕ) →
    link_at near i key ≡ Some e → e.0.quality ≢ quality_at (rule_of settings i) e.0.addrs now → SoundNeighbourhood settings now near → ⊥

-- after expiry, a link that its quality has made lost, and that stays longer than the hold time
abbrev pub RefusesLostLinkKept : Type 0
RefusesLostLinkKept =
    (settings : RouterSettings) (now i : ℕ) (old new : Neighbourhood) (key : LinkKey) (e f : Link × ℕ) →
    link_at old i key ≡ Some e → e.0.pending ≡ false → e.0.lost ≡ false → quality_at (rule_of settings i) e.0.addrs now < (rule_of settings i).reject →
    link_at new i key ≡ Some f → now + settings.times.link_hold < f.1 → LiveNeighbourhood settings now old new → ⊥

-- after a HELLO, a link that is made though its quality isn't accepted, and isn't PENDING
abbrev pub RefusesMadeUnadmitted : Type 0
RefusesMadeUnadmitted =
    (settings : RouterSettings) (now i : ℕ) (told : Told) (hello : Hello) (old new : Neighbourhood) (e : Link × ℕ) →
    link_at old i told.least ≡ None → quality_at (rule_of settings i) told.shown.sending now < (rule_of settings i).accept →
    link_at new i told.least ≡ Some e → e.0.pending ≡ false → AfterHello settings now i told hello old new → ⊥

-- Limits

-- too many addresses where there is one
abbrev pub RefusesFullOfOne : Type 0
RefusesFullOfOne =
    (near : Neighbourhood) (told : Told) → ((a : Addr4) → IsHeld near a → ⊥) → ((a : Addr4) → Contains told.listed a → a ≡ told.originator) →
    IsFullOfAddresses near told → ⊥

-- a HELLO that is taken though its addresses are too many
abbrev pub RefusesTakenThoughFull : Type 0
RefusesTakenThoughFull =
    (settings : RouterSettings) (now i : ℕ) (sender : Addr4) (hello : Hello) (old new : Neighbourhood) →
    ((told : Told) → Tells settings i sender hello told → IsFullOfAddresses old told) → TakesHello settings now i sender hello old new Taken → ⊥

-- a HELLO that is taken though with its rows the 2-hop tuples are more than 16,384
abbrev pub RefusesTakenThoughManyRows : Type 0
RefusesTakenThoughManyRows =
    (settings : RouterSettings) (now i : ℕ) (sender : Addr4) (hello : Hello) (old new : Neighbourhood) →
    ((told : Told) (count : ℕ) → AreTwoHopRows settings told hello count → MOST_TUPLES < length (base_of old.two_hops i) + count) →
    TakesHello settings now i sender hello old new Taken → ⊥

-- a HELLO that is refused for its rows though they are no more
abbrev pub RefusesFullThoughFits : Type 0
RefusesFullThoughFits =
    (settings : RouterSettings) (now i : ℕ) (sender : Addr4) (hello : Hello) (old new : Neighbourhood) →
    ((told : Told) (count : ℕ) → AreTwoHopRows settings told hello count → length (base_of old.two_hops i) + count ≤ MOST_TUPLES) →
    TakesHello settings now i sender hello old new Full_of_two_hops → ⊥

-- Metrics of 2-hop tuples

-- in a settled network, the link's metric though there is the neighbour's
abbrev pub RefusesLinkMetricFirst : Type 0
RefusesLinkMetricFirst =
    (p q : State) (j now : ℕ) (key : TwoHopKey) (t : TwoHop) (m n : Metric) →
    Says q j now key.addr (Near_in m) → ((k : Metric) → Says q j now key.addr (Near_in k) → k ≡ m) → t.metric_in ≡ Some n → n ≢ m →
    IsTwoHopBy p q j now key t → ⊥

-- no metric though there is the link's
abbrev pub RefusesMetricUnsaid : Type 0
RefusesMetricUnsaid =
    (p q : State) (j now : ℕ) (key : TwoHopKey) (t : TwoHop) (m : Metric) →
    Says q j now key.addr (Link_out m) → t.metric_out ≡ None → IsTwoHopBy p q j now key t → ⊥

-- of a row with both metrics, a tuple with the link's
abbrev pub RefusesRowByLinkMetric : Type 0
RefusesRowByLinkMetric = (row : HelloRow) (m n : Metric) → row.metrics.near_in ≡ Some m → n ≢ m → (two_hop_of row).metric_in ≡ Some n → ⊥

-- of a row with the link's metric, a tuple without
abbrev pub RefusesRowWithoutMetric : Type 0
RefusesRowWithoutMetric = (row : HelloRow) (m : Metric) → row.metrics.link_out ≡ Some m → (two_hop_of row).metric_out ≡ None → ⊥

-- TCs

-- after a TC, another number of its originator
abbrev pub RefusesNumberUnnoted : Type 0
RefusesNumberUnnoted =
    (now : ℕ) (tc : Tc) (old new : TopologyBase) (t : Advertiser × ℕ) →
    find addr_eq new.advertisers tc.originator ≡ Some t → t.0.ansn ≢ tc.ansn → AfterTc now tc old new → ⊥

-- after a TC, the number of its originator noted until another moment than the validity says
abbrev pub RefusesNumberAtAnotherMoment : Type 0
RefusesNumberAtAnotherMoment =
    (now : ℕ) (tc : Tc) (old new : TopologyBase) (t : Advertiser × ℕ) →
    find addr_eq new.advertisers tc.originator ≡ Some t → t.1 ≢ now + tc.validity → AfterTc now tc old new → ⊥

-- after a TC, a tuple of an address that a row gives, with a metric or number that isn't the TC's
abbrev pub RefusesGivenOtherwise : Type 0
RefusesGivenOtherwise =
    (now : ℕ) (tc : Tc) (old new : TopologyBase) (key : AddressKey) (m : Metric) (t : AddressTuple × ℕ) →
    GivesAddress tc key m → find address_eq new.addresses key ≡ Some t → (GivesAddress tc key t.0.metric × (t.0.ansn ≡ tc.ansn) → ⊥) →
    AfterTc now tc old new → ⊥

-- after a TC, a tuple of an address that a row gives, until another moment than the validity says
abbrev pub RefusesGivenAtAnotherMoment : Type 0
RefusesGivenAtAnotherMoment =
    (now : ℕ) (tc : Tc) (old new : TopologyBase) (key : AddressKey) (m : Metric) (t : AddressTuple × ℕ) →
    GivesAddress tc key m → find address_eq new.addresses key ≡ Some t → t.1 ≢ now + tc.validity → AfterTc now tc old new → ⊥

-- after a TC, no router tuple as a row gives it
abbrev pub RefusesRouterUntaken : Type 0
RefusesRouterUntaken =
    (now : ℕ) (tc : Tc) (old new : TopologyBase) (key : RouterKey) (m : Metric) →
    GivesRouter tc key m → ((k : Metric) → GivesRouter tc key k → k ≡ m) →
    find router_eq new.routers key ≢ Some (record { ansn = tc.ansn; metric = m }, now + tc.validity) → AfterTc now tc old new → ⊥

-- after a TC, no network tuple as a row gives it
abbrev pub RefusesNetworkUntaken : Type 0
RefusesNetworkUntaken =
    (now : ℕ) (tc : Tc) (old new : TopologyBase) (key : NetworkKey) (distance : ℕ) (m : Metric) →
    GivesNetwork tc key distance m → ((d : ℕ) (k : Metric) → GivesNetwork tc key d k → (d ≡ distance) × (k ≡ m)) →
    find network_eq new.networks key ≢ Some (record { ansn = tc.ansn; distance = distance; metric = m }, now + tc.validity) →
    AfterTc now tc old new → ⊥

-- after a complete TC, a router tuple of its originator with another number
abbrev pub RefusesRouterOfOldNumber : Type 0
RefusesRouterOfOldNumber =
    (now : ℕ) (tc : Tc) (old new : TopologyBase) (key : RouterKey) (t : RouterTuple × ℕ) →
    tc.complete ≡ true → key.from ≡ tc.originator → find router_eq new.routers key ≡ Some t → t.0.ansn ≢ tc.ansn → AfterTc now tc old new → ⊥

-- and a network tuple
abbrev pub RefusesNetworkOfOldNumber : Type 0
RefusesNetworkOfOldNumber =
    (now : ℕ) (tc : Tc) (old new : TopologyBase) (key : NetworkKey) (t : NetworkTuple × ℕ) →
    tc.complete ≡ true → key.from ≡ tc.originator → find network_eq new.networks key ≡ Some t → t.0.ansn ≢ tc.ansn → AfterTc now tc old new → ⊥

-- after a TC that isn't complete, a tuple gone
abbrev pub RefusesTupleGoneByPart : Type 0
RefusesTupleGoneByPart =
    (now : ℕ) (tc : Tc) (old new : TopologyBase) (key : AddressKey) (t : AddressTuple × ℕ) →
    tc.complete ≡ false → find address_eq old.addresses key ≡ Some t → find address_eq new.addresses key ≡ None → AfterTc now tc old new → ⊥

-- after a TC, a tuple of another originator gone
abbrev pub RefusesTupleGoneOfAnother : Type 0
RefusesTupleGoneOfAnother =
    (now : ℕ) (tc : Tc) (old new : TopologyBase) (key : AddressKey) (t : AddressTuple × ℕ) →
    key.from ≢ tc.originator → find address_eq old.addresses key ≡ Some t → find address_eq new.addresses key ≡ None → AfterTc now tc old new → ⊥

-- Messages

-- of a message that is processed, nothing is noted as processed
abbrev pub RefusesProcessedUnnoted : Type 0
RefusesProcessedUnnoted =
    (times : Times) (now i : ℕ) (heading : Heading) (answer : Forward) (old new : NotedMessages) →
    find flood_eq new.processed (key_of heading) ≡ None → AfterNote times now i heading true answer old new → ⊥

-- a message that isn't processed, and is noted as processed
abbrev pub RefusesProcessedOutOfNothing : Type 0
RefusesProcessedOutOfNothing =
    (times : Times) (now i : ℕ) (heading : Heading) (answer : Forward) (old new : NotedMessages) (e : Noted × ℕ) →
    find flood_eq old.processed (key_of heading) ≡ None → find flood_eq new.processed (key_of heading) ≡ Some e →
    AfterNote times now i heading false answer old new → ⊥

-- a message that is processed, and noted so until another moment than the hold time says
abbrev pub RefusesProcessedAtAnotherMoment : Type 0
RefusesProcessedAtAnotherMoment =
    (times : Times) (now i : ℕ) (heading : Heading) (answer : Forward) (old new : NotedMessages) (e : Noted × ℕ) →
    find flood_eq new.processed (key_of heading) ≡ Some e → e.1 ≢ now + times.processed_hold → AfterNote times now i heading true answer old new → ⊥

-- a message whose answer comes before the received set is asked, and that is noted as received
abbrev pub RefusesReceivedOutOfNothing : Type 0
RefusesReceivedOutOfNothing =
    (times : Times) (now i : ℕ) (heading : Heading) (is_processed : Bool) (answer : Forward) (old new : NotedMessages) (e : Noted × ℕ) →
    is_received answer ≡ false → find flood_eq (base_of old.received i) (key_of heading) ≡ None →
    find flood_eq (base_of new.received i) (key_of heading) ≡ Some e →
    AfterNote times now i heading is_processed answer old new → ⊥

-- a message that is noted as received until another moment than the hold time says
abbrev pub RefusesReceivedAtAnotherMoment : Type 0
RefusesReceivedAtAnotherMoment =
    (times : Times) (now i : ℕ) (heading : Heading) (is_processed : Bool) (answer : Forward) (old new : NotedMessages) (e : Noted × ℕ) →
    is_received answer ≡ true → find flood_eq (base_of new.received i) (key_of heading) ≡ Some e → e.1 ≢ now + times.received_hold →
    AfterNote times now i heading is_processed answer old new → ⊥

-- a message that is noted as received over an interface that it didn't come by
abbrev pub RefusesReceivedElsewhere : Type 0
RefusesReceivedElsewhere =
    (times : Times) (now i j : ℕ) (heading : Heading) (is_processed : Bool) (answer : Forward) (old new : NotedMessages) (e : Noted × ℕ) →
    j ≢ i → find flood_eq (base_of old.received j) (key_of heading) ≡ None → find flood_eq (base_of new.received j) (key_of heading) ≡ Some e →
    AfterNote times now i heading is_processed answer old new → ⊥

-- a message that isn't forwarded, and is noted as forwarded
abbrev pub RefusesForwardedUnsent : Type 0
RefusesForwardedUnsent =
    (times : Times) (now i : ℕ) (heading : Heading) (is_processed : Bool) (answer : Forward) (old new : NotedMessages) (e : Noted × ℕ) →
    is_forwarded answer ≡ false → find flood_eq old.forwarded (key_of heading) ≡ None → find flood_eq new.forwarded (key_of heading) ≡ Some e →
    AfterNote times now i heading is_processed answer old new → ⊥

-- a message that is forwarded, and noted so until another moment than the hold time says
abbrev pub RefusesForwardedAtAnotherMoment : Type 0
RefusesForwardedAtAnotherMoment =
    (times : Times) (now i : ℕ) (heading : Heading) (is_processed : Bool) (answer : Forward) (old new : NotedMessages) (e : Noted × ℕ) →
    is_forwarded answer ≡ true → find flood_eq new.forwarded (key_of heading) ≡ Some e → e.1 ≢ now + times.forwarded_hold →
    AfterNote times now i heading is_processed answer old new → ⊥

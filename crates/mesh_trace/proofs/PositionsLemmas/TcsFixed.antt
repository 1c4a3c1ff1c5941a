-- What is made of a flooded message and of a TC is fixed but for the order of tuples.
use Rattle.mesh_trace.proofs.Common.{common_steps, ◌≡◌, ◌≢◌, ◌⊎◌, ℕ, ◌+◌, inl, inr, refl, sym, ◌∙◌, ap, subst, arith, List, length, Option, Some, None, Contains, Bool, cond, nat_le, nat_lt, not, count_by, ◌&&◌, if◌then◌else◌, is_some, IsEquivalence, AllPairs, cases_lt, Addr4, NetAddr, Metric, RouterSettings, Tc, TcRow, LinkKey, Link, GivesRouter, GivesAddress, GivesNetwork, if_not_dropped, Becomes, Given, Left, AfterTc, IsOld, first_overfull, TcAnswer, Too_old, Full_of, TakesTc, Is_old, Base, HasDistinctKeys, Same, find, base_of, host, addr_eq, flood_eq, IsBefore, SoundNeighbourhood, SoundTopology, SoundNoted, Neighbourhood, TopologyBase, NotedMessages, Bases, link_at, addr_equiv, router_equiv, address_equiv, network_equiv, Heading, Forward, key_of, process_of, forward_of, if_noted, if_linked, has_no_hops, is_received, is_forwarded, Arrival, Frame, ConsidersForwarding, forwarding, one_row, AlikeNear, AlikeTopology, AlikeNoted}
use Rattle.mesh_atoms.specs.declared.settings.Times.{Times}
use Rattle.mesh_atoms.specs.declared.tuples.Advertiser.{Advertiser}
use Rattle.mesh_atoms.specs.declared.tuples.AddressKey.{AddressKey}
use Rattle.mesh_atoms.specs.declared.tuples.AddressTuple.{AddressTuple}
use Rattle.mesh_atoms.specs.declared.tuples.Base.{Base as Kind}
use Rattle.mesh_atoms.specs.declared.tuples.Base.TheVariants.{Advertisers, Routers, Addresses, Networks, Received, Forwarded}
use Rattle.mesh_atoms.specs.declared.tuples.FloodKey.{FloodKey}
use Rattle.mesh_atoms.specs.declared.tuples.NetworkKey.{NetworkKey}
use Rattle.mesh_atoms.specs.declared.tuples.NetworkTuple.{NetworkTuple}
use Rattle.mesh_atoms.specs.declared.tuples.Noted.{Noted}
use Rattle.mesh_atoms.specs.declared.tuples.RouterKey.{RouterKey}
use Rattle.mesh_atoms.specs.declared.tuples.RouterTuple.{RouterTuple}
use Rattle.mesh_atoms.specs.AfterTc.{Overfull, Takes}
use Rattle.mesh_texts.specs.machine.flood.declared.verdict.Forward.TheVariants as forward
use Rattle.mesh_texts.specs.machine.flood.Noting.{Notes, AfterNote}
use Rattle.mesh_texts.specs.machine.links.Links.{IsSymmetricWith, SelectorOf, Linked, Unlinked}
use Rattle.mesh_texts.proofs.machine.Tables.{flood_equiv}
use Rattle.mesh_texts.proofs.machine.nhdp.Limits.{no_more}

-- tables that say the same have the same number of tuples
pub same_size : {K V : Type 0} {eq : K → K → Bool} → IsEquivalence eq → (a b : Base K V) → HasDistinctKeys eq a → HasDistinctKeys eq b → Same eq a b → length b ≡ length a
same_size laws a b one other alike =
    let up = no_more laws b a other (λ key e at. (e, sym (alike key) ∙ at)) in
    let down = no_more laws a b one (λ key e at. (e, alike key ∙ at)) in
    omega (arith, up, down)

-- ---- flooding

abbrev forwarded_by : Addr4 → Heading → Option Bool → Option (Noted × ℕ) → ℕ → Option (Noted × ℕ) → ℕ → Forward
forwarded_by own heading link received most forwarded many =
    if addr_eq heading.originator own then forward.Own else
    if_linked link (λ selector.
    if has_no_hops heading then forward.NoHops else
    if_noted received (λ until. forward.Seen until)
    (if nat_le 16384 most then forward.Full Received else
    if_noted forwarded (λ until. forward.Done until)
    (if not selector then forward.NotSelector else
    if nat_le 16384 many then forward.Full Forwarded else forward.Do)))

module _ (settings : RouterSettings) (now : ℕ) (a b : NotedMessages) (sound : SoundNoted settings now a) (sound' : SoundNoted settings now b) (alike : AlikeNoted a b) where
  pub process_once : (own : Addr4) (heading : Heading) → process_of own heading b ≡ process_of own heading a
  process_once own heading = grind (arith, common_steps, length, same_size, flood_equiv)

  pub forward_once : (i : ℕ) (own : Addr4) (heading : Heading) (link : Option Bool) → forward_of i own heading link b ≡ forward_of i own heading link a
  forward_once i own heading link =
      let key = key_of heading in
      let received = same_size flood_equiv (base_of a.received i) (base_of b.received i) (sound.received i).distinct (sound'.received i).distinct (alike.received i) in
      let forwarded = same_size flood_equiv a.forwarded b.forwarded sound.forwarded.distinct sound'.forwarded.distinct alike.forwarded in
      ap (λ (e : Option (Noted × ℕ)). forwarded_by own heading link e (length (base_of b.received i)) (find flood_eq b.forwarded key) (length b.forwarded)) (alike.received i key)
      ∙ (ap (λ (n : ℕ). forwarded_by own heading link (find flood_eq (base_of a.received i) key) n (find flood_eq b.forwarded key) (length b.forwarded)) received
      ∙ (ap (λ (e : Option (Noted × ℕ)). forwarded_by own heading link (find flood_eq (base_of a.received i) key) (length (base_of a.received i)) e (length b.forwarded)) (alike.forwarded key)
      ∙ ap (λ (n : ℕ). forwarded_by own heading link (find flood_eq (base_of a.received i) key) (length (base_of a.received i)) (find flood_eq a.forwarded key) n) forwarded))

notes_once : (noted : Bool) (key : FloodKey) (until : ℕ) (a b a' b' : Base FloodKey Noted) → Same flood_eq a b → Notes noted key until a a' → Notes noted key until b b' → Same flood_eq a' b'
notes_once noted key until a b a' b' alike h k = grind (arith, common_steps)

pub same_or_other : (i j : ℕ) → (j ≡ i) ⊎ (j ≢ i)
same_or_other i j = grind (arith, common_steps, cases_lt)

after_note_once : (times : Times) (now i : ℕ) (heading : Heading) (processed : Bool) (answer : Forward) (a b a' b' : NotedMessages) → AlikeNoted a b →
    AfterNote times now i heading processed answer a a' → AfterNote times now i heading processed answer b b' → AlikeNoted a' b'
after_note_once times now i heading processed answer a b a' b' alike h k = record {
  interfaces = k.interfaces ∙ (alike.interfaces ∙ sym h.interfaces);
  received = λ j. by j (same_or_other i j);
  processed = notes_once processed (key_of heading) (now + times.processed_hold) a.processed b.processed a'.processed b'.processed alike.processed h.processed k.processed;
  forwarded = notes_once (is_forwarded answer) (key_of heading) (now + times.forwarded_hold) a.forwarded b.forwarded a'.forwarded b'.forwarded alike.forwarded h.forwarded k.forwarded;
}
  where
    by : (j : ℕ) → (j ≡ i) ⊎ (j ≢ i) → Same flood_eq (base_of a'.received j) (base_of b'.received j)
    by j (inl here) =
        subst (λ (n : ℕ). Same flood_eq (base_of a'.received n) (base_of b'.received n)) (sym here)
        (notes_once (is_received answer) (key_of heading) (now + times.received_hold) (base_of a.received i) (base_of b.received i) (base_of a'.received i) (base_of b'.received i) (alike.received i) h.received k.received)
    by j (inr there) = λ q. k.others j there q ∙ (alike.received j q ∙ sym (h.others j there q))

-- the link that has the sender's address
abbrev link_or : Link → Option (Link × ℕ) → Link
link_or d None = d
link_or d (Some e) = e.0

symmetric_with : (a b : Neighbourhood) → AlikeNear a b → (i now : ℕ) (x : Addr4) (link : Link) → IsSymmetricWith (base_of a.links i) now x link → IsSymmetricWith (base_of b.links i) now x link
symmetric_with a b alike i now x link (key, until, at, among, symmetric) = (key, until, alike.links i key ∙ at, among, symmetric)

with_once : (settings : RouterSettings) (at now : ℕ) (a : Neighbourhood) → SoundNeighbourhood settings at a → (i : ℕ) (x : Addr4) (one other : Link) → IsSymmetricWith (base_of a.links i) now x one → IsSymmetricWith (base_of a.links i) now x other →
    one ≡ other
with_once settings at now a sound i x one other (key, until, stands, among, symmetric) (key', until', stands', among', symmetric') =
    let keys : key ≡ key' = sound.links_apart i key key' (one, until) (other, until') x stands stands' among among' in
    let both : Some (one, until) ≡ Some (other, until') = sym stands ∙ (ap (λ (k : LinkKey). link_at a i k) keys ∙ stands') in
    ap (link_or one) both

selector_once : (settings : RouterSettings) (at now : ℕ) (a b : Neighbourhood) → SoundNeighbourhood settings at a → AlikeNear a b → AlikeNear b a → (i : ℕ) (x : Addr4) (one other : Option Bool) →
    SelectorOf (base_of a.links i) now x one → SelectorOf (base_of b.links i) now x other → other ≡ one
selector_once settings at now a b sound alike back i x one other (Linked link is) (Linked link' is') =
    ap (λ (l : Link). Some l.selector) (with_once settings at now a sound i x link' link (symmetric_with b a back i now x link' is') is)
selector_once settings at now a b sound alike back i x one other (Linked link is) (Unlinked none) = absurd (none link (symmetric_with a b alike i now x link is))
selector_once settings at now a b sound alike back i x one other (Unlinked none) (Linked link is) = absurd (none link (symmetric_with b a back i now x link is))
selector_once settings at now a b sound alike back i x one other (Unlinked none) (Unlinked none') = refl

-- a message that is considered for forwarding
pub record ForwardOnce (one other : NotedMessages) (sent more : List Frame) : Type 0 where
  pub noted : AlikeNoted one other
  pub same : more ≡ sent

pub considers_once : (settings : RouterSettings) (own : Addr4) (arrival : Arrival) (heading : Heading) (octets : List ℕ) (is_done : Bool) (a b : Bases) (noted noted' : NotedMessages) (sent sent' : List Frame) (answer answer' : Forward) →
    SoundNeighbourhood settings arrival.now a.neighbourhood → SoundNoted settings arrival.now a.noted → SoundNoted settings arrival.now b.noted → AlikeNear a.neighbourhood b.neighbourhood → AlikeNear b.neighbourhood a.neighbourhood → AlikeNoted a.noted b.noted →
    ConsidersForwarding settings own arrival heading octets is_done a noted sent answer → ConsidersForwarding settings own arrival heading octets is_done b noted' sent' answer' → ForwardOnce noted noted' sent sent'
considers_once settings own arrival heading octets is_done a b noted noted' sent sent' answer answer' near sound sound' alike back alike_noted h k =
    let link : k.link ≡ h.link = selector_once settings arrival.now arrival.now a.neighbourhood b.neighbourhood near alike back arrival.iface arrival.sender h.link k.link h.selector k.selector in
    let answers : answer' ≡ answer =
    k.answered ∙ (ap (λ (l : Option Bool). forward_of arrival.iface own heading l b.noted) link
    ∙ (forward_once settings arrival.now a.noted b.noted sound sound' alike_noted arrival.iface own heading h.link ∙ sym h.answered)) in
    record {
      noted = after_note_once settings.times arrival.now arrival.iface heading is_done answer a.noted b.noted noted noted' alike_noted h.notes
          (subst (λ (f : Forward). AfterNote settings.times arrival.now arrival.iface heading is_done f b.noted noted') answers k.notes);
      same = k.sends ∙ (ap (λ (f : Forward). forwarding (length settings.interfaces) octets f) answers ∙ sym h.sends);
    }

-- ---- TCs

abbrev overfull_by : Tc → ℕ → ℕ → ℕ → ℕ → Option Kind
overfull_by tc advertisers routers addresses networks =
    cond (nat_lt 16384 (advertisers + 1)) (Some Advertisers)
    (cond (nat_lt 16384 (routers + count_by (λ row. row.origin && is_some row.metric) tc.rows)) (Some Routers)
    (cond (nat_lt 16384 (addresses + count_by (λ row. row.routable && is_some row.metric) tc.rows)) (Some Addresses)
    (cond (nat_lt 16384 (networks + count_by (λ row. is_some row.gateway && is_some row.metric) tc.rows)) (Some Networks) None)))

becomes_once : {K V : Type 0} (tc : Tc) (until : ℕ) (from : K → Addr4) (number : V → ℕ) (Given_by : K → V → Type 0) (key : K) (stood stood' new new' : Option (V × ℕ)) → ((v w : V) → Given_by key v → Given_by key w → v ≡ w) →
    stood' ≡ stood → Becomes tc until from number Given_by key stood new → Becomes tc until from number Given_by key stood' new' → new' ≡ new
becomes_once {K} {V} tc until from number Given_by key stood stood' new new' only same (Given v g e) (Given w g' e') = e' ∙ (ap (λ (x : V). Some (x, until)) (only w v g' g) ∙ sym e)
becomes_once tc until from number Given_by key stood stood' new new' only same (Given v g e) (Left none e') = absurd (none v g)
becomes_once tc until from number Given_by key stood stood' new new' only same (Left none e) (Given v g e') = absurd (none v g)
becomes_once {K} {V} tc until from number Given_by key stood stood' new new' only same (Left none e) (Left none' e') = e' ∙ (ap (λ (x : Option (V × ℕ)). if_not_dropped tc (from key) number x) same ∙ sym e)

module _ (now : ℕ) (tc : Tc) (ordered : AllPairs (λ (r : TcRow) (t : TcRow). IsBefore r.dest t.dest) tc.rows) where
  row_once : (net : NetAddr) (r t : TcRow) → Contains tc.rows r → Contains tc.rows t → r.dest ≡ net → t.dest ≡ net → r ≡ t
  row_once net r t has has' at at' = one_row (λ (x : TcRow). x.dest) tc.rows ordered r t has has' (at ∙ sym at')

  metric_once : (r t : TcRow) (m n : Metric) → r ≡ t → r.metric ≡ Some m → t.metric ≡ Some n → m ≡ n
  metric_once r t m n same is is' = let both : Some m ≡ Some n = sym is ∙ (ap (λ (x : TcRow). x.metric) same ∙ is') in cc

  router_once : (key : RouterKey) (x y : RouterTuple) → GivesRouter tc key x.metric × (x.ansn ≡ tc.ansn) → GivesRouter tc key y.metric × (y.ansn ≡ tc.ansn) → x ≡ y
  router_once key x y ((from, r, has, at, origin, metric), ansn) ((from', t, has', at', origin', metric'), ansn') =
      let metrics = metric_once r t x.metric y.metric (row_once (host key.to) r t has has' at at') metric metric' in
      ap (λ (n : ℕ). let z : RouterTuple = record { ansn = n; metric = x.metric } in z) (ansn ∙ sym ansn') ∙ ap (λ (m : Metric). let z : RouterTuple = record { ansn = y.ansn; metric = m } in z) metrics

  address_once : (key : AddressKey) (x y : AddressTuple) → GivesAddress tc key x.metric × (x.ansn ≡ tc.ansn) → GivesAddress tc key y.metric × (y.ansn ≡ tc.ansn) → x ≡ y
  address_once key x y ((from, r, has, at, origin, metric), ansn) ((from', t, has', at', origin', metric'), ansn') =
      let metrics = metric_once r t x.metric y.metric (row_once (host key.addr) r t has has' at at') metric metric' in
      ap (λ (n : ℕ). let z : AddressTuple = record { ansn = n; metric = x.metric } in z) (ansn ∙ sym ansn') ∙ ap (λ (m : Metric). let z : AddressTuple = record { ansn = y.ansn; metric = m } in z) metrics

  network_once : (key : NetworkKey) (x y : NetworkTuple) → GivesNetwork tc key x.distance x.metric × (x.ansn ≡ tc.ansn) → GivesNetwork tc key y.distance y.metric × (y.ansn ≡ tc.ansn) → x ≡ y
  network_once key x y ((from, r, has, at, gateway, metric), ansn) ((from', t, has', at', gateway', metric'), ansn') =
      let same = row_once key.net r t has has' at at' in
      let metrics = metric_once r t x.metric y.metric same metric metric' in
      let both : Some x.distance ≡ Some y.distance = sym gateway ∙ (ap (λ (z : TcRow). z.gateway) same ∙ gateway') in
      let distances : x.distance ≡ y.distance = cc in
      ap (λ (n : ℕ). let z : NetworkTuple = record { ansn = n; distance = x.distance; metric = x.metric } in z) (ansn ∙ sym ansn')
      ∙ (ap (λ (d : ℕ). let z : NetworkTuple = record { ansn = y.ansn; distance = d; metric = x.metric } in z) distances
      ∙ ap (λ (m : Metric). let z : NetworkTuple = record { ansn = y.ansn; distance = y.distance; metric = m } in z) metrics)

  after_tc_once : (a b a' b' : TopologyBase) → AlikeTopology a b → AfterTc now tc a a' → AfterTc now tc b b' → AlikeTopology a' b'
  after_tc_once a b a' b' alike h k = record {
    advertisers = λ o. k.advertisers o ∙ (ap (λ (e : Option (Advertiser × ℕ)). cond (addr_eq tc.originator o) (Some (record { ansn = tc.ansn }, now + tc.validity)) e) (alike.advertisers o) ∙ sym (h.advertisers o));
    routers = λ key. becomes_once tc (now + tc.validity) (λ (q : RouterKey). q.from) (λ (t : RouterTuple). t.ansn) (λ (q : RouterKey) (t : RouterTuple). GivesRouter tc q t.metric × (t.ansn ≡ tc.ansn)) key
        _ _ _ _ (router_once key) (alike.routers key) (h.routers.at key) (k.routers.at key);
    addresses = λ key. becomes_once tc (now + tc.validity) (λ (q : AddressKey). q.from) (λ (t : AddressTuple). t.ansn) (λ (q : AddressKey) (t : AddressTuple). GivesAddress tc q t.metric × (t.ansn ≡ tc.ansn)) key
        _ _ _ _ (address_once key) (alike.addresses key) (h.addresses.at key) (k.addresses.at key);
    networks = λ key. becomes_once tc (now + tc.validity) (λ (q : NetworkKey). q.from) (λ (t : NetworkTuple). t.ansn) (λ (q : NetworkKey) (t : NetworkTuple). GivesNetwork tc q t.distance t.metric × (t.ansn ≡ tc.ansn)) key
        _ _ _ _ (network_once key) (alike.networks key) (h.networks.at key) (k.networks.at key);
  }

  old_by : (a b : TopologyBase) → AlikeTopology a b → (kept : ℕ) → IsOld a tc kept → IsOld b tc kept
  old_by a b alike kept (e, at, is, newer) = (e, alike.advertisers tc.originator ∙ at, is, newer)

  old_once : (a : TopologyBase) (one other : ℕ) → IsOld a tc one → IsOld a tc other → one ≡ other
  old_once a one other h3 h4 = grind (arith, common_steps)

  module _ (settings : RouterSettings) (a b : TopologyBase) (sound : SoundTopology settings now a) (sound' : SoundTopology settings now b) (alike : AlikeTopology a b) (back : AlikeTopology b a) where
    overfull_once : first_overfull b tc ≡ first_overfull a tc
    overfull_once =
        let p = same_size addr_equiv a.advertisers b.advertisers sound.advertisers.distinct sound'.advertisers.distinct alike.advertisers in
        let q = same_size router_equiv a.routers b.routers sound.routers.distinct sound'.routers.distinct alike.routers in
        let r = same_size address_equiv a.addresses b.addresses sound.addresses.distinct sound'.addresses.distinct alike.addresses in
        let s = same_size network_equiv a.networks b.networks sound.networks.distinct sound'.networks.distinct alike.networks in
        ap (λ (n : ℕ). overfull_by tc n (length b.routers) (length b.addresses) (length b.networks)) p
        ∙ (ap (λ (n : ℕ). overfull_by tc (length a.advertisers) n (length b.addresses) (length b.networks)) q
        ∙ (ap (λ (n : ℕ). overfull_by tc (length a.advertisers) (length a.routers) n (length b.networks)) r
        ∙ ap (λ (n : ℕ). overfull_by tc (length a.advertisers) (length a.routers) (length a.addresses) n) s))

    pub takes_tc_once : (a' b' : TopologyBase) (one other : TcAnswer) → TakesTc now tc a a' one → TakesTc now tc b b' other → AlikeTopology a' b' × (other ≡ one)
    takes_tc_once a' b' one other (Is_old kept old) (Is_old kept' old') = (alike, ap (λ (n : ℕ). Too_old n) (old_once a kept' kept (old_by b a back kept' old') old))
    takes_tc_once a' b' one other (Is_old kept old) (Overfull kind young full) = absurd (young kept (old_by a b alike kept old))
    takes_tc_once a' b' one other (Is_old kept old) (Takes young few after) = absurd (young kept (old_by a b alike kept old))
    takes_tc_once a' b' one other (Overfull kind young full) (Is_old kept old) = absurd (young kept (old_by b a back kept old))
    takes_tc_once a' b' one other (Overfull kind young full) (Overfull kind' young' full') =
        let both : Some kind' ≡ Some kind = sym full' ∙ (overfull_once ∙ full) in
        let same : kind' ≡ kind = cc in
        (alike, ap (λ (k : Kind). Full_of k) same)
    takes_tc_once a' b' one other (Overfull kind young full) (Takes young' few after) = absurd (let no : None ≡ Some kind = sym few ∙ (overfull_once ∙ full) in cc)
    takes_tc_once a' b' one other (Takes young few after) (Is_old kept old) = absurd (young kept (old_by b a back kept old))
    takes_tc_once a' b' one other (Takes young few after) (Overfull kind young' full) = absurd (let no : None ≡ Some kind = sym few ∙ (sym overfull_once ∙ full) in cc)
    takes_tc_once a' b' one other (Takes young few after) (Takes young' few' after') = (after_tc_once a b a' b' alike after after', refl)

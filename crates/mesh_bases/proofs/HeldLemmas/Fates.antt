-- What a message comes to, put together from what each call says.
use Rattle.mesh_bases.proofs.Common.{common_steps, ◌≡◌, ◌≢◌, ◌++◌, ℕ, List, [], Bool, false, Option, Some, ◌⊎◌, inl, inr, ◌<◌, arith, sym, subst, ap, ◌∙◌, IsTrue, slice_index, cases_lt, Addr4, NetAddr, Hello, RouterSettings, base_of, Neighbourhood, TopologyBase, NotedMessages, Bases, MessageFields, SpellsMessage, BreaksTc, ShortPrefix, Arrival, Fate, Frame, ReadsTc, Taken_in, Passed_by, kept_fates, IsReadAsBroken, Hello_breaks, Tc_breaks, ConsidersForwarding, only, hello_read, other_read, IsHeading, ProcessesTc, Tc_taken, Tc_passed, TakesMessage, Hello_read, Hello_broken, Tc_broken, Other_passed}
use Rattle.mesh_atoms.specs.declared.tc.Tc.{Tc}
use Rattle.mesh_atoms.specs.TakesHello.{HelloAnswer, TakesHello}
use Rattle.mesh_wire.specs.Hello.{HelloIs}
use Rattle.mesh_wire.specs.HelloRules.{BreaksHello}
use Rattle.mesh_wire.specs.Rehop.{HasHop}
use Rattle.mesh_wire.specs.Rules.{Keeps}
use Rattle.mesh_atoms.specs.declared.tlv_type.TheConstants.{NBR_ADDR_TYPE}
use Rattle.mesh_wire.specs.Rows.{HasType, SaysFlag}
use Rattle.mesh_wire.specs.Tc.{TcIs}
use Rattle.mesh_topo.specs.Tuples.{HasHosts}
use Rattle.mesh_flood.specs.declared.verdict.Heading.{Heading}
use Rattle.mesh_flood.specs.declared.verdict.Process.{Process}
use Rattle.mesh_flood.specs.declared.verdict.Forward.{Forward}
use Rattle.mesh_flood.specs.declared.verdict.Forward.TheVariants as forward
use Rattle.mesh_flood.specs.Verdict.{process_of, forward_of}
use Rattle.mesh_machine.specs.declared.fate.Read.{Read}
use Rattle.mesh_machine.specs.declared.fate.Read.TheVariants as read
use Rattle.mesh_machine.proofs.Hops.{forwarded_hop}

module _ (settings : RouterSettings) (own : Addr4) (arrival : Arrival) (old : Bases) (message : MessageFields) (octets : List ℕ) where
  pub hello_taken : (near : Neighbourhood) (hello : Hello) (answer : HelloAnswer) (r : Read) → message.kind ≡ 0 → Keeps (BreaksHello message) → HelloIs message hello →
      TakesHello settings arrival.now arrival.iface arrival.sender hello old.neighbourhood near answer → r ≡ hello_read answer →
      TakesMessage settings own arrival old message octets (record old { neighbourhood = near }) [] (only r)
  hello_taken near hello answer r kind keeps reads takes is =
      subst (λ (x : Read). TakesMessage settings own arrival old message octets (record old { neighbourhood = near }) [] (only x)) (sym is) (Hello_read hello kind keeps reads takes)

  -- a message that breaks a rule changes nothing
  pub breaks : {number : ℕ} → IsReadAsBroken message number → TakesMessage settings own arrival old message octets old [] (only (read.Broken number))
  breaks (Hello_breaks net kind first) = Hello_broken net kind first
  breaks (Tc_breaks net kind first) = Tc_broken net kind first

  pub other_taken : (heading : Heading) (noted : NotedMessages) (sent : List Frame) (onward : Forward) (p : Process) (r : Read) → message.kind ≢ 0 → message.kind ≢ 1 → IsHeading message heading →
      ConsidersForwarding settings own arrival heading octets false old noted sent onward → p ≡ process_of own heading old.noted → r ≡ other_read p →
      TakesMessage settings own arrival old message octets (record old { noted = noted }) sent (record { read = r; forward = onward })
  other_taken heading noted sent onward p r no_hello no_tc is considered p_is r_is =
      let same : r ≡ other_read (process_of own heading old.noted) = r_is ∙ ap (λ (q : Process). other_read q) p_is in
      subst (λ (x : Read). TakesMessage settings own arrival old message octets (record old { noted = noted }) sent (record { read = x; forward = onward })) (sym same) (Other_passed heading no_hello no_tc is considered)

-- a message that is sent on has a hop left
pub spelled_hop : (octets : List ℕ) (heading : Heading) (iface : ℕ) (own : Addr4) (link : Option Bool) (noted : NotedMessages) (answer : Forward) → ((i : ℕ) → slice_index octets i < 256) →
    (message : MessageFields) × SpellsMessage message octets × IsHeading message heading → answer ≡ forward_of iface own heading link noted → answer ≡ forward.Do →
    (message : MessageFields) × SpellsMessage message octets × HasHop message
spelled_hop octets heading iface own link noted answer bytes (message, spells, is) answered does =
    (message, spells, forwarded_hop message octets heading own link (base_of noted.received iface) noted.forwarded spells bytes is (sym answered ∙ does))

module _ (settings : RouterSettings) (own : Addr4) (arrival : Arrival) (old : Bases) (tc : Tc) (heading : Heading) (octets : List ℕ) (topology : TopologyBase) (noted : NotedMessages) (sent : List Frame) (onward : Forward) (made : Read) (done : Bool) where
  pub tc_processed : (does : Process) → does ≡ process_of own heading old.noted → ReadsTc arrival.now tc does old.topology topology made done →
      ConsidersForwarding settings own arrival heading octets done old noted sent onward →
      ProcessesTc settings own arrival old tc heading octets (record old { topology = topology; noted = noted }) sent (record { read = made; forward = onward })
  tc_processed does judged (Taken_in answer is takes made_is done_is) considered =
      subst (λ (x : Read). ProcessesTc settings own arrival old tc heading octets (record old { topology = topology; noted = noted }) sent (record { read = x; forward = onward })) (sym made_is)
      (Tc_taken (sym judged ∙ is) takes (subst (λ (b : Bool). ConsidersForwarding settings own arrival heading octets b old noted sent onward) done_is considered))
  tc_processed does judged (Passed_by not same made_is done_is) considered =
      subst (λ (t : TopologyBase). ProcessesTc settings own arrival old tc heading octets (record old { topology = t; noted = noted }) sent (record { read = made; forward = onward })) (sym same)
      (subst (λ (x : Read). ProcessesTc settings own arrival old tc heading octets (record old { noted = noted }) sent (record { read = x; forward = onward })) (sym (made_is ∙ ap (λ (p : Process). read.Passed p) judged))
      (Tc_passed (λ is. not (judged ∙ is)) (subst (λ (b : Bool). ConsidersForwarding settings own arrival heading octets b old noted sent onward) done_is considered)))

-- a TC that breaks no rule shows routers and their addresses as single addresses
single : (net : NetAddr) → (net.prefix < 32 → ⊥) → net.prefix ≡ 32
single net h = elim (cases_lt net.prefix 32) [ inl less ↦ absurd (h less) | inr most ↦ let w = net.within in omega (arith, most, w) ]

pub hosts_of : (message : MessageFields) (tc : Tc) → Keeps (BreaksTc message) → TcIs message tc → HasHosts tc
hosts_of message tc keeps reads row has kind = single row.dest (λ short. keeps 37 (Some row.dest) (ShortPrefix row.dest (typed kind) short))
  where
    flagged : (flag : ℕ) → SaysFlag message row.dest NBR_ADDR_TYPE flag → HasType message row.dest NBR_ADDR_TYPE
    flagged flag (inl says) = (_, says)
    flagged flag (inr says) = (_, says)

    typed : IsTrue row.origin ⊎ IsTrue row.routable → HasType message row.dest NBR_ADDR_TYPE
    typed (inl origin) = flagged 1 ((reads.rows.each row has).1.origin.0 origin)
    typed (inr routable) = flagged 2 ((reads.rows.each row has).1.routable.0 routable)

-- fates that are kept, and some more
pub none_kept : (keeps : Bool) → [] ≡ kept_fates keeps []
none_kept keeps = grind (arith, common_steps)

pub kept_more : (keeps : Bool) (fates more : List Fate) → kept_fates keeps fates ++ kept_fates keeps more ≡ kept_fates keeps (fates ++ more)
kept_more keeps fates more = grind (arith, common_steps)

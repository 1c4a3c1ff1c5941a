-- What is noted of a message, and what is answered to it.
use Rattle.mesh_probe.proofs.Common.{◌≡◌, ℕ, ◌+◌, ◌<◌, ◌≤◌, inl, inr, refl, sym, ◌∙◌, ap, subst, arith, List, [], length, Option, Some, None, Bool, true, false, cond, is_some, common_steps, cases_eq, length-le_from_keys, Addr4, FloodKey, Noted, Base, HasDistinctKeys, find, base_of, if_live, Expires, Same, addr_eq, flood_eq, LiveNoted, NotedMessages, Heading, Forward, AfterNote, Notes, key_of, is_full, has_no_hops, forward_by, is_received, is_forwarded, forwarding, IsUnknown, some_of as some_is}
use Rattle.std.specs.Map.{keys_of}
use Rattle.std.proofs.lemmas.Map.Entries.{length-keys_of}
use Rattle.std.proofs.lemmas.Map.Made.{is_some-lookup}
use Rattle.mesh_atoms.specs.declared.settings.Times.{Times}
use Rattle.mesh_flood.specs.declared.verdict.Forward.TheVariants as forward
use Rattle.mesh_flood.proofs.Keys.{flood_equiv}

-- Verdicts

pub does : (own : Addr4) (heading : Heading) (received forwarded : Base FloodKey Noted) → addr_eq heading.originator own ≡ false → has_no_hops heading ≡ false →
    find flood_eq received (key_of heading) ≡ None → is_full received ≡ false → find flood_eq forwarded (key_of heading) ≡ None → is_full forwarded ≡ false →
    forward_by own heading (Some true) received forwarded ≡ forward.Do
does own heading received forwarded a b c d e f = rw (a, b, c, d, e, f) refl

pub never_own : (own : Addr4) (heading : Heading) (link : Option Bool) (received forwarded : Base FloodKey Noted) → addr_eq heading.originator own ≡ true →
    is_forwarded (forward_by own heading link received forwarded) ≡ false
never_own own heading link received forwarded a = rw a refl

pub not_twice : (own : Addr4) (heading : Heading) (link : Option Bool) (received forwarded : Base FloodKey Noted) (e : Noted × ℕ) → find flood_eq forwarded (key_of heading) ≡ Some e →
    is_forwarded (forward_by own heading link received forwarded) ≡ false
not_twice own heading link received forwarded e found = grind (arith, common_steps)

pub deaf : (own : Addr4) (heading : Heading) (received forwarded : Base FloodKey Noted) →
    (is_received (forward_by own heading None received forwarded) ≡ false) × (is_forwarded (forward_by own heading None received forwarded) ≡ false)
deaf own heading received forwarded = grind (arith, common_steps)

pub sends_nothing : (count : ℕ) (octets : List ℕ) (answer : Forward) → is_forwarded answer ≡ false → forwarding count octets answer ≡ []
sends_nothing count octets answer e = grind (arith, common_steps)

pub is_do : (answer : Forward) → is_forwarded answer ≡ true → answer ≡ forward.Do
is_do answer e = grind (arith, common_steps)

-- Sets

-- a base of no more keys is no longer
pub fewer : (old new : Base FloodKey Noted) → HasDistinctKeys flood_eq new → ((q : FloodKey) (e : Noted × ℕ) → find flood_eq new q ≡ Some e → (f : Noted × ℕ) × (find flood_eq old q ≡ Some f)) →
    length new ≤ length old
fewer old new distinct to =
    let l = length-le_from_keys flood_equiv (keys_of new) old distinct (λ q any.
    (let (e, found) = some_is (find flood_eq new q) (is_some-lookup (flood_eq q) new ∙ any) in
    let (f, there) = to q e found in
    subst (λ (o : Option (Noted × ℕ)). is_some o ≡ true) (sym there) refl)) in
    let e = length-keys_of new in
    omega (arith, l, e)

live_was : (now : ℕ) (o : Option (Noted × ℕ)) (e : Noted × ℕ) → if_live now o ≡ Some e → o ≡ Some e
live_was now o e h = grind (arith, common_steps)

fewer_live : (now : ℕ) (old new : Base FloodKey Noted) → HasDistinctKeys flood_eq new → Expires flood_eq now old new → length new ≤ length old
fewer_live now old new distinct expires = fewer old new distinct (λ q e found. (e, live_was now (find flood_eq old q) e (sym (expires q) ∙ found)))

fewer_same : (old new : Base FloodKey Noted) → HasDistinctKeys flood_eq new → Same flood_eq old new → length new ≤ length old
fewer_same old new distinct same = fewer old new distinct (λ q e found. (e, sym (same q) ∙ found))

pub unknown_live : (key : FloodKey) (now : ℕ) (old new : NotedMessages) → IsUnknown key old → LiveNoted now old new → IsUnknown key new
unknown_live key now old new u live = record {
  received = λ j. live.received j key ∙ ap (if_live now) (u.received j);
  forwarded = live.forwarded key ∙ ap (if_live now) u.forwarded;
  room_received = λ j. (let a = fewer_live now (base_of old.received j) (base_of new.received j) (live.distinct_received j) (live.received j) in let b = u.room_received j in omega (arith, a, b));
  room_forwarded = (let a = fewer_live now old.forwarded new.forwarded live.distinct_forwarded live.forwarded in let b = u.room_forwarded in omega (arith, a, b));
}

-- nothing is noted but that the message was processed
pub unknown_deaf : (key : FloodKey) (times : Times) (now i : ℕ) (heading : Heading) (is_done : Bool) (answer : Forward) (old new : NotedMessages) → IsUnknown key old →
    AfterNote times now i heading is_done answer old new → is_received answer ≡ false → is_forwarded answer ≡ false → IsUnknown key new
unknown_deaf key times now i heading is_done answer old new u notes not_received not_forwarded =
    let at_i : Same flood_eq (base_of old.received i) (base_of new.received i) =
    subst (λ (b : Bool). Notes b (key_of heading) (now + times.received_hold) (base_of old.received i) (base_of new.received i)) not_received notes.received in
    let received : (j : ℕ) → Same flood_eq (base_of old.received j) (base_of new.received j) = λ j. elim (cases_eq j i) [
      | inl e ↦ subst (λ (k : ℕ). Same flood_eq (base_of old.received k) (base_of new.received k)) (sym e) at_i
      | inr other ↦ notes.others j other
    ] in
    let forwarded : Same flood_eq old.forwarded new.forwarded =
    subst (λ (b : Bool). Notes b (key_of heading) (now + times.forwarded_hold) old.forwarded new.forwarded) not_forwarded notes.forwarded in
    record {
      received = λ j. received j key ∙ u.received j;
      forwarded = forwarded key ∙ u.forwarded;
      room_received = λ j. (let a = fewer_same (base_of old.received j) (base_of new.received j) (notes.tables.received j) (received j) in let b = u.room_received j in omega (arith, a, b));
      room_forwarded = (let a = fewer_same old.forwarded new.forwarded notes.tables.forwarded forwarded in let b = u.room_forwarded in omega (arith, a, b));
    }

-- a forwarded tuple that isn't expired
pub record Stands (key : FloodKey) (now : ℕ) (base : Base FloodKey Noted) : Type 0 where
  pub e : Noted × ℕ
  pub found : find flood_eq base key ≡ Some e
  pub later : now < e.1

pub stands_live : (key : FloodKey) (now : ℕ) (old new : Base FloodKey Noted) → Stands key now old → Expires flood_eq now old new → Stands key now new
stands_live key now old new s expires = grind (arith, common_steps)

pub stands_noted : (key other : FloodKey) (now hold : ℕ) (wanted : Bool) (old new : Base FloodKey Noted) → 0 < hold → Stands key now old → Notes wanted other (now + hold) old new → Stands key now new
stands_noted key other now hold wanted old new some s same = grind (arith, common_steps)

pub stands_new : (key : FloodKey) (now hold : ℕ) (old new : Base FloodKey Noted) → 0 < hold → Notes true key (now + hold) old new → Stands key now new
stands_new key now hold old new some sets = record {
  e = (record {}, now + hold);
  found = sets key ∙ ap (λ (b : Bool). cond b (Some (record {}, now + hold)) (find flood_eq old key)) (flood_equiv.refl key);
  later = omega (arith, some);
}

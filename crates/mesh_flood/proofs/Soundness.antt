-- The sets stay sound: what is noted is not expired, and expiry leaves nothing that is.
use Rattle.mesh_flood.proofs.Common.{common_steps, ◌≡◌, ◌<◌, ◌+◌, ℕ, [], length, Bool, true, false, refl, sym, subst, ◌∙◌, arith, nat_eq, eqb-true, eqb-false, FloodKey, Noted, Base, base_of, flood_eq, Expires, IsFresh, NotedMessages, LiveNoted, distinct_none, Heading, Forward, key_of, is_received, is_forwarded, Notes, AfterNote, AreWithin}
use Rattle.mesh_atoms.specs.declared.settings.RouterSettings.{RouterSettings}
use Rattle.mesh_atoms.specs.Sound.{SoundNoted, IsWithin}
use Rattle.mesh_atoms.specs.declared.settings.Times.{Times}

fresh_noted : (wanted : Bool) (key : FloodKey) (now hold : ℕ) (old new : Base FloodKey Noted) → 0 < hold → Notes wanted key (now + hold) old new → IsFresh flood_eq now old → IsFresh flood_eq now new
fresh_noted wanted key now hold old new some same fresh q value until found = grind (arith, common_steps)

fresh_live : (now : ℕ) (old new : Base FloodKey Noted) → Expires flood_eq now old new → IsFresh flood_eq now new
fresh_live now old new expires q value until found = grind (arith, common_steps)

-- sound sets, once a message is noted for any hold times and each set is within its limit
pub sound_by_times : (settings : RouterSettings) (times : Times) (now i : ℕ) (heading : Heading) (processed : Bool) (answer : Forward) (old new : NotedMessages)
    → SoundNoted settings now old → AfterNote times now i heading processed answer old new → AreWithin new → SoundNoted settings now new
sound_by_times settings times now i heading processed answer old new sound after within =
    let ranges = times.sound in
    let some_received : 0 < times.received_hold = omega (arith, ranges.received_hold_range.least) in
    let some_processed : 0 < times.processed_hold = omega (arith, ranges.processed_hold_range.least) in
    let some_forwarded : 0 < times.forwarded_hold = omega (arith, ranges.forwarded_hold_range.least) in
    let here = fresh_noted (is_received answer) (key_of heading) now times.received_hold (base_of old.received i) (base_of new.received i) some_received after.received (sound.received i).fresh in
    record {
      interfaces = after.interfaces ∙ sound.interfaces;
      received = λ j. record {
        distinct = after.tables.received j;
        limit = within.received j;
        fresh = fresh_at j here (nat_eq j i) refl;
      };
      processed = record {
        distinct = after.tables.processed;
        limit = within.processed;
        fresh = fresh_noted processed (key_of heading) now times.processed_hold old.processed new.processed some_processed after.processed sound.processed.fresh;
      };
      forwarded = record {
        distinct = after.tables.forwarded;
        limit = within.forwarded;
        fresh = fresh_noted (is_forwarded answer) (key_of heading) now times.forwarded_hold old.forwarded new.forwarded some_forwarded after.forwarded sound.forwarded.fresh;
      };
    } where
      fresh_at : (j : ℕ) → IsFresh flood_eq now (base_of new.received i) → (b : Bool) → nat_eq j i ≡ b → IsFresh flood_eq now (base_of new.received j)
      fresh_at j here true is = subst (λ (n : ℕ). IsFresh flood_eq now (base_of new.received n)) (sym (eqb-true j i is)) here
      fresh_at j here false is = λ q value until found. (sound.received j).fresh q value until (sym (after.others j (eqb-false j i is) q) ∙ found)

-- sound sets, once a message is noted for the hold times of the settings
pub sound_after_note : (settings : RouterSettings) (now i : ℕ) (heading : Heading) (processed : Bool) (answer : Forward) (old new : NotedMessages)
    → SoundNoted settings now old → AfterNote settings.times now i heading processed answer old new → AreWithin new → SoundNoted settings now new
sound_after_note settings now i heading processed answer old new sound after within = grind (arith, common_steps, sound_by_times)

-- sound sets are within their limits
pub within_of : (settings : RouterSettings) (now : ℕ) (noted : NotedMessages) → SoundNoted settings now noted → AreWithin noted
within_of settings now noted sound = record { received = λ i. (sound.received i).limit; processed = sound.processed.limit; forwarded = sound.forwarded.limit }

-- sound sets, where each is empty
none_within : (now : ℕ) (base : Base FloodKey Noted) → base ≡ [] → IsWithin flood_eq now 16384 base
none_within now base none = rw none (record { distinct = distinct_none flood_eq; limit = omega arith; fresh = λ q value until e. absurd cc })

pub none_sound : (settings : RouterSettings) (now : ℕ) (noted : NotedMessages) → length noted.received ≡ length settings.interfaces
    → ((i : ℕ) → base_of noted.received i ≡ []) → noted.processed ≡ [] → noted.forwarded ≡ [] → SoundNoted settings now noted
none_sound settings now noted interfaces received processed forwarded = record {
  interfaces = interfaces;
  received = λ i. none_within now (base_of noted.received i) (received i);
  processed = none_within now noted.processed processed;
  forwarded = none_within now noted.forwarded forwarded;
}

-- sound sets, once what is expired is gone and each set is within its limit
pub sound_after_expiry : (settings : RouterSettings) (now : ℕ) (old new : NotedMessages)
    → length old.received ≡ length settings.interfaces → LiveNoted now old new → AreWithin new → SoundNoted settings now new
sound_after_expiry settings now old new interfaces live within = grind (arith, common_steps, fresh_live)

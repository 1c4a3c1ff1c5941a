-- Where a message is noted, the set isn't full.
use Rattle.mesh_flood.proofs.Common.{common_steps, ◌≡◌, ◌<◌, arith, ℕ, List, [], length, Option, Bool, true, false, cond, not, sym, ap, ◌∙◌, get_or, OnOk, Result, slice_set, cases_Bool, get_or_default, Addr4, FloodKey, Noted, Base, base_of, addr_eq, find, flood_eq, NotedMessages, Heading, Forward, Notes, key_of, if_noted, if_linked, is_full, process_of, forward_by, is_received, is_forwarded}
use Rattle.mesh_atoms.specs.declared.tuples.Base.TheVariants.{Received, Forwarded}
use Rattle.mesh_flood.specs.declared.verdict.Process.{Process}
use Rattle.mesh_flood.specs.declared.verdict.Process.TheVariants as process
use Rattle.mesh_flood.specs.declared.verdict.Forward.TheVariants as forward

-- the answers by what was found
abbrev process_when : Bool → Option (Noted × ℕ) → Bool → Process
process_when own stands full = cond own process.Own (if_noted stands (λ until. process.Done until) (cond full process.Full process.Do))

abbrev forward_when : Bool → Option Bool → Bool → Option (Noted × ℕ) → Bool → Option (Noted × ℕ) → Bool → Forward
forward_when own link far seen full_received stands full_forwarded =
    cond own forward.Own (if_linked link (λ selector. cond far forward.NoHops (if_noted seen (λ until. forward.Seen until)
    (cond full_received (forward.Full Received) (if_noted stands (λ until. forward.Done until)
    (cond (not selector) forward.NotSelector (cond full_forwarded (forward.Full Forwarded) forward.Do)))))))

abbrev is_do : Process → Bool
is_do process.Do = true
is_do other = false

room_processed : (own : Bool) (stands : Option (Noted × ℕ)) (full : Bool) → is_do (process_when own stands full) ≡ true → full ≡ false
room_processed own stands full h = grind (arith, common_steps)

room_received : (own : Bool) (link : Option Bool) (far : Bool) (seen : Option (Noted × ℕ)) (full : Bool) (stands : Option (Noted × ℕ)) (full' : Bool)
    → is_received (forward_when own link far seen full stands full') ≡ true → full ≡ false
room_received own link far seen full stands full' h = grind (arith, common_steps)

room_forwarded : (own : Bool) (link : Option Bool) (far : Bool) (seen : Option (Noted × ℕ)) (full : Bool) (stands : Option (Noted × ℕ)) (full' : Bool)
    → is_forwarded (forward_when own link far seen full stands full') ≡ true → full' ≡ false
room_forwarded own link far seen full stands full' h = grind (arith, common_steps)

-- a message that is processed, noted as received, or forwarded
pub has_room_processed : (own : Addr4) (heading : Heading) (noted : NotedMessages) (answer : Process) → answer ≡ process_of own heading noted → answer ≡ process.Do → is_full noted.processed ≡ false
has_room_processed own heading noted answer is does = room_processed (addr_eq heading.originator own) (find flood_eq noted.processed (key_of heading)) (is_full noted.processed) (ap is_do (sym is ∙ does))

pub has_room_received : (own : Addr4) (heading : Heading) (link : Option Bool) (received forwarded : Base FloodKey Noted) (answer : Forward)
    → answer ≡ forward_by own heading link received forwarded → is_received answer ≡ true → is_full received ≡ false
has_room_received own heading link received forwarded answer is noted = grind (arith, common_steps, room_received, key_of)

pub has_room_forwarded : (own : Addr4) (heading : Heading) (link : Option Bool) (received forwarded : Base FloodKey Noted) (answer : Forward)
    → answer ≡ forward_by own heading link received forwarded → is_forwarded answer ≡ true → is_full forwarded ≡ false
has_room_forwarded own heading link received forwarded answer is noted = grind (arith, common_steps, room_forwarded, key_of)

-- what holds of each set, where the one of interface i is another of which it holds
pub each_set : (P : Base FloodKey Noted → Type 0) (sets : List (Base FloodKey Noted)) (i : ℕ) (set : Base FloodKey Noted) → i < length sets → ((j : ℕ) → P (base_of sets j)) → P set
    → (j : ℕ) → P (base_of (slice_set sets i set) j)
each_set P sets i set here each this j = grind (arith, common_steps, cases_Bool)

-- a set that is there
pub base_there : (sets : List (Base FloodKey Noted)) (i : ℕ) (found : Base FloodKey Noted) → i < length sets → found ≡ get_or sets i found → base_of sets i ≡ found
base_there sets i found here is = get_or_default sets i [] found here ∙ sym is

-- what is noted in the set of interface i
pub noted_at : (wanted : Bool) (key : FloodKey) (until : ℕ) (sets : List (Base FloodKey Noted)) (i : ℕ) (found set : Base FloodKey Noted) → i < length sets → base_of sets i ≡ found
    → Notes wanted key until found set → Notes wanted key until (base_of sets i) (base_of (slice_set sets i set) i)
noted_at wanted key until sets i found set here there noted = grind (arith, common_steps)

-- what holds where a call succeeded
pub on_ok_if : {X E : Type 0} (r : Result X E) (A B : Type 0) → (A → OnOk r B) → OnOk r (A → B)
on_ok_if r A B h = grind (arith, common_steps)

pub on_ok_both : {X E : Type 0} (r : Result X E) (A B : Type 0) → OnOk r A → OnOk r B → OnOk r (A × B)
on_ok_both r A B a b = grind (arith, common_steps)

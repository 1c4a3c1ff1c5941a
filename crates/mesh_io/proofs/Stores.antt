-- What is kept in stores that grow at their end.
use Rattle.mesh_io.proofs.Common.{common_steps, ◌≡◌, ℕ, ◌+◌, ◌^◌, ◌<◌, ◌≤◌, min, Bool, true, false, ltb, cond, List, [], ◌∷◌, ◌++◌, length, map, take, drop, Option, Some, None, refl, sym, ap, ◌∙◌, arith, ltb-true, ltb-false, take_all, take_at, length-take, drop-append_seam, Endpoint, lying, report_of, told_more, Lies, AllLie, IsRoomy, LogState}
use Rattle.mesh_io.specs.Airs.{Report}
use Rattle.mesh_io.specs.declared.air_room.AirRoom.{AirRoom}
use Rattle.mesh_io.specs.declared.air_room.LoggedCall.{LoggedCall}
use Rattle.mesh_io.specs.declared.air_room.MemEar.{MemEar}

-- of a longer frame the first 65,507 octets stand at the buffer's start
pub given_front : (bytes buf copied : List ℕ) (n : ℕ) → n ≡ min (length bytes) (length buf) → length buf ≡ 65507 → copied ≡ take n bytes
    → take n (copied ++ drop n buf) ≡ take 65507 bytes
given_front bytes buf copied n is long same =
    let size : length copied ≡ n = omega (arith, ap length same, length-take n bytes) in
    take_at copied (drop n buf) n size ∙ same ∙ by (ltb 65507 (length bytes)) refl
  where
    by : (past : Bool) → ltb 65507 (length bytes) ≡ past → take n bytes ≡ take 65507 bytes
    by true e = let at : n ≡ 65507 = omega (arith, ltb-true 65507 (length bytes) e) in ap (λ (m : ℕ). take m bytes) at
    by false e = let le : length bytes ≤ 65507 = ltb-false 65507 (length bytes) e in
        take_all n bytes (omega arith) ∙ sym (take_all 65507 bytes le)

-- a store that grew at its end
pub record Grew {A : Type 0} (old new : List A) : Type 0 where
  pub more : List A
  pub is : new ≡ old ++ more

pub grew_nothing : {A : Type 0} (s : List A) → s ≡ s ++ [] → Grew s s
grew_nothing s e = record { more = []; is = e }

lying_on : {A : Type 0} (old new : List A) (from count : ℕ) → Grew old new → from + count ≤ length old → lying new from count ≡ lying old from count
lying_on old new from count g within = grind (arith, common_steps)

lying_last : {A : Type 0} (old more : List A) → lying (old ++ more) (length old) (length more) ≡ more
lying_last old more = rw (drop-append_seam old more) (take_all (length more) more (omega arith))

pub lying_at : {A : Type 0} (old new more : List A) (from : ℕ) → new ≡ old ++ more → from ≡ length old → lying new from (length more) ≡ more
lying_at old new more from e f = rw (e, f) (lying_last old more)

-- an entry tells the same
tells_on : (scripts : List (List MemEar)) (peers peers' : List Endpoint) (octets octets' : List ℕ) (e : LoggedCall) → Grew peers peers' → Grew octets octets' → Lies (length peers) (length octets) e
    → report_of scripts peers' octets' e ≡ report_of scripts peers octets e
tells_on scripts peers peers' octets octets' e g h lies = grind (arith, common_steps, lying_on)

all_tell_on : (scripts : List (List MemEar)) (peers peers' : List Endpoint) (octets octets' : List ℕ) (es : List LoggedCall) (e : LoggedCall) → Grew peers peers' → Grew octets octets' → AllLie (length peers) (length octets) es
    → map (report_of scripts peers' octets') (es ++ e ∷ []) ≡ map (report_of scripts peers octets) es ++ report_of scripts peers' octets' e ∷ []
all_tell_on scripts peers peers' octets octets' [] e g h lie = refl
all_tell_on scripts peers peers' octets octets' (x ∷ es) e g h lie =
    rw (tells_on scripts peers peers' octets octets' x g h lie.0, all_tell_on scripts peers peers' octets octets' es e g h lie.1) refl

-- one more entry is told
pub told_on : (told : Bool) (scripts : List (List MemEar)) (peers peers' : List Endpoint) (octets octets' : List ℕ) (es es' : List LoggedCall) (e : LoggedCall) (r : Report) → es' ≡ es ++ e ∷ [] → Grew peers peers' → Grew octets octets'
    → AllLie (length peers) (length octets) es → report_of scripts peers' octets' e ≡ r
    → cond told (Some (map (report_of scripts peers' octets') es')) None ≡ told_more (cond told (Some (map (report_of scripts peers octets) es)) None) r
told_on false scripts peers peers' octets octets' es es' e r put g h lie is = refl
told_on true scripts peers peers' octets octets' es es' e r put g h lie is =
    rw (put, all_tell_on scripts peers peers' octets octets' es e g h lie, is) refl

-- all lies in the stores still
lies_on : (p p' o o' : ℕ) (e : LoggedCall) → p ≤ p' → o ≤ o' → Lies p o e → Lies p' o' e
lies_on p p' o o' e g h lies = grind (arith, common_steps)

pub all_lie_on : (p p' o o' : ℕ) (es : List LoggedCall) (e : LoggedCall) → p ≤ p' → o ≤ o' → Lies p' o' e → AllLie p o es → AllLie p' o' (es ++ e ∷ [])
all_lie_on p p' o o' [] e g h last lie = (last, tt)
all_lie_on p p' o o' (x ∷ es) e g h last lie = (lies_on p p' o o' x g h lie.0, all_lie_on p p' o o' es e g h last lie.1)

-- the same but for what is told
pub log_with : (attached : ℕ) (told told' : Option (List Report)) (scripts : List (List MemEar)) (places : List ℕ) (left : AirRoom) → told ≡ told'
    → (let log : LogState = record { attached = attached; told = told; scripts = scripts; places = places; left = left } in log)
    ≡ record { attached = attached; told = told'; scripts = scripts; places = places; left = left }
log_with attached told told' scripts places left e = rw e refl

-- one more entry is kept, and the room that is left for entries is less by one
pub roomy_on : (es es' : List LoggedCall) (e : LoggedCall) (p p' o o' capacity capacity' peer_capacity peer_capacity' octet_capacity octet_capacity' attached attached' : ℕ) (left left' : AirRoom)
    → IsRoomy es p o capacity peer_capacity octet_capacity attached left → es' ≡ es ++ e ∷ [] → capacity ≤ capacity' → p ≤ p' → o ≤ o' → Lies p' o' e
    → left'.attaches + left'.ears + left'.frames + 1 ≤ left.attaches + left.ears + left.frames → left'.peers + p' ≤ peer_capacity' → left'.octets + o' ≤ octet_capacity' → attached' + left'.attaches < 2 ^ 64
    → IsRoomy es' p' o' capacity' peer_capacity' octet_capacity' attached' left'
roomy_on es es' e p p' o o' capacity capacity' peer_capacity peer_capacity' octet_capacity octet_capacity' attached attached' left left' h put grown more_peers more_octets lies less peers_fit octets_fit attached_fit = grind (arith, common_steps, all_lie_on)

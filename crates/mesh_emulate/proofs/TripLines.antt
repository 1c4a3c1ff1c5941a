-- The lines of a trip are neither headings nor routes, nor `settled yes`.
use Rattle.mesh_emulate.proofs.Common.{common_steps, ◌≡◌, ℕ, ◌/◌, ◌%◌, true, List, [], ◌∷◌, ◌++◌, length, map, Option, refl, sym, ap, arith, codes, decimal, All-from_recursion, flat_map-map, Addr4, Interface, RouterSettings, Scenario, State, IsPacketSent, TellsWanted, WantedPacket, router_name, IsLine, IsPlain, ArePlain, lacks, each_map, line_end, line_after, number, nothing_plain, name_lacks}
use Rattle.mesh_data.specs.Text.{interface_name, interface_in, end_name, hop_start, hop_end, hop_line, trip_start, trip_end, text_of}
use Rattle.mesh_data.specs.declared.trip.End.{End}
use Rattle.mesh_data.specs.declared.trip.Hop.{Hop}
use Rattle.mesh_data.specs.declared.trip.Trip.{Trip}
use Rattle.mesh_data.specs.Dotted.{dotted}
use Rattle.mesh_emulate.proofs.PlainLines.{router_lacks, behind, behind_lacks, plain_line}

-- Parts without a line feed

face_lacks : (i : Option Interface) → lacks 10 (interface_name i) ≡ true
face_lacks i = grind (arith, common_steps, name_lacks)

interface_lacks : (r : Option RouterSettings) (i : ℕ) → lacks 10 (interface_in r i) ≡ true
interface_lacks r i = grind (arith, common_steps, face_lacks)

end_lacks : (end : End) → lacks 10 (end_name end) ≡ true
end_lacks end = grind (arith, common_steps)

dotted_lacks : (a : Addr4) → lacks 10 (dotted a) ≡ true
unfolding dotted
dotted_lacks a =
    let second = a.0 / 65536 % 256 in
    let third = a.0 / 256 % 256 in
    behind_lacks (decimal (a.0 / 16777216)) (codes "." ∷ decimal second ∷ codes "." ∷ decimal third ∷ codes "." ∷ decimal (a.0 % 256) ∷ [])
    (number (a.0 / 16777216)) (refl, (number second, (refl, (number third, (refl, (number (a.0 % 256), tt))))))

-- Lines

start_lacks : (s : Scenario) (from : ℕ) (a : Addr4) → lacks 10 (trip_start s from a) ≡ true
start_lacks s from a = grind (arith, common_steps, behind_lacks, router_lacks, dotted_lacks)

end_is_line : (s : Scenario) (trip : Trip) → IsLine (trip_end s trip)
end_is_line s trip =
    let parts = end_name trip.end ∷ codes " at " ∷ router_name s.routers trip.last ∷ codes " metric " ∷ decimal trip.metric ∷ codes " hops " ∷ decimal (length trip.hops) ∷ [] in
    line_after (behind (codes " end ") parts) (codes "\n")
    (behind_lacks (codes " end ") parts refl (end_lacks trip.end, (refl, (router_lacks s trip.last, (refl, (number trip.metric, (refl, (number (length trip.hops), tt))))))))
    line_end

trip_plain : (s : Scenario) (from : ℕ) (a : Addr4) (trip : Trip) → IsPlain (trip_start s from a ++ trip_end s trip)
trip_plain s from a trip =
    plain_line (trip_start s from a ++ trip_end s trip) 0 0 2 (line_after (trip_start s from a) (trip_end s trip) (start_lacks s from a) (end_is_line s trip))
    (refl, refl) (refl, refl) (refl, refl)

hop_lacks : (s : Scenario) (hop : Hop) → lacks 10 (hop_start s hop) ≡ true
hop_lacks s hop = grind (arith, common_steps, behind_lacks, router_lacks, interface_lacks)

hop_is_line : (s : Scenario) (hop : Hop) → IsLine (hop_end s hop)
hop_is_line s hop =
    let parts = router_name s.routers hop.to ∷ codes " metric " ∷ decimal hop.metric ∷ [] in
    line_after (behind (codes " to ") parts) (codes "\n")
    (behind_lacks (codes " to ") parts refl (router_lacks s hop.to, (refl, (number hop.metric, tt)))) line_end

hop_plain : (s : Scenario) (hop : Hop) → IsPlain (hop_line s hop)
hop_plain s hop =
    plain_line (hop_start s hop ++ hop_end s hop) 0 1 0 (line_after (hop_start s hop) (hop_end s hop) (hop_lacks s hop) (hop_is_line s hop))
    (refl, refl) (refl, refl) (refl, refl)

text_is_plain : (s : Scenario) (from : ℕ) (a : Addr4) (trip : Trip) → ArePlain (text_of s from a trip)
text_is_plain s from a trip =
    let first = trip_start s from a ++ trip_end s trip in
    let lines = first ∷ map (hop_line s) trip.hops in
    record {
      lines = lines;
      each = All-from_recursion IsPlain lines (trip_plain s from a trip, each_map IsPlain (hop_line s) (hop_plain s) trip.hops);
      whole = ap (λ (l : List ℕ). first ++ l) (sym (flat_map-map (λ (l : List ℕ). l) (hop_line s) trip.hops));
    }

pub trip_is_plain : (s : Scenario) (states : List State) (send : Option WantedPacket) (text : List ℕ) → TellsWanted (IsPacketSent s states) send text → ArePlain text
trip_is_plain s states send text none = grind (arith, common_steps, nothing_plain, text_is_plain)

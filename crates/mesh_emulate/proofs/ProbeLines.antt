-- The lines of a probe are neither headings nor routes, nor `settled yes`.
use Rattle.mesh_emulate.proofs.Common.{arith, common_steps, ◌≡◌, ℕ, true, List, [], ◌∷◌, ◌++◌, length, map, Option, not, refl, sym, ap, ◌∙◌, append_assoc, codes, decimal, filter, flat_map, append-nil, All-from_recursion, flat_map-map, Scenario, State, IsProbed, TellsWanted, router_name, Coverage, Probe, NoNumber, Done, is_reached, probe_start, probe_counts, probe_end, unreached_line, IsLine, IsPlain, ArePlain, lacks, each_map, line_end, line_after, number, nothing_plain}
use Rattle.mesh_emulate.proofs.PlainLines.{router_lacks, behind, behind_lacks, plain_line}

start_lacks : (s : Scenario) (origin : ℕ) → lacks 10 (probe_start s origin) ≡ true
start_lacks s origin = behind_lacks (codes "probe ") (router_name s.routers origin ∷ []) refl (router_lacks s origin, tt)

-- a line that begins so
first_plain : (s : Scenario) (origin : ℕ) (rest : List ℕ) → IsLine rest → IsPlain (probe_start s origin ++ rest)
first_plain s origin rest is =
    plain_line (probe_start s origin ++ rest) 0 0 0 (line_after (probe_start s origin) rest (start_lacks s origin) is) (refl, refl) (refl, refl) (refl, refl)

counts_is_line : (peers : List ℕ) (c : Coverage) → IsLine (probe_counts peers c)
counts_is_line peers c =
    let reached = length (filter (is_reached c) peers) in
    let parts = decimal c.number ∷ codes " reached " ∷ decimal reached ∷ codes " of " ∷ decimal (length peers) ∷ codes " sent " ∷ decimal (length c.sends) ∷ [] in
    line_after (behind (codes " number ") parts) (codes "\n")
    (behind_lacks (codes " number ") parts refl (number c.number, (refl, (number reached, (refl, (number (length peers), (refl, (number (length c.sends), tt))))))))
    line_end

unreached_plain : (s : Scenario) (z : ℕ) → IsPlain (unreached_line s z)
unreached_plain s z =
    let parts = router_name s.routers z ∷ [] in
    plain_line (unreached_line s z) 0 0 0
    (line_after (behind (codes "unreached ") parts) (codes "\n") (behind_lacks (codes "unreached ") parts refl (router_lacks s z, tt)) line_end)
    (refl, refl) (refl, refl) (refl, refl)

text_is_plain : (s : Scenario) (origin : ℕ) (peers : List ℕ) (probe : Probe) → ArePlain (probe_start s origin ++ probe_end s peers probe)
text_is_plain s origin peers NoNumber =
    let line = probe_start s origin ++ codes " none\n" in
    record {
      lines = line ∷ [];
      each = All-from_recursion IsPlain (line ∷ []) (first_plain s origin (codes " none\n") (line_after (codes " none") (codes "\n") refl line_end), tt);
      whole = sym (append-nil line);
    }
text_is_plain s origin peers (Done c) =
    let first = probe_start s origin ++ probe_counts peers c in
    let rest = filter (λ z. not (is_reached c z)) peers in
    let lines = first ∷ map (unreached_line s) rest in
    record {
      lines = lines;
      each = All-from_recursion IsPlain lines (first_plain s origin (probe_counts peers c) (counts_is_line peers c), each_map IsPlain (unreached_line s) (unreached_plain s) rest);
      whole = sym (append_assoc (probe_start s origin) (probe_counts peers c) (flat_map (unreached_line s) rest))
          ∙ ap (λ (l : List ℕ). first ++ l) (sym (flat_map-map (λ (l : List ℕ). l) (unreached_line s) rest));
    }

pub probe_is_plain : (s : Scenario) (states : List State) (probe : Option (List ℕ)) (text : List ℕ) → TellsWanted (IsProbed s states) probe text → ArePlain text
probe_is_plain s states probe text none = grind (arith, common_steps, nothing_plain, text_is_plain)

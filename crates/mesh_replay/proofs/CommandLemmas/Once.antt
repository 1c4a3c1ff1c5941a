-- An input is split in one way.
use Rattle.mesh_replay.proofs.Common.{common_steps, ◌≡◌, ℕ, suc, ◌+◌, ◌<◌, ◌≤◌, ◌⊎◌, Bool, cond, eqb, List, [], ◌∷◌, ◌++◌, Some, length, refl, sym, ap, subst, ◌∙◌, arith, All-head, All-tail, fault, first, refusals, Replay, HaveNone, IsCutAt, IsRule, BeginsReport, IsRuled, IsSplit, HasNoRule, Replays, IsRefusedInput, No_trace, Long_scenario, By_settings, lines_of, begun, none_not}

-- ---- a text with more in front has other lines

-- the octets of lines, and one more for each
abbrev weight : List (List ℕ) → ℕ
weight [] = 0
weight (line ∷ lines) = suc (length line + weight lines)

weight_begun : (octet : ℕ) (lines : List (List ℕ)) → weight lines < weight (begun octet lines)
weight_begun octet lines = grind (arith, common_steps)

weight_line : (feed : Bool) (octet : ℕ) (lines : List (List ℕ)) → weight lines < weight (cond feed ([] ∷ lines) (begun octet lines))
weight_line feed octet lines = grind (arith, common_steps, weight_begun)

weight_more : (more text : List ℕ) → weight (lines_of text) + length more ≤ weight (lines_of (more ++ text))
weight_more [] text = omega arith
weight_more (octet ∷ more) text = omega (arith, weight_more more text, weight_line (eqb octet 10) octet (lines_of (more ++ text)))

more_lines : (octet : ℕ) (more text whole : List ℕ) → whole ≡ octet ∷ (more ++ text) → lines_of whole ≡ lines_of text → ⊥
more_lines octet more text whole is same =
    omega (arith, weight_more (octet ∷ more) text, ap (λ (t : List ℕ). weight (lines_of t)) is, ap weight same)

same_parts : (front front' rest rest' : List ℕ) → front ++ rest ≡ front' ++ rest' → lines_of rest ≡ lines_of rest' → (front ≡ front') × (rest ≡ rest')
same_parts [] [] rest rest' is same = (refl, is)
same_parts [] (x ∷ front') rest rest' is same = absurd (more_lines x front' rest' rest is same)
same_parts (x ∷ front) [] rest rest' is same = absurd (more_lines x front rest rest' (sym is) (sym same))
same_parts (x ∷ front) (y ∷ front') rest rest' is same =
    let head : x ≡ y = cc in
    let (fronts, rests) = same_parts front front' rest rest' (cc) same in
    (rw (head, fronts) refl, rests)

-- ---- a text is cut in one way

abbrev Heads : (List ℕ → Type 0) → List (List ℕ) → Type 0
Heads IsKind rest = (rest ≡ []) ⊎ ((line : List ℕ) × (more : List (List ℕ)) × (rest ≡ line ∷ more) × IsKind line)

heads_none : (IsKind : List ℕ → Type 0) (line : List ℕ) (lines rest : List (List ℕ)) → (IsKind line → ⊥) → Heads IsKind rest → rest ≡ line ∷ lines → ⊥
heads_none IsKind line lines rest other h5 is = grind (arith, common_steps)

same_rests : (IsKind : List ℕ → Type 0) (lines lines' rest rest' : List (List ℕ)) → HaveNone IsKind lines → HaveNone IsKind lines' →
    Heads IsKind rest → Heads IsKind rest' → lines ++ rest ≡ lines' ++ rest' → rest ≡ rest'
same_rests IsKind [] [] rest rest' none none' heads heads' is = is
same_rests IsKind [] (line ∷ lines') rest rest' none none' heads heads' is = grind (arith, common_steps, heads_none, All-head)
same_rests IsKind (line ∷ lines) [] rest rest' none none' heads heads' is = grind (arith, common_steps, heads_none, All-head)
same_rests IsKind (line ∷ lines) (line' ∷ lines') rest rest' none none' heads heads' is =
    same_rests IsKind lines lines' rest rest' (All-tail (λ l. IsKind l → ⊥) line lines none) (All-tail (λ l. IsKind l → ⊥) line' lines' none') heads heads' (cc)

heads_of : (IsKind : List ℕ → Type 0) (rest : List ℕ) →
    (rest ≡ []) ⊎ ((line : List ℕ) × (more : List (List ℕ)) × (lines_of rest ≡ line ∷ more) × IsKind line) → Heads IsKind (lines_of rest)
heads_of IsKind rest h2 = grind (arith, common_steps)

cut_once : (IsKind : List ℕ → Type 0) (text front rest front' rest' : List ℕ) → IsCutAt IsKind text front rest → IsCutAt IsKind text front' rest' →
    (front ≡ front') × (rest ≡ rest')
cut_once IsKind text front rest front' rest' cut cut' =
    same_parts front front' rest rest' (sym cut.whole ∙ cut'.whole)
    (same_rests IsKind cut.lines cut'.lines (lines_of rest) (lines_of rest') cut.none cut'.none (heads_of IsKind rest cut.next) (heads_of IsKind rest' cut'.next)
    (sym cut.between ∙ cut'.between))

-- ---- an input is split in one way

same_behind : (text behind behind' : List ℕ) → IsRuled text behind → IsRuled text behind' → behind ≡ behind'
same_behind text behind behind' h3 h4 = grind (arith, common_steps)

pub splits_once : (input scenario trace scenario' trace' : List ℕ) → IsSplit input scenario trace → IsSplit input scenario' trace' →
    (scenario ≡ scenario') × (trace ≡ trace')
splits_once input scenario trace scenario' trace' s s' =
    let (scenarios, ruled) = cut_once IsRule input scenario s.ruled scenario' s'.ruled s.stated s'.stated in
    let behind = same_behind s'.ruled s.behind s'.behind (subst (λ (r : List ℕ). IsRuled r s.behind) ruled s.rule) s'.rule in
    let told : IsCutAt BeginsReport s'.behind trace s.report = subst (λ (b : List ℕ). IsCutAt BeginsReport b trace s.report) behind s.told in
    (scenarios, (cut_once BeginsReport s'.behind trace s.report trace' s'.report told s'.told).0)

no_such : (IsKind : List ℕ → Type 0) (lines more : List (List ℕ)) (line : List ℕ) → HaveNone IsKind (lines ++ line ∷ more) → IsKind line → ⊥
no_such IsKind [] more line none kind = All-head (λ l. IsKind l → ⊥) line more none kind
no_such IsKind (other ∷ lines) more line none kind =
    no_such IsKind lines more line (All-tail (λ l. IsKind l → ⊥) other (lines ++ line ∷ more) none) kind

not_ruled : (behind : List ℕ) → IsRuled [] behind → ⊥
not_ruled behind h1 = grind (arith, common_steps)

pub splits_at_rule : (input scenario trace : List ℕ) → IsSplit input scenario trace → HasNoRule input → ⊥
splits_at_rule input scenario trace s none = grind (arith, common_steps, not_ruled, no_such)

pub answers_or_refuses : (input : List ℕ) (answer : Replay) (number : ℕ) (key : List ℕ) → Replays input answer → IsRefusedInput input number key → ⊥
answers_or_refuses input answer number key r (No_trace none) = splits_at_rule input r.settings r.trace r.split none
answers_or_refuses input answer number key r (Long_scenario settings trace split long) =
    omega (arith, ap length (splits_once input settings trace r.settings r.trace split r.split).0, long, r.within)
answers_or_refuses input answer number key r (By_settings settings trace split within refused) =
    none_not {o = first (refusals r.settings)} {a = fault number key} r.replayed.clear
    (subst (λ (t : List ℕ). first (refusals t) ≡ Some (fault number key)) (splits_once input settings trace r.settings r.trace split r.split).0 refused)

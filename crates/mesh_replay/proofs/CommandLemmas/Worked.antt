-- Inputs and their parts, worked by hand.
use Rattle.mesh_replay.proofs.Common.{common_steps, ◌≡◌, ℕ, ◌<◌, ◌≤◌, inl, inr, List, [], ◌∷◌, ◌++◌, codes, length, refl, sym, ap, ◌∙◌, arith, length-append, append-nil, All-nil, All-cons, HaveNone, IsRule, BeginsReport, IsCutAt, lines_of}
use Rattle.mesh_replay.specs.Command.Worked.{ManyLines, NoRules, Reports, EmptyTraces, EmptyScenarios}

-- lines of other lengths

no_rule : (line : List ℕ) (lines : List (List ℕ)) → (length line ≡ 3 → ⊥) → HaveNone IsRule lines → HaveNone IsRule (line ∷ lines)
no_rule line lines other none = All-cons (λ l. IsRule l → ⊥) line lines (λ is. other (ap length is)) none

no_rules : HaveNone IsRule []
no_rules = All-nil (λ l. IsRule l → ⊥)

report_long : (line : List ℕ) → BeginsReport line → 8 ≤ length line
report_long line (rest, is) = omega (arith, ap length is ∙ length-append (codes "emulate ") rest)

no_report : (line : List ℕ) (lines : List (List ℕ)) → length line < 8 → HaveNone BeginsReport lines → HaveNone BeginsReport (line ∷ lines)
no_report line lines short none = All-cons (λ l. BeginsReport l → ⊥) line lines (λ is. omega (arith, short, report_long line is)) none

no_reports : HaveNone BeginsReport []
no_reports = All-nil (λ l. BeginsReport l → ⊥)

line_b : HaveNone BeginsReport (codes "b" ∷ [])
line_b = no_report (codes "b") [] (omega arith) no_reports

-- behind a line `a`
cut_a : (more : List (List ℕ)) (rest : List ℕ) → lines_of rest ≡ codes "---" ∷ more →
    IsCutAt IsRule (codes "a\n" ++ rest) (codes "a\n") rest
cut_a more rest here = record { whole = refl; lines = codes "a" ∷ []; between = refl; none = no_rule (codes "a") [] (λ is. omega (arith, is)) no_rules; next = inr (codes "---", more, here, refl) }

-- a trace that ends the input
cut_end : (text : List ℕ) → HaveNone BeginsReport (lines_of text) → IsCutAt BeginsReport text text []
cut_end text none = record { whole = sym (append-nil text); lines = lines_of text; between = sym (append-nil (lines_of text)); none = none; next = inl refl }

pub many_lines : ManyLines
many_lines = record {
  ruled = codes "---\nb\n---\nc";
  stated = cut_a (codes "b" ∷ codes "---" ∷ codes "c" ∷ []) (codes "---\nb\n---\nc") refl;
  behind = codes "b\n---\nc";
  rule = inr refl;
  report = [];
  told = cut_end (codes "b\n---\nc") (no_report (codes "b") (codes "---" ∷ codes "c" ∷ []) (omega arith) (no_report (codes "---") (codes "c" ∷ []) (omega arith) (no_report (codes "c") [] (omega arith) no_reports)));
}

pub none_ruled : NoRules
none_ruled = grind (arith, common_steps, no_rules, no_rule)

pub reports : Reports
reports = (
  record {
    ruled = codes "---\nb\nemulate c\nd\n";
    stated = cut_a (codes "b" ∷ codes "emulate c" ∷ codes "d" ∷ []) (codes "---\nb\nemulate c\nd\n") refl;
    behind = codes "b\nemulate c\nd\n";
    rule = inr refl;
    report = codes "emulate c\nd\n";
    told = record { whole = refl; lines = codes "b" ∷ []; between = refl; none = line_b; next = inr (codes "emulate c", codes "d" ∷ [], refl, (codes "c", refl)) };
  },
  record {
    ruled = codes "---\nemulate c\nd\n";
    stated = cut_a (codes "emulate c" ∷ codes "d" ∷ []) (codes "---\nemulate c\nd\n") refl;
    behind = codes "emulate c\nd\n";
    rule = inr refl;
    report = codes "emulate c\nd\n";
    told = record { whole = refl; lines = []; between = refl; none = no_reports; next = inr (codes "emulate c", codes "d" ∷ [], refl, (codes "c", refl)) };
  },
  record {
    ruled = codes "---\nemulate\n";
    stated = cut_a (codes "emulate" ∷ []) (codes "---\nemulate\n") refl;
    behind = codes "emulate\n";
    rule = inr refl;
    report = [];
    told = cut_end (codes "emulate\n") (no_report (codes "emulate") [] (omega arith) no_reports);
  },
)

pub empty_traces : EmptyTraces
empty_traces = (
  record { ruled = codes "---\n"; stated = cut_a [] (codes "---\n") refl; behind = []; rule = inr refl; report = []; told = cut_end [] no_reports },
  record { ruled = codes "---"; stated = cut_a [] (codes "---") refl; behind = []; rule = inl (refl, refl); report = []; told = cut_end [] no_reports },
)

-- a rule at once
cut_here : (more : List (List ℕ)) (rest : List ℕ) → lines_of rest ≡ codes "---" ∷ more → IsCutAt IsRule rest [] rest
cut_here more rest here = record { whole = refl; lines = []; between = refl; none = no_rules; next = inr (codes "---", more, here, refl) }

pub empty_scenarios : EmptyScenarios
empty_scenarios = (
  record {
    ruled = codes "---\nb\n";
    stated = cut_here (codes "b" ∷ []) (codes "---\nb\n") refl;
    behind = codes "b\n";
    rule = inr refl;
    report = [];
    told = cut_end (codes "b\n") line_b;
  },
  record { ruled = codes "---"; stated = cut_here [] (codes "---") refl; behind = []; rule = inl (refl, refl); report = []; told = cut_end [] no_reports },
)

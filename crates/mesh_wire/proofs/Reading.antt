-- What the reading of a message answers, of either type.
use Rattle.mesh_wire.proofs.Common.{arith, common_steps, ◌≡◌, ℕ, subst, Contains, Option, None, Result, Ok, Err, List, length, map, sym, ap, ◌∙◌, refl, length-map, IfOk, IfErr, err_from_is_err_and, NetAddr, MessageFields, WireFault, AddressParts, IfBroken, GivesValue, RefusesAt, ReadsOrRefuses, Sums, of_blocks, BreakNone, BreaksFirst, HasKept, HasBroken, FirstBroken, Keeps, MessageSummary}
use Rattle.std.specs.Result.{IsErrAnd}
use Rattle.mesh_wire.specs.declared.fault.WireFault.TheVariants as faults
use Rattle.mesh_wire.proofs.InOrder.{NoneBelow, Outcome, of_rows, rule_broken, none_broken}
use Rattle.mesh_wire.proofs.Kept.{AreTold, are_told}
use Rattle.mesh_wire.proofs.Ruled.{Decides}
use Rattle.mesh_wire.proofs.Single.{one_broken}

gives_of : {X : Type 0} (Is : X → Type 0) (Breaks : ℕ → Option NetAddr → Type 0) (r : Result X WireFault) → ((a b : X) → Is a → Is b → a ≡ b) → IfOk r Is → IfErr r (IfBroken (FirstBroken Breaks)) → Keeps Breaks → (x : X) → Is x → GivesValue x r
gives_of Is Breaks r one ok err keeps x is = grind (arith, common_steps)

refuses_of : {X : Type 0} (Breaks : ℕ → Option NetAddr → Type 0) (r : Result X WireFault) → IfOk r (λ x. Keeps Breaks) → IfErr r (IfBroken (FirstBroken Breaks)) → (n : ℕ) (a : Option NetAddr) → FirstBroken Breaks n a → RefusesAt n a r
refuses_of Breaks (Ok y) ok err n a f = ok n a f.broken
refuses_of Breaks (Err (faults.Memory e)) ok err n a f = tt
refuses_of Breaks (Err (faults.Broken k b)) ok err n a f = one_broken Breaks k n b a err f

-- where a message that breaks no rule says one value at most
answered : {X : Type 0} (Is : X → Type 0) (Breaks : ℕ → Option NetAddr → Type 0) (r : Result X WireFault) → (Keeps Breaks → (a b : X) → Is a → Is b → a ≡ b) → IfOk r Is → IfOk r (λ x. Keeps Breaks) → IfErr r (IfBroken (FirstBroken Breaks)) →
    ReadsOrRefuses Is Breaks r
answered Is Breaks r one says keeps broken = record {
  says = says;
  keeps = keeps;
  broken = broken;
  only = λ x kept is. gives_of Is Breaks r (one kept) says broken kept x is;
  first = refuses_of Breaks r keeps broken;
}

-- values that are one have one summary
one_sum : {X S : Type 0} (summary_of : X → S) (Is : X → Type 0) → ((x y : X) → Is x → Is y → x ≡ y) → (s t : S) → Sums summary_of Is s → Sums summary_of Is t → s ≡ t
one_sum summary_of Is one s t (x, is_x, e) (y, is_y, f) = e ∙ ap summary_of (one x y is_x is_y) ∙ sym f

-- ---- messages of one type

module _ {X H Row : Type 0} (m : MessageFields) (rule : AddressParts → Option ℕ) (Breaks : ℕ → Option NetAddr → Type 0) (HeaderIs : H → Type 0) (Is : X → Type 0)
    (row_of : AddressParts → Row) (IsRows : List Row → Type 0) (summary_of : X → MessageSummary H) where
  pub record Laws : Type 0 where
    -- the first rule that addresses break is the first of the message
    pub found : (header : H) → HeaderIs header → (number : ℕ) (addr : Option NetAddr) → HasBroken rule (of_blocks m.blocks) number addr → FirstBroken Breaks number addr
    -- addresses that break none have the rows of the message
    pub kept : (header : H) → HeaderIs header → (told : List AddressParts) → BreakNone rule (of_blocks m.blocks) told → Keeps Breaks × IsRows (map row_of told)
    -- a header and rows are those of a value, and of one
    pub value : (header : H) → HeaderIs header → (rows : List Row) → IsRows rows → (x : X) × Is x × (summary_of x ≡ record { header = header; row_count = length rows })
    pub one : Keeps Breaks → (a b : X) → Is a → Is b → a ≡ b

  -- where the rules on addresses are behind those on the header
  pub laws_of : (start : ℕ) → ((told : List AddressParts) → AreTold m told → Decides Breaks rule told start) → ((header : H) → HeaderIs header → NoneBelow Breaks start) →
      ((told : List AddressParts) → AreTold m told → ((t : AddressParts) → Contains told t → rule t ≡ None) → IsRows (map row_of told)) →
      ((header : H) → HeaderIs header → (rows : List Row) → IsRows rows → (x : X) × Is x × (summary_of x ≡ record { header = header; row_count = length rows })) → (Keeps Breaks → (a b : X) → Is a → Is b → a ≡ b) → Laws
  laws_of start decides below rows value one = record {
    found = λ header h. rule_broken m Breaks rule start decides (below header h);
    kept = λ header h told f. (
        let (keeps, none) = none_broken m Breaks rule start decides (below header h) told f in
        (keeps, rows told (are_told m told f.collected) none));
    value = value;
    one = one;
  }

-- what follows from them
module _ {X H Row : Type 0} {m : MessageFields} {rule : AddressParts → Option ℕ} {Breaks : ℕ → Option NetAddr → Type 0} {HeaderIs : H → Type 0} {Is : X → Type 0}
    {row_of : AddressParts → Row} {IsRows : List Row → Type 0} {summary_of : X → MessageSummary H} (laws : Laws m rule Breaks HeaderIs Is row_of IsRows summary_of) where
  -- what a message reads as whose header breaks no rule, or the first rule that it breaks
  pub outcome_of : (header : H) → HeaderIs header → Outcome Is Breaks
  outcome_of header h = of_rows m rule Is Breaks (laws.found header h) (λ told has.
      let (keeps, rows) = laws.kept header h told has in
      let read = laws.value header h (map row_of told) rows in
      (read.0, read.1, keeps))

  module _ (header : Result H ℕ) (said : IfOk header HeaderIs) (none : IfErr header (λ number. FirstBroken Breaks number None)) where
    -- the first rule that is broken, on what stands before the rows or on addresses, is the first of the message
    refused : (fault : WireFault) → IfBroken (BreaksFirst header rule (of_blocks m.blocks)) fault → IfBroken (FirstBroken Breaks) fault
    refused fault broken = by header said none fault broken
      where
        by : (r : Result H ℕ) → IfOk r HeaderIs → IfErr r (λ number. FirstBroken Breaks number None) → (f : WireFault) → IfBroken (BreaksFirst r rule (of_blocks m.blocks)) f → IfBroken (FirstBroken Breaks) f
        by r said none (faults.Memory e) broken = tt
        by (Ok x) said none (faults.Broken number addr) broken = laws.found x said number addr broken
        by (Err first) said none (faults.Broken number addr) (same, at) = rw (same, at) none

    -- what a message says whose addresses break no rule
    pub all_said : (x : H) → header ≡ Ok x → (told : List AddressParts) → BreakNone rule (of_blocks m.blocks) told → (rows : List Row) → rows ≡ map row_of told → HeaderIs x × Keeps Breaks × IsRows rows
    all_said x is told clean rows made =
        let says : HeaderIs x = subst (λ (r : Result H ℕ). IfOk r HeaderIs) is said in
        let (keeps, are) = laws.kept x says told clean in
        (says, keeps, rw made are)

    pub handed_on : (fault : WireFault) → IfBroken (BreaksFirst header rule (of_blocks m.blocks)) fault → (r : Result X WireFault) → IsErrAnd r (λ e. e ≡ fault) → ReadsOrRefuses Is Breaks r
    handed_on fault broken r and =
        let (e, is, same) = err_from_is_err_and r and in
        rw (is, same) (answered Is Breaks (Err fault) laws.one tt tt (refused fault broken))

    pub read_answered : (x : X) → Is x → Keeps Breaks → ReadsOrRefuses Is Breaks (Ok x)
    read_answered x is keeps = answered Is Breaks (Ok x) laws.one is keeps tt

    sums : (s : MessageSummary H) → header ≡ Ok s.header → HasKept rule (of_blocks m.blocks) s.row_count → Sums summary_of Is s × Keeps Breaks
    sums s is (told, clean, count) =
        let (says, keeps, rows) = all_said s.header is told clean (map row_of told) refl in
        let (x, of_x, e) = laws.value s.header says (map row_of told) rows in
        ((x, of_x, ap (λ (n : ℕ). let t : MessageSummary H = record { header = s.header; row_count = n } in t) (count ∙ sym (length-map told row_of)) ∙ sym e), keeps)

    pub summary_answered : (r : Result (MessageSummary H) WireFault) → IfOk r (λ s. header ≡ Ok s.header) → IfOk r (λ s. HasKept rule (of_blocks m.blocks) s.row_count) → IfErr r (IfBroken (BreaksFirst header rule (of_blocks m.blocks))) →
        ReadsOrRefuses (Sums summary_of Is) Breaks r
    summary_answered (Ok s) is counted broken =
        let (sum, keeps) = sums s is counted in
        answered (Sums summary_of Is) Breaks (Ok s) (λ k. one_sum summary_of Is (laws.one k)) sum keeps tt
    summary_answered (Err fault) is counted broken = answered (Sums summary_of Is) Breaks (Err fault) (λ k. one_sum summary_of Is (laws.one k)) tt tt (refused fault broken)

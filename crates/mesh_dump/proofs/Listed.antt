-- A line that is refused, as it is listed.
use Rattle.mesh_dump.proofs.Common.{common_steps, ◌≡◌, ℕ, List, [], ◌∷◌, length, Result, Err, Bool, inl, refl, sym, subst, arith, OnOk, IfOk, decode_pairs, Refusal, IsLineText, ReadsAs, IsListing}
use Rattle.mesh_packet.specs.Grammar.{FirstFault, no_octet}
use Rattle.mesh_packet.specs.Least.{Wrote}

pub puts : {E : Type 0} (r : Result ℕ E) (recode : Bool) (number : ℕ) (line : List ℕ) (refusal : Refusal) (old new : List ℕ) → ReadsAs line (Err refusal)
    → OnOk r (Wrote (IsLineText recode number (Err refusal)) old new) → IfOk r (λ count. count ≡ 1) → IfOk r (λ count. Wrote (IsListing recode number line count) old new)
puts r recode number line refusal old new reads wrote counted = grind (arith, common_steps)

-- an empty line has no octet where a packet begins
pub empty_reads : (line : List ℕ) (refusal : Refusal) → length line ≡ 0 → refusal ≡ record { place = 0; reason = 1 } → ReadsAs line (Err refusal)
unfolding decode_pairs
empty_reads [] refusal none is = inl ([], refl, subst (λ (r : Refusal). FirstFault [] r.place r.reason) (sym is) (no_octet refl))
empty_reads (octet ∷ line) refusal none is = absurd (omega (arith, none))

-- What the output of a run says of it.
use Rattle.mesh_tool.proofs.Common.{◌≡◌, ℕ, List, Option, Some, None, inl, inr, none_not, fault, first, run_refusals, FirstRunRefusal, ToldInCall, RouterRunMakes, RunsSoFar}

-- octets of a router that is run aren't refused
pub clear_not_refused : (octets : List ℕ) (number : ℕ) (key : List ℕ) → first (run_refusals octets) ≡ None → FirstRunRefusal octets number key → ⊥
clear_not_refused octets number key clear refused = none_not {o = first (run_refusals octets)} {a = fault number key} clear refused

-- how a run that made these pieces used the clock and the air
pub run_uses : (octets : List ℕ) (turns : ℕ) (told : ToldInCall) (pieces : List (List ℕ)) (answer : Option (Unit {0})) → RouterRunMakes octets turns told pieces answer → RunsSoFar octets turns told
run_uses octets turns told pieces (Some u) (r, is) = inl r
run_uses octets turns told pieces None (none, short) = inr (inr (inr short))

-- Offers that are put one after the other.
use Rattle.mesh_topo.proofs.Common.{◌≡◌, List, [], ◌∷◌, ◌++◌, Option, None, refl, arith, common_steps, BTreeMap, get, NetAddr, Offer, net_cmp, offered, KeepsWithOffers}

pub offered_all : (net : NetAddr) (xs ys : List (NetAddr × Offer)) (offer : Option Offer) → offered net (xs ++ ys) offer ≡ offered net ys (offered net xs offer)
offered_all net [] ys offer = refl
offered_all net (x ∷ xs) ys offer = offered_all net xs ys _

-- what is still to be put
abbrev pub Leaves : BTreeMap NetAddr Offer → List (NetAddr × Offer) → BTreeMap NetAddr Offer → List (NetAddr × Offer) → Type 0
Leaves now left old all = (net : NetAddr) → offered net left (get net_cmp now net) ≡ offered net all (get net_cmp old net)

pub keeps_more : (old now next : BTreeMap NetAddr Offer) (some left before all : List (NetAddr × Offer)) → before ≡ some ++ left → Leaves now before old all → KeepsWithOffers now some next → Leaves next left old all
keeps_more old now next some left before all e h k net = grind (arith, common_steps, offered_all)

-- one list of offers after another, from an empty map
pub starting : (old mid new : BTreeMap NetAddr Offer) (xs ys : List (NetAddr × Offer)) → old.entries ≡ [] → KeepsWithOffers old xs mid → KeepsWithOffers mid ys new → (net : NetAddr) → get net_cmp new net ≡ offered net ys (offered net xs None)
starting old mid new xs ys empty h k net = grind (arith, common_steps)

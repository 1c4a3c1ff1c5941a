-- Addresses of the neighbours that a HELLO speaks of.
use Rattle.mesh_nhdp.proofs.Common.{◌≡◌, ℕ, ◌↔◌, ap, subst, List, Contains, Some, None, Addr4, Neighbour, Base, find, addr_eq, Matches, IsSpokenOf, Gathers, adds_so, adds_nothing, Each, IsWanted, IsWantedAt, IsSpokenAddress, IsSymmetricSpokenAddress, same_some, none_not, Symmetric}
use Rattle.mesh_nhdp.specs.declared.near_addresses.WantedNeighbours.{WantedNeighbours}

-- what is added of the neighbour that is found
pub adds_found : (base : Base Addr4 Neighbour) (wanted : WantedNeighbours) (o : Addr4) (n : Neighbour) (until : ℕ) (old new : List Addr4) → find addr_eq base o ≡ Some (n, until) →
    Gathers old new (λ a. IsWanted wanted n × Contains n.addrs a) → Gathers old new (IsWantedAt base wanted o)
adds_found base wanted o n until old new is adds = adds_so old new (λ a. IsWanted wanted n × Contains n.addrs a) (IsWantedAt base wanted o) (λ a. (
  (λ h. (n, until, is, h.0, h.1)),
  (λ h. let (m, moment, at, wants, has) = h in
      let same : m ≡ n = ap (λ (e : Neighbour × ℕ). e.0) (same_some at is) in
      (subst (λ (x : Neighbour). IsWanted wanted x) same wants, subst (λ (x : Neighbour). Contains x.addrs a) same has)),
)) adds

-- nothing is, where none is found
pub adds_unfound : (base : Base Addr4 Neighbour) (wanted : WantedNeighbours) (o : Addr4) (old new : List Addr4) → new ≡ old → find addr_eq base o ≡ None → Gathers old new (IsWantedAt base wanted o)
adds_unfound base wanted o old new is none = adds_nothing old new (IsWantedAt base wanted o) is (λ a h. let (n, until, at, wants, has) = h in none_not none at)

-- an address of a neighbour with one of these originators, which is wanted
abbrev IsWantedOf : Base Addr4 Neighbour → List Addr4 → WantedNeighbours → Addr4 → Type 0
IsWantedOf base originators wanted a = (o : Addr4) × Contains originators o × IsWantedAt base wanted o a

module _ (base seen : Base Addr4 Neighbour) (told : Addr4) (listed spoken looked addrs : List Addr4) (spoken_are : (o : Addr4) → Contains spoken o ↔ IsSpokenOf base told listed o) (same_base : seen ≡ base) (same : looked ≡ spoken) where
  -- a neighbour that a HELLO speaks of is one that it tells of
  matched : (o : Addr4) (n : Neighbour) (until : ℕ) → Contains spoken o → find addr_eq base o ≡ Some (n, until) → Matches told listed o n
  matched o n until within is = let (e, at, matches) = (spoken_are o).0 within in
      subst (λ (x : Neighbour). Matches told listed o x) (ap (λ (x : Neighbour × ℕ). x.0) (same_some at is)) matches

  wanted_of : (wanted : WantedNeighbours) (a : Addr4) → Contains addrs a ↔ IsWantedOf seen looked wanted a → Contains addrs a ↔ IsWantedOf base spoken wanted a
  wanted_of wanted a are = subst (λ (b : Base Addr4 Neighbour). Contains addrs a ↔ IsWantedOf b spoken wanted a) same_base (subst (λ (os : List Addr4). Contains addrs a ↔ IsWantedOf seen os wanted a) same are)

  pub all_spoken : ((a : Addr4) → Contains addrs a ↔ ((o : Addr4) × Contains looked o × IsWantedAt seen Each o a)) → (a : Addr4) → Contains addrs a ↔ IsSpokenAddress base told listed a
  all_spoken are a = (
    (λ c. let (o, within, at) = (wanted_of Each a (are a)).0 c in let (n, until, is, any, has) = at in (o, n, until, is, matched o n until within is, has)),
    (λ h. let (o, n, until, is, matches, has) = h in (wanted_of Each a (are a)).1 (o, (spoken_are o).1 ((n, until), is, matches), (n, until, is, tt, has))),
  )

  pub symmetric_spoken : ((a : Addr4) → Contains addrs a ↔ ((o : Addr4) × Contains looked o × IsWantedAt seen Symmetric o a)) → (a : Addr4) → Contains addrs a ↔ IsSymmetricSpokenAddress base told listed a
  symmetric_spoken are a = (
    (λ c. let (o, within, at) = (wanted_of Symmetric a (are a)).0 c in let (n, until, is, symmetric, has) = at in (o, n, until, is, (symmetric, matched o n until within is), has)),
    (λ h. let (o, n, until, is, both, has) = h in (wanted_of Symmetric a (are a)).1 (o, (spoken_are o).1 ((n, until), is, both.1), (n, until, is, both.0, has))),
  )

-- The taking of a HELLO: what is refused, what would be too much, and the answer.
use Rattle.std.specs.Prelude.{◌≡◌, ℕ, ◌+◌, ◌<◌, ◌≤◌, ◌⊎◌, ◌≢◌, ◌↔◌, List, Contains, Option, Some, None, length, IsTrue}
use Rattle.std.specs.List.{IsDistinct}
use Rattle.mesh_atoms.specs.declared.addr.Addr4.{Addr4}
use Rattle.mesh_atoms.specs.declared.hello.LocalIf.{LocalIf}
use Rattle.mesh_atoms.specs.declared.hello.LocalIf.TheVariants.{This}
use Rattle.mesh_atoms.specs.declared.hello.HelloRow.{HelloRow}
use Rattle.mesh_atoms.specs.declared.hello.Hello.{Hello}
use Rattle.mesh_atoms.specs.declared.limits.TheConstants.{MOST_TUPLES}
use Rattle.mesh_atoms.specs.declared.tuples.Neighbour.{Neighbour}
use Rattle.mesh_atoms.specs.declared.tuples.Lost.{Lost}
use Rattle.mesh_atoms.specs.declared.settings.RouterSettings.{RouterSettings}
use Rattle.mesh_atoms.specs.Base.{base_of, addr_eq}
use Rattle.mesh_atoms.specs.State.{Neighbourhood, neighbour_at, lost_at, HasAddress}
use Rattle.mesh_atoms.specs.HelloTold.{Told, Tells, TellsLocal, IsListed, LooksAt, tells_symmetric}
use Rattle.mesh_atoms.specs.AfterHello.{AfterHello}
use Rattle.mesh_atoms.specs.Words.{AreMoreThan}

-- Refused by its receiver (RFC 6130, section 12.1)

-- the HELLO names addresses of the receiver, which are those with the property, as the sender's
pub data IsOwn (Mine : Addr4 → Type 0) (sender : Addr4) (hello : Hello) : Type 0 where
  Local : (a : Addr4) (local : LocalIf) → Mine a → TellsLocal hello a local → IsOwn Mine sender hello
  Originator : (a : Addr4) → Mine a → hello.originator ≡ Some a → IsOwn Mine sender hello
  Sender : Mine sender → ((a : Addr4) → TellsLocal hello a This → ⊥) → IsOwn Mine sender hello

-- there is no originator, and several listed addresses
abbrev pub IsNameless : Addr4 → Hello → Type 0
IsNameless sender hello = (hello.originator ≡ None) × ((a b : Addr4) × IsListed hello sender a × IsListed hello sender b × (a ≢ b))

-- the number of the first of these two rules that is broken at a receiver whose addresses are those with the property
abbrev pub IsFaultAt : (Addr4 → Type 0) → Addr4 → Hello → Option ℕ → Type 0
IsFaultAt Mine sender hello None = (IsOwn Mine sender hello → ⊥) × (IsNameless sender hello → ⊥)
IsFaultAt Mine sender hello (Some number) =
    ((number ≡ 30) × IsOwn Mine sender hello) ⊎ ((number ≡ 31) × (IsOwn Mine sender hello → ⊥) × IsNameless sender hello)

-- the same at a router
abbrev pub IsFault : RouterSettings → Addr4 → Hello → Option ℕ → Type 0
IsFault settings sender hello number = IsFaultAt (HasAddress settings) sender hello number

-- Too much for the receiver's limits

-- an address or originator of a neighbour, or a lost address
abbrev pub IsHeld : Neighbourhood → Addr4 → Type 0
IsHeld near a =
    ((n : Neighbour × ℕ) × (neighbour_at near a ≡ Some n))
    ⊎ (((o : Addr4) × (n : Neighbour) × (until : ℕ) × (neighbour_at near o ≡ Some (n, until)) × Contains n.addrs a)
    ⊎ ((e : Lost × ℕ) × (lost_at near a ≡ Some e)))

-- with those of the HELLO these are more than 1,024
abbrev pub IsFullOfAddresses : Neighbourhood → Told → Type 0
IsFullOfAddresses near told = AreMoreThan 1024 (λ a. IsHeld near a ⊎ (Contains told.listed a ⊎ (a ≡ told.originator)))

-- so many rows tell of a SYMMETRIC neighbour of the sender
abbrev pub AreTwoHopRows : RouterSettings → Told → Hello → ℕ → Type 0
AreTwoHopRows settings told hello count =
    (some : List Addr4) × IsDistinct addr_eq some × (length some ≡ count)
    × ((a : Addr4) → Contains some a ↔ ((row : HelloRow) × LooksAt settings told hello a row × IsTrue (tells_symmetric row.link row.other)))

-- with the 2-hop tuples of interface i these are more than 16,384
abbrev pub IsFullOfTwoHops : RouterSettings → ℕ → Neighbourhood → Told → Hello → Type 0
IsFullOfTwoHops settings i near told hello =
    (count : ℕ) × AreTwoHopRows settings told hello count × (MOST_TUPLES < length (base_of near.two_hops i) + count)

-- they are no more than that
abbrev pub FitsTwoHops : RouterSettings → ℕ → Neighbourhood → Told → Hello → Type 0
FitsTwoHops settings i near told hello = (count : ℕ) × AreTwoHopRows settings told hello count × (length (base_of near.two_hops i) + count ≤ MOST_TUPLES)

-- The answer

-- what is answered to a HELLO
pub data HelloAnswer : Type 0 where
  Taken : HelloAnswer
  Broken_at : ℕ → HelloAnswer
  Full_of_addresses : HelloAnswer
  Full_of_two_hops : HelloAnswer

-- the taking of a HELLO on interface i, with its answer; only a HELLO that is taken changes anything
pub data TakesHello (settings : RouterSettings) (now i : ℕ) (sender : Addr4) (hello : Hello) (old : Neighbourhood) :
    Neighbourhood → HelloAnswer → Type 0 where
  Breaks : (number : ℕ) → IsFault settings sender hello (Some number) → TakesHello settings now i sender hello old old (Broken_at number)
  Overfull : (told : Told) → IsFault settings sender hello None → Tells settings i sender hello told → IsFullOfAddresses old told →
      TakesHello settings now i sender hello old old Full_of_addresses
  Overfull_two_hops : (told : Told) → IsFault settings sender hello None → Tells settings i sender hello told → (IsFullOfAddresses old told → ⊥) →
      IsFullOfTwoHops settings i old told hello → TakesHello settings now i sender hello old old Full_of_two_hops
  Takes : {new : Neighbourhood} (told : Told) → IsFault settings sender hello None → Tells settings i sender hello told →
      (IsFullOfAddresses old told → ⊥) →
      FitsTwoHops settings i old told hello → AfterHello settings now i told hello old new → TakesHello settings now i sender hello old new Taken

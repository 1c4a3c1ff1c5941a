-- What is judged of a HELLO before anything changes, and what is answered.
use Rattle.std.specs.Prelude.{◌≡◌, ℕ, ◌<◌, ◌^◌, length, Option, Some, None}
use Rattle.mesh_atoms.specs.declared.addr.Addr4.{Addr4}
use Rattle.mesh_atoms.specs.declared.hello.Hello.{Hello}
use Rattle.mesh_atoms.specs.declared.tuples.Base.{Base}
use Rattle.mesh_atoms.specs.declared.tuples.Base.TheVariants.{Neighbours, TwoHops}
use Rattle.mesh_atoms.specs.declared.settings.RouterSettings.{RouterSettings}
use Rattle.mesh_atoms.specs.State.{Neighbourhood}
use Rattle.mesh_atoms.specs.HelloTold.{Told, Tells}
use Rattle.mesh_atoms.specs.TakesHello.{IsFault, IsFullOfAddresses, IsFullOfTwoHops, FitsTwoHops}
use Rattle.mesh_atoms.specs.TakesHello.{HelloAnswer, Taken, Broken_at, Full_of_addresses, Full_of_two_hops}
use Rattle.mesh_nhdp.specs.declared.judge.HelloCheck.{HelloCheck}
use Rattle.mesh_nhdp.specs.declared.judge.HelloCheck.TheVariants.{Breaks, Overfills, Fits}
use Rattle.mesh_nhdp.specs.declared.take.HelloTaken.{HelloTaken}
use Rattle.mesh_nhdp.specs.declared.take.HelloTaken.TheVariants.{Done, Broken, Full}
use Rattle.mesh_hello.specs.Told.Telling.{told_of}

-- the HELLO came over an interface of the router, and the moment and its validity are in range
pub record CanTakeHello (settings : RouterSettings) (now i : ℕ) (hello : Hello) : Type 0 where
  pub now_range : now < 2 ^ 62
  pub is_interface : i < length settings.interfaces
  pub lasts : 0 < hello.validity
  pub validity_range : hello.validity < 2 ^ 62

-- the base that a HELLO which breaks no rule would fill, if there is one
abbrev pub IsFilledBy : RouterSettings → ℕ → Hello → Neighbourhood → Told → Option Base → Type 0
IsFilledBy settings i hello near told None = (IsFullOfAddresses near told → ⊥) × FitsTwoHops settings i near told hello
IsFilledBy settings i hello near told (Some Neighbours) = IsFullOfAddresses near told
IsFilledBy settings i hello near told (Some TwoHops) = (IsFullOfAddresses near told → ⊥) × IsFullOfTwoHops settings i near told hello
IsFilledBy settings i hello near told (Some base) = ⊥

-- the HELLO breaks a rule, is too much for a limit, or can be taken
abbrev pub Judges : RouterSettings → ℕ → Addr4 → Hello → Neighbourhood → HelloCheck → Type 0
Judges settings i sender hello near (Breaks number) = IsFault settings sender hello (Some number)
Judges settings i sender hello near (Overfills Neighbours) =
    (told : Told) × IsFault settings sender hello None × Tells settings i sender hello told × IsFullOfAddresses near told
Judges settings i sender hello near (Overfills TwoHops) =
    (told : Told) × IsFault settings sender hello None × Tells settings i sender hello told × (IsFullOfAddresses near told → ⊥) × IsFullOfTwoHops settings i near told hello
Judges settings i sender hello near (Overfills base) = ⊥
Judges settings i sender hello near (Fits telling) =
    IsFault settings sender hello None × Tells settings i sender hello (told_of telling) × (IsFullOfAddresses near (told_of telling) → ⊥)
    × FitsTwoHops settings i near (told_of telling) hello

-- the answer, as the definitions of the taking of a HELLO have it
abbrev pub IsAnswer : HelloTaken → HelloAnswer → Type 0
IsAnswer Done answer = answer ≡ Taken
IsAnswer (Broken number) answer = answer ≡ Broken_at number
IsAnswer (Full Neighbours) answer = answer ≡ Full_of_addresses
IsAnswer (Full TwoHops) answer = answer ≡ Full_of_two_hops
IsAnswer (Full base) answer = ⊥

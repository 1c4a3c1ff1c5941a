-- What is judged of a HELLO.
use Rattle.mesh_nhdp.proofs.Common.{◌≡◌, ℕ, ◌<◌, ◌≤◌, ◌+◌, refl, sym, subst, arith, length, None, Some, Addr4, Hello, RouterSettings, base_of, Neighbourhood, Told, Tells, IsFault, IsFullOfAddresses, IsFullOfTwoHops, FitsTwoHops, AreTwoHopRows, HelloAnswer, TakesHello, Full_of_addresses, Full_of_two_hops, Overfull, Overfull_two_hops, AfterHello, SoundNeighbourhood, IsFilledBy, Judges, IsAnswer}
use Rattle.mesh_atoms.specs.declared.tuples.Base.{Base}
use Rattle.mesh_atoms.specs.declared.tuples.Base.TheVariants.{Neighbours, TwoHops}
use Rattle.mesh_nhdp.specs.declared.judge.HelloCheck.TheVariants.{Overfills}
use Rattle.mesh_nhdp.specs.declared.take.HelloTaken.TheVariants.{Full}
use Rattle.mesh_nhdp.proofs.HelloSound.{hello_sound}

-- by the count of the rows and of the tuples that stand
pub overfills : (settings : RouterSettings) (i : ℕ) (near : Neighbourhood) (told : Told) (hello : Hello) (count held : ℕ) → AreTwoHopRows settings told hello count → held ≡ length (base_of near.two_hops i) → held ≤ 16384 →
    16384 < held + count → IsFullOfTwoHops settings i near told hello
overfills settings i near told hello count held rows is few more = (count, rows, omega (arith, is, more))

pub fits : (settings : RouterSettings) (i : ℕ) (near : Neighbourhood) (told : Told) (hello : Hello) (count held : ℕ) → AreTwoHopRows settings told hello count → held ≡ length (base_of near.two_hops i) →
    held + count ≤ 16384 → FitsTwoHops settings i near told hello
fits settings i near told hello count held rows is few = (count, rows, omega (arith, is, few))

-- a base that it would fill is what is judged
pub judged_full : (settings : RouterSettings) (i : ℕ) (sender : Addr4) (hello : Hello) (near : Neighbourhood) (told : Told) (base : Base) → IsFault settings sender hello None → Tells settings i sender hello told →
    IsFilledBy settings i hello near told (Some base) → Judges settings i sender hello near (Overfills base)
judged_full settings i sender hello near told Neighbours fault tells full = (told, fault, tells, full)
judged_full settings i sender hello near told TwoHops fault tells full = (told, fault, tells, full.0, full.1)
judged_full settings i sender hello near told base fault tells none = absurd none

-- what is too much is answered so, and changes nothing
pub overfull : (settings : RouterSettings) (now i : ℕ) (sender : Addr4) (hello : Hello) (near : Neighbourhood) (base : Base) → Judges settings i sender hello near (Overfills base) →
    (answer : HelloAnswer) × IsAnswer (Full base) answer × TakesHello settings now i sender hello near near answer
overfull settings now i sender hello near Neighbours judged = let (told, fault, tells, full) = judged in (Full_of_addresses, refl, Overfull told fault tells full)
overfull settings now i sender hello near TwoHops judged = let (told, fault, tells, few, full) = judged in (Full_of_two_hops, refl, Overfull_two_hops told fault tells few full)
overfull settings now i sender hello near base judged = absurd judged

-- a HELLO that is taken keeps what holds of the neighbourhood
pub taken_sound : (settings : RouterSettings) (now i : ℕ) (sender : Addr4) (hello : Hello) (told : Told) (old new : Neighbourhood) → IsFault settings sender hello None → Tells settings i sender hello told →
    0 < hello.validity → SoundNeighbourhood settings now old → AfterHello settings now i told hello old new → (IsFullOfAddresses old told → ⊥) → FitsTwoHops settings i old told hello → SoundNeighbourhood settings now new
taken_sound settings now i sender hello told old new fault tells lasts sound after few room =
    hello_sound settings now i sender hello told old new fault tells (subst (λ n. 0 < n) (sym tells.validity) lasts) (let least = settings.times.sound.link_hold_range.least in omega (arith, least))
    (let least = settings.times.sound.neighbour_hold_range.least in omega (arith, least)) sound after few room

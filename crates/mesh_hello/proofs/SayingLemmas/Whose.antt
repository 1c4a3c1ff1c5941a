-- Whose address it is of which a HELLO says something.
use Rattle.mesh_hello.proofs.Common.{◌≡◌, ℕ, ◌⊎◌, inl, inr, Addr4, Link, Lost, Neighbour, LinkState, Pending as Is_pending, Has, Part, This_if, Other_if, Link_lost, Link_symmetric, Link_heard, Other_lost, Other_symmetric, Link_in, Link_out, Near_in, Near_out, Flooding, Routing, Says, HasLinkTo, State, HasAddress, HasSymmetricWith}
use Rattle.mesh_atoms.specs.declared.tuples.LinkState.TheVariants.{Lost as Is_lost, Symmetric as Is_symmetric, Heard as Is_heard}

-- the part says that the address is the sender's
abbrev pub IsLocal : Part → Type 0
IsLocal This_if = Unit {0}
IsLocal Other_if = Unit {0}
IsLocal part = ⊥

-- a link that isn't PENDING, a symmetric neighbour or a lost tuple has the address
pub data HasTuple (s : State) (i now : ℕ) (a : Addr4) : Type 0 where
  Linked : (state : LinkState) (link : Link) → (state ≡ Is_pending → ⊥) → HasLinkTo s i now a state link → HasTuple s i now a
  Near : (o : Addr4) (n : Neighbour) → HasSymmetricWith s a o n → HasTuple s i now a
  Gone : (lost : Lost) → Has s.bases.neighbourhood.losts a lost → HasTuple s i now a

-- it is the router's own, or a tuple has it
pub whose : (s : State) (i now : ℕ) (a : Addr4) (part : Part) → Says s i now a part → (IsLocal part × HasAddress s.settings a) ⊎ HasTuple s i now a
whose s i now a This_if on = inl (tt, (i, on))
whose s i now a Other_if (j, other, on) = inl (tt, (j, on))
whose s i now a Link_lost (link, to) = inr (Linked Is_lost link (λ e. cc) to)
whose s i now a Link_symmetric (link, to) = inr (Linked Is_symmetric link (λ e. cc) to)
whose s i now a Link_heard (link, to) = inr (Linked Is_heard link (λ e. cc) to)
whose s i now a Other_lost (lost, has) = inr (Gone lost has)
whose s i now a Other_symmetric ((o, n, has), none) = inr (Near o n has)
whose s i now a (Link_in m) (link, inl to, is) = inr (Linked Is_heard link (λ e. cc) to)
whose s i now a (Link_in m) (link, inr to, is) = inr (Linked Is_symmetric link (λ e. cc) to)
whose s i now a (Link_out m) (link, to, is) = inr (Linked Is_symmetric link (λ e. cc) to)
whose s i now a (Near_in m) (o, n, has, is) = inr (Near o n has)
whose s i now a (Near_out m) (o, n, has, is) = inr (Near o n has)
whose s i now a Flooding h = inr (Linked Is_symmetric h.0 (λ e. cc) h.1)
whose s i now a Routing (o, n, has, is) = inr (Near o n has)

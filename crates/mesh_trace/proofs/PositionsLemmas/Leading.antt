-- Which line leads on from a position, by what is next there.
use Rattle.mesh_trace.proofs.Common.{◌≡◌, ℕ, List, [], ◌∷◌, ◌++◌, Some, refl, sym, subst, slice_get, State, lost_line, NetState, Frame, TellsItem, Tells_frame, Tells_loss, TellsFrame, IsLineOf, Item, Lost, Sent, TracePosition, IsDone, LineLeads, To_event, To_item}

-- a position of an event of router x at which these items are left
abbrev pub at : NetState → ℕ → List Item → TracePosition
at net x items = record { net = net; router = x; left = items }

-- nothing is done where something is left to be told
pub undone : (net : NetState) (x : ℕ) (item : Item) (rest : List Item) → IsDone (at net x (item ∷ rest)) → ⊥
undone net x item rest done = let none = done.none in cc

-- the next item is told
pub record LeadsItem (net : NetState) (x : ℕ) (item : Item) (rest : List Item) (line : List ℕ) (after : TracePosition) : Type 0 where
  pub s : State
  pub stands : slice_get net.routers x ≡ Some s
  pub new : NetState
  pub more : List Item
  pub tells : TellsItem net x s line item new more
  pub leads : after ≡ at new x (more ++ rest)

pub leads_item : (net : NetState) (x : ℕ) (item : Item) (rest : List Item) (line : List ℕ) (after : TracePosition) → LineLeads (at net x (item ∷ rest)) line after → LeadsItem net x item rest line after
leads_item net x item rest line after (To_event none opens) = absurd cc
leads_item net x item rest line after (To_item {s} {item = other} {rest = others} {more} {net = new} left stands tells leads) =
    let same : item ≡ other = cc in
    let same_rest : rest ≡ others = cc in
    record {
      s = s;
      stands = stands;
      new = new;
      more = more;
      tells = subst (λ (i : Item). TellsItem net x s line i new more) (sym same) tells;
      leads = subst (λ (l : List Item). after ≡ at new x (more ++ l)) (sym same_rest) leads;
    }

-- and leads on where it is told
pub to_item : (net : NetState) (x : ℕ) (item : Item) (rest : List Item) (line : List ℕ) (s : State) (new : NetState) (more : List Item) → slice_get net.routers x ≡ Some s →
    TellsItem net x s line item new more → LineLeads (at net x (item ∷ rest)) line (at new x (more ++ rest))
to_item net x item rest line s new more stands tells = To_item refl stands tells refl

-- a loss
pub tells_loss : (net : NetState) (x : ℕ) (s : State) (line : List ℕ) (n : ℕ) (new : NetState) (more : List Item) → TellsItem net x s line (Lost n) new more →
    IsLineOf line (lost_line net.scenario s.last n) × (new ≡ net) × (more ≡ [])
tells_loss net x s line n new more (Tells_loss is) = (is, refl, refl)

-- a frame of given octets
pub tells_frame : (net : NetState) (x : ℕ) (s : State) (line : List ℕ) (frame : Frame) (new : NetState) (more : List Item) → TellsItem net x s line (Sent frame) new more →
    TellsFrame net x s frame line new more
tells_frame net x s line frame new more (Tells_frame tells) = tells

-- What a router sends can be written.
use Rattle.mesh_bases.proofs.Common.{arith, common_steps, IsSentTime, IsSentIfSome, HaveStatusWhole, AreOneType, HaveTypeWhole, ◌≡◌, ℕ, ◌⊎◌, inl, inr, sym, ap, subst, ◌∙◌, List, [], ◌∷◌, ◌++◌, length, Option, Some, None, IsTrue, slice_get, NetAddr, Hello, TcRow, AreTcRows, IsTcRow, IsHelloNow, IsRoundedUp, RouterSettings, Relays, Neighbourhood, State, no_bases, Frame, IsHelloFrame}
use Rattle.mesh_bases.proofs.Pushed.{at_pushed}

-- a state with these settings, this neighbourhood and these relays
abbrev pub state_with : RouterSettings → Neighbourhood → Relays → State
state_with settings near relays = record {
  settings = settings;
  bases = record (no_bases 0) { neighbourhood = near };
  relays = relays;
  routes = [];
  rows = [];
  ansn = 0;
  emptied = None;
  sequence = 0;
  next_hello = 0;
  next_tc = 0;
  last = 0;
}

pub sent_time : (ticks time : ℕ) → IsRoundedUp ticks time → IsSentTime time
sent_time ticks time is = (is.code, is.sent, is.is)

pub sent_if_some : (o : Option ℕ) (ticks time : ℕ) → o ≡ Some time → IsRoundedUp ticks time → IsSentIfSome o
sent_if_some o ticks time at is = subst (λ (p : Option ℕ). IsSentIfSome p) (sym at) (sent_time ticks time is)

pub status_whole : (s : State) (i now : ℕ) (hello : Hello) → IsHelloNow s i now hello → HaveStatusWhole hello.rows
status_whole s i now hello is row has says = let (a, row_is) = is.rows row has in ap (λ (n : NetAddr). n.prefix) row_is.addr

pub one_type : (s : State) (row : TcRow) → IsTcRow s row → IsTrue row.origin ⊎ IsTrue row.routable → (row.gateway ≡ None) × (row.dest.prefix ≡ 32)
one_type s row h2 says = grind (arith, common_steps)

pub rows_one_type : (s : State) (rows : List TcRow) → AreTcRows s rows → AreOneType rows
rows_one_type s rows are row has says = (one_type s row ((are.exactly row).0 has) says).0

pub rows_whole : (s : State) (rows : List TcRow) → AreTcRows s rows → HaveTypeWhole rows
rows_whole s rows are row has says = (one_type s row ((are.exactly row).0 has) says).1

-- one frame more
pub one_frame_more : (s : State) (sent : List Frame) (k : ℕ) (frame : Frame) → length sent ≡ k → ((i : ℕ) (f : Frame) → slice_get sent i ≡ Some f → IsHelloFrame s i f) → IsHelloFrame s k frame →
    (i : ℕ) (f : Frame) → slice_get (sent ++ frame ∷ []) i ≡ Some f → IsHelloFrame s i f
one_frame_more s sent k frame count before here i f at = elim (at_pushed sent frame f i at) [
  | inl old ↦ before i f old
  | inr new ↦
      let place : k ≡ i = sym (new.0 ∙ count) in
      subst (λ (n : ℕ). IsHelloFrame s n f) place (subst (λ (x : Frame). IsHelloFrame s k x) new.1 here)
]

-- What rows of the receiver's addresses say.
use Rattle.mesh_hello.proofs.Common.{◌≡◌, ℕ, ◌<◌, ◌⊎◌, ◌↔◌, inl, inr, refl, sym, ap, subst, arith, List, [], ◌∷◌, length, Contains, Some, None, slice_get_within, Addr4, NetAddr, Hello, HelloRow, LinkStatus, Symmetric, Heard, RouterSettings, host, HasRowOf, TellsMe, IsMyStatus, HasAddress, HasAddressOn, same_net, IsMyRow, TellsMine}
use Rattle.mesh_atoms.specs.declared.hello.LinkStatus.TheVariants.{Lost as Down}
use Rattle.mesh_hello.specs.declared.told.mine.Sign.TheVariants.{Status}
use Rattle.mesh_hello.proofs.Collect.{SomeBelow}

-- a row of one of the addresses, and of the address
pub row_of : (hello : Hello) (own : List Addr4) (Q : HelloRow → Type 0) (P : Addr4 → Type 0) → ((a : Addr4) → Contains own a ↔ P a) →
    ((row : HelloRow) × Contains hello.rows row × IsMyRow own row × Q row) ↔ ((a : Addr4) × (row : HelloRow) × P a × HasRowOf hello a row × Q row)
row_of hello own Q P own_is = (
  λ h. let (row, c, of, q) = h in (row.addr.addr, row, (own_is row.addr.addr).0 of.1, (c, same_net row.addr (host row.addr.addr) refl of.0), q),
  λ h. let (a, row, p, of, q) = h in
      let same : row.addr.addr ≡ a = ap (λ (net : NetAddr). net.addr) of.1 in
      (row, of.0, (ap (λ (net : NetAddr). net.prefix) of.1, subst (λ (b : Addr4). Contains own b) (sym same) ((own_is a).1 p)), q),
)

-- the addresses of all interfaces
pub all_interfaces : (settings : RouterSettings) (a : Addr4) → SomeBelow settings.interfaces (length settings.interfaces) (λ face. Contains face.addrs a) ↔ HasAddress settings a
all_interfaces settings a = (
  λ s. let (k, face, lt, at, c) = s in (k, (face, at, c)),
  λ h. let (i, on) = h in let (face, at, c) = on in (i, face, slice_get_within settings.interfaces i face at, at, c),
)

-- a list of the addresses of the interface that sent a HELLO is not empty
pub sending_some : (list : List Addr4) (P : Addr4 → Type 0) (sender : Addr4) → ((a : Addr4) → Contains list a ↔ (P a ⊎ ((a ≡ sender) × ((b : Addr4) → P b → ⊥)))) → 0 < length list
sending_some [] P sender are = absurd (let c = (are sender).1 (inr (refl, λ b p. let there = (are b).1 (inl p) in omega (arith, there.1))) in omega (arith, c.1))
sending_some (x ∷ xs) P sender are = omega arith

-- a list that has all of one that isn't empty isn't empty
pub more_some : (some list : List Addr4) → 0 < length some → ((a : Addr4) → Contains some a → Contains list a) → 0 < length list
more_some [] list lt within = absurd (omega (arith, lt))
more_some (x ∷ xs) list lt within = let c = within x (0, omega arith, refl) in omega (arith, c.1)

-- the status, by what is shown
module _ (settings : RouterSettings) (i : ℕ) (hello : Hello) (own : List Addr4) (own_is : (a : Addr4) → Contains own a ↔ HasAddressOn settings i a) where
  pub tells_me : (status : LinkStatus) → TellsMine hello own (Status status) ↔ TellsMe settings i hello status
  tells_me status = row_of hello own (λ row. row.link ≡ Some status) (HasAddressOn settings i) own_is

  pub is_lost : TellsMine hello own (Status Down) → (TellsMine hello own (Status Heard) → ⊥) → (TellsMine hello own (Status Symmetric) → ⊥) → IsMyStatus settings i hello (Some Down)
  is_lost down not_heard not_symmetric = ((tells_me Down).0 down, (λ h. not_heard ((tells_me Heard).1 h)), (λ h. not_symmetric ((tells_me Symmetric).1 h)))

  pub is_unknown : (TellsMine hello own (Status Down) → ⊥) → (TellsMine hello own (Status Heard) → ⊥) → (TellsMine hello own (Status Symmetric) → ⊥) → IsMyStatus settings i hello None
  is_unknown not_down not_heard not_symmetric Down h = not_down ((tells_me Down).1 h)
  is_unknown not_down not_heard not_symmetric Heard h = not_heard ((tells_me Heard).1 h)
  is_unknown not_down not_heard not_symmetric Symmetric h = not_symmetric ((tells_me Symmetric).1 h)

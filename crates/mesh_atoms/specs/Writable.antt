-- Which typed messages can be written: what a HELLO or a TC keeps, by its times and rows.
use Rattle.std.specs.Prelude.{◌≡◌, ℕ, ◌⊎◌, List, Contains, Option, Some, None, IsSome, IsTrue, false}
use Rattle.mesh_atoms.specs.declared.hello.HelloRow.{HelloRow}
use Rattle.mesh_atoms.specs.declared.tc.TcRow.{TcRow}
use Rattle.mesh_atoms.specs.Codes.Codes.{time_value, IsSentCode}

-- the time of a code that is sent (RFC 5497, section 5)
abbrev pub IsSentTime : ℕ → Type 0
IsSentTime ticks = (code : ℕ) × IsSentCode code × (time_value code ≡ ticks)

-- such a time, where there is one
abbrev pub IsSentIfSome : Option ℕ → Type 0
IsSentIfSome None = Unit {0}
IsSentIfSome (Some ticks) = IsSentTime ticks

-- the row has no status, no metric and no relay
pub record IsAlone (row : HelloRow) : Type 0 where
  pub link : row.link ≡ None
  pub other : row.other ≡ None
  pub metrics : row.metrics ≡ record { link_in = None; link_out = None; near_in = None; near_out = None }
  pub mpr : row.mpr ≡ record { flooding = false; routing = false }

-- rows of the sender's addresses are so
abbrev pub HaveSenderAlone : List HelloRow → Type 0
HaveSenderAlone rows = (row : HelloRow) → Contains rows row → IsSome row.local → IsAlone row

-- what is an address of the sender or has a status is a whole address
abbrev pub HaveStatusWhole : List HelloRow → Type 0
HaveStatusWhole rows = (row : HelloRow) → Contains rows row → IsSome row.local ⊎ (IsSome row.link ⊎ IsSome row.other) → row.addr.prefix ≡ 32

-- an address of a router is no attached network
abbrev pub AreOneType : List TcRow → Type 0
AreOneType rows = (row : TcRow) → Contains rows row → IsTrue row.origin ⊎ IsTrue row.routable → row.gateway ≡ None

-- what is an address of a router is a whole address
abbrev pub IsHost : TcRow → Type 0
IsHost row = IsTrue row.origin ⊎ IsTrue row.routable → row.dest.prefix ≡ 32

-- all rows are so
abbrev pub HaveTypeWhole : List TcRow → Type 0
HaveTypeWhole rows = (row : TcRow) → Contains rows row → IsHost row

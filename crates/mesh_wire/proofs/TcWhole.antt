-- In a TC that breaks no rule, what says that it is a router's address is a whole address.
use Rattle.mesh_wire.proofs.Common.{◌≡◌, ℕ, inl, inr, arith, Some, List, [], ◌∷◌, cases_lt, TcRow, HaveTypeWhole, MessageFields, NBR_ADDR_TYPE, HasType, SaysFlag, Keeps, AreRows, IsReadTcRow, BreaksTc, ShortPrefix}

stands : (m : MessageFields) (row : TcRow) (flag : ℕ) → SaysFlag m row.dest NBR_ADDR_TYPE flag → HasType m row.dest NBR_ADDR_TYPE
stands m row flag (inl says) = (flag ∷ [], says)
stands m row flag (inr says) = (3 ∷ [], says)

whole_row : (m : MessageFields) (row : TcRow) → Keeps (BreaksTc m) → HasType m row.dest NBR_ADDR_TYPE → row.dest.prefix ≡ 32
whole_row m row keeps has = elim (cases_lt row.dest.prefix 32) as (λ _. row.dest.prefix ≡ 32) [
  | inl less ↦ absurd (keeps 37 (Some row.dest) (ShortPrefix row.dest has less))
  | inr not_less ↦ omega (arith, row.dest.within, not_less)
]

pub whole_rows : (m : MessageFields) (rows : List TcRow) → AreRows m (λ (row : TcRow). row.dest) (IsReadTcRow m) rows → Keeps (BreaksTc m) → HaveTypeWhole rows
whole_rows m rows are keeps row has (inl origin) = whole_row m row keeps (stands m row 1 ((are.each row has).1.origin.0 origin))
whole_rows m rows are keeps row has (inr routable) = whole_row m row keeps (stands m row 2 ((are.each row has).1.routable.0 routable))

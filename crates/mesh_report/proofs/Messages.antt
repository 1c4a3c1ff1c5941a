-- Messages and their spans, one after the other.
use Rattle.mesh_report.proofs.Common.{common_steps, ◌≡◌, ℕ, ◌+◌, ◌<◌, List, [], ◌++◌, length, map, drop, get_or, arith, drop-cons, MessageFields, Span, IsMessageText, IsMessagesText}

-- where no message and no span is left, nothing is to come
pub none_left : (messages : List MessageFields) (spans : List Span) → length messages ≡ 0 → length spans ≡ 0 → IsMessagesText messages spans []
none_left messages spans e e' = grind (arith, common_steps)

-- the text of the next message, and then that of those behind it
pub next_first : {X : Type 0} (f : X → MessageFields) (messages : List X) (spans : List Span) (i : ℕ) (message : X) (span : Span) (first rest : List ℕ)
    → i < length messages → i < length spans → IsMessageText (get_or spans i span).len (f (get_or messages i message)) first
    → IsMessagesText (map f (drop (i + 1) messages)) (drop (i + 1) spans) rest → IsMessagesText (map f (drop i messages)) (drop i spans) (first ++ rest)
next_first f messages spans i message span first rest in_messages in_spans is more = grind (arith, common_steps, drop-cons)

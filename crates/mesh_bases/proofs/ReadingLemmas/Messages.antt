-- What messages read as, one after the other.
use Rattle.mesh_bases.proofs.Common.{◌≡◌, ℕ, ◌+◌, ◌<◌, zero, suc, List, [], ◌∷◌, ◌++◌, length, take, get_or, Some, refl, ap, subst, slice_get, none-some, slice_get-get_or, Addr4, RouterSettings, Bases, Span, MessageFields, Arrival, Fate, Frame, octets_at, TakesMessage, TakesMessages, takes_snoc, taken_more, IsReadAs, AreReadAs}
use Rattle.mesh_bases.specs.declared.reading.message.TypedMessage.{TypedMessage}

pub read_count : (messages : List MessageFields) (typed : List TypedMessage) → AreReadAs messages typed → length typed ≡ length messages
read_count [] [] are = refl
read_count (m ∷ messages) (t ∷ typed) are = ap (λ (n : ℕ). suc n) (read_count messages typed are.1)
read_count [] (t ∷ typed) are = absurd are
read_count (m ∷ messages) [] are = absurd are

-- one message more
pub read_snoc : (messages : List MessageFields) (typed : List TypedMessage) (m : MessageFields) (t : TypedMessage) → AreReadAs messages typed → IsReadAs m t → AreReadAs (messages ++ m ∷ []) (typed ++ t ∷ [])
read_snoc [] [] m t are is = (is, tt)
read_snoc (n ∷ messages) (u ∷ typed) m t are is = (are.0, read_snoc messages typed m t are.1 is)
read_snoc [] (u ∷ typed) m t are is = absurd are
read_snoc (n ∷ messages) [] m t are is = absurd are

-- the message at the place of a value
pub read_at : (messages : List MessageFields) (typed : List TypedMessage) (i : ℕ) (t : TypedMessage) → AreReadAs messages typed → slice_get typed i ≡ Some t → (m : MessageFields) × (slice_get messages i ≡ Some m) × IsReadAs m t
read_at [] [] i t are at = absurd (none-some t at)
read_at (m ∷ messages) (u ∷ typed) zero t are at = (m, refl, subst (λ (x : TypedMessage). IsReadAs m x) (let same : u ≡ t = cc in same) are.0)
read_at (m ∷ messages) (u ∷ typed) (suc i) t are at = read_at messages typed i t are.1 at
read_at [] (u ∷ typed) i t are at = absurd are
read_at (m ∷ messages) [] i t are at = absurd are

-- the messages up to a place, and the one there
pub takes_more : (settings : RouterSettings) (own : Addr4) (arrival : Arrival) (bytes : List ℕ) (messages : List MessageFields) (spans : List Span) (i : ℕ) (m : MessageFields) (d : Span) (old mid new : Bases)
    (sent more : List Frame) (fates : List Fate) (fate : Fate) → slice_get messages i ≡ Some m → i < length spans →
    TakesMessages settings own arrival bytes old (take i messages) (take i spans) mid sent fates →
    TakesMessage settings own arrival mid m (octets_at bytes (get_or spans i d)) new more fate →
    TakesMessages settings own arrival bytes old (take (i + 1) messages) (take (i + 1) spans) new (sent ++ more) (fates ++ fate ∷ [])
takes_more settings own arrival bytes messages spans i m d old mid new sent more fates fate at within takes one =
    rw (taken_more messages i m at, taken_more spans i (get_or spans i d) (slice_get-get_or spans i d within)) (takes_snoc (get_or spans i d) takes one)

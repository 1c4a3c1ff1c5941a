-- The choices that a spelling of a block makes, what each costs, and what it writes.
use Rattle.std.specs.Prelude.{◌≡◌, ℕ, ◌+◌, ◌*◌, ◌-◌, ◌≤◌, List, [], ◌∷◌, ◌++◌, length, take, slice_range, replicate, Bool, true, nat_lt, ◌==◌, ◌&&◌, if◌then◌else◌}
use Rattle.mesh_addr.specs.declared.records.RawAddr.{RawAddr}
use Rattle.mesh_addr.specs.declared.choices.Choice.{Choice}
use Rattle.mesh_addr.specs.declared.choices.Limits.{Limits}
use Rattle.mesh_addr.specs.declared.choices.TailForm.{TailForm}
use Rattle.mesh_addr.specs.declared.choices.TailForm.TheVariants as tails
use Rattle.mesh_addr.specs.declared.choices.PrefixForm.{PrefixForm}
use Rattle.mesh_addr.specs.declared.choices.PrefixForm.TheVariants as forms
use Rattle.mesh_addr.specs.Grammar.{prefixes}

-- how many octets of an address are in the tail
abbrev pub tail_len : TailForm → ℕ
tail_len tails.Absent = 0
tail_len (tails.Zeros n) = n
tail_len (tails.Full n) = n

-- ---- which choices a block allows

-- the last `n` octets of an address of `width` octets
abbrev pub last_octets : ℕ → ℕ → RawAddr → List ℕ
last_octets width n a = slice_range a.octets (width - n) width

-- all begin with the same `n` octets
abbrev pub ShareHead : RawAddr → List RawAddr → ℕ → Type 0
ShareHead first [] n = Unit {0}
ShareHead first (a ∷ addrs) n = (take n first.octets ≡ take n a.octets) × ShareHead first addrs n

-- all end in the same `n` octets
abbrev pub ShareTail : ℕ → RawAddr → List RawAddr → ℕ → Type 0
ShareTail width first [] n = Unit {0}
ShareTail width first (a ∷ addrs) n = (last_octets width n first ≡ last_octets width n a) × ShareTail width first addrs n

-- the last `n` octets are zeros
abbrev pub EndsInZeros : ℕ → RawAddr → ℕ → Type 0
EndsInZeros width first n = last_octets width n first ≡ replicate n 0

-- what is written as zeros is zeros
abbrev pub TailFits : ℕ → RawAddr → TailForm → Type 0
TailFits width first tails.Absent = Unit {0}
TailFits width first (tails.Zeros n) = EndsInZeros width first n
TailFits width first (tails.Full n) = Unit {0}

-- the block can be spelled with this head and this tail
pub record IsPossible (width : ℕ) (first : RawAddr) (addrs : List RawAddr) (choice : Choice) : Type 0 where
  pub fits : choice.head + tail_len choice.tail ≤ width
  pub heads : ShareHead first addrs choice.head
  pub tails : ShareTail width first addrs (tail_len choice.tail)
  pub zeros : TailFits width first choice.tail

-- up to `most` the fact holds just of the numbers up to `limit`
pub record IsLimit (most : ℕ) (Holds : ℕ → Type 0) (limit : ℕ) : Type 0 where
  pub within : limit ≤ most
  pub below : (n : ℕ) → n ≤ limit → Holds n
  pub greatest : (n : ℕ) → n ≤ most → Holds n → n ≤ limit

-- how far head, tail and zeros of a block can reach
pub record AreLimits (width : ℕ) (first : RawAddr) (addrs : List RawAddr) (limits : Limits) : Type 0 where
  pub heads : IsLimit width (ShareHead first addrs) limits.head
  pub tails : IsLimit width (ShareTail width first addrs) limits.tail
  pub zeros : IsLimit limits.tail (EndsInZeros width first) limits.zeros

-- the tail is within the limits
abbrev pub IsTailWithin : Limits → TailForm → Type 0
IsTailWithin limits tails.Absent = Unit {0}
IsTailWithin limits (tails.Zeros n) = n ≤ limits.zeros
IsTailWithin limits (tails.Full n) = n ≤ limits.tail

-- a choice within the limits
pub record IsWithinLimits (width : ℕ) (limits : Limits) (choice : Choice) : Type 0 where
  pub fits : choice.head + tail_len choice.tail ≤ width
  pub head : choice.head ≤ limits.head
  pub tail : IsTailWithin limits choice.tail

-- ---- what a choice costs

-- octets of a head and its length; none where the head is empty
abbrev pub head_cost : ℕ → ℕ
head_cost head = if head == 0 then 0 else 1 + head

-- octets of a tail and its length
abbrev pub tail_cost : TailForm → ℕ
tail_cost tails.Absent = 0
tail_cost (tails.Zeros n) = 1
tail_cost (tails.Full n) = 1 + n

-- how many octets head, tail and middle parts of so many addresses take
unfoldable pub cost : ℕ → ℕ → Choice → ℕ
cost width count choice = head_cost choice.head + tail_cost choice.tail + count * (width - (choice.head + tail_len choice.tail))

-- the order of preference among tails
abbrev pub tail_rank : TailForm → ℕ
tail_rank tails.Absent = 0
tail_rank (tails.Zeros n) = 1
tail_rank (tails.Full n) = 2

-- the order of preference among choices of one cost: by the head's length, then by the tail's form and its length
abbrev pub choice_rank : Choice → ℕ
choice_rank choice = (choice.head * 3 + tail_rank choice.tail) * 17 + tail_len choice.tail

-- a number that is less for what is cheaper, and among what costs the same for what is preferred: ranks are below 867
abbrev pub weight : ℕ → ℕ → Choice → ℕ
weight width count choice = cost width count choice * 867 + choice_rank choice

-- the cheaper one, or the first of two that cost the same
abbrev pub cheaper : ℕ → ℕ → Choice → Choice → Choice
cheaper width count a b = if nat_lt (cost width count b) (cost width count a) then b else a

-- the best of all choices of a block that have this property
pub record IsBestOf (width count : ℕ) (Among : Choice → Type 0) (best : Choice) : Type 0 where
  pub among : Among best
  pub least : (other : Choice) → Among other → weight width count best ≤ weight width count other

-- a choice within the limits that has this head
abbrev pub HasHead : ℕ → Limits → ℕ → Choice → Type 0
HasHead width limits head choice = (choice.head ≡ head) × IsWithinLimits width limits choice

-- a choice within the limits that has a head below this one
abbrev pub HasHeadBelow : ℕ → Limits → ℕ → Choice → Type 0
HasHeadBelow width limits head choice = (choice.head + 1 ≤ head) × IsWithinLimits width limits choice

-- ---- prefix lengths

-- all have this prefix length
abbrev pub have_prefix : ℕ → List RawAddr → Bool
have_prefix p [] = true
have_prefix p (a ∷ addrs) = (a.prefix == p) && have_prefix p addrs

-- the shortest form of the prefix lengths
unfoldable pub form_of : ℕ → RawAddr → List RawAddr → PrefixForm
form_of width first addrs = if have_prefix (8 * width) addrs then forms.Absent else if have_prefix first.prefix addrs then forms.One else forms.Each

-- ---- what is written

-- the flag of a head (ahashead of RFC 5444), where it isn't empty
abbrev pub head_flag : ℕ → ℕ
head_flag head = if head == 0 then 0 else 128

-- the flag of a tail
abbrev pub tail_flag : TailForm → ℕ
tail_flag tails.Absent = 0
tail_flag (tails.Zeros n) = 32
tail_flag (tails.Full n) = 64

-- the flag of prefix lengths
abbrev pub form_flag : PrefixForm → ℕ
form_flag forms.Absent = 0
form_flag forms.One = 16
form_flag forms.Each = 8

-- the flags that a choice sets
abbrev pub flags_of : Choice → PrefixForm → ℕ
flags_of choice form = head_flag choice.head + tail_flag choice.tail + form_flag form

-- what is written of the head
abbrev pub head_text : ℕ → RawAddr → List ℕ
head_text head first = if head == 0 then [] else head ∷ take head first.octets

-- what is written of the tail
abbrev pub tail_text : TailForm → ℕ → RawAddr → List ℕ
tail_text tails.Absent width first = []
tail_text (tails.Zeros n) width first = n ∷ []
tail_text (tails.Full n) width first = n ∷ last_octets width n first

-- the octets from `start` to `end`, address by address
abbrev pub mids_text : ℕ → ℕ → List RawAddr → List ℕ
mids_text start end [] = []
mids_text start end (a ∷ addrs) = slice_range a.octets start end ++ mids_text start end addrs

-- what is written of the prefix lengths
abbrev pub prefixes_text : PrefixForm → RawAddr → List RawAddr → List ℕ
prefixes_text forms.Absent first addrs = []
prefixes_text forms.One first addrs = first.prefix ∷ []
prefixes_text forms.Each first addrs = prefixes addrs

-- the whole block
unfoldable pub text_of : ℕ → RawAddr → List RawAddr → Choice → PrefixForm → List ℕ
text_of width first addrs choice form =
    length addrs ∷ (flags_of choice form ∷ (head_text choice.head first
    ++ (tail_text choice.tail width first ++ (mids_text choice.head (width - tail_len choice.tail) addrs ++ prefixes_text form first addrs))))

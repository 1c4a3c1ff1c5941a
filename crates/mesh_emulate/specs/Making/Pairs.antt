-- The pairs of routers that are joined in a made scenario.
use Rattle.std.specs.Prelude.{◌≡◌, ℕ, ◌+◌, ◌-◌, ◌*◌, ◌%◌, ◌≤◌, List, [], ◌∷◌, ◌++◌, map, Bool, not, cond, nat_lt, nat_eq, ◌&&◌, zero, suc, if◌then◌else◌}
use Rattle.std.specs.List.{flat_map, list_any, range_with_len}
use Rattle.mesh_texts.specs.machine.Draws.{word_of}
use Rattle.mesh_emulate.specs.declared.making.pairs.RouterPair.{RouterPair}
use Rattle.mesh_emulate.specs.declared.making.kind.Kind.{Kind}
use Rattle.mesh_emulate.specs.declared.making.kind.Kind.TheVariants as kind

-- two routers by their numbers, the lower one first
abbrev pub pair : ℕ → ℕ → RouterPair
pair low high = record { low = low; high = high }

-- the pair alone where the test holds, and else none
abbrev pub pair_if : Bool → RouterPair → List RouterPair
pair_if test p = cond test (p ∷ []) []

-- In rows and in a ring

-- router i of n, in rows of c: joined with the next one of its row, and with the one below it
abbrev pub grid_pairs_of : ℕ → ℕ → ℕ → List RouterPair
grid_pairs_of c n i =
    pair_if (nat_lt (i + 1) n && not (nat_eq ((i + 1) % c) 0)) (pair i (i + 1)) ++ pair_if (nat_lt (i + c) n) (pair i (i + c))

-- n routers in rows of c
abbrev pub grid_pairs : ℕ → ℕ → List RouterPair
grid_pairs c n = flat_map (grid_pairs_of c n) (range_with_len 0 n)

-- so long are the rows of n routers: the least number of which the square is no less
pub record IsGridWidth (n c : ℕ) : Type 0 where
  pub enough : n ≤ c * c
  pub least : (d : ℕ) → n ≤ d * d → c ≤ d

-- each with the next one, and then the first with the last, where there are more than two
abbrev pub ring_pairs : ℕ → List RouterPair
ring_pairs n = map (λ i. pair i (i + 1)) (range_with_len 0 (n - 1)) ++ pair_if (nat_lt 2 n) (pair 0 (n - 1))

-- By draws

-- word k of the stream 1 of a seed
abbrev pub word : ℕ → ℕ → ℕ
word seed k = word_of seed 1 k

-- each router but the first with one before it, by a word each
abbrev pub tree_pairs : ℕ → ℕ → List RouterPair
tree_pairs seed n = map (λ i. pair (word seed i % (i + 1)) (i + 1)) (range_with_len 0 (n - 1))

abbrev pub same_pair : RouterPair → RouterPair → Bool
same_pair p q = nat_eq p.low q.low && nat_eq p.high q.high

-- two routers, where they differ and aren't joined yet
abbrev pub joined_with : List RouterPair → ℕ → ℕ → List RouterPair
joined_with pairs a b =
    let p = if nat_lt a b then pair a b else pair b a in
    pairs ++ pair_if (not (nat_eq a b) && not (list_any (same_pair p) pairs)) p

-- so many times two of n routers, by two words each, from word k on
abbrev pub more_pairs : ℕ → ℕ → ℕ → ℕ → List RouterPair → List RouterPair
more_pairs seed n k zero pairs = pairs
more_pairs seed n k (suc times) pairs = more_pairs seed n (k + 2) times (joined_with pairs (word seed k % n) (word seed (k + 1) % n))

-- a tree of n routers, and up to n pairs more
abbrev pub random_pairs : ℕ → ℕ → List RouterPair
random_pairs seed n = more_pairs seed n (n - 1) n (tree_pairs seed n)

-- the pairs of n routers
abbrev pub ArePairs : Kind → ℕ → ℕ → List RouterPair → Type 0
ArePairs kind.Grid n seed pairs = (c : ℕ) × IsGridWidth n c × (pairs ≡ grid_pairs c n)
ArePairs kind.Ring n seed pairs = pairs ≡ ring_pairs n
ArePairs kind.Random n seed pairs = pairs ≡ random_pairs seed n

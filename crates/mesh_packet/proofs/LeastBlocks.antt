-- Each address block that can be written has a least spelling: the best of all choices is found by trying each.
use Rattle.mesh_packet.proofs.Common.{common_steps, ◌≡◌, ℕ, zero, suc, ◌+◌, ◌-◌, ◌<◌, ◌≤◌, ◌⊎◌, inl, inr, List, [], ◌∷◌, length, take, refl, sym, ap, subst, ◌∙◌, arith, replicate, RawAddr, IsWritable, IsLeast, heads_equal, tails_equal}
use Rattle.mesh_addr.specs.declared.choices.Choice.{Choice}
use Rattle.mesh_addr.specs.declared.choices.TailForm.{TailForm}
use Rattle.mesh_addr.specs.declared.choices.TailForm.TheVariants as tails
use Rattle.mesh_addr.specs.Spelling.{tail_len, last_octets, ShareHead, ShareTail, TailFits, IsPossible, weight, text_of, form_of}
use Rattle.mesh_addr.proofs.Fewest.{least_of_first}

-- ---- what can be decided

abbrev Decided : Type 0 → Type 0
Decided P = P ⊎ (P → ⊥)

both_decided : {P Q : Type 0} → Decided P → Decided Q → Decided (P × Q)
both_decided h0 h1 = grind (arith, common_steps)

most_decided : (m n : ℕ) → Decided (m ≤ n)
most_decided m n = grind (arith, common_steps)

number_decided : (m n : ℕ) → Decided (m ≡ n)
number_decided m n = grind (arith, common_steps)

no_front : (x : ℕ) (xs : List ℕ) → x ∷ xs ≡ [] → ⊥
no_front x xs e = absurd (omega (arith, ap length e))

cons_decided : (x y : ℕ) (xs ys : List ℕ) → Decided ((x ≡ y) × (xs ≡ ys)) → Decided (x ∷ xs ≡ y ∷ ys)
cons_decided x y xs ys h4 = grind (arith, common_steps, heads_equal, tails_equal)

list_decided : (xs ys : List ℕ) → Decided (xs ≡ ys)
list_decided [] [] = inl refl
list_decided (x ∷ xs) [] = inr (no_front x xs)
list_decided [] (y ∷ ys) = inr (λ e. no_front y ys (sym e))
list_decided (x ∷ xs) (y ∷ ys) = cons_decided x y xs ys (both_decided (number_decided x y) (list_decided xs ys))

head_decided : (first : RawAddr) (addrs : List RawAddr) (n : ℕ) → Decided (ShareHead first addrs n)
head_decided first [] n = inl tt
head_decided first (a ∷ addrs) n = both_decided (list_decided (take n first.octets) (take n a.octets)) (head_decided first addrs n)

tail_decided : (w : ℕ) (first : RawAddr) (addrs : List RawAddr) (n : ℕ) → Decided (ShareTail w first addrs n)
tail_decided w first [] n = inl tt
tail_decided w first (a ∷ addrs) n = both_decided (list_decided (last_octets w n first) (last_octets w n a)) (tail_decided w first addrs n)

zeros_decided : (w : ℕ) (first : RawAddr) (tail : TailForm) → Decided (TailFits w first tail)
zeros_decided w first tails.Absent = inl tt
zeros_decided w first (tails.Zeros n) = list_decided (last_octets w n first) (replicate n 0)
zeros_decided w first (tails.Full n) = inl tt

possible_decided : (w : ℕ) (first : RawAddr) (addrs : List RawAddr) (choice : Choice) → Decided (IsPossible w first addrs choice)
possible_decided w first addrs choice = grind (arith, common_steps, both_decided, most_decided, tail_len, head_decided, tail_decided, zeros_decided)

-- ---- the best of some choices

module _ (cost : Choice → ℕ) (Among : Choice → Type 0) (decide : (choice : Choice) → Decided (Among choice)) where
  -- none of these is among them, or one that is costs no more than each of these that is
  abbrev Sought : (Choice → Type 0) → Type 0
  Sought These = ((c : Choice) → These c → Among c → ⊥) ⊎ ((best : Choice) × Among best × ((c : Choice) → These c → Among c → cost best ≤ cost c))

  sought_one : (c : Choice) → Sought (λ d. d ≡ c)
  sought_one c = by (decide c) where
    by : Decided (Among c) → Sought (λ d. d ≡ c)
    by (inl h) = inr (c, h, λ d e k. rw e (omega arith))
    by (inr n) = inl (λ d e k. n (subst Among e k))

  sought_fewer : (These Those : Choice → Type 0) → ((c : Choice) → Those c → These c) → Sought These → Sought Those
  sought_fewer These Those part h3 = grind (arith, common_steps)

  sought_both : (These Those : Choice → Type 0) → Sought These → Sought Those → Sought (λ c. These c ⊎ Those c)
  sought_both These Those (inl a) (inl b) = grind (arith, common_steps)
  sought_both These Those (inr x) (inl b) = grind (arith, common_steps)
  sought_both These Those (inl a) (inr y) = grind (arith, common_steps)
  sought_both These Those (inr x) (inr y) = by (most_decided (cost x.0) (cost y.0)) where
    first : cost x.0 ≤ cost y.0 → (c : Choice) → These c ⊎ Those c → Among c → cost x.0 ≤ cost c
    first le c (inl h) k = x.2 c h k
    first le c (inr h) k = omega (arith, le, y.2 c h k)

    second : (cost x.0 ≤ cost y.0 → ⊥) → (c : Choice) → These c ⊎ Those c → Among c → cost y.0 ≤ cost c
    second n c (inl h) k = omega (arith, n, x.2 c h k)
    second n c (inr h) k = y.2 c h k

    by : Decided (cost x.0 ≤ cost y.0) → Sought (λ c. These c ⊎ Those c)
    by (inl le) = inr (x.0, x.1, first le)
    by (inr n) = inr (y.0, y.1, second n)

  -- of each number below a bound
  abbrev Below : ℕ → (ℕ → Choice → Type 0) → Choice → Type 0
  Below n These c = (i : ℕ) × (i < n) × These i c

  last_or_before : (n : ℕ) (These : ℕ → Choice → Type 0) (c : Choice) → Below (suc n) These c → Below n These c ⊎ These n c
  last_or_before n These c h = grind (arith, common_steps, number_decided)

  sought_below : (n : ℕ) (These : ℕ → Choice → Type 0) → ((i : ℕ) → Sought (These i)) → Sought (Below n These)
  sought_below zero These each = inl (λ c h k. absurd (omega (arith, h.1)))
  sought_below (suc n) These each =
      sought_fewer (λ c. Below n These c ⊎ These n c) (Below (suc n) These) (last_or_before n These) (sought_both (Below n These) (These n) (sought_below n These each) (each n))

  -- each choice of that head whose tail has at most 16 octets
  abbrev HasHead : ℕ → Choice → Type 0
  HasHead head c =
      (c ≡ record { head = head; tail = tails.Absent }) ⊎ (Below 17 (λ n c. c ≡ record { head = head; tail = tails.Zeros n }) c ⊎ Below 17 (λ n c. c ≡ record { head = head; tail = tails.Full n }) c)

  sought_head : (head : ℕ) → Sought (HasHead head)
  sought_head head =
      let zeros : ℕ → Choice → Type 0 = λ n c. c ≡ record { head = head; tail = tails.Zeros n } in
      let full : ℕ → Choice → Type 0 = λ n c. c ≡ record { head = head; tail = tails.Full n } in
      sought_both (λ c. c ≡ record { head = head; tail = tails.Absent }) (λ c. Below 17 zeros c ⊎ Below 17 full c) (sought_one (record { head = head; tail = tails.Absent }))
      (sought_both (Below 17 zeros) (Below 17 full) (sought_below 17 zeros (λ n. sought_one (record { head = head; tail = tails.Zeros n }))) (sought_below 17 full (λ n. sought_one (record { head = head; tail = tails.Full n }))))

  has_head : (head : ℕ) (tail : TailForm) → head + tail_len tail ≤ 16 → HasHead head (record { head = head; tail = tail })
  has_head head tail le = grind (arith, common_steps)

  small : (c : Choice) → c.head + tail_len c.tail ≤ 16 → Below 17 HasHead c
  small c le = (c.head, omega (arith, le), has_head c.head c.tail le)

  best_small : ((c : Choice) → Among c → c.head + tail_len c.tail ≤ 16) → (c : Choice) → Among c → (best : Choice) × Among best × ((d : Choice) → Among d → cost best ≤ cost d)
  best_small fits c h = by (sought_below 17 HasHead sought_head) where
    by : Sought (Below 17 HasHead) → (best : Choice) × Among best × ((d : Choice) → Among d → cost best ≤ cost d)
    by (inl none) = absurd (none c (small c (fits c h)) h)
    by (inr x) = (x.0, x.1, λ d k. x.2 d (small d (fits d k)) k)

-- ---- the choice of no head and no tail is possible

no_head : (first : RawAddr) (addrs : List RawAddr) → ShareHead first addrs 0
no_head first [] = tt
no_head first (a ∷ addrs) = (refl, no_head first addrs)

no_octets : (w : ℕ) (a : RawAddr) → last_octets w 0 a ≡ []
no_octets w a = let none : w - (w - 0) ≡ 0 = omega arith in rw none refl

no_tail : (w : ℕ) (first : RawAddr) (addrs : List RawAddr) → ShareTail w first addrs 0
no_tail w first [] = tt
no_tail w first (a ∷ addrs) = (no_octets w first ∙ sym (no_octets w a), no_tail w first addrs)

plain : (w : ℕ) (first : RawAddr) (addrs : List RawAddr) → IsPossible w first addrs (record { head = 0; tail = tails.Absent })
plain w first addrs = record { fits = omega arith; heads = no_head first addrs; tails = no_tail w first addrs; zeros = tt }

pub least_exists : (w : ℕ) (addrs : List RawAddr) → IsWritable w addrs → (text : List ℕ) × IsLeast w addrs text
least_exists w [] h = absurd (omega (arith, h.some))
least_exists w (a ∷ addrs) h =
    let all : List RawAddr = a ∷ addrs in
    let best = best_small (weight w (length all)) (IsPossible w a all) (possible_decided w a all) (λ c p. omega (arith, p.fits, h.narrow)) (record { head = 0; tail = tails.Absent }) (plain w a all) in
    (text_of w a all best.0 (form_of w a all), least_of_first w a all best.0 refl h (record { among = best.1; least = best.2 }))

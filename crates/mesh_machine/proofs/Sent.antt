-- What holds of the frames in the air of an emulated network, when one is heard and when some are sent.
use Rattle.mesh_machine.proofs.Common.{ℕ, ◌+◌, ◌<◌, ◌≤◌, List, [], ◌∷◌, ◌++◌, sym, subst, length, arith, All, common_steps, enumerate_from, All-nil, All-cons, All-head, All-tail, All-weaker, All-append, All-push, All-filter, RadioArc, Scenario, Traffic, Delivery, IsHeardFirst, Spreads, No_arcs, Loses, Carries, SendsAll, leaves, leaving, with_delivery, with_loss, with_sent}
use Rattle.mesh_atoms.specs.declared.network.Emission.{Emission}

-- Lists

pub split_all : {A : Type 0} (P : A → Type 0) (xs ys : List A) → All P (xs ++ ys) → All P xs × All P ys
split_all P [] ys h = (All-nil P, h)
split_all P (x ∷ xs) ys h = let more = split_all P xs ys (All-tail P x (xs ++ ys) h) in (All-cons P x xs (All-head P x (xs ++ ys) h) more.0, more.1)

-- The first is taken

pub first_and_others : (P : Delivery → Type 0) (air : List Delivery) (d : Delivery) (others : List Delivery) → IsHeardFirst air d others → All P air → P d × All P others
first_and_others P air d others first h =
    let parts = split_all P first.before (d ∷ first.behind) (subst (All P) first.whole h) in
    (All-head P d first.behind parts.1, subst (All P) (sym first.left) (All-append P first.before first.behind parts.0 (All-tail P d first.behind parts.1)))

pub others_later : (air : List Delivery) (d : Delivery) (others : List Delivery) → IsHeardFirst air d others → All (λ e. d.moment ≤ e.moment) others
others_later air d others first = grind (arith, common_steps)

-- Frames are sent

-- what is in the air of a frame that is sent now by an arc behind its number
abbrev pub flies_by : ℕ → List ℕ → ℕ × RadioArc → Delivery
flies_by now frame a = record { moment = now + a.1.delay; arc = a.0; frame = frame }

spread_all : (P : Delivery → Type 0) (s : Scenario) (now : ℕ) (frame : List ℕ) (arcs : List (ℕ × RadioArc)) (lost : List ℕ) (old new : Traffic) → All (λ a. P (flies_by now frame a)) arcs →
    Spreads s now frame arcs lost old new → All P old.air → All P new.air
spread_all P s now frame [] [] old new each No_arcs h = h
spread_all P s now frame [] (n ∷ lost) old new each spreads h = elim spreads [ ]
spread_all P s now frame (a ∷ arcs) (n ∷ lost) old new each (Loses loses rest) h =
    spread_all P s now frame arcs lost (with_loss old) new (All-tail (λ (a : ℕ × RadioArc). P (flies_by now frame a)) a arcs each) rest h
spread_all P s now frame (a ∷ arcs) lost old new each (Carries carries rest) h =
    spread_all P s now frame arcs lost (with_delivery old (flies_by now frame a)) new (All-tail (λ (a : ℕ × RadioArc). P (flies_by now frame a)) a arcs each) rest
    (All-push P old.air (flies_by now frame a) h (All-head (λ (a : ℕ × RadioArc). P (flies_by now frame a)) a arcs each))

-- what holds of all in the air still holds, where it holds of what is sent
pub sent_all : (P : Delivery → Type 0) (s : Scenario) (now x : ℕ) (sent : List Emission) (old new : Traffic) → All (λ e. All (λ a. P (flies_by now e.frame a)) (leaving s.arcs x e.iface)) sent →
    SendsAll s now x sent old new → All P old.air → All P new.air
sent_all P s now x [] old new each is h = subst (λ (t : Traffic). All P t.air) (sym is) h
sent_all P s now x (e ∷ es) old new each (mid, sends, rest) h =
    let part : Emission → Type 0 = λ e. All (λ a. P (flies_by now e.frame a)) (leaving s.arcs x e.iface) in
    sent_all P s now x es mid new (All-tail part e es each) rest
    (spread_all P s now e.frame (leaving s.arcs x e.iface) e.lost (with_sent old) mid (All-head part e es each) sends h)

enumerated : {A : Type 0} (n : ℕ) (xs : List A) → All (λ p. p.0 < n + length xs) (enumerate_from n xs)
enumerated n [] = All-nil (λ p. p.0 < n + 0)
enumerated n (x ∷ xs) = grind (arith, common_steps, enumerated (n + 1) xs)

pub numbered : (arcs : List RadioArc) (x i : ℕ) → All (λ a. a.0 < length arcs) (leaving arcs x i)
numbered arcs x i =
    All-filter (λ (a : ℕ × RadioArc). leaves x i a.1) (λ (a : ℕ × RadioArc). a.0 < length arcs) (enumerate_from 0 arcs)
    (All-weaker (λ (a : ℕ × RadioArc). a.0 < 0 + length arcs) (λ (a : ℕ × RadioArc). a.0 < length arcs) (λ a lt. omega (arith, lt)) (enumerate_from 0 arcs) (enumerated 0 arcs))

-- what is sent is heard later
pub sent_later : (s : Scenario) (now x : ℕ) (sent : List Emission) (old new : Traffic) → SendsAll s now x sent old new → All (λ d. now < d.moment) old.air → All (λ d. now < d.moment) new.air
sent_later s now x sent old new sends h =
    sent_all (λ d. now < d.moment) s now x sent old new (λ k e below. all_later (leaving s.arcs x _)) sends h
  where
    all_later : (arcs : List (ℕ × RadioArc)) → All (λ a. now < now + a.1.delay) arcs
    all_later [] = All-nil (λ a. now < now + a.1.delay)
    all_later (a ∷ arcs) = All-cons (λ a. now < now + a.1.delay) a arcs (let some = a.1.delayed in omega (arith, some)) (all_later arcs)

-- Arcs on which a frame is lost

spread_lost : (s : Scenario) (now n : ℕ) (frame : List ℕ) (arcs : List (ℕ × RadioArc)) (lost : List ℕ) (old new : Traffic) → All (λ a. a.0 < n) arcs → Spreads s now frame arcs lost old new → All (λ k. k < n) lost
spread_lost s now n frame [] [] old new below No_arcs = All-nil (λ k. k < n)
spread_lost s now n frame [] (k ∷ lost) old new below spreads = elim spreads [ ]
spread_lost s now n frame (a ∷ arcs) (k ∷ lost) old new below (Loses loses rest) = grind (arith, common_steps, All-cons, All-head, All-tail, (spread_lost s now n frame arcs lost (with_loss old) new (All-tail (λ (a : ℕ × RadioArc). a.0 < n) a arcs below) rest))
spread_lost s now n frame (a ∷ arcs) lost old new below (Carries carries rest) =
    spread_lost s now n frame arcs lost (with_delivery old (flies_by now frame a)) new (All-tail (λ (a : ℕ × RadioArc). a.0 < n) a arcs below) rest

-- they are the scenario's
pub sent_lost : (s : Scenario) (now x : ℕ) (sent : List Emission) (old new : Traffic) → SendsAll s now x sent old new → All (λ e. All (λ n. n < length s.arcs) e.lost) sent
sent_lost s now x [] old new is = All-nil (λ e. All (λ n. n < length s.arcs) e.lost)
sent_lost s now x (e ∷ es) old new (mid, sends, rest) =
    All-cons (λ (e : Emission). All (λ n. n < length s.arcs) e.lost) e es
    (spread_lost s now (length s.arcs) e.frame (leaving s.arcs x e.iface) e.lost (with_sent old) mid (numbered s.arcs x e.iface) sends)
    (sent_lost s now x es mid new rest)

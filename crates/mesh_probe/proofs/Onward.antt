-- A flood, frame by frame: it comes to an end, and the whole of it is a flood.
use Rattle.mesh_probe.proofs.Common.{◌≡◌, ℕ, suc, ◌+◌, ◌*◌, ◌<◌, ◌≤◌, inl, inr, sym, ◌∙◌, ap, subst, arith, List, [], ◌∷◌, ◌++◌, length, Contains, true, false, Some, map, drop, take, nat_eq, All, slice_get, common_steps, AllPairs, IsDistinct, cases_Bool, append-nil, drop_more, drop_all, take_all, drop-append-le, take-append-le, take-append-drop, length-map, All-head, All-tail, All-append, All-contains, IsDistinct-cons, length-le_from_distinct_below, slice_get_within, get_or_from_slice_get, Addr4, Scenario, State, Transmission, hearers_of, IsInterfaceSender, AllHear, Flood, No_frame_waits, First_frame, CanHear, IsOfInterface, FloodsTo, Nothing_heard, One_more, SendsOnceFrom, AreSentApart, contains_tail as in_tail, contains_head as here}
use Rattle.mesh_probe.proofs.Covers.{has_cases, none_distinct, none_equal}
use Rattle.mesh_probe.proofs.Queues.{take_more}
use Rattle.mesh_probe.proofs.Wave.{has}

-- what is left of a flood makes the whole
completes : {s : Scenario} {now : ℕ} {old : List State} {first : List Transmission} {new : List State} {more heard waiting : List Transmission} {mid : List State} →
    FloodsTo s now old first heard mid waiting → Flood s now mid waiting new more → Flood s now old first new (heard ++ more)
completes Nothing_heard flood = flood
completes {s = s} {now = now} {old = old} {first = first} {new = new} {more = more} (One_more {heard = heard} {rest = rest} {more = sent} {f = f} {mid = mid} sender to is hear) flood = grind (arith, common_steps, (completes to (First_frame sender is hear flood)))

-- How many frames there are

-- a number for each interface of each router
abbrev place_of : Transmission → ℕ
place_of t = t.router * 8 + t.frame.iface

few_faces : (s : Scenario) (t : Transmission) → IsOfInterface s t → (t.router < length s.routers) × (t.frame.iface < 8)
few_faces s t (r, is, less) = grind (arith, common_steps, length-map, slice_get_within)

place_below : (s : Scenario) (t : Transmission) → IsOfInterface s t → place_of t < length s.routers * 8
place_below s t of = let (x, i) = few_faces s t of in omega (arith, x, i)

same_place : (s : Scenario) (t u : Transmission) → IsOfInterface s t → IsOfInterface s u → place_of t ≡ place_of u → (t.router ≡ u.router) × (t.frame.iface ≡ u.frame.iface)
same_place s t u of there e = grind (arith, common_steps, few_faces)

-- pairs of what is behind the first, and with it
tail_pairs : (t : Transmission) (ts : List Transmission) → AllPairs AreSentApart (t ∷ ts) → AllPairs AreSentApart ts
tail_pairs t ts apart i j d l n = apart (suc i) (suc j) d (omega (arith, l)) (omega (arith, n))

head_apart : (t u : Transmission) (ts : List Transmission) → AllPairs AreSentApart (t ∷ ts) → Contains ts u → AreSentApart t u
head_apart t u ts apart (k, less, is) = subst (λ (v : Transmission). AreSentApart t v) is (apart 0 (suc k) u (omega arith) (omega (arith, less)))

placed : (n : ℕ) (ts : List Transmission) → has (map place_of ts) n ≡ true → (u : Transmission) × Contains ts u × (place_of u ≡ n)
placed n [] h = absurd (let e : false ≡ true = h in cc)
placed n (t ∷ ts) h = elim (has_cases (place_of t) n (map place_of ts) h) [
  | inl e ↦ (t, here t ts, sym e)
  | inr more ↦ let (u, stands, is) = placed n ts more in (u, in_tail t ts u stands, is)
]

distinct_places : (s : Scenario) (ts : List Transmission) → AllPairs AreSentApart ts → All (IsOfInterface s) ts → IsDistinct nat_eq (map place_of ts)
distinct_places s [] apart of = none_distinct
distinct_places s (t ∷ ts) apart of =
    let first = All-head (IsOfInterface s) t ts of in
    let others = All-tail (IsOfInterface s) t ts of in
    let new : has (map place_of ts) (place_of t) ≡ false = elim (cases_Bool (has (map place_of ts) (place_of t))) [
      | inl again ↦
          let (u, stands, is) = placed (place_of t) ts again in
          let (x, i) = same_place s t u first (All-contains (IsOfInterface s) ts u others stands) (sym is) in
          absurd (head_apart t u ts apart stands x i)
      | inr f ↦ f
    ] in
    IsDistinct-cons nat_eq (place_of t) (map place_of ts) (none_equal (place_of t) (map place_of ts) new) (distinct_places s ts (tail_pairs t ts apart) others)

few : (s : Scenario) (ts : List Transmission) → AllPairs AreSentApart ts → All (IsOfInterface s) ts → length ts ≤ length s.routers * 8
few s ts apart of =
    let within : (q : ℕ) → has (map place_of ts) q ≡ true → q < length s.routers * 8 =
    λ q h. (let (u, stands, is) = placed q ts h in subst (λ (n : ℕ). n < length s.routers * 8) is (place_below s u (All-contains (IsOfInterface s) ts u of stands))) in
    let most = length-le_from_distinct_below (map place_of ts) (length s.routers * 8) (distinct_places s ts apart of) within in
    let count = length-map ts place_of in
    omega (arith, most, count)

-- What a loop over the frames keeps

-- those before this place are heard, and the others wait
pub record Onward (s : Scenario) (now : ℕ) (old : List State) (first : List Transmission) (next : ℕ) (states : List State) (frames : List Transmission) :
    Type 0 where
  pub to : FloodsTo s now old first (take next frames) states (drop next frames)
  pub can : CanHear s states now
  pub owned : All (IsOfInterface s) frames

module _ (s : Scenario) (now : ℕ) (old : List State) (first : List Transmission) where
  pub starts : CanHear s old now → All (IsOfInterface s) first → Onward s now old first 0 old first
  starts can owned = record { to = Nothing_heard; can = can; owned = owned }

  pub goes_on : (next : ℕ) (f : Transmission) (sender : Addr4) (states after : List State) (frames more : List Transmission) → slice_get frames next ≡ Some f →
      IsInterfaceSender s f.router f.frame.iface sender → AllHear now sender f.frame.bytes (hearers_of s.arcs f.router f.frame.iface) states after more →
      CanHear s after now → All (IsOfInterface s) more → Onward s now old first next states frames → Onward s now old first (next + 1) after (frames ++ more)
  goes_on next f sender states after frames more at is hear can owned o =
      let less : next < length frames = slice_get_within frames next f at in
      let left : drop next frames ≡ f ∷ drop (next + 1) frames = drop_more frames next f less ∙ ap (λ (g : Transmission). g ∷ drop (next + 1) frames) (get_or_from_slice_get frames next f f at) in
      let one : FloodsTo s now old first (take next frames ++ (f ∷ [])) after (drop (next + 1) frames ++ more) =
      One_more sender (subst (λ ts. FloodsTo s now old first (take next frames) states ts) left o.to) is hear in
      let taken : take next frames ++ (f ∷ []) ≡ take (next + 1) (frames ++ more) = sym (take-append-le (next + 1) frames more (omega (arith, less)) ∙ take_more frames next f at) in
      let waiting : drop (next + 1) frames ++ more ≡ drop (next + 1) (frames ++ more) = sym (drop-append-le (next + 1) frames more (omega (arith, less))) in
      record {
        to = subst (λ ts. FloodsTo s now old first ts after (drop (next + 1) (frames ++ more))) taken (subst (λ ts. FloodsTo s now old first (take next frames ++ (f ∷ [])) after ts) waiting one);
        can = can;
        owned = All-append (IsOfInterface s) frames more o.owned owned;
      }

  -- there are at most 8 frames for each router
  pub short : (next : ℕ) (states : List State) (frames : List Transmission) → SendsOnceFrom s now old first → Onward s now old first next states frames → length frames ≤ length s.routers * 8
  short next states frames once o =
      few s frames (subst (λ ts. AllPairs AreSentApart ts) (take-append-drop next frames) (once (take next frames) (drop next frames) states o.to)) o.owned

  -- where none waits, all were heard
  pub ends : (next : ℕ) (states : List State) (frames : List Transmission) → length frames ≤ next → Onward s now old first next states frames → Flood s now old first states frames
  ends next states frames past o =
      let left : drop next frames ≡ [] = drop_all next frames past in
      let all : take next frames ++ [] ≡ frames = append-nil (take next frames) ∙ take_all next frames past in
      let to : FloodsTo s now old first (take next frames) states [] = subst (λ ts. FloodsTo s now old first (take next frames) states ts) left o.to in
      subst (λ ts. Flood s now old first states ts) all (completes to No_frame_waits)

-- No router sends a message twice on an interface.
use Rattle.mesh_probe.proofs.Common.{◌≡◌, ℕ, zero, suc, ◌<◌, ◌⊎◌, inl, inr, refl, sym, ap, subst, arith, List, [], ◌∷◌, ◌++◌, Contains, Option, slice_index_or, Bool, true, false, AllPairs, cases_Bool, Contains-append_cases, Contains-push_cases, Contains-get_or, contains_tail as in_tail, contains_cases, contains_none as none_of, contains_head as front, true_false}
use Rattle.mesh_probe.proofs.Wave.{has, Spread, Going, frames_on, where_sent, Net, Takes, Deaf, Quiet, Sends, Hears, All_heard, One_hears, Wave, Ends, Goes, IsApart, WaveSendsOnce}
use Rattle.mesh_probe.proofs.Covers.{has_first, frame_is, Grows, grows_on, takes_grow}

-- no two frames are of one router and one interface
pub data Apart : List Going → Type 0 where
  None_there : Apart []
  Then : {f : Going} {fs : List Going} → ((g : Going) → Contains fs g → IsApart f g) → Apart fs → Apart (f ∷ fs)

pub apart_append : {xs ys : List Going} → Apart xs → Apart ys → ((f g : Going) → Contains xs f → Contains ys g → IsApart f g) → Apart (xs ++ ys)
apart_append None_there b across = b
apart_append {ys = ys} (Then {f = f} {fs = fs} first rest) b across =
    Then (λ g c. elim (Contains-append_cases fs ys g c) [ inl l ↦ first g l | inr r ↦ across f g (front f fs) r ])
    (apart_append rest b (λ h g c d. across h g (in_tail f fs h c) d))

frame_face : (w h faces : ℕ) (g : Going) → Contains (frames_on w h faces) g → g.iface < faces
frame_face w h zero g c = absurd (none_of g c)
frame_face w h (suc i) g c = elim (Contains-push_cases (frames_on w h i) (record { from = w; iface = i; hops = h }) g c) [
  | inl before ↦ let l = frame_face w h i g before in omega (arith, l)
  | inr same ↦ let e : i ≡ g.iface = ap (λ (x : Going). x.iface) same in omega (arith, e)
]

pub frames_apart : (w h faces : ℕ) → Apart (frames_on w h faces)
frames_apart w h zero = None_there
frames_apart w h (suc i) = apart_append (frames_apart w h i) (Then (λ g c. absurd (none_of g c)) None_there)
    (λ f g c d from at.
    (let l = frame_face w h i f c in
    elim (contains_cases (record { from = w; iface = i; hops = h }) [] g d) [
      | inl same ↦ (let e : i ≡ g.iface = ap (λ (x : Going). x.iface) same in absurd (omega (arith, l, e, at)))
      | inr later ↦ absurd (none_of g later)
    ]))

-- what is sent in one hearing: frames of routers that hadn't sent
pub record Fresh (old new : Spread) (out : List Going) : Type 0 where
  pub grows : Grows old new
  pub apart : Apart out
  pub unsent : (g : Going) → Contains out g → has old.sent g.from ≡ false
  pub sent : (g : Going) → Contains out g → has new.sent g.from ≡ true

module _ (n : Net) where
  one : (f : Going) (w : ℕ) (old new : Spread) (flag : Option Bool) (sending : Bool) → Takes (n.More f.hops) w old flag new sending →
      Fresh old new (where_sent sending (frames_on w (suc f.hops) (n.faces w)))
  one f w old _ _ _ Deaf = record { grows = takes_grow {More = n.More f.hops} {w = w} Deaf; apart = None_there; unsent = λ g c. absurd (none_of g c); sent = λ g c. absurd (none_of g c) }
  one f w old _ _ _ (Quiet flag nay) = record { grows = takes_grow {More = n.More f.hops} (Quiet flag nay); apart = None_there; unsent = λ g c. absurd (none_of g c); sent = λ g c. absurd (none_of g c) }
  one f w old _ _ _ (Sends flag nay) = record {
    grows = takes_grow {More = n.More f.hops} (Sends flag nay);
    apart = frames_apart w (suc f.hops) (n.faces w);
    unsent = λ g c. subst (λ (x : ℕ). has old.sent x ≡ false) (sym (frame_is w (suc f.hops) (n.faces w) g c).0) nay;
    sent = λ g c. subst (λ (x : ℕ). has (w ∷ old.sent) x ≡ true) (sym (frame_is w (suc f.hops) (n.faces w) g c).0) (has_first w old.sent);
  }

  still_unsent : (old new : Spread) → Grows old new → (q : ℕ) → has new.sent q ≡ false → has old.sent q ≡ false
  still_unsent old new grows q h = elim (cases_Bool (has old.sent q)) [ inl sends ↦ true_false (grows.sent q sends) h | inr e ↦ e ]

  pub all : (f : Going) {hearers : List (ℕ × ℕ)} {old new : Spread} {out : List Going} → Hears n f hearers old new out → Fresh old new out
  all f All_heard = record { grows = record { told = λ q h. h; sent = λ q h. h; more = omega arith }; apart = None_there; unsent = λ g c. absurd (none_of g c); sent = λ g c. absurd (none_of g c) }
  all f (One_hears {w = w} {old = old} {mid = mid} {new = new} {more = more} flag sending by takes rest) =
      let a = one f w old mid flag sending takes in
      let b = all f rest in
      let first = where_sent sending (frames_on w (suc f.hops) (n.faces w)) in
      record {
        grows = grows_on a.grows b.grows;
        apart = apart_append a.apart b.apart
            (λ g h c d from at. true_false (subst (λ (x : ℕ). has mid.sent x ≡ true) from (a.sent g c)) (b.unsent h d));
        unsent = λ g c. elim (Contains-append_cases first more g c) [ inl l ↦ a.unsent g l | inr r ↦ still_unsent old mid a.grows g.from (b.unsent g r) ];
        sent = λ g c. elim (Contains-append_cases first more g c) [ inl l ↦ b.grows.sent g.from (a.sent g l) | inr r ↦ b.sent g r ];
      }

  -- frames that are heard from here on: waiting ones, or those of routers that haven't sent
  pub onward : {old new : Spread} {queue heard : List Going} → Wave n old queue new heard → Apart queue → ((g : Going) → Contains queue g → has old.sent g.from ≡ true) →
      Apart heard × ((g : Going) → Contains heard g → Contains queue g ⊎ (has old.sent g.from ≡ false))
  onward Ends apart sent = (None_there, λ g c. inl c)
  onward (Goes {f = f} {rest = rest} {more = more} {all = heard} {old = old} {mid = mid} hears wave) (Then first apart) sent =
      let a = all f hears in
      let queue_apart : Apart (rest ++ more) = apart_append apart a.apart
      (λ g h c d from at. true_false (subst (λ (x : ℕ). has old.sent x ≡ true) from (sent g (in_tail f rest g c))) (a.unsent h d)) in
      let queue_sent : (g : Going) → Contains (rest ++ more) g → has mid.sent g.from ≡ true =
      λ g c. elim (Contains-append_cases rest more g c) [ inl l ↦ a.grows.sent g.from (sent g (in_tail f rest g l)) | inr r ↦ a.sent g r ] in
      let (heard_apart, kinds) = onward wave queue_apart queue_sent in
      let where_from : (g : Going) → Contains heard g → Contains rest g ⊎ (has old.sent g.from ≡ false) =
      λ g c. elim (kinds g c) [
        | inl waits ↦ elim (Contains-append_cases rest more g waits) [ inl l ↦ inl l | inr r ↦ inr (a.unsent g r) ]
        | inr unsent ↦ inr (still_unsent old mid a.grows g.from unsent)
      ] in (
        Then (λ g c from at. elim (where_from g c) [
          | inl waits ↦ first g waits from at
          | inr unsent ↦ true_false (subst (λ (x : ℕ). has old.sent x ≡ true) from (sent f (front f rest))) unsent
        ]) heard_apart,
        λ g c. elim (contains_cases f heard g c) [
          | inl same ↦ inl (subst (λ (x : Going). Contains (f ∷ rest) x) same (0, omega arith, refl))
          | inr later ↦ elim (where_from g later) [ inl waits ↦ inl (in_tail f rest g waits) | inr unsent ↦ inr unsent ]
        ],
      )

pub pairs : (fs : List Going) → Apart fs → AllPairs IsApart fs
pairs [] None_there = λ i j d l m. absurd (omega arith)
pairs (f ∷ fs) (Then first rest) = λ i j d l m. at_places f fs first (pairs fs rest) i j d l m
  where
    at_places : (f : Going) (fs : List Going) → ((g : Going) → Contains fs g → IsApart f g) → AllPairs IsApart fs → AllPairs IsApart (f ∷ fs)
    at_places f fs first rest i zero d l m = absurd (omega arith)
    at_places f fs first rest zero (suc j) d l m = first (slice_index_or fs j d) (Contains-get_or fs j d (omega arith))
    at_places f fs first rest (suc i) (suc j) d l m = rest i j d (omega arith) (omega arith)

pub wave_sends_once : WaveSendsOnce
wave_sends_once n origin new heard wave =
    pairs heard (onward n wave (frames_apart origin 0 (n.faces origin))
    (λ g c. subst (λ (x : ℕ). has (origin ∷ []) x ≡ true) (sym (frame_is origin 0 (n.faces origin) g c).0) (has_first origin []))).0

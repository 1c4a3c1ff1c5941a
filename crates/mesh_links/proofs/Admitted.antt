-- What quality makes of links, one after the other.
use Rattle.mesh_links.proofs.Common.{common_steps, ◌≡◌, ℕ, ◌<◌, ◌≤◌, ◌++◌, ◌+◌, take, drop, map, min, arith, inl, inr, refl, sym, ap, ◌∙◌, Bool, true, cond, List, [], ◌∷◌, length, Some, slice_get, nat_eq, fold, filter, list_all, list_any, and_parts, lookup_from_place, lookup-map_values, slice_get_cases, append-nil, length-drop, nil_from_length, take_all, Addr4, Admit, LinkKey, Link, Base, HasDistinctKeys, find, link_eq, addr_eq, quality_of, quality_at, by_quality, admitted, link_equiv, changed_at, changed_at-agrees, distinct-changed_at, walk_at, walk_changed, AdmitsLinks, HasRoom, IsFewer, is_steady, ruled}
use Rattle.mesh_atoms.specs.declared.admit.QualityStep.{QualityStep}
use Rattle.mesh_atoms.specs.declared.admit.SenderQuality.{SenderQuality}
use Rattle.mesh_links.specs.declared.admittance.Ruling.{Ruling}
use Rattle.mesh_links.proofs.Room.{room_changed}
use Rattle.mesh_links.proofs.Tied.{fewer_changed, fewer_twice}

-- A link keeps its addresses, and the moment up to which it is symmetric

record StaysAlike (e f : Link × ℕ) : Type 0 where
  pub addrs : f.0.addrs ≡ e.0.addrs
  pub sym : f.0.sym ≡ e.0.sym

alike : (rule : Admit) (hold now quality : ℕ) (e : Link × ℕ) → StaysAlike e (by_quality rule hold now quality e)
alike rule hold now quality e = grind (arith, common_steps)

pub addrs-admitted : (rule : Admit) (hold now : ℕ) (e : Link × ℕ) → (admitted rule hold now e).0.addrs ≡ e.0.addrs
addrs-admitted rule hold now e = (alike rule hold now (quality_at rule e.0.addrs now) e).addrs

sym-admitted : (rule : Admit) (hold now : ℕ) (e : Link × ℕ) → (admitted rule hold now e).0.sym ≡ e.0.sym
sym-admitted rule hold now e = (alike rule hold now (quality_at rule e.0.addrs now) e).sym

-- a change that changes nothing, and two changes of one entry
on_one : (b : Bool) (k : LinkKey) (x : Link × ℕ) (es fs : Base LinkKey Link) → es ≡ fs → (k, cond b x x) ∷ es ≡ (k, x) ∷ fs
on_one b k x es fs rest = grind (arith, common_steps)

changed_at-same : (key : LinkKey) (base : Base LinkKey Link) → changed_at link_eq base key (λ e. e) ≡ base
changed_at-same key [] = refl
changed_at-same key (e ∷ es) = on_one (link_eq key e.0) e.0 e.1 (changed_at link_eq es key (λ x. x)) es (changed_at-same key es)

on_two : (b : Bool) (k : LinkKey) (first second : Link × ℕ → Link × ℕ) (x : Link × ℕ) (es fs : Base LinkKey Link) → es ≡ fs → (k, cond b (second (cond b (first x) x)) (cond b (first x) x)) ∷ es ≡ (k, cond b (second (first x)) x) ∷ fs
on_two b k first second x es fs rest = grind (arith, common_steps)

pub changed_at-twice : (key : LinkKey) (first second : Link × ℕ → Link × ℕ) (base : Base LinkKey Link) → changed_at link_eq (changed_at link_eq base key first) key second ≡ changed_at link_eq base key (λ e. second (first e))
changed_at-twice key first second [] = refl
changed_at-twice key first second (e ∷ es) = grind (arith, common_steps, on_two, (changed_at-twice key first second es))

-- a change that leaves what stands at the key
pub changed_at-still : (key : LinkKey) (change : Link × ℕ → Link × ℕ) (base : Base LinkKey Link) → HasDistinctKeys link_eq base → ((entry : Link × ℕ) → find link_eq base key ≡ Some entry → change entry ≡ entry) → base ≡ changed_at link_eq base key change
changed_at-still key change base distinct still = sym (changed_at-agrees link_equiv key change (λ e. e) base distinct still ∙ changed_at-same key base)

-- what stands at a place stands at its key
pub found_at : (key : LinkKey) (e : Link × ℕ) (base : Base LinkKey Link) (place : ℕ) → HasDistinctKeys link_eq base → slice_get base place ≡ Some (key, e) → find link_eq base key ≡ Some e
found_at key e base place distinct at = lookup_from_place link_equiv base place key e distinct at

same_key : (x y : LinkKey × (Link × ℕ)) → Some x ≡ Some y → x.0 ≡ y.0
same_key x y h = let pair : x ≡ y = cc in ap (λ (p : LinkKey × (Link × ℕ)). p.0) pair

-- by the ruling on the link at a place
pub admitted_by : (rule : Admit) (hold now : ℕ) (old new : Base LinkKey Link) (place : ℕ) (key : LinkKey) (ruling : Ruling) (e : Link × ℕ) → HasDistinctKeys link_eq old → slice_get old place ≡ Some (key, e)
    → ruled ruling e.0 ≡ admitted rule hold now e → new ≡ changed_at link_eq old key (λ f. ruled ruling f.0) → (q : LinkKey) (f : Link × ℕ) → slice_get old place ≡ Some (q, f) → new ≡ changed_at link_eq old q (admitted rule hold now)
admitted_by rule hold now old new place key ruling e distinct at is set q f at_too = grind (arith, common_steps, same_key, found_at, changed_at-agrees, link_equiv, admitted)

no_steps : (steps : List QualityStep) (now : ℕ) → nat_eq (length steps) 0 ≡ true → quality_of steps now ≡ 100
no_steps steps now h = grind (arith, common_steps)

one_more : (b : Bool) (s : SenderQuality) (ss : List SenderQuality) (now : ℕ) → quality_of s.steps now ≡ 100 → fold min 100 (map (λ x. quality_of x.steps now) ss) ≡ 100 → fold min 100 (map (λ x. quality_of x.steps now) (cond b (s ∷ ss) ss)) ≡ 100
one_more b s ss now is rest = grind (arith, common_steps)

qualities : (among : SenderQuality → Bool) (now : ℕ) (senders : List SenderQuality) → list_all (λ s. nat_eq (length s.steps) 0) senders ≡ true → fold min 100 (map (λ s. quality_of s.steps now) (filter among senders)) ≡ 100
qualities among now [] none = refl
qualities among now (s ∷ ss) none =
    let both = and_parts (nat_eq (length s.steps) 0) (list_all (λ x. nat_eq (length x.steps) 0) ss) none in
    one_more (among s) s (filter among ss) now (no_steps s.steps now both.0) (qualities among now ss both.1)

pub steady_quality : (rule : Admit) (addrs : List Addr4) (now : ℕ) → is_steady rule ≡ true → quality_at rule addrs now ≡ 100
steady_quality rule addrs now steady = qualities (λ s. list_any (addr_eq s.sender) addrs) now rule.senders steady

pub admits_links : (rule : Admit) (hold now : ℕ) (old new : Base LinkKey Link) (place : ℕ) → length old ≤ place → new ≡ map (λ e. (e.0, admitted rule hold now e.1)) (take place old) ++ drop place old → AdmitsLinks rule hold now old new
admits_links rule hold now old new place all so_far key =
    let whole : take place old ≡ old = take_all place old all in
    let rest : drop place old ≡ [] = nil_from_length (drop place old) (let h = length-drop place old in omega (arith, h, all)) in
    let is : new ≡ map (λ e. (e.0, admitted rule hold now e.1)) old = so_far ∙ ap (λ (l : Base LinkKey Link). map (λ e. (e.0, admitted rule hold now e.1)) (take place old) ++ l) rest
    ∙ append-nil (map (λ e. (e.0, admitted rule hold now e.1)) (take place old)) ∙ ap (λ (l : Base LinkKey Link). map (λ e. (e.0, admitted rule hold now e.1)) l) whole in
    ap (λ (l : Base LinkKey Link). find link_eq l key) is ∙ lookup-map_values (admitted rule hold now) (link_eq key) old

-- one more link
pub record AdmitsUpTo (rule : Admit) (hold now : ℕ) (before new : Base LinkKey Link) (place : ℕ) : Type 0 where
  pub content : new ≡ map (λ e. (e.0, admitted rule hold now e.1)) (take place before) ++ drop place before
  pub distinct : HasDistinctKeys link_eq new
  pub room : HasRoom new
  pub fewer : IsFewer before new

pub one_more_admitted : (rule : Admit) (hold now : ℕ) (before mid new : Base LinkKey Link) (place : ℕ) → place < length before → mid ≡ map (λ e. (e.0, admitted rule hold now e.1)) (take place before) ++ drop place before
    → HasDistinctKeys link_eq mid → HasRoom mid → IsFewer before mid
    → ((key : LinkKey) (e : Link × ℕ) → slice_get mid place ≡ Some (key, e) → new ≡ changed_at link_eq mid key (admitted rule hold now)) → AdmitsUpTo rule hold now before new (place + 1)
one_more_admitted rule hold now before mid new place within so_far distinct room fewer set =
    let there : (x : LinkKey × (Link × ℕ)) × (slice_get before place ≡ Some x) = elim ((slice_get_cases before place).1) [ inl in_list ↦ (in_list.0, in_list.2) | inr past ↦ absurd (omega (arith, within, past.0)) ] in
    let F : LinkKey × (Link × ℕ) → LinkKey × (Link × ℕ) = λ e. (e.0, admitted rule hold now e.1) in
    let (x, at) = there in
    let stands : slice_get mid place ≡ Some x = ap (λ (l : Base LinkKey Link). slice_get l place) so_far ∙ walk_at F before place (omega (arith, within)) ∙ at in
    let is = set x.0 x.1 stands in
    record {
      content = walk_changed link_equiv (admitted rule hold now) before mid new place x.0 x.1 so_far (omega (arith, within)) stands distinct is;
      distinct = rw is (distinct-changed_at link_eq x.0 (admitted rule hold now) mid distinct);
      room = rw is (room_changed mid x.0 (admitted rule hold now) room (λ e low. rw (sym-admitted rule hold now e) low));
      fewer = fewer_twice before mid new fewer (fewer_changed mid new x.0 (admitted rule hold now) (λ f found. sym (addrs-admitted rule hold now f)) is);
    }

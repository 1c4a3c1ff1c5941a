-- Items of a list, one after the other: put there one by one, and parted at one of them.
use Rattle.mesh_packet.proofs.Common.{◌≡◌, ℕ, zero, suc, ◌+◌, ◌<◌, List, [], ◌∷◌, ◌++◌, length, map, take, get_or, refl, sym, ap, subst, ◌∙◌, arith, append_assoc, length-append, common_steps, append-nil, map_push, SpellsItems, Passes, Wrote}
use Rattle.std.proofs.Math.Seq.{take-suc}
use Rattle.mesh_packet.proofs.OneForm.{HasOneText, items_once}

items_push : {B : Type 0} (Says : B → List ℕ → Type 0) (ys : List B) (front : List ℕ) (y : B) (text : List ℕ) → SpellsItems Says ys front → Says y text → SpellsItems Says (ys ++ y ∷ []) (front ++ text)
items_push Says [] front y text h s = (text, [], s, refl, ap (λ (l : List ℕ). l ++ text) h ∙ sym (append-nil text))
items_push Says (x ∷ ys) front y text h s = (h.0, h.1 ++ text, h.2, items_push Says ys h.1 y text h.3 s, ap (λ (l : List ℕ). l ++ text) h.4 ∙ append_assoc h.0 h.1 text)

module _ {A B : Type 0} (view : A → B) (Says : B → List ℕ → Type 0) where
  -- the items before one, that one, and those behind it
  record Parted (xs : List A) (i : ℕ) (d : A) (text : List ℕ) : Type 0 where
    front : List ℕ
    one : List ℕ
    rest : List ℕ
    before : SpellsItems Says (map view (take i xs)) front
    is_one : Says (view (get_or xs i d)) one
    whole : text ≡ front ++ (one ++ rest)

  parted : (xs : List A) (i : ℕ) (d : A) (text : List ℕ) → i < length xs → SpellsItems Says (map view xs) text → Parted xs i d text
  parted [] i d text lt h = absurd (omega arith)
  parted (x ∷ xs) zero d text lt h = record { front = []; one = h.0; rest = h.1; before = refl; is_one = h.2; whole = h.4 }
  parted (x ∷ xs) (suc i) d text lt h =
      let p = parted xs i d h.1 (omega arith) h.3 in
      record {
        front = h.0 ++ p.front;
        one = p.one;
        rest = p.rest;
        before = (h.0, p.front, h.2, p.before, refl);
        is_one = p.is_one;
        whole = h.4 ∙ ap (λ (l : List ℕ). h.0 ++ l) p.whole ∙ sym (append_assoc h.0 p.front (p.one ++ p.rest));
      }

  -- the next item of a loop
  pub wrote_next : (xs : List A) (i : ℕ) (x : A) (old mid new : List ℕ) → i < length xs → x ≡ get_or xs i x → Wrote (SpellsItems Says (map view (take i xs))) old mid → Wrote (Says (view x)) mid new → Wrote (SpellsItems Says (map view (take (i + 1) xs))) old new
  wrote_next xs i x old mid new lt is h k = grind (arith, common_steps, take-suc, map_push, get_or, append_assoc, items_push)

  -- behind what was written, the next item passes the limit, and so do all items together
  pub items_pass : HasOneText Says → (xs : List A) (i : ℕ) (x : A) (old mid : List ℕ) → i < length xs → x ≡ get_or xs i x → Wrote (SpellsItems Says (map view (take i xs))) old mid → Passes (Says (view x)) (length mid) → Passes (SpellsItems Says (map view xs)) (length old)
  items_pass once xs i x old mid lt is h k = λ text t.
      let p = parted xs i x text lt t in
      omega (arith, ap length p.whole, length-append p.front (p.one ++ p.rest), length-append p.one p.rest, ap length h.1, length-append old h.0, ap length (items_once Says once (map view (take i xs)) h.0 p.front h.2 p.before), k p.one (subst (λ (y : A). Says (view y) p.one) (sym is) p.is_one))

  pub item_passes : (xs : List A) (i : ℕ) (x : A) → i < length xs → x ≡ get_or xs i x → Passes (Says (view x)) 0 → Passes (SpellsItems Says (map view xs)) 0
  item_passes xs i x lt is k = λ text t.
      let p = parted xs i x text lt t in
      omega (arith, ap length p.whole, length-append p.front (p.one ++ p.rest), length-append p.one p.rest, k p.one (subst (λ (y : A). Says (view y) p.one) (sym is) p.is_one))

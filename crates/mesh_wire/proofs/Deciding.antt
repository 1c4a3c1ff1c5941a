-- What a message says before its rows is told, or it isn't there.
use Rattle.mesh_wire.proofs.Common.{◌≡◌, ℕ, ◌<◌, ◌%◌, ◌*◌, ◌+◌, ◌⊎◌, inl, inr, refl, sym, ap, subst, ◌∙◌, arith, Bool, true, false, cond, List, [], ◌∷◌, map, filter, length, ◌==◌, ◌&&◌, Contains, Option, Some, None, cases_Bool, cases_lt, cases_eq, time_at_distance, MessageFields, TlvFields, HasWilling, IsOther, INTERVAL_TIME, VALIDITY_TIME, MPR_WILLING, HasOctets, octets_of, values_of, ContentIs, contents_of, HasTime, ValidityIs, IntervalIs, contains_head as at_head, contains_tail as in_tail, contains_cases, contains_none as none_in}
use Rattle.mesh_wire.proofs.Single.{one_time}

-- there is one, or there is none
abbrev pub IsThere : (X : Type 0) → (X → Type 0) → Type 0
IsThere X P = ((x : X) × P x) ⊎ ((x : X) → P x → ⊥)

-- ---- header

pub other_or : (n : ℕ) (o : Option ℕ) → IsOther n o ⊎ (IsOther n o → ⊥)
other_or n None = inr (λ (m, e, d). cc)
other_or n (Some k) = elim (cases_eq k n) [ inl e ↦ inr (λ (m, f, d). (let g : k ≡ m = cc in d (sym g ∙ e))) | inr d ↦ inl (k, refl, d) ]

-- ---- times

one_of_list : {X : Type 0} (x y : X) → ◌≡◌ {A = List X} (x ∷ []) (y ∷ []) → x ≡ y
one_of_list x y e = cc

time_or : (m : MessageFields) (kind distance : ℕ) (values : List (List ℕ)) → values_of kind m ≡ values → IsThere ℕ (HasTime m kind distance)
time_or m kind distance [] e = inr (λ t (v, is, odd, at). cc)
time_or m kind distance (v ∷ w ∷ rest) e = inr (λ t (u, is, odd, at). let f : v ∷ (w ∷ rest) ≡ u ∷ [] = sym e ∙ is in cc)
time_or m kind distance (v ∷ []) e = elim (cases_eq (length v % 2) 1) [
  | inl odd ↦ inl (time_at_distance distance v, (v, e, odd, refl))
  | inr even ↦ inr (λ t (u, is, odd, at). even (ap (λ (x : List ℕ). length x % 2) (one_of_list v u (sym e ∙ is)) ∙ odd))
]

pub validity_or : (m : MessageFields) (distance : ℕ) → IsThere ℕ (ValidityIs m distance)
validity_or m distance = elim (time_or m VALIDITY_TIME distance (values_of VALIDITY_TIME m) refl) [
  | inl (t, h) ↦ elim (cases_lt 0 t) [ inl lt ↦ inl (t, (h, lt)) | inr zero ↦ inr (λ u (k, lt). omega (arith, zero, lt, one_time m VALIDITY_TIME distance t u h k)) ]
  | inr none ↦ inr (λ u h. none u h.0)
]

pub interval_or : (m : MessageFields) (distance : ℕ) → IsThere (Option ℕ) (IntervalIs m distance)
interval_or m distance = by (values_of INTERVAL_TIME m) refl
  where
    of_time : IsThere ℕ (HasTime m INTERVAL_TIME distance) → (values_of INTERVAL_TIME m ≡ [] → ⊥) → IsThere (Option ℕ) (IntervalIs m distance)
    of_time (inl (t, h)) some = inl (Some t, h)
    of_time (inr none) some = inr never
      where
        never : (o : Option ℕ) → IntervalIs m distance o → ⊥
        never None h = some h
        never (Some t) h = none t h

    by : (values : List (List ℕ)) → values_of INTERVAL_TIME m ≡ values → IsThere (Option ℕ) (IntervalIs m distance)
    by [] e = inl (None, e)
    by (v ∷ rest) e = of_time (time_or m INTERVAL_TIME distance (v ∷ rest) e) (λ f. let g : v ∷ rest ≡ [] = sym e ∙ f in cc)

-- ---- willingness

pub willing_or : (m : MessageFields) → IsThere ℕ (HasWilling m)
willing_or m = by (values_of MPR_WILLING m) refl
  where
    never : (v : List ℕ) (rest : List (List ℕ)) → values_of MPR_WILLING m ≡ v ∷ rest → ((n : ℕ) → v ∷ rest ≡ (n ∷ []) ∷ [] → ⊥) → (n : ℕ) → HasWilling m n → ⊥
    never v rest e none n (inl (f, is)) = (let g : v ∷ rest ≡ [] = sym e ∙ f in cc)
    never v rest e none n (inr f) = none n (sym e ∙ f)

    by : (values : List (List ℕ)) → values_of MPR_WILLING m ≡ values → IsThere ℕ (HasWilling m)
    by [] e = inl (119, inl (e, refl))
    by ((n ∷ []) ∷ []) e = inl (n, inr e)
    by ([] ∷ []) e = inr (never [] [] e (λ n f. cc))
    by ((a ∷ b ∷ c) ∷ []) e = inr (never (a ∷ (b ∷ c)) [] e (λ n f. let g : a ∷ (b ∷ c) ≡ n ∷ [] = one_of_list (a ∷ (b ∷ c)) (n ∷ []) f in cc))
    by (v ∷ w ∷ rest) e = inr (never v (w ∷ rest) e (λ n f. cc))

-- a value is that of a TLV
tlv_saying : (kind : ℕ) (tlvs : List TlvFields) (v : List ℕ) → Contains (map (λ (p : TlvFields). octets_of p.value) (filter (λ (p : TlvFields). p.kind == kind && p.ext == 0) tlvs)) v →
    (tlv : TlvFields) × Contains tlvs tlv × (octets_of tlv.value ≡ v)
tlv_saying kind [] v h = absurd (none_in v h)
tlv_saying kind (t ∷ tlvs) v h = elim (cases_Bool (t.kind == kind && t.ext == 0)) [
  | inl y ↦ elim (contains_cases (octets_of t.value) (values tlvs) v (subst (λ (b : Bool). Contains (cond b (octets_of t.value ∷ values tlvs) (values tlvs)) v) y (spread h))) [
    | inl e ↦ (t, at_head t tlvs, e)
    | inr later ↦ let (u, there, is) = tlv_saying kind tlvs v later in (u, in_tail t tlvs u there, is)
  ]
  | inr n ↦ let (u, there, is) = tlv_saying kind tlvs v (subst (λ (b : Bool). Contains (cond b (octets_of t.value ∷ values tlvs) (values tlvs)) v) n (spread h)) in (u, in_tail t tlvs u there, is)
]
  where
    values : List TlvFields → List (List ℕ)
    values ts = map (λ (p : TlvFields). octets_of p.value) (filter (λ (p : TlvFields). p.kind == kind && p.ext == 0) ts)

    pushed : (b : Bool) → map (λ (p : TlvFields). octets_of p.value) (cond b (t ∷ filter (λ (p : TlvFields). p.kind == kind && p.ext == 0) tlvs) (filter (λ (p : TlvFields). p.kind == kind && p.ext == 0) tlvs)) ≡ cond b (octets_of t.value ∷ values tlvs) (values tlvs)
    pushed true = refl
    pushed false = refl

    spread : Contains (map (λ (p : TlvFields). octets_of p.value) (filter (λ (p : TlvFields). p.kind == kind && p.ext == 0) (t ∷ tlvs))) v → Contains (cond (t.kind == kind && t.ext == 0) (octets_of t.value ∷ values tlvs) (values tlvs)) v
    spread k = subst (λ (l : List (List ℕ)). Contains l v) (pushed (t.kind == kind && t.ext == 0)) k

pub willing_octet : (m : MessageFields) → HasOctets m → (n : ℕ) → HasWilling m n → n < 256
willing_octet m octets n (inl (e, is)) = omega (arith, is)
willing_octet m octets n (inr e) =
    let (tlv, there, is) = tlv_saying MPR_WILLING m.tlvs (n ∷ []) (subst (λ (l : List (List ℕ)). Contains l (n ∷ [])) (sym e) (at_head (n ∷ []) [])) in
    octets.tlvs tlv there n (subst (λ (l : List ℕ). Contains l n) (sym is) (at_head n []))

-- ---- content

abbrev pub Content : Type 0
Content = ℕ × Bool

pub content_or : (m : MessageFields) → IsThere Content (λ x. ContentIs m x.0 x.1)
content_or m = by (contents_of m) refl
  where
    of_octets : (part : TlvFields) → contents_of m ≡ part ∷ [] → (octets : List ℕ) → octets_of part.value ≡ octets → IsThere Content (λ x. ContentIs m x.0 x.1)
    of_octets part e (high ∷ low ∷ []) is = inl ((256 * high + low, part.ext == 0), (part, high, low, e, is, refl, refl))
    of_octets part e [] is = inr (λ x (q, high, low, f, g, h, k). let s : part ≡ q = one_of_list part q (sym e ∙ f) in let t : [] ≡ high ∷ low ∷ [] = sym is ∙ ap (λ (p : TlvFields). octets_of p.value) s ∙ g in cc)
    of_octets part e (a ∷ []) is = inr (λ x (q, high, low, f, g, h, k). let s : part ≡ q = one_of_list part q (sym e ∙ f) in let t : a ∷ [] ≡ high ∷ low ∷ [] = sym is ∙ ap (λ (p : TlvFields). octets_of p.value) s ∙ g in cc)
    of_octets part e (a ∷ b ∷ c ∷ rest) is = inr (λ x (q, high, low, f, g, h, k). let s : part ≡ q = one_of_list part q (sym e ∙ f) in let t : a ∷ (b ∷ (c ∷ rest)) ≡ high ∷ low ∷ [] = sym is ∙ ap (λ (p : TlvFields). octets_of p.value) s ∙ g in cc)

    by : (parts : List TlvFields) → contents_of m ≡ parts → IsThere Content (λ x. ContentIs m x.0 x.1)
    by [] e = inr (λ x (q, high, low, f, g, h, k). let t : [] ≡ q ∷ [] = sym e ∙ f in cc)
    by (p ∷ []) e = of_octets p e (octets_of p.value) refl
    by (p ∷ q ∷ rest) e = inr (λ x (r, high, low, f, g, h, k). let t : p ∷ (q ∷ rest) ≡ r ∷ [] = sym e ∙ f in cc)

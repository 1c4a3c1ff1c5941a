-- What the message TLVs of a written message say.
use Rattle.mesh_wire.proofs.Common.{common_steps, ◌≡◌, ℕ, ◌/◌, ◌%◌, ◌<◌, ◌≤◌, ◌⊎◌, inr, List, [], ◌∷◌, refl, ap, subst, ◌∙◌, arith, ◌==◌, Contains, Option, Some, None, Bool, true, false, cond, is_some, Contains-append_cases, Willing, MessageFields, TlvFields, IsCodeOf, IsCodeIfSome, octet_of, saying, heading_of, WillingIs, INTERVAL_TIME, VALIDITY_TIME, MPR_WILLING, CONT_SEQ_NUM, ContentIs, contents_in, values_of, ValidityIs, IntervalIs, values_in, HasInterval, IsReadOfHello, IsReadOfTc, contains_cases, contains_none as none_in}
use Rattle.mesh_wire.proofs.Further.{code_above}

-- ---- both messages: validity v, interval i and another TLV, of MPR_WILLING or CONT_SEQ_NUM

abbrev IsThird : ℕ → Type 0
IsThird kind = (kind ≡ MPR_WILLING) ⊎ (kind ≡ CONT_SEQ_NUM)

of_third : (P : ℕ → Type 0) → P 7 → P 8 → (kind : ℕ) → IsThird kind → P kind
of_third P seven eight kind h4 = grind (arith, common_steps)

module _ (validity : List ℕ) (i : ℕ) (rest : List ℕ) (ext : ℕ) where
  heading : Bool → ℕ → List TlvFields
  heading b kind = heading_of validity (i ∷ rest) b kind ext

  validity_said : (b : Bool) (kind : ℕ) → IsThird kind → values_in VALIDITY_TIME (heading b kind) ≡ validity ∷ []
  unfolding heading
  validity_said b kind third = grind (arith, common_steps, of_third)

  interval_said : (kind : ℕ) → IsThird kind → values_in INTERVAL_TIME (heading true kind) ≡ (i ∷ []) ∷ []
  unfolding heading
  interval_said kind third = of_third (λ (k : ℕ). values_in INTERVAL_TIME (heading true k) ≡ (i ∷ []) ∷ []) refl refl kind third

  no_interval : (kind : ℕ) → IsThird kind → values_in INTERVAL_TIME (heading false kind) ≡ []
  unfolding heading
  no_interval kind third = of_third (λ (k : ℕ). values_in INTERVAL_TIME (heading false k) ≡ []) refl refl kind third

  interval_there : (m : MessageFields) (kind : ℕ) → IsThird kind → (distance : ℕ) (ticks : Option ℕ) → m.tlvs ≡ heading (is_some ticks) kind → IsCodeIfSome ticks i → IntervalIs m distance ticks
  interval_there m kind third distance None e code = ap (values_in INTERVAL_TIME) e ∙ no_interval kind third
  interval_there m kind third distance (Some ticks) e code = (i ∷ [], ap (values_in INTERVAL_TIME) e ∙ interval_said kind third, refl, code.1)

-- the validity is the value that is given
pub validity_told : (validity : List ℕ) (i : ℕ) (rest : List ℕ) (ext : ℕ) (m : MessageFields) (kind : ℕ) → IsThird kind → (b : Bool) → m.tlvs ≡ heading_of validity (i ∷ rest) b kind ext → values_of VALIDITY_TIME m ≡ validity ∷ []
unfolding heading
validity_told validity i rest ext m kind third b e = ap (values_in VALIDITY_TIME) e ∙ validity_said validity i rest ext b kind third

pub interval_is : (validity : List ℕ) (i : ℕ) (rest : List ℕ) (ext : ℕ) (m : MessageFields) (kind : ℕ) → IsThird kind → (distance : ℕ) (ticks : Option ℕ) → m.tlvs ≡ heading_of validity (i ∷ rest) (is_some ticks) kind ext → IsCodeIfSome ticks i → IntervalIs m distance ticks
unfolding heading
interval_is validity i rest ext m kind third distance ticks e code = interval_there validity i rest ext m kind third distance ticks e code

-- the interval is one code
pub interval_told : (validity : List ℕ) (i : ℕ) (rest : List ℕ) (ext : ℕ) (m : MessageFields) (kind : ℕ) → IsThird kind → (interval : Option ℕ) → m.tlvs ≡ heading_of validity (i ∷ rest) (is_some interval) kind ext → IsCodeIfSome interval i → HasInterval m interval
unfolding heading
interval_told validity i rest ext m kind third interval e code = grind (arith, common_steps, interval_said)

-- of one code each distance has its time
pub one_validity : (v : ℕ) (m : MessageFields) (distance ticks : ℕ) → values_of VALIDITY_TIME m ≡ (v ∷ []) ∷ [] → IsCodeOf ticks v → ValidityIs m distance ticks
one_validity v m distance ticks told code = ((v ∷ [], told, refl, code.1), subst (λ (t : ℕ). 0 < t) code.1 (code_above v code.0))

-- ---- the other TLV

willing_said : (validity : List ℕ) (i w : ℕ) (b : Bool) → values_in MPR_WILLING (heading_of validity (i ∷ (w ∷ [])) b MPR_WILLING 0) ≡ (w ∷ []) ∷ []
willing_said validity i w b = grind (arith, common_steps)

pub willing_is : (validity : List ℕ) (i : ℕ) (b : Bool) (m : MessageFields) (willing : Willing) → m.tlvs ≡ heading_of validity (i ∷ (octet_of willing ∷ [])) b MPR_WILLING 0 → WillingIs m willing
willing_is validity i b m willing e =
    let f = willing.flooding_within in
    let r = willing.routing_within in
    (octet_of willing, inr (ap (values_in MPR_WILLING) e ∙ willing_said validity i (octet_of willing) b), omega arith, omega arith)

content_said : (validity : List ℕ) (i high low : ℕ) (b complete : Bool) → contents_in (heading_of validity (i ∷ (high ∷ (low ∷ []))) b CONT_SEQ_NUM (cond complete 0 1)) ≡ saying CONT_SEQ_NUM (cond complete 0 1) (high ∷ (low ∷ [])) ∷ []
content_said validity i high low b complete = grind (arith, common_steps)

complete_told : (complete : Bool) → complete ≡ (cond complete 0 1 == 0)
complete_told complete = grind (arith, common_steps)

pub content_is : (validity : List ℕ) (i : ℕ) (b : Bool) (m : MessageFields) (ansn : ℕ) (complete : Bool) → m.tlvs ≡ heading_of validity (i ∷ (ansn / 256 ∷ (ansn % 256 ∷ []))) b CONT_SEQ_NUM (cond complete 0 1) → ContentIs m ansn complete
content_is validity i b m ansn complete e =
    (saying CONT_SEQ_NUM (cond complete 0 1) (ansn / 256 ∷ (ansn % 256 ∷ [])), ansn / 256, ansn % 256, ap contents_in e ∙ content_said validity i (ansn / 256) (ansn % 256) b complete, refl, omega arith, complete_told complete)

-- ---- nothing else is there

-- of the TLVs of a heading each is one of three
pub one_of_three : (validity values : List ℕ) (b : Bool) (kind ext : ℕ) (tlv : TlvFields) → Contains (heading_of validity values b kind ext) tlv →
    ((tlv.kind ≡ VALIDITY_TIME) × (tlv.ext ≡ 0)) ⊎ (((tlv.kind ≡ INTERVAL_TIME) × (tlv.ext ≡ 0)) ⊎ ((tlv.kind ≡ kind) × (tlv.ext ≡ ext)))
one_of_three validity values b kind ext tlv has = grind (arith, common_steps, contains_cases, Contains-append_cases, none_in)

pub read_of_hello : (m : MessageFields) (validity values : List ℕ) (b : Bool) → m.tlvs ≡ heading_of validity values b MPR_WILLING 0 → (tlv : TlvFields) → Contains m.tlvs tlv → IsReadOfHello tlv
read_of_hello m validity values b e tlv has = grind (arith, common_steps, one_of_three)

at_most_one : (complete : Bool) → cond complete 0 1 ≤ 1
at_most_one complete = grind (arith, common_steps)

pub read_of_tc : (m : MessageFields) (validity values : List ℕ) (b complete : Bool) → m.tlvs ≡ heading_of validity values b CONT_SEQ_NUM (cond complete 0 1) → (tlv : TlvFields) → Contains m.tlvs tlv → IsReadOfTc tlv
read_of_tc m validity values b complete e tlv has = grind (arith, common_steps, one_of_three, at_most_one)

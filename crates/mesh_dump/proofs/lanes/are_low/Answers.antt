use Rattle.mesh_dump.proofs.Common.{ℕ, ◌%◌, ◌^◌, Bool, leb, List, map, get_or, replicate, sym, ap, ◌∙◌, arith, w8, mask_l, leb-false, eqb-true, length-map, tops_compared, zip2_splat_left, mask_l-mod, none_set}
use Rattle.mesh_dump.proofs.lanes.are_low.Goals as goal

pub returns : goal.returns
returns c = λ none k lt.
    let v = c.args.v in
    let p : ℕ → Bool = λ x. leb 16 x in
    let tops = tops_compared w8 leb (replicate 32 16) v ∙ zip2_splat_left leb 16 32 v c.fits-v.0 in
    let mask = ap (λ (ms : List Bool). mask_l ms % 2 ^ 64) tops ∙ mask_l-mod (map p v) 64 (omega (arith, length-map v p, c.fits-v.0)) in
    leb-false 16 (get_or v k 0) (none_set p v k (sym mask ∙ eqb-true _ _ none) (omega (arith, lt, c.fits-v.0)))

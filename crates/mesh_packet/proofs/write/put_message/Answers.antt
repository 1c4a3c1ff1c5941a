use Rattle.mesh_packet.proofs.Common.{◌≡◌, ℕ, ◌+◌, List, [], ◌∷◌, ◌++◌, length, refl, ap, ◌∙◌, arith, append_assoc, length-append, least_short, fields_of_message, message_flags}
use Rattle.mesh_packet.proofs.write.put_message.Goals as goal

-- four parts, each put behind those before it
put_four : (old a b c new : List ℕ) (kind flags : ℕ) (size body : List ℕ) → a ≡ old ++ kind ∷ [] → b ≡ a ++ flags ∷ [] → c ≡ b ++ size → new ≡ c ++ body → new ≡ old ++ (kind ∷ (flags ∷ (size ++ body)))
put_four old a b c new kind flags size body h i j k =
    k ∙ ap (λ (l : List ℕ). l ++ body) (j ∙ ap (λ (l : List ℕ). l ++ size) (i ∙ ap (λ (l : List ℕ). l ++ flags ∷ []) h)) ∙ simp append_assoc

pub returns-clause-ok : goal.returns-clause-ok
returns-clause-ok c =
    let m = fields_of_message c.args.message.now in
    let body : List ℕ = c.args.body.now in
    let size : List ℕ = least_short (4 + length body) in
    let first : c.push.new.self ≡ c.args.out.now ++ c.args.message.now.kind ∷ [] = c.in_ok-push.ensures.ok in
    let second : c.push-2.new.self ≡ c.push.new.self ++ message_flags m ∷ [] = rw c.message_flags.ensures at c.in_ok-push-2.ensures.ok in
    let third : c.put_short.new.out ≡ c.push-2.new.self ++ size = rw c.len-2.ensures at c.in_ok-put_short.ensures.ok in
    let fourth : c.append.new.self ≡ c.put_short.new.out ++ body = rw c.as_slice.ensures at c.in_ok-append.ensures.ok in
    let whole = put_four c.args.out.now c.push.new.self c.push-2.new.self c.put_short.new.out c.append.new.self c.args.message.now.kind (message_flags m) size body first second third fourth in
    ((c.args.message.now.kind ∷ (message_flags m ∷ (size ++ body)), whole, record { body = body; body_is = c.requires.body; whole = refl }), omega (arith, ap length whole, length-append c.args.out.now (c.args.message.now.kind ∷ (message_flags m ∷ (size ++ body))), length-append size body))

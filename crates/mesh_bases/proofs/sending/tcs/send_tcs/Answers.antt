use Rattle.std.proofs.lemmas.Result.{on_ok_weaker}
use Rattle.mesh_bases.proofs.Common.{◌≡◌, ℕ, ◌+◌, ◌%◌, List, length, [], true, inl, inr, sym, ap, subst, arith, ◌∙◌, nat_eq, append-nil, cases_Bool, RouterSettings, TcRow, Derived, HasRowsOf, SendsParts, Tcs_early, Tcs_silent, Tcs_due}
use Rattle.mesh_bases.proofs.SendingLemmas.PartRows.{has_before}
use Rattle.mesh_bases.proofs.sending.tcs.send_tcs.Goals as goal

pub returns-then-now-derived-clause-sent : goal.returns-then-now-derived-clause-sent
returns-then-now-derived-clause-sent c = (
  [],
  sym (append-nil c.args.out.now),
  λ before s sequence next settings has sequence_after next_after. Tcs_early (rw (has.last, next) c.if-now-derived.true) (next_after ∙ sym next) (sequence_after ∙ sym sequence),
)

pub returns-then-not-has_to_advertise-clause-sent : goal.returns-then-not-has_to_advertise-clause-sent
returns-then-not-has_to_advertise-clause-sent c = (
  [],
  sym (append-nil c.args.out.now),
  λ before s sequence next settings has sequence_after next_after.
      Tcs_silent (let late = c.if-now-derived.false in rw (next, has.last) (omega (arith, late))) (rw (settings, has.last, next_after) c.next_moment-derived.ensures)
      (λ tells.
      let t : c.has_to_advertise.result ≡ true = (c.has_to_advertise.ensures s (ap (λ (rows : List TcRow). length rows) has.rows ∙ sym c.len.ensures) has.emptied has.last (ap (λ (r : RouterSettings). r.times.advertised_hold) settings)).1 tells in
      let f = c.if-not-has_to_advertise.true in absurd cc) (sequence_after ∙ sym sequence),
)

pub returns-clause-sent : goal.returns-clause-sent
returns-clause-sent c =
    let tells : c.has_to_advertise.result ≡ true = elim (cases_Bool c.has_to_advertise.result) [ inl t ↦ t | inr f ↦ let n = c.if-not-has_to_advertise.false in absurd cc ] in
    on_ok_weaker c.send_parts.result (λ (sent, out, all). (
      sent,
      out,
      λ before s sequence next settings has sequence_after next_after.
          let had = has_before s (record c.args.derived.now { next_tc = c.next_moment-derived.result }) c.send_parts.new.derived.sequence (subst (λ (d : Derived). HasRowsOf s d) c.send_parts.ensures.others has) in
          let sends = all s settings has in
          Tcs_due (let late = c.if-now-derived.false in rw (next, has.last, ap (λ (d : Derived). d.last) c.send_parts.ensures.others) (omega (arith, late)))
          (rw (settings, has.last, next_after, ap (λ (d : Derived). d.last) c.send_parts.ensures.others, ap (λ (d : Derived). d.next_tc) c.send_parts.ensures.others) c.next_moment-derived.ensures)
          ((c.has_to_advertise.ensures s (ap (λ (rows : List TcRow). length rows) had.rows ∙ sym c.len.ensures) had.emptied had.last (ap (λ (r : RouterSettings). r.times.advertised_hold) settings)).0 tells)
          sends.parts sends.cut sends.validity sends.is
          (sequence_after ∙ (sends.number ∙ ap (λ (n : ℕ). (n + length sends.parts) % 65536) (sym sequence)))
          (subst (λ (n : ℕ). SendsParts s sends.validity (nat_eq (length sends.parts) 1) n sends.parts sent) (sym sequence) sends.sends),
    )) c.send_parts.ensures.sent

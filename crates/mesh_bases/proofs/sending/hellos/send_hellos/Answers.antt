use Rattle.mesh_bases.proofs.Common.{◌≡◌, ◌++◌, ◌∷◌, [], ◌+◌, ℕ, List, length, refl, sym, ap, subst, arith, ◌∙◌, append-nil, append_assoc, length_push, none-some, RouterSettings, IsHelloNow, Frame, IsHelloFrame, Hellos_early, Hellos_due}
use Rattle.mesh_bases.proofs.SendingLemmas.Written.{one_frame_more}
use Rattle.mesh_bases.proofs.sending.hellos.send_hellos.Goals as goal

pub returns-then-now-derived-clause-sent : goal.returns-then-now-derived-clause-sent
returns-then-now-derived-clause-sent g c = (
  [],
  sym (append-nil c.args.out.now),
  λ before s next settings near relays last after. Hellos_early (rw (last, next) c.if-now-derived.true) (after ∙ sym next),
)

pub loop-iface-init : goal.loop-iface-init
loop-iface-init g c = record { sent = ([], sym (append-nil c.args.out.now), refl, λ s settings near relays last i frame at. absurd (none-some frame at)) }

pub loop-iface-preserved : goal.loop-iface-preserved
loop-iface-preserved g c =
    let (sent, out, count, each) = c.loop-iface.invariant.sent in
    let frame : Frame = record { iface = c.loop-iface.iface; bytes = c.in_ok-bytes.bytes } in
    record {
      sent = (
        sent ++ frame ∷ [],
        c.in_ok-send.ensures.ok ∙ (ap (λ (o : List Frame). o ++ frame ∷ []) out ∙ append_assoc c.args.out.now sent (frame ∷ [])),
        length_push sent frame ∙ ap (λ (n : ℕ). n + 1) count,
        λ s settings near relays last.
            let (hello, is_now, writes) = c.in_ok-bytes.ensures s settings near relays in
            let here : IsHelloFrame s c.loop-iface.iface frame = record {
              iface = refl;
              hello = hello;
              is_now = subst (λ (n : ℕ). IsHelloNow s c.loop-iface.iface n hello) (sym last) is_now;
              written = writes;
            } in
            one_frame_more s sent c.loop-iface.iface frame count (each s settings near relays last) here,
      );
    }

pub returns-clause-sent : goal.returns-clause-sent
returns-clause-sent g c =
    let (sent, out, count, each) = c.loop-iface.invariant.sent in (
      sent,
      out,
      λ before s next settings near relays last after.
          let of_settings : s.settings ≡ c.settings-settings.result.now = settings ∙ sym c.settings-settings.ensures in
          Hellos_due (let late = c.if-now-derived.false in rw (last, next) (omega (arith, late)))
          (rw (of_settings, last, after) c.next_moment-derived.ensures)
          (record {
            count = count ∙ ((let a = c.loop-iface-test.false in let b = c.loop-iface.auto.iface-end in let e = c.len-iface-end.ensures in omega (arith, a, b, e)) ∙ ap (λ (r : RouterSettings). length r.interfaces) (sym of_settings));
            each = each s settings near relays last;
          }),
    )

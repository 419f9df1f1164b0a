-- Send's frame is one of five, or none applies: each case with what had nothing before it.
-- Assumes nothing.
use Rattle.std.specs.Prelude.{Some, None, Option, ℕ}
use mathlib.Core.Path.{◌≡◌, refl, ap, subst}
use Rattle.sender.specs.Sources.{new_of}
use Rattle.receiver.specs.declared.Owed.{Owed}
use Rattle.receiver.specs.declared.Owed.TheVariants as Owed
use Rattle.receiver.specs.Receiver.{nak_by, ack_by, nak_of, ack_of, first_marked}
use Rattle.ends.specs.declared.End.{End}
use Rattle.ends.specs.Sends.{send_of}
use Rattle.ends.proofs.Sources.{by_nak, by_ack, by_update, by_replay, by_new_lem, by_none}
use Rattle.views.specs.Views.{Sends, a_nak, an_ack, an_update, a_replay, a_new, nothing}

module _ (e : End) where
  module _ (none : e.receiver.reply.owed ≡ Owed.Nothing) where
    -- then there is no Nak and no Ack
    no_nak : nak_of e.receiver.reply ≡ None
    no_nak = ap (λ o. nak_by o e.receiver.reply.next_receive) none

    no-ack : ack_of e.receiver.reply ≡ None
    no-ack = ap (λ o. ack_by o e.receiver.reply.next_receive) none

    by_news : first_marked e.receiver ≡ None → e.sender.replay.at ≡ None → (w : Option (ℕ × ℕ)) → new_of e.sender ≡ w → Sends e (send_of e)
    by_news m r (Some (channel, place)) w =
        subst (Sends e) (by_new_lem e _ refl no_nak _ refl no-ack _ refl m r _ refl channel place w) (a_new channel place none m r w)
    by_news m r None w = subst (Sends e) (by_none e _ refl no_nak _ refl no-ack _ refl m r _ refl w) (nothing none m r w)

    by_replays : first_marked e.receiver ≡ None → (r : Option ℕ) → e.sender.replay.at ≡ r → Sends e (send_of e)
    by_replays m (Some i) r = subst (Sends e) (by_replay e _ refl no_nak _ refl no-ack _ refl m i r) (a_replay i none m r)
    by_replays m None r = by_news m r (new_of e.sender) refl

    by_marks : (m : Option ℕ) → first_marked e.receiver ≡ m → Sends e (send_of e)
    by_marks (Some i) m = subst (Sends e) (by_update e _ refl no_nak _ refl no-ack _ refl i m) (an_update i none m)
    by_marks None m = by_replays m e.sender.replay.at refl

  by_owed_lem : (o : Owed) → e.receiver.reply.owed ≡ o → Sends e (send_of e)
  by_owed_lem Owed.Nak h = subst (Sends e) (by_nak e _ refl _ (ap (λ o. nak_by o e.receiver.reply.next_receive) h)) (a_nak h)
  by_owed_lem Owed.Ack h =
      subst (Sends e)
      (by_ack e _ refl (ap (λ o. nak_by o e.receiver.reply.next_receive) h) _ refl _ (ap (λ o. ack_by o e.receiver.reply.next_receive) h)) (an_ack h)
  by_owed_lem Owed.Nothing h = by_marks h (first_marked e.receiver) refl

  pub send_view : Sends e (send_of e)
  send_view = by_owed_lem e.receiver.reply.owed refl

-- `sender::Sender::sent_new` meets its contract.
-- Assumes nothing.
use borrow.Author.Tests.{lt-ltb, le-ltb}
use Rattle.sender.specs.Sources.{sent_new}
use Rattle.sender.proofs.Sender.sent_new.Goals as goal

pub returns-then-channel-ge-CHANNELS : goal.returns-then-channel-ge-CHANNELS
unfolding sent_new
returns-then-channel-ge-CHANNELS c = simp (sent_new, le-ltb _ _ c.if-channel-ge-CHANNELS.true)

pub returns : goal.returns
unfolding sent_new
returns c =
    simp (
      sent_new,
      lt-ltb _ _ c.if-channel-ge-CHANNELS.false,
      c.with_credit-r.ensures,
      c.with_queue.ensures,
      c.next-next.ensures,
      c.push-buffer.ensures,
      c.spend-credit.ensures,
      c.need.ensures,
      c.credit.ensures,
      c.remove-rest.ensures,
      c.category-c.ensures,
      c.at-p.ensures,
      c.queue-q.ensures,
    )

-- The receiving half with one of its receive buffers written anew.
-- Assumes nothing.
use Rattle.std.specs.Prelude.{ℕ, set}
use Rattle.store.specs.declared.Packets.{Packets}
use Rattle.receiver.specs.declared.Receiver.{Receiver}
use Rattle.receiver.specs.Receiver.{receiver}

abbrev pub with_inbox : Receiver → ℕ → Packets → Receiver
with_inbox r channel q = receiver (set r.inboxes channel q) r.rooms r.reply

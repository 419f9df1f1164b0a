-- `memory::sending::spend` meets its contract.
-- Assumes nothing.
use native.Mathlib.Omega.{arith}
use mathlib.Core.Path.{◌≡◌, ◌∙◌, ap}
use lib.ListN.{length}
use Rattle.packets.specs.Packets.{number_of, category_of, need_of}
use Rattle.words.specs.Words.{packet_in}
use Rattle.words.specs.Memory.{sender_words}
use Rattle.memory.proofs.SendingLaws.{credit-read, credit-back, spent-same}
use Rattle.memory.proofs.sending.spend.Goals as goal

pub returns : goal.returns
returns c =
    let l : length c.args.s.now ≡ sender_words = omega arith in
    let number : c.number.result ≡ number_of (category_of (packet_in c.args.w)) = c.number.ensures ∙ ap number_of (c.category.ensures ∙ ap category_of c.from_word-p.ensures) in
    let both = credit-back c.args.s.now l c.args.channel c.number.result (category_of (packet_in c.args.w)) (omega arith) number c.to_word.result _
    (
    c.to_word.ensures.result_value
    ∙ c.spend.ensures
    ∙ spent-same _ _ _ _
    (c.from_word.ensures ∙ credit-read c.args.s.now l c.args.channel c.number.result (category_of (packet_in c.args.w)) (omega arith) number)
    (c.need.ensures ∙ ap need_of c.from_word-p.ensures)
    ) in
    record { s_after = both.0; s_len = both.1 }

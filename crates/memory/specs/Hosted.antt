-- An end in memory that its host lends as words, its setup behind it: what the words mean, what a step there says, and what it leaves.
-- Assumes nothing: words that are missing count as 0.
use Rattle.frames.specs.declared.Frame.{Frame}
use Rattle.std.specs.Prelude.{ℕ, ◌%◌, ◌≡◌, Bool, true, ◌&&◌, List, map, eqb, ltb, length, get_or, if◌then◌else◌, Some, None, Option}
use Rattle.basics.specs.Choice.{first_of}
use Rattle.basics.specs.Parts.{part}
use Rattle.packets.specs.declared.Packet.{Packet}
use Rattle.setup.specs.declared.Setup.{Setup}
use Rattle.setup.specs.Setup.{slots}
use Rattle.setup.specs.Bytes.{read_setup}
use Rattle.shape.specs.Shape.{in_shape}
use Rattle.ends.specs.declared.End.{End}
use Rattle.ends.specs.Sends.{Sent}
use Rattle.ends.specs.Ends.{Stepped}
use Rattle.pairs.specs.Pairs.{end_at, start_of}
use Rattle.words.specs.Words.{byte_in, units_in, head_word, rest_word}
use Rattle.words.specs.Memory.{end_words, end_in}
use Rattle.memory.specs.declared.hosts.Said.{Said}
use Rattle.memory.specs.declared.hosts.Sending.{Sending}
use Rattle.memory.specs.Said.{said, said_stepped, Keeps}

-- ---- a setup: n, the channels of classes 1 to 7, and a word for each slot's units

abbrev pub setup_words : ℕ
setup_words = 32

abbrev pub units_place : ℕ
units_place = 8

unfoldable pub setup_in : List ℕ → Setup
setup_in x = record { n = get_or x 0 0 % 256; classes = map byte_in (part x 1 7); units = map units_in (part x units_place slots) }

-- ---- the end, then its setup as the end sees it

abbrev pub hosted_words : ℕ
hosted_words = 506

abbrev pub link_in : List ℕ → Setup
link_in m = setup_in (part m end_words setup_words)

unfoldable pub hosted_in : List ℕ → End
hosted_in m = end_in (link_in m) (part m 0 end_words)

-- memory of another length holds no end
abbrev pub is_hosted : List ℕ → Bool
is_hosted m = eqb (length m) hosted_words

-- ---- what a step says: 10 where the memory holds no end

abbrev pub answer_in : List ℕ → Stepped → ℕ
answer_in m s = if is_hosted m then s.answer else 10

abbrev pub said_in : List ℕ → Stepped → Said
said_in m s = if is_hosted m then said_stepped s else said 10 0

-- the packet of a Submit
abbrev pub packet : ℕ → ℕ → ℕ → ℕ → Packet
packet kind class length ident = record { kind = kind; class = class; length = length; ident = ident }

-- ---- what it leaves: if t then the end e; by any other answer than 0 the memory is as it was, in every word

abbrev pub Leaves : Bool → ℕ → List ℕ → List ℕ → End → Type 0
Leaves t answer m w e = (t ≡ true → hosted_in w ≡ e) × (Keeps (eqb answer 0) m w × (length w ≡ length m))

-- ---- Send: a frame is its two words (words/Words); where there is none, both are 0

abbrev pub sending : ℕ → ℕ → ℕ → ℕ → Sending
sending answer detail head rest = record { answer = answer; detail = detail; head = head; rest = rest }

abbrev pub sending_by : Option Frame → ℕ → ℕ → Sending
sending_by (Some f) answer detail = sending answer detail (head_word f) (rest_word f)
sending_by None answer detail = sending answer detail 0 0

-- 10 where the memory holds no end
abbrev pub sent_in : List ℕ → Sent → Sending
sent_in m s = if is_hosted m then sending_by s.frame s.answer s.detail else sending 10 0 0 0

-- ---- the start: 7 memory of another length, 5 no setup in range, 11 end not 0 or 1

abbrev pub start_answer : List ℕ → List ℕ → ℕ → ℕ
start_answer m b which = if is_hosted m then first_of (read_setup b).answer (if ltb 1 which then 11 else 0) else 7

-- the end of the pair that was started
abbrev pub started_end : List ℕ → ℕ → End
started_end b which = end_at (start_of (read_setup b).setup).pair which

-- ---- 10: the end is out of shape, or there is none

abbrev pub shape_answer : List ℕ → ℕ
shape_answer m = if (is_hosted m && in_shape (hosted_in m)) then 0 else 10

-- how often the link was trained again
abbrev pub retrains_in : List ℕ → ℕ
retrains_in m = if is_hosted m then (hosted_in m).sender.replay.retrains.0 else 0

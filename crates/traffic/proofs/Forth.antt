-- Laws of the packets on the line forth: one more at its end, one less at its front, one more sent.
-- Assumes nothing.
use Prim.Native.Nat.{ℕ, suc, ◌+◌, ◌%◌, ◌≤◌, ◌<◌, max}
use mathlib.Core.Path.{◌≡◌, refl}
use mathlib.Core.List.{List, [], ◌∷◌, ◌++◌}
use native.Mathlib.Nat.{le_refl, le_trans}
use native.Mathlib.Omega.{arith}
use lib.ListN.{length, get_or, length-append, get_or-append}
use Rattle.counters.specs.declared.Seq.{Seq}
use Rattle.counters.specs.Counters.{seq}
use Rattle.packets.specs.declared.Packet.{Packet}
use Rattle.frames.specs.declared.Frame.TheVariants as Frame
use Rattle.frames.specs.declared.Message.{Message}
use Rattle.store.specs.Store.{no_packet}
use Rattle.line.specs.declared.Slot.{Slot}
use Rattle.line.specs.Line.{slot}
use Rattle.traffic.specs.Traffic.{a_packet, a_message, Forth, forth_end, forth_packet, forth_message}

module _ {sent : List Packet} where
  pub forth_lower : {b c : ℕ} {l : List Slot} → c ≤ b → Forth sent b l → Forth sent c l
  forth_lower h forth_end = forth_end
  forth_lower {b} {c} h (forth_packet t k r o) =
      let e : max c (suc t) ≤ max b (suc t) = omega arith in
      forth_packet t k (le_trans h r) (forth_lower e o)
  forth_lower h (forth_message m o) = forth_message m (forth_lower h o)

  -- one more is sent: those on the line are still the ones sent as their numbers
  pub forth_grow : {b : ℕ} {l : List Slot} (p : Packet) → Forth sent b l → Forth (sent ++ (p ∷ [])) b l
  forth_grow p forth_end = forth_end
  forth_grow p (forth_packet t k r o) =
      rw (← get_or-append sent (p ∷ []) no_packet t k)
      (forth_packet t (omega (arith, k, length-append sent (p ∷ []))) r (forth_grow p o))
  forth_grow p (forth_message m o) = forth_message m (forth_grow p o)

  -- one line after another: all that the second must not lie too far behind is at most m
  forth_join : {b m : ℕ} {l k : List Slot} → b ≤ m → length sent ≤ m → Forth sent b l → Forth sent m k → Forth sent b (l ++ k)
  forth_join h s forth_end x = forth_lower h x
  forth_join {b} {m} h s (forth_packet t k r o) x =
      let e : max b (suc t) ≤ m = omega arith in
      forth_packet t k r (forth_join e s o x)
  forth_join h s (forth_message n o) x = forth_message n (forth_join h s o x)

  -- a packet goes onto the line: the one sent as number t, at most 16 unacknowledged
  pub forth_sent : {b : ℕ} {l : List Slot} (t : ℕ) → t < length sent → length sent ≤ t + 16 → b ≤ length sent → Forth sent b l
      → Forth sent b (l ++ (a_packet sent t ∷ []))
  forth_sent t k r h o = forth_join h (le_refl (length sent)) o (forth_packet t k r forth_end)

  pub forth_other : {b : ℕ} {l : List Slot} (m : Message) → Forth sent b l → Forth sent b (l ++ (a_message m ∷ []))
  forth_other {b} m o = forth_join {m = max b (length sent)} (omega arith) (omega arith) o (forth_message m forth_end)

  -- the oldest frame leaves
  pub forth_rest : {b : ℕ} {x : Slot} {l : List Slot} → Forth sent b (x ∷ l) → Forth sent b l
  forth_rest {b} (forth_packet t k r o) = let e : b ≤ max b (suc t) = omega arith in forth_lower e o
  forth_rest (forth_message m o) = o

-- what is known of a packet that is the oldest frame: it is the one sent as number t, and the others are judged with it received
pub record Oldest (sent : List Packet) (b : ℕ) (number : Seq) (p : Packet) (l : List Slot) : Type 0 where
  pub t : ℕ
  pub number_is : number ≡ seq (t % 4096)
  pub packet_is : p ≡ get_or sent t no_packet
  pub below : t < length sent
  pub recent : b ≤ t + 16
  pub rest : Forth sent (max b (suc t)) l

pub forth_oldest : {sent : List Packet} {b : ℕ} {number : Seq} {p : Packet} {l : List Slot}
    → Forth sent b (slot (Frame.Packet number p) ∷ l) → Oldest sent b number p l
forth_oldest (forth_packet t k r o) = record { t = t; number_is = refl; packet_is = refl; below = k; recent = r; rest = o }

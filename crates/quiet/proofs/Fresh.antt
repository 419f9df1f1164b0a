-- Laws of the packets on the line forth within a quiet round: one more at its end, one less at its front, one more sent, and the bounds eased.
-- Assumes nothing.
use Prim.Native.Nat.{ℕ, suc, pred, ◌+◌, ◌%◌, ◌≤◌, ◌<◌, max}
use mathlib.Core.Path.{◌≡◌, refl}
use mathlib.Core.List.{List, [], ◌∷◌, ◌++◌}
use native.Mathlib.Nat.{le_refl, le_trans}
use native.Mathlib.Omega.{arith}
use lib.ListN.{length, length-append, get_or-append}
use Rattle.counters.specs.declared.Seq.{Seq}
use Rattle.counters.specs.Counters.{seq}
use Rattle.packets.specs.declared.Packet.{Packet}
use Rattle.frames.specs.declared.Frame.TheVariants as Frame
use Rattle.frames.specs.declared.Message.{Message}
use Rattle.store.specs.Store.{no_packet}
use Rattle.line.specs.declared.Slot.{Slot}
use Rattle.line.specs.Line.{slot}
use Rattle.traffic.specs.Traffic.{a_packet, a_message, Forth, forth_end, forth_packet, forth_message}
use Rattle.quiet.specs.Quiet.{Fresh, fresh_end, old_packet, old_message, fresh_packet, fresh_message}

module _ {sent : List Packet} where
  -- a round opens: all frames are old
  pub fresh_open : {most b next : ℕ} {l : List Slot} → Forth sent most l → next ≤ b → Fresh sent (length l) most b next l
  fresh_open forth_end h = fresh_end h
  fresh_open (forth_packet t k r o) h = old_packet t k r (fresh_open o h)
  fresh_open (forth_message m o) h = old_message (fresh_open o h)

  -- ---- the bounds eased

  -- what is received never falls along the line: the last b is at least the first
  fresh_ease : (next next' : ℕ) {n most most' b b' : ℕ} {l : List Slot} → most' ≤ most → b ≤ b' → next' ≤ max next b → Fresh sent n most b next l
      → Fresh sent n most' b' next' l
  fresh_ease next next' {b = b} {b' = b'} m h x (fresh_end e) = let y : next' ≤ b' = omega arith in fresh_end y
  fresh_ease next next' {most = most} {most' = most'} m h x (old_packet t k r o) =
      let y : max most' (suc t) ≤ max most (suc t) = omega arith in
      old_packet t k (le_trans m r) (fresh_ease next next' y h x o)
  fresh_ease next next' m h x (old_message o) = old_message (fresh_ease next next' m h x o)
  fresh_ease next next' {most = most} {most' = most'} {b = b} {b' = b'} m h x (fresh_packet t k r low o) =
      let y : max most' (suc t) ≤ max most (suc t) = omega arith in
      let z : max b (suc t) ≤ max b' (suc t) = omega arith in
      let w : next' ≤ max next (max b (suc t)) = omega arith in
      fresh_packet t k (le_trans m r) (le_trans low h) (fresh_ease next next' y z w o)
  fresh_ease next next' m h x (fresh_message o) = fresh_message (fresh_ease next next' m h x o)

  pub fresh-next : (next next' : ℕ) {n most b : ℕ} {l : List Slot} → next' ≤ max next b → Fresh sent n most b next l → Fresh sent n most b next' l
  fresh-next next next' {most = most} {b = b} h o = fresh_ease next next' (le_refl most) (le_refl b) h o

  pub fresh_lower : {n most most' b next : ℕ} {l : List Slot} → most' ≤ most → Fresh sent n most b next l → Fresh sent n most' b next l
  fresh_lower {b = b} {next = next} h o = fresh_ease next next h (le_refl b) (omega arith) o

  pub fresh_raise : {n most b b' next : ℕ} {l : List Slot} → b ≤ b' → Fresh sent n most b next l → Fresh sent n most b' next l
  fresh_raise {most = most} {next = next} h o = fresh_ease next next (le_refl most) h (omega arith) o

  -- ---- one more is sent: those on the line are still the ones sent as their numbers

  pub fresh-grow : {n most b next : ℕ} {l : List Slot} (p : Packet) → Fresh sent n most b next l → Fresh (sent ++ (p ∷ [])) n most b next l
  fresh-grow p (fresh_end e) = fresh_end e
  fresh-grow p (old_packet t k r o) =
      rw (← get_or-append sent (p ∷ []) no_packet t k)
      (old_packet t (omega (arith, k, length-append sent (p ∷ []))) r (fresh-grow p o))
  fresh-grow p (old_message o) = old_message (fresh-grow p o)
  fresh-grow p (fresh_packet t k r low o) =
      rw (← get_or-append sent (p ∷ []) no_packet t k)
      (fresh_packet t (omega (arith, k, length-append sent (p ∷ []))) r low (fresh-grow p o))
  fresh-grow p (fresh_message o) = fresh_message (fresh-grow p o)

  -- ---- one more at its end

  -- one line after another: all that the second must not lie too far behind is at most m, and at least `next` is received at its turn
  fresh_join : (next : ℕ) {n most m b next' : ℕ} {l k : List Slot} → most ≤ m → length sent ≤ m → Fresh sent n most b next l → Fresh sent 0 m next next' k
      → Fresh sent n most b next' (l ++ k)
  fresh_join next h s (fresh_end e) x = fresh_lower h (fresh_raise e x)
  fresh_join next {most = most} {m = m} h s (old_packet t k r o) x =
      let e : max most (suc t) ≤ m = omega arith in
      old_packet t k r (fresh_join next e s o x)
  fresh_join next h s (old_message o) x = old_message (fresh_join next h s o x)
  fresh_join next {most = most} {m = m} h s (fresh_packet t k r low o) x =
      let e : max most (suc t) ≤ m = omega arith in
      fresh_packet t k r low (fresh_join next e s o x)
  fresh_join next h s (fresh_message o) x = fresh_message (fresh_join next h s o x)

  -- a packet goes onto the line: the one sent as number t, which was the next, at most 16 unacknowledged
  pub fresh-sent : {n most b : ℕ} {l : List Slot} (t : ℕ) → t < length sent → length sent ≤ t + 16 → most ≤ length sent → Fresh sent n most b t l
      → Fresh sent n most b (suc t) (l ++ (a_packet sent t ∷ []))
  fresh-sent t k r h o =
      let e : suc t ≤ max t (suc t) = omega arith in
      fresh_join t h (le_refl (length sent)) o (fresh_packet t k r (le_refl t) (fresh_end e))

  pub fresh-other : {n most b next : ℕ} {l : List Slot} (m : Message) → Fresh sent n most b next l → Fresh sent n most b next (l ++ (a_message m ∷ []))
  fresh-other {most = most} {next = next} m o =
      fresh_join next {m = max most (length sent)} (omega arith) (omega arith) o (fresh_message (fresh_end (le_refl next)))

  -- ---- one less at its front

  pub fresh_message_gone : {n most b next : ℕ} {m : Message} {l : List Slot} → Fresh sent n most b next (a_message m ∷ l) → Fresh sent (pred n) most b next l
  fresh_message_gone (old_message o) = o
  fresh_message_gone (fresh_message o) = o

  -- ---- how many are old, and an empty line

  pub fresh-few : {n most b next : ℕ} {l : List Slot} → Fresh sent n most b next l → n ≤ length l
  fresh-few (fresh_end e) = omega arith
  fresh-few (old_packet t k r o) = omega (arith, fresh-few o)
  fresh-few (old_message o) = omega (arith, fresh-few o)
  fresh-few (fresh_packet t k r low o) = omega arith
  fresh-few (fresh_message o) = omega arith

  pub fresh-empty : {n most b next : ℕ} → Fresh sent n most b next [] → next ≤ b
  fresh-empty (fresh_end e) = e

-- what is known of a packet that is the oldest frame: it is the one sent as number t, and the others are judged with it received.
-- Where it is old, nothing is known of what is received after it
pub record OldOldest (sent : List Packet) (n most b next : ℕ) (number : Seq) (l : List Slot) : Type 0 where
  pub t : ℕ
  pub number_is : number ≡ seq (t % 4096)
  pub below : t < length sent
  pub recent : most ≤ t + 16
  pub rest : Fresh sent n (max most (suc t)) b next l

pub old_oldest : {sent : List Packet} {n most b next : ℕ} {number : Seq} {p : Packet} {l : List Slot}
    → Fresh sent (suc n) most b next (slot (Frame.Packet number p) ∷ l) → OldOldest sent n most b next number l
old_oldest (old_packet t k r o) = record { t = t; number_is = refl; below = k; recent = r; rest = o }

pub record FreshOldest (sent : List Packet) (most b next : ℕ) (number : Seq) (l : List Slot) : Type 0 where
  pub t : ℕ
  pub number_is : number ≡ seq (t % 4096)
  pub below : t < length sent
  pub recent : most ≤ t + 16
  pub low : t ≤ b
  pub rest : Fresh sent 0 (max most (suc t)) (max b (suc t)) next l

pub fresh-oldest : {sent : List Packet} {most b next : ℕ} {number : Seq} {p : Packet} {l : List Slot}
    → Fresh sent 0 most b next (slot (Frame.Packet number p) ∷ l) → FreshOldest sent most b next number l
fresh-oldest (fresh_packet t k r low o) = record { t = t; number_is = refl; below = k; recent = r; low = low; rest = o }

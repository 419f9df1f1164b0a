-- The packets untaken, channel by channel, are as many as were accepted less those taken: each packet is on one channel. Assumes nothing.
use Prim.Native.Nat.{ℕ, zero, suc, ◌+◌, ◌-◌, ◌≤◌, ◌<◌}
use mathlib.Core.Path.{◌≡◌, refl, sym, ap, ◌∙◌}
use mathlib.Core.Logic.{◌≢◌}
use mathlib.Core.Bool.{true, ◌&&◌}
use mathlib.Core.List.{List, [], ◌∷◌}
use native.Mathlib.Omega.{arith}
use native.Mathlib.Nat.{le_refl}
use borrow.Author.Tests.{eq-eqb, ne_eqb, eqb-true}
use lib.Dec.{eqb}
use lib.ListN.{length}
use Rattle.basics.specs.Lists.{all}
use Rattle.basics.proofs.Branches.{and_left, and_right}
use Rattle.packets.specs.declared.Packet.{Packet}
use Rattle.packets.specs.Packets.{packet_answer}
use Rattle.line.specs.declared.Slot.{Slot}
use Rattle.setup.specs.declared.Setup.{Setup}
use Rattle.setup.specs.Setup.{channels, in_range}
use Rattle.sender.specs.declared.Sender.{Sender}
use Rattle.receiver.specs.declared.Receiver.{Receiver}
use Rattle.amounts.specs.Amounts.{channel_for, on}
use Rattle.amounts.proofs.Given.{channel_below}
use Rattle.direction.specs.Direction.{Past, Direction}
use Rattle.quiet.specs.Burden.{sum}
use Rattle.quiet.specs.Untaken.{untaken_of}
use Rattle.quiet.proofs.Burden.{sum_one}
use Rattle.quiet.proofs.Untaken.{none-sum, counted}

-- a sum of differences is the difference of the sums
sum-minus : (n : ℕ) (f g : ℕ → ℕ) → ((j : ℕ) → j < n → g j ≤ f j) → (sum n (λ j. f j - g j) ≡ sum n f - sum n g) × (sum n g ≤ sum n f)
unfolding sum
sum-minus zero f g h = (refl, le_refl 0)
sum-minus (suc n) f g h =
    let a = sum-minus n f g (λ j z. h j (omega arith)) in
    let b = h n (le_refl (suc n)) in
    (omega (arith, a.0, a.1), omega (arith, a.1))

-- packets that pass the rules are on a channel each
pub count-on : (link : Setup) → in_range link ≡ true → (ps : List Packet) → all (λ p. eqb (packet_answer p) 0) ps ≡ true → sum channels (λ channel. length (on link channel ps)) ≡ length ps
count-on link ok [] e = none-sum channels (λ channel. 0) (λ j h. refl)
count-on link ok (p ∷ ps) e =
    let rules = eqb-true (packet_answer p) 0 (and_left (eqb (packet_answer p) 0) (all (λ q. eqb (packet_answer q) 0) ps) e) in
    let more = count-on link ok ps (and_right (eqb (packet_answer p) 0) (all (λ q. eqb (packet_answer q) 0) ps) e) in
    let one = sum_one channels (λ channel. length (on link channel (p ∷ ps))) (λ channel. length (on link channel ps)) (channel_for link p) (channel_below link ok p rules)
    (rw (eq-eqb (channel_for link p) (channel_for link p) refl) (omega arith)) (λ j n. rw (ne_eqb (channel_for link p) j (λ z. n (sym z)))) in
    omega (arith, one, more)

pub untaken-plain : {link : Setup} {g : Past} {s : Sender} {forth back : List Slot} {r : Receiver} → in_range link ≡ true → Direction link g s forth r back
    → untaken_of link g.accepted g.taken ≡ length g.accepted - length g.taken
unfolding untaken_of
untaken-plain {link} {g} ok i =
    (sum-minus channels (λ channel. length (on link channel g.accepted)) (λ channel. length (on link channel g.taken))
    (λ channel h. omega (arith, counted i channel h))).0
    ∙ rw (count-on link ok g.accepted i.sending.known, count-on link ok g.taken i.receiving.known)

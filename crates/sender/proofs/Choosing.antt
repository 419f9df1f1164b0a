-- What the new packet that is chosen promises: its channel is the highest that has an eligible packet, it is eligible there, and the
-- replay buffer has room. Where none is chosen and the buffer has room, no channel has an eligible packet.
-- Assumes nothing.
use Rattle.std.specs.Prelude.{if◌then◌else◌, Some, None, Option, ℕ}
use Prim.Native.Nat.{ℕ, zero, suc, ◌+◌, ◌<◌}
use mathlib.Core.Path.{◌≡◌, refl, sym, ap, ◌∙◌}
use mathlib.Core.Bool.{Bool, true, false}
use mathlib.Core.List.{List}
use mathlib.Core.Logic.{◌⊎◌, ⊎_elim}
use native.Mathlib.Omega.{arith}
use native.Mathlib.Nat.{not-suc-le-zero, le_of_suc-le-suc, eq-or-lt_of_le}
use native.Mathlib.Numerals.{add-one}
use borrow.Author.Tests.{ltb-true, lt-ltb}
use lib.Dec.{ltb}
use lib.ListN.{length, get_or, take}
use Rattle.packets.specs.declared.Packet.{Packet}
use Rattle.packets.specs.declared.Category.{Category}
use Rattle.packets.specs.declared.Category.TheVariants.{Posted, NonPosted, Completion}
use Rattle.packets.specs.Packets.{category_of, need_of, slot_of}
use Rattle.credits.specs.Credits.{suffices}
use Rattle.store.specs.Store.{held, no_packet, is_of}
use Rattle.choice.specs.Choice.{credit_of, none_of, eligible}
use Rattle.choice.proofs.Chosen.{chosen-within, chosen_first, chosen-suffices, chosen_in-order, none-chosen}
use Rattle.setup.specs.Setup.{channels}
use Rattle.sender.specs.declared.Sender.{Sender}
use Rattle.sender.specs.Sender.{queue_at, credit_at}
use Rattle.sender.specs.Sources.{buffer_bound, credits_of, chosen_in, on_found, highest, new_of, new_packet}

-- ---- a channel and a place that were found are one channel and one place

abbrev channel_in : Option (ℕ × ℕ) → ℕ
channel_in (Some (channel, place)) = channel
channel_in None = 0

abbrev place_in : Option (ℕ × ℕ) → ℕ
place_in (Some (channel, place)) = place
place_in None = 0

-- nothing is no place
apart : {B : Type 0} (channel place : ℕ) → ◌≡◌ {A = Option (ℕ × ℕ)} None (Some (channel, place)) → B
apart channel place e = let z : ◌≡◌ {A = ℕ} 0 1 = cc in absurd (omega arith)

module _ (s : Sender) where
  -- ---- the walk from the highest channel down

  module _ (c k : ℕ) (below : c ≡ k + 1) where
    pub highest-here : (place : ℕ) → chosen_in s k ≡ Some place → highest s c ≡ Some (k, place)
    unfolding highest
    highest-here place e = rw (below, add-one k, e)

    pub highest-next : chosen_in s k ≡ None → highest s c ≡ highest s k
    unfolding highest
    highest-next e = rw (below, add-one k, e)

  -- ---- what it finds

  pub highest-found : (c channel place : ℕ) → highest s c ≡ Some (channel, place) → (channel < c) × (chosen_in s channel ≡ Some place)
  unfolding highest
  highest-found zero channel place e = apart channel place e
  highest-found (suc c) channel place e = go (chosen_in s c) refl e (highest-found c channel place)
    where
      go : (x : Option ℕ) → chosen_in s c ≡ x → on_found x (λ i. Some (c, i)) (highest s c) ≡ Some (channel, place)
          → (highest s c ≡ Some (channel, place) → (channel < c) × (chosen_in s channel ≡ Some place))
          → (channel < suc c) × (chosen_in s channel ≡ Some place)
      go (Some i) t e f =
          let k : c ≡ channel = ap channel_in e in
          let j : i ≡ place = ap place_in e in
          (omega arith, rw (← k, t, j))
      go None t e f = let g = f e in (omega (arith, g.0), g.1)

  -- no channel above it has an eligible packet
  pub highest_above : (c channel place k : ℕ) → highest s c ≡ Some (channel, place) → channel < k → k < c → chosen_in s k ≡ None
  unfolding highest
  highest_above zero channel place k e above h = absurd (not-suc-le-zero h)
  highest_above (suc c) channel place k e above h = go (chosen_in s c) refl e (highest_above c channel place k)
    where
      go : (x : Option ℕ) → chosen_in s c ≡ x → on_found x (λ i. Some (c, i)) (highest s c) ≡ Some (channel, place)
          → (highest s c ≡ Some (channel, place) → channel < k → k < c → chosen_in s k ≡ None) → chosen_in s k ≡ None
      go (Some i) t e f = let z : c ≡ channel = ap channel_in e in absurd (omega arith)
      go None t e f =
          ⊎_elim (λ (z : k ≡ c). rw z t) (λ (z : k < c). f e above z) (eq-or-lt_of_le (le_of_suc-le-suc h))

  pub highest-nothing : (c k : ℕ) → highest s c ≡ None → k < c → chosen_in s k ≡ None
  unfolding highest
  highest-nothing zero k e h = absurd (not-suc-le-zero h)
  highest-nothing (suc c) k e h = go (chosen_in s c) refl e (highest-nothing c k)
    where
      go : (x : Option ℕ) → chosen_in s c ≡ x → on_found x (λ i. Some (c, i)) (highest s c) ≡ None
          → (highest s c ≡ None → k < c → chosen_in s k ≡ None) → chosen_in s k ≡ None
      go (Some i) t e f = apart c i (sym e)
      go None t e f = ⊎_elim (λ (z : k ≡ c). rw z t) (λ (z : k < c). f e z) (eq-or-lt_of_le (le_of_suc-le-suc h))

  -- the credit of a category among its channel's three
  pub credit_in_lem : (channel : ℕ) (c : Category) → credit_of (credits_of s channel) c ≡ credit_at s (slot_of channel c)
  credit_in_lem channel Posted = refl
  credit_in_lem channel NonPosted = refl
  credit_in_lem channel Completion = refl

  -- ---- a new packet is chosen

  module _ (channel place : ℕ) (new : new_of s ≡ Some (channel, place)) where
    abbrev queue : List Packet
    queue = held (queue_at s channel)

    pub new_room : s.buffer.len < buffer_bound
    unfolding new_of
    new_room = go (ltb s.buffer.len buffer_bound) refl new
      where
        go : (b : Bool) → ltb s.buffer.len buffer_bound ≡ b → (if b then highest s channels else None) ≡ Some (channel, place)
            → s.buffer.len < buffer_bound
        go true t e = ltb-true s.buffer.len buffer_bound t
        go false t e = apart channel place e

    new_highest : highest s channels ≡ Some (channel, place)
    unfolding new_of
    new_highest = sym (rw (lt-ltb s.buffer.len buffer_bound new_room)) ∙ new

    pub new_channel : channel < channels
    new_channel = (highest-found channels channel place new_highest).0

    pub new_chosen : chosen_in s channel ≡ Some place
    new_chosen = (highest-found channels channel place new_highest).1

    pub new_above : (k : ℕ) → channel < k → k < channels → chosen_in s k ≡ None
    new_above k = highest_above channels channel place k new_highest

    pub new_within : place < length queue
    new_within = chosen-within (credits_of s channel) queue place new_chosen

    -- first of its category in its channel
    pub new_first : none_of (category_of (new_packet s channel place)) (take place queue) ≡ true
    new_first = chosen_first (credits_of s channel) queue place new_chosen

    -- its credits suffice
    pub new_suffices : suffices (credit_at s (slot_of channel (category_of (new_packet s channel place)))) (need_of (new_packet s channel place)) ≡ true
    new_suffices =
        rw (← credit_in_lem channel (category_of (new_packet s channel place))) (chosen-suffices (credits_of s channel) queue place new_chosen)

    -- it is posted, or no posted packet stands before it
    pub new_in_order : (is_of Posted (new_packet s channel place) ≡ true) ⊎ (none_of Posted (take place queue) ≡ true)
    new_in_order = chosen_in-order (credits_of s channel) queue place new_chosen

  -- ---- none is chosen

  pub new_nothing : (k : ℕ) → new_of s ≡ None → s.buffer.len < buffer_bound → k < channels → chosen_in s k ≡ None
  unfolding new_of
  new_nothing k e room h = highest-nothing channels k (sym (rw (lt-ltb s.buffer.len buffer_bound room)) ∙ e) h

  pub none-eligible : (k j : ℕ) → new_of s ≡ None → s.buffer.len < buffer_bound → k < channels → j < length (held (queue_at s k))
      → eligible (credits_of s k) (take j (held (queue_at s k))) (get_or (held (queue_at s k)) j no_packet) ≡ false
  none-eligible k j e room h within = none-chosen (credits_of s k) (held (queue_at s k)) j (new_nothing k e room h) within

-- The detail of a Take that hands out a packet is the ident of the packet that the history says it is about.
-- Assumes nothing.
use Prim.Native.Nat.{ℕ}
use mathlib.Core.Path.{◌≡◌, refl}
use mathlib.Core.Bool.{true, not}
use mathlib.Core.List.{List}
use native.Mathlib.Omega.{arith}
use borrow.Author.Tests.{eqb-true}
use lib.Dec.{ltb}
use lib.ListN.{get_or}
use Rattle.basics.proofs.Branches.{by_test}
use Rattle.basics.proofs.Filters.{filter_first}
use Rattle.packets.specs.declared.Packet.{Packet}
use Rattle.packets.specs.declared.Category.{Category}
use Rattle.packets.specs.declared.Category.TheVariants.{Posted, NonPosted, Completion}
use Rattle.packets.specs.Packets.{number_of, numbered}
use Rattle.store.specs.Store.{held, no_packet, is_of, of_category}
use Rattle.receiver.specs.Receiver.{inbox_at}
use Rattle.ends.specs.declared.End.{End}
use Rattle.ends.specs.Ends.{Stepped}
use Rattle.script.specs.declared.Step.{Step}
use Rattle.script.specs.Step.{is_take, formed}
use Rattle.pairs.specs.declared.Pair.{Pair}
use Rattle.pairs.specs.Pairs.{Done}
use Rattle.pairs.specs.Pairs.{end_at, by_end}
use Rattle.pairs.specs.Steps.{pair_in_shape, step_of}
use Rattle.pairs.proofs.Acts.{takes}
use Rattle.views.specs.Views.{usual, Takes, not_handed, hands}
use Rattle.views.proofs.Takes.{take_view}
use Rattle.law.specs.History.{oldest_of, about}

-- the oldest packet, by the number of its category
oldest_by : (c : Category) (ps : List Packet) → oldest_of (numbered (number_of c)) ps ≡ get_or (of_category c ps) 0 no_packet
oldest_by Posted ps = refl
oldest_by NonPosted ps = refl
oldest_by Completion ps = refl

-- at one end: what is handed out is the oldest of its category
handed_detail : {e : End} {channel category : ℕ} {x : Stepped} → Takes e channel category x → x.answer ≡ 0
    → x.detail ≡ (oldest_of (numbered category) (held (inbox_at e.receiver channel))).ident
handed_detail (not_handed (usual low high)) z = absurd (omega arith)
handed_detail {e} {channel} (hands c place is used here within of-it first in_order) z =
    let waiting = held (inbox_at e.receiver channel) in
    rw (← is, oldest_by c waiting, filter_first (is_of c) waiting place no_packet within of-it first)

-- for any pair: 10, 11 and 6 are not 0, so the Take was done at its end
pub take-detail : (p : Pair) (t : Step) → is_take t.step ≡ true → (step_of p t).answer ≡ 0 → (step_of p t).detail ≡ (about p t).ident
unfolding step_of by_end
take-detail p t take =
    let is = eqb-true t.step 6 take in
    by_test Says (not (pair_in_shape p)) (λ e z. absurd (omega arith))
    (λ e. by_test Says (ltb 1 t.end) (λ f z. absurd (omega arith))
    (λ f. by_test Says (not (formed t)) (λ g z. absurd (omega arith)) (λ g. rw (← takes p t is, is) (handed_detail (take_view (end_at p t.end) t.class t.kind)))))
  where
    Says : Done → Type 0
    Says d = d.answer ≡ 0 → d.detail ≡ (about p t).ident

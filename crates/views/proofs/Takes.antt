-- Take refuses, or hands out the oldest of its category, before which no posted packet waits.
-- Assumes nothing.
use Rattle.std.specs.Prelude.{Some, None, Option, ℕ}
use Prim.Native.Nat.{ℕ, ◌≤◌, ◌<◌}
use mathlib.Core.Path.{◌≡◌, refl, sym}
use mathlib.Core.Bool.{Bool, true, false, not}
use mathlib.Core.List.{List}
use mathlib.Core.Logic.{inr}
use native.Mathlib.Omega.{arith}
use borrow.Author.Tests.{ltb-false, leb-false, eqb-true, eqb-false}
use lib.Dec.{leb, eqb}
use lib.ListN.{take}
use lib.Seq.{take-take}
use Rattle.basics.specs.Lists.{all, find}
use Rattle.basics.proofs.All.{all_take}
use Rattle.basics.proofs.Branches.{by_test}
use Rattle.basics.proofs.Finds.{found_first, found_nothing}
use Rattle.packets.specs.declared.Packet.{Packet}
use Rattle.packets.specs.declared.Category.{Category}
use Rattle.packets.specs.declared.Category.TheVariants.{Posted}
use Rattle.packets.specs.Packets.{number_of, numbered}
use Rattle.store.specs.Store.{held, no_packet, is_of}
use Rattle.setup.specs.Setup.{channels}
use Rattle.receiver.specs.Receiver.{inbox_at}
use Rattle.delivery.specs.Delivery.{Got}
use Rattle.delivery.specs.Delivery.{got, is_before, taken_at, taken_by, take_of}
use Rattle.ends.specs.declared.End.{End}
use Rattle.ends.specs.Ends.{by_receiver, take_at}
use Rattle.views.specs.Views.{usual, Takes, not_handed, hands}

-- ---- the category of a number

abbrev Names : ℕ → Option Category → Type 0
Names k (Some c) = number_of c ≡ k
Names k None = 2 < k

names : (k : ℕ) → Names k (numbered k)
names k =
    by_test (Names k) (eqb k 0) (λ t. sym (eqb-true k 0 t))
    (λ t. by_test (Names k) (eqb k 1) (λ u. sym (eqb-true k 1 u))
    (λ u. by_test (Names k) (eqb k 2) (λ v. sym (eqb-true k 2 v)) (λ v. omega (arith, eqb-false k 0 t, eqb-false k 1 u, eqb-false k 2 v))))

-- ---- no posted packet stands before a place

module _ (ps : List Packet) (place : ℕ) where
  abbrev free : Packet → Bool
  free p = not (is_of Posted p)

  none_before : (f : Option ℕ) → find (is_of Posted) ps 0 ≡ f → is_before f place ≡ false → all free (take place ps) ≡ true
  none_before None e t = all_take free place ps (found_nothing no_packet (is_of Posted) ps 0 e)
  none_before (Some i) e t =
      rw (take-take place i ps (ltb-false i place t)) at
      (all_take free place (take i ps) (found_first no_packet (is_of Posted) ps i e).2)

-- ---- Take

module _ (e : End) (channel category : ℕ) where
  abbrev waiting : List Packet
  waiting = held (inbox_at e.receiver channel)

  abbrev Shown : Got → Type 0
  Shown g = Takes e channel category (by_receiver e g)

  refuses : (n : ℕ) → 11 ≤ n → n ≤ 23 → Shown (got e.receiver n 0)
  refuses n low high = not_handed (usual low high)

  module _ (used : channel < e.setup.n) (here : channel < channels) where
    of_category_lem : (c : Category) → number_of c ≡ category → (f : Option ℕ) → find (is_of c) waiting 0 ≡ f → Shown (taken_at e.receiver channel c f)
    unfolding taken_at
    of_category_lem c is None found = refuses 21 (omega arith) (omega arith)
    of_category_lem c is (Some place) found =
        let f = found_first no_packet (is_of c) waiting place found in
        by_test Shown (is_before (find (is_of Posted) waiting 0) place)
        (λ t. refuses 22 (omega arith) (omega arith))
        (λ t. hands c place is used here f.0 f.1 f.2 (inr (none_before waiting place (find (is_of Posted) waiting 0) refl t)))

    by_number : (x : Option Category) → Names category x → Shown (taken_by e.receiver channel x)
    by_number (Some c) is = of_category_lem c is (find (is_of c) waiting 0) refl
    by_number None is = refuses 20 (omega arith) (omega arith)

  pub take_view : Takes e channel category (take_at e channel category)
  unfolding take_of
  take_view =
      by_test Shown (leb e.setup.n channel) (λ t. refuses 20 (omega arith) (omega arith))
      (λ t. by_test Shown (leb channels channel) (λ u. refuses 20 (omega arith) (omega arith))
      (λ u. by_number (leb-false e.setup.n channel t) (leb-false channels channel u) (numbered category) (names category)))

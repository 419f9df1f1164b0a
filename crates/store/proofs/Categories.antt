-- Packets by category: a packet is of its own category and of no other, and the count of some packets is their header units.
-- Assumes nothing.
use Rattle.std.specs.Prelude.{if◌then◌else◌}
use Prim.Native.Nat.{ℕ}
use mathlib.Core.Path.{◌≡◌, refl, sym, ◌∙◌}
use mathlib.Core.Bool.{true}
use mathlib.Core.List.{List}
use borrow.Author.Tests.{eq-eqb}
use lib.ListN.{length}
use Rattle.basics.specs.Lists.{total}
use Rattle.basics.proofs.Filters.{length-total, total-filter}
use Rattle.packets.specs.declared.Packet.{Packet}
use Rattle.packets.specs.declared.Category.{Category}
use Rattle.packets.specs.declared.Category.TheVariants.{Posted, NonPosted, Completion}
use Rattle.packets.specs.Packets.{number_of, category_of, same, header_units, headers_together}
use Rattle.store.specs.Store.{is_of, of_category}

pub own_category : (p : Packet) → is_of (category_of p) p ≡ true
own_category p = eq-eqb (number_of (category_of p)) (number_of (category_of p)) refl

pub same-category : (a b : Category) → same a b ≡ true → a ≡ b
same-category Posted Posted e = refl
same-category Posted NonPosted e = cc
same-category Posted Completion e = cc
same-category NonPosted Posted e = cc
same-category NonPosted NonPosted e = refl
same-category NonPosted Completion e = cc
same-category Completion Posted e = cc
same-category Completion NonPosted e = cc
same-category Completion Completion e = refl

-- ---- sums over a category, packet by packet

-- what a packet adds to a sum over category c
abbrev pub share : (Packet → ℕ) → Category → Packet → ℕ
share f c p = if is_of c p then f p else 0

pub total_of : (f : Packet → ℕ) (c : Category) (ps : List Packet) → total f (of_category c ps) ≡ total (share f c) ps
total_of f c ps = total-filter (is_of c) f ps

pub count_of : (c : Category) (ps : List Packet) → length (of_category c ps) ≡ total (share header_units c) ps
count_of c ps = length-total (of_category c ps) ∙ total_of header_units c ps

pub headers-counted : (ps : List Packet) → headers_together ps ≡ length ps
headers-counted ps = sym (length-total ps)

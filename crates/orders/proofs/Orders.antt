-- Packets that enter a list at its end and leave it by category stay in order: through one list, and through two in a row.
-- Assumes nothing.
use Rattle.std.specs.Prelude.{if◌then◌else◌}
use Prim.Native.Nat.{ℕ, suc, ◌+◌, ◌≤◌, ◌<◌}
use mathlib.Core.Path.{◌≡◌, refl, sym, subst, ◌∙◌}
use mathlib.Core.Logic.{◌⊎◌}
use mathlib.Core.Bool.{Bool, true, false, not}
use mathlib.Core.List.{List, [], ◌∷◌, ◌++◌, append_assoc, append-nil}
use native.Mathlib.Omega.{arith}
use native.Mathlib.Numerals.{add-one}
use lib.ListN.{length, get_or, take, drop}
use lib.Seq.{split_at}
use Rattle.basics.specs.Lists.{all}
use Rattle.basics.proofs.Filters.{filter-append, filter_none}
use Rattle.packets.specs.declared.Packet.{Packet}
use Rattle.packets.specs.declared.Category.{Category}
use Rattle.packets.specs.declared.Category.TheVariants.{Posted, NonPosted, Completion}
use Rattle.packets.specs.Packets.{category_of, same}
use Rattle.store.specs.Store.{no_packet, is_of, of_category}
use Rattle.store.proofs.Categories.{same-category}
use Rattle.orders.specs.Orders.{before, Follows, Orders}
use Rattle.orders.proofs.Before.{before_here, before-front, follows_same, follows_trans, follows-front, follows-end, follows-moved}

-- ---- one list

pub orders-start : Orders [] [] []
orders-start = record { same = λ c. refl; order = λ c. follows_same c [] }

-- what entered is of each category what left and what waits
together : {from out waiting : List Packet} → Orders from out waiting → (c : Category) → of_category c from ≡ of_category c (out ++ waiting)
together {from} {out} {waiting} o c = sym (filter-append (is_of c) out waiting ∙ o.same c)

-- one more enters
pub orders_enter : {from out waiting : List Packet} (p : Packet) → Orders from out waiting → Orders (from ++ (p ∷ [])) out (waiting ++ (p ∷ []))
orders_enter {from} {out} {waiting} p o = record {
  same = λ c. rw (filter-append (is_of c) from (p ∷ []), filter-append (is_of c) waiting (p ∷ []), ← append_assoc, o.same c);
  order = λ c. rw (← append_assoc) (follows-end (p ∷ []) (together o c) (o.order c));
}

-- one leaves from between two runs
leave-between : {from out : List Packet} (u v : List Packet) (x : Packet) → all (λ p. not (is_of (category_of x) p)) u ≡ true
    → (is_of Posted x ≡ true) ⊎ (all (λ p. not (is_of Posted p)) u ≡ true) → Orders from out (u ++ x ∷ v) → Orders from (out ++ (x ∷ [])) (u ++ v)
leave-between {from} {out} u v x own free o = record {
  same = λ c. go c (is_of c x) refl;
  order = λ c. rw append_assoc (follows_trans (o.order c) (follows-front out (follows-moved c u v x own free)));
}
  where
    go : (c : Category) (t : Bool) → is_of c x ≡ t → of_category c (out ++ (x ∷ [])) ++ of_category c (u ++ v) ≡ of_category c from
    go c true e =
        let none : of_category c u ≡ [] = filter_none (is_of c) u (rw (same-category (category_of x) c e) at own) in
        simp (filter-append, none, e, append_assoc) (simp (filter-append, none, e) at (o.same c))
    go c false e = simp (filter-append, e, append-nil) (simp (filter-append, e) at (o.same c))

-- one leaves: the first of its category, and posted or with no posted one before it
pub orders-leave : {from out waiting : List Packet} (i : ℕ) → i < length waiting
    → all (λ p. not (is_of (category_of (get_or waiting i no_packet)) p)) (take i waiting) ≡ true
    → ((is_of Posted (get_or waiting i no_packet) ≡ true) ⊎ (all (λ p. not (is_of Posted p)) (take i waiting) ≡ true))
    → Orders from out waiting → Orders from (out ++ (get_or waiting i no_packet ∷ [])) (take i waiting ++ drop (i + 1) waiting)
orders-leave {from} {out} {waiting} i here own free o =
    let cut : waiting ≡ take i waiting ++ get_or waiting i no_packet ∷ drop (i + 1) waiting = rw (add-one i) (split_at waiting i no_packet here) in
    leave-between (take i waiting) (drop (i + 1) waiting) (get_or waiting i no_packet) own free (subst (Orders from out) cut o)

-- one that is not posted and has left, has left after every posted one that entered before it
posted_before : {from out waiting : List Packet} → Orders from out waiting → (older younger : List Packet) (q : Packet)
    → from ≡ older ++ (q ∷ younger) → is_of Posted q ≡ false → length (of_category (category_of q) older) < length (of_category (category_of q) out)
    → length (of_category Posted older) ≤ length (of_category Posted out)
posted_before {from} {out} {waiting} o older younger q e other left =
    let n : ℕ = length (of_category (category_of q) older) in
    let all_older : before (category_of q) from n ≡ length (of_category Posted older) = rw e (before_here older younger q other) in
    omega (arith, all_older, (o.order (category_of q)).least n, before-front (category_of q) out waiting n left)

-- ---- two lists in a row: what leaves the first enters the second; `way` has left the first and not yet entered the second

pub orders-all : {accepted arrived queue taken inbox : List Packet} (way : List Packet)
    → Orders accepted (arrived ++ way) queue → Orders arrived taken inbox → (c : Category)
    → of_category c taken ++ of_category c inbox ++ of_category c way ++ of_category c queue ≡ of_category c accepted
orders-all {arrived = arrived} way first second c = rw (second.same c, ← filter-append (is_of c) arrived way) (first.same c)

-- they are as one list
pub orders-row : {accepted arrived queue taken inbox : List Packet} (way : List Packet)
    → Orders accepted (arrived ++ way) queue → Orders arrived taken inbox → Orders accepted taken (inbox ++ way ++ queue)
orders-row {arrived = arrived} {queue} {taken} {inbox} way first second = record {
  same = λ c. simp (filter-append, append_assoc) (simp append_assoc at (orders-all way first second c));
  order = λ c. follows_trans (first.order c) (simp append_assoc (rest c));
}
  where
    rest : (c : Category) → Follows c (arrived ++ (way ++ queue)) (taken ++ (inbox ++ (way ++ queue)))
    rest c = rw (← append_assoc taken inbox (way ++ queue)) (follows-end (way ++ queue) (together second c) (second.order c))

-- a packet that has left the second list has left it after every posted one that entered the first list before it
pub posted_first : {accepted arrived queue taken inbox : List Packet} (way : List Packet)
    → Orders accepted (arrived ++ way) queue → Orders arrived taken inbox
    → (older younger : List Packet) (q : Packet) → accepted ≡ older ++ (q ∷ younger) → is_of Posted q ≡ false
    → length (of_category (category_of q) older) < length (of_category (category_of q) taken)
    → length (of_category Posted older) ≤ length (of_category Posted taken)
posted_first way first second = posted_before (orders-row way first second)

-- ---- how many of each category

pub count_parts : (ps : List Packet) → length ps ≡ length (of_category Posted ps) + length (of_category NonPosted ps) + length (of_category Completion ps)
count_parts [] = refl
count_parts (p ∷ ps) = go (category_of p) (count_parts ps)
  where
    go : (c : Category) → length ps ≡ length (of_category Posted ps) + length (of_category NonPosted ps) + length (of_category Completion ps)
        → suc (length ps)
        ≡ length (if same c Posted then p ∷ of_category Posted ps else of_category Posted ps)
        + length (if same c NonPosted then p ∷ of_category NonPosted ps else of_category NonPosted ps)
        + length (if same c Completion then p ∷ of_category Completion ps else of_category Completion ps)
    go Posted h = omega (arith, h)
    go NonPosted h = omega (arith, h)
    go Completion h = omega (arith, h)

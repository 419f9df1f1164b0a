-- A run whose pair is kept in memory: the pair there has arrays of the right lengths, stays in shape, and so is stepped without asking for it.
-- Assumes nothing.
use Rattle.std.specs.Prelude.{Result, Ok, Err, is_ok}
use Rattle.std.specs.Result.{result_unwrap_or}
use Rattle.std.proofs.Common.{◌≡◌, ap, ℕ, ◌+◌, ◌*◌, ◌<◌, ◌≤◌, true, eqb, List, [], length, get_or, sym, refl, ◌∙◌, arith, length-take, eq-eqb, eqb-true, if◌then◌else◌}
use lib.ListN.{length-map, get_or-eq_default}
use Rattle.basics.specs.Parts.{part}
use Rattle.basics.proofs.Each.{by_order_lem}
use Rattle.basics.proofs.Branches.{and_left, and_right}
use Rattle.basics.proofs.Parts.{length_cut}
use Rattle.setup.specs.declared.Setup.{Setup}
use Rattle.setup.specs.Setup.{channels, per_end}
use Rattle.script.specs.declared.Step.{Step}
use Rattle.store.specs.Store.{capacity, empty}
use Rattle.line.specs.Line as L
use Rattle.sender.proofs.Arrays as Sending
use Rattle.receipts.proofs.Arrays as Receiving
use Rattle.answers.specs.declared.Refusal.{Refusal}
use Rattle.answers.specs.Answers.{answer_of}
use Rattle.answers.proofs.Outcomes.{accepts}
use Rattle.pairs.specs.declared.Pair.{Pair}
use Rattle.pairs.specs.Pairs.{Done}
use Rattle.pairs.specs.Pairs.{end_at, line_at}
use Rattle.pairs.specs.Steps.{pair_in_shape, step_of}
use Rattle.lasting.proofs.Pairs.{Sound, shape_sound, steps_as, step_lasts}
use Rattle.words.specs.Memory.{list_words, sender_words, receiver_words, end_words, pair_words, buffer_at, credits_at, rooms_at, packets_in, lists_in, sender_in, receiver_in, line_in, end_in, pair_in}
use Rattle.words.proofs.Patched.{length_part}
use Rattle.words.proofs.Lists.{list-is}
use Rattle.words.proofs.Whole.{end_is, line-is}
use Rattle.runs.specs.declared.Run.{Run}
use Rattle.runs.specs.Runs.{run, advance_of, run_of, answers_of, filled, noted}
use Rattle.runs.proofs.Listed.{turn}
use Rattle.script.specs.Script.{steps_in}
use Rattle.script.specs.Step as Steps
use Rattle.memory.specs.declared.hosts.Said.{Said}
use Rattle.memory.specs.Said.{said_of, said_done}
use Rattle.memory.specs.Unasked.{setups_of, unasked}
use Rattle.runs.specs.declared.Counted.{Counted}
use Rattle.runs.specs.Kept.{will_last, counted_after, counted, run_in}

-- ---- lengths

long-list : (q : List ℕ) → length q ≡ list_words → length (packets_in q).items ≡ capacity
long-list q h = simp (length-map, length-take) (omega (arith, h))

-- a channel's list has all its places, also past the last channel
module _ (m : List ℕ) (h : list_words * channels ≤ length m) where
  long_lists : (channel : ℕ) → length (get_or (lists_in m) channel empty).items ≡ capacity
  long_lists channel =
      by_order_lem channel channels
      (λ (k : channel < channels).
      let e : get_or (lists_in m) channel empty ≡ packets_in (part m (list_words * channel) list_words) = sym (list-is m [] channel empty k) in
      rw e (long-list (part m (list_words * channel) list_words) (length_part m (list_words * channel) list_words (omega (arith, h)))))
      (λ (k : channels ≤ channel).
      let none : get_or (lists_in m) channel empty ≡ empty = get_or-eq_default (lists_in m) empty {n = channel} (rw (length-map, length_cut) k) in
      rw none)

arrays_sending : (s : List ℕ) → length s ≡ sender_words → Sending.Arrays (sender_in s)
unfolding sender_in
arrays_sending s h = record {
  queues_are = rw (length-map, length_cut);
  credits_are = rw length-map (length_part s credits_at per_end (omega (arith, h)));
  buffer_is = long-list (part s buffer_at list_words) (length_part s buffer_at list_words (omega (arith, h)));
  queue_is = long_lists s (omega (arith, h));
}

arrays_receiving : (r : List ℕ) → length r ≡ receiver_words → Receiving.Arrays (receiver_in r)
unfolding receiver_in
arrays_receiving r h = record {
  inboxes_are = rw (length-map, length_cut);
  rooms_are = rw length-map (length_part r rooms_at per_end (omega (arith, h)));
  inbox_is = long_lists r (omega (arith, h));
}

module _ (links : List Setup) (m : List ℕ) (long : length m ≡ pair_words) where
  two_ends : length (pair_in links m).ends ≡ 2
  unfolding pair_in
  two_ends = refl

  two_lines : length (pair_in links m).lines ≡ 2
  unfolding pair_in
  two_lines = refl

  module _ (i : ℕ) (h : i ≤ 1) where
    words : length (part m (end_words * i) end_words) ≡ end_words
    words = length_part m (end_words * i) end_words (omega (arith, long, h))

    sending : Sending.Arrays (end_at (pair_in links m) i).sender
    unfolding end_in
    sending =
        rw (end_is links m i h) (arrays_sending (part (part m (end_words * i) end_words) 0 sender_words)
        (length_part (part m (end_words * i) end_words) 0 sender_words (omega (arith, words))))

    receiving : Receiving.Arrays (end_at (pair_in links m) i).receiver
    unfolding end_in
    receiving =
        rw (end_is links m i h) (arrays_receiving (part (part m (end_words * i) end_words) sender_words receiver_words)
        (length_part (part m (end_words * i) end_words) sender_words receiver_words (omega (arith, words))))

    slots : length (line_at (pair_in links m) i).slots ≡ L.capacity
    unfolding line_in
    slots = rw (line-is links m i h, length-map, length_cut)

  pub sound_in : will_last (pair_in links m) ≡ true → Sound (pair_in links m)
  unfolding will_last
  sound_in t =
      let p = pair_in links m in
      let as_many = and_right (pair_in_shape p) (eqb (end_at p 0).setup.n (end_at p 1).setup.n) t in
      shape_sound p two_ends two_lines (eqb-true _ _ as_many) sending receiving slots (and_left (pair_in_shape p) (eqb (end_at p 0).setup.n (end_at p 1).setup.n) t)

-- ---- a step

module _ (p : Pair) (t : Step) (c : Counted) (s : Sound p) where
  pub kept_step : step_of p t ≡ unasked p t
  unfolding unasked
  kept_step = steps_as t s

  pub kept_lasts : Sound (unasked p t).pair
  kept_lasts = rw kept_step at (step_lasts t s)

-- what a step says: its answer, and 0 or its detail
told_apart : (o : Result ℕ Refusal) (d : Done) → said_of o ≡ said_done d → (answer_of o ≡ d.answer) × (result_unwrap_or o 0 ≡ d.detail)
told_apart (Ok detail) d e = (ap (λ (x : Said). x.answer) e, ap (λ (x : Said). x.detail) e)
told_apart (Err refusal) d e = (ap (λ (x : Said). x.answer) e, ap (λ (x : Said). x.detail) e)

-- a step of the run, as it is counted and told
module _ (links : List Setup) (m new : List ℕ) (c : Counted) (t : Step) (o : Result ℕ Refusal) (s : Sound (pair_in links m))
    (eo : said_of o ≡ said_done (unasked (pair_in links m) t)) (ep : pair_in links new ≡ (unasked (pair_in links m) t).pair) where
  kept_answer : (advance_of (run_in links m c) t).answer ≡ answer_of o
  unfolding advance_of
  kept_answer = rw (kept_step (pair_in links m) t c s) (sym (told_apart o (unasked (pair_in links m) t) eo).0)

  kept_detail : (advance_of (run_in links m c) t).detail ≡ result_unwrap_or o 0
  unfolding advance_of
  kept_detail = rw (kept_step (pair_in links m) t c s) (sym (told_apart o (unasked (pair_in links m) t) eo).1)

  kept_run : (advance_of (run_in links m c) t).run ≡ run_in links new (counted_after c t (is_ok o))
  unfolding advance_of counted_after
  kept_run = rw (kept_step (pair_in links m) t c s, ep, accepts o, (told_apart o (unasked (pair_in links m) t) eo).0)

  -- a turn of the loop
  pub kept_turn : (r : Run) (l old out : List ℕ) (i : ℕ) → run_in links m c ≡ run_of r (steps_in l i) → out ≡ filled old (answers_of r (steps_in l i)) → t ≡ Steps.step_of (part l (6 * i) 6)
      → (length (noted out i (answer_of o) (result_unwrap_or o 0)) ≡ length old)
      × (run_in links new (counted_after c t (is_ok o)) ≡ run_of r (steps_in l (i + 1)))
      × (noted out i (answer_of o) (result_unwrap_or o 0) ≡ filled old (answers_of r (steps_in l (i + 1))))
      × Sound (pair_in links new)
  kept_turn r l old out i ex eout et =
      let next = turn r l old out i (run_in links m c) t (advance_of (run_in links m c) t) ex eout et refl in
      (rw (kept_answer, kept_detail) at next.0, sym kept_run ∙ next.1, rw (kept_answer, kept_detail) at next.2, rw (sym ep) at (kept_lasts (pair_in links m) t c s))

-- ---- the pair is written into the memory, run there, and read back

module _ (p q : Pair) (links : List Setup) (m w : List ℕ) (whole : length m ≡ pair_words) (el : links ≡ setups_of p)
    (ew : pair_in (setups_of p) w ≡ (if eqb (length m) pair_words then p else q)) where
  pub stored-pair : pair_in links w ≡ p
  stored-pair = rw (el, ew, eq-eqb (length m) pair_words whole)

  pub stored_lasts : length w ≡ length m → will_last p ≡ true → (length w ≡ pair_words) × (will_last (pair_in links w) ≡ true)
  stored_lasts same t = (same ∙ whole, rw stored-pair t)

module _ (links : List Setup) (w new : List ℕ) (r : Run) (x : Counted) (steps : List Step) (st : pair_in links w ≡ r.pair) where
  pub run-back : (q back : Pair) → length new ≡ pair_words → back ≡ (if eqb (length new) pair_words then pair_in links new else q)
      → run_in links new x ≡ run_of (run_in links w (counted r.accepted r.taken)) steps
      → run back x.accepted x.taken ≡ run_of r steps
  run-back q back long eb er = rw (eb, eq-eqb (length new) pair_words long, er, st)

  pub answers_back : (out old : List ℕ) → out ≡ filled old (answers_of (run_in links w (counted r.accepted r.taken)) steps)
      → out ≡ filled old (answers_of r steps)
  answers_back out old eo = rw st at eo

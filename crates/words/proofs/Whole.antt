-- The words of a whole end and of a whole pair: each half, end and line read and written anew.
-- Assumes that the end, or the pair, has all its words.
use Prim.Native.Nat.{ℕ, zero, suc, ◌+◌, ◌*◌, ◌≤◌}
use mathlib.Core.Path.{◌≡◌, refl, ap, ◌∙◌}
use mathlib.Core.List.{List}
use native.Mathlib.Nat.{not-suc-le-zero, le_of_suc-le-suc}
use native.Mathlib.Omega.{arith}
use lib.ListN.{length, get_or, set}
use Rattle.basics.specs.Parts.{part}
use Rattle.setup.specs.declared.Setup.{Setup}
use Rattle.setup.specs.Setup.{blank_setup}
use Rattle.ends.specs.Ends.{end}
use Rattle.pairs.specs.Pairs.{pair, end_at, line_at}
use Rattle.words.specs.Memory.{sender_words, receiver_words, line_words, end_words, lines_at, pair_words, sender_in, receiver_in, line_in, sending_in, receiving_in, end_in, pair_in}
use Rattle.words.proofs.Patched.{patched, length_patched, part_same, part-before, part-after}

-- ---- an end

module _ (m : List ℕ) (long : length m ≡ end_words) (ys : List ℕ) where
  module _ (e : length ys ≡ sender_words) where
    pub sending-put : sending_in (patched m 0 ys) ≡ sender_in ys
    sending-put = ap sender_in (part_same m 0 ys (omega arith) sender_words e)

    pub sending_leaves : receiving_in (patched m 0 ys) ≡ receiving_in m
    sending_leaves = ap receiver_in (part-after m 0 ys (omega arith) sender_words receiver_words (omega arith))

    pub put-sending : (link : Setup) → end_in link (patched m 0 ys) ≡ end link (sender_in ys) (end_in link m).receiver
    unfolding end_in
    put-sending link = rw (sending-put, sending_leaves)

    pub sending-keeps : length (patched m 0 ys) ≡ end_words
    sending-keeps = length_patched m 0 ys (omega arith) ∙ long

  module _ (e : length ys ≡ receiver_words) where
    pub receiving-put : receiving_in (patched m sender_words ys) ≡ receiver_in ys
    receiving-put = ap receiver_in (part_same m sender_words ys (omega arith) receiver_words e)

    pub receiving_leaves : sending_in (patched m sender_words ys) ≡ sending_in m
    receiving_leaves = ap sender_in (part-before m sender_words ys (omega arith) 0 sender_words (omega arith))

    pub put-receiving : (link : Setup) → end_in link (patched m sender_words ys) ≡ end link (end_in link m).sender (receiver_in ys)
    unfolding end_in
    put-receiving link = rw (receiving-put, receiving_leaves)

    pub receiving-keeps : length (patched m sender_words ys) ≡ end_words
    receiving-keeps = length_patched m sender_words ys (omega arith) ∙ long

-- ---- a pair

module _ (links : List Setup) (m : List ℕ) where
  pub end_is : (i : ℕ) → i ≤ 1 → end_at (pair_in links m) i ≡ end_in (get_or links i blank_setup) (part m (end_words * i) end_words)
  unfolding pair_in
  end_is zero h = refl
  end_is (suc zero) h = refl
  end_is (suc (suc i)) h = absurd (not-suc-le-zero (le_of_suc-le-suc h))

  pub line-is : (i : ℕ) → i ≤ 1 → line_at (pair_in links m) i ≡ line_in (part m (lines_at + line_words * i) line_words)
  unfolding pair_in
  line-is zero h = refl
  line-is (suc zero) h = refl
  line-is (suc (suc i)) h = absurd (not-suc-le-zero (le_of_suc-le-suc h))

  module _ (long : length m ≡ pair_words) (ys : List ℕ) where
    pub put-end : (i : ℕ) → i ≤ 1 → length ys ≡ end_words
        → pair_in links (patched m (end_words * i) ys) ≡ pair (set (pair_in links m).ends i (end_in (get_or links i blank_setup) ys)) (pair_in links m).lines
    unfolding pair_in
    put-end zero h e =
        rw (
          part_same m 0 ys (omega arith) end_words e,
          part-after m 0 ys (omega arith) end_words end_words (omega arith),
          part-after m 0 ys (omega arith) lines_at line_words (omega arith),
          part-after m 0 ys (omega arith) (lines_at + line_words) line_words (omega arith),
        )
    put-end (suc zero) h e =
        rw (
          part-before m end_words ys (omega arith) 0 end_words (omega arith),
          part_same m end_words ys (omega arith) end_words e,
          part-after m end_words ys (omega arith) lines_at line_words (omega arith),
          part-after m end_words ys (omega arith) (lines_at + line_words) line_words (omega arith),
        )
    put-end (suc (suc i)) h e = absurd (not-suc-le-zero (le_of_suc-le-suc h))

    pub put-line : (i : ℕ) → i ≤ 1 → length ys ≡ line_words
        → pair_in links (patched m (lines_at + line_words * i) ys) ≡ pair (pair_in links m).ends (set (pair_in links m).lines i (line_in ys))
    unfolding pair_in
    put-line zero h e =
        rw (
          part-before m lines_at ys (omega arith) 0 end_words (omega arith),
          part-before m lines_at ys (omega arith) end_words end_words (omega arith),
          part_same m lines_at ys (omega arith) line_words e,
          part-after m lines_at ys (omega arith) (lines_at + line_words) line_words (omega arith),
        )
    put-line (suc zero) h e =
        rw (
          part-before m (lines_at + line_words) ys (omega arith) 0 end_words (omega arith),
          part-before m (lines_at + line_words) ys (omega arith) end_words end_words (omega arith),
          part-before m (lines_at + line_words) ys (omega arith) lines_at line_words (omega arith),
          part_same m (lines_at + line_words) ys (omega arith) line_words e,
        )
    put-line (suc (suc i)) h e = absurd (not-suc-le-zero (le_of_suc-le-suc h))

    pub end-keeps : (i : ℕ) → i ≤ 1 → length ys ≡ end_words → length (patched m (end_words * i) ys) ≡ pair_words
    end-keeps i h e = length_patched m (end_words * i) ys (omega arith) ∙ long

    pub line-keeps : (i : ℕ) → i ≤ 1 → length ys ≡ line_words → length (patched m (lines_at + line_words * i) ys) ≡ pair_words
    line-keeps i h e = length_patched m (lines_at + line_words * i) ys (omega arith) ∙ long

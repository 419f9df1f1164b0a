-- Where the number expected next stays as it was: a duplicate and a gap do not move it on.
-- Assumes nothing.
use mathlib.Core.Path.{◌≡◌, refl}
use Rattle.basics.proofs.Branches.{by_test}
use Rattle.receiver.specs.declared.Reply.{Reply}
use Rattle.receiver.specs.Receiver.{after_duplicate, after_gap}

module _ (x : Reply) where
  pub next-duplicate : (after_duplicate x).next_receive ≡ x.next_receive
  next-duplicate = refl

  pub next_gap : (after_gap x).next_receive ≡ x.next_receive
  next_gap = by_test (λ (y : Reply). y.next_receive ≡ x.next_receive) x.nak_sent (λ t. refl) (λ t. refl)

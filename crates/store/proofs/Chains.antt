-- What a chain of iterators gives, in the library's words for lists, is what the definitions say in ours.
-- Assumes nothing.
use Rattle.std.specs.Prelude.{ℕ, Bool, true, false, List, [], ◌∷◌, length}
use Rattle.std.proofs.Common.{◌≡◌, refl, sym, ap, ◌∙◌, ◌+◌}
use Rattle.std.specs.List as list
use Rattle.std.proofs.lemmas.List.Sums.{sum_by-cons, length-filter}
use Rattle.std.proofs.lemmas.Iterator.Adapters.{position_from-zero}
use Rattle.basics.specs.Lists.{total, filter, find}

module _ {A : Type 0} where
  pub std_filter : (ok : A → Bool) (xs : List A) → list.filter ok xs ≡ filter ok xs
  std_filter ok [] = refl
  std_filter ok (x ∷ xs) = rw (std_filter ok xs)

  pub std_count : (ok : A → Bool) (xs : List A) → list.count_by ok xs ≡ length (filter ok xs)
  std_count ok xs = sym (length-filter ok xs) ∙ ap length (std_filter ok xs)

  pub std_sum : (f : A → ℕ) (xs : List A) → list.sum_by f xs ≡ total f xs
  std_sum f [] = refl
  std_sum f (x ∷ xs) = sum_by-cons f x xs ∙ rw (std_sum f xs)

module _ {A : Type 0} where
  find_from : (ok : A → Bool) (xs : List A) (i : ℕ) → list.position_from ok i xs ≡ find ok xs i
  find_from ok [] i = refl
  find_from ok (x ∷ xs) i = go (ok x) refl (find_from ok xs (i + 1))
    where
      go : (b : Bool) → ok x ≡ b → list.position_from ok (i + 1) xs ≡ find ok xs (i + 1) → list.position_from ok i (x ∷ xs) ≡ find ok (x ∷ xs) i
      go true e later = rw e
      go false e later = rw e later

  pub std_position : (ok : A → Bool) (xs : List A) → list.position ok xs ≡ find ok xs 0
  std_position ok xs = position_from-zero ok xs ∙ find_from ok xs 0

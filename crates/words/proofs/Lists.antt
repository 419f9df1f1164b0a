-- The lists of packets in memory: one of them read, one of them written anew, and that what is written behind them leaves them.
-- Assumes that the memory has the words of all of them.
use Prim.Native.Nat.{ℕ, ◌*◌, ◌≤◌, ◌<◌}
use mathlib.Core.Path.{◌≡◌, sym, ap, ◌∙◌}
use mathlib.Core.List.{List, [], ◌∷◌, map}
use native.Mathlib.Omega.{arith}
use lib.ListN.{length, get_or, set}
use Rattle.basics.specs.Parts.{part, cut}
use Rattle.basics.proofs.Parts.{length_cut}
use Rattle.setup.specs.Setup.{channels}
use Rattle.store.specs.declared.Packets.{Packets}
use Rattle.words.specs.Memory.{list_words, packets_in, lists_in}
use Rattle.words.proofs.Patched.{patched, set_patched, cut_at, cut-after, cut_patched, map-set, get_or_mapped}

-- what is read from each part of one width
module _ {A B : Type 0} (f : List A → B) (w count : ℕ) (m : List A) where
  pub read_at : (i : ℕ) (d : B) → i < count → get_or (map f (cut w count m)) i d ≡ f (part m (w * i) w)
  read_at i d h =
      let l : i < length (cut w count m) = rw length_cut h in
      get_or_mapped f (cut w count m) i [] d l ∙ ap f (cut_at w count i m [] h)

  pub read_patched : (i : ℕ) (ys : List A) → i < count → length ys ≡ w → w * count ≤ length m
      → map f (cut w count (patched m (w * i) ys)) ≡ set (map f (cut w count m)) i (f ys)
  read_patched i ys h e l = rw (cut_patched w ys count i m h e l, map-set)

  pub read-after : (a : ℕ) (ys : List A) → w * count ≤ a → a ≤ length m → map f (cut w count (patched m a ys)) ≡ map f (cut w count m)
  read-after a ys b h = rw (cut-after w ys count a m b h)

module _ (m ys : List ℕ) where
  pub list-is : (channel : ℕ) (d : Packets) → channel < channels → packets_in (part m (list_words * channel) list_words) ≡ get_or (lists_in m) channel d
  list-is channel d h = sym (read_at packets_in list_words channels m channel d h)

  pub put-list : (channel : ℕ) → channel < channels → length ys ≡ list_words → list_words * channels ≤ length m
      → lists_in (patched m (list_words * channel) ys) ≡ set (lists_in m) channel (packets_in ys)
  put-list channel h e l = read_patched packets_in list_words channels m channel ys h e l

  pub lists_same : (a : ℕ) → list_words * channels ≤ a → a ≤ length m → lists_in (patched m a ys) ≡ lists_in m
  lists_same a b h = read-after packets_in list_words channels m a ys b h

-- also after a store behind them
pub lists_set : (m : List ℕ) (k x : ℕ) → list_words * channels ≤ k → k < length m → lists_in (set m k x) ≡ lists_in m
lists_set m k x b h = rw (set_patched m k x h) (lists_same m (x ∷ []) k b (omega arith))

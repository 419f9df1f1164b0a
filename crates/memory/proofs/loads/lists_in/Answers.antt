-- `loads::lists_in` meets its contract: each call reads its part.
-- Assumes nothing.
use Rattle.std.proofs.Common.{rules}
use native.Mathlib.Omega.{arith}
use Prim.Native.Nat.{◌+◌, ◌-◌, ◌*◌}
use mathlib.Core.Path.{◌≡◌, sym, ◌∙◌}
use mathlib.Core.List.{[], map}
use Rattle.basics.specs.Parts.{part, cut}
use Rattle.basics.proofs.Parts.{length-read}
use Rattle.setup.specs.Setup.{channels}
use Rattle.words.specs.Memory.{list_words, packets_in}
use Rattle.words.proofs.Lists.{read_at}
use Rattle.memory.proofs.LoadLaws.{made_of}
use Rattle.memory.proofs.loads.lists_in.Goals as goal

pub returns : goal.returns
returns c =
    let m = c.args.m.now in
    made_of _ _ _ (map packets_in (cut list_words channels m)) (packets_in []) _ (length-read packets_in list_words channels m) c.from_fn.ensures.items
    (λ i h y q k.
    let wide : list_words * i + list_words - list_words * i ≡ list_words = omega arith in
    let e : y ≡ packets_in (part m (list_words * i) (list_words * i + list_words - list_words * i)) = search rules in
    (search rules, rw wide at e ∙ sym (read_at packets_in list_words channels m i (packets_in []) h)))

-- How the past of a direction goes on: what is accepted and what is taken more.
-- Assumes nothing.
use mathlib.Core.Path.{◌≡◌, sym, ◌∙◌}
use mathlib.Core.List.{List, [], ◌++◌, append_assoc, append-nil}
use Rattle.packets.specs.declared.Packet.{Packet}
use Rattle.direction.specs.Direction.{Past}

pub record Grows (g : Past) (accepted taken : List Packet) (g' : Past) : Type 0 where
  pub accepted_is : g'.accepted ≡ g.accepted ++ accepted
  pub taken_is : g'.taken ≡ g.taken ++ taken

-- nothing is accepted and nothing is taken
pub grows_none : {g g' : Past} → g'.accepted ≡ g.accepted → g'.taken ≡ g.taken → Grows g [] [] g'
grows_none {g} a t = record { accepted_is = a ∙ sym (append-nil g.accepted); taken_is = t ∙ sym (append-nil g.taken) }

-- first these, then those
pub grows_row : {g g' g'' : Past} {a b t u : List Packet} → Grows g a t g' → Grows g' b u g'' → Grows g (a ++ b) (t ++ u) g''
grows_row {g} {a} {b} {t} {u} x y =
    record {
      accepted_is = y.accepted_is ∙ rw x.accepted_is (append_assoc g.accepted a b);
      taken_is = y.taken_is ∙ rw x.taken_is (append_assoc g.taken t u);
    }

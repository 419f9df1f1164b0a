-- The claim: the twelve figures that the definitions give are the twelve that document 01 wants.
-- Assumes nothing.
use mathlib.Core.Path.{◌≡◌, refl}
use mathlib.Core.List.{map}
use Rattle.counters.specs.Wrapped.{minus, within, gate}
use Rattle.packets.specs.Packets.{rule_of, data_units}
use Rattle.figures.specs.Figures.{Figure, figures}

pub twelve_figures : map (λ (f : Figure). f.got) figures ≡ map (λ (f : Figure). f.wanted) figures
unfolding gate within minus data_units rule_of
twelve_figures = refl

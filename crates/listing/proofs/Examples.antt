-- The lines of document 01's Listing A, and of a bad script, as the definitions give them.
-- Assumes nothing.
use mathlib.Core.Path.{◌≡◌, refl}
use mathlib.Core.List.{[], ◌∷◌}
use Rattle.basics.specs.Parts.{joined}
use Rattle.listing.specs.Listing.{digits, digits_within, end_line, header_line, letters, refused_line, step_line}

pub listing_a : joined (
    header_line
    ∷ step_line 0 0 0
    ∷ step_line 1 15 0
    ∷ step_line 2 0 5
    ∷ step_line 3 0 0
    ∷ step_line 4 19 0
    ∷ step_line 5 0 0
    ∷ step_line 6 0 4
    ∷ step_line 7 0 1
    ∷ step_line 8 0 7
    ∷ step_line 9 21 0
    ∷ end_line 0 1 0 0
    ∷ end_line 1 0 1 0
    ∷ []
    ) ≡ letters "step answer detail\n0 0 0\n1 15 0\n2 0 5\n3 0 0\n4 19 0\n5 0 0\n6 0 4\n7 0 1\n8 0 7\n9 21 0\nend 0 accepted 1 taken 0 retrains 0\nend 1 accepted 0 taken 1 retrains 0\n"
unfolding joined header_line step_line end_line digits digits_within
listing_a = refl

pub a_bad_script : refused_line 6 1200 ≡ letters "refused 6 at 1200\n"
unfolding refused_line digits digits_within
a_bad_script = refl

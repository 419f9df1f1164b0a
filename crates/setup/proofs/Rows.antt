-- Laws of the units' bytes, in a row.
-- Assumes nothing.
use Prim.Native.Nat.{◌*◌}
use mathlib.Core.Path.{◌≡◌, refl}
use mathlib.Core.List.{List, map}
use native.Mathlib.Omega.{arith}
use lib.ListN.{length, length-append}
use Rattle.basics.specs.Parts.{joined}
use Rattle.basics.proofs.Parts.{length-row}
use Rattle.setup.specs.Setup.{slots}
use Rattle.setup.specs.Bytes.{units_bytes, setup_bytes, setup_length}
use Rattle.setup.specs.declared.Setup.{Setup}
use Rattle.setup.specs.declared.Units.{Units}

pub four_bytes : (u : Units) → length (units_bytes u) ≡ 4
unfolding units_bytes
four_bytes u = refl

-- the bytes of all
pub length-all : (us : List Units) → length us ≡ slots → length (joined (map units_bytes us)) ≡ 4 * slots
length-all us h = rw (length-row units_bytes 4 four_bytes us, h)

pub length_setup : (s : Setup) → length s.classes ≡ 7 → length s.units ≡ slots → length (setup_bytes s) ≡ setup_length
unfolding setup_bytes
length_setup s h k = simp length-append (omega (arith, length-all s.units k))

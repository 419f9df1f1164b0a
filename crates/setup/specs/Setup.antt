-- The setup of a link and its rule, answer 5.
-- Assumes nothing.
use Rattle.std.specs.Prelude.{ℕ, ◌+◌, ◌-◌, ◌*◌, Bool, ◌&&◌, leb, ltb, eqb, get_or, replicate, if◌then◌else◌}
use Rattle.basics.specs.Each.{each}
use Rattle.setup.specs.declared.Setup.{Setup}
use Rattle.setup.specs.declared.Units.{Units}

-- the most channels
abbrev pub channels : ℕ
channels = 4

-- Each end has a slot for each category of each channel.
abbrev pub per_end : ℕ
per_end = 3 * channels

-- Two ends, `channels` channels and three categories.
abbrev pub slots : ℕ
slots = 6 * channels

abbrev pub slot_of : ℕ → ℕ → ℕ → ℕ
slot_of end channel category = 3 * channels * end + 3 * channel + category

abbrev pub no_units : Units
no_units = record { header = 0; payload = 0 }

-- what stands where there is no setup; answer 5 refuses it
unfoldable pub blank_setup : Setup
blank_setup = record { n = 0; classes = replicate 7 0; units = replicate slots no_units }

-- The channel of a class. A class over 7 is on none: its number is then one that no channel has.
unfoldable pub channel_of : Setup → ℕ → ℕ
channel_of s class =
    if eqb class 0 then 0
    else if leb class 7 then get_or s.classes (class - 1) 0
    else channels

-- the units of an end, a channel and a category; none where there is no such end, channel or category
unfoldable pub units_at : Setup → ℕ → ℕ → ℕ → Units
units_at s end channel category =
    if (ltb end 2 && ltb channel channels && ltb category 3) then get_or s.units (slot_of end channel category) no_units
    else no_units

abbrev pub within : ℕ → ℕ → ℕ → Bool
within low high x = leb low x && leb x high

-- used channels have 1 to 16 header units and 1 to 2,047 data units, unused ones none
unfoldable pub units_fit : Bool → Units → Bool
units_fit used u =
    if used then (within 1 16 u.header && within 1 2047 u.payload)
    else (eqb u.header 0 && eqb u.payload 0)

-- ---- answer 5

-- each class's channel is below n
unfoldable pub classes_fit : Setup → Bool
classes_fit s = each 8 (λ class. ltb (channel_of s class) s.n)

unfoldable pub categories_fit : Setup → ℕ → ℕ → Bool
categories_fit s end channel = each 3 (λ category. units_fit (ltb channel s.n) (units_at s end channel category))

unfoldable pub channels_fit : Setup → ℕ → Bool
channels_fit s end = each channels (λ channel. categories_fit s end channel)

-- is the setup in range? n is 1 to 4, and the classes and the units of both ends fit
unfoldable pub in_range : Setup → Bool
in_range s = within 1 channels s.n && (classes_fit s && each 2 (λ end. channels_fit s end))

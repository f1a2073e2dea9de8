-- The reading of document 01 about false alarms: pattern 01 1B in 00 00 under key 0x11B has 0 places and 1 false alarm.
use mathlib.Core.Path.{◌≡◌, refl}
use mathlib.Core.List.{[], ◌∷◌}
use Rattle.lists.specs.Lists.{passing, same, any_below}
use Rattle.gf2.specs.Polynomials.{◌⊕◌, halvings, degree, monic, reduce, long_division, rem}
use Rattle.refusals.specs.Refusals.{Done}
use Rattle.acceptance.specs.Keys.{reducible, key_of}
use Rattle.files.specs.Files.{low_bits, bits, value_from, fingerprint_from}
use Rattle.search.specs.Searching.{windows, is_place, is_alarm, places, alarms, counts, search}

pub collision_reading : search (key_of 0x11B) (0x00 ∷ 0x00 ∷ []) (0x01 ∷ 0x1B ∷ []) ≡ Done (record { places = 0; alarms = 1 })
unfolding search counts places alarms passing windows is_place is_alarm same fingerprint_from value_from bits low_bits
    monic reducible any_below rem long_division reduce degree halvings ◌⊕◌
collision_reading = refl

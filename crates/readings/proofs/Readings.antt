-- The bench readings of document 01 that are marked P hold, and those of degree 64: computed, in two results.
use mathlib.Core.Path.{◌≡◌, refl}
use mathlib.Core.Bool.{true}
use native.Mathlib.Omega.{arith}
use Rattle.lists.specs.Lists.{any_below}
use Rattle.lists.specs.Members.{among}
use Rattle.gf2.specs.Polynomials.{◌⊕◌, halvings, degree, monic, reduce, long_division, rem}
use Rattle.refusals.specs.Refusals.{Done}
use Rattle.refusals.proofs.Laws.{clear-done}
use Rattle.acceptance.specs.Keys.{reducible, accepted, key_of, key_tests}
use Rattle.acceptance.proofs.Opened.{open_accepted, opened-clear}
use Rattle.stock.proofs.Table.{stock_smallest, stock_64}
use Rattle.keys.specs.Testing.{test_key}
use Rattle.files.specs.Files.{low_bits, bits, value_from, fingerprint_from, joined_from}
use Rattle.draw.specs.Drawing.{draw}
use Rattle.compose.specs.Composing.{join_behind_from}
use Rattle.search.proofs.Readings.{collision_reading}
use Rattle.readings.specs.Readings.{Readings, At64}
use Rattle.readings.proofs.Drawing.{drawn_by_3}
use Rattle.readings.proofs.Apart.{nine-bits, not_eight, sixty_five_bits, not_sixty_four}

pub readings : Readings
unfolding test_key reducible any_below fingerprint_from value_from bits low_bits join_behind_from joined_from monic rem long_division reduce degree halvings ◌⊕◌
readings = (refl, refl, refl, drawn_by_3, refl, refl, refl, refl, refl, refl, collision_reading, refl, nine-bits, not_eight)

-- the stock key of degree 64
accepted_64 : accepted 0x1000000000000001B ≡ true
accepted_64 = rw stock_64 at (stock_smallest 64 (omega arith) (omega arith)).is-accepted

tested_64 : test_key (record { degree = 64; word = 0x1B }) ≡ Done (record { degree = 64; low = 0x1B })
unfolding test_key degree halvings
tested_64 = clear-done (key_tests (key_of 0x1000000000000001B)) tt _ (opened-clear (open_accepted 0x1000000000000001B accepted_64))

pub at_64 : At64
unfolding test_key draw among fingerprint_from value_from bits low_bits rem long_division reduce degree halvings ◌⊕◌
at_64 = (accepted_64, tested_64, refl, refl, refl, refl, refl, refl, sixty_five_bits, not_sixty_four)

-- Demand 3 of plain marks at the Bench level: the claims of crate book (specs/Claims.antt), proved.
use mathlib.Core.Path.{sym, ap, ◌∙◌}
use Rattle.acceptance.proofs.Laws.{accepted-pos}
use Rattle.files.specs.PlainMarks.{plain_fingerprint, plain_mark_of}
use Rattle.files.proofs.Turning.{turn-back}
use Rattle.marks.proofs.Turning.{turn-done}
use Rattle.book.specs.Confusions.{SoundFrom, ReachesFrom}
use Rattle.book.specs.Claims.{Lists, Lowest, PlainConfusions, PlainCounted, Bursts, EmptyAndZero}
use Rattle.book.proofs.Guarantee as AnyLevel
use Rattle.bench_book.specs.PlainMarks.{plain_bench, PlainRoute, ByCalls, Beginning, ByTurning}
use Rattle.bench_book.proofs.Guarantee.{in_order, lists-from, begun, left, print}

pub plain_lists : Lists plain_bench
plain_lists = lists-from 0

pub plain_lowest : Lowest plain_bench
plain_lowest = AnyLevel.lowest-first plain_bench in_order

-- ---- two different files

pub plain_sound : SoundFrom 0 PlainRoute
plain_sound key file f a (ByCalls m l e) = left 0 key file f m e (AnyLevel.list_sound plain_bench plain_lists key file m a l)
plain_sound key file f a (Beginning e b) = begun 0 key f a b ∙ ap (plain_fingerprint key) (sym e)
plain_sound key file f a (ByTurning m n t d e) = left 0 key file f n e (turn-done key m n a d ∙ turn-back key file m (accepted-pos key a) t)

pub plain_reaches : ReachesFrom 0 PlainRoute
plain_reaches key file = ByCalls (plain_mark_of key file) (AnyLevel.list_reaches plain_bench key file) (print 0 key file)

pub plain_confusions : PlainConfusions PlainRoute
plain_confusions = AnyLevel.plain_confusions PlainRoute plain_sound

pub plain_counted : PlainCounted PlainRoute
plain_counted = AnyLevel.plain_counted PlainRoute plain_sound plain_reaches

pub plain_bursts : Bursts PlainRoute
plain_bursts = AnyLevel.plain_bursts PlainRoute plain_sound

pub empty-and-zero : EmptyAndZero PlainRoute
empty-and-zero = AnyLevel.empty-and-zero PlainRoute plain_reaches

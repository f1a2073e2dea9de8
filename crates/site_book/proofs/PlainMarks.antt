-- Demand 3 of plain marks at the Site level: the claims of crate book (specs/Claims.antt), proved.
use Rattle.book.specs.Confusions.{SoundFrom, ReachesFrom}
use Rattle.book.specs.Claims.{Lists, Lowest, PlainConfusions, PlainCounted, Bursts, EmptyAndZero}
use Rattle.book.proofs.Guarantee as AnyLevel
use Rattle.bench_book.proofs.Guarantee.{left}
use Rattle.bench_book.proofs.PlainMarks as BenchLevel
use Rattle.site_book.specs.PlainMarks.{plain_site, PlainRoute, OfBench, ByCalls}
use Rattle.site_book.proofs.Guarantee.{in_order, lists-from}

pub plain_lists : Lists plain_site
plain_lists = lists-from 0

pub plain_lowest : Lowest plain_site
plain_lowest = AnyLevel.lowest-first plain_site in_order

-- ---- two different files

pub plain_sound : SoundFrom 0 PlainRoute
plain_sound key file f a (OfBench r) = BenchLevel.plain_sound key file f a r
plain_sound key file f a (ByCalls m l e) = left 0 key file f m e (AnyLevel.list_sound plain_site plain_lists key file m a l)

pub plain_reaches : ReachesFrom 0 PlainRoute
plain_reaches key file = OfBench (BenchLevel.plain_reaches key file)

pub plain_confusions : PlainConfusions PlainRoute
plain_confusions = AnyLevel.plain_confusions PlainRoute plain_sound

pub plain_counted : PlainCounted PlainRoute
plain_counted = AnyLevel.plain_counted PlainRoute plain_sound plain_reaches

pub plain_bursts : Bursts PlainRoute
plain_bursts = AnyLevel.plain_bursts PlainRoute plain_sound

pub empty-and-zero : EmptyAndZero PlainRoute
empty-and-zero = AnyLevel.empty-and-zero PlainRoute plain_reaches

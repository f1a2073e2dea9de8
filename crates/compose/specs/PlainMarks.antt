-- Joining plain marks (document 02, wish 9): F·t^b + G, 003's equation (10) as it stands. The tests are those of our marks. A page change serves
-- both kinds as it is.
use Rattle.refusals.specs.Refusals.{Answer}
use Rattle.acceptance.specs.declared.Key.{Key}
use Rattle.files.specs.declared.Mark.{Mark}
use Rattle.compose.specs.Composing.{join_behind_from, join_in_front_from}

abbrev pub join_plain_behind : Key → Mark → Mark → Answer Mark Mark
join_plain_behind x m other = join_behind_from 0 x m other

abbrev pub join_plain_in_front : Key → Mark → Mark → Answer Mark Mark
join_plain_in_front x m other = join_in_front_from 0 x m other

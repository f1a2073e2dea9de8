-- The version of a sheet that was read is a small number.
use native.Mathlib.Omega.{arith}
use Rattle.sheets.specs.Layout.{contents_in}
use Rattle.sheets.proofs.Versions.{known_small}
use Rattle.sheets.proofs.Known.{read_as, sound, version-read}
use Rattle.gfp_sheets.proofs.gfp_read_sheet.Goals as goal

pub overflow_cast-version : goal.overflow_cast-version
unfolding contents_in
overflow_cast-version c =
    let sheet = c.args.sheet.now in
    let was = read_as sheet c.in-Ok.x c.in-Ok.ensures in
    omega (arith, known_small (contents_in sheet).version (sound sheet was).version, version-read sheet was)

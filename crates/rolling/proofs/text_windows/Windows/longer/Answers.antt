-- `Windows::longer` meets its contract: one byte more is read.
use mathlib.Core.Path.{refl}
use Prim.Native.Nat.{◌+◌}
use Rattle.rolling.proofs.Residues.{read_below, read_more}
use Rattle.rolling.proofs.text_windows.Windows.longer.Goals as goal

pub feed_one-requires : goal.feed_one-requires
feed_one-requires c =
    let a = c.args in
    let r = a.self.ready.reduce in
    (r, read_below a.self.modulus r.0 a.self.text.now a.i a.n a.x c.requires.1)

pub returns : goal.returns
returns c =
    let a = c.args in
    let w = a.self in
    read_more w.modulus w.ready.reduce.0 w.text.now a.i a.n (a.i + a.n) a.x _ refl c.requires.0 (search) c.requires.1
    c.feed_one.ensures

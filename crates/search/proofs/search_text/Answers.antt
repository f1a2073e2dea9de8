-- `search_text` meets its contract: the tables are those that windows are rolled by.
use Prim.Native.Nat.{◌*◌, ◌^◌}
use native.Mathlib.Omega.{arith}
use lib.ListN.{length}
use Rattle.gf2.proofs.Steps.{residue-below}
use Rattle.rolling.proofs.Residues.{multiples_of, one-row}
use Rattle.search.proofs.search_text.Goals as goal

pub read_first-begin-requires : goal.read_first-begin-requires
read_first-begin-requires c =
    let a = c.args in
    let row = c.fill_row in
    ((c.requires.0, c.requires.1, omega arith, one-row a.p c.requires.0 row.new.words row.ensures.0), c.requires.3)

pub fill_row-requires-2 : goal.fill_row-requires-2
fill_row-requires-2 c =
    let r = c.read_first-begin in
    (c.requires.0, residue-below c.args.p c.requires.0 r.result.shift (2 ^ (8 * length c.args.pattern.now)) r.ensures.2, omega arith)

pub invariant_of-w : goal.invariant_of-w
invariant_of-w c =
    let p = c.args.p in
    let row = c.fill_row in
    let out = c.fill_row-2 in
    let begin = c.read_first-begin in
    record {
      ready = record {
        some = c.requires.2;
        reduce = (c.requires.0, c.requires.1, omega arith, one-row p c.requires.0 row.new.words row.ensures.0);
        outgoing = multiples_of p c.requires.0 (2 ^ (8 * length c.args.pattern.now)) begin.result.shift out.new.words begin.ensures.2 out.ensures.0;
      };
    }

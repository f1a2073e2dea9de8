-- `fold_pages` meets its contract: the numbers before place i are fingerprints.
use mathlib.Core.Path.{◌≡◌, ap, ◌∙◌}
use mathlib.Core.List.{List}
use Prim.Native.Nat.{ℕ, ◌+◌, ◌-◌, ◌*◌}
use native.Mathlib.Omega.{arith}
use lib.ListN.{take, drop, length-set}
use Rattle.gf2.specs.Polynomials.{rem}
use Rattle.files.specs.Files.{bits, value_from, fingerprint, fingerprint_from}
use Rattle.house.specs.House.{house_key}
use Rattle.page_marks.specs.Marks.{page_front}
use Rattle.page_marks.proofs.Marks.{finished_more, front_cut}
use Rattle.page_marks.proofs.fold_pages.Goals as goal

-- its residue behind the leading 1 is its fingerprint
page-is : (key s i r : ℕ) (pages : List ℕ) → r ≡ rem key (value_from 1 (bits (take (i * s + s - i * s) (drop (i * s) pages))))
    → r ≡ fingerprint key (bits (page_front s s pages i))
unfolding fingerprint_from
page-is key s i r pages e = e ∙ ap (λ (q : List ℕ). rem key (value_from 1 (bits q))) (front_cut (i * s) s pages)

pub loop-i-preserved : goal.loop-i-preserved
loop-i-preserved c =
    let l = c.loop-i in
    let a = c.args in
    let x = c.fed_page in (
      simp length-set l.invariant.0,
      finished_more house_key a.size 0 a.pages.now l.marks l.i x.result (omega arith) l.invariant.1
          (page-is house_key a.size l.i x.result a.pages.now x.ensures),
    )

-- `divide` meets its contract: after i bytes the quotient's bytes stand for the start and those i bytes.
use mathlib.Core.Path.{◌≡◌, refl, ap, ◌∙◌}
use mathlib.Core.List.{List}
use Prim.Native.Nat.{ℕ, ◌+◌, ◌*◌, ◌<◌}
use native.Mathlib.Nat.{zero-mul, one-mul, add-zero}
use native.Mathlib.Omega.{arith}
use lib.ListN.{length, get_or, set, take, length-set}
use Rattle.gf2.specs.Polynomials.{◌⊕◌}
use Rattle.gf2.proofs.Sums.{⊕_assoc, ⊕-zero}
use Rattle.files.specs.Files.{bits, value_from}
use Rattle.fold_blocks.specs.Folds.{exponents, low_exponents, folded, added}
use Rattle.fold_blocks.proofs.Folding.{Bytes, folding}
use Rattle.fold_blocks.proofs.House.{low-exponents}
use Rattle.fold_blocks.proofs.divide.Goals as goal

-- the sum as the code has it
sum : (s : ℕ) (q : List ℕ) (i b : ℕ) → b ⊕ get_or q (i + 5 * s) 0 ⊕ get_or q (i + 2 * s) 0 ⊕ get_or q (i + s) 0 ⊕ get_or q i 0 ≡ b ⊕ added low_exponents s q i
unfolding added
sum s q i b = rw (one-mul s, zero-mul s, add-zero i, ⊕-zero) (simp ⊕_assoc)

next : (s : ℕ) → 0 < s → (q src : List ℕ) (i start : ℕ) → Bytes q → i + 61 * s < length q → i < length src → get_or src i 0 < 256
    → folded exponents s q i ≡ value_from start (bits (take i src))
    → folded exponents s (set q (i + 61 * s) (get_or src i 0 ⊕ get_or q (i + 5 * s) 0 ⊕ get_or q (i + 2 * s) 0 ⊕ get_or q (i + s) 0 ⊕ get_or q i 0)) (i + 1)
    ≡ value_from start (bits (take (i + 1) src))
next s pos q src i start b h l byte inv =
    ap (λ (x : ℕ). folded exponents s (set q (i + 61 * s) x) (i + 1)) (sum s q i (get_or src i 0))
    ∙ folding 61 s pos q src i start b h l byte low_exponents low-exponents inv

pub loop-i-init : goal.loop-i-init
unfolding bits value_from
loop-i-init c = (refl, refl)

pub loop-i-preserved : goal.loop-i-preserved
unfolding ◌⊕◌
loop-i-preserved c =
    let a = c.args in
    let l = c.loop-i in (
      simp length-set l.invariant.0,
      next a.s c.requires.0 l.q a.src.now l.i (folded exponents a.s a.q.now 0) (λ j. (c.slice_known-in-loop-i-3-1.given j).fits)
          (omega arith)
          (omega arith)
          (c.shared_slice_known-1.given l.i).fits
          l.invariant.1,
    )

-- The degree as an equation, for drawing and for inner functions: a reader of the other promises need not read this page.
use Rattle.std.specs.Prelude.{◌≡◌, ℕ, ◌/◌, ◌^◌}

-- a has degree d where nothing but a 1 stands at t^d and above
abbrev pub Degree : ℕ → ℕ → Type 0
Degree a d = a / 2 ^ d ≡ 1

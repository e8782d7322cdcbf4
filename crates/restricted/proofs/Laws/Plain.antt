-- The characters that stand for themselves, by ranges.
-- Assumes nothing.
use mathlib.Core.Path.{◌≡◌}
use mathlib.Core.Bool.{◌&&◌, ◌||◌}
use Prim.Native.Nat.{ℕ, ◌<◌, zero-le}
use native.Mathlib.Omega.{arith}
use lib.Dec.{eqb, leb}
use Rattle.chars.specs.Class.{is_char}
use Rattle.chars.specs.Lists.{bytes, member}
use Rattle.chars.proofs.Laws.Class.{on_range}
use Rattle.restricted.specs.Code.{is_control, is_plain}

pub plain_ranges : (b : ℕ) → b < 256
    → is_plain b ≡ (leb 96 b && leb b 126 || eqb b 94 || leb 63 b && leb b 90 || eqb b 61 || leb 45 b && leb b 57 || leb 42 b && leb b 43 || leb 36 b && leb b 39 || eqb b 33)
unfolding is_plain is_char is_control bytes member
plain_ranges b h =
    on_range is_plain (λ b. leb 96 b && leb b 126 || eqb b 94 || leb 63 b && leb b 90 || eqb b 61 || leb 45 b && leb b 57 || leb 42 b && leb b 43 || leb 36 b && leb b 39 || eqb b 33)
    0 256 tt b zero-le (omega arith)

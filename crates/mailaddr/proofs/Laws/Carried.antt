-- An address of the accepted shape, carried whole: its coded form is a DD's value if it is short enough, and decodes to the address.
-- Assumes nothing.
use mathlib.Core.Path.{◌≡◌}
use mathlib.Core.Bool.{true}
use mathlib.Core.List.{List}
use mathlib.Core.Option.{some}
use Prim.Native.Nat.{ℕ, ◌≤◌}
use native.Mathlib.Omega.{arith}
use borrow.Author.Tests.{leb-true}
use lib.Dec.{leb}
use lib.ListN.{length}
use Rattle.chars.specs.Class.{between, is_char}
use Rattle.chars.specs.Lists.{all}
use Rattle.chars.proofs.Laws.Class.{is_char_lem}
use Rattle.chars.proofs.Laws.Lists.{all_weaken, and_right}
use Rattle.oraddr.specs.Bounds.{dd_value, bound_of, is_value}
use Rattle.mailaddr.specs.Code.{coded, decoded}
use Rattle.mailaddr.specs.Shape.{Address, shape_of}
use Rattle.mailaddr.proofs.Laws.Code.{coded-value, decode_coded}
use Rattle.mailaddr.proofs.Laws.Shape.{shape-bytes, shape-ends}

module _ (s : List ℕ) (a : Address) (h : shape_of s ≡ some a) where
  -- its bytes are ASCII
  low-bytes : all is_char s ≡ true
  unfolding between
  low-bytes =
      all_weaken (λ b. between 32 126 b) is_char
      (λ x e. is_char_lem x (omega (arith, leb-true x 126 (and_right (leb 32 x) (leb x 126) e))))
      s (shape-bytes s a h)

  pub carried-value : length (coded s) ≤ bound_of dd_value → is_value dd_value (coded s) ≡ true
  carried-value l = coded-value s low-bytes (shape-ends s a h).0 (shape-ends s a h).1 (shape-ends s a h).2 l

  pub carried-back : decoded (coded s) ≡ some s
  carried-back = decode_coded s low-bytes

-- RFC 822, section 3.3: white space and folds.
-- Assumes nothing.
use Rattle.std.specs.Prelude.{ℕ, Bool, ◌&&◌, ◌||◌, eqb}

-- LWSP-char = SPACE / HTAB
unfoldable pub is_space : ℕ → Bool
is_space b = eqb b 32 || eqb b 9

-- linear-white-space = 1*([CRLF] LWSP-char): a fold is CR LF directly followed by a space or a tab
unfoldable pub is_fold : ℕ → ℕ → ℕ → Bool
unfolding is_space
is_fold x y z = eqb x 13 && eqb y 10 && is_space z

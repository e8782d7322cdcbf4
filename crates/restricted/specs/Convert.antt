-- Request 9: each way, in a lent buffer. "Refusals: 1 for a byte over 127, then 6", and the buffer as before.
-- Assumes nothing.
use Rattle.std.specs.Prelude.{ℕ, cond, List}
use Rattle.chars.specs.Class.{is_char}
use Rattle.chars.specs.Lists.{all}
use Rattle.chars.specs.Write.{TextResult, placed_text, refused_text}
use Rattle.restricted.specs.Code.{coded, decoded}

unfoldable pub restrict_text : List ℕ → List ℕ → TextResult
unfolding all is_char refused_text placed_text coded
restrict_text s old = cond (all is_char s) (placed_text (coded s) old) (refused_text 1 old)

unfoldable pub unrestrict_text : List ℕ → List ℕ → TextResult
unfolding all is_char refused_text placed_text decoded
unrestrict_text s old = cond (all is_char s) (placed_text (decoded s) old) (refused_text 1 old)

-- RFC 822, section 3.3: `quoted-string = <"> *(qtext/quoted-pair) <">`; and request 2: "Quoted strings hold bytes 32 to 126 once folds lose CR and
-- LF."
-- Assumes nothing.
use Rattle.std.specs.Prelude.{ℕ, zero, suc, Bool, true, false, cond, List, [], ◌∷◌, eqb, get_or, Option, None, Some}
use Rattle.mailaddr.specs.Shape.{is_text}
use Rattle.lexical.specs.Space.{is_fold}
use Rattle.lexical.specs.declared.quoted.QuotedStep.{QuotedStep}
use Rattle.lexical.specs.declared.quoted.QuotedStep.TheVariants.{Break, Close, Escape, Fold, Keep}

-- A quoted string from behind its opening quote: how many bytes it has up to its closing one, that included, and its text without folds and
-- backslashes.
pub record Quoted : Type 0 where
  pub size : ℕ
  pub meaning : List ℕ

-- one byte more, which is not kept; and one that is
unfoldable pub passing : Option Quoted → Option Quoted
passing None = None
passing (Some q) = Some (record { size = suc q.size; meaning = q.meaning })

unfoldable pub keeping : ℕ → Option Quoted → Option Quoted
keeping x None = None
keeping x (Some q) = Some (record { size = suc q.size; meaning = x ∷ q.meaning })

unfoldable pub text_step : ℕ → QuotedStep
unfolding is_text
text_step x = cond (is_text x) Keep Break

-- What stands at the front, `escaped` behind a backslash: a fold goes first (a backslash before it takes the space behind it); a backslash
-- takes the next byte, and each byte is one of 32 to 126.
unfoldable pub quoted_step : Bool → ℕ → ℕ → ℕ → QuotedStep
unfolding is_fold text_step
quoted_step escaped x y z =
    cond (is_fold x y z) Fold
    (cond escaped (text_step x)
    (cond (eqb x 34) Close
    (cond (eqb x 92) Escape
    (text_step x))))

unfoldable pub quoted_by : QuotedStep → Bool → ℕ → (ℕ → Bool → Option Quoted) → Option Quoted
unfolding passing keeping
quoted_by Fold e x go = passing (go 1 e)
quoted_by Close e x go = Some (record { size = 1; meaning = [] })
quoted_by Escape e x go = passing (go zero true)
quoted_by Keep e x go = keeping x (go zero false)
quoted_by Break e x go = None

-- from behind the opening quote, `skip` bytes being passed first
unfoldable pub quoted : ℕ → Bool → List ℕ → Option Quoted
unfolding passing quoted_step quoted_by
quoted skip e [] = None
quoted (suc skip) e (x ∷ s) = passing (quoted skip e s)
quoted zero e (x ∷ s) = quoted_by (quoted_step e x (get_or s 0 0) (get_or s 1 0)) e x (λ k f. quoted k f s)

-- its bytes, 0 where it does not close; and its text
unfoldable pub size_in : Option Quoted → ℕ
size_in None = 0
size_in (Some q) = q.size

unfoldable pub meaning_in : Option Quoted → List ℕ
meaning_in None = []
meaning_in (Some q) = q.meaning

-- RFC 822, section 3.3: comment = "(" *(ctext / quoted-pair / comment) ")"; and request 2: "A comment holds text and comments, nested at most
-- eight deep."
-- Assumes nothing.
use Rattle.std.specs.Prelude.{ℕ, zero, suc, Bool, ◌&&◌, not, cond, List, [], ◌∷◌, eqb, leb, drop, get_or, Option, None, Some}
use Rattle.chars.specs.Lists.{bytes, first, member}
use Rattle.mailaddr.specs.Shape.{more}
use Rattle.lexical.specs.Space.{is_fold}
use Rattle.lexical.specs.declared.comment.ContentStep.{ContentStep}
use Rattle.lexical.specs.declared.comment.ContentStep.TheVariants.{Break, Close, Fold, Open, Pair, Text}

-- request 2: "nested at most eight deep"
abbrev pub deepest_comment : ℕ
deepest_comment = 8

-- ctext = <any CHAR excluding "(", ")", "\" & CR, & including linear-white-space>
unfoldable pub is_ctext : ℕ → Bool
unfolding bytes member
is_ctext b = leb b 127 && not (member b (bytes "()\\")) && not (eqb b 13)

-- quoted-pair = "\" CHAR
unfoldable pub pair_step : ℕ → ContentStep
pair_step y = cond (leb y 127) Pair Break

-- what stands at the front of a comment's content: its end, a comment, a quoted-pair, a fold, ctext, or none of these
unfoldable pub content_step : ℕ → ℕ → ℕ → ContentStep
unfolding is_fold is_ctext pair_step
content_step x y z =
    cond (eqb x 41) Close
    (cond (eqb x 40) Open
    (cond (eqb x 92) (pair_step y)
    (cond (is_fold x y z) Fold
    (cond (is_ctext x) Text Break))))

-- The bytes of a comment's content with its ")", where `left` more levels may open inside the innermost, and `opened` comments are open inside
-- this one; `skip` bytes are passed first. None where it does not close, nests deeper or has another byte.
unfoldable pub content_by : ContentStep → ℕ → ℕ → (ℕ → ℕ → ℕ → Option ℕ) → Option ℕ
unfolding more
content_by Close left zero go = Some 1
content_by Close left (suc opened) go = more 1 (go zero (suc left) opened)
content_by Open zero opened go = None
content_by Open (suc left) opened go = more 1 (go zero left (suc opened))
content_by Pair left opened go = more 1 (go 1 left opened)
content_by Fold left opened go = more 1 (go 1 left opened)
content_by Text left opened go = more 1 (go zero left opened)
content_by Break left opened go = None

unfoldable pub content : ℕ → ℕ → ℕ → List ℕ → Option ℕ
unfolding more content_step content_by
content skip left opened [] = None
content (suc skip) left opened (x ∷ s) = more 1 (content skip left opened s)
content zero left opened (x ∷ s) = content_by (content_step x (get_or s 0 0) (get_or s 1 0)) left opened (λ k l o. content k l o s)

-- the bytes of the comment at the front of a text, of at most so many levels
unfoldable pub comment : ℕ → List ℕ → Option ℕ
unfolding more content first
comment zero s = None
comment (suc left) s = cond (eqb (first s) 40) (more 1 (content zero left zero (drop 1 s))) None

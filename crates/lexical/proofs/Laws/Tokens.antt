-- Laws of the tokens of a line: atoms, white space and comments passed, and the tokens from a lexeme on, by places in the line.
-- Assumes nothing.
use mathlib.Core.Path.{◌≡◌, refl, sym, ap, ◌∙◌}
use mathlib.Core.Bool.{true, false}
use mathlib.Core.List.{List, [], ◌∷◌}
use Rattle.std.proofs.Common.{Option, None, Some}
use Prim.Native.Nat.{ℕ, zero, suc, ◌+◌, ◌-◌, ◌≤◌, ◌<◌}
use native.Mathlib.Nat.{add-zero}
use native.Mathlib.Numerals.{add-one}
use native.Mathlib.Omega.{arith}
use borrow.Author.Tests.{eq-eqb, eqb-true, lt-ltb, ne_eqb}
use Rattle.std.specs.List.{prefix_len}
use lib.Dec.{eqb}
use lib.ListN.{length, take, drop, get_or, length-drop, drop_of_length-le}
use lib.Seq.{drop-cons, drop-drop}
use Rattle.chars.specs.Class.{between, is_atom_char}
use Rattle.chars.specs.Lists.{bytes, first, member}
use Rattle.chars.proofs.Laws.Lists.{by_test, true_not_false}
use Rattle.chars.proofs.Laws.Seq.{byte_inside, second, third}
use Rattle.mailaddr.specs.Shape.{more}
use Rattle.std.proofs.lemmas.Option.{none-some, same_Some}
use Rattle.mailaddr.specs.Answers.{unless_zero}
use Rattle.lexical.proofs.Laws.Comment.{comment-some}
use Rattle.lexical.specs.Answers.{Behind, Lexed, atom_word, quoted_end, quoted_word, tokens_by, tokens_of}
use Rattle.lexical.specs.Comment.{comment, content, content_by, content_step, deepest_comment}
use Rattle.lexical.specs.Quoted.{meaning_in, quoted, size_in}
use Rattle.lexical.specs.Space.{is_fold, is_space}
use Rattle.lexical.specs.Tokens.{atom_run, bad, comment_size, gap, is_mailbox_special, special, tokens_at, tokens_from, word}
use Rattle.lexical.specs.declared.comment.ContentStep.{ContentStep}
use Rattle.lexical.specs.declared.comment.ContentStep.TheVariants.{Break, Close, Fold, Open, Pair, Text}
use Rattle.lexical.specs.declared.token.Kind.TheVariants.{Atom, Bad, End, Quoted as QuotedKind, Special}
use Rattle.lexical.specs.declared.token.Lexeme.{Lexeme}
use Rattle.lexical.proofs.Laws.Quoted.{end-at, end_never, fold-some, size-within}

-- ---- atoms

pub atom_within : (s : List ℕ) → atom_run s ≤ length s
unfolding atom_run
atom_within [] = omega arith
atom_within (x ∷ s) = by_test (is_atom_char x) (λ e. rw e (omega (arith, atom_within s))) (λ e. rw e (omega arith))

-- the library's word for it
pub run_is : (s : List ℕ) → prefix_len is_atom_char s ≡ atom_run s
unfolding atom_run
run_is [] = refl
run_is (x ∷ s) = by_test (is_atom_char x) (λ e. rw (e, run_is s) (omega arith)) (λ e. rw e)

-- ---- white space and comments

more_within : (n : ℕ) (o : Option ℕ) → comment_size o ≤ n → comment_size (more 1 o) ≤ suc n
unfolding more comment_size
more_within n None h = omega arith
more_within n (Some k) h = omega arith

by-within : (n : ℕ) (t : ContentStep) (left opened : ℕ) (go : ℕ → ℕ → ℕ → Option ℕ) → ((k l o : ℕ) → comment_size (go k l o) ≤ n)
    → comment_size (content_by t left opened go) ≤ suc n
unfolding content_by comment_size
by-within n Close left zero go h = omega arith
by-within n Close left (suc opened) go h = more_within n (go zero (suc left) opened) (h zero (suc left) opened)
by-within n Open zero opened go h = omega arith
by-within n Open (suc left) opened go h = more_within n (go zero left (suc opened)) (h zero left (suc opened))
by-within n Pair left opened go h = more_within n (go 1 left opened) (h 1 left opened)
by-within n Fold left opened go h = more_within n (go 1 left opened) (h 1 left opened)
by-within n Text left opened go h = more_within n (go zero left opened) (h zero left opened)
by-within n Break left opened go h = omega arith

content-within : (k l o : ℕ) (s : List ℕ) → comment_size (content k l o s) ≤ length s
unfolding content comment_size
content-within k l o [] = omega arith
content-within (suc k) l o (x ∷ s) = more_within (length s) (content k l o s) (content-within k l o s)
content-within zero l o (x ∷ s) =
    by-within (length s) (content_step x (get_or s 0 0) (get_or s 1 0)) l o (λ k l o. content k l o s) (λ k l o. content-within k l o s)

comment-within : (l x : ℕ) (s : List ℕ) → comment_size (comment l (x ∷ s)) ≤ suc (length s)
unfolding comment comment_size
comment-within zero x s = omega arith
comment-within (suc l) x s =
    by_test (eqb (first (x ∷ s)) 40)
    (λ e. rw e (more_within (length s) (content zero l zero s) (content-within zero l zero s)))
    (λ e. rw e (omega arith))

-- what stands at a place, by the tests of the code
module _ (s : List ℕ) (i : ℕ) (h : i < length s) where
  pub gap_space : is_space (get_or s i 0) ≡ true → more i (unless_zero (gap (drop i s))) ≡ Some (i + 1)
  unfolding gap more
  gap_space e = rw (drop-cons s i 0 h, e)

  pub gap-fold : is_space (get_or s i 0) ≡ false → is_fold (get_or s i 0) (get_or s (i + 1) 0) (get_or s (i + 2) 0) ≡ true
      → more i (unless_zero (gap (drop i s))) ≡ Some (i + 2)
  unfolding gap more
  gap-fold e f = rw (drop-cons s i 0 h, e, second s i, third s i, f)

  pub gap-comment : is_space (get_or s i 0) ≡ false → is_fold (get_or s i 0) (get_or s (i + 1) 0) (get_or s (i + 2) 0) ≡ false
      → more i (unless_zero (gap (drop i s))) ≡ more i (comment deepest_comment (drop i s))
  unfolding gap comment_size
  gap-comment e f =
      let g : gap (drop i s) ≡ comment_size (comment deepest_comment (drop i s)) = rw (drop-cons s i 0 h, e, second s i, third s i, f) in
      ap (λ n. more i (unless_zero n)) g
      ∙ ap (more i) (sized (comment deepest_comment (drop i s)) (λ n q. comment-some deepest_comment (drop i s) n q))
    where
      sized : (o : Option ℕ) → ((n : ℕ) → o ≡ Some n → 0 < n) → unless_zero (comment_size o) ≡ o
      sized None k = refl
      sized (Some zero) k = absurd (omega (arith, k 0 refl))
      sized (Some (suc n)) k = refl

-- what the answer of a call says of the white space or comment
pub gap_some : (i g e : ℕ) → Some e ≡ more i (unless_zero g) → (e ≡ i + g) × (0 < g)
unfolding more
gap_some i zero e h = absurd (none-some _ (sym h))
gap_some i (suc g) e h = (same_Some _ _ h, omega arith)

pub gap_none : (i g : ℕ) → None ≡ more i (unless_zero g) → g ≡ 0
unfolding more
gap_none i zero h = refl
gap_none i (suc g) h = absurd (none-some _ h)

pub gap_within : (s : List ℕ) → gap s ≤ length s
unfolding gap
gap_within [] = omega arith
gap_within (x ∷ s) =
    by_test (is_space x)
    (λ e. rw e (omega arith))
    (λ e. by_test (is_fold x (get_or s 0 0) (get_or s 1 0))
    (λ f. rw (e, f) (omega (arith, byte_inside s 1 (fold-some x (get_or s 0 0) (get_or s 1 0) f))))
    (λ f. rw (e, f) (comment-within deepest_comment x s)))

-- ---- a quote is neither an atom's byte nor a special

quote_no_atom : (x : ℕ) → x ≡ 34 → is_atom_char x ≡ false
unfolding is_atom_char between bytes member
quote_no_atom x e = rw e

special_no_quote : (x : ℕ) → is_mailbox_special x ≡ true → eqb x 34 ≡ false
unfolding is_mailbox_special bytes member
special_no_quote x h = by_test (eqb x 34) (λ e. true_not_false (is_mailbox_special x) h (rw (eqb-true x 34 e))) (λ e. e)

-- ---- the tokens from a place on, by what stands there

module _ (i x : ℕ) (t : List ℕ) where
  front-gap : 0 < gap (x ∷ t) → tokens_from i 0 (x ∷ t) ≡ tokens_from (suc i) (gap (x ∷ t) - 1) t
  unfolding tokens_from
  front-gap g = rw (lt-ltb 0 (gap (x ∷ t)) g)

  front_atom : gap (x ∷ t) ≡ 0 → is_atom_char x ≡ true
      → tokens_from i 0 (x ∷ t)
      ≡ word (record { start = i; end = suc (i + atom_run t); is_quoted = false; meaning = x ∷ take (atom_run t) t }) ∷ tokens_from (suc i) (atom_run t) t
  unfolding tokens_from
  front_atom g a = rw (g, a)

  front-special : gap (x ∷ t) ≡ 0 → is_atom_char x ≡ false → is_mailbox_special x ≡ true → tokens_from i 0 (x ∷ t) ≡ special x ∷ tokens_from (suc i) 0 t
  unfolding tokens_from
  front-special g a b = rw (g, a, special_no_quote x b, b)

  front-bad : gap (x ∷ t) ≡ 0 → is_atom_char x ≡ false → is_mailbox_special x ≡ false → eqb x 34 ≡ false → tokens_from i 0 (x ∷ t) ≡ bad ∷ []
  unfolding tokens_from
  front-bad g a b c = rw (g, a, c, b)

  front_unclosed : gap (x ∷ t) ≡ 0 → x ≡ 34 → size_in (quoted 0 false t) ≡ 0 → tokens_from i 0 (x ∷ t) ≡ bad ∷ []
  unfolding tokens_from
  front_unclosed g b z = rw (g, quote_no_atom x b, eq-eqb x 34 b, z)

  front-quoted : gap (x ∷ t) ≡ 0 → x ≡ 34 → 0 < size_in (quoted 0 false t)
      → tokens_from i 0 (x ∷ t)
      ≡ word (record { start = i; end = suc (i + size_in (quoted 0 false t)); is_quoted = true; meaning = meaning_in (quoted 0 false t) })
      ∷ tokens_from (suc i) (size_in (quoted 0 false t)) t
  unfolding tokens_from
  front-quoted g b l = rw (g, quote_no_atom x b, eq-eqb x 34 b, lt-ltb 0 (size_in (quoted 0 false t)) l)

-- bytes that are passed first are dropped
skip_drop : (i k : ℕ) (s : List ℕ) → tokens_from i k s ≡ tokens_from (i + k) 0 (drop k s)
unfolding tokens_from
skip_drop i zero s = rw add-zero
skip_drop i (suc k) [] = refl
skip_drop i (suc k) (x ∷ s) = let e : i + suc k ≡ suc i + k = omega arith in rw e (skip_drop (suc i) k s)

module _ (s : List ℕ) (i : ℕ) where
  at_front : i < length s → tokens_at s i ≡ tokens_from i 0 (get_or s i 0 ∷ drop (suc i) s)
  unfolding tokens_at
  at_front h = rw (drop-cons s i 0 h)

  passed-at : (k : ℕ) → tokens_from (suc i) k (drop (suc i) s) ≡ tokens_at s (suc i + k)
  unfolding tokens_at
  passed-at k = skip_drop (suc i) k (drop (suc i) s) ∙ rw (drop-drop k (suc i) s)

  -- behind white space or a comment
  pub gap_step : i < length s → 0 < gap (drop i s) → tokens_at s i ≡ tokens_at s (i + gap (drop i s))
  gap_step h g =
      let k : 0 < gap (get_or s i 0 ∷ drop (suc i) s) = rw (drop-cons s i 0 h) at g in
      let e : suc i + (gap (get_or s i 0 ∷ drop (suc i) s) - 1) ≡ i + gap (get_or s i 0 ∷ drop (suc i) s) = omega arith in
      at_front h
      ∙ front-gap i (get_or s i 0) (drop (suc i) s) k
      ∙ passed-at (gap (get_or s i 0 ∷ drop (suc i) s) - 1)
      ∙ ap (tokens_at s) e
      ∙ rw (drop-cons s i 0 h)

-- ---- a lexeme, where neither white space nor a comment stands

pub lex_end : (s : List ℕ) (i : ℕ) → i ≤ length s → length s ≤ i → Lexed s i (record { kind = End; start = i; end = i })
unfolding tokens_at tokens_from tokens_of tokens_by
lex_end s i l h =
    record {
      tokens = rw (drop_of_length-le s h);
      low = omega arith;
      stands = record { ordered = omega arith; high = l; whole = omega arith };
    }

module _ (s : List ℕ) (i : ℕ) (h : i < length s) (g : gap (drop i s) ≡ 0) where
  none_here : gap (get_or s i 0 ∷ drop (suc i) s) ≡ 0
  none_here = rw (drop-cons s i 0 h) at g

  bad-here : tokens_at s i ≡ bad ∷ [] → Lexed s i (record { kind = Bad; start = i; end = i })
  unfolding tokens_of tokens_by
  bad-here e = record {
    tokens = e;
    low = omega arith;
    stands = record { ordered = omega arith; high = omega arith; whole = omega arith };
  }

  pub lex_atom : is_atom_char (get_or s i 0) ≡ true → (e : ℕ) → e ≡ i + 1 + atom_run (drop (i + 1) s)
      → Lexed s i (record { kind = Atom; start = i; end = e })
  unfolding tokens_of tokens_by atom_word
  lex_atom a e q =
      let t = drop (suc i) s in
      let q1 : e ≡ suc i + atom_run t = q ∙ rw (add-one i) in
      let q2 : suc (i + atom_run t) ≡ e = omega arith in
      let q3 : e - i ≡ suc (atom_run t) = omega arith in
      let m : take (e - i) (drop i s) ≡ get_or s i 0 ∷ take (atom_run t) t = rw (q3, drop-cons s i 0 h) in
      record {
        tokens = at_front s i h ∙ front_atom i (get_or s i 0) t none_here a ∙ rw (passed-at s i (atom_run t), sym q1, q2, m);
        low = omega arith;
        stands = record {
          ordered = omega arith;
          high = omega (arith, atom_within t, length-drop (suc i) s);
          whole = omega arith;
        };
      }

  pub lex_special : is_atom_char (get_or s i 0) ≡ false → is_mailbox_special (get_or s i 0) ≡ true
      → Lexed s i (record { kind = Special (get_or s i 0); start = i; end = i + 1 })
  unfolding tokens_of tokens_by
  lex_special a b =
      let e : suc i + 0 ≡ i + 1 = omega arith in
      record {
        tokens = at_front s i h ∙ front-special i (get_or s i 0) (drop (suc i) s) none_here a b ∙ rw (passed-at s i 0, e);
        low = omega arith;
        stands = record { ordered = omega arith; high = omega arith; whole = omega arith };
      }

  pub lex_bad : is_atom_char (get_or s i 0) ≡ false → is_mailbox_special (get_or s i 0) ≡ false → (get_or s i 0 ≡ 34 → ⊥)
      → Lexed s i (record { kind = Bad; start = i; end = i })
  lex_bad a b c = bad-here (at_front s i h ∙ front-bad i (get_or s i 0) (drop (suc i) s) none_here a b (ne_eqb (get_or s i 0) 34 c))

  pub lex_unclosed : get_or s i 0 ≡ 34 → quoted_end (i + 1) (quoted 0 false (drop (i + 1) s)) ≡ None → Lexed s i (record { kind = Bad; start = i; end = i })
  lex_unclosed b q =
      let t = drop (suc i) s in
      let z : size_in (quoted 0 false t) ≡ 0 = rw (add-one i) at (end_never (i + 1) (drop (i + 1) s) q) in
      bad-here (at_front s i h ∙ front_unclosed i (get_or s i 0) t none_here b z)

  pub lex_quoted : get_or s i 0 ≡ 34 → (e : ℕ) → quoted_end (i + 1) (quoted 0 false (drop (i + 1) s)) ≡ Some e
      → Lexed s i (record { kind = QuotedKind; start = i; end = e })
  unfolding tokens_of tokens_by quoted_word
  lex_quoted b e q =
      let t = drop (suc i) s in
      let p = end-at (i + 1) (drop (i + 1) s) e q in
      let d : drop (i + 1) s ≡ t = rw (add-one i) in
      let l : 0 < size_in (quoted 0 false t) = rw d at p.0 in
      let q0 : e ≡ i + 1 + size_in (quoted 0 false t) = rw d at p.1 in
      let q1 : suc i + size_in (quoted 0 false t) ≡ e = omega arith in
      let q2 : suc (i + size_in (quoted 0 false t)) ≡ e = omega arith in
      record {
        tokens = at_front s i h ∙ front-quoted i (get_or s i 0) t none_here b l ∙ rw (passed-at s i (size_in (quoted 0 false t)), q1, q2, d);
        low = omega arith;
        stands = record {
          ordered = omega arith;
          high = omega (arith, size-within 0 false t, length-drop (suc i) s);
          whole = record { closes = p.0; ends = p.1 };
        };
      }

-- the first lexeme behind white space and comments
pub lexed-behind : {s : List ℕ} {i r : ℕ} {t : Lexeme} → Behind s i r → Lexed s r t → Lexed s i t
lexed-behind b l = record {
  tokens = b.same ∙ l.tokens;
  low = omega (arith, b.low, l.low);
  stands = l.stands;
}

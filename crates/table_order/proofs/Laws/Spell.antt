-- Laws of spelling: the ranks of a text are those of its tokens, from the left for the fields of a path and from the right for the parts of
-- a domain; and of ranks with a separator's rank behind them.
-- Assumes nothing.
use mathlib.Core.Path.{◌≡◌, refl, sym, ap, ◌∙◌}
use mathlib.Core.Bool.{true, false}
use mathlib.Core.List.{List, [], ◌∷◌, ◌++◌, map, map-append, append_assoc, reverse, reverse-cons, reverse-reverse}
use Prim.Native.Nat.{ℕ, zero, suc}
use native.Mathlib.Nat.{suc_inj}
use native.Mathlib.Omega.{arith}
use borrow.Author.Tests.{eq-eqb, eqb-true, lt-ltb, le-ltb, ltb-true}
use lib.Dec.{eqb, ltb}
use Rattle.chars.specs.Lists.{non_empty}
use Rattle.chars.specs.Case.{fold_case, fold_text, same_text}
use Rattle.chars.specs.Parts.{before, split}
use Rattle.chars.proofs.Laws.Lists.{bool_same, by_test, true_not_false}
use Rattle.chars.proofs.Laws.Case.{fold-append, same_of, same-path}
use Rattle.chars.proofs.Laws.Parts.{split-some}
use Rattle.mailaddr.specs.Domain.{parts_of}
use Rattle.table.specs.Table.{Token}
use Rattle.table_order.specs.Order.{closed, flat, rank, spell, under, up_to}

pub eqb_suc : (a b : ℕ) → eqb (suc a) (suc b) ≡ eqb a b
eqb_suc a b =
    bool_same (eqb (suc a) (suc b)) (eqb a b)
    (λ h. eq-eqb a b (suc_inj (eqb-true (suc a) (suc b) h)))
    (λ h. eq-eqb (suc a) (suc b) (ap suc (eqb-true a b h)))

pub zero_suc : (a : ℕ) → eqb 0 (suc a) ≡ false
zero_suc a = by_test (eqb 0 (suc a)) (λ e. absurd (omega (arith, eqb-true 0 (suc a) e))) (λ e. e)

pub suc_zero : (a : ℕ) → eqb (suc a) 0 ≡ false
suc_zero a = by_test (eqb (suc a) 0) (λ e. absurd (omega (arith, eqb-true (suc a) 0 e))) (λ e. e)

pub ltb_suc : (a b : ℕ) → ltb (suc a) (suc b) ≡ ltb a b
ltb_suc a b =
    bool_same (ltb (suc a) (suc b)) (ltb a b)
    (λ h. lt-ltb a b (omega (arith, ltb-true (suc a) (suc b) h)))
    (λ h. lt-ltb (suc a) (suc b) (omega (arith, ltb-true a b h)))

-- ---- a text from the left

pub flat-split : (sep : ℕ) (s : List ℕ) → flat (split sep s) ≡ closed (spell sep s)
unfolding split flat closed spell rank before non_empty
flat-split sep [] = refl
flat-split sep (x ∷ s) =
    by_test (eqb x sep)
    (λ e. rw (e, flat-split sep s))
    (λ e. rw e (in_front_lem (split sep s) (split-some sep s) ∙ ap (λ (l : List ℕ). suc (fold_case x) ∷ l) (flat-split sep s)))
  where
    in_front_lem : (ps : List Token) → non_empty ps ≡ true → flat (before x ps) ≡ suc (fold_case x) ∷ flat ps
    in_front_lem [] h = true_not_false true refl (sym h)
    in_front_lem (p ∷ ps) h = refl

-- ---- ranks with a separator's behind them

pub under-closed : (p q : List ℕ) → under (closed p) (closed q) ≡ under p q
unfolding up_to closed
under-closed [] [] = refl
under-closed [] (zero ∷ q) = refl
under-closed [] (suc b ∷ q) = rw (zero_suc b, lt-ltb 0 (suc b) (omega arith))
under-closed (zero ∷ []) [] = refl
under-closed (zero ∷ a ∷ p) [] = refl
under-closed (suc a ∷ p) [] = rw (suc_zero a, le-ltb (suc a) 0 (omega arith))
under-closed (a ∷ p) (b ∷ q) = rw (under-closed p q)

-- ---- a text from the right

fold-reverse : (s : List ℕ) → fold_text (reverse s) ≡ reverse (fold_text s)
unfolding fold_text
fold-reverse [] = refl
fold-reverse (x ∷ s) =
    ap fold_text (reverse-cons x s)
    ∙ fold-append (reverse s) (x ∷ [])
    ∙ ap (λ (t : List ℕ). t ++ (fold_case x ∷ [])) (fold-reverse s)
    ∙ sym (reverse-cons (fold_case x) (fold_text s))

pub same-reverse : (s t : List ℕ) → same_text (reverse s) (reverse t) ≡ same_text s t
same-reverse s t =
    bool_same (same_text (reverse s) (reverse t)) (same_text s t)
    (λ h. same_of s t
    (sym (reverse-reverse (fold_text s))
    ∙ ap reverse (sym (fold-reverse s) ∙ same-path (reverse s) (reverse t) h ∙ fold-reverse t)
    ∙ reverse-reverse (fold_text t)))
    (λ h. same_of (reverse s) (reverse t) (fold-reverse s ∙ ap reverse (same-path s t h) ∙ sym (fold-reverse t)))

ranks : Token → List ℕ
ranks t = map (λ b. suc (fold_case b)) (reverse t)

-- the last token first, each from its end, a 0 between each two
rightward : List Token → List ℕ
rightward [] = []
rightward (p ∷ []) = ranks p
rightward (p ∷ q ∷ ps) = rightward (q ∷ ps) ++ 0 ∷ ranks p

flat_append : (p q : List Token) → flat (p ++ q) ≡ flat p ++ flat q
unfolding flat
flat_append [] q = refl
flat_append (t ∷ p) q =
    ap (λ (l : List ℕ). map (λ b. suc (fold_case b)) t ++ 0 ∷ l) (flat_append p q)
    ∙ sym (append_assoc (map (λ b. suc (fold_case b)) t) (0 ∷ flat p) (flat q))

flat_right : (ps : List Token) → non_empty ps ≡ true → flat (map reverse (reverse ps)) ≡ closed (rightward ps)
unfolding flat closed non_empty rightward ranks
flat_right [] h = true_not_false true refl (sym h)
flat_right (p ∷ []) h = refl
flat_right (p ∷ q ∷ ps) h =
    ap (λ (l : List Token). flat (map reverse l)) (reverse-cons p (q ∷ ps))
    ∙ ap flat (map-append reverse (reverse (q ∷ ps)) (p ∷ []))
    ∙ flat_append (map reverse (reverse (q ∷ ps))) (reverse p ∷ [])
    ∙ ap (λ (l : List ℕ). l ++ (ranks p ++ 0 ∷ [])) (flat_right (q ∷ ps) refl)
    ∙ append_assoc (rightward (q ∷ ps)) (0 ∷ []) (ranks p ++ 0 ∷ [])
    ∙ sym (append_assoc (rightward (q ∷ ps)) (0 ∷ ranks p) (0 ∷ []))

ranks_cons : (x : ℕ) (p : Token) → ranks (x ∷ p) ≡ ranks p ++ (suc (fold_case x) ∷ [])
unfolding ranks
ranks_cons x p = ap (map (λ b. suc (fold_case b))) (reverse-cons x p) ∙ map-append (λ b. suc (fold_case b)) (reverse p) (x ∷ [])

right_before : (x : ℕ) (ps : List Token) → non_empty ps ≡ true → rightward (before x ps) ≡ rightward ps ++ (suc (fold_case x) ∷ [])
unfolding before non_empty rightward
right_before x [] h = true_not_false true refl (sym h)
right_before x (p ∷ []) h = ranks_cons x p
right_before x (p ∷ q ∷ ps) h =
    ap (λ (l : List ℕ). rightward (q ∷ ps) ++ 0 ∷ l) (ranks_cons x p)
    ∙ sym (append_assoc (rightward (q ∷ ps)) (0 ∷ ranks p) (suc (fold_case x) ∷ []))

right_sep : (ps : List Token) → non_empty ps ≡ true → rightward ([] ∷ ps) ≡ rightward ps ++ 0 ∷ []
unfolding non_empty rightward ranks
right_sep [] h = true_not_false true refl (sym h)
right_sep (p ∷ ps) h = refl

spell-append : (sep : ℕ) (s t : List ℕ) → spell sep (s ++ t) ≡ spell sep s ++ spell sep t
unfolding spell
spell-append sep s t = map-append (rank sep) s t

right_split : (sep : ℕ) (s : List ℕ) → rightward (split sep s) ≡ spell sep (reverse s)
unfolding split spell rank rightward ranks
right_split sep [] = refl
right_split sep (x ∷ s) =
    by_test (eqb x sep)
    (λ e. rw e
    (right_sep (split sep s) (split-some sep s)
    ∙ ap (λ (l : List ℕ). l ++ 0 ∷ []) (right_split sep s)
    ∙ sym (turned ∙ rw e)))
    (λ e. rw e
    (right_before x (split sep s) (split-some sep s)
    ∙ ap (λ (l : List ℕ). l ++ (suc (fold_case x) ∷ [])) (right_split sep s)
    ∙ sym (turned ∙ rw e)))
  where
    turned : spell sep (reverse (x ∷ s)) ≡ spell sep (reverse s) ++ (rank sep x ∷ [])
    turned = ap (spell sep) (reverse-cons x s) ∙ spell-append sep (reverse s) (x ∷ [])

pub flat-parts : (d : List ℕ) → flat (map reverse (parts_of d)) ≡ closed (spell 46 (reverse d))
unfolding parts_of
flat-parts d = flat_right (split 46 d) (split-some 46 d) ∙ ap closed (right_split 46 d)

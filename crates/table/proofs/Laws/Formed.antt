-- A table that was loaded keeps the rules of "The table text": by induction over the rows, each of which is new to those before it.
-- Assumes nothing.
use mathlib.Core.Path.{◌≡◌, refl, sym, ap, ◌∙◌}
use mathlib.Core.Bool.{Bool, true, false, ◌&&◌, ◌||◌, not}
use mathlib.Core.List.{List, [], ◌∷◌, ◌++◌}
use Prim.Native.Nat.{ℕ, suc, ◌+◌, ◌<◌}
use native.Mathlib.Omega.{arith}
use borrow.Author.Tests.{leb-false}
use lib.Dec.{leb}
use lib.ListN.{length, length-append}
use Rattle.chars.specs.Lists.{all}
use Rattle.chars.specs.Parts.{split}
use Rattle.chars.proofs.Laws.Lists.{all_append, and_both, and_left, and_right, by_test, or_cases, or_left, or_right, true_not_false}
use Rattle.table.specs.Table.{Table, Token}
use Rattle.table.specs.Lines.{Line, bad_gateway, bad_row, gateway_table, has_tag, is_gateway_line, is_new_row, is_row, loaded_from, longest_gateway_domain, longest_row_domain, malformed, most_rows, read_lines, read_rows, row_of, same_domain, same_path, well_formed, with_row}
use Rattle.table.specs.Formed.{Formed, distinct}
use Rattle.table.proofs.Laws.FirstBad.{well_formed_lem}
use Rattle.table.proofs.Laws.Lines.{lines-some, loaded_lines, one_tag}

-- ---- one more element

module _ {A : Type 0} where
  -- it differs from every one before it
  distinct_more : (same : A → A → Bool) (s : List A) (y : A) → distinct same s ≡ true → all (λ x. not (same y x)) s ≡ true → distinct same (s ++ (y ∷ [])) ≡ true
  unfolding distinct all
  distinct_more same [] y h e = refl
  distinct_more same (x ∷ s) y h e =
      and_both
      (all_append (λ z. not (same z x)) s (y ∷ [])
      ∙ and_both (and_left (all (λ z. not (same z x)) s) (distinct same s) h) (and_both (and_left (not (same y x)) (all (λ z. not (same y z)) s) e) refl))
      (distinct_more same s y (and_right (all (λ z. not (same z x)) s) (distinct same s) h) (and_right (not (same y x)) (all (λ z. not (same y z)) s) e))

  all_more : (p : A → Bool) (s : List A) (y : A) → all p s ≡ true → p y ≡ true → all p (s ++ (y ∷ [])) ≡ true
  unfolding all
  all_more p s y h e = all_append p s (y ∷ []) ∙ and_both h (and_both e refl)

-- ---- one more row

module _ (t : Table) (fs : List Token) (f : Formed t) (n : is_new_row t fs ≡ true) where
  abbrev new_domain : Bool
  new_domain = all (λ q. not (same_domain (row_of fs) q)) t.to_path

  abbrev new_path : Bool
  new_path = all (λ q. not (same_path (row_of fs) q)) t.to_domain

  is_row_lem : is_row longest_row_domain (row_of fs) ≡ true
  unfolding is_new_row
  is_row_lem = and_left (is_row longest_row_domain (row_of fs)) (has_tag 68 fs && new_domain || has_tag 82 fs && new_path) n

  is_new : (has_tag 68 fs && new_domain || has_tag 82 fs && new_path) ≡ true
  unfolding is_new_row
  is_new = and_right (is_row longest_row_domain (row_of fs)) (has_tag 68 fs && new_domain || has_tag 82 fs && new_path) n

  row-formed : length t.to_path + length t.to_domain < most_rows → Formed (with_row t fs)
  unfolding with_row
  row-formed l =
      by_test (has_tag 68 fs)
      (λ e. rw e (record {
        gateway = f.gateway;
        paths = all_more (is_row longest_row_domain) t.to_path (row_of fs) f.paths is_row_lem;
        domains = f.domains;
        few = omega (arith, length-append t.to_path (row_of fs ∷ []));
        each_domain =
            distinct_more same_domain t.to_path (row_of fs) f.each_domain
            (or_cases (has_tag 68 fs && new_domain) (has_tag 82 fs && new_path) is_new
            (λ h. and_right (has_tag 68 fs) new_domain h)
            (λ h. true_not_false (has_tag 82 fs) (and_left (has_tag 82 fs) new_path h) (one_tag fs e)));
        each_path = f.each_path;
      }))
      (λ e. rw e (record {
        gateway = f.gateway;
        paths = f.paths;
        domains = all_more (is_row longest_row_domain) t.to_domain (row_of fs) f.domains is_row_lem;
        few = omega (arith, length-append t.to_domain (row_of fs ∷ []));
        each_domain = f.each_domain;
        each_path =
            distinct_more same_path t.to_domain (row_of fs) f.each_path
            (or_cases (has_tag 68 fs && new_domain) (has_tag 82 fs && new_path) is_new
            (λ h. true_not_false (has_tag 68 fs) (and_left (has_tag 68 fs) new_domain h) e)
            (λ h. and_right (has_tag 82 fs) new_path h));
      }))

-- a line that is not bad
line-formed : (t : Table) (l : Line) → Formed t → bad_row t l ≡ false → Formed (with_row t (split 9 l.text))
unfolding bad_row
line-formed t l f b =
    let fs : List Token = split 9 l.text in
    let full : Bool = leb most_rows (length t.to_path + length t.to_domain) in
    by_test (is_new_row t fs)
    (λ n. by_test full
    (λ e. true_not_false (bad_row t l) (or_left (not l.ended || full) (not (is_new_row t fs)) (or_right (not l.ended) full e)) b)
    (λ e. row-formed t fs f n (leb-false most_rows (length t.to_path + length t.to_domain) e)))
    (λ n. true_not_false (bad_row t l) (or_right (not l.ended || full) (not (is_new_row t fs)) (ap not n)) b)

-- ---- all the lines

rows-formed : (n : ℕ) (t u : Table) (ls : List Line) → Formed t → read_rows n t ls ≡ well_formed u → Formed u
unfolding read_rows
rows-formed n t u [] f h = let e : u ≡ t = cc in rw e f
rows-formed n t u (l ∷ ls) f h =
    by_test (bad_row t l)
    (λ b. let g : malformed n ≡ well_formed u = rw b at h in let z : ◌≡◌ {A = ℕ} 0 1 = cc in absurd (omega arith))
    (λ b. rows-formed (suc n) (with_row t (split 9 l.text)) u ls (line-formed t l f b) (rw b at h))

gateway-formed : (l : Line) → bad_gateway l ≡ false → Formed (gateway_table (split 9 l.text))
unfolding bad_gateway is_gateway_line gateway_table all distinct
gateway-formed l b =
    let fs : List Token = split 9 l.text in
    by_test (is_gateway_line fs)
    (λ g. record {
      gateway = and_right (has_tag 71 fs) (is_row longest_gateway_domain (row_of fs)) g;
      paths = refl;
      domains = refl;
      few = omega arith;
      each_domain = refl;
      each_path = refl;
    })
    (λ g. true_not_false (bad_gateway l) (or_right (not l.ended) (not (is_gateway_line fs)) (ap not g)) b)

pub lines-formed : (l : Line) (ls : List Line) (t : Table) → read_lines (l ∷ ls) ≡ well_formed t → Formed t
unfolding read_lines
lines-formed l ls t h =
    by_test (bad_gateway l)
    (λ b. let g : malformed 1 ≡ well_formed t = rw b at h in let z : ◌≡◌ {A = ℕ} 0 1 = cc in absurd (omega arith))
    (λ b. rows-formed 2 (gateway_table (split 9 l.text)) t ls (gateway-formed l b) (rw b at h))

-- a table that was loaded keeps the rules
pub loaded_formed : (s : List ℕ) (t : Table) → loaded_from s ≡ well_formed t → Formed t
loaded_formed s t h =
    let f = lines-some s in
    lines-formed f.0 f.1 t (sym (ap read_lines f.2) ∙ sym (loaded_lines s (well_formed_lem s t h).0) ∙ h)

-- Laws of one entry of a list: its line's fields, whether it is a row of a kind, and the row's places.
-- Assumes nothing.
use mathlib.Core.Path.{◌≡◌, refl, sym, ap, ◌∙◌}
use mathlib.Core.Bool.{Bool, true, false, ◌&&◌, ◌||◌, not, and-false}
use mathlib.Core.List.{List, [], ◌∷◌, ◌++◌}
use Prim.Native.Nat.{ℕ, ◌+◌, ◌≤◌, ◌<◌}
use native.Mathlib.Omega.{arith}
use borrow.Author.Tests.{eqb-true, le-leb, leb-true, lt-leb, ne_eqb}
use lib.Dec.{eqb, leb}
use lib.ListN.{length}
use Rattle.chars.specs.Lists.{all}
use Rattle.chars.specs.Case.{agree, equal_text}
use Rattle.chars.specs.Class as class
use Rattle.chars.specs.Class.{is_atom_char}
use Rattle.chars.specs.Parts.{before, is_atoms, split}
use Rattle.chars.proofs.Laws.Lists.{all_weaken, and_right, by_test, true_not_false}
use Rattle.chars.proofs.Laws.Case.{equal_refl}
use Rattle.chars.proofs.Laws.Parts.{clear, parted-all, split-at_sep, split_head}
use Rattle.mailaddr.specs.Domain.{is_domain}
use Rattle.mailaddr.proofs.Laws.Domain.{domain-atoms}
use Rattle.rowlist.specs.declared.RowEntry.{RowEntry}
use Rattle.table.specs.Table.{Token}
use Rattle.table.specs.Lines.{has_tag, is_path, is_row, longest_gateway_domain, row_of}
use Rattle.table.specs.Rows.{fields_at, row_at}
use Rattle.table.specs.declared.line as line
use Rattle.table.proofs.Laws.Fields.{between-length, fields_in, row_inside}
use Rattle.rowlist_load.specs.Listed.{EntryFound, domain_part, entry_line, is_entry, is_spelled, path_part}

-- ---- a part in the text

-- two comparisons that follow from one another have one answer
pub leb_both : (a b c d : ℕ) → (a ≤ b → c ≤ d) → (c ≤ d → a ≤ b) → leb a b ≡ leb c d
leb_both a b c d f g =
    by_test (leb c d)
    (λ e. le-leb a b (g (leb-true c d e)) ∙ sym e)
    (λ e. by_test (leb a b)
    (λ h. absurd (true_not_false (leb c d) (le-leb c d (f (leb-true a b h))) e))
    (λ h. h ∙ sym e))

-- ---- a domain has no tab

-- a text of a class has no byte that is not of the class
pub without : (b : ℕ) (p : ℕ → Bool) → p b ≡ false → (s : List ℕ) → all p s ≡ true → clear b s ≡ true
unfolding all
without b p f s h =
    all_weaken p (λ x. not (eqb x b)) (λ x g. by_test (eqb x b) (λ e. true_not_false (p x) g (ap p (eqb-true x b e) ∙ f)) (λ e. rw e)) s h

pub domain_without : (b : ℕ) → (eqb b 46 || is_atom_char b) ≡ false → (d : List ℕ) → is_domain d ≡ true → clear b d ≡ true
unfolding is_atoms
domain_without b f d h = without b (λ x. eqb x 46 || is_atom_char x) f d (parted-all 46 is_atom_char d (domain-atoms d h))

pub domain-clear : (d : List ℕ) → is_domain d ≡ true → clear 9 d ≡ true
unfolding is_atom_char class.between
domain-clear d h = domain_without 9 refl d h

-- ---- an entry that is none of a kind

-- a line that starts with another byte than the tag
tag_other : (tag x : ℕ) (s : List ℕ) → eqb x tag ≡ false → has_tag tag (split 9 (x ∷ s)) ≡ false
unfolding has_tag equal_text agree split before
tag_other tag x s h = by_test (eqb x 9) (λ e. rw e) (λ e. rw (e, split_head 9 s, h))

module _ (s : List ℕ) (e : RowEntry) (kind most : ℕ) where
  -- it is of another kind
  pub entry_other : (e.kind ≡ kind → ⊥) → is_entry s e kind most ≡ false
  unfolding is_entry entry_line
  entry_other n =
      rw (tag_other kind e.kind (9 ∷ (domain_part s e ++ 9 ∷ path_part s e)) (ne_eqb e.kind kind n), and-false (is_spelled s e))

  -- a part of it is not in the text
  pub entry_out_domain : leb (e.domain + e.domain_len) (length s) ≡ false → is_entry s e kind most ≡ false
  unfolding is_entry entry_line is_spelled
  entry_out_domain h = rw h

  pub entry_out_path : leb (e.path + e.path_len) (length s) ≡ false → is_entry s e kind most ≡ false
  unfolding is_entry entry_line is_spelled
  entry_out_path h = rw (h, and-false (leb (e.domain + e.domain_len) (length s)))

-- ---- an entry of a kind, with its parts in the text

-- where its row stands
abbrev pub row_places : RowEntry → line.Row.Row
row_places e =
    record {
      domain = e.domain;
      domain_end = e.domain + e.domain_len;
      path = e.path;
      path_end = e.path + e.path_len;
    }

module _ (s : List ℕ) (e : RowEntry) (kind most : ℕ) (k : e.kind ≡ kind) (n : kind ≡ 9 → ⊥) where
  entry_fields : clear 9 (domain_part s e) ≡ true → split 9 (entry_line s e).text ≡ (kind ∷ []) ∷ domain_part s e ∷ split 9 (path_part s e)
  unfolding entry_line all
  entry_fields c =
      ap (λ (x : ℕ). split 9 (x ∷ 9 ∷ (domain_part s e ++ 9 ∷ path_part s e))) k
      ∙ split-at_sep 9 (kind ∷ []) (domain_part s e ++ 9 ∷ path_part s e) (rw (ne_eqb kind 9 n))
      ∙ ap (λ (fs : List Token). (kind ∷ []) ∷ fs) (split-at_sep 9 (domain_part s e) (path_part s e) c)

  pub entry_row : clear 9 (domain_part s e) ≡ true → row_at s (row_places e) ≡ row_of (split 9 (entry_line s e).text)
  unfolding row_at row_of domain_part path_part
  entry_row c =
      ap (λ (fs : List Token). record { domain = domain_part s e; path = fs }) (fields_in s e.path (e.path + e.path_len) (omega arith))
      ∙ sym (ap row_of (entry_fields c))

  module _ (d : leb (e.domain + e.domain_len) (length s) ≡ true) (p : leb (e.path + e.path_len) (length s) ≡ true) where
    ends : clear 9 (domain_part s e) ≡ true → (entry_line s e).ended ≡ true
    unfolding entry_line is_spelled
    ends c = rw (d, p, c)

    -- a tab in the domain: no line could spell the entry, and the domain is none
    not-spelled : clear 9 (domain_part s e) ≡ false → is_entry s e kind most ≡ false
    unfolding is_entry entry_line is_spelled
    not-spelled c = rw (d, p, c)

    no_domain : clear 9 (domain_part s e) ≡ false → is_domain (domain_part s e) ≡ false
    no_domain c =
        by_test (is_domain (domain_part s e)) (λ h. true_not_false (clear 9 (domain_part s e)) (domain-clear (domain_part s e) h) c) (λ h. h)

    spelled : clear 9 (domain_part s e) ≡ true → is_entry s e kind most
        ≡ leb (length (domain_part s e)) most && is_domain (domain_part s e) && is_path (fields_at s e.path (e.path + e.path_len))
    unfolding is_entry is_row has_tag row_of path_part
    spelled c =
        ap (λ (b : Bool). b && (has_tag kind (split 9 (entry_line s e).text) && is_row most (row_of (split 9 (entry_line s e).text)))) (ends c)
        ∙ ap (λ (fs : List Token). has_tag kind fs && is_row most (row_of fs)) (entry_fields c)
        ∙ rw (equal_refl (kind ∷ []), fields_in s e.path (e.path + e.path_len) (omega arith))

    pub entry_test : is_entry s e kind most
        ≡ leb (length (domain_part s e)) most && is_domain (domain_part s e) && is_path (fields_at s e.path (e.path + e.path_len))
    entry_test =
        by_test (clear 9 (domain_part s e)) spelled (λ c. not-spelled c ∙ rw (no_domain c, and-false (leb (length (domain_part s e)) most)))

    pub domain-length : length (domain_part s e) ≡ e.domain_len
    unfolding domain_part
    domain-length =
        between-length s e.domain (e.domain + e.domain_len) (omega arith) (leb-true (e.domain + e.domain_len) (length s) d)
        ∙ omega arith

    -- its domain is too long, or none, or its path is none
    pub entry_long : most < e.domain_len → is_entry s e kind most ≡ false
    entry_long h = entry_test ∙ rw (domain-length, lt-leb e.domain_len most h)

    pub entry_no_domain : is_domain (domain_part s e) ≡ false → is_entry s e kind most ≡ false
    entry_no_domain h = entry_test ∙ rw (h, and-false (leb (length (domain_part s e)) most))

    pub entry_no_path : is_path (fields_at s e.path (e.path + e.path_len)) ≡ false → is_entry s e kind most ≡ false
    entry_no_path h = entry_test ∙ rw (h, and-false (leb (length (domain_part s e)) most && is_domain (domain_part s e)))

    -- it is a row
    module _ (h : e.domain_len ≤ most) (m : most ≤ longest_gateway_domain) (g : is_domain (domain_part s e) ≡ true)
        (q : is_path (fields_at s e.path (e.path + e.path_len)) ≡ true) where
      accepted : is_entry s e kind most ≡ true
      accepted = entry_test ∙ rw (domain-length, le-leb e.domain_len most h, g, q)

      is_row_lem : is_row most (row_of (split 9 (entry_line s e).text)) ≡ true
      unfolding is_entry
      is_row_lem =
          let fs : List Token = split 9 (entry_line s e).text in
          and_right (has_tag kind fs) (is_row most (row_of fs)) (and_right (entry_line s e).ended (has_tag kind fs && is_row most (row_of fs)) accepted)

      pub entry_found : EntryFound s e kind most (row_places e)
      entry_found =
          let row = entry_row (domain-clear (domain_part s e) g) in
          record {
            accepted = accepted;
            row = row;
            inside =
                row_inside s (row_places e) most (ap (is_row most) row ∙ is_row_lem) m (omega arith)
                (leb-true (e.domain + e.domain_len) (length s) d) (omega arith) (leb-true (e.path + e.path_len) (length s) p);
          }

-- An entry that is a row has no LF: its line could stand in a table text.
-- Assumes nothing.
use mathlib.Core.Path.{◌≡◌, refl, sym, ap, ◌∙◌}
use mathlib.Core.Bool.{Bool, true, false, ◌&&◌, ◌||◌, not}
use mathlib.Core.List.{List, [], ◌∷◌}
use Prim.Native.Nat.{ℕ, suc, ◌+◌}
use native.Mathlib.Omega.{arith}
use borrow.Author.Tests.{eqb-false, eqb-true, ne_eqb, not-true}
use lib.Dec.{eqb, leb, ltb}
use lib.ListN.{length}
use Rattle.chars.specs.Lists.{all, non_empty}
use Rattle.chars.specs.Class as class
use Rattle.chars.specs.Class.{is_atom_char, is_digit, is_letter, is_printable}
use Rattle.chars.specs.Parts.{join, split}
use Rattle.chars.specs.Spaces.{is_text, well_spaced}
use Rattle.chars.proofs.Laws.Lists.{all_append, and_both, and_left, and_right, and-three, by_test, or_cases, true_not_false}
use Rattle.chars.proofs.Laws.Case.{equal-path}
use Rattle.chars.proofs.Laws.Parts.{clear, join-split}
use Rattle.chars.proofs.Laws.Seq.{absent_is}
use Rattle.mailaddr.specs.Domain.{is_domain}
use Rattle.oraddr.specs.Bounds.{C, ADMD, c_letters, OU, bound_of, is_country, is_space, is_value, level_count, rule}
use Rattle.oraddr.specs.Canonical.{is_unit}
use Rattle.table.specs.Table.{Token}
use Rattle.table.specs.Lines.{are_fields, is_field, is_level, is_path}
use Rattle.table.specs.Rows.{fields_at}
use Rattle.table.proofs.Laws.Fields.{fields_in}
use Rattle.rowlist.specs.declared.RowEntry.{RowEntry}
use Rattle.rowlist_load.specs.Listed.{domain_part, entry_line, is_entry, path_part}
use Rattle.rowlist_load.proofs.Laws.Entry.{domain_without, entry_other, entry_out_domain, entry_out_path, entry_test, without}

printable_clear : is_printable 10 ≡ false
unfolding is_printable class.in_one_of class.printable_ranges
printable_clear = refl

letter_clear : is_letter 10 ≡ false
unfolding is_letter class.between
letter_clear = refl

digit_clear : is_digit 10 ≡ false
unfolding is_digit class.between
digit_clear = refl

value-clear : (k : ℕ) (s : List ℕ) → is_value k s ≡ true → clear 10 s ≡ true
unfolding is_value is_text
value-clear k s h =
    without 10 is_printable printable_clear s (and-three (non_empty s) (all is_printable s) (well_spaced s) (and_right (leb (length s) (bound_of k)) (is_text s) h)).1

country_clear : (s : List ℕ) → is_country s ≡ true → clear 10 s ≡ true
unfolding is_country
country_clear s h =
    let two : Bool = eqb (length s) (bound_of c_letters) in
    let three : Bool = eqb (length s) (bound_of C) in
    or_cases (two && all is_letter s) (three && all is_digit s) h
    (λ g. without 10 is_letter letter_clear s (and_right two (all is_letter s) g))
    (λ g. without 10 is_digit digit_clear s (and_right three (all is_digit s) g))

space_clear : (s : List ℕ) → is_space s ≡ true → clear 10 s ≡ true
unfolding is_space all
space_clear s h = rw (equal-path s (32 ∷ []) h)

rule-clear : (k : ℕ) (s : List ℕ) → rule k s ≡ true → clear 10 s ≡ true
unfolding rule
rule-clear k s h =
    by_test (eqb k C)
    (λ e. country_clear s (rw e at h))
    (λ e. or_cases (is_value k s) (eqb k ADMD && is_space s) (rw e at h) (value-clear k s) (λ g. space_clear s (and_right (eqb k ADMD) (is_space s) g)))

field_clear : (k : ℕ) (s : Token) → is_field k s ≡ true → clear 10 s ≡ true
unfolding is_field is_level is_unit all
field_clear k s h =
    or_cases (is_level k s) (eqb k 2 && not (non_empty s)) h
    (λ g. by_test (ltb k 4) (λ e. rule-clear k s (rw e at g)) (λ e. value-clear OU s (rw e at g)))
    (λ g. rw (absent_is s (not-true (non_empty s) (and_right (eqb k 2) (not (non_empty s)) g))))

pub fields-clear : (k : ℕ) (fs : List Token) → are_fields k fs ≡ true → all (clear 10) fs ≡ true
unfolding are_fields all
fields-clear k [] h = refl
fields-clear k (f ∷ fs) h =
    and_both (field_clear k f (and_left (is_field k f) (are_fields (suc k) fs) h)) (fields-clear (suc k) fs (and_right (is_field k f) (are_fields (suc k) fs) h))

join-clear : (ps : List (List ℕ)) → all (clear 10) ps ≡ true → clear 10 (join 9 ps) ≡ true
unfolding join all
join-clear [] h = refl
join-clear (p ∷ []) h = and_left (clear 10 p) true h
join-clear (p ∷ q ∷ ps) h =
    all_append (λ x. not (eqb x 10)) p (9 ∷ join 9 (q ∷ ps))
    ∙ and_both (and_left (clear 10 p) (all (clear 10) (q ∷ ps)) h) (and_both refl (join-clear (q ∷ ps) (and_right (clear 10 p) (all (clear 10) (q ∷ ps)) h)))

-- a text whose fields may stand for levels has no LF
pub path-clear : (k : ℕ) (s : List ℕ) → are_fields k (split 9 s) ≡ true → clear 10 s ≡ true
path-clear k s h = sym (ap (clear 10) (join-split 9 s)) ∙ join-clear (split 9 s) (fields-clear k (split 9 s) h)

-- ---- an entry

atom_clear : (eqb 10 46 || is_atom_char 10) ≡ false
unfolding is_atom_char class.between
atom_clear = refl

module _ (s : List ℕ) (e : RowEntry) (kind most : ℕ) (n : kind ≡ 9 → ⊥) (m : kind ≡ 10 → ⊥) (i : is_entry s e kind most ≡ true) where
  -- it is of the kind, and its parts are in the text
  is_kind : e.kind ≡ kind
  is_kind =
      by_test (eqb e.kind kind)
      (λ h. eqb-true e.kind kind h)
      (λ h. true_not_false (is_entry s e kind most) i (entry_other s e kind most (eqb-false e.kind kind h)))

  has_domain : leb (e.domain + e.domain_len) (length s) ≡ true
  has_domain =
      by_test (leb (e.domain + e.domain_len) (length s)) (λ h. h) (λ h. true_not_false (is_entry s e kind most) i (entry_out_domain s e kind most h))

  has_path : leb (e.path + e.path_len) (length s) ≡ true
  has_path =
      by_test (leb (e.path + e.path_len) (length s)) (λ h. h) (λ h. true_not_false (is_entry s e kind most) i (entry_out_path s e kind most h))

  parts : (leb (length (domain_part s e)) most ≡ true) × (is_domain (domain_part s e) ≡ true) × (is_path (fields_at s e.path (e.path + e.path_len)) ≡ true)
  parts =
      and-three (leb (length (domain_part s e)) most) (is_domain (domain_part s e)) (is_path (fields_at s e.path (e.path + e.path_len)))
      (sym (entry_test s e kind most is_kind n has_domain has_path) ∙ i)

  path_no_feed : clear 10 (path_part s e) ≡ true
  unfolding is_path path_part
  path_no_feed =
      let fs = fields_at s e.path (e.path + e.path_len) in
      let f = (and-three (leb 2 (length fs)) (leb (length fs) level_count) (are_fields 0 fs) parts.2).2 in
      path-clear 0 (path_part s e) (sym (ap (are_fields 0) (fields_in s e.path (e.path + e.path_len) (omega arith))) ∙ f)

  -- an entry that is a row has no LF in its line
  pub entry_no_feed : clear 10 (entry_line s e).text ≡ true
  unfolding entry_line all
  entry_no_feed =
      and_both (ap not (ap (λ (x : ℕ). eqb x 10) is_kind ∙ ne_eqb kind 10 m))
      (and_both refl
      (all_append (λ x. not (eqb x 10)) (domain_part s e) (9 ∷ path_part s e)
      ∙ and_both (domain_without 10 atom_clear (domain_part s e) parts.1) (and_both refl path_no_feed)))

-- What the check's candidates are: fields as levels and a surname make a canonical record, no carrier, whose levels are the fields. And what
-- it says of an R row that its candidates come back.
-- Assumes nothing.
use mathlib.Core.Path.{◌≡◌, refl, sym, ap, subst, ◌∙◌}
use mathlib.Core.Bool.{true, false, ◌&&◌, not, cond, and-false}
use mathlib.Core.List.Memᴰ
use mathlib.Core.List.{List, [], ◌∷◌, ◌++◌, map-append, Memᴰ}
use mathlib.Core.Option.{some}
use Prim.Native.Nat.{ℕ, zero, suc, ◌+◌, ◌-◌, ◌/◌, ◌%◌, ◌≤◌, ◌<◌}
use native.Mathlib.Nat.{add-zero}
use native.Mathlib.Omega.{arith}
use borrow.Author.Tests.{eqb-true, le-ltb, ltb-false, ltb-true}
use lib.Dec.{eqb, ltb}
use lib.ListN.{length, drop, replicate, set, length-append, length-drop, length-map}
use lib.Seq.{drop_at}
use Rattle.chars.specs.Lists.{all, bytes, first, last, member, non_empty}
use Rattle.chars.specs.Case.{fold_case, fold_text}
use Rattle.chars.specs.Class.{between, is_digit, is_label_char, is_letter, is_printable}
use Rattle.chars.specs.Domain.{is_domain_part}
use Rattle.chars.specs.Parts.{is_part, is_parted, split}
use Rattle.chars.specs.Spaces.{adjacent, is_text, well_spaced}
use Rattle.chars.proofs.Laws.Case.{fold-append, fold-low}
use Rattle.chars.proofs.Laws.Class.{label_printable}
use Rattle.chars.proofs.Laws.Domain.{domain-part-label, domain-part-length}
use Rattle.chars.proofs.Laws.Lists.{all_append, all_drop, all_weaken, and_both, and_left, and_right, by_test, or_left, true_not_false}
use Rattle.chars.proofs.Laws.Parts.{clear, split_one}
use Rattle.chars.proofs.Laws.Seq.{map-drop, some-length}
use Rattle.chars.proofs.Laws.Spaces.{text-parted}
use Rattle.oraddr.specs.Add.{Outcome, add_single, add_unit, outcome}
use Rattle.oraddr.specs.Attributes.{Attributes, levels, single_of}
use Rattle.oraddr.specs.Bounds.{C, S, is_value, rule}
use Rattle.oraddr.specs.Canonical.{all_kept, canonical, canonical_record, identified, is_unit, kept, names_with_surname}
use Rattle.oraddr.specs.View.{empty_record, singles_view, value_view, view}
use Rattle.oraddr.specs.declared.record.Record.{Record}
use Rattle.oraddr.proofs.Laws.Canonical.{Parts, parts-canonical}
use Rattle.oraddr.proofs.Laws.Made.{Made, made_single, single-added}
use Rattle.ortext_segments.proofs.Laws.Keys.{key-clear}
use Rattle.mailaddr.specs.Domain.{is_domain, parts_of}
use Rattle.table.specs.Table.{Row, Table, Token}
use Rattle.table.specs.Formed.{Formed}
use Rattle.table.specs.Lines.{are_fields, is_field, is_level}
use Rattle.table_lookup.specs.Lookup.{begins}
use Rattle.table_settle.specs.Settle.{Settling, add_level, add_levels, begun, past_bound, past_units, settled, settled_as, settled_from}
use Rattle.table.proofs.Laws.Fields.{field_own, field_unit}
use Rattle.table_settle.proofs.Laws.Settle.{level_single, level_unit, levels_stop}
use Rattle.table_settle.proofs.Laws.Settled.{LevelsMade, field_there, levelled, levelled-kept, levelled-levels, levelled-units, levels_made}
use Rattle.table_lookup.proofs.Laws.Tails.{fold-parts, tail-place, tail-whole}
use Rattle.mapping.specs.ToAddress.{has_levels, is_carrier, is_nameless, is_one_carrier}
use Rattle.soundness.specs.Check.{SecondBack, candidate_of, with_surname}
use Rattle.soundness.specs.Fits.{fits}
use Rattle.soundness.specs.Folded.{domain_row, fold_tokens, token_table}
use Rattle.soundness.specs.Labels.{fresh, label, odd_label}
use Rattle.soundness.specs.Sound.{IsStruct, comes_back}
use Rattle.soundness.specs.Tokens as tokens
use Rattle.soundness.specs.Tokens.{Back, Fresh, Tok, Tried, fits_from, pad}
use Rattle.soundness.proofs.Laws.Came.{came_back}
use Rattle.soundness.proofs.Laws.Fits.{fits-from-fold}
use Rattle.soundness.proofs.Laws.Folded.{begins-fold, few-fold, fields-fold, formed-fold, parts_all, path-fields}
use Rattle.soundness.proofs.Laws.Fresh.{label-fresh, label-part, odd-fresh, odd_part}
use Rattle.table_lookup.proofs.Laws.Begins.{begins-append}
use Rattle.soundness.proofs.Laws.Look.{equal_equality}

-- ---- the attributes of a candidate

-- the tokens at the levels from C on, and the surname
abbrev named_show : List Token → Attributes
named_show ts = record { single = set (levelled ts).single S (bytes "Lee"); units = (levelled ts).units; dds = [] }

surname-rule : rule S (bytes "Lee") ≡ true
unfolding rule is_value is_text non_empty all is_printable is_letter is_digit between bytes member well_spaced first last adjacent
surname-rule = refl

-- What the surname changes of the tokens' attributes: it was not there, it is there, the others keep their rules, the levels stay.
record Surname (ts : List Token) : Type 0 where
  before : single_of (levelled ts) S ≡ []
  there : single_of (named_show ts) S ≡ bytes "Lee"
  rules : all_kept 0 (named_show ts).single ≡ all_kept 0 (levelled ts).single
  same : levels (named_show ts) ≡ levels (levelled ts)

surname : (ts : List Token) → Surname ts
unfolding single_of levels all_kept kept rule is_value is_text non_empty all is_printable is_letter is_digit between bytes member well_spaced first last adjacent
surname [] = record { before = refl; there = refl; rules = refl; same = refl }
surname (a ∷ []) = record { before = refl; there = refl; rules = refl; same = refl }
surname (a ∷ b ∷ []) = record { before = refl; there = refl; rules = refl; same = refl }
surname (a ∷ b ∷ c ∷ []) = record { before = refl; there = refl; rules = refl; same = refl }
surname (a ∷ b ∷ c ∷ d ∷ ts) = record { before = refl; there = refl; rules = refl; same = refl }

name_there : (ts : List Token) → (names_with_surname (named_show ts) ≡ true) × (identified (named_show ts) ≡ true)
unfolding names_with_surname identified non_empty bytes
name_there ts = rw (surname ts).there (refl, refl)

named-parts : (ts : List Token) → are_fields 0 ts ≡ true → 2 ≤ length ts → length ts ≤ 8 → Parts (named_show ts)
unfolding are_fields single_of all
named-parts [] h l m = absurd (omega arith)
named-parts (a ∷ []) h l m = absurd (omega arith)
named-parts (a ∷ b ∷ ts) h l m =
    let rest = are_fields 2 ts in
    let p = and_right (is_field 0 a) (is_field 1 b && rest) h in
    let w = name_there (a ∷ b ∷ ts) in
    record {
      country = field_there 0 a refl (and_left (is_field 0 a) (is_field 1 b && rest) h);
      domain = field_there 1 b refl (and_left (is_field 1 b) rest p);
      singles = (surname (a ∷ b ∷ ts)).rules ∙ levelled-kept (a ∷ b ∷ ts) h;
      few-units = omega (arith, length-drop 4 (a ∷ b ∷ ts));
      units = levelled-units (a ∷ b ∷ ts) h;
      few-dds = omega arith;
      dds = refl;
      names = w.0;
      named = w.1;
    }

-- ---- candidates

-- absent levels, folded
fold-absent : (n : ℕ) → fold_tokens (replicate n []) ≡ replicate n []
unfolding fold_text
fold-absent zero = refl
fold-absent (suc n) = ap (λ (ts : List Tok). [] ∷ ts) (fold-absent n)

pad-fold : (ts : List Token) → fold_tokens (ts ++ replicate (8 - length ts) []) ≡ pad (fold_tokens ts)
unfolding pad
pad-fold ts =
    map-append fold_text ts (replicate (8 - length ts) [])
    ∙ ap (λ (us : List Tok). fold_tokens ts ++ us) (fold-absent (8 - length ts) ∙ ap (λ (n : ℕ). replicate (8 - n) []) (sym (length-map ts fold_text)))

-- A candidate of the check: it is a canonical record, no carrier, and its levels are the tokens.
pub record IsCandidate (t : Table) (ts : List Token) : Type 0 where
  pub struct : IsStruct (candidate_of ts)
  pub canonical : canonical_record (candidate_of ts) ≡ true
  pub free : is_carrier t (view (candidate_of ts)) ≡ false
  pub levels : fold_tokens (levels (view (candidate_of ts))) ≡ pad (fold_tokens ts)

module _ (ts : List Token) (h : are_fields 0 ts ≡ true) (eight : length ts ≤ 8) where
  abbrev bare : Record
  bare = (add_levels 0 ts (begun empty_record)).record'

  bare_made : LevelsMade ts bare
  bare_made = (levels_made ts h eight).1

  candidate_made : Made (candidate_of ts)
  unfolding candidate_of with_surname
  candidate_made = made_single bare bare_made.made S (bytes "Lee") (omega arith)

  candidate_shows : view (candidate_of ts) ≡ named_show ts
  unfolding candidate_of with_surname
  candidate_shows =
      (single-added bare bare_made.made S (bytes "Lee") surname-rule (ap (λ (a : Attributes). single_of a S) bare_made.shows ∙ (surname ts).before)).1
      ∙ ap (λ (a : Attributes). record { single = set a.single S (bytes "Lee"); units = a.units; dds = a.dds }) bare_made.shows

  candidate_free : (t : Table) → is_carrier t (view (candidate_of ts)) ≡ false
  unfolding is_carrier is_one_carrier
  candidate_free t = rw candidate_shows (and-false (has_levels t.gateway.path (levels (named_show ts)) && is_nameless (named_show ts)))

-- fields make a candidate
pub candidate : (t : Table) (ts : List Token) → are_fields 0 ts ≡ true → 2 ≤ length ts → length ts ≤ 8 → IsCandidate t ts
unfolding canonical_record view singles_view
candidate t ts h two eight =
    let e = candidate_shows ts h eight in
    record {
      struct = length-map (candidate_of ts).singles.values value_view ∙ (candidate_made ts h eight).shaped.values;
      canonical = and_both (candidate_made ts h eight).ranged (ap canonical e ∙ parts-canonical (named_show ts) (named-parts ts h two eight));
      free = candidate_free ts h eight t;
      levels = ap (λ (a : Attributes). fold_tokens (levels a)) e ∙ ap fold_tokens ((surname ts).same ∙ levelled-levels ts [] eight) ∙ pad-fold ts;
    }

-- ---- fields and other levels

-- fields behind fields, where the first of them stands at the level k and the first behind them at n
fields-append : (k n : ℕ) (xs ys : List Token) → k + length xs ≡ n → are_fields k xs ≡ true → are_fields n ys ≡ true → are_fields k (xs ++ ys) ≡ true
unfolding are_fields
fields-append k n [] ys e a b = subst (λ (j : ℕ). are_fields j ys ≡ true) (sym e ∙ add-zero k) b
fields-append k n (x ∷ xs) ys e a b =
    and_both (and_left (is_field k x) (are_fields (suc k) xs) a)
    (fields-append (suc k) n xs ys (omega arith) (and_right (is_field k x) (are_fields (suc k) xs) a) b)

-- a level that is there and within its bound is a field
field_fits : (k : ℕ) (s : Token) → non_empty s ≡ true → fits k s ≡ true → is_field k s ≡ true
unfolding fits is_field non_empty
field_fits k [] e h = true_not_false false e refl
field_fits k (x ∷ s) e h = or_left (is_level k (x ∷ s)) (eqb k 2 && false) h

fields_fit : (k : ℕ) (ts : List Token) → all non_empty ts ≡ true → fits_from fits k ts ≡ true → are_fields k ts ≡ true
unfolding are_fields fits_from all
fields_fit k [] s h = refl
fields_fit k (t ∷ ts) s h =
    and_both
    (field_fits k t (and_left (non_empty t) (all non_empty ts) s) (and_left (fits k t) (fits_from fits (suc k) ts) h))
    (fields_fit (suc k) ts (and_right (non_empty t) (all non_empty ts) s) (and_right (fits k t) (fits_from fits (suc k) ts) h))

-- ---- what was added without refusal

single-rule : (r : Record) (k : ℕ) (v : List ℕ) → (add_single r k v).number ≡ 0 → rule k v ≡ true
unfolding add_single outcome
single-rule r k v h = by_test (rule k v) (λ e. e) (λ e. absurd (omega (arith, rw e at h)))

unit_rule : (r : Record) (v : List ℕ) → (add_unit r v).number ≡ 0 → is_unit v ≡ true
unfolding add_unit outcome
unit_rule r v h = by_test (is_unit v) (λ e. e) (λ e. absurd (omega (arith, rw e at h)))

added_field : (k : ℕ) (t : Token) (r : Record) → non_empty t ≡ true → (add_level k t r).number ≡ 0 → is_field k t ≡ true
unfolding non_empty is_unit
added_field k [] r s h = true_not_false false s refl
added_field k (x ∷ t) r s h =
    let there : length (x ∷ t) ≡ 0 → ⊥ = λ q. omega arith in
    by_test (ltb k 4)
    (λ e. let l = ltb-true k 4 e in
    field_own k (x ∷ t) there l ∙ single-rule r k (x ∷ t) (sym (ap (λ (o : Outcome). o.number) (level_single k (x ∷ t) r there l)) ∙ h))
    (λ e. let l = ltb-false k 4 e in
    field_unit k (x ∷ t) there l ∙ unit_rule r (x ∷ t) (sym (ap (λ (o : Outcome). o.number) (level_unit k (x ∷ t) r there l)) ∙ h))

-- nothing was refused before
not-before : (k : ℕ) (us : List Token) (o : Outcome) → (add_levels k us o).number ≡ 0 → o.number ≡ 0
not-before k us o h =
    by_test (eqb o.number 0)
    (λ e. eqb-true o.number 0 e)
    (λ e. sym (ap (λ (p : Outcome). p.number) (levels_stop k us o e)) ∙ h)

added-fields : (k : ℕ) (us : List Token) (o : Outcome) → all non_empty us ≡ true → (add_levels k us o).number ≡ 0 → are_fields k us ≡ true
unfolding are_fields all add_levels
added-fields k [] o s h = refl
added-fields k (t ∷ us) o s h =
    let p : Outcome = cond (eqb o.number 0) (add_level k t o.record') o in
    let e = ap (λ (n : ℕ). (cond (eqb n 0) (add_level k t o.record') o).number) (not-before k (t ∷ us) o h) in
    and_both
    (added_field k t o.record' (and_left (non_empty t) (all non_empty us) s) (sym e ∙ not-before (suc k) us p h))
    (added-fields (suc k) us p (and_right (non_empty t) (all non_empty us) s) h)

-- behind fields
added-behind : (k : ℕ) (xs ys : List Token) (o : Outcome) → are_fields k xs ≡ true → all non_empty ys ≡ true → (add_levels k (xs ++ ys) o).number ≡ 0
    → are_fields k (xs ++ ys) ≡ true
unfolding are_fields add_levels
added-behind k [] ys o f s h = added-fields k ys o s h
added-behind k (x ∷ xs) ys o f s h =
    and_both (and_left (is_field k x) (are_fields (suc k) xs) f)
    (added-behind (suc k) xs ys (cond (eqb o.number 0) (add_level k x o.record') o) (and_right (is_field k x) (are_fields (suc k) xs) f) s h)

-- tokens that are settled are eight at most, none was refused, and the record has them
settled-added : (ts : List Token) (n : ℕ) (q : Record) → settled_from (some ts) ≡ settled n q
    → (length ts ≤ 8) × ((add_levels 0 ts (begun empty_record)).number ≡ 0) × ((add_levels 0 ts (begun empty_record)).record' ≡ q)
unfolding settled_from settled_as
settled-added ts n q h =
    let o : Outcome = add_levels 0 ts (begun empty_record) in
    by_test (ltb 8 (length ts))
    (λ e. let p : ◌≡◌ {A = Settling} past_units (settled n q) = rw e at h in
    let z : ◌≡◌ {A = ℕ} 0 1 = cc in absurd (omega arith))
    (λ e. by_test (eqb o.number 0)
    (λ f. let p : ◌≡◌ {A = Settling} (settled (length ts) o.record') (settled n q) = rw (e, f) at h in
    let y : o.record' ≡ q = cc in
    (ltb-false 8 (length ts) e, eqb-true o.number 0 f, y))
    (λ f. let p : ◌≡◌ {A = Settling} past_bound (settled n q) = rw (e, f) at h in
    let z : ◌≡◌ {A = ℕ} 0 1 = cc in absurd (omega arith)))

-- fields are settled
fields-settled : (ts : List Token) → are_fields 0 ts ≡ true → length ts ≤ 8
    → settled_from (some ts) ≡ settled (length ts) (add_levels 0 ts (begun empty_record)).record'
unfolding settled_from settled_as
fields-settled ts h l = rw (le-ltb 8 (length ts) l, (levels_made ts h l).0)

-- ---- labels as levels

-- a text with no space
clear-text : (s : List ℕ) → non_empty s ≡ true → all is_printable s ≡ true → clear 32 s ≡ true → is_text s ≡ true
unfolding is_parted is_part all
clear-text s e p c = text-parted s ∙ ap (all (is_part is_printable)) (split_one 32 s c) ∙ and_both (and_both e p) refl

-- the characters of a label
module _ (n : ℕ) where
  chars : all is_label_char (label n) ≡ true
  chars = domain-part-label (label n) (label-part n)

  printable : all is_printable (label n) ≡ true
  printable = all_weaken is_label_char is_printable label_printable (label n) chars

  no_space : clear 32 (label n) ≡ true
  unfolding is_label_char is_letter is_digit between
  no_space = key-clear 32 refl (label n) chars

  label-text : is_text (label n) ≡ true
  unfolding label non_empty
  label-text = clear-text (label n) refl printable no_space

  odd-text : is_text (odd_label n) ≡ true
  unfolding odd_label label non_empty all is_printable is_letter is_digit between member bytes
  odd-text =
      clear-text (odd_label n) refl
      (all_append is_printable (label n) (43 ∷ []) ∙ and_both printable refl)
      (all_append (λ x. not (eqb x 32)) (label n) (43 ∷ []) ∙ and_both no_space refl)

  label-fold : fold_text (label n) ≡ label n
  unfolding fold_text label
  label-fold = rw (fold-low (48 + n / 100 % 10) (omega arith), fold-low (48 + n / 10 % 10) (omega arith), fold-low (48 + n % 10) (omega arith))

  odd-fold : fold_text (odd_label n) ≡ odd_label n
  unfolding odd_label fold_text fold_case between
  odd-fold = fold-append (label n) (43 ∷ []) ∙ ap (λ (s : Tok). s ++ 43 ∷ []) label-fold

-- a value at a level behind C that a record has once
value_field : (k : ℕ) (s : Token) → ltb k 4 ≡ true → eqb k C ≡ false → is_value k s ≡ true → are_fields k (s ∷ []) ≡ true
unfolding are_fields is_field is_level rule
value_field k s l e h = rw (l, e, h)

label_field : (n : ℕ) → are_fields 3 (label n ∷ []) ≡ true
unfolding is_value label
label_field n = value_field 3 (label n) refl refl (label-text n)

odd_field : (n : ℕ) → are_fields 2 (odd_label n ∷ []) ≡ true
unfolding is_value odd_label label
odd_field n = value_field 2 (odd_label n) refl refl (odd-text n)

-- ---- the candidates of an R row

-- a candidate that comes back
candidate_back : (t : Table) (f : Formed t) (ts us : List Token) → IsCandidate t ts → fold_tokens ts ≡ us → comes_back t (candidate_of ts) ≡ true → Back (token_table t) (pad us)
candidate_back t f ts us c e h =
    subst (λ (l : List Tok). Back (token_table t) l) (c.levels ∙ ap pad e) (came_back t f (candidate_of ts) c.canonical c.struct c.free h)

module _ (t : Table) (f : Formed t) (r : Row) (m : Memᴰ r t.to_domain) where
  path : tokens.IsPath (domain_row r).key
  path = (formed-fold t f).path_r (domain_row r) (Memᴰ.map domain_row m)

  fields : are_fields 0 r.path ≡ true
  fields = sym (fields-fold 0 r.path) ∙ path-fields t f (domain_row r) (Memᴰ.map domain_row m)

  two : 2 ≤ length r.path
  two = omega (arith, path.two, length-map r.path fold_text)

  -- the levels of its path
  pub plain_candidate : IsCandidate t r.path
  plain_candidate = candidate t r.path fields two (omega (arith, path.eight, length-map r.path fold_text))

  pub plain_back : comes_back t (candidate_of r.path) ≡ true → Back (token_table t) (pad (domain_row r).key)
  plain_back h = candidate_back t f r.path (domain_row r).key plain_candidate refl h

  -- one more level behind it
  more_candidate : (k : ℕ) (s : Token) → length r.path ≡ k → k < 8 → are_fields k (s ∷ []) ≡ true → IsCandidate t (r.path ++ s ∷ [])
  more_candidate k s l b h =
      let n = length-append r.path (s ∷ []) in
      candidate t (r.path ++ s ∷ []) (fields-append 0 k r.path (s ∷ []) (omega arith) fields h) (omega (arith, two)) (omega arith)

  more-fold : (s : Token) → fold_text s ≡ s → fold_tokens (r.path ++ s ∷ []) ≡ (domain_row r).key ++ s ∷ []
  more-fold s e = map-append fold_text r.path (s ∷ []) ∙ ap (λ (x : Tok). (domain_row r).key ++ x ∷ []) e

  -- a path of two fields, with a PRMD that is no domain part
  pub two_candidate : length r.path ≡ 2 → (n : ℕ) → IsCandidate t (r.path ++ odd_label n ∷ [])
  two_candidate l n = more_candidate 2 (odd_label n) l (omega arith) (odd_field n)

  pub two_back : length r.path ≡ 2 → (n : ℕ) → n ≡ fresh (token_table t) (domain_row r) → comes_back t (candidate_of (r.path ++ odd_label n ∷ [])) ≡ true
      → Tried (token_table t) (domain_row r) false
  two_back l n e h =
      record {
        f = odd_label n;
        fresh = subst (λ (k : ℕ). Fresh (token_table t) (domain_row r) (odd_label k)) (sym e) (odd-fresh (token_table t) (domain_row r) (few-fold t f));
        part = odd_part n;
        back = candidate_back t f (r.path ++ odd_label n ∷ []) ((domain_row r).key ++ odd_label n ∷ []) (two_candidate l n) (more-fold (odd_label n) (odd-fold n)) h;
      }

  -- a path of three fields, with an O that is a domain part
  pub bare_candidate : length r.path ≡ 3 → (n : ℕ) → IsCandidate t (r.path ++ label n ∷ [])
  bare_candidate l n = more_candidate 3 (label n) l (omega arith) (label_field n)

  pub bare-back : length r.path ≡ 3 → (n : ℕ) → n ≡ fresh (token_table t) (domain_row r) → comes_back t (candidate_of (r.path ++ label n ∷ [])) ≡ true
      → Tried (token_table t) (domain_row r) true
  bare-back l n e h =
      record {
        f = label n;
        fresh = subst (λ (k : ℕ). Fresh (token_table t) (domain_row r) (label k)) (sym e) (label-fresh (token_table t) (domain_row r) (few-fold t f));
        part = label-part n;
        back = candidate_back t f (r.path ++ label n ∷ []) ((domain_row r).key ++ label n ∷ []) (bare_candidate l n) (more-fold (label n) (label-fold n)) h;
      }

-- ---- the second candidate of an R row and a domain

module _ (t : Table) (r : Row) (d : List ℕ) where
  -- a domain that does not lie under the row's
  pub second_none : begins (parts_of r.domain) (parts_of d) ≡ false → SecondBack t r d
  second_none h z e one eight within =
      true_not_false (begins (parts_of r.domain) (parts_of d))
      (begins-fold (parts_of r.domain) (parts_of d) ∙ ap (tokens.begins (domain_row r).val) e ∙ begins-append equal_equality (domain_row r).val z)
      h

  -- one that has no more parts than the row's, and one that has no more bytes
  pub second-few : length (parts_of d) ≤ length (parts_of r.domain) → SecondBack t r d
  second-few h z e one eight within =
      absurd (omega (arith, ap length e, length-append (domain_row r).val z, length-map (parts_of d) fold_text, length-map (parts_of r.domain) fold_text))

  pub second_short : length d ≤ length r.domain → SecondBack t r d
  second_short h =
      by_test (begins (parts_of r.domain) (parts_of d))
      (λ b. let l : length d ≡ length r.domain = omega (arith, (tail-place r.domain d b).0) in
      let e = ap length (fold-parts d r.domain (sym (tail-whole r.domain d l) ∙ b)) in
      second-few (omega (arith, length-map (parts_of d) fold_text, length-map (parts_of r.domain) fold_text)))
      second_none

  -- the tokens that the domain has behind the row's are those left of its parts
  left_is : (z : List Tok) → fold_tokens (parts_of d) ≡ (domain_row r).val ++ z → fold_tokens (drop (length (parts_of r.domain)) (parts_of d)) ≡ z
  left_is z e =
      let n : ℕ = length (parts_of r.domain) in
      map-drop fold_text n (parts_of d) ∙ ap (drop n) e ∙ drop_at (domain_row r).val z n (length-map (parts_of r.domain) fold_text)

-- The parts left of the domain's, which `left_drop` of the table's laws says by the text (`left_parts`), fill the levels behind the path.
module _ (t : Table) (f : Formed t) (r : Row) (m : Memᴰ r t.to_domain) (d : List ℕ) (g : is_domain d ≡ true)
    (left : List Token) (cut : drop (length (parts_of r.domain)) (parts_of d) ≡ left) where
  left_there : all non_empty left ≡ true
  unfolding is_domain parts_of all
  left_there =
      ap (all non_empty) (sym cut)
      ∙ all_drop non_empty (length (parts_of r.domain)) (parts_of d)
      (all_weaken is_domain_part non_empty (λ s h. some-length s (domain-part-length s h).0) (parts_of d) (parts_all (split 46 d) [] g refl))

  left_fold : (z : List Tok) → fold_tokens (parts_of d) ≡ (domain_row r).val ++ z → fold_tokens left ≡ z
  left_fold z e = ap fold_tokens (sym cut) ∙ left_is t r d z e

  -- they are settled
  module _ (n : ℕ) (q : Record) (h : settled_from (some (r.path ++ left)) ≡ settled n q) where
    pub second-named : with_surname q ≡ candidate_of (r.path ++ left)
    unfolding candidate_of
    second-named = ap with_surname (sym (settled-added (r.path ++ left) n q h).2)

    pub second_candidate : IsCandidate t (r.path ++ left)
    second_candidate =
        let p = settled-added (r.path ++ left) n q h in
        candidate t (r.path ++ left) (added-behind 0 r.path left (begun empty_record) (fields t f r m) left_there p.1)
        (omega (arith, length-append r.path left, two t f r m)) p.0

    pub second_back : comes_back t (with_surname q) ≡ true → SecondBack t r d
    second_back b z e one eight within =
        candidate_back t f (r.path ++ left) ((domain_row r).key ++ z) second_candidate
        (map-append fold_text r.path left ∙ ap (λ (x : List Tok). (domain_row r).key ++ x) (left_fold z e))
        (ap (comes_back t) (sym second-named) ∙ b)

  -- they are settled where they can be levels
  second-settled : (z : List Tok) → fold_tokens (parts_of d) ≡ (domain_row r).val ++ z → length (domain_row r).key + length z ≤ 8
      → fits_from fits (length (domain_row r).key) z ≡ true
      → settled_from (some (r.path ++ left)) ≡ settled (length (r.path ++ left)) (add_levels 0 (r.path ++ left) (begun empty_record)).record'
  second-settled z e eight within =
      let k : ℕ = length (domain_row r).key in
      let w = left_fold z e in
      let l = length-map r.path fold_text in
      let n : length left ≡ length z = sym (length-map left fold_text) ∙ ap length w in
      fields-settled (r.path ++ left)
      (fields-append 0 k r.path left (omega arith) (fields t f r m)
      (fields_fit k left left_there (sym (fits-from-fold k left) ∙ ap (fits_from fits k) w ∙ within)))
      (omega (arith, length-append r.path left))

  -- they pass OU4, or one passes its bound: they can not be levels
  pub second-units : settled_from (some (r.path ++ left)) ≡ past_units → SecondBack t r d
  second-units h z e one eight within =
      let p = second-settled z e eight within in
      let y : ◌≡◌ {A = ℕ} 0 1 = cc in absurd (omega arith)

  pub second_bound : settled_from (some (r.path ++ left)) ≡ past_bound → SecondBack t r d
  second_bound h z e one eight within =
      let p = second-settled z e eight within in
      let y : ◌≡◌ {A = ℕ} 0 1 = cc in absurd (omega arith)

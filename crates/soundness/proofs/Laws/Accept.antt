-- Acceptance: under a table whose candidates come back, every canonical record that is no carrier comes back. With no R row the whole of
-- it is read at the gateway; with one the domain settles the record's own first levels, case aside, and the local part names the others.
-- Assumes nothing.
use mathlib.Core.Path.{◌≡◌, refl, sym, ap, ap₂, subst, ◌∙◌}
use mathlib.Core.Bool.{Bool, true, false, ◌&&◌, ◌||◌, not, cond}
use mathlib.Core.List.{List, [], ◌∷◌, ◌++◌, append_assoc}
use mathlib.Core.Option.{Option, none, some, map, some-injective}
use Prim.Native.Nat.{ℕ, suc, ◌+◌, ◌-◌, ◌≤◌, ◌<◌}
use native.Mathlib.Nat.{add-zero}
use native.Mathlib.Omega.{arith}
use borrow.Author.Tests.{le-ltb, leb-false, leb-true}
use lib.Dec.{eqb, leb}
use lib.ListN.{length, drop, get_or, take, length-append, length-drop, length-map, get_or-eq_default}
use lib.Seq.{get_or-drop, take_at}
use Rattle.chars.specs.Lists.{all, non_empty}
use Rattle.chars.specs.Case.{fold_text}
use Rattle.chars.specs.Domain.{is_domain_part}
use Rattle.chars.proofs.Laws.Case.{same_refl}
use Rattle.chars.proofs.Laws.Domain.{domain-part-length}
use Rattle.chars.proofs.Laws.Lists.{all-at, and_both, and_left, and_right, by_test, or_left, true_not_false}
use Rattle.chars.proofs.Laws.Seq.{get_d_view, some-length}
use Rattle.oraddr.specs.Add.{Outcome}
use Rattle.oraddr.specs.Attributes.{Attributes, levels, unit_of}
use Rattle.oraddr.specs.Bounds.{single_count}
use Rattle.oraddr.specs.Canonical.{canonical_record, is_unit}
use Rattle.oraddr.specs.Same.{same_record}
use Rattle.oraddr.specs.View.{empty_record, view}
use Rattle.oraddr.specs.declared.record.Record.{Record}
use Rattle.oraddr.proofs.Laws.Canonical.{canonical-same, canonical-view}
use Rattle.oraddr.proofs.Laws.View.{level_unit}
use Rattle.ortext_read.specs.Apply.{Reading, read_local}
use Rattle.ortext_segments.specs.Keys.{keys}
use Rattle.ortext_write.specs.Write.{local_text, remaining}
use Rattle.ortext_write.proofs.Laws.Back.{ReadsAs}
use Rattle.table.specs.Table.{Row, Table, Token}
use Rattle.table.specs.Formed as table
use Rattle.table.specs.Lines.{are_fields, is_field, is_level}
use Rattle.table_lookup.specs.Lookup as lookup
use Rattle.table_lookup.specs.Lookup.{by_path, extension}
use Rattle.table_lookup.proofs.Laws.Lookup.{extension-front}
use Rattle.table_settle.specs.Settle.{Settling, add_levels, begun, settled, settled_as, settled_from, settling}
use Rattle.table_settle.proofs.Laws.Settled.{levelled-units, levels_made}
use Rattle.mapping.specs.Answers.{is_good}
use Rattle.mapping.specs.Carried.{carrying, is_gateway, read_over, settled_under}
use Rattle.mapping.specs.Results.{RecordResult, mapped}
use Rattle.mapping.specs.ToAddress.{is_carrier}
use Rattle.mapping.specs.ToRecord.{record_in, to_record}
use Rattle.mapping.proofs.Laws.Route.{address-planned}
use Rattle.mapping.proofs.Laws.Sent.{sent_record, sent_plan, sent_reading, sent_text}
use Rattle.soundness.specs.Fits.{fits}
use Rattle.soundness.specs.Folded.{domain_row, fold_tokens, token_table}
use Rattle.soundness.specs.Sound.{Sound, back_by, comes_back, text_of}
use Rattle.soundness.specs.Tokens as tokens
use Rattle.soundness.specs.Tokens.{Checked, Tok, fits_from}
use Rattle.soundness.proofs.Laws.Comes.{comes_back_lem}
use Rattle.soundness.proofs.Laws.Fits.{levels_fit}
use Rattle.soundness.proofs.Laws.Folded.{fields-fold, formed-fold, gateway-fold, look-path-fold, path-fields, plan-from-fold, plan-none-domain, plan-none-from, plan-parts-fold, resolve-fold}
use Rattle.soundness.proofs.Laws.Look.{Answer, Best, begins_cut, found}
use Rattle.soundness.proofs.Laws.Reading.{gateway-back, own_back}
use Rattle.soundness.proofs.Laws.Sound.{Under, own, under-levels}

-- ---- the tokens that a domain settles are fields

-- a domain part within the bound of its level
part_field : (k : ℕ) (s : Tok) → is_domain_part s ≡ true → fits k s ≡ true → is_field k s ≡ true
unfolding fits is_field
part_field k s p h =
    or_left (is_level k s) (eqb k 2 && not (non_empty s)) (sym (ap (λ (b : Bool). not b || is_level k s) (some-length s (domain-part-length s p).0)) ∙ h)

parts-fields : (k : ℕ) (x : List Tok) → all is_domain_part x ≡ true → fits_from fits k x ≡ true → are_fields k x ≡ true
unfolding all fits_from are_fields
parts-fields k [] p h = refl
parts-fields k (s ∷ x) p h =
    and_both
    (part_field k s (and_left (is_domain_part s) (all is_domain_part x) p) (and_left (fits k s) (fits_from fits (suc k) x) h))
    (parts-fields (suc k) x (and_right (is_domain_part s) (all is_domain_part x) p) (and_right (fits k s) (fits_from fits (suc k) x) h))

fields-append : (k : ℕ) (s x : List Tok) → are_fields k s ≡ true → are_fields (k + length s) x ≡ true → are_fields k (s ++ x) ≡ true
unfolding are_fields
fields-append k [] x f g = rw (sym (add-zero k)) g
fields-append k (t ∷ s) x f g =
    let e : k + suc (length s) ≡ suc k + length s = omega arith in
    and_both
    (and_left (is_field k t) (are_fields (suc k) s) f)
    (fields-append (suc k) s x (and_right (is_field k t) (are_fields (suc k) s) f) (subst (λ (j : ℕ). are_fields j x ≡ true) e g))

-- tokens that are some when folded
unfolded : (o : Option (List Token)) (S : List Tok) → map fold_tokens o ≡ some S → (ts : List Token) × (o ≡ some ts) × (fold_tokens ts ≡ S)
unfolded none S e = let z : ◌≡◌ {A = ℕ} 0 1 = cc in absurd (omega arith)
unfolded (some ts) S e = (ts, refl, some-injective (fold_tokens ts) S e)

-- ---- the units reach as far as the tokens do

module _ (a : Attributes) (l : length a.single ≡ single_count) where
  -- behind the units the levels are absent
  past_units_lem : (j : ℕ) → 4 + j < 8 → length a.units ≤ j → get_or (levels a) (4 + j) [] ≡ []
  unfolding unit_of
  past_units_lem j few h =
      let e : 4 + j - 4 ≡ j = omega arith in
      level_unit a (4 + j) l (omega arith) few ∙ ap (unit_of a) e ∙ get_or-eq_default a.units [] h

  units_reach : (S : List Tok) → length S ≤ 8 → all is_unit (drop 4 S) ≡ true → S ≡ take (length S) (fold_tokens (levels a)) → length S - 4 ≤ length a.units
  unfolding fold_text is_unit
  units_reach S few u e =
      let m : ℕ = length S in
      let j : ℕ = length a.units in
      by_test (leb (m - 4) j)
      (λ t. leb-true (m - 4) j t)
      (λ t. let i : j < m - 4 = leb-false (m - 4) j t in
      let there : is_unit (get_or (drop 4 S) j []) ≡ true = all-at is_unit (drop 4 S) j [] u (omega (arith, length-drop 4 S)) in
      let absent : get_or (drop 4 S) j [] ≡ [] =
      get_or-drop 4 S j []
      ∙ ap (λ (s : List Tok). get_or s (4 + j) []) e
      ∙ get_d_view fold_text (levels a) m (4 + j) [] (omega (arith, ap length e))
      ∙ ap fold_text (past_units_lem j (omega arith) (omega arith)) in
      true_not_false (is_unit (get_or (drop 4 S) j [])) there (ap is_unit absent))

-- ---- a record under a table

module _ (t : Table) (f : table.Formed t) (r : Record) (h : canonical_record r ≡ true) where
  -- what was read is canonical
  good : (w : ReadsAs (sent_reading t r) (view r)) → canonical_record w.result ≡ true
  unfolding canonical_record
  good w = and_both w.made.ranged (canonical-same (view w.result) (view r) w.same ∙ canonical-view r h)

  -- so it is the answer
  answered : (w : ReadsAs (sent_reading t r) (view r)) → to_record t (sent_text t r) ≡ mapped w.result
  unfolding is_good record_in
  answered w =
      let carried = carrying t.gateway.path (sent_text t r) in
      sent_record t f r h
      ∙ ap (λ (x : Reading). cond (is_good x) (mapped (record_in x)) carried) w.reads
      ∙ ap (λ (b : Bool). cond b (mapped w.result) carried) (good w)

  text_sent : is_carrier t (view r) ≡ false → text_of t r ≡ some (sent_text t r)
  unfolding text_of
  text_sent free = rw h (address-planned t (view r) free)

  by-reading : is_carrier t (view r) ≡ false → ReadsAs (sent_reading t r) (view r) → comes_back t r ≡ true
  unfolding comes_back back_by mapped same_record
  by-reading free w =
      ap (back_by t r) (text_sent free)
      ∙ ap (λ (o : RecordResult). eqb o.number 0 && same_record o.record' r) (answered w)
      ∙ w.same

  -- by what the domain settles
  read_back : (n : ℕ) (q : Record) → settled_under t (sent_plan t r).domain ≡ settled n q → (sent_plan t r).from ≡ n
      → ReadsAs (read_local keys n q (local_text keys (remaining n (view r)))) (view r) → ReadsAs (sent_reading t r) (view r)
  unfolding read_over
  read_back n q s e w =
      subst (λ (x : Reading). ReadsAs x (view r)) (sym (ap₂ (λ (x : Settling) (i : ℕ). read_over x (local_text keys (remaining i (view r)))) s e)) w

  -- with no row, nothing
  module _ (l : length (view r).single ≡ single_count) (e : lookup.look by_path t.to_domain (levels (view r)) ≡ none) where
    at-gateway : settled_under t (sent_plan t r).domain ≡ settled 0 empty_record
    unfolding settled_under is_gateway
    at-gateway =
        let d = t.gateway.domain in
        ap (settled_under t) (plan-none-domain t (levels (view r)) e)
        ∙ ap (λ (b : Bool). cond b (settled 0 empty_record) (settling t.to_path d)) (same_refl d)

    back_none : ReadsAs (sent_reading t r) (view r)
    back_none = read_back 0 empty_record at-gateway (plan-none-from t (levels (view r)) e) (gateway-back (view r) l (canonical-view r h))

  -- with a row, its path and the levels in front of its domain
  module _ (l : length (view r).single ≡ single_count) (checked : Checked fits (token_table t)) (row : Row)
      (e : lookup.look by_path t.to_domain (levels (view r)) ≡ some row) where
    abbrev key : List Tok
    key = (domain_row row).key

    abbrev ls : List Tok
    ls = fold_tokens (levels (view r))

    abbrev x : List Tok
    x = extension (drop (length key) ls)

    best : Best (token_table t).R ls (domain_row row)
    best =
        subst (λ (o : Option tokens.Row). Answer (token_table t).R ls o)
        (sym (look-path-fold t.to_domain (levels (view r))) ∙ ap (map domain_row) e)
        (found (token_table t).R ls)

    under : Under fits (token_table t) (domain_row row) x
    under = under-levels fits (token_table t) (domain_row row) ls (levels_fit (view r) (canonical-view r h) l) best

    fields : are_fields 0 (key ++ x) ≡ true
    fields =
        let z : 0 + length key ≡ length key = omega arith in
        fields-append 0 key x (path-fields t f (domain_row row) best.mem)
        (ap (λ (j : ℕ). are_fields j x) z ∙ parts-fields (length key) x under.parts under.within)

    -- the tokens are the first levels
    front : key ++ x ≡ take (length (key ++ x)) ls
    front =
        let y : List Tok = drop (length x) (drop (length key) ls) in
        let whole : (key ++ x) ++ y ≡ ls = append_assoc key x y ∙ ap (λ (s : List Tok). key ++ s) (extension-front (drop (length key) ls)) ∙ begins_cut key ls best.fits in
        sym (ap (take (length (key ++ x))) (sym whole) ∙ take_at (key ++ x) y (length (key ++ x)) refl)

    away : is_gateway t (sent_plan t r).domain ≡ false
    away =
        by_test (is_gateway t (sent_plan t r).domain)
        (λ g. absurd ((own fits (token_table t) (formed-fold t f) checked (domain_row row) x under).0 (sym (plan-parts-fold t (levels (view r)) row e) ∙ (gateway-fold t (sent_plan t r).domain).0 g)))
        (λ g. g)

    resolves : map fold_tokens (lookup.resolve t.to_path (sent_plan t r).domain) ≡ some (key ++ x)
    resolves =
        resolve-fold t (sent_plan t r).domain
        ∙ ap (tokens.resolve (token_table t)) (plan-parts-fold t (levels (view r)) row e)
        ∙ (own fits (token_table t) (formed-fold t f) checked (domain_row row) x under).1

    module _ (ts : List Token) (g : lookup.resolve t.to_path (sent_plan t r).domain ≡ some ts) (k : fold_tokens ts ≡ key ++ x) where
      count : length ts ≡ length (key ++ x)
      count = sym (length-map ts fold_text) ∙ ap length k

      few : length ts ≤ 8
      few = omega (arith, count, length-append key x, under.room)

      allowed : are_fields 0 ts ≡ true
      allowed = sym (fields-fold 0 ts) ∙ ap (are_fields 0) k ∙ fields

      abbrev made : Outcome
      made = add_levels 0 ts (begun empty_record)

      settles : settled_under t (sent_plan t r).domain ≡ settled (length ts) made.record'
      unfolding settled_under settling settled_from settled_as
      settles = rw (away, g, le-ltb 8 (length ts) few, (levels_made ts allowed few).0)

      back-row : ReadsAs (sent_reading t r) (view r)
      back-row =
          let s : fold_tokens ts ≡ take (length ts) ls = k ∙ front ∙ ap (λ (n : ℕ). take n ls) (sym count) in
          let reach : length (key ++ x) - 4 ≤ length (view r).units = units_reach (view r) l (key ++ x) (omega (arith, few, count)) (levelled-units (key ++ x) fields) front in
          read_back (length ts) made.record' settles (plan-from-fold t (levels (view r)) row e ∙ sym count)
          (own_back ts (view r) made.record' (levels_made ts allowed few).1 few (omega (arith, reach, count)) s l (canonical-view r h))

    back_some : ReadsAs (sent_reading t r) (view r)
    back_some =
        let w = unfolded (lookup.resolve t.to_path (sent_plan t r).domain) (key ++ x) resolves in
        back-row w.0 w.1 w.2

  back : length (view r).single ≡ single_count → Checked fits (token_table t) → ReadsAs (sent_reading t r) (view r)
  back l checked = case (lookup.look by_path t.to_domain (levels (view r))) refl
    where
      case : (o : Option Row) → lookup.look by_path t.to_domain (levels (view r)) ≡ o → ReadsAs (sent_reading t r) (view r)
      case none e = back_none l e
      case (some row) e = back_some l checked row e

-- ---- the theorem

-- The record's array of attributes is as long as its type says.
pub accepted : (t : Table) → table.Formed t → Checked fits (token_table t) → (r : Record) → length (view r).single ≡ single_count
    → canonical_record r ≡ true → is_carrier t (view r) ≡ false → comes_back t r ≡ true
accepted t f checked r l h free = by-reading t f r h free (back t f r h l checked)

-- so for every buffer with room: the table is sound
pub sound-table : (t : Table) → table.Formed t → Checked fits (token_table t) → Sound t
sound-table t f checked r l h free = comes_back_lem t r (accepted t f checked r l h free)

-- An address carried whole comes back to the byte: under a table that keeps the rules of "The table text" its carrier is canonical, is a
-- carrier, and goes out as the very text; and so under a table text.
-- Assumes nothing.
use mathlib.Core.Path.{◌≡◌, refl, sym, ap, ◌∙◌}
use mathlib.Core.Bool.{true, ◌&&◌, ◌||◌, not}
use mathlib.Core.List.{List, [], ◌∷◌, ◌++◌}
use mathlib.Core.Option.{some}
use Prim.Native.Nat.{ℕ, zero, suc, ◌-◌, ◌≤◌}
use native.Mathlib.Omega.{arith}
use borrow.Author.Tests.{le-ltb, leb-true, ltb-false}
use lib.Dec.{leb, ltb}
use lib.ListN.{length, replicate, length-drop}
use lib.Seq.{drop-append_seam}
use Rattle.chars.specs.Lists.{all, bytes, first, last, member, non_empty}
use Rattle.chars.specs.Class.{between, is_digit, is_letter, is_printable}
use Rattle.chars.specs.Spaces.{adjacent, is_text, well_spaced}
use Rattle.chars.specs.Write.{front}
use Rattle.chars.proofs.Laws.Case.{same_refl}
use Rattle.chars.proofs.Laws.Lists.{and_both, and_left, and_right, and-three, by_test, or_right}
use Rattle.oraddr.specs.Attributes.{Attributes, Dd, single_of}
use Rattle.oraddr.specs.Bounds.{CN, dd_type, S, is_value}
use Rattle.oraddr.specs.Canonical.{canonical, canonical_record, identified, is_dd, names_with_surname}
use Rattle.oraddr.specs.View.{empty_record, view}
use Rattle.oraddr.specs.declared.record.Record.{Record}
use Rattle.oraddr.proofs.Laws.Canonical.{Parts, parts-canonical}
use Rattle.oraddr.proofs.Laws.Made.{Made, dd-added, made_dd}
use Rattle.std.specs.Prelude.{Ok}
use Rattle.mailaddr.specs.Answers.{shaping}
use Rattle.mailaddr.specs.Code.{coded}
use Rattle.mailaddr.specs.Domain.{is_domain}
use Rattle.mailaddr.specs.Shape.{Address}
use Rattle.mailaddr.proofs.Laws.Carried.{carried-back, carried-value}
use Rattle.mailaddr.proofs.Laws.Shaped.{shaped-shape}
use Rattle.table.specs.Table.{Row, Table, Token}
use Rattle.table.specs.Formed.{Formed}
use Rattle.table.specs.Lines.{TableOutcome, are_fields, is_field, is_path, is_row, longest_gateway_domain, well_formed}
use Rattle.table_settle.specs.Settle.{add_levels, begun}
use Rattle.table_lookup.proofs.Laws.Begins.{begins-append}
use Rattle.table_lookup.proofs.Laws.Lookup.{same_equality}
use Rattle.table_settle.proofs.Laws.Settled.{LevelsMade, field_there, levelled, levelled-kept, levelled-levels, levelled-units, levels_made}
use Rattle.mapping.specs.Carried.{carried_whole, carrier_of, carrier_type, carrying, is_none, longest_coded}
use Rattle.mapping.specs.Results.{mapped, placed, refused_record}
use Rattle.mapping.specs.ToAddress.{carried_address, carried_value, has_levels, in_shape, is_carrier, is_nameless, is_one_carrier, to_address, to_address_by}
use Rattle.mapping.specs.ToRecord.{record_by, to_record, to_record_by}
use Rattle.mapping.proofs.Laws.Route.{address-carried, answer-placed}

-- ---- the attributes of a carrier

-- the levels of a path, and one DD
abbrev carrier_show : List Token → Dd → Attributes
carrier_show ts d = record { single = (levelled ts).single; units = (levelled ts).units; dds = d ∷ [] }

-- no name
nameless : (ts : List Token) (d : Dd) → is_nameless (carrier_show ts d) ≡ true
unfolding is_nameless all non_empty
nameless [] d = refl
nameless (a ∷ []) d = refl
nameless (a ∷ b ∷ []) d = refl
nameless (a ∷ b ∷ c ∷ []) d = refl
nameless (a ∷ b ∷ c ∷ e ∷ ts) d = refl

no_names : (ts : List Token) (d : Dd) → names_with_surname (carrier_show ts d) ≡ true
unfolding names_with_surname single_of non_empty
no_names [] d = refl
no_names (a ∷ []) d = refl
no_names (a ∷ b ∷ []) d = refl
no_names (a ∷ b ∷ c ∷ []) d = refl
no_names (a ∷ b ∷ c ∷ e ∷ ts) d = refl

-- the levels are the path and no more
blank_fill : (n : ℕ) → all (λ (l : Token). not (non_empty l)) (replicate n []) ≡ true
unfolding all non_empty
blank_fill zero = refl
blank_fill (suc n) = blank_fill n

fills_levels : (ts : List Token) (n : ℕ) → has_levels ts (ts ++ replicate n []) ≡ true
unfolding has_levels
fills_levels ts n =
    and_both (begins-append same_equality ts (replicate n []))
    (ap (all (λ (l : Token). not (non_empty l))) (drop-append_seam ts (replicate n [])) ∙ blank_fill n)

-- a path and a DD that keep their rules make canonical attributes
carrier_parts : (ts : List Token) (d : Dd) → 2 ≤ length ts → length ts ≤ 8 → are_fields 0 ts ≡ true → is_dd d ≡ true → Parts (carrier_show ts d)
unfolding are_fields single_of all identified non_empty
carrier_parts [] d l m h k = absurd (omega arith)
carrier_parts (a ∷ []) d l m h k = absurd (omega arith)
carrier_parts (a ∷ b ∷ ts) d l m h k =
    let rest = are_fields 2 ts in
    let p = and_right (is_field 0 a) (is_field 1 b && rest) h in
    record {
      country = field_there 0 a refl (and_left (is_field 0 a) (is_field 1 b && rest) h);
      domain = field_there 1 b refl (and_left (is_field 1 b) rest p);
      singles = levelled-kept (a ∷ b ∷ ts) h;
      few-units = omega (arith, length-drop 4 (a ∷ b ∷ ts));
      units = levelled-units (a ∷ b ∷ ts) h;
      few-dds = omega arith;
      dds = and_both k refl;
      names = no_names (a ∷ b ∷ ts) d;
      named = or_right (non_empty (single_of (carrier_show (a ∷ b ∷ ts) d) S) || non_empty (single_of (carrier_show (a ∷ b ∷ ts) d) CN)) true refl;
    }

-- the type of the DD
type_value : is_value dd_type carrier_type ≡ true
unfolding is_value is_text non_empty all is_printable is_letter is_digit between bytes member well_spaced first last adjacent
type_value = refl

-- the path of a row
row-path : (most : ℕ) (r : Row) → is_row most r ≡ true → (2 ≤ length r.path) × (length r.path ≤ 8) × (are_fields 0 r.path ≡ true)
unfolding is_row is_path
row-path most r h =
    let p = and-three (leb 2 (length r.path)) (leb (length r.path) 8) (are_fields 0 r.path) (and_right (leb (length r.domain) most && is_domain r.domain) (is_path r.path) h) in
    (leb-true 2 (length r.path) p.0, leb-true (length r.path) 8 p.1, p.2)

-- ---- the carrier of an address

module _ (t : Table) (f : Formed t) (s : List ℕ) (a : Address) (h : shaping s ≡ Ok a) (l : length (coded s) ≤ longest_coded) where
  abbrev path : List Token
  path = t.gateway.path

  abbrev dd : Dd
  dd = record { kind = carrier_type; value = coded s }

  abbrev bare : Record
  bare = (add_levels 0 path (begun empty_record)).record'

  fields : (2 ≤ length path) × (length path ≤ 8) × (are_fields 0 path ≡ true)
  fields = row-path longest_gateway_domain t.gateway f.gateway

  bare_made : LevelsMade path bare
  bare_made = (levels_made path fields.2 fields.1).1

  dd-good : is_dd dd ≡ true
  unfolding is_dd
  dd-good = and_both type_value (carried-value s a (shaped-shape s a h) l)

  carrier_made : Made (carrier_of path s)
  unfolding carrier_of
  carrier_made = made_dd bare bare_made.made carrier_type (coded s)

  carrier_shows : view (carrier_of path s) ≡ carrier_show path dd
  unfolding carrier_of
  carrier_shows =
      let few : length (view bare).dds ≡ 0 = ap (λ (x : Attributes). length x.dds) bare_made.shows in
      (dd-added bare bare_made.made carrier_type (coded s) dd-good (omega arith)).1
      ∙ ap (λ (x : Attributes). record { single = x.single; units = x.units; dds = x.dds ++ (dd ∷ []) }) bare_made.shows

  -- it has one DD, whose value is the whole coded text
  pub carrier_dds : (view (carrier_of t.gateway.path s)).dds ≡ record { kind = carrier_type; value = coded s } ∷ []
  carrier_dds = ap (λ (x : Attributes). x.dds) carrier_shows

  pub carrier_canonical : canonical_record (carrier_of t.gateway.path s) ≡ true
  unfolding canonical_record
  carrier_canonical =
      and_both carrier_made.ranged
      (ap canonical carrier_shows ∙ parts-canonical (carrier_show path dd) (carrier_parts path dd fields.0 fields.1 fields.2 dd-good))

  pub carrier_is : is_carrier t (view (carrier_of t.gateway.path s)) ≡ true
  unfolding is_carrier is_one_carrier
  carrier_is =
      rw carrier_shows
      (and_both (and_both (ap (has_levels path) (levelled-levels path (dd ∷ []) fields.1) ∙ fills_levels path (8 - length path)) (nameless path dd)) (same_refl carrier_type))

  carrier_address : carried_address (view (carrier_of path s)).dds ≡ some s
  unfolding carried_address carried_value in_shape is_none
  carrier_address = rw (carrier_shows, carried-back s a (shaped-shape s a h), shaped-shape s a h)

  pub carried_comes_back : (old : List ℕ) → length s ≤ length old
      → to_address t (carrier_of t.gateway.path s) old ≡ record { number = 0; line = 0; size = length s; buffer = front s old }
  unfolding placed
  carried_comes_back old m =
      sym (answer-placed t (carrier_of path s) old s carrier_canonical (address-carried t (view (carrier_of path s)) carrier_is ∙ carrier_address))
      ∙ rw (le-ltb (length old) (length s) m)

-- ---- under what a table was read as

module _ (l : TableOutcome) (s old : List ℕ) (t : Table) (a : Address) (g : l ≡ well_formed t) (k : Formed t) (h : shaping s ≡ Ok a) (c : carried_whole t a ≡ true) where
  read-carried : to_record_by l s ≡ carrying t.gateway.path s
  unfolding to_record_by to_record record_by
  read-carried = rw (g, h, c)

  pub carried-back-text : (to_record_by l s).number ≡ 0 → length s ≤ length old
      → to_address_by l (to_record_by l s).record' old ≡ record { number = 0; line = 0; size = length s; buffer = front s old }
  unfolding to_address_by carrying mapped refused_record
  carried-back-text n m =
      by_test (ltb longest_coded (length (coded s)))
      (λ e. absurd (omega (arith, rw (read-carried, e) at n)))
      (λ e. rw (read-carried, e, g) (carried_comes_back t k s a h (ltb-false longest_coded (length (coded s)) e) old m))

  pub carried-dds-text : (to_record_by l s).number ≡ 0
      → (view (to_record_by l s).record').dds ≡ record { kind = carrier_type; value = coded s } ∷ []
  unfolding carrying mapped refused_record
  carried-dds-text n =
      by_test (ltb longest_coded (length (coded s)))
      (λ e. absurd (omega (arith, rw (read-carried, e) at n)))
      (λ e. rw (read-carried, e) (carrier_dds t k s a h (ltb-false longest_coded (length (coded s)) e)))

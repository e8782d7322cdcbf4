-- Laws of the canonical test: each part of it as one list of tests, and the parts in the order in which the code makes them.
-- Assumes nothing.
use mathlib.Core.Path.{◌≡◌, refl, sym, ap, ◌∙◌}
use mathlib.Core.Bool.{Bool, true, false, ◌&&◌, and_assoc, and-false, and-true}
use mathlib.Core.List.{List, [], ◌∷◌, map}
use Prim.Native.Nat.{ℕ, suc, ◌+◌, ◌≤◌}
use native.Mathlib.Numerals.{add-one}
use native.Mathlib.Omega.{arith}
use borrow.Author.Tests.{le-leb}
use lib.Dec.{leb}
use lib.ListN.{length, take, length-take}
use Rattle.std.specs.List.{enumerate_from, list_all}
use Rattle.chars.specs.Lists.{all, non_empty}
use Rattle.chars.proofs.Laws.Lists.{all-and, all_map, and_swap}
use Rattle.chars.proofs.Laws.Seq.{map-take}
use Rattle.oraddr.specs.Attributes.{single_of}
use Rattle.oraddr.specs.Bounds.{most, ADMD, C}
use Rattle.oraddr.specs.Canonical.{all_kept, canonical, canonical_dds, canonical_record, canonical_singles, canonical_units, identified, is_dd, is_unit, kept, names_with_surname}
use Rattle.oraddr.specs.View.{dds_in_range, in_range, singles_in_range, text_in_range, units_in_range, Value, value_view, view}
use Rattle.oraddr.specs.declared.record.Record.{Record}

-- ---- the attributes that a record has once, each with its number

pub kept_pairs : (k : ℕ) (s : List Value)
    → list_all (λ (p : ℕ × Value). text_in_range p.1 && kept p.0 (value_view p.1)) (enumerate_from k s) ≡ (all text_in_range s && all_kept k (map value_view s))
unfolding all all_kept
kept_pairs k [] = refl
kept_pairs k (v ∷ s) =
    rw (kept_pairs (k + 1) s, add-one)
    (and_swap (text_in_range v) (kept k (value_view v)) (all text_in_range s) (all_kept (suc k) (map value_view s)))

-- ---- the units and the DDs, over the element: its test in range and its rule in one pass

listed : {A : Type 0} (p : A → Bool) (s : List A) → list_all p s ≡ all p s
unfolding all
listed p [] = refl
listed p (x ∷ s) = rw (listed p s)

-- what the definitions ask of the first n of a list, where n is in range
pub counted : {A B : Type 0} (p : A → Bool) (q : B → Bool) (f : A → B) (n : ℕ) (s : List A) → n ≤ most
    → list_all (λ x. p x && q (f x)) (take n s) ≡ (leb n most && all p (take n s) && (leb (length (take n (map f s))) most) && all q (take n (map f s)))
counted p q f n s h =
    let few : length (take n (map f s)) ≤ most = simp length-take (omega arith) in
    rw (le-leb n most h, le-leb (length (take n (map f s))) most few, and-true (all p (take n s)))
    (listed (λ x. p x && q (f x)) (take n s)
    ∙ all-and p (λ x. q (f x)) (take n s)
    ∙ ap (λ (t : Bool). all p (take n s) && t) (sym (all_map q f (take n s)) ∙ ap (all q) (map-take f n s)))

-- ---- the record, in the order in which the code tests it

order : (s u d h k lu au ld ad n i : Bool) → (s && u && d && (h && k && lu && au && ld && ad && n && i)) ≡ (h && (s && k) && (u && lu && au) && (d && ld && ad) && n && i)
order true true true h k lu au ld ad n i = rw (and_assoc (h && k) lu au, and_assoc (h && k && (lu && au)) ld ad)
order true true false h k lu au ld ad n i = rw (and-false (h && k && (lu && au)))
order true false d h k lu au ld ad n i = rw (and-false (h && k))
order false u d h k lu au ld ad n i = rw (and-false h)

pub record_order : (r : Record) → canonical_record r ≡ (non_empty (single_of (view r) C) && non_empty (single_of (view r) ADMD) && canonical_singles r.singles && canonical_units r.units && canonical_dds r.dds && names_with_surname (view r) && identified (view r))
unfolding canonical_record canonical in_range canonical_singles canonical_units canonical_dds view
record_order r =
    let a = view r in
    order (singles_in_range r.singles) (units_in_range r.units) (dds_in_range r.dds)
    (non_empty (single_of a C) && non_empty (single_of a ADMD))
    (all_kept 0 a.single)
    (leb (length a.units) most) (all is_unit a.units)
    (leb (length a.dds) most) (all is_dd a.dds)
    (names_with_surname a) (identified a)

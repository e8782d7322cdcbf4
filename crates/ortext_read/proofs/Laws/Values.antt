-- The values that segments have under a key, and what no further segment mends: a text that says so is refused whatever follows.
-- Assumes nothing.
use mathlib.Core.Path.{◌≡◌, refl, ap, ◌∙◌}
use Prim.Native.Nat.{ℕ, ◌<◌, zero-le}
use native.Mathlib.Omega.{arith}
use mathlib.Core.Bool.{Bool, true, false, not, ◌||◌, cond}
use mathlib.Core.List.{List, [], ◌∷◌, ◌++◌, append-nil, reverse}
use mathlib.Core.Option.{Option, none, some}
use borrow.Author.Tests.{eq-eqb, leb-true, ne_eqb}
use lib.Dec.{eqb, leb}
use lib.ListN.{length, length-reverse}
use Rattle.chars.specs.Lists.{all, member, non_empty}
use Rattle.chars.proofs.Laws.Class.{on_range, on_range_but}
use Rattle.chars.proofs.Laws.Lists.{all-member, by_test, or_left, or_right, true_not_false}
use Rattle.oraddr.specs.Attributes.{Attributes}
use Rattle.oraddr.specs.Bounds.{ADMD, C, CN, GQ, O, PRMD, most, single_count}
use Rattle.oraddr.specs.declared.record.Record.{Record}
use Rattle.ortext_segments.specs.Keys.{dd_key, ou_key, pn_key}
use Rattle.ortext_name.specs.Name.{Name}
use Rattle.ortext_segments.specs.Segments.{Segment, unknown}
use Rattle.ortext_read.specs.Apply.{add_all, add_named, dds_of, has_empty, has_repeated, has_unknown, name_of, named, pn_meets, refused, single_keys, value_at, values_at, with_name}
use Rattle.ortext_build.specs.Adding.{add_singles, add_units, start}
use Rattle.ortext_build.proofs.Laws.Adding.{dds-few, not-kept, units-few}
use Rattle.ortext_read.proofs.Laws.Answers.{finish-refused}

-- ---- the values of one more segment

pub values-append : (k : ℕ) (gs hs : List Segment) → values_at k (gs ++ hs) ≡ values_at k gs ++ values_at k hs
unfolding values_at
values-append k [] hs = refl
values-append k (g ∷ gs) hs = by_test (eqb g.key k) (λ e. rw (e, values-append k gs hs)) (λ e. rw (e, values-append k gs hs))

pub dds-append : (gs hs : List Segment) → dds_of (gs ++ hs) ≡ dds_of gs ++ dds_of hs
unfolding dds_of
dds-append [] hs = refl
dds-append (g ∷ gs) hs = by_test (eqb g.key dd_key) (λ e. rw (e, dds-append gs hs)) (λ e. rw (e, dds-append gs hs))

module _ (gs : List Segment) (g : Segment) where
  pub values-here : (k : ℕ) → g.key ≡ k → values_at k (gs ++ g ∷ []) ≡ values_at k gs ++ g.value ∷ []
  unfolding values_at
  values-here k e = values-append k gs (g ∷ []) ∙ ap (λ b. values_at k gs ++ cond b (g.value ∷ []) []) (eq-eqb g.key k e)

  pub values_other : (k : ℕ) → (g.key ≡ k → ⊥) → values_at k (gs ++ g ∷ []) ≡ values_at k gs
  unfolding values_at
  values_other k e = values-append k gs (g ∷ []) ∙ ap (λ b. values_at k gs ++ cond b (g.value ∷ []) []) (ne_eqb g.key k e) ∙ append-nil (values_at k gs)

  pub dds-here : g.key ≡ dd_key → dds_of (gs ++ g ∷ []) ≡ dds_of gs ++ record { kind = g.kind; value = g.value } ∷ []
  unfolding dds_of
  dds-here e = dds-append gs (g ∷ []) ∙ ap (λ b. dds_of gs ++ cond b (record { kind = g.kind; value = g.value } ∷ []) []) (eq-eqb g.key dd_key e)

  pub dds_other : (g.key ≡ dd_key → ⊥) → dds_of (gs ++ g ∷ []) ≡ dds_of gs
  unfolding dds_of
  dds_other e = dds-append gs (g ∷ []) ∙ ap (λ b. dds_of gs ++ cond b (record { kind = g.kind; value = g.value } ∷ []) []) (ne_eqb g.key dd_key e) ∙ append-nil (dds_of gs)

-- ---- what no further segment mends

-- whatever follows, it is refused
abbrev pub Spoiled : List Segment → Type 0
Spoiled gs = (hs : List Segment) (r : Record) → add_named r (named (gs ++ hs)) ≡ refused

pub none-refused : (r : Record) (o : Option Attributes) → o ≡ none → add_named r o ≡ refused
unfolding add_named
none-refused r o e = rw e

pub named_none : (gs : List Segment) → (has_unknown gs || has_repeated gs || pn_meets gs || has_empty gs) ≡ true → named gs ≡ none
unfolding named
named_none gs e = ap (λ b. cond b none (with_name gs (name_of gs))) e

-- the keys that stand once
key-member : (k : ℕ) → k < unknown → (k ≡ ou_key → ⊥) → (k ≡ dd_key → ⊥) → member k (pn_key ∷ single_keys) ≡ true
unfolding member
key-member k h a b =
    on_range_but (λ k. eqb k ou_key || eqb k dd_key) (λ k. member k (pn_key ∷ single_keys)) (λ _. true) 0 unknown tt k zero-le (omega arith)
    (rw (ne_eqb k ou_key a, ne_eqb k dd_key b))

single-member : (k : ℕ) → k < single_count → member k single_keys ≡ true
unfolding member
single-member k h = on_range (λ k. member k single_keys) (λ _. true) 0 single_count tt k zero-le (omega arith)

pub unknown-none : (gs : List Segment) → non_empty (values_at unknown gs) ≡ true → named gs ≡ none
unfolding has_unknown
unknown-none gs h = named_none gs (or_left (has_unknown gs || has_repeated gs || pn_meets gs) (has_empty gs) (or_left (has_unknown gs || has_repeated gs) (pn_meets gs) (or_left (has_unknown gs) (has_repeated gs) h)))

pub repeated_none : (gs : List Segment) (k : ℕ) → k < unknown → (k ≡ ou_key → ⊥) → (k ≡ dd_key → ⊥) → 1 < length (values_at k gs) → named gs ≡ none
unfolding has_repeated
repeated_none gs k l a b h =
    let p : ℕ → Bool = λ j. leb (length (values_at j gs)) 1 in
    let r : has_repeated gs ≡ true = ap not (not-kept (all p (pn_key ∷ single_keys)) (λ e. omega (arith, leb-true (length (values_at k gs)) 1 (all-member p (pn_key ∷ single_keys) k e (key-member k l a b))))) in
    named_none gs (or_left (has_unknown gs || has_repeated gs || pn_meets gs) (has_empty gs) (or_left (has_unknown gs || has_repeated gs) (pn_meets gs) (or_right (has_unknown gs) (has_repeated gs) r)))

pub empty-none : (gs : List Segment) (k : ℕ) → k < single_count → all non_empty (values_at k gs) ≡ false → named gs ≡ none
unfolding has_empty
empty-none gs k l h =
    let p : ℕ → Bool = λ j. all non_empty (values_at j gs) in
    let r : has_empty gs ≡ true = ap not (not-kept (all p single_keys) (λ e. true_not_false (p k) (all-member p single_keys k e (single-member k l)) h)) in
    named_none gs (or_right (has_unknown gs || has_repeated gs || pn_meets gs) (has_empty gs) r)

pub nameless_none : (gs : List Segment) → name_of gs ≡ none → named gs ≡ none
unfolding named with_name
nameless_none gs e = by_test (has_unknown gs || has_repeated gs || pn_meets gs || has_empty gs) (λ f. named_none gs f) (λ f. ap (λ b. cond b none (with_name gs (name_of gs))) f ∙ ap (with_name gs) e)

-- the attributes that the segments name with a name
abbrev pub attributes : List Segment → Name → Attributes
attributes gs n =
    record {
      single =
          value_at C gs ∷ value_at ADMD gs ∷ value_at PRMD gs ∷ value_at O gs ∷ value_at CN gs
          ∷ n.surname ∷ n.given ∷ n.initials ∷ value_at GQ gs ∷ [];
      units = reverse (values_at ou_key gs);
      dds = dds_of gs;
    }

-- what is refused under each name is refused
refused_all : (gs : List Segment) (r : Record) → ((n : Name) → (add_all (attributes gs n) r).number ≡ 0 → ⊥) → add_named r (named gs) ≡ refused
unfolding named with_name add_named
refused_all gs r f =
    by_test (has_unknown gs || has_repeated gs || pn_meets gs || has_empty gs)
    (λ e. none-refused r (named gs) (named_none gs e))
    (λ e. ap (λ b. add_named r (cond b none (with_name gs (name_of gs)))) e ∙ by_name_lem (name_of gs))
  where
    by_name_lem : (o : Option Name) → add_named r (with_name gs o) ≡ refused
    by_name_lem none = refl
    by_name_lem (some n) = finish-refused (add_all (attributes gs n) r) (ne_eqb _ 0 (f n))

pub many-units : (gs : List Segment) (r : Record) → most < length (values_at ou_key gs) → add_named r (named gs) ≡ refused
unfolding add_all
many-units gs r h =
    refused_all gs r (λ n e. let u = (dds-few (dds_of gs) (add_units (reverse (values_at ou_key gs)) (add_singles 0 (attributes gs n).single (start r))) e).0 in
    let k = length-reverse (values_at ou_key gs) in
    omega (arith, (units-few (reverse (values_at ou_key gs)) (add_singles 0 (attributes gs n).single (start r)) u).1 (omega arith)))

pub many-dds : (gs : List Segment) (r : Record) → most < length (dds_of gs) → add_named r (named gs) ≡ refused
unfolding add_all
many-dds gs r h =
    refused_all gs r (λ n e. omega (arith, (dds-few (dds_of gs) (add_units (reverse (values_at ou_key gs)) (add_singles 0 (attributes gs n).single (start r))) e).1 (omega arith)))

pub some_first : (x : List ℕ) (l : List (List ℕ)) → non_empty (x ∷ l) ≡ true
unfolding non_empty
some_first x l = refl

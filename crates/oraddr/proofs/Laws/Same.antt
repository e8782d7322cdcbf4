-- Laws of "the same": what agrees in two that are the same, and that what is the same as the same is the same.
-- Assumes nothing.
use mathlib.Core.Path.{◌≡◌, ◌∙◌}
use mathlib.Core.Bool.{true}
use mathlib.Core.List.{[]}
use Prim.Native.Nat.{ℕ}
use Rattle.chars.specs.Case.{agree, equal_text, same_text}
use Rattle.chars.proofs.Laws.Lists.{and_both, and_left, and_right, and-three}
use Rattle.chars.proofs.Laws.Case.{agree_at, agree_trans, equal_of, equal-path, equal_refl, same_refl, same_trans}
use Rattle.oraddr.specs.Attributes.{Attributes, Dd, single_of}
use Rattle.oraddr.specs.Same.{same_attributes, same_dd}

-- ---- a DD

pub dd_refl : (d : Dd) → same_dd d d ≡ true
unfolding same_dd
dd_refl d = and_both (same_refl d.kind) (equal_refl d.value)

dd_trans : (d e f : Dd) → same_dd d e ≡ true → same_dd e f ≡ true → same_dd d f ≡ true
unfolding same_dd
dd_trans d e f h k =
    and_both
    (same_trans d.kind e.kind f.kind
    (and_left (same_text d.kind e.kind) (equal_text d.value e.value) h)
    (and_left (same_text e.kind f.kind) (equal_text e.value f.value) k))
    (equal_of d.value f.value
    (equal-path d.value e.value (and_right (same_text d.kind e.kind) (equal_text d.value e.value) h)
    ∙ equal-path e.value f.value (and_right (same_text e.kind f.kind) (equal_text e.value f.value) k)))

-- ---- attributes

-- what agrees in two that are the same
module _ (a b : Attributes) (h : same_attributes a b ≡ true) where
  parts : (agree same_text a.single b.single ≡ true) × (agree same_text a.units b.units ≡ true) × (agree same_dd a.dds b.dds ≡ true)
  unfolding same_attributes
  parts = and-three (agree same_text a.single b.single) (agree same_text a.units b.units) (agree same_dd a.dds b.dds) h

  pub same_singles : agree same_text a.single b.single ≡ true
  same_singles = parts.0

  pub same_units : agree same_text a.units b.units ≡ true
  same_units = parts.1

  pub same-dds : agree same_dd a.dds b.dds ≡ true
  same-dds = parts.2

  -- each attribute, by its place
  pub same-single : (k : ℕ) → same_text (single_of a k) (single_of b k) ≡ true
  unfolding single_of
  same-single k = agree_at same_text [] (same_refl []) a.single b.single k same_singles

pub attributes_trans : (a b c : Attributes) → same_attributes a b ≡ true → same_attributes b c ≡ true → same_attributes a c ≡ true
unfolding same_attributes
attributes_trans a b c h k =
    and_both
    (and_both
    (agree_trans same_text same_trans a.single b.single c.single (same_singles a b h) (same_singles b c k))
    (agree_trans same_text same_trans a.units b.units c.units (same_units a b h) (same_units b c k)))
    (agree_trans same_dd dd_trans a.dds b.dds c.dds (same-dds a b h) (same-dds b c k))

-- The levels of a canonical record can be looked up as a path: no value has a tab.
-- Assumes nothing.
use mathlib.Core.Path.{◌≡◌, refl, ap, ◌∙◌}
use mathlib.Core.Bool.{true, false, not}
use mathlib.Core.List.{List, [], ◌++◌}
use Prim.Native.Nat.{ℕ, zero, suc}
use borrow.Author.Tests.{eqb-true}
use lib.Dec.{eqb}
use lib.ListN.{take, replicate}
use Rattle.chars.specs.Class.{between, is_digit, is_letter, is_printable}
use Rattle.chars.specs.Lists.{all, bytes, member}
use Rattle.chars.proofs.Laws.Lists.{all_append, all_take, all_weaken, and_both, by_test, true_not_false}
use Rattle.oraddr.specs.Attributes.{Attributes, levels}
use Rattle.oraddr.specs.Bounds.{most, own_levels}
use Rattle.oraddr.specs.Canonical.{canonical_record}
use Rattle.oraddr.specs.View.{view}
use Rattle.oraddr.specs.declared.record.Record.{Record}
use Rattle.oraddr.proofs.Laws.Canonical.{canonical-view}
use Rattle.ortext_write.proofs.Laws.Written.{Printable, canonical_printable}
use Rattle.table_lookup.specs.Looked.{Laid}
use Rattle.mapping.specs.Flat.{Flat}

tab_not : is_printable 9 ≡ false
unfolding is_printable is_letter is_digit between member bytes
tab_not = refl

no_tab : (x : ℕ) → is_printable x ≡ true → not (eqb x 9) ≡ true
no_tab x h = by_test (eqb x 9) (λ e. true_not_false (is_printable x) h (ap is_printable (eqb-true x 9 e) ∙ tab_not)) (λ e. ap not e)

empties : (n : ℕ) → all (all is_printable) (replicate n []) ≡ true
unfolding all
empties zero = refl
empties (suc n) = empties n

levels_printable : (a : Attributes) → Printable a → all (all is_printable) (levels a) ≡ true
unfolding levels
levels_printable a p =
    all_append (all is_printable) (take own_levels a.single) (take most (a.units ++ replicate most []))
    ∙ and_both
    (all_take (all is_printable) own_levels a.single p.singles)
    (all_take (all is_printable) most (a.units ++ replicate most []) (all_append (all is_printable) a.units (replicate most []) ∙ and_both p.units (empties most)))

pub flat-laid : (r : Record) (flat ends : List ℕ) → canonical_record r ≡ true → Flat (levels (view r)) flat ends → Laid flat ends
flat-laid r flat ends c f =
    record {
      ended = f.ended;
      most = f.most;
      clear = ap (all (λ t. all (λ x. not (eqb x 9)) t)) f.holds
          ∙ all_weaken (all is_printable) (λ t. all (λ x. not (eqb x 9)) t) (all_weaken is_printable (λ x. not (eqb x 9)) no_tab) (levels (view r))
          (levels_printable (view r) (canonical_printable (view r) (canonical-view r c)));
    }

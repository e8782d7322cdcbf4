-- The text that a canonical record goes out as is short, a carrier's too.
-- Assumes nothing.
use mathlib.Core.Path.{◌≡◌, sym, subst, ◌∙◌}
use mathlib.Core.Bool.{true}
use mathlib.Core.List.{List, [], ◌∷◌}
use mathlib.Core.Option.{Option, none, some, some-injective}
use Prim.Native.Nat.{ℕ, ◌≤◌, zero-le}
use native.Mathlib.Omega.{arith}
use lib.ListN.{length}
use Rattle.chars.specs.Lists.{all}
use Rattle.chars.proofs.Laws.Lists.{and_left, and_right, by_test}
use Rattle.oraddr.specs.Attributes.{Dd}
use Rattle.oraddr.specs.Bounds.{dd_type, dd_value, is_value, single_count}
use Rattle.oraddr.specs.Canonical.{canonical_record, is_dd}
use Rattle.oraddr.specs.View.{view}
use Rattle.oraddr.specs.declared.record.Record.{Record}
use Rattle.oraddr.proofs.Laws.Canonical.{canonical-parts, canonical-view}
use Rattle.oraddr.proofs.Laws.View.{value-length}
use Rattle.mailaddr.specs.Code.{decoded}
use Rattle.mailaddr.specs.Shape.{longest_address, shape_of}
use Rattle.mailaddr.proofs.Laws.Code.{decoded-length}
use Rattle.table.specs.Formed.{Formed}
use Rattle.table.specs.Table.{Table}
use Rattle.mapping.specs.Answers.{address_room}
use Rattle.mapping.specs.Carried.{is_none, longest_coded}
use Rattle.mapping.specs.ToAddress.{address_of, carried_address, carried_value, in_shape, is_carrier}
use Rattle.mapping.proofs.Laws.Route.{address-carried, address-planned}
use Rattle.mapping.proofs.Laws.Sent.{sent_most, sent_short}

-- a text in the accepted shape is the one that was decoded, which is no longer than the value of a DD
shape_of_lem : (o : Option (List ℕ)) (s : List ℕ) → in_shape o ≡ some s → o ≡ some s
unfolding in_shape
shape_of_lem none s h = h
shape_of_lem (some u) s h =
    by_test (is_none (shape_of u))
    (λ e. let n : ◌≡◌ {A = Option (List ℕ)} none (some s) = rw e at h in let z : ◌≡◌ {A = ℕ} 0 1 = cc in absurd (omega arith))
    (λ e. rw e at h)

value-short : (ds : List Dd) → all is_dd ds ≡ true → length (carried_value ds) ≤ longest_coded
unfolding carried_value all is_dd
value-short [] h = zero-le
value-short (d ∷ ds) h =
    value-length dd_value d.value (and_right (is_value dd_type d.kind) (is_value dd_value d.value) (and_left (is_dd d) (all is_dd ds) h))

carried-short : (ds : List Dd) (s : List ℕ) → all is_dd ds ≡ true → carried_address ds ≡ some s → length s ≤ longest_coded
unfolding carried_address
carried-short ds s h e = omega (arith, decoded-length (carried_value ds) s (shape_of_lem (decoded (carried_value ds)) s e), value-short ds h)

pub address-short : (t : Table) → Formed t → (r : Record) (s : List ℕ) → canonical_record r ≡ true → address_of t (view r) ≡ some s → length s ≤ longest_address
address-short t f r s c a =
    by_test (is_carrier t (view r))
    (λ k. omega (arith, carried-short (view r).dds s (canonical-parts (view r) (canonical-view r c)).dds (sym (address-carried t (view r) k) ∙ a)))
    (λ k. subst (λ (u : List ℕ). length u ≤ longest_address) (some-injective _ s (sym (address-planned t (view r) k) ∙ a)) (sent_short t f r c))

-- there is room for it, where the record is one
pub address-most : (t : Table) → Formed t → (r : Record) (s : List ℕ) → length (view r).single ≡ single_count → canonical_record r ≡ true → address_of t (view r) ≡ some s
    → length s ≤ address_room
address-most t f r s l c a =
    by_test (is_carrier t (view r))
    (λ k. omega (arith, carried-short (view r).dds s (canonical-parts (view r) (canonical-view r c)).dds (sym (address-carried t (view r) k) ∙ a)))
    (λ k. subst (λ (u : List ℕ). length u ≤ address_room) (some-injective _ s (sym (address-planned t (view r) k) ∙ a)) (sent_most t f r c l))

-- Laws of an address that has the accepted shape: where its `@` stands, and how long its local part is once unquoted.
-- Assumes nothing.
use mathlib.Core.Path.{◌≡◌, ap, ◌∙◌}
use mathlib.Core.List.{List, [], ◌∷◌, ◌++◌}
use mathlib.Core.Option.{Option, none, some}
use Rattle.std.proofs.Common.{Result, Ok, Err}
use Prim.Native.Nat.{ℕ, ◌+◌, ◌-◌, ◌≤◌, ◌<◌}
use native.Mathlib.Omega.{arith}
use borrow.Author.Tests.{ltb-false}
use lib.Dec.{eqb, ltb}
use lib.ListN.{length, length-append, length-drop, length-take, take, drop}
use Rattle.chars.proofs.Laws.Lists.{by_test}
use Rattle.mailaddr.specs.Answers.{address_at, from_shape, local_at, shaping}
use Rattle.mailaddr.specs.declared.shape.AddressFault.{AddressFault}
use Rattle.mailaddr.specs.declared.shape.AddressFault.TheVariants.{TooLong}
use Rattle.mailaddr.specs.Shape.{Address, inner, longest_address, shape_of, unescaped, unquoted_local}
use Rattle.mailaddr.specs.declared.shape.Parted.{Parted}
use Rattle.mailaddr.proofs.Laws.Shape.{shape-text}

from-shape : (o : Option Address) (a : Address) → from_shape o ≡ Ok a → o ≡ some a
unfolding from_shape
from-shape none a h = absurd cc
from-shape (some b) a h = let e : b ≡ a = cc in ap some e

-- an address that has the accepted shape is short enough, and is the two parts with the `@` between them
module _ (s : List ℕ) (a : Address) (h : shaping s ≡ Ok a) where
  pub shaped-short : length s ≤ longest_address
  unfolding shaping
  shaped-short =
      by_test (ltb longest_address (length s))
      (λ e. let q : ◌≡◌ {A = Result Address AddressFault} (Err TooLong) (Ok a) = rw e at h in absurd cc)
      (λ e. omega (arith, ltb-false longest_address (length s) e))

  pub shaped-shape : shape_of s ≡ some a
  unfolding shaping
  shaped-shape =
      by_test (ltb longest_address (length s))
      (λ e. let q : ◌≡◌ {A = Result Address AddressFault} (Err TooLong) (Ok a) = rw e at h in absurd cc)
      (λ e. from-shape (shape_of s) a (rw e at h))

-- its `@` stands in it
pub shaped-within : (s : List ℕ) (p : Parted) → shaping s ≡ Ok (address_at s p) → p.at < length s
unfolding address_at
shaped-within s p h =
    let t : s ≡ take p.at s ++ 64 ∷ drop (p.at + 1) s = shape-text s (address_at s p) (shaped-shape s (address_at s p) h) in
    let l : length s ≡ length (take p.at s) + length (64 ∷ drop (p.at + 1) s) = ap length t ∙ length-append (take p.at s) (64 ∷ drop (p.at + 1) s) in
    omega (arith, l, length-take p.at s, length-drop (p.at + 1) s)

-- unquoting makes nothing longer
unescaped-length : (s : List ℕ) → length (unescaped s) ≤ length s
unfolding unescaped
unescaped-length [] = omega arith
unescaped-length (x ∷ []) = omega arith
unescaped-length (x ∷ y ∷ s) =
    by_test (eqb x 92)
    (λ e. rw e (omega (arith, unescaped-length s)))
    (λ e. rw e (omega (arith, unescaped-length (y ∷ s))))

pub local-length : (s : List ℕ) (p : Parted) → length (local_at s p) ≤ length s
unfolding local_at unquoted_local address_at inner
local-length s p =
    by_test p.quoted
    (λ e. rw e
    (omega (
      arith,
      unescaped-length (take (length (take p.at s) - 2) (drop 1 (take p.at s))),
      length-take (length (take p.at s) - 2) (drop 1 (take p.at s)),
      length-take p.at s,
    )))
    (λ e. rw e (omega (arith, length-take p.at s)))

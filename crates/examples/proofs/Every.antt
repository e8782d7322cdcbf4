-- The table's statement from one computation over the whole table: what is given and what is wanted are the same lists.
-- Assumes nothing.
use mathlib.Core.Path.{◌≡◌, refl, ap, sym, ◌∙◌}
use mathlib.Core.List.Memᴰ
use mathlib.Core.List.{List, [], ◌∷◌, map, Memᴰ}
use mathlib.Core.Logic.{⊎_elim}
use Rattle.chars.specs.Lists.{bytes}
use Rattle.chars.specs.Spaces.{adjacent}
use Rattle.examples.specs.Cases.{cases, given, wanted, EveryCase}

-- two functions that give the same over a list give the same at each member
each : {A B : Type 0} (f g : A → B) (l : List A) → map f l ≡ map g l → (x : A) → Memᴰ x l → f x ≡ g x
each f g [] e x m = absurd (Memᴰ.not-nil m)
each f g (y ∷ l) e x m =
    ⊎_elim
    (λ p. let h : f y ≡ g y = cc in ap f p ∙ h ∙ ap g (sym p))
    (λ n. let t : map f l ≡ map g l = cc in each f g l t x n)
    (Memᴰ.cases_cons m)

pub table : map given cases ≡ map wanted cases
unfolding given wanted cases bytes adjacent
table = refl

pub every : EveryCase
unfolding EveryCase
every c m = each given wanted cases table c m

-- What the readers' answers by places stand for.
-- Assumes nothing.
use Rattle.std.specs.Prelude.{◌≡◌, ℕ, zero, suc, ◌+◌, ◌*◌, ◌≤◌, cond, List, [], ◌∷◌, length, take, drop, Option, None, Some}
use Rattle.std.proofs.Math.Option.{none, some}
use Rattle.chars.specs.Parts.{run}
use Rattle.ortext_name.specs.Name.{Name, has_given, read_name}
use Rattle.ortext_name.specs.declared.name.Name.{Name as Pieces}
use Rattle.ortext_name.specs.declared.name.NamePlaces.{NamePlaces}

-- the name that the code holds by its pieces
abbrev pub name_view : Pieces → Name
name_view n = record { given = n.given.now; initials = n.initials.now; surname = n.surname.now }

-- every other byte, n of them: letters that stand each with a dot
unfoldable pub letters_at : ℕ → List ℕ → List ℕ
letters_at zero s = []
letters_at (suc n) [] = []
letters_at (suc n) (x ∷ []) = x ∷ []
letters_at (suc n) (x ∷ y ∷ s) = x ∷ letters_at n s

-- where what follows the given name and its dot starts
unfoldable pub given_end : List ℕ → ℕ
unfolding has_given run
given_end s = cond (has_given s) (run 46 s + 1) 0

-- the name whose pieces stand at the places
unfoldable pub name_at : List ℕ → NamePlaces → Name
unfolding letters_at
name_at s p =
    record {
      given = take p.given s;
      initials = letters_at p.initials (drop p.from s);
      surname = drop p.surname s;
    }

-- a name that is read, its pieces within the text
pub record Placed (s : List ℕ) (p : NamePlaces) : Type 0 where
  pub reads : read_name s ≡ some (name_at s p)
  pub given : p.given ≤ length s
  pub initials : p.from + 2 * p.initials ≤ length s
  pub surname : p.surname ≤ length s

-- a name, or that the text is none
unfoldable pub NameReading : List ℕ → Option NamePlaces → Type 0
NameReading s (Some p) = Placed s p
NameReading s None = read_name s ≡ none

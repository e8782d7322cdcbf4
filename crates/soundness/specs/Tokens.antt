-- The table check at the level of tokens: a table as rows of tokens, what its look-ups answer, what comes back of a record's levels,
-- and what the check asks of a table. Tokens are compared byte for byte; letter case is folded before they come here.
-- Assumes nothing.
use Rattle.std.specs.Prelude.{ℕ, zero, suc, ◌+◌, ◌-◌, ◌≤◌, ◌<◌, ◌≡◌, ◌⊎◌, Bool, true, false, ◌&&◌, cond, length, drop, get_or, replicate}
use mathlib.Core.List.{List, [], ◌∷◌, ◌++◌, Memᴰ}
use Rattle.std.proofs.Math.Option.{Option, none, some}
use Rattle.chars.specs.Lists.{all, non_empty}
use Rattle.chars.specs.Case.{equal_text}
use Rattle.chars.specs.Domain.{is_domain_part}
use Rattle.table_lookup.specs.Begins.{begins_by, look_by, resolve_by}
use Rattle.table_lookup.specs.Lookup.{extension}
use Rattle.oraddr.specs.Bounds.{level_count}

-- ---- tables

-- A token is the value of a level or a part of a domain; the empty one is a level that is omitted or absent.
abbrev pub Tok : Type 0
Tok = List ℕ

-- A row's key is what it is found by: of a D row the domain's parts from the right, of an R row the path. Its value is the other.
pub record Row : Type 0 where
  pub key : List Tok
  pub val : List Tok

-- g is the gateway's domain, its parts from the right; D the rows from domains to paths, R those from paths to domains.
pub record Table : Type 0 where
  pub g : List Tok
  pub D : List Row
  pub R : List Row

-- ---- looking up

abbrev pub key_of : Row → List Tok
key_of r = r.key

abbrev pub val_of : Row → List Tok
val_of r = r.val

-- the first list begins the second, token by token
abbrev pub begins : List Tok → List Tok → Bool
begins p q = begins_by equal_text p q

-- document 01: "the D row with the longest domain that is a tail of it by whole parts", and "the R row with the longest path that begins
-- the record's levels, an omitted PRMD matching an absent one"
abbrev pub look : List Row → List Tok → Option Row
look rows q = look_by equal_text key_of rows q

-- the levels that a domain other than the gateway's settles
abbrev pub resolve : Table → List Tok → Option (List Tok)
resolve T q = resolve_by equal_text key_of val_of T.D q

-- ---- levels

-- as the eight levels of a record: those that are not given are absent
unfoldable pub pad : List Tok → List Tok
pad y = y ++ replicate (level_count - length y) []

-- the levels that are there
unfoldable pub present : List Tok → List Tok
unfolding non_empty
present [] = []
present (l ∷ L) = cond (non_empty l) (l ∷ present L) (present L)

-- ---- what comes back

-- The tokens S are settled, the levels L from the n-th on are named where they are there, and i of the levels left are single ones, before
-- the units: then L comes back. A single level that is settled is not named again, and one that is not settled is named or absent; the
-- units are those settled and then those named.
abbrev pub Agree : ℕ → List Tok → ℕ → List Tok → Type 0
Agree zero S n L = (S ++ present (drop n L)) ≡ present L
Agree (suc i) S n [] = S ≡ []
Agree (suc i) [] zero (l ∷ L) = Agree i [] zero L
Agree (suc i) [] (suc n) (l ∷ L) = (l ≡ []) × Agree i [] n L
Agree (suc i) (s ∷ S) zero (l ∷ L) = (l ≡ []) × (s ≡ []) × Agree i S zero L
Agree (suc i) (s ∷ S) (suc n) (l ∷ L) = (s ≡ l) × Agree i S n L

-- L goes out under the row r with the levels x in front of its domain and comes back: the domain is not the gateway's, "that domain settles
-- no level, so C is lost" (document 01, "Errors that look right"), and what it settles agrees with L.
pub record Comes (T : Table) (r : Row) (x L : List Tok) : Type 0 where
  pub away : r.val ++ x ≡ T.g → ⊥
  pub by : List Tok
  pub settles : resolve T (r.val ++ x) ≡ some by
  pub agrees : Agree 4 by (length (r.key ++ x)) L

-- with no row "all of it goes" in the local part "at the gateway's domain", which settles nothing
abbrev pub BackBy : Table → List Tok → Option Row → Type 0
BackBy T L none = Unit {0}
BackBy T L (some r) = Comes T r (extension (drop (length r.key) L)) L

-- the levels L come back under the table
abbrev pub Back : Table → List Tok → Type 0
Back T L = BackBy T L (look T.R L)

-- ---- tables that keep the rules

-- document 01: "A path gives levels from C, two to eight fields. Only PRMD may be an empty field, meaning omitted"
pub record IsPath (p : List Tok) : Type 0 where
  pub two : 2 ≤ length p
  pub eight : length p ≤ level_count
  pub full : all non_empty (drop 3 p) ≡ true

-- document 01, "The table text": "Two D rows with one domain, or two R rows with one path .. make the later line bad"; paths; domain parts.
-- Nothing is asked of the gateway's domain, nor of the D rows' domains.
pub record WellKept (T : Table) : Type 0 where
  pub one_d : (r s : Row) → Memᴰ r T.D → Memᴰ s T.D → r.key ≡ s.key → r ≡ s
  pub one_r : (r s : Row) → Memᴰ r T.R → Memᴰ s T.R → r.key ≡ s.key → r ≡ s
  pub path_d : (r : Row) → Memᴰ r T.D → IsPath r.val
  pub path_r : (r : Row) → Memᴰ r T.R → IsPath r.key
  pub parts : (r : Row) → Memᴰ r T.R → all is_domain_part r.val ≡ true

-- ---- the check

-- f can stand behind the row r: it is there, no R row goes on with it behind r's path (none so long has it at that place), and no D row
-- goes on with it behind r's domain.
pub record Fresh (T : Table) (r : Row) (f : Tok) : Type 0 where
  pub there : f ≡ [] → ⊥
  pub new_r : (s : Row) → Memᴰ s T.R → length r.key < length s.key → get_or s.key (length r.key) [] ≡ f → ⊥
  pub new_d : (s : Row) → Memᴰ s T.D → length r.val < length s.key → get_or s.key (length r.val) [] ≡ f → ⊥

-- a candidate with a fresh token behind the row's path that is a domain part, or is none, as `is_part` says, and it comes back
pub record Tried (T : Table) (r : Row) (is_part : Bool) : Type 0 where
  pub f : Tok
  pub fresh : Fresh T r f
  pub part : is_domain_part f ≡ is_part
  pub back : Back T (pad (r.key ++ f ∷ []))

-- the domain is the gateway's or a D row's
abbrev pub Target : Table → List Tok → Type 0
Target T q = (q ≡ T.g) ⊎ ((b : Row) × Memᴰ b T.D × (q ≡ b.key))

-- a token is within the bound of the level at a place
module _ (fits : ℕ → Tok → Bool) where
  -- each token is within the bound of its level, the first standing at the level k
  unfoldable pub fits_from : ℕ → List Tok → Bool
  fits_from k [] = true
  fits_from k (l ∷ L) = fits k l && fits_from (suc k) L

  -- "The levels are C, ADMD, PRMD, O, OU1 to OU4": eight, each within its bound
  pub record Levels (L : List Tok) : Type 0 where
    pub eight : length L ≡ level_count
    pub within : fits_from 0 L ≡ true

  -- What the check asks: that finitely many levels come back, the candidates.
  --   plain: the levels of each path of three or more.
  --   two: of a path of two, with a fresh PRMD that is no domain part. It stays in the local part, so a D row that settles PRMD as omitted,
  --     or names it, does not come back; and no longer R row takes the candidate away, which the bare path would suffer.
  --   bare: of a path (C, ADMD, omitted) also with a fresh O that joins the domain: a D row that gives only (C, ADMD) agrees with the plain
  --     candidate, and then O comes back as PRMD.
  --   second: where the gateway's domain or a D row's lies under a row's domain, the levels that go out there: "Inverse rows are enough"
  --     and "a record whose extended domain is the gateway's own" of document 01's "Errors that look right".
  pub record Checked (T : Table) : Type 0 where
    pub plain : (r : Row) → Memᴰ r T.R → 3 ≤ length r.key → Back T (pad r.key)
    pub two : (r : Row) → Memᴰ r T.R → length r.key ≡ 2 → Tried T r false
    pub bare : (r : Row) → Memᴰ r T.R → length r.key ≡ 3 → get_or r.key 2 [] ≡ [] → Tried T r true
    pub second : (r : Row) → Memᴰ r T.R → (z : List Tok) → Target T (r.val ++ z) → 1 ≤ length z → length r.key + length z ≤ level_count
        → fits_from (length r.key) z ≡ true → Back T (pad (r.key ++ z))

  -- Tokens that the candidates can be made of: fresh ones within the bounds of PRMD, no domain part, and of O, a domain part; an absent
  -- level and each R row's path are within bounds.
  pub record Supply (T : Table) : Type 0 where
    pub absent : (k : ℕ) → fits k [] ≡ true
    pub paths : (r : Row) → Memᴰ r T.R → fits_from 0 r.key ≡ true
    pub odd : (r : Row) → Memᴰ r T.R → (f : Tok) × Fresh T r f × (is_domain_part f ≡ false) × (fits 2 f ≡ true)
    pub part : (r : Row) → Memᴰ r T.R → (f : Tok) × Fresh T r f × (is_domain_part f ≡ true) × (fits 3 f ≡ true)

-- Laws of a record's levels in a buffer: the levels by their places, one more written behind the others, how many they are, that each is short,
-- and levels put in front of a domain.
-- Assumes nothing.
use mathlib.Core.Path.{◌≡◌, refl, sym, ap, ap₂, ◌∙◌}
use mathlib.Core.Bool.{Bool, true}
use mathlib.Core.List.{List, [], ◌∷◌, ◌++◌, append_assoc, append-nil, map}
use Prim.Native.Nat.{ℕ, zero, suc, ◌+◌, ◌-◌, ◌≤◌, ◌<◌}
use native.Mathlib.Nat.{add-zero, le_of_suc-le-suc, not-suc-le-zero, zero-add}
use native.Mathlib.Numerals.{add-one}
use native.Mathlib.Omega.{arith}
use borrow.Author.Count.{below_more}
use borrow.Author.Tests.{le-leb, leb-true}
use base.Fml.{Fml}
use denote.Array.{each}
use denote.Shadow.{shadow}
use mir.Val.{Val}
use lib.Dec.{leb}
use lib.ListN.{length, get_or, take, drop, set, replicate, length-append, length-replicate, length-take}
use lib.Seq.{drop_at, get_or-set_other, get_or-set_same, length-take-le, take_all, take-append-le, take-append_seam, take-suc, take-take}
use Rattle.chars.specs.Lists.{all}
use Rattle.chars.specs.Write.{Wrote}
use Rattle.chars.proofs.Laws.Lists.{all_append, all-at, all_map, all_take, and_both}
use Rattle.chars.proofs.Laws.Write.{wrote-length, wrote-place}
use Rattle.oraddr.specs.Attributes.{Attributes, levels}
use Rattle.oraddr.specs.Bounds.{level_count, most, single_count}
use Rattle.oraddr.specs.View.{singles_view, unit_view, units_view, value_view, view}
use Rattle.oraddr.specs.declared.record.Record.{Record}
use Rattle.mailaddr.specs.Domain.{in_front}
use Rattle.table.specs.Table.{Token}
use Rattle.table.specs.Rows.{between}
use Rattle.table_lookup.specs.Looked.{level_tokens, levels_room, tokens_from}
use Rattle.table.proofs.Laws.Fields.{region}
use Rattle.mapping.specs.Flat.{Flat, fronts}
use Rattle.mapping.specs.ToAddress.{extended}

-- ---- the levels by where they end

module _ (s ends : List ℕ) where
  tokens-take : (k n m : ℕ) → n ≤ m → take n (tokens_from s ends k m) ≡ tokens_from s ends k n
  unfolding tokens_from
  tokens-take k zero m h = refl
  tokens-take k (suc n) zero h = absurd (not-suc-le-zero h)
  tokens-take k (suc n) (suc m) h = ap (λ (ts : List Token). between s (get_or ends k 0) (get_or ends (suc k) 0) ∷ ts) (tokens-take (suc k) n m (le_of_suc-le-suc h))

  tokens-part : (k i n m : ℕ) → i + n ≤ m → take n (drop i (tokens_from s ends k m)) ≡ tokens_from s ends (k + i) n
  unfolding tokens_from
  tokens-part k zero n m h = rw add-zero (tokens-take k n m (omega arith))
  tokens-part k (suc i) n zero h = absurd (omega arith)
  tokens-part k (suc i) n (suc m) h =
      let e : suc k + i ≡ k + suc i = omega arith in
      tokens-part (suc k) i n m (omega arith) ∙ rw e

  -- n of the eight levels, from k on
  pub tokens-some : (k n : ℕ) → k + n ≤ 8 → take n (drop k (level_tokens s ends)) ≡ tokens_from s ends k n
  unfolding level_tokens
  tokens-some k n h = tokens-part 0 k n 8 h ∙ rw zero-add

  tokens-last : (k n : ℕ) → tokens_from s ends k (suc n) ≡ tokens_from s ends k n ++ (between s (get_or ends (k + n) 0) (get_or ends (k + n + 1) 0) ∷ [])
  unfolding tokens_from
  tokens-last k zero = rw (add-zero k, add-one k)
  tokens-last k (suc n) =
      let e : suc k + n ≡ k + suc n = omega arith in
      ap (λ (ts : List Token). between s (get_or ends k 0) (get_or ends (suc k) 0) ∷ ts)
      (tokens-last (suc k) n ∙ ap (λ (j : ℕ). tokens_from s ends (suc k) n ++ (between s (get_or ends j 0) (get_or ends (j + 1) 0) ∷ [])) e)

  -- the first n are those of a list that has them at their places
  tokens_are : (ls : List Token) (n : ℕ) → n ≤ length ls → ((j : ℕ) → j < n → between s (get_or ends j 0) (get_or ends (j + 1) 0) ≡ get_or ls j [])
      → tokens_from s ends 0 n ≡ take n ls
  unfolding tokens_from
  tokens_are ls zero h f = refl
  tokens_are ls (suc n) h f =
      let e : 0 + n ≡ n = omega arith in
      tokens-last 0 n
      ∙ ap₂ (λ (ts : List Token) (t : Token). ts ++ (t ∷ [])) (tokens_are ls n (omega arith) (λ j l. f j (omega arith))) (rw e (f n (omega arith)))
      ∙ sym (take-suc ls n [] h)

-- ---- one more level, written behind the others

module _ {old new text : List ℕ} {at next : ℕ} (w : Wrote old at text next new) (h : at + length text ≤ length old) where
  place : new ≡ take at old ++ (text ++ drop (at + length text) old)
  place = wrote-place w h ∙ append_assoc (take at old) text (drop (at + length text) old)

  -- what stands before the place of a write stays
  kept : (a b : ℕ) → a ≤ b → b ≤ at → between new a b ≡ between old a b
  kept a b l m =
      sym (region new a b l (omega (arith, wrote-length w)))
      ∙ ap (λ (s : List ℕ). drop a (take b s)) place
      ∙ ap (drop a) (take-append-le b (take at old) (text ++ drop (at + length text) old) (simp length-take (omega arith)) ∙ take-take b at old m)
      ∙ region old a b l (omega arith)

  written : between new at next ≡ text
  unfolding between
  written =
      let e : next - at ≡ length text = omega (arith, w.moved) in
      rw (e, place, drop_at (take at old) (text ++ drop (at + length text) old) at (length-take-le at old (omega arith)))
      (take-append_seam text (drop (at + length text) old))

-- level j stands between its two places, which are in order, and the second n at most
pub record Stands (ls : List Token) (flat ends : List ℕ) (n j : ℕ) : Type 0 where
  pub ordered : get_or ends j 0 ≤ get_or ends (j + 1) 0
  pub low : get_or ends (j + 1) 0 ≤ n
  pub holds : between flat (get_or ends j 0) (get_or ends (j + 1) 0) ≡ get_or ls j []

-- the first k levels stand in the buffer, and the next one goes to place n
pub record Filled (ls : List Token) (k n : ℕ) (flat ends : List ℕ) : Type 0 where
  pub last : get_or ends k 0 ≡ n
  pub each : (j : ℕ) → j < k → Stands ls flat ends n j

pub filled_none : (ls : List Token) (flat ends : List ℕ) → 0 < length ends → Filled ls 0 0 flat (set ends 0 0)
filled_none ls flat ends h = record { last = get_or-set_same ends 0 0 0 h; each = λ j l. absurd (omega arith) }

module _ (ls : List Token) (flat new ends : List ℕ) (k n next : ℕ) (room : k + 1 < length ends) (w : Wrote flat n (get_or ls k []) next new) (h : next ≤ length flat) where
  stays : (j : ℕ) → j < k + 1 → get_or (set ends (k + 1) next) j 0 ≡ get_or ends j 0
  stays j l = get_or-set_other ends (k + 1) j next 0 (λ q. absurd (omega arith))

  ends_there : get_or (set ends (k + 1) next) (k + 1) 0 ≡ next
  ends_there = get_or-set_same ends (k + 1) next 0 room

  stands : (j : ℕ) → j < k → Stands ls flat ends n j → Stands ls new (set ends (k + 1) next) next j
  stands j l o =
      let e = stays j (omega arith) in
      let d = stays (j + 1) (omega arith) in
      record {
        ordered = omega (arith, o.ordered);
        low = omega (arith, o.low, w.moved);
        holds = rw (e, d) (kept w (omega (arith, w.moved)) (get_or ends j 0) (get_or ends (j + 1) 0) o.ordered o.low ∙ o.holds);
      }

  pub filled_more : Filled ls k n flat ends → Filled ls (k + 1) next new (set ends (k + 1) next)
  filled_more f =
      let e : get_or (set ends (k + 1) next) k 0 ≡ n = stays k (omega arith) ∙ f.last in
      record {
        last = ends_there;
        each =
            below_more (λ j. Stands ls new (set ends (k + 1) next) next j) k
            (λ j l. stands j l (f.each j l))
            (record { ordered = omega (arith, ends_there, w.moved); low = omega (arith, ends_there); holds = rw (e, ends_there) (written w (omega (arith, w.moved))) });
      }

pub filled-all : (ls : List Token) (n : ℕ) (flat ends : List ℕ) → length ls ≡ 8 → 8 < length ends → n ≤ length flat → n ≤ levels_room → Filled ls 8 n flat ends → Flat ls flat ends
unfolding level_tokens
filled-all ls n flat ends e room within m f =
    record {
      ended = record { room = room; ordered = λ k l. (f.each k l).ordered; inside = λ k l. omega (arith, (f.each k l).low) };
      holds = tokens_are flat ends ls 8 (omega arith) (λ j l. (f.each j l).holds) ∙ take_all 8 ls (omega arith);
      most = omega (arith, f.last);
    }

-- ---- the levels of a record are eight, each short enough for its room

pub length-levels : (a : Attributes) → length a.single ≡ single_count → length (levels a) ≡ level_count
unfolding levels
length-levels a h = simp (length-append, length-take, length-replicate) (omega arith)

-- what owning an element of an array tells of it, of every element
pub all-good : {D X : Type 0} (own : D → List Val → Fml) (into : X → D) (p : X → Bool) → ((x : X) (vs : List Val) → shadow (own (into x) vs) → p x ≡ true)
    → (xs : List X) (us : List Val) → shadow (each D own (map into xs) us) → all p xs ≡ true
unfolding all
all-good own into p f [] us h = refl
all-good own into p f (x ∷ xs) [] h = absurd h
all-good own into p f (x ∷ xs) (u ∷ us) h = and_both (f x (u ∷ []) h.0) (all-good own into p f xs us h.1)

-- a level has 64 bytes at most
abbrev pub is_short : Token → Bool
is_short t = leb (length t) 64

pub short-part : (n : ℕ) (s : List ℕ) → length s ≤ 64 → is_short (take n s) ≡ true
short-part n s h = le-leb (length (take n s)) 64 (simp length-take (omega arith))

short-levels : (r : Record) → all (λ v. is_short (value_view v)) r.singles.values ≡ true → all (λ u. is_short (unit_view u)) r.units.names ≡ true
    → all is_short (levels (view r)) ≡ true
unfolding levels view singles_view units_view all
short-levels r h g =
    let singles : List Token = map value_view r.singles.values in
    let units : List Token = take r.units.count (map unit_view r.units.names) in
    all_append is_short (take 4 singles) (take most (units ++ replicate most []))
    ∙ and_both
    (all_take is_short 4 singles (all_map is_short value_view r.singles.values ∙ h))
    (all_take is_short most (units ++ replicate most [])
    (all_append is_short units (replicate most [])
    ∙ and_both (all_take is_short r.units.count (map unit_view r.units.names) (all_map is_short unit_view r.units.names ∙ g)) refl))

pub level_short : (r : Record) → all (λ v. is_short (value_view v)) r.singles.values ≡ true → all (λ u. is_short (unit_view u)) r.units.names ≡ true
    → (k : ℕ) → k < length (levels (view r)) → length (get_or (levels (view r)) k []) ≤ 64
level_short r h g k l = leb-true (length (get_or (levels (view r)) k [])) 64 (all-at is_short (levels (view r)) k [] (short-levels r h g) l)

-- ---- levels in front of a domain

fronts-last : (ps : List Token) (p : Token) → fronts (ps ++ (p ∷ [])) ≡ (p ++ (46 ∷ [])) ++ fronts ps
unfolding fronts
fronts-last [] p = sym (append-nil (p ++ (46 ∷ [])))
fronts-last (q ∷ ps) p = rw (fronts-last ps p) (append_assoc (p ++ (46 ∷ [])) (fronts ps) (q ++ (46 ∷ [])))

-- the last of the levels from k on comes first
module _ (s ends : List ℕ) (k i : ℕ) where
  pub fronts-back : k < i → fronts (tokens_from s ends k (i - k)) ≡ (between s (get_or ends (i - 1) 0) (get_or ends (i - 1 + 1) 0) ++ (46 ∷ [])) ++ fronts (tokens_from s ends k (i - 1 - k))
  fronts-back h =
      let e : i - k ≡ suc (i - 1 - k) = omega arith in
      let z : k + (i - 1 - k) ≡ i - 1 = omega arith in
      ap (λ (n : ℕ). fronts (tokens_from s ends k n)) e
      ∙ ap fronts (tokens-last s ends k (i - 1 - k))
      ∙ fronts-last (tokens_from s ends k (i - 1 - k)) (between s (get_or ends (k + (i - 1 - k)) 0) (get_or ends (k + (i - 1 - k) + 1) 0))
      ∙ ap (λ (j : ℕ). (between s (get_or ends j 0) (get_or ends (j + 1) 0) ++ (46 ∷ [])) ++ fronts (tokens_from s ends k (i - 1 - k))) z

  pub fronts-end : i ≤ k → fronts (tokens_from s ends k (i - k)) ≡ []
  unfolding fronts tokens_from
  fronts-end h = let e : i - k ≡ 0 = omega arith in rw e

pub extended-fronts : (d : List ℕ) (x : List Token) → extended d x ≡ fronts x ++ d
unfolding extended fronts in_front
extended-fronts d [] = refl
extended-fronts d (p ∷ ps) = extended-fronts (p ++ 46 ∷ d) ps ∙ simp append_assoc

-- Laws of where the levels of a path end: a level that is noted, and one that is read where it was noted.
-- Assumes nothing.
use mathlib.Core.Path.{◌≡◌, refl, sym, ap, ◌∙◌}
use mathlib.Core.List.{List, [], ◌∷◌}
use Prim.Native.Nat.{ℕ, suc, ◌+◌, ◌-◌, ◌≤◌, ◌<◌}
use native.Mathlib.Nat.{add-zero}
use native.Mathlib.Omega.{arith}
use borrow.Author.Tests.{leb-false, leb-true}
use lib.Dec.{leb}
use lib.ListN.{length, take, drop, get_or, set}
use Rattle.chars.specs.Parts.{run}
use Rattle.chars.proofs.Laws.Lists.{by_test}
use Rattle.chars.proofs.Laws.Parts.{sizes, split_sizes}
use Rattle.chars.proofs.Laws.Seq.{taken_next}
use Rattle.chars.specs.Write.{Wrote}
use Rattle.chars.proofs.Laws.Write.{wrote_nothing, wrote_one, wrote_taken, wrote_then}
use Rattle.table.specs.Table.{Token}
use Rattle.table.specs.Rows.{between, fields_at}
use Rattle.table.proofs.Laws.Fields.{between-length, fields-first, fields_in, fields-past, stop_within}
use Rattle.table_lookup.specs.Levels.{LevelFound, level_token}
use Rattle.table_lookup.specs.declared.level.LevelKind.{LevelKind}
use Rattle.table_settle.specs.Settle.{nexts_from}

-- ---- how much the levels take up, each with a tab behind it

fields_sizes : (s : List ℕ) (at end : ℕ) → at ≤ end + 1 → end ≤ length s → at + sizes (fields_at s at end) ≡ end + 1
unfolding sizes
fields_sizes s at end h l =
    by_test (leb at end)
    (λ e. let a = leb-true at end e in rw (fields_in s at end a) (omega (arith, split_sizes 9 (between s at end), between-length s at end a l)))
    (λ e. let a = leb-false at end e in rw (fields-past s at end a) (omega arith))

-- ---- the levels are noted

pub length_nexts : (at : ℕ) (fs : List Token) → length (nexts_from at fs) ≡ length fs
unfolding nexts_from
length_nexts at [] = refl
length_nexts at (f ∷ fs) = ap suc (length_nexts (suc (at + length f)) fs)

pub noted_none : {o : List ℕ} {k : ℕ} (at : ℕ) {fs : List Token} → fs ≡ [] → Wrote o k (nexts_from at fs) (k + 0) o
unfolding nexts_from
noted_none {o} {k} at e = rw (e, add-zero k) wrote_nothing

pub noted_more : {s o n : List ℕ} {at end next k : ℕ} {kind : LevelKind} (r : ℕ) → end ≤ length s → LevelFound s at end next kind
    → Wrote (set o k next) (k + 1) (nexts_from next (fields_at s next end)) (k + 1 + r) n → Wrote o k (nexts_from at (fields_at s at end)) (k + (1 + r)) n
unfolding nexts_from sizes
noted_more {s} {o} {n} {at} {end} {next} {k} {kind} r l f w =
    let e : suc (at + length (level_token s kind)) ≡ next =
    omega (arith, fields_sizes s at end (omega (arith, f.onward, f.within)) l, fields_sizes s next end f.within l, ap sizes f.fields) in
    let z : k + (1 + r) ≡ k + 1 + r = omega arith in
    rw (f.fields, e, z) (wrote_then (wrote_one next) w)

pub noted_count : {o n : List ℕ} (at : ℕ) (fs : List Token) (r : ℕ) → Wrote o 0 (nexts_from at fs) (0 + r) n → r ≡ length fs
noted_count at fs r w = omega (arith, w.moved, length_nexts at fs)

-- and so they stand in a list that has room for them
pub noted_taken : {o n : List ℕ} {j : ℕ} (at : ℕ) (fs : List Token) → Wrote o 0 (nexts_from at fs) j n → length fs ≤ length o → take (length fs) n ≡ nexts_from at fs
noted_taken {o} {n} {j} at fs w h =
    let l = length_nexts at fs in
    let e : length fs ≡ j = omega (arith, w.moved) in
    rw e (wrote_taken w (omega arith))

-- ---- the levels are read

-- the levels from a place on end as the numbers from k on say
abbrev pub Noted : List ℕ → ℕ → ℕ → List ℕ → ℕ → Type 0
Noted s at end ns k = take (length (fields_at s at end)) (drop k ns) ≡ nexts_from at (fields_at s at end)

-- The first of them, and those behind it.
pub record NextRead (s : List ℕ) (at end : ℕ) (ns : List ℕ) (k next : ℕ) : Type 0 where
  pub fields : fields_at s at end ≡ take (next - 1 - at) (drop at s) ∷ fields_at s next end
  pub onward : at < next
  pub within : next ≤ end + 1
  pub noted : Noted s next end ns (k + 1)

module _ (s : List ℕ) (at end : ℕ) (ns : List ℕ) (k : ℕ) (a : at ≤ end) (l : end ≤ length s) (h : Noted s at end ns k) where
  abbrev stop : ℕ
  stop = at + run 9 (drop at (take end s))

  first : fields_at s at end ≡ between s at stop ∷ fields_at s (stop + 1) end
  first = fields-first s at end stop a l refl

  taken : (k < length ns) × (get_or ns k 0 ≡ stop + 1) × Noted s (stop + 1) end ns (k + 1)
  unfolding nexts_from
  taken =
      let w = stop_within s at end stop a l refl in
      let e : suc (at + length (between s at stop)) ≡ stop + 1 = omega (arith, between-length s at stop (omega arith) (omega arith)) in
      let gs = fields_at s (stop + 1) end in
      taken_next ns k (length gs) (stop + 1) (nexts_from (stop + 1) gs)
      (ap (λ (fs : List Token). take (length fs) (drop k ns)) (sym first) ∙ h ∙ ap (nexts_from at) first ∙ ap (λ (n : ℕ). n ∷ nexts_from n gs) e)

  pub next_there : k < length ns
  next_there = taken.0

  pub next_read : NextRead s at end ns k (get_or ns k 0)
  unfolding between
  next_read =
      let z : stop + 1 - 1 ≡ stop = omega arith in
      rw taken.1
      (record {
        fields = rw z first;
        onward = omega arith;
        within = omega (arith, stop_within s at end stop a l refl);
        noted = taken.2;
      })

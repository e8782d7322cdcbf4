-- A table that was read is in order and keeps its rules, whatever it was read from.
-- Assumes nothing.
use mathlib.Core.Path.{◌≡◌, refl, sym, subst, ap}
use mathlib.Core.List.{List}
use Prim.Native.Nat.{ℕ}
use Rattle.table.specs.Lines as lines
use Rattle.table.specs.Lines.{loaded_from, malformed, well_formed}
use denote.Ref.{Bor}
use Rattle.std.specs.Prelude.{Result, Ok, Err}
use Rattle.table.specs.declared.load.Loaded.{Loaded}
use Rattle.table.specs.declared.load.Malformed.{Malformed}
use Rattle.table.proofs.Laws.Formed.{loaded_formed}
use Rattle.table_load.specs.Load.{FormedBy, Loading, Ready, load_answer}
use Rattle.table_load.specs.Tables.{Tabled, table_answer}
use Rattle.table_load.specs.declared.tables as tables

pub ready-formed : (s ds rs : List ℕ) (r : Result Loaded Malformed) → Ready s ds rs r → FormedBy (load_answer s ds rs r)
unfolding load_answer
ready-formed s ds rs (Ok t) h = h.1
ready-formed s ds rs (Err e) h = tt

pub formed-ready : (s ds rs : List ℕ) (r : Result Loaded Malformed) (l : lines.TableOutcome) → Loading s l r ds rs → FormedBy l → Ready s ds rs r
unfolding load_answer
formed-ready s ds rs (Ok t) l h f = (h.kept, subst FormedBy (sym h.answers) f)
formed-ready s ds rs (Err e) l h f = tt

-- of a text
pub loaded_rules : (s : List ℕ) → FormedBy (loaded_from s)
loaded_rules s = by-text (loaded_from s) refl
  where
    by-text : (l : lines.TableOutcome) → loaded_from s ≡ l → FormedBy l
    by-text (malformed n) e = tt
    by-text (well_formed t) e = loaded_formed s t e

pub loading_ready : (s ds rs : List ℕ) (r : Result Loaded Malformed) → Loading s (loaded_from s) r ds rs → Ready s ds rs r
loading_ready s ds rs r h = formed-ready s ds rs r (loaded_from s) h (loaded_rules s)

-- what a table was read as, since the table's struct holds that it keeps its rules
pub read_formed : (r : Result tables.Table.Table Malformed) → FormedBy (table_answer r)
read_formed (Ok t) = t.formed
read_formed (Err e) = tt

-- the table of what was loaded answers as this did
pub tabled_answer : (s ds rs : Bor (List ℕ)) (l : Result Loaded Malformed) (r : Result tables.Table.Table Malformed) → Tabled s ds rs l r
    → table_answer r ≡ load_answer s.now ds.now rs.now l
unfolding load_answer
tabled_answer s ds rs (Ok l) (Ok t) h = rw (h.text, h.to_path, h.to_domain, h.loaded) refl
tabled_answer s ds rs (Err e) (Err f) h = ap (λ (m : Malformed). malformed m.line) h
tabled_answer s ds rs (Ok l) (Err f) h = elim h [ ]
tabled_answer s ds rs (Err e) (Ok t) h = elim h [ ]

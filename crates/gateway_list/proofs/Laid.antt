-- The rows that `spread` laid out spell the table that all the rows of the list spell.
-- Assumes nothing.
use Rattle.std.proofs.Common.{◌≡◌, List, ℕ, ◌<◌, ◌^◌, ◌/◌, length, take, ap, ◌∙◌}
use Rattle.rowlist.specs.declared.RowEntry.{RowEntry}
use Rattle.rowlist.specs.Entries.{entries_of, lesser}
use Rattle.rowlist.proofs.Listed.{known, zeros}
use Rattle.rowlist_load.specs.Listed.{listed_from}
use Rattle.rowlist_load.proofs.Laws.Whole.{listed_front}

pub listed_laid : (s : List ℕ) (rows : List RowEntry) (n : ℕ) (ns : List ℕ) → n < 2 ^ 64
    → (entries_of ns n ≡ take n rows) × ((n ≡ lesser (length rows) (length (zeros 2570) / 5)) × (length ns ≡ length (zeros 2570)))
    → listed_from s (entries_of ns n) ≡ listed_from s rows
listed_laid s rows n ns fits e = ap (listed_from s) (known rows 2570 n ns fits e).1.0 ∙ listed_front s rows

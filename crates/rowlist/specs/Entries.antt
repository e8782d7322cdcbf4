-- A list of row entries laid out as numbers, five an entry.
-- Assumes nothing.
use Rattle.std.specs.Prelude.{ℕ, zero, suc, ◌+◌, List, [], ◌∷◌, get_or, set, min}
use Rattle.rowlist.specs.declared.RowEntry.{RowEntry}

-- how many numbers an entry is, and how many entries are laid out: the gateway's, 512 rows, and one that is bad whatever it holds
abbrev pub entry_size : ℕ
entry_size = 5

abbrev pub most_entries : ℕ
most_entries = 514

abbrev pub no_entry : RowEntry
no_entry = record { kind = 0; domain = 0; domain_len = 0; path = 0; path_len = 0 }

-- the entry whose five numbers stand at k, k + 1, .. k + 4
abbrev pub entry_at : List ℕ → ℕ → RowEntry
entry_at ns k = record { kind = get_or ns k 0; domain = get_or ns (k + 1) 0; domain_len = get_or ns (k + 2) 0; path = get_or ns (k + 3) 0; path_len = get_or ns (k + 4) 0 }

-- n entries, from the number at k on
unfoldable pub entries_from : List ℕ → ℕ → ℕ → List RowEntry
entries_from ns k zero = []
entries_from ns k (suc n) = entry_at ns k ∷ entries_from ns (k + 5) n

-- the first n entries
abbrev pub entries_of : List ℕ → ℕ → List RowEntry
entries_of ns n = entries_from ns 0 n

-- the numbers with the five from k on those of an entry
abbrev pub laid : List ℕ → ℕ → RowEntry → List ℕ
laid ns k e = set (set (set (set (set ns k e.kind) (k + 1) e.domain) (k + 2) e.domain_len) (k + 3) e.path) (k + 4) e.path_len

abbrev pub lesser : ℕ → ℕ → ℕ
lesser a b = min a b

-- Letter case, once. Letters are compared case aside everywhere, so a table is folded once, its capital letters to small ones, and is
-- compared exactly from there on.
-- Assumes nothing.
use Rattle.std.specs.Prelude.{List, map}
use Rattle.chars.specs.Case.{fold_text}
use Rattle.mailaddr.specs.Domain.{parts_of}
use Rattle.table.specs.Table as table
use Rattle.soundness.specs.Tokens as tokens
use Rattle.soundness.specs.Tokens.{Tok}

-- tokens with small letters for capital ones
abbrev pub fold_tokens : List Tok → List Tok
fold_tokens ts = map fold_text ts

-- a D row is found by its domain's parts from the right, and tells its path
abbrev pub path_row : table.Row → tokens.Row
path_row r = record { key = fold_tokens (parts_of r.domain); val = fold_tokens r.path }

-- an R row is found by its path, and tells its domain's parts from the right
abbrev pub domain_row : table.Row → tokens.Row
domain_row r = record { key = fold_tokens r.path; val = fold_tokens (parts_of r.domain) }

-- the gateway's domain and all the rows of a table, folded
abbrev pub token_table : table.Table → tokens.Table
token_table t =
    record {
      g = fold_tokens (parts_of t.gateway.domain);
      D = map path_row t.to_path;
      R = map domain_row t.to_domain;
    }

-- `table_load::load::load` meets its contract: the size is tested first, then the gateway's line, and the rows behind it are read.
-- Assumes nothing.
use mathlib.Core.Path.{◌≡◌}
use mathlib.Core.List.{List}
use Prim.Native.Nat.{ℕ, ◌+◌, ◌<◌}
use native.Mathlib.Omega.{arith}
use lib.ListN.{length}
use Rattle.chars.specs.Parts.{run}
use Rattle.chars.proofs.Laws.Parts.{run_le}
use Rattle.table.specs.Lines.{longest_gateway_domain}
use Rattle.table.specs.Rows.{RowFound}
use Rattle.table.proofs.Laws.Fields.{found_inside}
use Rattle.table.proofs.Laws.Lines.{loaded_bad, loaded_large, loaded_last, loaded_rows}
use Rattle.table_load.proofs.Laws.Load.{refused}
use Rattle.table_load.proofs.load.load.Goals as goal

-- a first line that ends before the text does has its LF
within : (s : List ℕ) (end : ℕ) → end ≡ 0 + run 10 s → (end ≡ length s → ⊥) → end < length s
within s end e n = omega (arith, e, n, run_le 10 s)

pub returns-then-text-gt-LONGEST_TABLE : goal.returns-then-text-gt-LONGEST_TABLE
returns-then-text-gt-LONGEST_TABLE c = refused (loaded_large c.args.text.now (omega arith))

pub returns-then-end-text : goal.returns-then-end-text
returns-then-end-text c =
    let e = c.part_end-end in
    refused (loaded_last c.args.text.now (omega arith) e.result e.ensures (omega arith))

pub read_row-requires : goal.read_row-requires
read_row-requires c =
    let e = c.part_end-end in
    let w = within c.args.text.now e.result e.ensures c.if-end-text.false in
    record { from_le_end = omega arith; end_in_bounds = omega arith; no_tab = λ e. omega arith }

pub overflow_add-end : goal.overflow_add-end
overflow_add-end c = let e = c.part_end-end in omega (arith, within c.args.text.now e.result e.ensures c.if-end-text.false)

pub load_rows-requires : goal.load_rows-requires
load_rows-requires c =
    let s = c.args.text.now in
    let e = c.part_end-end in
    let w = within s e.result e.ensures c.if-end-text.false in
    let found : RowFound s 0 e.result 71 longest_gateway_domain c.in-Some.gateway = c.in-Some.ensures in
    record {
      to_path_len = c.requires.to_path_len;
      to_domain_len = c.requires.to_domain_len;
      row_inside = found_inside found (omega arith) (omega arith);
      from_in_bounds = omega arith;
    }

pub returns : goal.returns
returns c =
    let s = c.args.text.now in
    let e = c.part_end-end in
    let w = within s e.result e.ensures c.if-end-text.false in
    let found : RowFound s 0 e.result 71 longest_gateway_domain c.in-Some.gateway = c.in-Some.ensures in
    rw (loaded_rows s (omega arith) e.result e.ensures w found) c.load_rows.ensures

pub returns-in_default : goal.returns-in_default
returns-in_default c =
    let s = c.args.text.now in
    let e = c.part_end-end in
    let w = within s e.result e.ensures c.if-end-text.false in
    refused (loaded_bad s (omega arith) e.result e.ensures w c.in_default.ensures)

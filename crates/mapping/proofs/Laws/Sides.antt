-- Each mapping reads only its side of a table: address to record the gateway and the rows to a path, record to address the gateway and the rows
-- to a domain.
-- Assumes nothing.
use mathlib.Core.Path.{◌≡◌, refl, ap}
use mathlib.Core.Bool.{cond}
use mathlib.Core.List.{List, []}
use mathlib.Core.Option.{Option, none, some}
use Prim.Native.Nat.{ℕ}
use Rattle.std.specs.Prelude.{Result, Ok, Err}
use Rattle.oraddr.specs.Attributes.{Attributes, levels}
use Rattle.mailaddr.specs.Answers.{shaping}
use Rattle.mailaddr.specs.Shape.{Address}
use Rattle.mailaddr.specs.declared.shape.AddressFault.{AddressFault}
use Rattle.mailaddr.specs.declared.shape.AddressFault.TheVariants.{NoShape, TooLong}
use Rattle.table.specs.Table.{Row, Token}
use Rattle.table.specs.Rows.{row_at, rows_at, table_at}
use Rattle.table.specs.declared.load as load
use Rattle.table_lookup.specs.Lookup.{by_path, look}
use Rattle.mapping.specs.Answers.{inward, outward}
use Rattle.mapping.specs.Carried.{carried_whole, is_gateway, is_not_canonical, names_settled, no_row_matches, passes_bound, passes_units, result_of, settled_under}
use Rattle.mapping.specs.ToAddress.{Plan, address_of, carried_address, is_carrier, plan, plan_by, planned}
use Rattle.mapping.specs.ToRecord.{record_by, to_record}

-- address to record reads the gateway and the rows to a path alone
pub inward-same : (g : Row) (ds rs : List Row) (s : List ℕ)
    → to_record (record { gateway = g; to_path = ds; to_domain = [] }) s ≡ to_record (record { gateway = g; to_path = ds; to_domain = rs }) s
unfolding to_record record_by carried_whole no_row_matches passes_bound passes_units names_settled is_not_canonical result_of settled_under is_gateway
inward-same g ds rs s = by_shape (shaping s)
  where
    by_shape : (x : Result Address AddressFault)
        → record_by (record { gateway = g; to_path = ds; to_domain = [] }) s x ≡ record_by (record { gateway = g; to_path = ds; to_domain = rs }) s x
    by_shape (Err TooLong) = refl
    by_shape (Err NoShape) = refl
    by_shape (Ok a) = refl

module _ (s ds rs : List ℕ) (t : load.Loaded.Loaded) where
  -- so of a loaded table
  pub inward-table : (x : List ℕ) → to_record (inward s ds t) x ≡ to_record (table_at s ds rs t) x
  unfolding table_at
  inward-table x = inward-same (row_at s t.gateway) (rows_at s ds t.to_path) (rows_at s rs t.to_domain) x

  plan-table : (ls : List Token) (o : Option Row) → plan_by (outward s rs t) ls o ≡ plan_by (table_at s ds rs t) ls o
  unfolding plan_by table_at
  plan-table ls none = refl
  plan-table ls (some r) = refl

  -- the plan of a record, too
  pub outward-plan : (ls : List Token) → plan (outward s rs t) ls ≡ plan (table_at s ds rs t) ls
  unfolding plan table_at
  outward-plan ls = plan-table ls (look by_path (rows_at s rs t.to_domain) ls)

  pub outward-same : (a : Attributes) → address_of (outward s rs t) a ≡ address_of (table_at s ds rs t) a
  unfolding address_of is_carrier plan table_at
  outward-same a =
      ap (λ (p : Plan). cond (is_carrier (outward s rs t) a) (carried_address a.dds) (some (planned p a)))
      (outward-plan (levels a))

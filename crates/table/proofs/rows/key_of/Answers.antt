-- `table::rows::key_of` meets its contract: each key has its places.
-- Assumes nothing.
use Rattle.table.proofs.rows.key_of.Goals as goal

pub returns-in-Domain : goal.returns-in-Domain
returns-in-Domain c = rw c.in-Domain.is

pub returns-in-Path : goal.returns-in-Path
returns-in-Path c = rw c.in-Path.is

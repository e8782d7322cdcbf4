-- `soundness_fresh::fresh::part` meets its contract. The loop's invariant: the part sought is as many parts on, of what stands up to `end`, as
-- turns are left.
-- Assumes nothing.
use Rattle.std.proofs.Common.{◌≡◌, ◌≤◌, ◌-◌, [], length, get_or, take}
use Rattle.mailaddr.specs.Domain.{parts_of}
use Rattle.soundness_fresh.proofs.fresh.part.Given as goal

abbrev pub invariant-loop : goal.invariant-loop
invariant-loop l = record {
  within : l.end ≤ length l.domain;
  sought : get_or (parts_of l.domain) l.k [] ≡ get_or (parts_of (take l.end l.domain)) (l.k - l.counter) [];
}

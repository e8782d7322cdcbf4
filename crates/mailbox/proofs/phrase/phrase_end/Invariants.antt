-- `mailbox::phrase::phrase_end` meets its contract. The loop's invariant: the phrase goes on from the present token as it does from the first.
-- Assumes nothing.
use mathlib.Core.Path.{◌≡◌}
use Prim.Native.Nat.{◌-◌, ◌≤◌}
use lib.ListN.{length}
use Rattle.lexical.specs.Answers.{Stands, tokens_of}
use Rattle.mailbox_address.specs.Grammar.{phrase_from}
use Rattle.mailbox.proofs.phrase.phrase_end.Given as goal

abbrev pub invariant-loop-end : goal.invariant-loop-end
invariant-loop-end l =
    (phrase_from l.from (tokens_of l.s l.initial.t) ≡ phrase_from l.end (tokens_of l.s l.t)) × Stands l.s l.t × (l.from ≤ l.end) × (l.end ≤ l.t.start)

abbrev pub decreases-loop-end : goal.decreases-loop-end
decreases-loop-end l = length l.s - l.t.start

-- `mailbox_address::read::read_dotted` meets its contract. The loop's invariant: what was read so far, with what words from the present token on give,
-- is what all of them give; and the text is no longer than what it was read from.
-- Assumes nothing.
use mathlib.Core.Path.{◌≡◌}
use mathlib.Core.Bool.{false}
use Prim.Native.Nat.{◌-◌, ◌≤◌}
use lib.ListN.{length, take}
use Rattle.lexical.specs.Answers.{Stands, tokens_of}
use Rattle.mailbox_address.specs.Answers.{after}
use Rattle.mailbox_address.specs.Grammar.{allowed, dotted}
use Rattle.mailbox_address.proofs.read.read_dotted.Given as goal

abbrev pub invariant-loop-kind : goal.invariant-loop-kind
invariant-loop-kind l =
    (after (take l.at l.initial.dst) false (dotted (allowed l.quotable) (tokens_of l.s l.initial.t))
    ≡ after (take l.size l.dst) l.quoted (dotted (allowed l.quotable) (tokens_of l.s l.t)))
    × Stands l.s l.t
    × (l.size ≤ l.t.start)
    × (length l.dst ≡ length l.initial.dst)

abbrev pub decreases-loop-kind : goal.decreases-loop-kind
decreases-loop-kind l = length l.s - l.t.start

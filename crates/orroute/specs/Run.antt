-- What the program's loop owes: what was due is what it wrote, and then what is due for what is left.
-- Assumes nothing.
use Rattle.std.specs.Prelude.{◌≡◌, Bool, true, false, List, [], ◌++◌, ℕ, ◌≤◌, length, take}
use Rattle.table.specs.Lines.{TableOutcome}
use Rattle.router_line.specs.Line.{longest_line}
use Rattle.router.specs.Run.{Waits, due}
use Rattle.router.specs.declared.run.Routed.{Routed}
use Rattle.orroute.specs.declared.Waiting.{Waiting}

-- From the input s as far as it has arrived, with s' left of it: for whatever follows (nothing after the last part), what was due is this text
-- and then what is due for what is left.
abbrev pub Owed : TableOutcome → Bool → List ℕ → Bool → List ℕ → Bool → List ℕ → Type 0
Owed l over s last text over' s' = (f : List ℕ) → (last ≡ true → f ≡ []) → due l over (s ++ f) ≡ text ++ due l over' (s' ++ f)

-- What `advance` comes to: the text stands at the front of the output buffer. Where nothing was taken, there is nothing to answer yet.
pub record Advancing (l : TableOutcome) (over : Bool) (s : List ℕ) (last : Bool) (r : Routed) (s' out : List ℕ) : Type 0 where
  pub owed : Owed l over s last (take r.written out) r.over s'
  pub within : r.written ≤ length out
  pub on : r.taken ≤ length s
  pub stops : r.taken ≡ 0 → Waits last s'

-- The same of calls one after the other, whose texts are joined.
pub record Paid (l : TableOutcome) (over : Bool) (s : List ℕ) (last : Bool) (over' : Bool) (s' : List ℕ) : Type 0 where
  pub text : List ℕ
  pub owed : Owed l over s last text over' s'

-- All that can be answered was: in what is left there is nothing to answer yet. The run ends with the last part.
pub record Answered (l : TableOutcome) (over : Bool) (s : List ℕ) (last : Bool) (r : Waiting) (s' : List ℕ) : Type 0 where
  pub paid : Paid l over s last r.over s'
  pub waits : Waits last s'
  pub ends : r.ended ≡ last

-- What `answer` comes to, unless a write failed: all was answered, and there is room behind what is left.
pub record Answering (l : TableOutcome) (over : Bool) (s : List ℕ) (last : Bool) (r : Waiting) (s' : List ℕ) : Type 0 where
  pub short : r.size ≤ longest_line
  pub answered : Answered l over s last r s'

-- Some of the input has arrived behind s, and was answered with it. It is the last of it just where it is nothing.
pub record Arrived (l : TableOutcome) (over : Bool) (s : List ℕ) (r : Waiting) (s' : List ℕ) : Type 0 where
  pub chunk : List ℕ
  pub last : Bool
  pub some : chunk ≡ [] → last ≡ true
  pub none : last ≡ true → chunk ≡ []
  pub answered : Answered l over (s ++ chunk) last r s'

-- What `step` comes to from what waited, unless a read or a write failed.
pub record Stepping (l : TableOutcome) (over : Bool) (s : List ℕ) (r : Waiting) (s' : List ℕ) : Type 0 where
  pub short : r.size ≤ longest_line
  pub arrived : Arrived l over s r s'

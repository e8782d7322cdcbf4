-- Document 01, "The program `orroute`": what a run of lines is answered with, and what a call that gets a part of it owes.
-- Assumes nothing.
use Rattle.std.specs.Prelude.{◌≡◌, ◌⊎◌, Bool, true, false, cond, List, [], ◌∷◌, ◌++◌, ℕ, ◌+◌, ◌≤◌, ◌<◌, length, take, drop, Result}
use Rattle.chars.specs.Lists.{non_empty}
use Rattle.chars.specs.Parts.{run, split}
use Rattle.chars.specs.Write.{Wrote}
use Rattle.table.specs.Lines.{TableOutcome, loaded_from}
use Rattle.table.specs.declared.load.Loaded.{Loaded}
use Rattle.table.specs.declared.load.Malformed.{Malformed}
use Rattle.table_load.specs.Load.{Ready, load_answer}
use Rattle.router_line.specs.Line.{line_answer, longest_line}
use Rattle.router.specs.declared.run.Routed.{Routed}

-- ---- the whole

-- "A last line may lack its LF": what stands behind the last LF is a line if it is there at all
unfoldable pub lines_of : List (List ℕ) → List (List ℕ)
unfolding non_empty
lines_of [] = []
lines_of (p ∷ []) = cond (non_empty p) (p ∷ []) []
lines_of (p ∷ q ∷ ps) = p ∷ lines_of (q ∷ ps)

unfoldable pub answers : TableOutcome → List (List ℕ) → List ℕ
unfolding line_answer
answers l [] = []
answers l (p ∷ ps) = line_answer l p ++ answers l ps

-- the output for an input, each line's answer in the order of the lines
unfoldable pub whole : TableOutcome → List ℕ → List ℕ
unfolding answers lines_of split
whole l s = answers l (lines_of (split 10 s))

-- ---- a part of it

-- what stands behind the first LF; nothing where there is none
unfoldable pub after_line : List ℕ → List ℕ
unfolding run
after_line s = drop (run 10 s + 1) s

-- The output that is still to come when s is all the input that is left. In the state `over` it begins within a line that is over the
-- limit and has had its answer, so that what is left of that line has none.
unfoldable pub due : TableOutcome → Bool → List ℕ → List ℕ
unfolding whole after_line
due l false s = whole l s
due l true s = whole l (after_line s)

-- There is nothing to answer yet: no LF, not too much for a line, and more to come, unless nothing is left.
pub record Waits (last : Bool) (s : List ℕ) : Type 0 where
  pub unended : run 10 s ≡ length s
  pub short : length s ≤ longest_line
  pub more : last ≡ true → s ≡ []

-- The next line's answer does not fit.
pub record Lacks (l : TableOutcome) (s : List ℕ) (written room : ℕ) : Type 0 where
  pub some : 1 ≤ length s
  pub short : room < written + length (line_answer l (take (run 10 s) s))

-- How far a run has come, from the input q that was left of s and a place in the buffer: a text from that place on and the rest as before,
-- and none of it without input that was taken; and for whatever follows (nothing after the last part), what was due is this text and then
-- what is due for what is left.
pub record Went (l : TableOutcome) (over : Bool) (q s : List ℕ) (last : Bool) (at : ℕ) (old : List ℕ) (over' : Bool) (taken written : ℕ) (new : List ℕ) : Type 0 where
  pub text : List ℕ
  pub wrote : Wrote old at text written new
  pub room : written ≤ length old
  pub within : taken ≤ length s
  pub on : length (drop taken s) ≤ length q
  pub paid : 1 ≤ length text → length (drop taken s) < length q
  pub owed : (f : List ℕ) → (last ≡ true → f ≡ []) → due l over (q ++ f) ≡ text ++ due l over' (drop taken s ++ f)

-- A call that went so far stops only where there is nothing to answer, or where the next answer does not fit.
pub record RoutingFrom (l : TableOutcome) (over : Bool) (q s : List ℕ) (last : Bool) (at : ℕ) (old : List ℕ) (r : Routed) (new : List ℕ) : Type 0 where
  pub went : Went l over q s last at old r.over r.taken r.written new
  pub stops : Waits last (drop r.taken s) ⊎ Lacks l (drop r.taken s) r.written (length old)

-- The rest of s, which has no LF, as a line: it is over the limit, or s is the last part.
abbrev pub RoutingRest : TableOutcome → List ℕ → ℕ → Bool → ℕ → List ℕ → Routed → List ℕ → Type 0
RoutingRest l s from over at old r new = (last : Bool) → (over ≡ false → last ≡ true) → RoutingFrom l false (drop from s) s last at old r new

-- What one call comes to, given the input s as far as it has arrived, and whether it is the last: from the whole of s, and from the front of
-- the buffer.
abbrev pub Routing : TableOutcome → Bool → List ℕ → Bool → List ℕ → Routed → List ℕ → Type 0
Routing l over s last old r new = RoutingFrom l over s s last 0 old r new

-- ---- a run of calls

-- Calls one after the other, from a state in which `kept` was handed back and `input` has yet to arrive: each gets what was kept and some of
-- what arrives, in a buffer of its own; the last ones know that nothing more will. It ends when nothing is left.
pub data Calls (l : TableOutcome) : Bool → List ℕ → List ℕ → List ℕ → Type 0 where
  ended : (over : Bool) → Calls l over [] [] []
  called : (over last : Bool) (kept chunk rest out old new : List ℕ) (r : Routed) (c : Routing l over (kept ++ chunk) last old r new)
      → (last ≡ true → rest ≡ []) → Calls l r.over (drop r.taken (kept ++ chunk)) rest out → Calls l over kept (chunk ++ rest) (c.went.text ++ out)

-- ---- on the way

-- A table text that was loaded for a run: what it comes to, and that it is in order.
pub record Opened (s : List ℕ) (r : Result Loaded Malformed) (ds rs : List ℕ) : Type 0 where
  pub answers : load_answer s ds rs r ≡ loaded_from s
  pub ready : Ready s ds rs r

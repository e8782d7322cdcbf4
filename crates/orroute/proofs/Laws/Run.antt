-- Laws of the program's loop: what a call of the router comes to when what it left has been moved, and calls one after the other.
-- Assumes nothing.
use Rattle.std.proofs.Common.{IfOk, Result, Ok, Err}
use mathlib.Core.Path.{◌≡◌, refl, sym, ap, subst, ◌∙◌}
use mathlib.Core.Bool.{Bool, true, cond}
use mathlib.Core.List.{List, [], ◌++◌, append_assoc}
use Prim.Native.Nat.{ℕ, ◌+◌, ◌-◌, ◌≤◌, ◌<◌}
use native.Mathlib.Omega.{arith}
use borrow.Author.Tests.{eq-eqb, eqb-true, ltb-true}
use lib.Dec.{eqb, ltb}
use lib.ListN.{length, take, drop}
use lib.Seq.{length-take-le, paste, take-append-add, take-append-le}
use Rattle.chars.proofs.Laws.Lists.{by_test}
use Rattle.chars.proofs.Laws.Write.{wrote-length, wrote_taken}
use Rattle.table.specs.Lines.{TableOutcome}
use Rattle.router_line.specs.Line.{answer_room}
use Rattle.table_load.specs.Load.{FormedBy}
use Rattle.router.specs.Run.{Routing, Waits, due}
use Rattle.router.specs.declared.run.Routed.{Routed}
use Rattle.router.proofs.Laws.Calls.{call_moves}
use Rattle.orroute.specs.Run.{Advancing, Answered, Answering, Owed, Paid, Stepping}
use Rattle.orroute.specs.declared.Failure.{Failure}
use Rattle.orroute.specs.declared.Waiting.{Waiting}
use Rattle.orroute.proofs.Laws.Moved.{moved_front}

-- a call on the first bytes of d, what it left moved to the front of d'
pub advanced : {l : TableOutcome} {over last : Bool} {old new : List ℕ} {r : Routed} (d d' : List ℕ) (size : ℕ) → FormedBy l → size ≤ length d
    → Routing l over (take size d) last old r new → answer_room ≤ length old → d' ≡ paste d 0 (drop r.taken d) (size - r.taken)
    → Advancing l over (take size d) last r (take (size - r.taken) d') new
advanced {l} {over} {last} {old} {new} {r} d d' size f h c k e =
    let n : length (take size d) ≡ size = length-take-le size d h in
    let left : take (size - r.taken) d' ≡ drop r.taken (take size d) =
    ap (take (size - r.taken)) e ∙ moved_front d r.taken size (omega (arith, c.went.within)) h in
    let wrote : take r.written new ≡ c.went.text = wrote_taken c.went.wrote (omega (arith, c.went.room, c.went.wrote.moved)) in
    record {
      owed = λ g z. rw (wrote, left) (c.went.owed g z);
      within = omega (arith, c.went.room, wrote-length c.went.wrote);
      on = c.went.within;
      stops = λ o. subst (Waits last) (sym (left ∙ ap (λ (i : ℕ). drop i (take size d)) o)) (call_moves f c k o);
    }

module _ {l : TableOutcome} {over last : Bool} {s : List ℕ} where
  pub paid-nothing : Paid l over s last over s
  paid-nothing = record { text = []; owed = λ f e. refl }

  pub paid_then : {over' over'' : Bool} {s' s'' : List ℕ} (t : List ℕ) → Paid l over s last over' s' → Owed l over' s' last t over'' s''
      → Paid l over s last over'' s''
  paid_then {over'} {over''} {s'} {s''} t a b = record {
    text = a.text ++ t;
    owed = λ f e. a.owed f e ∙ ap (λ (u : List ℕ). a.text ++ u) (b f e) ∙ sym (append_assoc a.text t (due l over'' (s'' ++ f)));
  }

-- what waited, and what a read put behind it
read_behind : (d p rest : List ℕ) (size n : ℕ) → size ≤ length d → n ≤ length p
    → take (size + n) (take size d ++ (p ++ rest)) ≡ take size d ++ take n p
read_behind d p rest size n h k =
    let z : size + n ≡ length (take size d) + n = omega (arith, length-take-le size d h) in
    ap (λ (i : ℕ). take i (take size d ++ (p ++ rest))) z
    ∙ take-append-add (take size d) (p ++ rest) n
    ∙ ap (λ (t : List ℕ). take size d ++ t) (take-append-le n p rest k)

-- the answers to both together, unless a write failed
pub stepped : (l : TableOutcome) (over : Bool) (d p rest : List ℕ) (size n : ℕ) → size ≤ length d → n ≤ length p
    → (r : Result Waiting Failure) (left : Waiting → List ℕ)
    → IfOk r (λ w. Answering l over (take (size + n) (take size d ++ (p ++ rest))) (eqb n 0) w (left w))
    → IfOk r (λ w. Stepping l over (take size d) w (left w))
stepped l over d p rest size n h k (Err e) left a = a
stepped l over d p rest size n h k (Ok w) left a = record {
  short = a.short;
  arrived = record {
    chunk = take n p;
    last = eqb n 0;
    some = λ z. eq-eqb n 0 (sym (length-take-le n p k) ∙ ap length z);
    none = λ z. ap (λ (i : ℕ). take i p) (eqb-true n 0 z);
    answered = subst (λ (q : List ℕ). Answered l over q (eqb n 0) w (left w)) (read_behind d p rest size n h k) a.answered;
  };
}

-- a loop that goes on while something is taken ends: each turn leaves less to do
pub turn_less : (t n : ℕ) (b : Bool) → t ≤ n → b ≡ true → cond (ltb 0 t) (n - t + 1) 0 < cond b (n + 1) 0
turn_less t n b k e =
    rw e (by_test (ltb 0 t)
    (λ h. rw h (omega (arith, ltb-true 0 t h)))
    (λ h. rw h (omega arith)))

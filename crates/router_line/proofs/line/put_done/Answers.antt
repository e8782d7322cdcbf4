-- `router_line::line::put_done` meets its contract: the number and the tab, the address as it stands, and the LF, one after the other.
-- Assumes nothing.
use mathlib.Core.Path.{◌≡◌, ap, ◌∙◌}
use mathlib.Core.List.{List}
use Prim.Native.Nat.{ℕ, ◌+◌}
use native.Mathlib.Omega.{arith}
use lib.ListN.{drop, length, length-set, set, take}
use lib.Seq.{drop-set-lt}
use Rattle.chars.proofs.Laws.Write.{wrote_as, wrote_one, wrote-same, wrote_then}
use Rattle.router_line.specs.Line.{done_line}
use Rattle.router_line.proofs.line.put_done.Goals as goal

-- the number and the tab keep the length
tagged_length : (d : List ℕ) → length (set (set d 0 48) 1 9) ≡ length d
tagged_length d = length-set (set d 0 48) 1 9 ∙ length-set d 0 48

pub bounds-dst-1 : goal.bounds-dst-1
bounds-dst-1 c = omega (arith, c.requires, length-set c.args.dst.now 0 48)

pub bounds-dst-n : goal.bounds-dst-n
bounds-dst-n c = omega (arith, tagged_length c.args.dst.now, c.requires)

pub returns : goal.returns
unfolding done_line
returns c =
    let d = c.args.dst.now in
    let n = c.args.n in
    let tagged : List ℕ = set (set d 0 48) 1 9 in
    let e : drop 2 tagged ≡ drop 2 d = drop-set-lt 2 (set d 0 48) 1 9 (omega arith) ∙ drop-set-lt 2 d 0 48 (omega arith) in
    let stands =
    wrote_as (take n (drop 2 tagged)) (take n (drop 2 d)) (ap (take n) e)
    (wrote-same {o = tagged} 2 n (omega (arith, tagged_length d, c.requires))) in
    let z : n + 3 ≡ 2 + n + 1 = omega arith in
    rw z (wrote_then (wrote_then (wrote_one 48) (wrote_one 9)) (wrote_then stands (wrote_one 10)))

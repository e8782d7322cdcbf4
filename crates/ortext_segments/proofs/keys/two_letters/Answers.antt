-- `ortext_segments::keys::two_letters` meets its contract: the entries of two letters are tried in the order of the table.
-- Assumes nothing.
use mathlib.Core.Path.{◌≡◌, sym, ◌∙◌}
use native.Mathlib.Omega.{arith}
use Prim.Native.Nat.{suc}
use lib.ListN.{drop}
use Rattle.chars.specs.Lists.{bytes}
use Rattle.ortext_segments.specs.Keys.{short_keys, key_number, keys}
use Rattle.ortext_segments.proofs.Laws.KeyLengths.{no_key, some_key, two_from, two-last, two_next}
use Rattle.ortext_segments.proofs.keys.two_letters.Goals as goal

pub returns-then-same_text : goal.returns-then-same_text
unfolding key_number keys bytes
returns-then-same_text c =
    some_key c.args.s.now _
    (let start = c in
    let s = start.args.s.now in
    let found : key_number (drop 4 keys) s ≡ 0 = rw (sym c.same_text.ensures ∙ c.if-same_text.true) in
    omega (arith, two_from s start.requires, found))
    (omega arith)

pub returns-then-same_text-2 : goal.returns-then-same_text-2
unfolding key_number keys bytes
returns-then-same_text-2 c =
    some_key c.args.s.now _
    (let start = c in
    let s = start.args.s.now in
    let other : key_number (drop 4 keys) s ≡ suc (key_number (drop 5 keys) s) = rw (sym c.same_text.ensures ∙ c.if-same_text.false) in
    let found : key_number (drop 8 keys) s ≡ 0 = rw (sym c.same_text-2.ensures ∙ c.if-same_text-2.true) in
    omega (arith, two_from s start.requires, other, two_next s start.requires, found))
    (omega arith)

pub returns-then-same_text-3 : goal.returns-then-same_text-3
unfolding key_number keys bytes
returns-then-same_text-3 c =
    some_key c.args.s.now _
    (let start = c in
    let s = start.args.s.now in
    let other : key_number (drop 4 keys) s ≡ suc (key_number (drop 5 keys) s) = rw (sym c.same_text.ensures ∙ c.if-same_text.false) in
    let found : key_number (drop 8 keys) s ≡ 1 = rw (sym c.same_text-2.ensures ∙ c.if-same_text-2.false, sym c.same_text-3.ensures ∙ c.if-same_text-3.true) in
    omega (arith, two_from s start.requires, other, two_next s start.requires, found))
    (omega arith)

pub returns-then-same_text-4 : goal.returns-then-same_text-4
unfolding key_number keys bytes
returns-then-same_text-4 c =
    some_key c.args.s.now _
    (let start = c in
    let s = start.args.s.now in
    let other : key_number (drop 4 keys) s ≡ suc (key_number (drop 5 keys) s) = rw (sym c.same_text.ensures ∙ c.if-same_text.false) in
    let found : key_number (drop 8 keys) s ≡ 2 = rw (sym c.same_text-2.ensures ∙ c.if-same_text-2.false, sym c.same_text-3.ensures ∙ c.if-same_text-3.false, sym c.same_text-4.ensures ∙ c.if-same_text-4.true) in
    omega (arith, two_from s start.requires, other, two_next s start.requires, found))
    (omega arith)

pub returns-then-same_text-5 : goal.returns-then-same_text-5
unfolding key_number keys bytes
returns-then-same_text-5 c =
    some_key c.args.s.now _
    (let start = c in
    let s = start.args.s.now in
    let other : key_number (drop 4 keys) s ≡ suc (key_number (drop 5 keys) s) = rw (sym c.same_text.ensures ∙ c.if-same_text.false) in
    let found : key_number (drop 8 keys) s ≡ 3 = rw (sym c.same_text-2.ensures ∙ c.if-same_text-2.false, sym c.same_text-3.ensures ∙ c.if-same_text-3.false, sym c.same_text-4.ensures ∙ c.if-same_text-4.false, sym c.same_text-5.ensures ∙ c.if-same_text-5.true) in
    omega (arith, two_from s start.requires, other, two_next s start.requires, found))
    (omega arith)

pub returns : goal.returns
unfolding key_number keys bytes
returns c =
    no_key c.args.s.now
    (let start = c in
    let s = start.args.s.now in
    let other : key_number (drop 4 keys) s ≡ suc (key_number (drop 5 keys) s) = rw (sym c.same_text.ensures ∙ c.if-same_text.false) in
    let none : key_number (drop 8 keys) s ≡ suc (suc (suc (suc (key_number (drop short_keys keys) s)))) = rw (sym c.same_text-2.ensures ∙ c.if-same_text-2.false, sym c.same_text-3.ensures ∙ c.if-same_text-3.false, sym c.same_text-4.ensures ∙ c.if-same_text-4.false, sym c.same_text-5.ensures ∙ c.if-same_text-5.false) in
    omega (arith, two_from s start.requires, other, two_next s start.requires, none, two-last s start.requires))

-- `ortext_segments::keys::longer_key` meets its contract: the entries of more than two letters are tried in the order of the table.
-- Assumes nothing.
use mathlib.Core.Path.{◌≡◌, sym, ◌∙◌}
use Prim.Native.Nat.{suc}
use native.Mathlib.Omega.{arith}
use lib.ListN.{drop}
use Rattle.chars.specs.Lists.{bytes}
use Rattle.ortext_segments.specs.Keys.{short_keys, key_number, keys}
use Rattle.ortext_segments.proofs.Laws.KeyLengths.{no_key, some_key, long_from, long_short}
use Rattle.ortext_segments.proofs.keys.longer_key.Goals as goal

pub returns-then-same_text : goal.returns-then-same_text
unfolding key_number keys bytes
returns-then-same_text c =
    some_key c.args.s.now _
    (let start = c in
    let s = start.args.s.now in
    let from = long_from s start.requires.0 start.requires.1 in
    let found : key_number (drop 1 keys) s ≡ 0 = rw (sym c.same_text.ensures ∙ c.if-same_text.true) in
    omega (arith, from, found))
    (omega arith)

pub returns-then-same_text-2 : goal.returns-then-same_text-2
unfolding key_number keys bytes
returns-then-same_text-2 c =
    some_key c.args.s.now _
    (let start = c in
    let s = start.args.s.now in
    let from = long_from s start.requires.0 start.requires.1 in
    let found : key_number (drop 1 keys) s ≡ 1 = rw (sym c.same_text.ensures ∙ c.if-same_text.false, sym c.same_text-2.ensures ∙ c.if-same_text-2.true) in
    omega (arith, from, found))
    (omega arith)

pub returns-then-same_text-3 : goal.returns-then-same_text-3
unfolding key_number keys bytes
returns-then-same_text-3 c =
    some_key c.args.s.now _
    (let start = c in
    let s = start.args.s.now in
    let from = long_from s start.requires.0 start.requires.1 in
    let behind : key_number (drop 1 keys) s ≡ suc (suc (key_number (drop 3 keys) s)) = rw (sym c.same_text.ensures ∙ c.if-same_text.false, sym c.same_text-2.ensures ∙ c.if-same_text-2.false) in
    let last : key_number (drop short_keys keys) s ≡ 0 = rw (sym c.same_text-3.ensures ∙ c.if-same_text-3.true) in
    omega (arith, from, behind, long_short s start.requires.0 start.requires.1, last))
    (omega arith)

pub returns : goal.returns
unfolding key_number keys bytes
returns c =
    no_key c.args.s.now
    (let start = c in
    let s = start.args.s.now in
    let from = long_from s start.requires.0 start.requires.1 in
    let behind : key_number (drop 1 keys) s ≡ suc (suc (key_number (drop 3 keys) s)) = rw (sym c.same_text.ensures ∙ c.if-same_text.false, sym c.same_text-2.ensures ∙ c.if-same_text-2.false) in
    let last : key_number (drop short_keys keys) s ≡ 1 = rw (sym c.same_text-3.ensures ∙ c.if-same_text-3.false) in
    omega (arith, from, behind, long_short s start.requires.0 start.requires.1, last))

-- `mapping_to_address::carrier::write_value` meets its contract: what a value decodes to is no longer than the value.
-- Assumes nothing.
use borrow.Author.Rules.{rules}
use mathlib.Core.Path.{◌≡◌, refl, sym, ap}
use mathlib.Core.List.{List}
use Prim.Native.Nat.{ℕ, ◌≤◌}
use native.Mathlib.Omega.{arith}
use lib.ListN.{length, length-take, replicate}
use lib.Seq.{length-take-le}
use Rattle.std.proofs.Common.{Some}
use Rattle.oraddr.specs.View.{DdValue, dd_value_view}
use Rattle.mailaddr.specs.Answers.{Decoding}
use Rattle.mapping.specs.ToAddress.{in_shape}
use Rattle.mapping.proofs.Laws.Carrier.{decoded-fits, decoded-front}
use Rattle.mapping_to_address.proofs.carrier.write_value.Goals as goal

-- the decoded text is within the buffer, and no longer than the value's room
fits : (v : DdValue) (d : List ℕ) (n : ℕ) → length v.bytes ≡ 128 → Decoding (dd_value_view v) (replicate 128 0) (Some n) d
    → (n ≤ length d) × (n ≤ 128)
fits v d n room h =
    let l = length-take v.len v.bytes in
    let f = decoded-fits (dd_value_view v) (replicate 128 0) d n h (omega arith) in
    (f.0, omega (arith, f.1))

pub decode-requires : goal.decode-requires
decode-requires c =
    let v = c.args.value in
    let room : length v.bytes ≡ 128 = search rules in
    rw c.text.ensures (omega (arith, length-take v.len v.bytes))

pub returns-in_err-n : goal.returns-in_err-n
unfolding in_shape Decoding
returns-in_err-n c =
    rw c.from_residual.ensures (rw c.text.ensures at (ap in_shape c.in_err-n.ensures), refl)

pub slice_bounds-address-end : goal.slice_bounds-address-end
slice_bounds-address-end c =
    let v = c.args.value in
    (fits v c.decode.new.dst c.in_ok-n.n (search rules) (rw c.text.ensures at c.in_ok-n.ensures)).0

pub slice_bounds-put_address-end : goal.slice_bounds-put_address-end
slice_bounds-put_address-end c =
    let v = c.args.value in
    sym (length-take-le c.in_ok-n.n c.decode.new.dst (fits v c.decode.new.dst c.in_ok-n.n (search rules) (rw c.text.ensures at c.in_ok-n.ensures)).0)

pub put_address-requires : goal.put_address-requires
put_address-requires c =
    let v = c.args.value in
    let f = fits v c.decode.new.dst c.in_ok-n.n (search rules) (rw c.text.ensures at c.in_ok-n.ensures) in
    let l = length-take-le c.in_ok-n.n c.decode.new.dst f.0 in
    record { s_len_bound = omega (arith, f.1); s_in_bounds = omega (arith, f.1, c.requires) }

pub returns : goal.returns
returns c =
    let v = c.args.value in
    rw (decoded-front (dd_value_view v) (replicate 128 0) c.decode.new.dst c.in_ok-n.n (rw c.text.ensures at c.in_ok-n.ensures)) c.put_address.ensures

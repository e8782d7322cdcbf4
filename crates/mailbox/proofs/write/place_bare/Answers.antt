-- `mailbox::write::place_bare` meets its contract: what is tested is whether the address fits.
-- Assumes nothing.
use Rattle.std.proofs.Common.{◌∷◌, ◌++◌, ◌∙◌, ◌≤◌, length, arith, ap, sym, Some}
use Rattle.chars.proofs.Laws.Write.{placed_fits, placed_short, wrote-front}
use native.Mathlib.Nat.{zero-add}
use Rattle.mailbox.specs.Mailbox.{local_text}
use Rattle.mailbox.proofs.Laws.Written.{length-bare, length-local}
use Rattle.mailbox.proofs.write.place_bare.Goals as goal

pub overflow_add-local_size : goal.overflow_add-local_size
overflow_add-local_size c =
    let a = c.args in
    omega (arith, length-local a.quoted a.local.now, c.local_size.ensures, c.requires.0)

pub overflow_add-local_size-2 : goal.overflow_add-local_size-2
overflow_add-local_size-2 c =
    let a = c.args in
    omega (arith, length-local a.quoted a.local.now, c.local_size.ensures, c.requires.0, c.requires.1)

pub returns-then-out-local_size : goal.returns-then-out-local_size
returns-then-out-local_size c =
    let a = c.args in
    let t = local_text a.quoted a.local.now in
    let p = placed_short (t ++ 64 ∷ a.domain.now) a.out.now (omega (arith, length-bare t a.domain.now, c.local_size.ensures, c.if-out-local_size.true)) in
    record { size = sym p.0; buffer = sym p.1 }

pub put_bare-requires : goal.put_bare-requires
put_bare-requires c =
    let a = c.args in
    omega (arith, length-bare (local_text a.quoted a.local.now) a.domain.now, c.local_size.ensures, c.if-out-local_size.false)

pub returns : goal.returns
returns c =
    let a = c.args in
    let t = local_text a.quoted a.local.now in
    let h : length (t ++ 64 ∷ a.domain.now) ≤ length a.out.now = omega (arith, length-bare t a.domain.now, c.local_size.ensures, c.if-out-local_size.false) in
    let p = placed_fits (t ++ 64 ∷ a.domain.now) a.out.now h in
    let w = c.put_bare.ensures in
    record { size = ap Some (w.moved ∙ zero-add (length (t ++ 64 ∷ a.domain.now))) ∙ sym p.0; buffer = wrote-front w h ∙ sym p.1 }

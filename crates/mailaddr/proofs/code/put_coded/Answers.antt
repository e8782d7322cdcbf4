-- `mailaddr::code::put_coded` meets its contract. The loop's invariant: what is written is the coded form of the text up to a place, in
-- at most five bytes for each byte.
-- Assumes nothing.
use Rattle.std.proofs.Common.{◌∙◌, arith, refl, get_or}
use Rattle.chars.proofs.Laws.Write.{sets-front, wrote-length}
use Rattle.mailaddr.specs.Code.{coded}
use Rattle.mailaddr.proofs.Laws.Code.{char_length, coding-end, coding-start, coding_step}
use Rattle.mailaddr.proofs.code.put_coded.Goals as goal

pub loop-b-init : goal.loop-b-init
loop-b-init c = (omega arith, refl, coding-start c.args.s.now c.args.dst.now)

pub loop-b-preserved : goal.loop-b-preserved
loop-b-preserved c =
    let l = c.loop-b in
    let w = c.put_char-at.ensures in (
      omega (arith, w.moved, (char_length l.spaced (get_or c.args.s.now l.b-index 0)).1),
      wrote-length w ∙ l.invariant.1,
      coding_step l.invariant.2 (omega arith) w,
    )

pub returns : goal.returns
returns c =
    let w = coding-end c.loop-b.invariant.2 (omega arith) in
    record { value = omega (arith, w.moved); dst_after = w.holds ∙ sets-front c.args.dst.now (coded c.args.s.now) }

-- `text_cases::print::print_initials` is safe: there is room for the initials, and they stand in the text.
-- Assumes nothing.
use borrow.Author.Rules.{rules}
use mathlib.Core.Path.{sym}
use lib.Seq.{length-take-le}
use Rattle.text_cases.proofs.print.print_initials.Goals as goal

pub slice_bounds-say-end : goal.slice_bounds-say-end
slice_bounds-say-end c =
    let n = c.args.n in
    sym (length-take-le n c.put_initials.new.dst (search rules))

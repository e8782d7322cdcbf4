-- `ortext_write::write::write_local` meets its contract: the short form or record text.
-- Assumes nothing.
use mathlib.Core.Path.{sym, ap, ◌∙◌}
use native.Mathlib.Omega.{arith}
use lib.ListN.{length}
use Rattle.oraddr.specs.View.{view}
use Rattle.ortext_name.specs.Name.{name_text}
use Rattle.ortext_write.specs.Write.{remaining}
use Rattle.ortext_write.proofs.Laws.Write.{local_long, local-short, name_left}
use Rattle.ortext_write.proofs.write.write_local.Goals as goal

pub put-requires : goal.put-requires
put-requires c =
    let name = c.name_in.ensures ∙ name_left c.args.from (view c.args.rec) in
    let short = local-short (remaining c.args.from (view c.args.rec)) (sym c.is_written_short.ensures ∙ c.if-is_written_short.true) in
    omega (arith, ap (λ n. length (name_text n)) name, ap length short, c.requires)

pub returns-then-is_written_short : goal.returns-then-is_written_short
returns-then-is_written_short c =
    let name = c.name_in.ensures ∙ name_left c.args.from (view c.args.rec) in
    let short = local-short (remaining c.args.from (view c.args.rec)) (sym c.is_written_short.ensures ∙ c.if-is_written_short.true) in
    rw (short, sym name) c.put.ensures

pub write_text-requires : goal.write_text-requires
write_text-requires c =
    let long = local_long (remaining c.args.from (view c.args.rec)) (sym c.is_written_short.ensures ∙ c.if-is_written_short.false) in
    omega (arith, ap length long, c.requires)

pub returns : goal.returns
returns c =
    rw (local_long (remaining c.args.from (view c.args.rec)) (sym c.is_written_short.ensures ∙ c.if-is_written_short.false)) c.write_text.ensures

-- `ortext_write::write::put_dd` meets its contract: the short form or the long one.
-- Assumes nothing.
use mathlib.Core.Path.{sym, ◌∙◌}
use lib.Dec.{lit<}
use Rattle.ortext_write.proofs.Laws.Write.{dd_long, dd-short}
use Rattle.ortext_write.proofs.write.put_dd.Goals as goal

pub put_segment-requires : goal.put_segment-requires
put_segment-requires c = record {
  key = lit< tt;
  room = rw (dd-short c.args.kind.now c.args.value.now (sym c.is_short_kind.ensures ∙ c.if-is_short_kind.true)) at c.requires;
}

pub returns-then-is_short_kind : goal.returns-then-is_short_kind
returns-then-is_short_kind c =
    rw (dd-short c.args.kind.now c.args.value.now (sym c.is_short_kind.ensures ∙ c.if-is_short_kind.true)) c.put_segment.ensures

pub put_long_dd-requires : goal.put_long_dd-requires
put_long_dd-requires c =
    rw (dd_long c.args.kind.now c.args.value.now (sym c.is_short_kind.ensures ∙ c.if-is_short_kind.false)) at c.requires

pub returns : goal.returns
returns c = rw (dd_long c.args.kind.now c.args.value.now (sym c.is_short_kind.ensures ∙ c.if-is_short_kind.false)) c.put_long_dd.ensures

-- `text_cases::settled::with_single` is safe and changes no DD.
-- Assumes nothing.
use Rattle.text_cases.proofs.Laws.{single-dds}
use Rattle.text_cases.proofs.settled.with_single.Goals as goal

pub returns-in-0 : goal.returns-in-0
returns-in-0 c = single-dds c.with_single.result c.args.rec _ _ c.with_single.ensures

pub returns-in-1 : goal.returns-in-1
returns-in-1 c = single-dds c.with_single-in-1.result c.args.rec _ _ c.with_single-in-1.ensures

pub returns-in-2 : goal.returns-in-2
returns-in-2 c = single-dds c.with_single-in-2.result c.args.rec _ _ c.with_single-in-2.ensures

pub returns-in_default : goal.returns-in_default
returns-in_default c = single-dds c.with_single-in_default.result c.args.rec _ _ c.with_single-in_default.ensures

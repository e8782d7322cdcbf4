-- `text_cases::settled::with_unit` is safe and changes no DD.
-- Assumes nothing.
use Rattle.text_cases.proofs.Laws.{unit_dds}
use Rattle.text_cases.proofs.settled.with_unit.Goals as goal

pub returns-in-4 : goal.returns-in-4
returns-in-4 c = unit_dds c.with_unit.result c.args.rec _ c.with_unit.ensures

pub returns-in-5 : goal.returns-in-5
returns-in-5 c = unit_dds c.with_unit-in-5.result c.args.rec _ c.with_unit-in-5.ensures

pub returns-in-6 : goal.returns-in-6
returns-in-6 c = unit_dds c.with_unit-in-6.result c.args.rec _ c.with_unit-in-6.ensures

pub returns-in_default : goal.returns-in_default
returns-in_default c = unit_dds c.with_unit-in_default.result c.args.rec _ c.with_unit-in_default.ensures

-- `router::run::open` meets its contract.
-- Assumes nothing.
use Rattle.table_load.proofs.Laws.Ready.{loading_ready}
use Rattle.router.proofs.run.open.Goals as goal

pub returns : goal.returns
returns c =
    let l = c.load in
    let a = c.args in
    record { answers = l.ensures.answers; ready = loading_ready a.text.now l.new.to_path l.new.to_domain l.result l.ensures }

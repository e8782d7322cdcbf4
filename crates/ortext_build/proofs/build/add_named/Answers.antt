-- `ortext_build::build::add_named` meets its contract.
-- Assumes nothing.
use mathlib.Core.Path.{sym, ap, ◌∙◌}
use Rattle.oraddr.specs.Add.{told}
use Rattle.ortext_segments.specs.Keys.{pn_key}
use Rattle.ortext_build.specs.Adding.{add_dds, add_units, done, held_dds, held_units}
use Rattle.ortext_build.proofs.Laws.Adding.{held_pn, held_pn_stop, held_stop, told-done, told_none, told-refused, told-some}
use Rattle.ortext_build.proofs.build.add_named.Goals as goal

pub returns-in_default : goal.returns-in_default
returns-in_default c =
    let t = c in
    let s = t.args.s.now in
    let m = t.args.named in
    let r = t.args.rec in
    let a = c.add_singles-singles in
    ap done (held_stop s m r (told a.result) a.ensures (told-refused a.result c.in_default.is))

pub add_pn-name-requires : goal.add_pn-name-requires
add_pn-name-requires c = c.requires.once pn_key

pub returns-in_default-answer : goal.returns-in_default-answer
returns-in_default-answer c =
    let t = c in
    let s = t.args.s.now in
    let m = t.args.named in
    let r = t.args.rec in
    let a = c.add_singles-singles in
    let b = c.add_pn-name in
    b.ensures ∙ ap done (held_pn_stop s m r (told a.result) a.ensures a.result.«record» (told-done a.result c.in-Done.is) (sym b.ensures ∙ told_none b.result c.in_default-answer.is))

pub returns : goal.returns
returns c =
    let t = c in
    let s = t.args.s.now in
    let m = t.args.named in
    let r = t.args.rec in
    let a = c.add_singles-singles in
    let b = c.add_pn-name in
    let done-b = c.in-Done-answer.is in
    ap done (c.add_dds.ensures ∙ ap (add_dds (held_dds s m)) (c.add_units.ensures ∙ ap (add_units (held_units s m)) (told-done b.result done-b))
    ∙ sym (held_pn s m r (told a.result) a.ensures a.result.«record» (told-done a.result c.in-Done.is) b.result.«record» (sym b.ensures ∙ told-some b.result done-b)))

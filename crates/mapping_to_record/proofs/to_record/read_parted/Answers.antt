-- `mapping_to_record::to_record::read_parted` meets its contract: the domain's parts are tested first, then it is settled, and where it settles
-- levels the local part is read over them.
-- Assumes nothing.
use mathlib.Core.Path.{◌≡◌, sym, ap, ◌∙◌}
use mathlib.Core.Bool.{Bool}
use mathlib.Core.List.{List}
use Prim.Native.Nat.{ℕ, ◌+◌, ◌-◌}
use lib.ListN.{length, take, drop}
use Rattle.ortext_read.proofs.Laws.Answers.{answer-unread}
use Rattle.ortext_read.specs.Answers.{reading_result}
use Rattle.mailaddr.specs.Answers.{address_at, local_at}
use Rattle.mailaddr.specs.Domain.{is_domain}
use Rattle.chars.proofs.Laws.Seq.{rest_of}
use Rattle.table.specs.Table.{Table}
use Rattle.mapping.specs.Answers.{inward}
use Rattle.table_settle.specs.Settle.{Settling}
use Rattle.mapping.specs.Carried.{settled_under}
use Rattle.mapping.proofs.Laws.Steps.{well_other, well_settled, well_unsettled}
use Rattle.mapping_to_record.proofs.to_record.read_parted.Goals as goal

-- the domain is what stands behind the `@`
tested : {r b : Bool} (k : ℕ) (s : List ℕ) → r ≡ is_domain (take (length s - (k + 1)) (drop (k + 1) s)) → r ≡ b → is_domain (drop (k + 1) s) ≡ b
tested k s h e = sym (h ∙ ap is_domain (rest_of (k + 1) s)) ∙ e

settles : {x : Settling} (t : Table) (k : ℕ) (s : List ℕ) → x ≡ settled_under t (take (length s - (k + 1)) (drop (k + 1) s))
    → settled_under t (drop (k + 1) s) ≡ x
settles t k s h = sym (h ∙ ap (settled_under t) (rest_of (k + 1) s))

pub returns-then-not-is_domain : goal.returns-then-not-is_domain
unfolding address_at
returns-then-not-is_domain c =
    let a = c.args in
    answer-unread (well_other (inward a.table.now.text.now a.table.now.to_path.now a.table.now.loaded) (address_at a.s.now a.parted) (tested a.parted.at a.s.now c.is_domain.ensures c.if-not-is_domain.true))

pub returns : goal.returns
unfolding address_at local_at
returns c =
    let a = c.args in
    let t = inward a.table.now.text.now a.table.now.to_path.now a.table.now.loaded in
    let d = tested a.parted.at a.s.now c.is_domain.ensures c.if-not-is_domain.false in
    c.read_under.ensures
    ∙ ap reading_result (sym (well_settled t (address_at a.s.now a.parted) d _ _
    (settles t a.parted.at a.s.now (rw c.in-Ok.is at c.settle_under.ensures))))

pub returns-in_default : goal.returns-in_default
unfolding address_at
returns-in_default c =
    let a = c.args in
    let t = inward a.table.now.text.now a.table.now.to_path.now a.table.now.loaded in
    let d = tested a.parted.at a.s.now c.is_domain.ensures c.if-not-is_domain.false in
    answer-unread (well_unsettled t (address_at a.s.now a.parted) d _ (settles t a.parted.at a.s.now (rw c.in_default.is at c.settle_under.ensures)))

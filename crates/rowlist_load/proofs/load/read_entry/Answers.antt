-- `rowlist_load::load::read_entry` meets its contract: the kind is tested first, then that both parts are in the text, then the parts.
-- Assumes nothing.
use Rattle.std.proofs.Common.{◌∙◌, sym, ◌+◌, ◌≤◌, length, arith}
use borrow.Author.Tests.{le-leb, lt-leb}
use Rattle.table.specs.Rows.{between}
use Rattle.rowlist_load.specs.Listed.{domain_part}
use Rattle.rowlist_load.proofs.Laws.Entry.{entry_found, entry_long, entry_no_domain, entry_no_path, entry_other, entry_out_domain, entry_out_path}
use Rattle.rowlist_load.proofs.load.read_entry.Goals.{then-most-entry-via-then-most-entry, then-most-entry-via-else-most-entry+then-not-is_domain}
use Rattle.rowlist_load.proofs.load.read_entry.Goals as goal

pub returns-then-entry-kind : goal.returns-then-entry-kind
returns-then-entry-kind c = entry_other c.args.text.now c.args.entry c.args.kind c.args.most c.if-entry-kind.true

pub returns-in_err-domain_end : goal.returns-in_err-domain_end
returns-in_err-domain_end c =
    let a = c.args in
    let e = a.entry in
    let out : e.domain + e.domain_len ≤ length a.text.now → ⊥ = c.in_err-domain_end.ensures in
    rw c.from_residual.ensures
    (entry_out_domain a.text.now e a.kind a.most (lt-leb (e.domain + e.domain_len) (length a.text.now) (omega arith)))

pub returns-in_err-path_end : goal.returns-in_err-path_end
returns-in_err-path_end c =
    let a = c.args in
    let e = a.entry in
    let out : e.path + e.path_len ≤ length a.text.now → ⊥ = c.in_err-path_end.ensures in
    rw c.from_residual-in_err-path_end.ensures
    (entry_out_path a.text.now e a.kind a.most (lt-leb (e.path + e.path_len) (length a.text.now) (omega arith)))

pub returns-then-most-entry : goal.returns-then-most-entry
unfolding between domain_part
returns-then-most-entry c =
    let a = c.args in
    let e = a.entry in
    let domain = c.in_ok-domain_end.ensures in
    let path = c.in_ok-path_end.ensures in
    let d = le-leb (e.domain + e.domain_len) (length a.text.now) domain.0 in
    let p = le-leb (e.path + e.path_len) (length a.text.now) path.0 in
    elim c.then-most-entry.branch [
      | then-most-entry-via-then-most-entry w ↦
          entry_long a.text.now e a.kind a.most c.if-entry-kind.false c.requires.no_tab d p w.if-most-entry.true
      | then-most-entry-via-else-most-entry+then-not-is_domain w ↦
          entry_no_domain a.text.now e a.kind a.most c.if-entry-kind.false c.requires.no_tab d p
          (rw domain.1 at (sym w.is_domain.ensures ∙ w.if-not-is_domain.true))
    ]

pub returns-then-not-is_path : goal.returns-then-not-is_path
returns-then-not-is_path c =
    let a = c.args in
    let e = a.entry in
    let path = c.in_ok-path_end.ensures in
    entry_no_path a.text.now e a.kind a.most c.if-entry-kind.false c.requires.no_tab
    (le-leb (e.domain + e.domain_len) (length a.text.now) c.in_ok-domain_end.ensures.0)
    (le-leb (e.path + e.path_len) (length a.text.now) path.0)
    (rw path.1 at (sym c.is_path.ensures ∙ c.if-not-is_path.true))

pub returns : goal.returns
unfolding between domain_part
returns c =
    let a = c.args in
    let e = a.entry in
    let domain = c.in_ok-domain_end.ensures in
    let path = c.in_ok-path_end.ensures in
    rw (domain.1, path.1)
    (entry_found a.text.now e a.kind a.most c.if-entry-kind.false c.requires.no_tab
    (le-leb (e.domain + e.domain_len) (length a.text.now) domain.0)
    (le-leb (e.path + e.path_len) (length a.text.now) path.0)
    c.if-most-entry.false c.requires.most_le_longest_gateway_domain
    (rw domain.1 at (sym c.is_domain.ensures ∙ c.if-not-is_domain.false))
    (rw path.1 at (sym c.is_path.ensures ∙ c.if-not-is_path.false)))

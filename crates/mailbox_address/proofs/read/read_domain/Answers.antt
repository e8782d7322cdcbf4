-- `mailbox_address::read::read_domain` meets its contract.
-- Assumes nothing.
use Rattle.std.proofs.Common.{◌≡◌, ◌∙◌, arith, sym, ap, false, List, length, take, Ok, Err}
use Rattle.std.proofs.lemmas.Result.{err_from_is_err_and}
use lib.Seq.{length-take-le}
use Rattle.mailbox_address.specs.Answers.{after, told_dotted}
use Rattle.mailbox_address.specs.Grammar.{allowed, dotted}
use Rattle.lexical.specs.Tokens.{Token, tokens_at}
use Rattle.mailbox_address.proofs.Laws.Spec.{domain-read, domain-unread, unread}
use Rattle.mailbox_address.proofs.read.read_domain.Goals as goal

pub returns-in_err-d : goal.returns-in_err-d
returns-in_err-d c =
    let a = c.args in
    let new = c.read_dotted.new.dst in
    let x = take a.l.size a.dst.now in
    let t = c.in_err-d.field-0.0 in
    let read : told_dotted a.s.now (Err t) new ≡ after x false (dotted (allowed false) (tokens_at a.s.now a.l.next.end)) =
    c.in_err-d.ensures.told ∙ ap (λ (ts : List Token). after x false (dotted (allowed false) ts)) (sym c.next_token-first.ensures.tokens) in
    let p = err_from_is_err_and c.from_residual.result c.from_residual.ensures.1 in
    rw (p.1, p.2) (unread (domain-unread a.s.now new x a.l.quoted t (tokens_at a.s.now a.l.next.end) read) c.in_err-d.ensures.stands)

pub returns : goal.returns
returns c =
    let a = c.args in
    let d = c.in_ok-d.d in
    let new = c.read_dotted.new.dst in
    let x = take a.l.size a.dst.now in
    let read : told_dotted a.s.now (Ok d) new ≡ after x false (dotted (allowed false) (tokens_at a.s.now a.l.next.end)) =
    c.in_ok-d.ensures.told ∙ ap (λ (ts : List Token). after x false (dotted (allowed false) ts)) (sym c.next_token-first.ensures.tokens) in
    let l : length x ≡ a.l.size =
    length-take-le a.l.size a.dst.now (omega (arith, c.requires.stands.ordered, c.requires.stands.high, c.requires.size_le_start)) in
    let p = domain-read a.s.now new x a.l.quoted d (tokens_at a.s.now a.l.next.end) read a.l.size l in
    record { told = p.0; stands = c.in_ok-d.ensures.stands; low = c.in_ok-d.ensures.low; parted = p.1 }

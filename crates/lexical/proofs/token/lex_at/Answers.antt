-- `lexical::token::lex_at` meets its contract: a law for each kind of lexeme.
-- Assumes nothing.
use Rattle.std.proofs.Common.{◌∙◌, ◌+◌, arith, rules, sym, ap, drop}
use lib.ListN.{length-drop}
use Rattle.chars.proofs.Laws.Seq.{rest_of}
use Rattle.lexical.specs.Tokens.{atom_run}
use Rattle.lexical.proofs.Laws.Tokens.{atom_within, lex_atom, lex_bad, lex_end, lex_quoted, lex_special, lex_unclosed}
use Rattle.lexical.proofs.token.lex_at.Goals as goal

pub returns-then-s-i : goal.returns-then-s-i
returns-then-s-i c = rw c.new.ensures (lex_end c.args.s.now c.args.i c.requires.i_in_bounds (omega arith))

pub overflow_add-i-in_default-2 : goal.overflow_add-i-in_default-2
overflow_add-i-in_default-2 c =
    let rest = drop (c.args.i + 1) c.args.s.now in
    omega (arith, c.atom_run.ensures, ap atom_run (rest_of (c.args.i + 1) c.args.s.now), atom_within rest, length-drop (c.args.i + 1) c.args.s.now)

pub returns-then-is_atom_char : goal.returns-then-is_atom_char
returns-then-is_atom_char c =
    let i = c.args.i in
    let s = c.args.s.now in
    rw c.new-in_default.ensures
    (lex_atom s i (omega arith) c.requires.s_value (sym c.is_atom_char.ensures ∙ c.if-is_atom_char.true) (i + 1 + c.atom_run.result)
    (ap (λ n. i + 1 + n) (c.atom_run.ensures ∙ ap atom_run (rest_of (i + 1) s))))

pub returns-then-is_mailbox_special : goal.returns-then-is_mailbox_special
returns-then-is_mailbox_special c =
    rw c.new-in_default-2.ensures
    (lex_special c.args.s.now c.args.i (omega arith) c.requires.s_value
    (sym c.is_atom_char.ensures ∙ c.if-is_atom_char.false)
    (sym c.is_mailbox_special.ensures ∙ c.if-is_mailbox_special.true))

pub returns-in-Some : goal.returns-in-Some
returns-in-Some c =
    rw c.new-in-Some.ensures
    (lex_quoted c.args.s.now c.args.i (omega arith) c.requires.s_value c.in-34.is c.in-Some.end (sym c.in-Some.ensures))

pub returns-in-None : goal.returns-in-None
returns-in-None c =
    rw c.new-in-None.ensures
    (lex_unclosed c.args.s.now c.args.i (omega arith) c.requires.s_value c.in-34.is (sym c.quoted_end.ensures ∙ c.in-None.is))

pub returns-in_default-3 : goal.returns-in_default-3
returns-in_default-3 c =
    rw c.new-in_default-3.ensures
    (lex_bad c.args.s.now c.args.i (omega arith) c.requires.s_value
    (sym c.is_atom_char.ensures ∙ c.if-is_atom_char.false)
    (sym c.is_mailbox_special.ensures ∙ c.if-is_mailbox_special.false)
    (search rules))

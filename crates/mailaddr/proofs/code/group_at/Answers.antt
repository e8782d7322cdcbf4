-- `mailaddr::code::group_at` meets its contract: each way out is a law of what a text decodes to by its first characters.
-- Assumes nothing.
use Rattle.std.proofs.Common.{◌+◌, ◌∙◌, arith, sym, get_or, drop}
use mathlib.Core.Bool.{and-false}
use borrow.Author.Tests.{lt-leb, ne_eqb}
use Rattle.chars.specs.Class.{highest_code}
use Rattle.chars.specs.Digits.{spelt_character, three_digits}
use Rattle.chars.proofs.Laws.Digits.{character_none, character_some}
use Rattle.chars.proofs.Laws.Seq.{front-there}
use Rattle.mailaddr.specs.Answers.{from_group, letter_group}
use Rattle.mailaddr.proofs.Laws.Code.{close_there, group_close, group_letter, group_none, group_number, group_plain}
use Rattle.mailaddr.proofs.Laws.Options.{unless-none, unless-some}
use Rattle.mailaddr.proofs.code.group_at.Goals as goal

pub returns-then-b-eq41 : goal.returns-then-b-eq41
unfolding from_group
returns-then-b-eq41 c =
    let s = c.args.s.now in
    let i = c.args.at in
    record {
      spans = tt;
      holds = rw (front-there s i (omega arith)) (group_close (get_or s i 0) (drop (i + 1) s) c.if-b-eq41.true);
    }

pub returns-then-b-ne40 : goal.returns-then-b-ne40
unfolding from_group
returns-then-b-ne40 c =
    let s = c.args.s.now in
    let i = c.args.at in
    record {
      spans = (omega arith, omega arith);
      holds = rw (front-there s i (omega arith)) (group_plain (get_or s i 0) (drop (i + 1) s) c.if-b-ne40.true c.if-b-eq41.false);
    }

pub returns-in-Some : goal.returns-in-Some
unfolding from_group
returns-in-Some c =
    let s = c.args.s.now in
    let i = c.args.at in
    let k = unless-some (letter_group (drop (i + 1) s)) c.in-Some.ensures in
    record {
      spans = (omega arith, omega arith);
      holds = rw (front-there s i (omega arith), sym k.0)
          (group_letter (get_or s i 0) (drop (i + 1) s) c.if-b-ne40.false (λ q. k.1 (sym k.0 ∙ q)));
    }

pub returns-then-byte_at-ne41 : goal.returns-then-byte_at-ne41
unfolding from_group
returns-then-byte_at-ne41 c =
    let s = c.args.s.now in
    let i = c.args.at in
    record {
      spans = tt;
      holds = rw (front-there s i (omega arith))
          (group_none (get_or s i 0) (drop (i + 1) s) c.if-b-ne40.false
          (unless-none (letter_group (drop (i + 1) s)) (sym c.in_default.is ∙ c.letter_at.ensures))
          (rw (close_there s i, ne_eqb (get_or s (i + 4) 0) 41 (λ q. c.if-byte_at-ne41.true (c.byte_at.ensures ∙ q)))));
    }

pub returns-in_err-char : goal.returns-in_err-char
unfolding from_group spelt_character
returns-in_err-char c =
    let s = c.args.s.now in
    let i = c.args.at in
    rw c.from_residual.ensures
    (record {
      spans = tt;
      holds = rw (front-there s i (omega arith))
          (group_none (get_or s i 0) (drop (i + 1) s) c.if-b-ne40.false
          (unless-none (letter_group (drop (i + 1) s)) (sym c.in_default.is ∙ c.letter_at.ensures))
          (rw (lt-leb (three_digits (drop (i + 1) s)) highest_code (character_none (drop (i + 1) s) c.in_err-char.ensures), and-false)));
    })

pub returns : goal.returns
unfolding from_group spelt_character
returns c =
    let s = c.args.s.now in
    let i = c.args.at in
    let k = character_some (drop (i + 1) s) c.in_ok-char.char c.in_ok-char.ensures in
    record {
      spans = (omega arith, omega arith);
      holds = rw (front-there s i (omega arith), k.0)
          (group_number (get_or s i 0) (drop (i + 1) s) c.if-b-ne40.false
          (unless-none (letter_group (drop (i + 1) s)) (sym c.in_default.is ∙ c.letter_at.ensures))
          (close_there s i ∙ sym c.byte_at.ensures ∙ c.if-byte_at-ne41.false)
          k.1);
    }

-- A comment nested eight deep is read over, and one nested nine deep is refused for its depth.
-- Assumes nothing.
use mathlib.Core.Path.{◌≡◌, refl}
use mathlib.Core.Bool.{false}
use Rattle.chars.specs.Class.{between, is_atom_char}
use Rattle.chars.specs.Lists.{bytes, first, member}
use Rattle.chars.specs.Parts.{join}
use Rattle.mailaddr.specs.Shape.{more}
use Rattle.lexical.specs.Comment.{comment, content, content_by, content_step}
use Rattle.mailbox_address.specs.Grammar.{addr_spec, allowed, alone, any_quoted, at_domain, behind, domain, dotted, ended, local_part, mailbox, meaning_of, or_else, whole, with_domain, with_local}
use Rattle.mailbox.specs.Mailbox.{bare_in, bare_of, empty_start, read, reading, reading_of, too_deep}
use Rattle.lexical.specs.Nesting.{deepest, nest_comment, nest_of, nest_outside, nests_too_deep}
use Rattle.lexical.specs.Space.{is_fold, is_space}
use Rattle.lexical.specs.Tokens.{atom_run, comment_size, gap, is_mailbox_special, tokens_at, tokens_from}
use Rattle.lexical.proofs.Laws.Depth.{nested}

pub eight_deep : reading (nested 8) ≡ read (record { local = bytes "a"; is_quoted = false; domain = bytes "b"; phrase = empty_start })
unfolding addr_spec allowed alone any_quoted at_domain atom_run bare_in bare_of behind between bytes comment comment_size content content_by content_step deepest domain dotted ended first gap is_atom_char is_fold is_space is_mailbox_special join local_part mailbox meaning_of member more nest_comment nest_of nest_outside nests_too_deep or_else reading reading_of tokens_at tokens_from whole with_domain with_local nested
eight_deep = refl

pub nine_deep : reading (nested 9) ≡ too_deep
unfolding deepest bytes nest_comment nest_of nest_outside nests_too_deep reading nested
nine_deep = refl

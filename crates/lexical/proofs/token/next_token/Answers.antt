-- `lexical::token::next_token` meets its contract: the first lexeme behind white space and comments.
-- Assumes nothing.
use Rattle.lexical.proofs.Laws.Tokens.{lexed-behind}
use Rattle.lexical.proofs.token.next_token.Goals as goal

pub returns : goal.returns
returns c = lexed-behind c.skip_gaps.ensures c.lex_at.ensures

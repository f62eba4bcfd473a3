use Rattle.rv_text.proofs.Separated.{AreTokens-tokens_of}
use Rattle.rv_text.proofs.tokens.token.Goals as goal

pub returns-then-start-line-clause-only : goal.returns-then-start-line-clause-only
returns-then-start-line-clause-only c = AreTokens-tokens_of _ _ _

pub returns-then-line-start-eq34-clause-only : goal.returns-then-line-start-eq34-clause-only
returns-then-line-start-eq34-clause-only c = AreTokens-tokens_of _ _ _

pub returns-clause-only : goal.returns-clause-only
returns-clause-only c = AreTokens-tokens_of _ _ _

use Rattle.ll_tokens.specs.Tokens.{lexemes_of}
use Rattle.ll_parser.proofs.SpaceFacts.{space_behind}
use Rattle.ll_parser.proofs.spaces.space.Goals as goal

pub returns-in-Ok-clause-read : goal.returns-in-Ok-clause-read
returns-in-Ok-clause-read c = space_behind (λ r. r.0) (λ r. lexemes_of r.1.now) _ _ c.bracketed_number.result c.in-Ok.ensures.read c.bracketed_number.ensures.read

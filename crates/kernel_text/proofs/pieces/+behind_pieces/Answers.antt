use Rattle.ll_tokens.specs.Tokens.{lexemes_of}
use Rattle.kernel_text.proofs.PieceFacts.{behind_first, nowhere_at_first}
use Rattle.kernel_text.proofs.pieces.+behind_pieces.Goals as goal

pub returns-in-Some-behind_piece : goal.returns-in-Some-behind_piece
returns-in-Some-behind_piece t c = behind_first (λ x. lexemes_of x.now) _ _ _ _ _ c.behind_pieces.result c.in-Some.ensures.parts c.in-Some-behind_piece.ensures c.behind_pieces.ensures

pub returns-in-None-behind_piece : goal.returns-in-None-behind_piece
returns-in-None-behind_piece t c = nowhere_at_first _ _ _ _ c.in-Some.ensures.parts c.in-None-behind_piece.ensures

-- Attachments, as they are read: all that there are (LLVM 14, Metadata).
use Rattle.std.specs.Prelude.{ℕ, ◌⊎◌, List}
use Rattle.ll_tokens.specs.declared.kinds.TokenKind.TheVariants.{MdName, Mdn}
use Rattle.ll_tokens.specs.Tokens.{Lexeme}
use Rattle.ll_tree.specs.declared.module.NodeRef.{NodeRef}
use Rattle.ll_parser.specs.declared.refusal.Refusal.{Refusal}
use Rattle.ll_parser.specs.GrammarAttributes.{attachment, node_name}
use Rattle.ll_parser.specs.NameReading.{IsNoName, any_of}
use Rattle.ll_parser.specs.Productions.{Production, ◌>>◌, mark}
use Rattle.ll_parser.specs.Reading.{EndsNowhere, DerivesNone}
use Rattle.ll_parser.specs.Spaces.{IsUnexpected}
use Rattle.ll_attributes.specs.Lists.{AllOf, SkipsAll, StopsBehind, some_of}

-- no node begins the tokens: rule 3 is broken where no `!` and digits stand, and rule 4 by digits of 2^31 or more
abbrev pub IsNoNode : List Lexeme → Refusal → Type 0
IsNoNode tokens refusal = DerivesNone node_name tokens × IsNoName Mdn tokens refusal

-- an attachment, behind its name
abbrev pub AttachmentFails : List Lexeme → Refusal → Type 0
AttachmentFails tokens refusal = (behind : List Lexeme) × any_of MdName tokens behind × IsNoNode behind refusal

-- an attachment, or its name
abbrev pub IsNoAttachment : List Lexeme → Refusal → Type 0
IsNoAttachment tokens refusal = IsUnexpected (any_of MdName) tokens refusal ⊎ AttachmentFails tokens refusal

-- attachments, behind which no further one begins
abbrev pub attachments_here : List (List ℕ × NodeRef) → Production
attachments_here attachments = AllOf attachment (EndsNowhere (any_of MdName)) attachments

abbrev pub AttachmentsFail : List Lexeme → Refusal → Type 0
AttachmentsFail = StopsBehind (some_of attachment) AttachmentFails

-- an attachment behind a comma, 44
abbrev pub behind_comma : List ℕ × NodeRef → Production
behind_comma a = mark 44 >> attachment a

-- attachments behind commas, behind which there is no further comma
abbrev pub skipped_attachments : Production
skipped_attachments = SkipsAll (some_of behind_comma) (EndsNowhere (mark 44))

abbrev pub BehindCommaFails : List Lexeme → Refusal → Type 0
BehindCommaFails tokens refusal = (behind : List Lexeme) × mark 44 tokens behind × IsNoAttachment behind refusal

abbrev pub SkippedFail : List Lexeme → Refusal → Type 0
SkippedFail = StopsBehind (some_of behind_comma) BehindCommaFails

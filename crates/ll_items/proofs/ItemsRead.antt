-- Items as they are read: what the exits of a reader answer.
use Rattle.std.proofs.Common.{◌≡◌, ℕ, ◌-◌, ◌<◌, List, [], ◌∷◌, ◌++◌, append_assoc, All, length, drop, codes, refl, sym, ap, ◌∙◌, subst, inl, inr}
use Rattle.std.proofs.lemmas.List.Elements.{All-cons, All-head, All-nil, All-tail}
use Rattle.ll_tokens.specs.declared.kinds.Token.{Token}
use Rattle.ll_tokens.specs.declared.kinds.TokenKind.{TokenKind}
use Rattle.ll_tokens.specs.declared.kinds.TokenKind.TheVariants.{MdName}
use Rattle.ll_tokens.specs.Tokens.{Lexeme, lexemes_of}
use Rattle.ll_tree.specs.declared.module.NodePart.{NodePart}
use Rattle.ll_tree.specs.declared.module.NodeRef.{NodeRef}
use Rattle.ll_tree.specs.declared.module.Node.{Node}
use Rattle.ll_tree.specs.declared.module.Struct.{Struct}
use Rattle.ll_tree.specs.declared.module.TargetKind.{TargetKind}
use Rattle.ll_tree.specs.declared.module.TargetKind.TheVariants.{DataLayout, Triple}
use Rattle.ll_tree.specs.declared.name.Name.{Name}
use Rattle.ll_tree.specs.declared.name.NameText.{NameText}
use Rattle.ll_tree.specs.declared.ty.LlType.{LlType}
use Rattle.ll_parser.specs.declared.refusal.Refusal.{Refusal}
use Rattle.ll_parser.specs.GrammarAttributes.{node_name, placed_word}
use Rattle.ll_parser.specs.GrammarItems.{is_no_brace, named_nodes, node, target, target_word, text}
use Rattle.ll_parser.specs.GrammarTypes.{type_name}
use Rattle.ll_parser.specs.NameReading.{ReadsWith, any_of}
use Rattle.ll_parser.specs.Productions.{Production, ◌>>◌, mark, token, word}
use Rattle.ll_parser.specs.Reading.{DerivesNone, EndsNowhere}
use Rattle.ll_parser.proofs.EndFacts.{Ends}
use Rattle.ll_types.specs.TypeParts.{ty_here}
use Rattle.ll_types.proofs.Tokens.{Shortens, token_shortens}
use Rattle.ll_attributes.specs.Lists.{maybe_here}
use Rattle.ll_attributes.proofs.HeadFacts.{maybe_right}
use Rattle.ll_attributes.proofs.LoopFacts.{SoFar, at_start, fewer_left, one_more, so_far}
use Rattle.ll_operands.specs.Parts.{Part}
use Rattle.ll_operands.proofs.Readings.{reads_then}
use Rattle.ll_items.specs.ItemParts.{StopsAtBrace, braced, braced_parts, inside_group, no_brace, open_list, struct_here}

pub two : (p q : Production) (tokens middle rest : List Lexeme) → p tokens middle → q middle rest → (p >> q) tokens rest
unfolding ◌>>◌
two p q tokens middle rest d e = (middle, d, e)

-- a target line
pub no_target_kind : (tokens : List Lexeme) → EndsNowhere (word (codes "datalayout")) tokens → EndsNowhere (word (codes "triple")) tokens → DerivesNone (λ (kind : TargetKind). word (target_word kind)) tokens
no_target_kind tokens no_layout no_triple DataLayout rest d = no_layout rest d
no_target_kind tokens no_layout no_triple Triple rest d = no_triple rest d

pub target_read : (kind : TargetKind) (bytes : List ℕ) (byte : ℕ) (tokens behind after inside rest : List Lexeme) → placed_word (codes "target") byte tokens behind → word (target_word kind) behind after → mark 61 after inside → text bytes inside rest → target (record { kind = kind; text = bytes; byte = byte }) tokens rest
unfolding ◌>>◌
target_read kind bytes byte tokens behind after inside rest w k sign t = (behind, w, (after, k, (inside, sign, t)))

-- a struct type
pub struct_read : (old between new : List NameText) (name : Name) (t : LlType) (tokens behind after inside rest : List Lexeme) → ReadsWith type_name old between name tokens behind → mark 61 behind after → word (codes "type") after inside → ReadsWith ty_here between new t inside rest → ReadsWith struct_here old new (record { name = name; ty = t }) tokens rest
unfolding ◌>>◌
struct_read old between new name t tokens behind after inside rest x sign w y =
    reads_then type_name ty_here struct_here name t (record { name = name; ty = t }) old between new tokens behind inside rest rest (λ names d e. (behind, d, (after, sign, (inside, w, e)))) x y

-- nodes
pub node_read : (old new : List NameText) (name : NodeRef) (parts : List NodePart) (tokens behind after inside opened rest : List Lexeme) → node_name name tokens behind → mark 61 behind after → maybe_here (word (codes "distinct")) after inside → open_list inside opened → ReadsWith braced_parts old new parts opened rest → ReadsWith node old new (record { number = name.number; parts = parts; byte = name.byte }) tokens rest
unfolding ◌>>◌
node_read old new name parts tokens behind after inside opened rest d sign distinct (m, bang, brace) x = record {
  extends = x.extends;
  reads = λ longer e. (behind, d, (after, sign, (inside, maybe_right (word (codes "distinct")) after inside distinct, (m, bang, (opened, brace, x.reads longer e)))));
}

pub named_read : (name : List ℕ) (nodes : List NodeRef) (tokens behind after opened rest : List Lexeme) → token MdName (λ (lexeme : Lexeme). drop 1 lexeme.text ≡ name) tokens behind → mark 61 behind after → open_list after opened → braced node_name nodes opened rest → named_nodes name nodes tokens rest
unfolding ◌>>◌
named_read name nodes tokens behind after opened rest d sign (m, bang, brace) parts = (behind, d, (after, sign, (m, bang, (opened, brace, parts))))

-- the tokens of a group up to a brace
abbrev pub braceless : Production
braceless tokens rest = (group : List Lexeme) × All is_no_brace group × (tokens ≡ group ++ rest)

no_brace_shortens : Shortens no_brace
no_brace_shortens tokens rest (l, is, none) = token_shortens l.kind (λ _. Unit {0}) tokens rest (l, is, refl, tt)

all_behind : (xs : List Lexeme) (x : Lexeme) → All is_no_brace xs → is_no_brace x → All is_no_brace (xs ++ x ∷ [])
all_behind [] x all none = All-cons is_no_brace x [] none (All-nil is_no_brace)
all_behind (y ∷ ys) x all none = All-cons is_no_brace y (ys ++ x ∷ []) (All-head is_no_brace y ys all) (all_behind ys x (All-tail is_no_brace y ys all) none)

one_braceless_more : (a b c : List Lexeme) → braceless a b → no_brace b c → braceless a c
one_braceless_more a b c (xs, all, is) (l, is', none) =
    (xs ++ l ∷ [], all_behind xs l all none, is ∙ ap (λ (zs : List Lexeme). xs ++ zs) is' ∙ sym (append_assoc xs (l ∷ []) c))

pub none_inside : (tokens : List Token) (left : ℕ) → left ≡ length tokens → SoFar braceless tokens left
none_inside tokens left whole = at_start braceless tokens left ([], All-nil is_no_brace, refl) whole

pub fewer_inside : (tokens here behind : List Token) (left : ℕ) → SoFar braceless tokens left → here ≡ drop (length tokens - left) tokens → no_brace (lexemes_of here) (lexemes_of behind) → length behind < left
fewer_inside = fewer_left braceless no_brace no_brace_shortens

pub more_inside : (tokens here behind : List Token) (left after : ℕ) → SoFar braceless tokens left → here ≡ drop (length tokens - left) tokens → no_brace (lexemes_of here) (lexemes_of behind) → after ≡ length behind → SoFar braceless tokens after
more_inside tokens here behind left after = one_more braceless no_brace no_brace_shortens braceless tokens here behind left after one_braceless_more

pub inside_read : (tokens here end : List Token) (left : ℕ) → SoFar braceless tokens left → here ≡ drop (length tokens - left) tokens → end ≡ drop (length tokens - left) tokens → StopsAtBrace (lexemes_of here) → inside_group (lexemes_of tokens) (lexemes_of end)
inside_read tokens here end left s is is' stop =
    (so_far braceless tokens end left s is', subst (λ (ls : List Token). StopsAtBrace (lexemes_of ls)) (is ∙ sym is') stop)

-- a word, wherever it stands
pub word_at : (bytes : List ℕ) (byte : ℕ) (tokens rest : List Lexeme) → placed_word bytes byte tokens rest → word bytes tokens rest
word_at bytes byte tokens rest (l, is, kind, (text, place)) = (l, is, kind, text)

-- a token of a kind, whatever it spells
pub any_token : (kind : TokenKind) (test : Lexeme → Type 0) (tokens rest : List Lexeme) → token kind test tokens rest → any_of kind tokens rest
any_token kind test tokens rest (l, is, of_kind, passes) = (l, is, of_kind, tt)

-- what is told is what was answered
pub stops_as : (p : Part) (tokens : List Lexeme) (refusal told : Refusal) → told ≡ refusal → p.stops tokens refusal → p.stops tokens told
stops_as p tokens refusal told same x = subst (p.stops tokens) (sym same) x

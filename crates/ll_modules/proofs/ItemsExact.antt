-- Items leave one list of tokens, and those that are refused begin with none.
use Rattle.std.proofs.Common.{◌≡◌, ℕ, List, codes, None, refl, ap, ap₂, ◌∙◌, inl, inr}
use Rattle.ll_tokens.specs.Tokens.{Lexeme}
use Rattle.ll_tree.specs.declared.name.NameText.{NameText}
use Rattle.ll_parser.specs.declared.refusal.Refusal.{Refusal}
use Rattle.ll_parser.specs.Productions.{◌>>◌, word}
use Rattle.ll_parser.specs.Reading.{EndsNowhere}
use Rattle.ll_types.proofs.Tokens.{Shortens}
use Rattle.ll_operands.specs.Parts.{Begins, either, nothing_part}
use Rattle.ll_operands.proofs.PartFacts.{IsExact, exact_either, exact_nothing}
use Rattle.ll_attributes.proofs.ListFacts.{words_apart}
use Rattle.ll_heads.specs.HeadParts.{declaration_part}
use Rattle.ll_heads.specs.Heads.{declaration_here}
use Rattle.ll_heads.proofs.HeadExact.{declaration_is_part, declaration_shortens, exact_declaration}
use Rattle.ll_tree.specs.declared.module.Head.{Head}
use Rattle.ll_bodies.proofs.ExactJoins.{exact_until}
use Rattle.ll_items.specs.declared.small_items.SmallItem.{SmallItem}
use Rattle.ll_items.specs.Starts.{small_here, start_of, token_start, word_start}
use Rattle.ll_items.proofs.StartFacts.{none_starts, small_none, small_one}
use Rattle.ll_modules.specs.declared.items.ModuleItem.{ModuleItem}
use Rattle.ll_modules.specs.declared.items.ModuleItem.TheVariants.{Small, Declaration, Definition}
use Rattle.ll_modules.specs.Definitions.{whole_definition_part}
use Rattle.ll_modules.specs.ModuleItems.{item_here, module_item_part, small_part}
use Rattle.ll_modules.specs.Modules.{ended, items_part}
use Rattle.ll_modules.proofs.DefinitionsRead.{define_opens, exact_whole_definition, whole_is_part, whole_shortens}
use Rattle.ll_modules.proofs.SmallShorter.{small_end, small_shortens}

-- an item that is no function
small_part_none : (tokens rest : List Lexeme) (refusal : Refusal) → small_part.stops tokens refusal → small_part.begins tokens rest → ⊥
small_part_none tokens rest refusal (inl fails) d = small_none tokens refusal fails d.0 d.1 rest d.2
small_part_none tokens rest refusal (inr (none, _)) d = none_starts tokens none d.0 d.1 rest d.2

exact_small : IsExact small_part
exact_small = record {
  one = λ tokens a b d e. small_one d.0 e.0 d.1 e.1 tokens a b d.2 e.2;
  none = small_part_none;
  ends = λ tokens rest d. small_end d.0 d.1 tokens rest d.2;
}

-- an item
declare_opens : (tokens rest : List Lexeme) → declaration_part.begins tokens rest → Begins (word (codes "declare")) tokens
unfolding ◌>>◌
declare_opens tokens rest (m, w, _) = (m, w)

exact_others : IsExact (either (word (codes "declare")) declaration_part small_part)
exact_others = exact_either (word (codes "declare")) declaration_part small_part exact_declaration exact_small declare_opens

pub exact_module_item : IsExact module_item_part
exact_module_item =
    exact_either (word (codes "define")) whole_definition_part (either (word (codes "declare")) declaration_part small_part) exact_whole_definition exact_others define_opens

-- items up to the end of the tokens
pub exact_items : IsExact items_part
exact_items = exact_until ended module_item_part nothing_part exact_module_item exact_nothing

-- what is read is of the part
no_start : (text : List ℕ) (tokens rest : List Lexeme) → word_start text ≡ None → word text tokens rest → start_of tokens ≡ None
no_start text tokens rest none (l, is, kind, spelled) = ap start_of is ∙ ap₂ token_start kind spelled ∙ none

small_no_word : (text : List ℕ) → word_start text ≡ None → (names : List NameText) (i : SmallItem) (tokens rest : List Lexeme) → small_here names i tokens rest → EndsNowhere (word text) tokens
small_no_word text none names i tokens rest d b w = none_starts tokens (no_start text tokens b none w) names i rest d

declaration_no_define : (names : List NameText) (h : Head) (tokens rest : List Lexeme) → declaration_here names h tokens rest → EndsNowhere (word (codes "define")) tokens
unfolding ◌>>◌
declaration_no_define names h tokens rest (m, (l, is, kind, (text, _)), _) b w = words_apart (codes "declare") (codes "define") tokens m b refl (l, is, kind, text) w

pub item_is_part : (names : List NameText) (i : ModuleItem) (tokens rest : List Lexeme) → item_here names i tokens rest → module_item_part.begins tokens rest
item_is_part names (Small s) tokens rest d =
    inr (small_no_word (codes "define") refl names s tokens rest d, inr (small_no_word (codes "declare") refl names s tokens rest d, (names, s, d)))
item_is_part names (Declaration h) tokens rest d = inr (declaration_no_define names h tokens rest d, inl (declaration_is_part names h tokens rest d))
item_is_part names (Definition x) tokens rest d = inl (whole_is_part names x tokens rest d)

pub item_shortens : (names : List NameText) (i : ModuleItem) → Shortens (item_here names i)
item_shortens names (Small s) tokens rest d = small_shortens names s tokens rest d
item_shortens names (Declaration h) tokens rest d = declaration_shortens names h tokens rest d
item_shortens names (Definition x) tokens rest d = whole_shortens names x tokens rest d

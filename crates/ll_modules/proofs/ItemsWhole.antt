-- Items of the grammar are those that are read, and what is read is of the grammar.
use Rattle.std.proofs.Common.{◌≡◌, ◌<◌, List, [], ◌∷◌, length, map, refl, sym, ap, subst, arith}
use Rattle.ll_tokens.specs.Tokens.{Lexeme}
use Rattle.ll_tree.specs.declared.module.LlModule.{LlModule}
use Rattle.ll_tree.specs.declared.name.NameText.{NameText}
use Rattle.ll_parser.specs.declared.refusal.Refusal.{Refusal}
use Rattle.ll_parser.specs.GrammarItems.{IsModule, Item, ADeclaration, ADefinition, ANode, AStruct, ATarget, AVariable, Dropped, Versions, item}
use Rattle.ll_parser.specs.Productions.{◌>>◌, each}
use Rattle.ll_parser.specs.Reading.{EndsNowhere}
use Rattle.ll_operands.specs.Parts.{times}
use Rattle.ll_heads.proofs.HeadsWhole.{declaration_right, declaration_whole}
use Rattle.ll_bodies.specs.BodyJoins.{unless_begins}
use Rattle.ll_items.proofs.StartFacts.{small_right, small_whole}
use Rattle.ll_modules.specs.declared.items.ModuleItem.{ModuleItem}
use Rattle.ll_modules.specs.declared.items.ModuleItem.TheVariants.{Small, Declaration, Definition}
use Rattle.ll_modules.specs.ModuleItems.{EndsModuleItem, grammar_item, item_here, module_item, module_item_part}
use Rattle.ll_modules.specs.Modules.{ended, items_part}
use Rattle.ll_modules.proofs.ItemEnds.{ends_at_end, item_ends_other}
use Rattle.ll_modules.proofs.ItemsExact.{exact_items, item_is_part, item_shortens}

module _ (names : List NameText) where
  pub item_right : (i : ModuleItem) (tokens rest : List Lexeme) → item_here names i tokens rest → item names (grammar_item i) tokens rest
  item_right (Small s) tokens rest d = small_right names s tokens rest d
  item_right (Declaration h) tokens rest d = declaration_right names h tokens rest d
  item_right (Definition x) tokens rest d = d

  pub item_whole : (i : ModuleItem) (tokens rest : List Lexeme) → item names (grammar_item i) tokens rest → EndsModuleItem rest → item_here names i tokens rest
  item_whole (Small s) tokens rest d ends = small_whole names s tokens rest d ends.item
  item_whole (Declaration h) tokens rest d ends = declaration_whole names h tokens rest d ends.head
  item_whole (Definition x) tokens rest d ends = d

  back : (i : Item) → grammar_item (module_item i) ≡ i
  back (ATarget t) = refl
  back (AStruct s) = refl
  back (AVariable v) = refl
  back (ADeclaration h) = refl
  back (ADefinition f b) = refl
  back (Versions nodes) = refl
  back (ANode n) = refl
  back Dropped = refl

  -- items up to the end
  others_end : (is : List Item) (tokens : List Lexeme) → each (item names) is tokens [] → EndsModuleItem tokens
  unfolding ◌>>◌
  others_end [] tokens same = subst EndsModuleItem (sym same) ends_at_end
  others_end (i ∷ is) tokens (m, d, more) = item_ends_other names i tokens m d

  items_whole : (is : List Item) (tokens : List Lexeme) → each (item names) is tokens [] → each (item_here names) (map module_item is) tokens []
  unfolding ◌>>◌
  items_whole [] tokens same = same
  items_whole (i ∷ is) tokens (m, d, more) =
      (m, item_whole (module_item i) tokens m (subst (λ (x : Item). item names x tokens m) (sym (back i)) d) (others_end is m more), items_whole is m more)

  pub items_right : (xs : List ModuleItem) (tokens rest : List Lexeme) → each (item_here names) xs tokens rest → each (item names) (map grammar_item xs) tokens rest
  unfolding ◌>>◌
  items_right [] tokens rest same = same
  items_right (x ∷ xs) tokens rest (m, d, more) = (m, item_right x tokens m d, items_right xs m rest more)

  not_ended : (x : ModuleItem) (tokens rest : List Lexeme) → item_here names x tokens rest → EndsNowhere ended tokens
  not_ended x tokens rest d b none =
      let less : length rest < length tokens = (item_shortens names x tokens rest d).less in
      let empty : length tokens ≡ 0 = ap length none in
      absurd (omega arith)

  pub items_times : (xs : List ModuleItem) (tokens rest : List Lexeme) → each (item_here names) xs tokens rest → times (length xs) (unless_begins ended module_item_part.begins) tokens rest
  unfolding ◌>>◌
  items_times [] tokens rest same = same
  items_times (x ∷ xs) tokens rest (m, d, more) = (m, (not_ended x tokens m d, item_is_part names x tokens m d), items_times xs m rest more)

  items_are_part : (xs : List ModuleItem) (tokens : List Lexeme) → each (item_here names) xs tokens [] → items_part.begins tokens []
  items_are_part xs tokens d = (length xs, [], items_times xs tokens [] d, ([], refl), refl)

pub refused_of_none : (tokens : List Lexeme) (refusal : Refusal) (m : LlModule) → items_part.stops tokens refusal → IsModule tokens m → ⊥
refused_of_none tokens refusal m stops is =
    exact_items.none tokens [] refusal stops (items_are_part m.names (map module_item is.items) tokens (items_whole m.names is.items tokens is.reads))

-- No item goes on with the tokens with which another one begins, nor with the end of the tokens.
use Rattle.std.proofs.Common.{◌≡◌, ℕ, false, List, [], codes, refl, inl, inr}
use Rattle.std.specs.List.{list_any}
use Rattle.std.specs.Str.{bytes_eq}
use Rattle.ll_tokens.specs.declared.kinds.TokenKind.{TokenKind}
use Rattle.ll_tokens.specs.declared.kinds.TokenKind.TheVariants.{Attr, Global as GlobalToken, Local as LocalToken, MdName, Mdn, Punct, Str, Word}
use Rattle.ll_tokens.specs.Tokens.{Lexeme}
use Rattle.ll_tree.specs.declared.name.NameText.{NameText}
use Rattle.ll_parser.specs.GrammarAttributes.{function_words}
use Rattle.ll_parser.specs.GrammarItems.{Item, ADeclaration, ADefinition, ANode, AStruct, ATarget, AVariable, Dropped, Versions, dropped_item, item, unnamed}
use Rattle.ll_parser.specs.NameReading.{any_of}
use Rattle.ll_parser.specs.Productions.{◌>>◌, word}
use Rattle.ll_parser.specs.Reading.{EndsNowhere}
use Rattle.ll_parser.proofs.PointerFacts.{word_no_mark}
use Rattle.ll_parser.proofs.TokenFacts.{token_nowhere_in_nil}
use Rattle.ll_types.proofs.Tokens.{kinds_apart}
use Rattle.ll_attributes.proofs.FunctionFacts.{no_function_attribute_at, no_function_attribute_at_word, no_function_attribute_in_nil}
use Rattle.ll_attributes.proofs.ListFacts.{words_apart}
use Rattle.ll_modules.specs.ModuleItems.{EndsModuleItem}

neither : (tokens : List Lexeme) → EndsNowhere (word (codes "unnamed_addr")) tokens → EndsNowhere (word (codes "local_unnamed_addr")) tokens → EndsNowhere unnamed tokens
neither tokens no_first no_second b (inl w) = no_first b w
neither tokens no_first no_second b (inr w) = no_second b w

-- a word that goes on with none
ends_at_word : (text : List ℕ) (tokens rest : List Lexeme) → bytes_eq text (codes "addrspace") ≡ false → bytes_eq text (codes "unnamed_addr") ≡ false → bytes_eq text (codes "local_unnamed_addr") ≡ false → list_any (bytes_eq text) function_words ≡ false → word text tokens rest → EndsModuleItem tokens
ends_at_word text tokens rest no_space no_first no_second no_attribute w = record {
  item = record {
    no_comma = λ b k. word_no_mark text 44 tokens rest b w k;
    no_pointer = record { no_space = λ b v. words_apart text (codes "addrspace") tokens rest b no_space w v; no_star = λ b k. word_no_mark text 42 tokens rest b w k };
  };
  head = record {
    no_unnamed = neither tokens (λ b v. words_apart text (codes "unnamed_addr") tokens rest b no_first w v) (λ b v. words_apart text (codes "local_unnamed_addr") tokens rest b no_second w v);
    no_attribute = no_function_attribute_at_word text tokens rest no_attribute w;
    no_value = λ b k. word_no_mark text 61 tokens rest b w k;
  };
}

-- a token of another kind
ends_at_kind : (kind : TokenKind) (tokens rest : List Lexeme) → (kind ≡ Punct → ⊥) → (kind ≡ Word → ⊥) → (kind ≡ Attr → ⊥) → (kind ≡ Str → ⊥) → any_of kind tokens rest → EndsModuleItem tokens
ends_at_kind kind tokens rest no_punct no_word no_attr no_str d = record {
  item = record {
    no_comma = λ b k. kinds_apart kind Punct _ _ tokens rest b no_punct d k;
    no_pointer = record { no_space = λ b v. kinds_apart kind Word _ _ tokens rest b no_word d v; no_star = λ b k. kinds_apart kind Punct _ _ tokens rest b no_punct d k };
  };
  head = record {
    no_unnamed = neither tokens (λ b v. kinds_apart kind Word _ _ tokens rest b no_word d v) (λ b v. kinds_apart kind Word _ _ tokens rest b no_word d v);
    no_attribute = no_function_attribute_at kind _ tokens rest no_attr no_str no_word d;
    no_value = λ b k. kinds_apart kind Punct _ _ tokens rest b no_punct d k;
  };
}

pub ends_at_end : EndsModuleItem []
ends_at_end = record {
  item = record {
    no_comma = token_nowhere_in_nil Punct _ [] refl;
    no_pointer = record { no_space = token_nowhere_in_nil Word _ [] refl; no_star = token_nowhere_in_nil Punct _ [] refl };
  };
  head = record {
    no_unnamed = neither [] (token_nowhere_in_nil Word _ [] refl) (token_nowhere_in_nil Word _ [] refl);
    no_attribute = no_function_attribute_in_nil;
    no_value = token_nowhere_in_nil Punct _ [] refl;
  };
}

dropped_ends : (tokens rest : List Lexeme) → dropped_item tokens rest → EndsModuleItem tokens
unfolding ◌>>◌
dropped_ends tokens rest (inl (m, w, _)) = ends_at_word (codes "source_filename") tokens m refl refl refl refl w
dropped_ends tokens rest (inr (inl (m, w, _))) = ends_at_word (codes "attributes") tokens m refl refl refl refl w
dropped_ends tokens rest (inr (inr (name, nodes, differs, (m, (l, is, kind, _), _)))) = ends_at_kind MdName tokens m (λ e. cc) (λ e. cc) (λ e. cc) (λ e. cc) (l, is, kind, tt)

pub item_ends_other : (names : List NameText) (i : Item) (tokens rest : List Lexeme) → item names i tokens rest → EndsModuleItem tokens
unfolding ◌>>◌
item_ends_other names (ATarget t) tokens rest (m, (l, is, kind, (text, _)), _) = ends_at_word (codes "target") tokens m refl refl refl refl (l, is, kind, text)
item_ends_other names (AStruct s) tokens rest (m, (l, is, kind, _), _) = ends_at_kind LocalToken tokens m (λ e. cc) (λ e. cc) (λ e. cc) (λ e. cc) (l, is, kind, tt)
item_ends_other names (AVariable v) tokens rest (m, (l, is, kind, _), _) = ends_at_kind GlobalToken tokens m (λ e. cc) (λ e. cc) (λ e. cc) (λ e. cc) (l, is, kind, tt)
item_ends_other names (ADeclaration h) tokens rest (m, (l, is, kind, (text, _)), _) = ends_at_word (codes "declare") tokens m refl refl refl refl (l, is, kind, text)
item_ends_other names (ADefinition f b) tokens rest (xs, kept, numbers, some, (m, (l, is, kind, (text, _)), _)) = ends_at_word (codes "define") tokens m refl refl refl refl (l, is, kind, text)
item_ends_other names (Versions nodes) tokens rest (m, (l, is, kind, _), _) = ends_at_kind MdName tokens m (λ e. cc) (λ e. cc) (λ e. cc) (λ e. cc) (l, is, kind, tt)
item_ends_other names (ANode n) tokens rest (m, (l, is, kind, _), _) = ends_at_kind Mdn tokens m (λ e. cc) (λ e. cc) (λ e. cc) (λ e. cc) (l, is, kind, tt)
item_ends_other names Dropped tokens rest d = dropped_ends tokens rest d

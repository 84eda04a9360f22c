-- Parameters of kernels are those of modules.
use Rattle.std.proofs.Common.{◌≡◌, ℕ, List, [], ◌∷◌, map, refl, sym, ap, inl}
use Rattle.std.specs.Prelude.{flat_map}
use Rattle.ll_tokens.specs.Tokens.{Lexeme}
use Rattle.ll_tree.specs.declared.name.NameText.{NameText}
use Rattle.ll_parser.specs.Productions.{◌>>◌, each_behind_comma, listed}
use Rattle.ll_parser.specs.GrammarFunctions.{next_after}
use Rattle.ll_parser.specs.GrammarItems.{defined_param, defined_params, defined_params_behind, number_of}
use Rattle.kernel_tree.specs.declared.kernel.KernelParam.{KernelParam}
use Rattle.kernel_tree.specs.Modules.{parameter}
use Rattle.kernel_text.specs.Grammar.{param}
use Rattle.kernel_text.specs.Phrases.{pieces_of}
use Rattle.kernel_modules.proofs.TypesOfModules.{local_name, not_nil, type_of_value}

param_reads : (names : List NameText) (next : ℕ) (p : KernelParam) (tokens rest : List Lexeme) → param names p tokens rest → defined_param names next (parameter p) tokens rest
unfolding ◌>>◌ pieces_of
param_reads names next p [] rest (a, (m, (l, is, kind, text), more), behind) = absurd (not_nil l m (sym is))
param_reads names next p (first ∷ tokens) rest (a, word, (b, suffix, name)) =
    (b, type_of_value names p.value_type (first ∷ tokens) a b word suffix, (b, refl, inl (local_name names p.name b rest name)))

more_read : (names : List NameText) (next : ℕ) (ps : List KernelParam) (tokens rest : List Lexeme) → each_behind_comma (param names) ps tokens rest → defined_params_behind names next (map parameter ps) tokens rest
unfolding ◌>>◌
more_read names next [] tokens rest same = same
more_read names next (p ∷ ps) tokens rest (a, comma, (b, one, more)) =
    (a, comma, (b, param_reads names next p a b one, more_read names (next_after names (number_of names (parameter p)) next) ps b rest more))

pub params_read : (names : List NameText) (ps : List KernelParam) (tokens rest : List Lexeme) → listed (param names) ps tokens rest → defined_params names (map parameter ps) tokens rest
unfolding ◌>>◌
params_read names [] tokens rest same = same
params_read names (p ∷ ps) tokens rest (a, one, more) =
    (a, param_reads names 0 p tokens a one, more_read names (next_after names (number_of names (parameter p)) 0) ps a rest more)

-- their numbers, which count for the block's
pub numbers_same : (names : List NameText) (ps : List KernelParam) → flat_map (number_of names) (map parameter ps) ≡ map (λ (p : KernelParam). p.name.number) ps
numbers_same names [] = refl
numbers_same names (p ∷ ps) = ap (λ ns. p.name.number ∷ ns) (numbers_same names ps)

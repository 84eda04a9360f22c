use Rattle.ll_heads.proofs.HeadExact.{declaration_is_part, definition_is_part, exact_declaration, exact_definition}
use Rattle.ll_heads.proofs.laws.refused_heads_derive_nothing.Goals as goal

pub returns : goal.returns
returns c = record {
  declarations = λ tokens refusal stops names h rest d. exact_declaration.none tokens rest refusal stops (declaration_is_part names h tokens rest d);
  definitions = λ tokens refusal stops names s rest d. exact_definition.none tokens rest refusal stops (definition_is_part names s tokens rest d);
}

use Rattle.ll_attributes.proofs.AttributeFacts.{no_attribute_in_nil}
use Rattle.ll_attributes.proofs.ListEnds.{no_attribute_at_mark, type_no_attribute, value_no_attribute}
use Rattle.ll_attributes.proofs.laws.types_and_values_begin_no_attribute.Goals as goal

pub returns : goal.returns
returns c = record { types = type_no_attribute; values = value_no_attribute; marks = no_attribute_at_mark; nothing = no_attribute_in_nil }

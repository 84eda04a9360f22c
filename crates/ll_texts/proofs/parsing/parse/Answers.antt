use Rattle.ll_texts.proofs.TextLaws.{faulty_module, faulty_tokens}
use Rattle.ll_texts.proofs.parsing.parse.Goals as goal

pub returns-in-Some : goal.returns-in-Some
returns-in-Some c = faulty_module _ _ _ _ _ _ _ _ c.as_slice-found.ensures.value c.in-Some.is c.in_ok-tokens.ensures c.in-Ok-parse_tokens.ensures c.in-Ok.ensures c.first_fault.ensures

pub returns-in-Err-Refused : goal.returns-in-Err-Refused
returns-in-Err-Refused c =
    faulty_tokens _ _ c.as_slice-found.result.now _ c.in-Err-Refused.refusal _ _ c.in-Err-Refused.field-0 c.in-Err-Refused.field-0-is c.as_slice-found.ensures.value c.in_ok-tokens.ensures c.in-Err-Refused.ensures c.in-Ok.ensures c.refused_fault-fault.ensures

pub mod AttributesLead
pub mod FunctionsLead
pub mod ModulesLead
pub mod OpsLead
pub mod Passing
pub mod TypesLead
pub mod ValuesLead

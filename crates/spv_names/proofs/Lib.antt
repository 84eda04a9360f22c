pub mod Defined
pub mod Found
pub mod FunctionLists
pub mod FunctionFronts
pub mod UseLists
pub mod WideLemmas

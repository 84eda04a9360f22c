pub mod ModulesBack
pub mod OneModule

pub mod Rules
pub mod Rewriting
pub mod Fitting
pub mod RuleView
pub mod Groups
pub mod Firing

pub mod DependsOn
pub mod Examples

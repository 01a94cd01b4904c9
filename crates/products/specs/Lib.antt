pub mod PhaseRule
pub mod Operators
pub mod Apply
pub mod Product
pub mod Walk
pub mod Fitting

pub mod Decimal
pub mod Numbers
pub mod Ceiling
pub mod Stores

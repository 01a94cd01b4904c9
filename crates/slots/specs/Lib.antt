pub mod Half
pub mod Damage
pub mod Gaps

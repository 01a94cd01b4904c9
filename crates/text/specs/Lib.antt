pub mod Import
pub mod Export
pub mod Gathering
pub mod Placing

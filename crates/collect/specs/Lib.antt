pub mod KeyWeights
pub mod Collected
pub mod Steps

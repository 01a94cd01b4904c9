pub mod KeyWeights
pub mod Ends
pub mod InHand
pub mod Closing
pub mod Joining
pub mod Sorting
pub mod Unique
pub mod Elements

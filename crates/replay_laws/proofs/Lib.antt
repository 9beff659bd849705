pub mod KeptOpenings
pub mod KeptReplays
pub mod MarkedFronts
pub mod ReplayFirsts
pub mod ReplayOpened
pub mod ReplayOrder
pub mod ReplayPhases
pub mod ReplayRows

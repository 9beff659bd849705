-- Steps of the clients: what each wants, and that it stands for the machine's.
pub mod Beginning
pub mod ClientEvents
pub mod Coursing
pub mod EachClient
pub mod Looking
pub mod Placing
pub mod PoolAsks
pub mod Resting
pub mod Silence
pub mod Stepped
pub mod Steps
pub mod Turns
pub mod Unseen
pub mod Wanting

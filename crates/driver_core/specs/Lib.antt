pub mod Driving
pub mod Talking
pub mod InnerSound

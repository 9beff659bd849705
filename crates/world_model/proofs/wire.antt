-- The frames of connections: sent, served, taken, and on their way.
pub mod FrontLists
pub mod Fronts
pub mod KeptWire
pub mod LinkHandled
pub mod LinkOrder
pub mod LinkOut
pub mod LinkReplies
pub mod LinkSent
pub mod LinkStage
pub mod SameSelf
pub mod Saying
pub mod SentAt
pub mod SentLinks
pub mod SentLists
pub mod Stages

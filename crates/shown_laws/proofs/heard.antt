-- The steps of a request as a conversation, as the judge of causes reads it.
pub mod AwaitedFrame
pub mod ConversationsHeard
pub mod CourseHeard
pub mod LastSent
pub mod RecordedCalls
pub mod StepsHeard
pub mod TakenHeard
pub mod TermsTold

-- What the crates above use of the story's proofs.

-- What each served item repeats brings what the item brings, seen from the front that its event
-- reaches.
pub use Rattle.report_story.proofs.Fronted.{brought_told}

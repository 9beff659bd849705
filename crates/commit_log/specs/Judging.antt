-- What a judge of records keeps beside the journal.
use Rattle.std.specs.Prelude.{◌≡◌, ℕ, false, List, map, Ok}
use Rattle.ltxid_book.specs.Sessions.{Contents, sessions_in}
use Rattle.ltxid_book.specs.meaning.Journal.{committed_of}
use Rattle.ltxid_book.specs.Journal.{BlocksStand}
use Rattle.redo_store.specs.declared.walk.Walk.{Walk}
use Rattle.redo_store.specs.meaning.Records.{records_of}
use Rattle.redo_store.specs.Walk.{HasRead}
use Rattle.commit_log.specs.declared.journal.Journal.{Journal}
use Rattle.commit_log.specs.declared.judge.Judge.{Judge}
use Rattle.commit_log.specs.meaning.Bases.{shape_of}
use Rattle.commit_log.specs.meaning.Rules.{SoFar, Empty, Begun, sessions_of, end_of}
use Rattle.commit_log.specs.meaning.Journals.{judged}

-- how far it has come
abbrev pub so_far_in : Judge → SoFar
so_far_in judge = Begun judge.journal judge.is_opened judge.has_horizon

-- the book says of each session what the journal does, and each block of the journal stands
pub record IsBookFor (book : Contents) (journal : Journal) : Type 0 where
  pub sessions : sessions_in book ≡ sessions_of journal
  pub blocks : BlocksStand (map committed_of journal.entries) journal.blocked

-- its book is one for its journal, its shape is that of the base, it knows where each sequence's
-- values end, and the horizon is 0 where none was stored
pub record Keeps (judge : Judge) : Type 0 where
  pub book_for : IsBookFor judge.book judge.journal
  pub shape : judge.shape ≡ shape_of judge.journal.base
  pub ends : judge.ends.items ≡ map (end_of judge.journal.reserved) judge.journal.base.sequences
  pub unset : judge.has_horizon ≡ false → judge.journal.horizon ≡ 0

-- it has judged the records that the walk has gone over, and keeps what they say
pub record HasJudged (judge : Judge) (walk : Walk) (image : List ℕ) : Type 0 where
  pub done : List (List ℕ)
  pub read : HasRead walk done image
  pub judges : judged Empty 8 done ≡ Ok (so_far_in judge)
  pub keeps : Keeps judge

-- and these are all of the image
pub record HasJudgedAll (judge : Judge) (walk : Walk) (image : List ℕ) : Type 0 where
  pub judged_all : HasJudged judge walk image
  pub all : records_of image ≡ Ok judged_all.done

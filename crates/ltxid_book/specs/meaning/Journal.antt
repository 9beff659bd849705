-- The book of a journal: what the commits and blocks that a journal stores say of each session.
use Rattle.std.specs.Prelude.{ℕ, Bool, false, List, [], ◌∷◌, length, filter}
use Rattle.std.specs.List.{list_any}
use Rattle.svc_values.specs.declared.entry.Entry.{Entry}
use Rattle.svc_values.specs.declared.entry.Ltxid.{Ltxid}
use Rattle.svc_values.specs.meaning.Identifiers.{is_of, same_ltxid}
use Rattle.ltxid_book.specs.declared.State.{State}
use Rattle.ltxid_book.specs.meaning.Sessions.{Sessions, known_from}

-- a commit of a journal: its identifier, and whether the committing call had no statements
pub record Committed : Type 0 where
  pub ltxid : Ltxid
  pub completed : Bool

-- the commit that an entry stores
abbrev pub committed_of : Entry → Committed
committed_of entry = record { ltxid = entry.ltxid; completed = entry.completed }

-- the commits of a session, in order
abbrev pub commits_of : List Committed → ℕ → ℕ → List Committed
commits_of commits incarnation session = filter (λ c. is_of c.ltxid incarnation session) commits

-- what the last commit of the list was, and false where there is none
abbrev pub last_completed : List Committed → Bool
last_completed [] = false
last_completed (c ∷ []) = c.completed
last_completed (c ∷ d ∷ commits) = last_completed (d ∷ commits)

abbrev pub is_blocked : List Ltxid → Ltxid → Bool
is_blocked blocks x = list_any (λ block. same_ltxid block x) blocks

-- a session's next identifier: its number is how often the session committed
abbrev pub next_ltxid : List Committed → ℕ → ℕ → Ltxid
next_ltxid commits incarnation session = record {
  incarnation = incarnation;
  session = session;
  number = length (commits_of commits incarnation session);
}

-- the state of each session by these commits and blocks
abbrev pub state_of : List Committed → List Ltxid → ℕ → ℕ → State
state_of commits blocks incarnation session = record {
  next = length (commits_of commits incarnation session);
  blocked = is_blocked blocks (next_ltxid commits incarnation session);
  completed = last_completed (commits_of commits incarnation session);
}

-- the book of the journal that has this horizon and these commits and blocks
abbrev pub book_of : ℕ → List Committed → List Ltxid → Sessions
book_of horizon commits blocks = known_from horizon (state_of commits blocks)

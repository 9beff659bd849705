-- What the notes and the items of a run tell of its connections, beside what these are.
use Rattle.std.specs.Prelude.{◌≡◌, ◌<◌, ℕ, ◌==◌, true, false, not, IsTrue, List, [], ◌++◌, map, filter_map, Option, Some, None, option_map}
use Rattle.outage_schedule.specs.declared.item.Served.{Served}
use Rattle.shown_clauses.specs.meaning.Links.{Link as Seen, link_of, link_of_session}
use Rattle.world_model.specs.meaning.Frames.{Reply, Handled}
use Rattle.world_model.specs.meaning.Links.{Link, link_at}
use Rattle.world_model.specs.Parts.{is_closed}
use Rattle.world_model.specs.Sames.{each_pair}

-- REPLIES -----------------------------------------------------------------------------------------

-- a reply that a session gave, and the item of the frame that it answers
pub record Answer : Type 0 where
  pub reply : Reply
  pub served : Served

abbrev pub answer_of : Handled → Option Answer
answer_of one = option_map (λ frame. record {
  reply = record { to = one.sent; frame = frame };
  served = one.served;
}) one.reply

-- all that a session gave, in order
abbrev pub answers_of : List Handled → List Answer
answers_of served = filter_map answer_of served

abbrev pub replies_in : List Answer → List Reply
replies_in answers = map (λ one. one.reply) answers

abbrev pub items_in : List Answer → List Served
items_in answers = map (λ one. one.served) answers

-- The answers of a connection are those that were taken, and then those whose items are told as
-- replies that were not taken yet. The replies that may still be taken stand in front of these: the
-- others were lost where the connection ended, and none was while it is open. The answer to a frame
-- that was served last before a crash is told as none.
pub record TellsReplies (link : Link) (told : List Served) : Type 0 where
  pub gone : List Answer
  pub waiting : List Answer
  pub stopped : List Answer
  pub lost : List Reply
  pub given : answers_of link.served ≡ gone ++ (waiting ++ stopped)
  pub taken : replies_in gone ≡ link.taken
  pub items : items_in waiting ≡ told
  pub down : replies_in waiting ≡ link.down ++ lost
  pub all_down : link.is_open ≡ true → lost ≡ []
  pub none_stopped : link.is_living ≡ true → stopped ≡ []

-- ENDS --------------------------------------------------------------------------------------------

-- The event that is told to have ended a connection is the one that did. A Close is not told as an
-- end, so of a connection on which one was sent nothing is said; nor of one that ended before its
-- Connect was served, from which no reply comes.
pub data TellsEnd (link : Link) : ℕ → Type 0 where
  IsOpen : link.is_open ≡ true → link.ended ≡ None → is_closed link ≡ false → TellsEnd link 0
  HasEnded : (event : ℕ) → 0 < event → link.is_open ≡ false → link.ended ≡ Some event
      → is_closed link ≡ false → TellsEnd link event
  WasClosed : (event : ℕ) → link.is_open ≡ false → is_closed link ≡ true → TellsEnd link event
  NeverHeard : (event : ℕ) → link.is_open ≡ false → link.taken ≡ [] → link.down ≡ []
      → TellsEnd link event

-- CONNECTIONS -------------------------------------------------------------------------------------

-- a connection of this number whose session has its name
pub record TellsLink (number : ℕ) (link : Link) (one : Seen) : Type 0 where
  pub connection : one.connection ≡ number
  pub session : link.session ≡ Some one.session
  pub replies : TellsReplies link one.replies
  pub end : TellsEnd link one.ended

-- one whose session has none yet: nothing was served, and nothing is told of it
pub record IsUnnamed (link : Link) : Type 0 where
  pub session : link.session ≡ None
  pub served : link.served ≡ []
  pub taken : link.taken ≡ []
  pub down : link.down ≡ []
  pub end : TellsEnd link 0

pub data TellsAt (number : ℕ) : Option Link → Option Seen → Type 0 where
  NoLink : TellsAt number None None
  Unnamed : (link : Link) → IsUnnamed link → TellsAt number (Some link) None
  Named : (link : Link) (one : Seen) → TellsLink number link one
      → TellsAt number (Some link) (Some one)

-- each connection by its number, and none is told twice
pub record TellsLinks (links : List Link) (told : List Seen) : Type 0 where
  pub at : (number : ℕ) → TellsAt number (link_at links number) (link_of number told)
  pub once : IsTrue (each_pair (λ a b. not (a == b)) (map (λ one. one.connection) told))

-- A connection that is found by its number is found by its session.
abbrev pub FoundBySession : List Seen → Type 0
FoundBySession told = (number : ℕ) (one : Seen) → link_of number told ≡ Some one
    → link_of_session one.session told ≡ Some one

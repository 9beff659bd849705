-- Parts of what is kept of a connection.
use Rattle.std.specs.Prelude.{List, [], ◌∷◌, Option, Some, None, option_and_then}
use Rattle.shown_clauses.specs.meaning.Links.{Link, Turn, turn_of}
use Rattle.report_story.specs.Passing.{Repeated, repeated_in}

abbrev pub repeated_on : Link → Option Repeated
repeated_on link = option_and_then repeated_in link.turn

abbrev pub as_turns : Option Turn → List Turn
as_turns None = []
as_turns (Some turn) = turn ∷ []

abbrev pub without_turn : Link → Link
without_turn link = record link { turn = None }

-- the turn of a connection, if there is one
abbrev pub turns_on : Option Link → List Turn
turns_on None = []
turns_on (Some link) = turn_of link

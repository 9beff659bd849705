-- How commits are answered: CommitInReplay ends the answers only of a call with the mark; a commit
-- with no statement before it has one answer, and in an entry that it stored this is Committed, and
-- it drew nothing.
use Rattle.std.specs.Prelude.{◌==◌, ◌&&◌, Bool, true, List, [], ◌∷◌, length, drop, None}
use Rattle.std.specs.List.{list_all, last_or}
use Rattle.std.specs.Option.{option_map_or}
use Rattle.svc_values.specs.declared.answer.Answer.{Answer}
use Rattle.svc_values.specs.declared.answer.Answer.TheVariants as answer
use Rattle.svc_values.specs.declared.call.Call.{Call}
use Rattle.svc_values.specs.declared.entry.Entry.{Entry}
use Rattle.svc_values.specs.declared.entry.Piece.{Piece}
use Rattle.svc_values.specs.meaning.Calls.{is_lone_commit}
use Rattle.svc_values.specs.meaning.Endings.{ends_with}
use Rattle.svc_values.specs.meaning.Same.{same_answers}
use Rattle.outage_schedule.specs.declared.item.Item.{Item}
use Rattle.outage_schedule.specs.declared.item.Item.TheVariants as item
use Rattle.world_model.specs.meaning.Links.{Link}
use Rattle.world_model.specs.Parts.{implies}
use Rattle.invariant_laws.specs.Same.{is_no_commit}
use Rattle.world_model.specs.Traced.{Traced}

-- CALLS THAT WERE SERVED --------------------------------------------------------------------------

-- by its mark, what it is, and its answers
abbrev pub fit_commit : Bool → Call → List Answer → Bool
fit_commit marked called answers = implies (ends_with is_no_commit answers) marked
    && implies (is_lone_commit called) (length answers == 1)

abbrev pub commits_fittingly : Item → Bool
commits_fittingly (item.Call marked called answers draws) = fit_commit marked called answers
commits_fittingly _ = true

-- each call that was served on a connection
abbrev pub all_commit_fittingly : Link → Bool
all_commit_fittingly link = list_all (λ one. commits_fittingly one.served.item) link.served

abbrev pub commit_fittingly : Traced → Bool
commit_fittingly t = list_all all_commit_fittingly t.machine.links

-- ENTRIES THAT A RUN ADDED ------------------------------------------------------------------------

-- a piece whose call is a commit with no statement
abbrev pub commits_alone : Piece → Bool
commits_alone piece = implies (is_lone_commit piece.call)
    (same_answers piece.answers (answer.Committed ∷ []) && (length piece.draws == 0))

-- the last piece of an entry is that of the call that stored it
abbrev pub stores_alone : Entry → Bool
stores_alone entry = option_map_or commits_alone (last_or None entry.pieces) true

abbrev pub store_alone : Traced → Bool
store_alone t = list_all stores_alone (drop t.image t.entries)

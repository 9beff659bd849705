-- An item of the walk, as the code takes it apart.
use Rattle.std.specs.Prelude.{◌&&◌, not, ℕ, Bool, [], Option, None, if◌then◌else◌}
use Rattle.std.specs.Option.{option_map_or}
use Rattle.std.specs.Borrow.{Bor}
use Rattle.svc_values.specs.declared.call.Call.{Call}
use Rattle.svc_values.specs.declared.entry.Piece.{Piece}
use Rattle.svc_values.specs.declared.entry.SessionId.{SessionId}
use Rattle.svc_values.specs.meaning.Calls.{has_commit}
use Rattle.svc_values.specs.meaning.SettingsList.{NamedValues}
use Rattle.stmt_meaning.specs.meaning.Asked.{asked_by_call}
use Rattle.server_model.specs.meaning.Base.{Base}
use Rattle.server_model.specs.meaning.Items.{Item, Thing}
use Rattle.server_model.specs.meaning.Legal.{deed_holds, item_holds, means_commit, thing_holds}
use Rattle.server_model.specs.meaning.NewValues.{meets_with}
use Rattle.server_model.specs.meaning.Walk.{Deed, Walk, after, after_deed, after_thing, begun, deed, deed_of, entered, if_nothing, meaning, next_of, performed_by, performed_if, stands, with_transaction}

-- ---- an item

abbrev pub item_holds_here : Base → Walk → Item → Bool
item_holds_here base walk item = item_holds base (entered walk item) item
    (deed_of base (entered walk item) item)

abbrev pub after_item : Base → Walk → Item → Walk
after_item base walk item = after base (entered walk item) item
    (deed_of base (entered walk item) item)

-- ---- what a session did in the opening of now

abbrev pub did_so : Base → Walk → ℕ → SessionId → Thing → Deed
did_so base walk now session thing = deed base walk (performed_by walk now session thing)

abbrev pub does_hold : Base → Walk → ℕ → SessionId → Thing → Bool
does_hold base walk now session thing = deed_holds base walk (did_so base walk now session thing)
    && thing_holds base walk now session thing

abbrev pub after_does : Base → Walk → ℕ → SessionId → Thing → Walk
after_does base walk now session thing =
    after_thing (after_deed base walk (did_so base walk now session thing)) session
    (did_so base walk now session thing) thing

-- ---- a request that begins

abbrev pub settings_in : Option (Bor NamedValues) → NamedValues
settings_in settings = option_map_or (λ one. one.now) settings []

abbrev pub begins : Walk → SessionId → NamedValues → Walk
begins walk session settings = record walk {
  sessions =
      with_transaction walk.sessions session (begun settings);
}

-- ---- a call that was stopped

-- the last piece of the entry that the call stored, if it is a commit without the mark and the
-- entry that comes next is its session's
abbrev pub standing : Walk → SessionId → Bool → Call → Option Piece
standing walk session replay called = if has_commit called
    && not replay then stands (next_of walk session) walk.left else None

abbrev pub stopped_holds : Base → Walk → ℕ → SessionId → Bool → Call → Bool
stopped_holds base walk now session replay called =
    deed_holds base walk (deed base walk (performed_if walk now session replay called))

abbrev pub after_stopped : Base → Walk → ℕ → SessionId → Bool → Call → Walk
after_stopped base walk now session replay called =
    if_nothing (deed base walk (performed_if walk now session replay called))
    (after_deed base walk (deed base walk (performed_if walk now session replay called))) called

-- ---- a call that met a block

abbrev pub reaches : Base → Walk → ℕ → SessionId → Call → Bool
reaches base walk now session called = meets_with
    (λ draws. means_commit (meaning base walk session called draws)) now (asked_by_call called)
    walk.numbers

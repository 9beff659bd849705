-- Whether each frame that was told is the right one: identifiers, outcomes, and refusals of frames
-- out of order.
use Rattle.std.specs.Prelude.{◌==◌, ◌&&◌, Bool, true, false, not, nat_lt, List, [], ◌∷◌, map, if◌then◌else◌}
use Rattle.svc_values.specs.declared.call.Call.{Call}
use Rattle.svc_values.specs.declared.call.Call.TheVariants as call
use Rattle.svc_values.specs.declared.entry.Ltxid.{Ltxid}
use Rattle.svc_values.specs.declared.entry.Entry.{Entry}
use Rattle.svc_values.specs.declared.frame.Up.{Up}
use Rattle.svc_values.specs.declared.frame.Up.TheVariants as up
use Rattle.svc_values.specs.declared.frame.Down.{Down}
use Rattle.svc_values.specs.declared.frame.Down.TheVariants as down
use Rattle.svc_values.specs.declared.frame.Ahead.{Ahead}
use Rattle.svc_values.specs.declared.frame.Ahead.TheVariants as ahead
use Rattle.svc_values.specs.meaning.Identifiers.{same_ltxid, same_session}
use Rattle.ltxid_book.specs.meaning.Journal.{book_of, committed_of}
use Rattle.ltxid_book.specs.meaning.Outcomes.{verdict_of}
use Rattle.server_model.specs.meaning.Base.{Base}
use Rattle.svc_values.specs.declared.entry.SessionId.{SessionId}
use Rattle.server_model.specs.Sessions.{Life, New, Idle, Begun, Ended}
use Rattle.svc_values.specs.meaning.Same.{same_bool}
use Rattle.server_model.specs.meaning.Outcomes.{Telling, Silent, Says, Stopped}
use Rattle.server_model.specs.Outcomes.{down_of}
use Rattle.server_model.specs.Runs.{Happened, Served, Asked}
use Rattle.server_model.specs.Items.{item_of}
use Rattle.server_model.specs.meaning.Walk.{Walk, walk_of, next_of, deed_of, entered, after}

-- ---- where each session is in its life, by the frames that it served

abbrev pub life_in : List (SessionId × Life) → SessionId → Life
life_in [] session = New
life_in (first ∷ rest) session = if same_session first.0 session then first.1 else life_in
    rest session

abbrev pub with_life : List (SessionId × Life) → SessionId → Life → List (SessionId × Life)
with_life [] session life = (session, life) ∷ []
with_life (first ∷ rest) session life = if same_session first.0 session then (session, life)
    ∷ rest else first ∷ with_life rest session life

-- a frame that is served in order
abbrev pub life_behind : Up → Life → Life
life_behind up.Connect life = Idle
life_behind (up.Begin settings) life = Begun
life_behind (up.Call replay kept called) life = life
life_behind (up.Outcome x) life = life
life_behind up.End life = Idle
life_behind up.Close life = Ended

abbrev pub life_told : Up → Down → Life → Life
life_told frame down.Blocked life = Ended
life_told frame (down.Refused cause) life = Ended
life_told frame _ life = life_behind frame life

abbrev pub life_after : Up → Telling → Life → Life
life_after frame Silent life = life_behind frame life
life_after frame (Says told) life = life_told frame told life
life_after frame Stopped life = Ended

-- ---- what has to be told

abbrev pub is_marked_alter : Bool → Call → Bool
is_marked_alter replay (call.Alter line) = replay
is_marked_alter replay _ = false

-- the frame is refused: it is no Connect at the start, a Connect later, a call between requests, or
-- an alter with the mark
abbrev pub must_refuse : Life → Up → Bool
must_refuse New up.Connect = false
must_refuse New _ = true
must_refuse Idle up.Connect = true
must_refuse Idle (up.Call replay kept called) = true
must_refuse Idle _ = false
must_refuse Begun up.Connect = true
must_refuse Begun (up.Call replay kept called) = is_marked_alter replay called
must_refuse Begun _ = false
must_refuse Ended _ = false

abbrev pub is_refused : Down → Bool
is_refused (down.Refused cause) = cause == 2
is_refused _ = false

abbrev pub same_ahead : Ahead → Ahead → Bool
same_ahead ahead.Server ahead.Server = true
same_ahead ahead.Client ahead.Client = true
same_ahead _ _ = false

abbrev pub same_outcome : Down → Down → Bool
same_outcome (down.OutcomeIs a m) (down.OutcomeIs b n) = same_bool a b && same_bool m n
same_outcome (down.OutcomeRefused a m) (down.OutcomeRefused b n) = same_ahead a b && (m == n)
same_outcome _ _ = false

-- the frame that tells the outcome by the table, on the entries so far, where nothing is forgotten.
-- Whether an uncommitted identifier was blocked before makes no difference
abbrev pub outcome_on : Walk → Ltxid → Down
outcome_on walk x = down_of (verdict_of (book_of 0 (map committed_of walk.stored) walk.blocked) x)

-- an outcome is told by the table, or as forgotten below a horizon
abbrev pub tells_outcome : Walk → Ltxid → Down → Bool
tells_outcome walk x (down.OutcomeRefused ahead.Forgotten horizon) = nat_lt x.incarnation horizon
tells_outcome walk x told = same_outcome told (outcome_on walk x)

-- in order, an answer is of the frame's kind, and has the session's identifier behind the frame
abbrev pub tells : Walk → Walk → SessionId → Up → Down → Bool
tells before behind session up.Connect (down.Hello x) = same_ltxid x (next_of behind session)
tells before behind session (up.Call replay kept called) (down.Reply answers draws x) =
    same_ltxid x (next_of behind session)
tells before behind session (up.Call replay kept called) down.Blocked = true
tells before behind session (up.Outcome x) told = tells_outcome before x told
tells before behind session _ _ = false

abbrev pub is_silent : Up → Bool
is_silent up.Connect = false
is_silent (up.Begin settings) = true
is_silent (up.Call replay kept called) = false
is_silent (up.Outcome x) = false
is_silent up.End = true
is_silent up.Close = true

abbrev pub is_ended : Life → Bool
is_ended Ended = true
is_ended _ = false

-- `life` is that before the frame; `before` and `behind` are the walk before and behind it
abbrev pub told_holds : Life → Walk → Walk → SessionId → Up → Telling → Bool
told_holds life before behind session frame Silent =
    not (is_ended life) && (is_silent frame && not (must_refuse life frame))
told_holds life before behind session frame (Says told) =
    not (is_ended life) && (if must_refuse life frame then is_refused told else
    tells before behind session frame told)
told_holds life before behind session frame Stopped = true

abbrev pub ask_holds : Walk → Ltxid → Telling → Bool
ask_holds before x Silent = false
ask_holds before x (Says told) = tells_outcome before x told
ask_holds before x Stopped = true

abbrev pub happened_holds : List (SessionId × Life) → Walk → Walk → Happened → Bool
happened_holds lives before behind (Served session now frame told) =
    told_holds (life_in lives session) before behind session frame told
happened_holds lives before behind (Asked x told) = ask_holds before x told

abbrev pub lives_after : List (SessionId × Life) → Happened → List (SessionId × Life)
lives_after lives (Served session now frame told) =
    with_life lives session (life_after frame told (life_in lives session))
lives_after lives (Asked x told) = lives

abbrev pub told_from : Base → List (SessionId × Life) → Walk → List Happened → Bool
told_from base lives walk [] = true
told_from base lives walk (happened ∷ more) =
    let item = item_of 0 happened in
    let here = entered walk item in
    let behind = after base here item (deed_of base here item) in
    happened_holds lives here behind happened
    && told_from base (lives_after lives happened) behind more

-- Each frame of a history is told as it has to be: a Hello and a Reply with their session's
-- identifier, with the number of its entries then; an outcome and an ask by the table then; Refused
-- exactly for a frame out of order; and nothing exactly for Begin, End and Close in order.
abbrev pub told_right : Base → List Happened → List Entry → Bool
told_right base history entries = told_from base [] (walk_of base entries) history

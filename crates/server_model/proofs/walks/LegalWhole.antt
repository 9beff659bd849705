-- What was served in a run is legal.
use Rattle.std.specs.Prelude.{◌≡◌, ◌&&◌, Bool, true, List, [], ◌∷◌, ◌++◌}
use Rattle.std.proofs.Common.{refl, sym, ◌∙◌, ap, append-nil, append_assoc}
use Rattle.svc_values.specs.declared.entry.Entry.{Entry}
use Rattle.svc_values.specs.declared.entry.SessionId.{SessionId}
use Rattle.svc_values.specs.meaning.Identifiers.{session_of}
use Rattle.server_model.specs.meaning.Base.{Base}
use Rattle.server_model.specs.Base.{IsSound}
use Rattle.server_model.specs.Sessions.{Life}
use Rattle.server_model.specs.meaning.Outcomes.{Stopped}
use Rattle.server_model.specs.Runs.{Happened, Served, Asked, Server, Moves, Makes, Answers, Halts, Loses, AnswersAsk, HaltsInAsk, Reaps, Falls, Opens, StopsOpening, Runs, Start, Then, On, is_running}
use Rattle.server_model.specs.meaning.Items.{thing_of}
use Rattle.server_model.specs.Items.{item_of}
use Rattle.server_model.specs.meaning.Walk.{Walk, walk_of, entered, deed_of}
use Rattle.server_model.specs.meaning.Legal.{thing_holds}
use Rattle.server_model.specs.Laws.{stops_last, RunsLegal}
use Rattle.server_model.proofs.Steps.{serve_alive}
use Rattle.server_model.proofs.Numbers.{Numbered}
use Rattle.server_model.proofs.NumberRuns.{runs_number}
use Rattle.server_model.proofs.Fronts.{moves_front}
use Rattle.server_model.proofs.walks.Following.{walk_behind, walked}
use Rattle.server_model.proofs.walks.BlocksTold.{BlocksOut, out-enters, runs-out}
use Rattle.server_model.proofs.walks.BlockedFrames.{serve-may, stopped-may}
use Rattle.server_model.proofs.draws.DrawnFrames.{deed_draws}
use Rattle.server_model.proofs.draws.DrawnRuns.{Keeps, deeds_drawn, tracks-here, number-here, runs-draws}
use Rattle.server_model.proofs.walks.LegalRuns.{drawn_but, legal-drawn}
use Rattle.server_model.proofs.StoppedHistories.{Later, later-left, later-none, stops-left, and-left, and-right, and-both}
use Rattle.server_model.proofs.walks.WalkFrames.{Walks, at}
use Rattle.server_model.proofs.walks.WalkMoves.{lives_walked, and-true}
use Rattle.server_model.proofs.walks.WalkRuns.{moves-later, runs-walk}

-- each call that was answered Blocked may be so
abbrev things_held : Base → Walk → List Happened → Bool
things_held base walk [] = true
things_held base walk (Served session now frame told ∷ more) =
    thing_holds base (entered walk (item_of 0 (Served session now frame told))) now session (thing_of frame told) && things_held base (walk_behind base walk (Served session now frame told)) more
things_held base walk (Asked x told ∷ more) = things_held base (walk_behind base walk (Asked x told)) more

things-more : (base : Base) (walk : Walk) (history more : List Happened) → things_held base walk history ≡ true → things_held base (walked base walk history) more ≡ true → things_held base walk (history ++ more) ≡ true
unfolding walked
things-more base walk [] more one other = other
things-more base walk (Served session now frame told ∷ history) more one other =
    let b = thing_holds base (entered walk (item_of 0 (Served session now frame told))) now session (thing_of frame told) in
    and-both b _ (and-left b _ one) (things-more base (walk_behind base walk (Served session now frame told)) history more (and-right b _ one) other)
things-more base walk (Asked x told ∷ history) more one other = things-more base (walk_behind base walk (Asked x told)) history more one other

-- with its draws it is what has to be shown
both-held : (base : Base) (walk : Walk) (history : List Happened) → deeds_drawn base walk history ≡ true → things_held base walk history ≡ true → drawn_but base walk history ≡ true
both-held base walk [] drawn held = refl
both-held base walk (Served session now frame told ∷ history) drawn held =
    let here : Walk = entered walk (item_of 0 (Served session now frame told)) in
    let b = deed_draws base here (deed_of base here (item_of 0 (Served session now frame told))) in
    let c = thing_holds base here now session (thing_of frame told) in
    and-both (b && c) _ (and-both b c (and-left b _ drawn) (and-left c _ held)) (both-held base (walk_behind base walk (Served session now frame told)) history (and-right b _ drawn) (and-right c _ held))
both-held base walk (Asked x told ∷ history) drawn held = both-held base (walk_behind base walk (Asked x told)) history drawn held

step-held : (base : Base) (history more : List Happened) (server after : Server) (rest gained : List Entry) (walk : Walk) (lives : List (SessionId × Life)) → Numbered base server → Moves server more after → stops_last (history ++ more) ≡ true
    → after.core.entries ≡ server.core.entries ++ gained → Walks history server (gained ++ rest) walk lives → Keeps history server.core walk → BlocksOut server.core walk → things_held base walk more ≡ true
step-held base history _ server _ rest gained walk lives numbered (Makes on) stops grew walks keeps out = refl
step-held base history _ server _ rest gained walk lives numbered (Answers old new now frame core told after on serve answered turns) stops grew walks keeps out =
    let grew_here : core.entries ≡ server.core.entries ++ gained = sym (ap (λ (s : Server). s.core.entries) turns.turned) ∙ grew in
    and-true _ (serve-may base server.core (entered walk (item_of 0 (Served (session_of old.ltxid) now frame told))) old
    (at base history server rest gained walk lives numbered walks after old new now frame core On (ap is_running on) turns told stops grew_here)
    (tracks-here base history server rest gained walk lives numbered walks keeps after old new now frame core On (ap is_running on) turns told stops grew_here)
    (number-here base history server rest gained walk lives numbered walks keeps after old new now frame core On (ap is_running on) turns told stops grew_here (serve_alive server.core old now frame core new told serve))
    (λ x is. out-enters walk (session_of old.ltxid) now (thing_of frame told) x (out x is)) now frame core new told serve answered)
step-held base history _ server _ rest gained walk lives numbered (Halts old new now frame core told after running serve turns) stops grew walks keeps out = and-true _ (stopped-may base (entered walk (item_of 0 (Served (session_of old.ltxid) now frame Stopped))) now (session_of old.ltxid) frame)
step-held base history _ server _ rest gained walk lives numbered (Loses old now frame after halt turns) stops grew walks keeps out = and-true _ (stopped-may base (entered walk (item_of 0 (Served (session_of old.ltxid) now frame Stopped))) now (session_of old.ltxid) frame)
step-held base history _ server _ rest gained walk lives numbered (AnswersAsk x core frame on asked) stops grew walks keeps out = refl
step-held base history _ server _ rest gained walk lives numbered (HaltsInAsk x core told running asked) stops grew walks keeps out = refl
step-held base history _ server _ rest gained walk lives numbered (Reaps front back sess split) stops grew walks keeps out = refl
step-held base history _ server _ rest gained walk lives numbered Falls stops grew walks keeps out = refl
step-held base history _ server _ rest gained walk lives numbered (Opens below off may) stops grew walks keeps out = refl
step-held base history _ server _ rest gained walk lives numbered (StopsOpening below core off may same) stops grew walks keeps out = refl

runs-held : (base : Base) (history : List Happened) (server : Server) → IsSound base → Runs base history server → stops_last history ≡ true → (rest final : List Entry) → Later rest history → final ≡ server.core.entries ++ rest → things_held base (walk_of base final) history ≡ true
runs-held base _ _ sound Start stops rest final later is = refl
runs-held base _ _ sound (Then history more server after runs moves) stops rest final later is =
    let front = moves_front server after more moves in
    let gained = front.more_entries in
    let before = stops-left history more stops in
    let later_here = moves-later history more server after rest gained moves front.entries stops (later-left rest history more later) in
    let is_here = is ∙ ap (λ e. e ++ rest) front.entries ∙ append_assoc server.core.entries gained rest in
    things-more base (walk_of base final) history more (runs-held base history server sound runs before (gained ++ rest) final later_here is_here)
    (step-held base history more server after rest gained (walked base (walk_of base final) history) (lives_walked [] history) (runs_number base history server sound runs) moves stops front.entries
    (runs-walk base history server sound runs before (gained ++ rest) final later_here is_here).walks (runs-draws base history server sound runs before (gained ++ rest) final later_here is_here).keeps (runs-out base history server runs final))

pub runs_legal : RunsLegal
runs_legal base history server sound runs stops =
    let entries = server.core.entries in
    legal-drawn base history server sound runs stops
    (both-held base (walk_of base entries) history (runs-draws base history server sound runs stops [] entries (later-none history) (sym (append-nil entries))).right
    (runs-held base history server sound runs stops [] entries (later-none history) (sym (append-nil entries))))

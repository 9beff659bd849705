-- The numbers of the walk over a run are such as can be spelled, at its start and as each item
-- leaves them.
use Rattle.std.specs.Prelude.{◌≡◌, ◌+◌, ◌<◌, ◌≤◌, ◌^◌, ◌&&◌, nat_lt, ℕ, Bool, true, List, [], ◌∷◌, ◌++◌}
use Rattle.std.proofs.Common.{sym, ◌∙◌, ap, subst, arith, append-nil, append_assoc}
use Rattle.std.proofs.lemmas.Bool.Decides.{nat_tests}
use Rattle.svc_values.specs.declared.entry.Entry.{Entry}
use Rattle.svc_values.specs.declared.frame.Down.TheVariants as down
use Rattle.server_model.specs.meaning.Base.{Base}
use Rattle.server_model.specs.Base.{IsSound}
use Rattle.server_model.specs.Fresh.{is_spelled, have_room}
use Rattle.server_model.specs.Items.{items_from}
use Rattle.server_model.specs.Laws.{RunsHaveRoom, stops_last}
use Rattle.server_model.specs.meaning.NewValues.{Numbers}
use Rattle.server_model.specs.meaning.Outcomes.{Silent, Says, Stopped}
use Rattle.server_model.specs.Runs.{Happened, Served, Asked, Server, Runs, Start, Then}
use Rattle.server_model.specs.meaning.Walk.{Walk, walk_of}
use Rattle.server_model.proofs.draws.DrawnRuns.{runs-draws}
use Rattle.server_model.proofs.walks.Following.{walk_behind, walked}
use Rattle.server_model.proofs.Fronts.{AtMostOne, None1, Some1, moves_front, moves_one}
use Rattle.server_model.proofs.draws.RoomKept.{Few, runs-spelled}
use Rattle.server_model.proofs.StoppedHistories.{Later, later-left, later-none, stops-left, and-left, and-right, and-both}
use Rattle.server_model.proofs.walks.WalkRuns.{moves-later, runs-walk}

-- ---- the numbers along a history

abbrev pub spelled_along : Base → Walk → List Happened → Bool
spelled_along base walk [] = is_spelled walk.numbers
spelled_along base walk (happened ∷ more) = is_spelled walk.numbers && spelled_along base (walk_behind base walk happened) more

-- one thing more
along-more : (base : Base) (walk : Walk) (history : List Happened) (last : Happened) → spelled_along base walk history ≡ true → is_spelled (walked base walk (history ++ last ∷ [])).numbers ≡ true → spelled_along base walk (history ++ last ∷ []) ≡ true
unfolding walked
along-more base walk [] last before here = and-both (is_spelled walk.numbers) _ before here
along-more base walk (happened ∷ history) last before here =
    and-both (is_spelled walk.numbers) _ (and-left (is_spelled walk.numbers) _ before) (along-more base (walk_behind base walk happened) history last (and-right (is_spelled walk.numbers) _ before) here)

along-move : (base : Base) (walk : Walk) (history more : List Happened) → AtMostOne more → spelled_along base walk history ≡ true → is_spelled (walked base walk (history ++ more)).numbers ≡ true → spelled_along base walk (history ++ more) ≡ true
along-move base walk history _ None1 before here = subst (λ (h : List Happened). spelled_along base walk h ≡ true) (sym (append-nil history)) before
along-move base walk history _ (Some1 last) before here = along-more base walk history last before here

-- the same of the items
items-along : (base : Base) (walk : Walk) (history : List Happened) (event : ℕ) → spelled_along base walk history ≡ true → have_room base walk (items_from event history) ≡ true
items-along base walk [] event spelled = spelled
items-along base walk (Served session now frame told ∷ history) event spelled =
    and-both (is_spelled walk.numbers) _ (and-left (is_spelled walk.numbers) _ spelled) (items-along base (walk_behind base walk (Served session now frame told)) history (event + 1) (and-right (is_spelled walk.numbers) _ spelled))
items-along base walk (Asked x Silent ∷ history) event spelled = and-both (is_spelled walk.numbers) _ (and-left (is_spelled walk.numbers) _ spelled) (items-along base _ history (event + 1) (and-right (is_spelled walk.numbers) _ spelled))
items-along base walk (Asked x Stopped ∷ history) event spelled = and-both (is_spelled walk.numbers) _ (and-left (is_spelled walk.numbers) _ spelled) (items-along base _ history (event + 1) (and-right (is_spelled walk.numbers) _ spelled))
items-along base walk (Asked x (Says (down.Hello y)) ∷ history) event spelled =
    and-both (is_spelled walk.numbers) _ (and-left (is_spelled walk.numbers) _ spelled) (items-along base _ history (event + 1) (and-right (is_spelled walk.numbers) _ spelled))
items-along base walk (Asked x (Says (down.Reply answers draws y)) ∷ history) event spelled =
    and-both (is_spelled walk.numbers) _ (and-left (is_spelled walk.numbers) _ spelled) (items-along base _ history (event + 1) (and-right (is_spelled walk.numbers) _ spelled))
items-along base walk (Asked x (Says (down.OutcomeIs committed completed)) ∷ history) event spelled =
    and-both (is_spelled walk.numbers) _ (and-left (is_spelled walk.numbers) _ spelled) (items-along base _ history (event + 1) (and-right (is_spelled walk.numbers) _ spelled))
items-along base walk (Asked x (Says (down.OutcomeRefused ahead next)) ∷ history) event spelled =
    and-both (is_spelled walk.numbers) _ (and-left (is_spelled walk.numbers) _ spelled) (items-along base _ history (event + 1) (and-right (is_spelled walk.numbers) _ spelled))
items-along base walk (Asked x (Says down.Blocked) ∷ history) event spelled =
    and-both (is_spelled walk.numbers) _ (and-left (is_spelled walk.numbers) _ spelled) (items-along base _ history (event + 1) (and-right (is_spelled walk.numbers) _ spelled))
items-along base walk (Asked x (Says (down.Refused cause)) ∷ history) event spelled =
    and-both (is_spelled walk.numbers) _ (and-left (is_spelled walk.numbers) _ spelled) (items-along base _ history (event + 1) (and-right (is_spelled walk.numbers) _ spelled))

-- ---- a run

spelled-so : (numbers : Numbers) (incarnation : ℕ) → numbers.incarnation ≤ incarnation → incarnation < 2 ^ 64 → Few numbers.identifiers → is_spelled numbers ≡ true
spelled-so numbers incarnation within small few = and-both (nat_lt numbers.incarnation (2 ^ 64)) _ (below numbers.incarnation (omega (arith, within, small))) (below numbers.identifiers (omega (arith, few)))
  where
    below : (n : ℕ) → n < 2 ^ 64 → nat_lt n (2 ^ 64) ≡ true
    below n small = grind (arith, nat_tests)

-- behind a whole run
end-spelled : (base : Base) (history : List Happened) (server : Server) → IsSound base → Runs base history server → stops_last history ≡ true → (rest final : List Entry) → Later rest history → final ≡ server.core.entries ++ rest → is_spelled (walked base (walk_of base final) history).numbers ≡ true
end-spelled base history server sound runs stops rest final later is =
    spelled-so (walked base (walk_of base final) history).numbers server.core.opening.incarnation (runs-walk base history server sound runs stops rest final later is).walks.within (runs-spelled base history server sound runs).incarnation
    (runs-draws base history server sound runs stops rest final later is).few

-- and along it
runs-along : (base : Base) (history : List Happened) (server : Server) → IsSound base → Runs base history server → stops_last history ≡ true → (rest final : List Entry) → Later rest history → final ≡ server.core.entries ++ rest → spelled_along base (walk_of base final) history ≡ true
unfolding walked
runs-along base _ server sound Start stops rest final later is = end-spelled base [] server sound Start stops rest final later is
runs-along base _ _ sound (Then history more server after runs moves) stops rest final later is =
    let front = moves_front server after more moves in
    let gained = front.more_entries in
    let before = stops-left history more stops in
    let later_here = moves-later history more server after rest gained moves front.entries stops (later-left rest history more later) in
    let is_here = is ∙ ap (λ e. e ++ rest) front.entries ∙ append_assoc server.core.entries gained rest in
    along-move base (walk_of base final) history more (moves_one server after more moves) (runs-along base history server sound runs before (gained ++ rest) final later_here is_here)
    (end-spelled base (history ++ more) after sound (Then history more server after runs moves) stops rest final later is)

pub runs_have_room : RunsHaveRoom
runs_have_room base history server sound runs stops =
    let entries = server.core.entries in
    items-along base (walk_of base entries) history 0 (runs-along base history server sound runs stops [] entries (later-none history) (sym (append-nil entries)))

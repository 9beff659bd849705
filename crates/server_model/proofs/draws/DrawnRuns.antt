-- The draws of a run are as the walk over it has them.
use Rattle.std.specs.Prelude.{◌≡◌, ◌+◌, ◌≤◌, ◌&&◌, nat_lt, ℕ, Bool, true, false, IsTrue, List, [], ◌∷◌, ◌++◌, map, Some, if◌then◌else◌}
use Rattle.std.specs.Str.{bytes_eq}
use Rattle.std.proofs.Common.{refl, inl, inr, sym, ◌∙◌, ap, subst, arith, append-nil, append_assoc}
use Rattle.std.proofs.lemmas.Bool.Decides.{nat_tests}
use Rattle.svc_values.specs.declared.entry.Ltxid.{Ltxid}
use Rattle.svc_values.specs.declared.entry.Entry.{Entry}
use Rattle.svc_values.specs.declared.frame.Up.{Up}
use Rattle.svc_values.specs.declared.frame.Down.TheVariants as down
use Rattle.svc_values.specs.declared.frame.Ahead.TheVariants as ahead
use Rattle.ltxid_book.specs.meaning.Journal.{committed_of}
use Rattle.mutable_values.specs.Sources.{Opening, sequence_of}
use Rattle.server_model.specs.meaning.Base.{Base, Sequence}
use Rattle.server_model.specs.Base.{IsSound}
use Rattle.server_model.specs.meaning.Core.{sequence_at}
use Rattle.server_model.specs.Core.{Core, core_of, opening_after}
use Rattle.svc_values.specs.declared.entry.SessionId.{SessionId}
use Rattle.svc_values.specs.meaning.Identifiers.{session_of}
use Rattle.server_model.specs.Sessions.{Life, Ended, Sess, ended}
use Rattle.server_model.specs.meaning.Outcomes.{Telling, Silent, Says, Stopped}
use Rattle.server_model.specs.Runs.{Happened, Served, Asked, Server, Turns, Moves, Makes, Answers, Halts, Loses, AnswersAsk, HaltsInAsk, Reaps, Falls, Opens, StopsOpening, Runs, Start, Then, On, Halted, Power, is_running}
use Rattle.server_model.specs.meaning.Items.{Thing, Item, Did, thing_of}
use Rattle.server_model.specs.Items.{item_of, items_from}
use Rattle.server_model.specs.meaning.NewValues.{Numbers, opened, count_of}
use Rattle.server_model.specs.meaning.Walk.{Walk, walk_of, entered, deed_of, next_of, after}
use Rattle.server_model.specs.Laws.{stops_last}
use Rattle.server_model.proofs.Stays.{serve_stays, outcomes_stay}
use Rattle.server_model.proofs.Steps.{serve_alive}
use Rattle.server_model.proofs.Counts.{count}
use Rattle.server_model.proofs.draws.CountedBlocks.{follows-start}
use Rattle.server_model.proofs.Numbers.{Numbered}
use Rattle.server_model.proofs.NumberRuns.{runs_number}
use Rattle.server_model.proofs.Fronts.{moves_front}
use Rattle.server_model.proofs.walks.Following.{walk_behind, walked, walked-more, next-same}
use Rattle.server_model.proofs.draws.KeptDraws.{SameKept}
use Rattle.server_model.proofs.draws.SameNamesRuns.{runs-kept}
use Rattle.server_model.proofs.draws.RoomKept.{Few, moves-spelled, runs-spelled}
use Rattle.server_model.proofs.draws.Tracking.{count_in, TracksOne, Tracks}
use Rattle.server_model.proofs.draws.Spending.{Spent, tracks-spent, spent-opened, spent-after}
use Rattle.server_model.proofs.draws.DrawnFrames.{deed_draws, serve-draws}
use Rattle.server_model.proofs.draws.DrawnStops.{lost-frame, serve-stops}
use Rattle.server_model.proofs.StoppedHistories.{NoStop, no_stop-left, no_stop-right, none-stopped, Later, later-left, later-right, stops-left, and-left, and-right, and-both}
use Rattle.server_model.proofs.walks.WalkFrames.{Walks, mine, at, left}
use Rattle.server_model.proofs.walks.WalkMoves.{lives_walked, and-true}
use Rattle.server_model.proofs.walks.WalkRuns.{moves-later, runs-walk}

-- ---- the numbers of an incarnation

-- those with which its items begin
abbrev pub numbers_in : Numbers → ℕ → Numbers
numbers_in numbers n = if nat_lt numbers.incarnation n then opened numbers n else numbers

not-below : (m n : ℕ) → m ≡ n → nat_lt m n ≡ false
not-below m n same = grind (arith, nat_tests)

below-next : (m n : ℕ) → m ≤ n → nat_lt m (n + 1) ≡ true
below-next m n within = grind (arith, nat_tests)

numbers-same : (numbers : Numbers) (n : ℕ) → numbers.incarnation ≡ n → numbers_in numbers n ≡ numbers
numbers-same numbers n same = ap (λ b. if b then opened numbers n else numbers) (not-below numbers.incarnation n same)

numbers-next : (numbers : Numbers) (n : ℕ) → numbers.incarnation ≤ n → numbers_in numbers (n + 1) ≡ opened numbers (n + 1)
numbers-next numbers n within = ap (λ b. if b then opened numbers (n + 1) else numbers) (below-next numbers.incarnation n within)

entered-numbers : (walk : Walk) (session : SessionId) (now : ℕ) (thing : Thing) → (entered walk (Did 0 now session thing)).numbers ≡ numbers_in walk.numbers session.incarnation
entered-numbers walk session now thing = by (nat_lt walk.numbers.incarnation session.incarnation)
  where
    by : (b : Bool) → (if b then record walk { numbers = opened walk.numbers session.incarnation; is_over = false } else walk).numbers ≡ (if b then opened walk.numbers session.incarnation else walk.numbers)
    by true = refl
    by false = refl

-- ---- the relation

-- The walk has the last blocks of the source. Where nothing of its opening was stopped, the items
-- that come next begin with the source's numbers.
pub record Keeps (history : List Happened) (core : Core) (walk : Walk) : Type 0 where
  pub spent : Spent walk.numbers core.opening
  pub ready : NoStop core.opening.incarnation history → Tracks (numbers_in walk.numbers core.opening.incarnation) core.opening

keeps-tracks : (history : List Happened) (core : Core) (walk : Walk) → Tracks walk.numbers core.opening → Keeps history core walk
keeps-tracks history core walk tracks = record {
  spent = tracks-spent walk.numbers core.opening tracks;
  ready = λ ok. subst (λ n. Tracks n core.opening) (sym (numbers-same walk.numbers core.opening.incarnation tracks.opened_as)) tracks;
}

-- where the source and the numbers stay
keeps-on : (history more : List Happened) (core after : Core) (walk behind : Walk) → after.opening ≡ core.opening → behind.numbers ≡ walk.numbers → Keeps history core walk → Keeps (history ++ more) after behind
keeps-on history more core after walk behind same numbers keeps = record {
  spent = subst (λ n. Spent n after.opening) (sym numbers) (subst (Spent walk.numbers) (sym same) keeps.spent);
  ready = λ ok. subst (λ n. Tracks (numbers_in n after.opening.incarnation) after.opening) (sym numbers)
      (subst (λ (o : Opening). Tracks (numbers_in walk.numbers o.incarnation) o) (sym same) (keeps.ready (subst (λ (o : Opening). NoStop o.incarnation history) same (no_stop-left after.opening.incarnation history more ok))));
}

-- a new opening
keeps-opened : (history : List Happened) (core after : Core) (walk : Walk) → walk.numbers.incarnation ≤ core.opening.incarnation → after.opening ≡ opening_after core.opening (core.opening.incarnation + 1) → Keeps history core walk → Keeps (history ++ []) after walk
keeps-opened history core after walk within same keeps = record {
  spent = subst (Spent walk.numbers) (sym same) (spent-after walk.numbers core.opening (core.opening.incarnation + 1) keeps.spent);
  ready = λ ok. subst (λ (o : Opening). Tracks (numbers_in walk.numbers o.incarnation) o) (sym same)
      (subst (λ n. Tracks n (opening_after core.opening (core.opening.incarnation + 1))) (sym (numbers-next walk.numbers core.opening.incarnation within)) (spent-opened walk.numbers core.opening (core.opening.incarnation + 1) keeps.spent));
}

pub ask-numbers : (base : Base) (walk : Walk) (x : Ltxid) (told : Telling) → (walk_behind base walk (Asked x told)).numbers ≡ walk.numbers
ask-numbers base walk x Silent = refl
ask-numbers base walk x Stopped = refl
ask-numbers base walk x (Says (down.Hello y)) = refl
ask-numbers base walk x (Says (down.Reply answers draws y)) = refl
ask-numbers base walk x (Says (down.OutcomeIs true completed)) = refl
ask-numbers base walk x (Says (down.OutcomeIs false completed)) = refl
ask-numbers base walk x (Says (down.OutcomeRefused ahead.Server next)) = refl
ask-numbers base walk x (Says (down.OutcomeRefused ahead.Client next)) = refl
ask-numbers base walk x (Says (down.OutcomeRefused ahead.Forgotten next)) = refl
ask-numbers base walk x (Says down.Blocked) = refl
ask-numbers base walk x (Says (down.Refused cause)) = refl

-- ---- the draws of a history

-- the draws of each deed are as they have to be
abbrev pub deeds_drawn : Base → Walk → List Happened → Bool
deeds_drawn base walk [] = true
deeds_drawn base walk (Served session now frame told ∷ more) =
    let here = entered walk (item_of 0 (Served session now frame told)) in
    deed_draws base here (deed_of base here (item_of 0 (Served session now frame told))) && deeds_drawn base (walk_behind base walk (Served session now frame told)) more
deeds_drawn base walk (Asked x told ∷ more) = deeds_drawn base (walk_behind base walk (Asked x told)) more

deeds-more : (base : Base) (walk : Walk) (history more : List Happened) → deeds_drawn base walk history ≡ true → deeds_drawn base (walked base walk history) more ≡ true → deeds_drawn base walk (history ++ more) ≡ true
unfolding walked
deeds-more base walk [] more one other = other
deeds-more base walk (Served session now frame told ∷ history) more one other =
    let b = deed_draws base (entered walk (item_of 0 (Served session now frame told))) (deed_of base (entered walk (item_of 0 (Served session now frame told))) (item_of 0 (Served session now frame told))) in
    and-both b _ (and-left b _ one) (deeds-more base (walk_behind base walk (Served session now frame told)) history more (and-right b _ one) other)
deeds-more base walk (Asked x told ∷ history) more one other = deeds-more base (walk_behind base walk (Asked x told)) history more one other

-- ---- each move

record StepDraws (base : Base) (history more : List Happened) (before core : Core) (walk : Walk) : Type 0 where
  right : deeds_drawn base walk more ≡ true
  keeps : Keeps (history ++ more) core (walked base walk more)
  few : Few before.opening.identifiers → Few core.opening.identifiers → Few walk.numbers.identifiers → Few (walked base walk more).numbers.identifiers

module _ (base : Base) (history : List Happened) (server : Server) (rest gained : List Entry) (walk : Walk) (lives : List (SessionId × Life)) (numbered : Numbered base server) (walks : Walks history server (gained ++ rest) walk lives) (keeps : Keeps history server.core walk)
    (after : Server) (old new : Sess) (now : ℕ) (frame : Up) (core : Core) (power : Power) (running : IsTrue (is_running server.power)) (turns : Turns server after old new core power) (told : Telling)
    (stops : stops_last (history ++ Served (session_of old.ltxid) now frame told ∷ []) ≡ true) (grew : core.entries ≡ server.core.entries ++ gained) where
  own-incarnation : old.ltxid.incarnation ≡ server.core.opening.incarnation
  own-incarnation = (mine base history server rest gained walk lives numbered walks after old new now frame core power running turns told stops grew).incarnation

  pub tracks-here : Tracks (entered walk (item_of 0 (Served (session_of old.ltxid) now frame told))).numbers server.core.opening
  tracks-here = subst (λ n. Tracks n server.core.opening) (sym (entered-numbers walk (session_of old.ltxid) now (thing_of frame told) ∙ ap (numbers_in walk.numbers) own-incarnation))
      (keeps.ready (subst (λ n. NoStop n history) own-incarnation (none-stopped history (session_of old.ltxid) now frame told stops)))

  pub number-here : (old.life ≡ Ended → ⊥) → next_of (entered walk (item_of 0 (Served (session_of old.ltxid) now frame told))) (session_of old.ltxid) ≡ old.ltxid
  number-here alive =
      let own = mine base history server rest gained walk lives numbered walks after old new now frame core power running turns told stops grew in
      let here_at = at base history server rest gained walk lives numbered walks after old new now frame core power running turns told stops grew in
      next-same (entered walk (item_of 0 (Served (session_of old.ltxid) now frame told))).stored old (own.number alive ∙ ap (λ s. count (map committed_of s) old.ltxid.incarnation old.ltxid.session) (sym here_at.stored))

  -- behind a stop nothing of the opening comes
  never-ready : (same : core.opening.incarnation ≡ server.core.opening.incarnation) → NoStop core.opening.incarnation (history ++ Served (session_of old.ltxid) now frame Stopped ∷ []) → ⊥
  never-ready same ok = (no_stop-right core.opening.incarnation history (Served (session_of old.ltxid) now frame Stopped ∷ []) ok).0 (own-incarnation ∙ sym same)

step-draws : (base : Base) (history more : List Happened) (server after : Server) (rest gained : List Entry) (walk : Walk) (lives : List (SessionId × Life)) → Numbered base server → SameKept base server.core.opening → Moves server more after
    → stops_last (history ++ more) ≡ true → Later rest (history ++ more) → after.core.entries ≡ server.core.entries ++ gained → Walks history server (gained ++ rest) walk lives → Keeps history server.core walk → StepDraws base history more server.core after.core walk
unfolding walked
step-draws base history _ server _ rest gained walk lives numbered kept (Makes on) stops later grew walks keeps = record { right = refl; keeps = keeps-on history [] server.core _ walk walk refl refl keeps; few = λ before behind counted. counted }
step-draws base history _ server _ rest gained walk lives numbered kept (Answers old new now frame core told after on serve answered turns) stops later grew walks keeps =
    let grew_here : core.entries ≡ server.core.entries ++ gained = sym (ap (λ (s : Server). s.core.entries) turns.turned) ∙ grew in
    let draws = serve-draws base server.core (entered walk (item_of 0 (Served (session_of old.ltxid) now frame told))) old
    (at base history server rest gained walk lives numbered walks after old new now frame core On (ap is_running on) turns told stops grew_here) kept
    (tracks-here base history server rest gained walk lives numbered walks keeps after old new now frame core On (ap is_running on) turns told stops grew_here) now frame core new told serve answered in
    record {
      right = and-true _ draws.right;
      keeps = subst (λ (c : Core). Keeps (history ++ Served (session_of old.ltxid) now frame told ∷ []) c (walk_behind base walk (Served (session_of old.ltxid) now frame told))) (sym (ap (λ (s : Server). s.core) turns.turned))
          (keeps-tracks (history ++ Served (session_of old.ltxid) now frame told ∷ []) core (walk_behind base walk (Served (session_of old.ltxid) now frame told)) draws.tracks);
      few = λ before behind counted. subst Few (ap (λ (s : Server). s.core.opening.identifiers) turns.turned ∙ sym draws.tracks.given) behind;
    }
step-draws base history _ server _ rest gained walk lives numbered kept (Halts old new now frame core told after running serve turns) stops later grew walks keeps =
    let grew_here : core.entries ≡ server.core.entries ++ gained = sym (ap (λ (s : Server). s.core.entries) turns.turned) ∙ grew in
    let alive = serve_alive server.core old now frame core new told serve in
    let stop = serve-stops base server.core (entered walk (item_of 0 (Served (session_of old.ltxid) now frame Stopped))) old
    (at base history server rest gained walk lives numbered walks after old new now frame core Halted running turns Stopped stops grew_here)
    (tracks-here base history server rest gained walk lives numbered walks keeps after old new now frame core Halted running turns Stopped stops grew_here) rest
    (later-right rest history (Served (session_of old.ltxid) now frame Stopped ∷ []) later).0
    (number-here base history server rest gained walk lives numbered walks keeps after old new now frame core Halted running turns Stopped stops grew_here alive) now frame core new told
    (left base history server rest gained walk lives numbered walks after old new now frame core Halted running turns Stopped stops grew_here) serve in
    record {
      right = and-true _ stop.right;
      keeps = subst (λ (c : Core). Keeps (history ++ Served (session_of old.ltxid) now frame Stopped ∷ []) c (walk_behind base walk (Served (session_of old.ltxid) now frame Stopped))) (sym (ap (λ (s : Server). s.core) turns.turned))
          (record {
            spent = stop.spent;
            ready = λ ok. absurd (never-ready base history server rest gained walk lives numbered walks keeps after old new now frame core Halted running turns Stopped stops grew_here (serve_stays server.core old now frame core new told serve).incarnation ok);
          });
      few = λ before behind counted. stop.few (subst Few (sym (tracks-here base history server rest gained walk lives numbered walks keeps after old new now frame core Halted running turns Stopped stops grew_here).given) before)
          (subst Few (ap (λ (s : Server). s.core.opening.identifiers) turns.turned) behind);
    }
step-draws base history _ server _ rest gained walk lives numbered kept (Loses old now frame after halt turns) stops later grew walks keeps =
    let grew_here : server.core.entries ≡ server.core.entries ++ gained = sym (ap (λ (s : Server). s.core.entries) turns.turned) ∙ grew in
    let stop = lost-frame base server.core (entered walk (item_of 0 (Served (session_of old.ltxid) now frame Stopped))) old
    (at base history server rest gained walk lives numbered walks after old (ended old) now frame server.core Halted (ap is_running halt) turns Stopped stops grew_here)
    (tracks-here base history server rest gained walk lives numbered walks keeps after old (ended old) now frame server.core Halted (ap is_running halt) turns Stopped stops grew_here) rest
    (later-right rest history (Served (session_of old.ltxid) now frame Stopped ∷ []) later).0 now frame server.core
    (left base history server rest gained walk lives numbered walks after old (ended old) now frame server.core Halted (ap is_running halt) turns Stopped stops grew_here [] (sym (append-nil server.core.entries))) refl in
    record {
      right = and-true _ stop.right;
      keeps = subst (λ (c : Core). Keeps (history ++ Served (session_of old.ltxid) now frame Stopped ∷ []) c (walk_behind base walk (Served (session_of old.ltxid) now frame Stopped))) (sym (ap (λ (s : Server). s.core) turns.turned))
          (record {
            spent = stop.spent;
            ready = λ ok. absurd (never-ready base history server rest gained walk lives numbered walks keeps after old (ended old) now frame server.core Halted (ap is_running halt) turns Stopped stops grew_here refl ok);
          });
      few = λ before behind counted. stop.few (subst Few (sym (tracks-here base history server rest gained walk lives numbered walks keeps after old (ended old) now frame server.core Halted (ap is_running halt) turns Stopped stops grew_here).given) before) before;
    }
step-draws base history _ server _ rest gained walk lives numbered kept (AnswersAsk x core frame on asked) stops later grew walks keeps =
    record { right = refl; keeps = keeps-on history (Asked x (Says frame) ∷ []) server.core core walk _ (outcomes_stay server.core x core _ asked).1 (ask-numbers base walk x (Says frame)) keeps; few = λ before behind counted. subst (λ (n : Numbers). Few n.identifiers) (sym (ask-numbers base walk x (Says frame))) counted }
step-draws base history _ server _ rest gained walk lives numbered kept (HaltsInAsk x core told running asked) stops later grew walks keeps =
    record { right = refl; keeps = keeps-on history (Asked x Stopped ∷ []) server.core core walk _ (outcomes_stay server.core x core told asked).1 refl keeps; few = λ before behind counted. counted }
step-draws base history _ server _ rest gained walk lives numbered kept (Reaps front back sess split) stops later grew walks keeps = record { right = refl; keeps = keeps-on history [] server.core _ walk walk refl refl keeps; few = λ before behind counted. counted }
step-draws base history _ server _ rest gained walk lives numbered kept Falls stops later grew walks keeps = record { right = refl; keeps = keeps-on history [] server.core _ walk walk refl refl keeps; few = λ before behind counted. counted }
step-draws base history _ server _ rest gained walk lives numbered kept (Opens below off may) stops later grew walks keeps = record { right = refl; keeps = keeps-opened history server.core _ walk walks.within refl keeps; few = λ before behind counted. counted }
step-draws base history _ server _ rest gained walk lives numbered kept (StopsOpening below core off may (inl same)) stops later grew walks keeps =
    record { right = refl; keeps = keeps-on history [] server.core core walk walk (ap (λ (c : Core). c.opening) same) refl keeps; few = λ before behind counted. counted }
step-draws base history _ server _ rest gained walk lives numbered kept (StopsOpening below core off may (inr (inl same))) stops later grew walks keeps =
    record { right = refl; keeps = keeps-on history [] server.core core walk walk (ap (λ (c : Core). c.opening) same) refl keeps; few = λ before behind counted. counted }
step-draws base history _ server _ rest gained walk lives numbered kept (StopsOpening below core off may (inr (inr same))) stops later grew walks keeps =
    record { right = refl; keeps = keeps-opened history server.core core walk walks.within (ap (λ (c : Core). c.opening) same) keeps; few = λ before behind counted. counted }

-- ---- a whole run

start-tracks : (sequences : List Sequence) (name : List ℕ) → TracksOne (count_in (map count_of sequences) name) (sequence_of (map sequence_at sequences) name)
start-tracks [] name = tt
start-tracks (sequence ∷ sequences) name = by (bytes_eq sequence.name name) (start-tracks sequences name)
  where
    by : (b : Bool) → TracksOne (count_in (map count_of sequences) name) (sequence_of (map sequence_at sequences) name)
        → TracksOne (if b then Some (count_of sequence) else count_in (map count_of sequences) name) (if b then Some (sequence_at sequence) else sequence_of (map sequence_at sequences) name)
    by true more = follows-start (count_of sequence) (sequence_at sequence) refl refl
    by false more = more

pub record RunDraws (base : Base) (history : List Happened) (server : Server) (final : List Entry) : Type 0 where
  pub right : deeds_drawn base (walk_of base final) history ≡ true
  pub keeps : Keeps history server.core (walked base (walk_of base final) history)
  pub few : Few (walked base (walk_of base final) history).numbers.identifiers

-- The draws of a run are as the walk over it has them, which keeps to the source.
pub runs-draws : (base : Base) (history : List Happened) (server : Server) → IsSound base → Runs base history server → stops_last history ≡ true → (rest final : List Entry) → Later rest history → final ≡ server.core.entries ++ rest → RunDraws base history server final
unfolding walked
runs-draws base _ _ sound Start stops rest final later is = record {
  right = refl;
  keeps = keeps-tracks [] (core_of base) (walk_of base final) (record { opened_as = refl; given = refl; each = λ name. start-tracks base.sequences name });
  few = omega arith;
}
runs-draws base _ _ sound (Then history more server after runs moves) stops rest final later is =
    let front = moves_front server after more moves in
    let gained = front.more_entries in
    let before = stops-left history more stops in
    let later_here = moves-later history more server after rest gained moves front.entries stops (later-left rest history more later) in
    let is_here = is ∙ ap (λ e. e ++ rest) front.entries ∙ append_assoc server.core.entries gained rest in
    let whole = runs-walk base history server sound runs before (gained ++ rest) final later_here is_here in
    let drawn = runs-draws base history server sound runs before (gained ++ rest) final later_here is_here in
    let step = step-draws base history more server after rest gained (walked base (walk_of base final) history) (lives_walked [] history) (runs_number base history server sound runs) (runs-kept base history server runs) moves stops later front.entries whole.walks drawn.keeps in
    record {
      right = deeds-more base (walk_of base final) history more drawn.right step.right;
      keeps = subst (Keeps (history ++ more) after.core) (sym (walked-more base (walk_of base final) history more)) step.keeps;
      few = subst (λ (w : Walk). Few w.numbers.identifiers) (sym (walked-more base (walk_of base final) history more))
          (step.few (runs-spelled base history server sound runs).few (moves-spelled server after more moves (runs-spelled base history server sound runs)).few drawn.few);
    }

-- ---- as items

abbrev pub items_drawn : Base → Walk → List Item → Bool
items_drawn base walk [] = true
items_drawn base walk (item ∷ items) = let here = entered walk item in let did = deed_of base here item in deed_draws base here did && items_drawn base (after base here item did) items

pub items-drawn : (base : Base) (walk : Walk) (history : List Happened) (event : ℕ) → deeds_drawn base walk history ≡ true → items_drawn base walk (items_from event history) ≡ true
items-drawn base walk [] event drawn = refl
items-drawn base walk (Served session now frame told ∷ history) event drawn =
    let b = deed_draws base (entered walk (item_of 0 (Served session now frame told))) (deed_of base (entered walk (item_of 0 (Served session now frame told))) (item_of 0 (Served session now frame told))) in
    and-both b _ (and-left b _ drawn) (items-drawn base (walk_behind base walk (Served session now frame told)) history (event + 1) (and-right b _ drawn))
items-drawn base walk (Asked x Silent ∷ history) event drawn = items-drawn base _ history (event + 1) drawn
items-drawn base walk (Asked x Stopped ∷ history) event drawn = items-drawn base _ history (event + 1) drawn
items-drawn base walk (Asked x (Says (down.Hello y)) ∷ history) event drawn = items-drawn base _ history (event + 1) drawn
items-drawn base walk (Asked x (Says (down.Reply answers draws y)) ∷ history) event drawn = items-drawn base _ history (event + 1) drawn
items-drawn base walk (Asked x (Says (down.OutcomeIs committed completed)) ∷ history) event drawn = items-drawn base _ history (event + 1) drawn
items-drawn base walk (Asked x (Says (down.OutcomeRefused ahead next)) ∷ history) event drawn = items-drawn base _ history (event + 1) drawn
items-drawn base walk (Asked x (Says down.Blocked) ∷ history) event drawn = items-drawn base _ history (event + 1) drawn
items-drawn base walk (Asked x (Says (down.Refused cause)) ∷ history) event drawn = items-drawn base _ history (event + 1) drawn

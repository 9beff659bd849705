-- The walk over a run's history stands where the server does, and each frame is told as it has to
-- be.
use Rattle.std.specs.Prelude.{◌≡◌, ℕ, true, List, [], ◌∷◌, ◌++◌}
use Rattle.std.proofs.Common.{refl, inl, inr, sym, ◌∙◌, ap, subst, append-nil, append_assoc}
use Rattle.svc_values.specs.declared.entry.Ltxid.{Ltxid}
use Rattle.svc_values.specs.declared.entry.Entry.{Entry}
use Rattle.svc_values.specs.declared.frame.Up.{Up}
use Rattle.server_model.specs.meaning.Base.{Base}
use Rattle.server_model.specs.Base.{IsSound}
use Rattle.server_model.specs.Core.{Core}
use Rattle.svc_values.specs.declared.entry.SessionId.{SessionId}
use Rattle.svc_values.specs.meaning.Identifiers.{session_of}
use Rattle.server_model.specs.Sessions.{Life, Sess}
use Rattle.server_model.specs.meaning.Outcomes.{Telling, Stopped}
use Rattle.server_model.specs.Runs.{Happened, Served, Server, Moves, Makes, Answers, Halts, Loses, AnswersAsk, HaltsInAsk, Reaps, Falls, Opens, StopsOpening, Runs, Start, Then}
use Rattle.server_model.specs.Items.{item_of}
use Rattle.server_model.specs.meaning.Walk.{Walk, walk_of, entered}
use Rattle.server_model.specs.ToldRight.{lives_after, told_from, happened_holds}
use Rattle.server_model.specs.Laws.{Grows, Same, One, stops_last, RunsTold}
use Rattle.server_model.proofs.Growth.{outcomes-entries, serve_grows}
use Rattle.server_model.proofs.NumberRuns.{moves_number, runs_number}
use Rattle.server_model.proofs.Fronts.{moves_front}
use Rattle.server_model.proofs.walks.Following.{walk_behind, walked, walked-more}
use Rattle.server_model.proofs.StoppedHistories.{and-left, and-right, and-both, stops-left, Later, later-left, later-more, later-none}
use Rattle.server_model.proofs.walks.WalkFrames.{Walks, cancel, same-within}
use Rattle.server_model.proofs.walks.WalkMoves.{lives_walked, off-running, no-gain, step}

-- ---- entries that a move gains are later than what was stopped before

gains-later : (history : List Happened) (rest gained : List Entry) (core : Core) (old : Sess) (now : ℕ) (frame : Up) (told : Telling) (after : Core) → Grows core old after → after.entries ≡ core.entries ++ gained → stops_last (history ++ Served (session_of old.ltxid) now frame told ∷ []) ≡ true → Later rest history → Later (gained ++ rest) history
gains-later history rest gained core old now frame told after (Same same) grew stops later = subst (λ g. Later (g ++ rest) history) (sym (no-gain core.entries gained (sym same ∙ grew))) later
gains-later history rest gained core old now frame told after (One entry more own free) grew stops later =
    subst (λ g. Later (g ++ rest) history) (cancel core.entries (entry ∷ []) gained (sym more ∙ grew)) (later-more entry rest history (session_of old.ltxid) now frame told stops (ap (λ (x : Ltxid). x.incarnation) own) later)

quiet-later : (history : List Happened) (rest gained entries after : List Entry) → after ≡ entries → after ≡ entries ++ gained → Later rest history → Later (gained ++ rest) history
quiet-later history rest gained entries after same grew later = subst (λ g. Later (g ++ rest) history) (sym (no-gain entries gained (sym same ∙ grew))) later

pub moves-later : (history more : List Happened) (server after : Server) (rest gained : List Entry) → Moves server more after → after.core.entries ≡ server.core.entries ++ gained → stops_last (history ++ more) ≡ true → Later rest history → Later (gained ++ rest) history
moves-later history _ server _ rest gained (Makes on) grew stops later = quiet-later history rest gained _ _ refl grew later
moves-later history _ server _ rest gained (Answers old new now frame core told after on serve answered turns) grew stops later =
    gains-later history rest gained server.core old now frame told core (serve_grows server.core old now frame core new told serve) (sym (ap (λ (s : Server). s.core.entries) turns.turned) ∙ grew) stops later
moves-later history _ server _ rest gained (Halts old new now frame core told after running serve turns) grew stops later =
    gains-later history rest gained server.core old now frame Stopped core (serve_grows server.core old now frame core new told serve) (sym (ap (λ (s : Server). s.core.entries) turns.turned) ∙ grew) stops later
moves-later history _ server _ rest gained (Loses old now frame after halt turns) grew stops later = quiet-later history rest gained server.core.entries _ (ap (λ (s : Server). s.core.entries) turns.turned) grew later
moves-later history _ server _ rest gained (AnswersAsk x core frame on asked) grew stops later = quiet-later history rest gained _ _ (outcomes-entries server.core x core _ asked) grew later
moves-later history _ server _ rest gained (HaltsInAsk x core told running asked) grew stops later = quiet-later history rest gained _ _ (outcomes-entries server.core x core told asked) grew later
moves-later history _ server _ rest gained (Reaps front back sess split) grew stops later = quiet-later history rest gained _ _ refl grew later
moves-later history _ server _ rest gained Falls grew stops later = quiet-later history rest gained _ _ refl grew later
moves-later history _ server _ rest gained (Opens below off may) grew stops later = quiet-later history rest gained _ _ refl grew later
moves-later history _ server _ rest gained (StopsOpening below core off may (inl same)) grew stops later = quiet-later history rest gained _ _ (ap (λ (c : Core). c.entries) same) grew later
moves-later history _ server _ rest gained (StopsOpening below core off may (inr (inl same))) grew stops later = quiet-later history rest gained _ _ (ap (λ (c : Core). c.entries) same) grew later
moves-later history _ server _ rest gained (StopsOpening below core off may (inr (inr same))) grew stops later = quiet-later history rest gained _ _ (ap (λ (c : Core). c.entries) same) grew later

-- ---- a whole run

pub lives-more : (lives : List (SessionId × Life)) (history more : List Happened) → lives_walked lives (history ++ more) ≡ lives_walked (lives_walked lives history) more
lives-more lives [] more = refl
lives-more lives (happened ∷ history) more = lives-more (lives_after lives happened) history more

told-more : (base : Base) (lives : List (SessionId × Life)) (walk : Walk) (history more : List Happened) → told_from base lives walk history ≡ true → told_from base (lives_walked lives history) (walked base walk history) more ≡ true → told_from base lives walk (history ++ more) ≡ true
unfolding walked
told-more base lives walk [] more told here = here
told-more base lives walk (happened ∷ history) more told here =
    let one = happened_holds lives (entered walk (item_of 0 happened)) (walk_behind base walk happened) happened in
    and-both one _ (and-left one _ told) (told-more base (lives_after lives happened) (walk_behind base walk happened) history more (and-right one _ told) here)

pub record RunWalks (base : Base) (history : List Happened) (server : Server) (rest final : List Entry) : Type 0 where
  pub walks : Walks history server rest (walked base (walk_of base final) history) (lives_walked [] history)
  pub told : told_from base [] (walk_of base final) history ≡ true

pub runs-walk : (base : Base) (history : List Happened) (server : Server) → IsSound base → Runs base history server → stops_last history ≡ true → (rest final : List Entry) → Later rest history → final ≡ server.core.entries ++ rest → RunWalks base history server rest final
unfolding walked
runs-walk base _ _ sound Start stops rest final later is = record {
  walks = record {
    committed = refl;
    stored = sym (append-nil base.entries);
    left = is;
    within = same-within base.incarnation base.incarnation refl;
    held = λ ok. tt;
    opens = λ on ok same. off-running on;
    unseen = λ s unseen. refl;
  };
  told = refl;
}
runs-walk base _ _ sound (Then history more server after runs moves) stops rest final later is =
    let front = moves_front server after more moves in
    let gained = front.more_entries in
    let before = stops-left history more stops in
    let numbered = runs_number base history server sound runs in
    let whole = runs-walk base history server sound runs before (gained ++ rest) final (moves-later history more server after rest gained moves front.entries stops (later-left rest history more later))
    (is ∙ ap (λ e. e ++ rest) front.entries ∙ append_assoc server.core.entries gained rest) in
    let goes = step base history more server after rest gained (walked base (walk_of base final) history) (lives_walked [] history) numbered (moves_number base server after more numbered moves) moves stops later front.entries whole.walks in
    record {
      walks = subst (λ l. Walks (history ++ more) after rest (walked base (walk_of base final) (history ++ more)) l) (sym (lives-more [] history more))
          (subst (λ w. Walks (history ++ more) after rest w (lives_walked (lives_walked [] history) more)) (sym (walked-more base (walk_of base final) history more)) goes.walks);
      told = told-more base [] (walk_of base final) history more whole.told goes.told;
    }

pub runs_told : RunsTold
runs_told base history server sound runs stops = (runs-walk base history server sound runs stops [] server.core.entries (later-none history) (sym (append-nil server.core.entries))).told

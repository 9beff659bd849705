-- A call that is served again with the mark, brings the draws of its first time, and is answered
-- the same draws the granted ones of these.
use Rattle.std.specs.Prelude.{◌≡◌, ◌+◌, ℕ, suc, Bool, true, false, List, [], ◌∷◌, ◌++◌, length, is_some, Option, Some, None, if◌then◌else◌}
use Rattle.std.specs.Option.{option_map_or}
use Rattle.std.proofs.Common.{refl, sym, ◌∙◌, ap, inl, inr}
use Rattle.svc_values.specs.declared.answer.Answer.{Answer}
use Rattle.svc_values.specs.declared.answer.Answer.TheVariants as answer
use Rattle.svc_values.specs.declared.call.Call.{Call}
use Rattle.svc_values.specs.declared.draw.Draw.{Draw}
use Rattle.svc_values.specs.declared.entry.Entry.{Entry}
use Rattle.svc_values.specs.declared.entry.SessionId.{SessionId}
use Rattle.svc_values.specs.declared.frame.Down.TheVariants as down
use Rattle.svc_values.specs.declared.frame.Up.TheVariants as up
use Rattle.svc_values.specs.meaning.Endings.{is_committed, ends_committed, last_answer}
use Rattle.svc_values.specs.SameLaws.{same_answers_decide}
use Rattle.stmt_meaning.specs.AskedIn.{is_unset, ends_unset}
use Rattle.stmt_meaning.specs.DrawLaws.{SettingsAgree}
use Rattle.stmt_meaning.specs.meaning.Meaning.{Meant, mean}
use Rattle.stmt_meaning.specs.meaning.SerialTest.{is_nil}
use Rattle.stmt_meaning.proofs.Offered.{answers_tell}
use Rattle.server_model.specs.meaning.Base.{Base}
use Rattle.server_model.specs.meaning.Items.{Called, Item, Did}
use Rattle.server_model.specs.Items.{item_of, items_from, items_of}
use Rattle.server_model.specs.meaning.Legal.{answered, answers_hold, deed_holds, differs, ending_with, is_free, is_of_now, item_holds, items_hold, legal, lines_of, lines_stand, stores, verdict}
use Rattle.server_model.specs.meaning.NewValues.{drawn_by, kept_by}
use Rattle.server_model.specs.meaning.Outcomes.{Says}
use Rattle.server_model.specs.Redraws.{AgreesAgain, HasServed, LegalRedraws, RunsRedraw, settings_behind}
use Rattle.server_model.specs.Runs.{Happened, Served}
use Rattle.server_model.specs.meaning.Walk.{Walk, Performed, deed_of, entered, meaning, view, walk_of, with_call, with_meaning}
use Rattle.server_model.proofs.draws.KeptAgain.{granted_again}
use Rattle.server_model.proofs.walks.LegalWhole.{runs_legal}
use Rattle.server_model.proofs.walks.SettingsTold.{behind_all, enters, holds_at, settings_of, settings_told}
use Rattle.server_model.proofs.StoppedHistories.{and-left, and-right}

-- ---- answers

length-ending : (answers : List Answer) (last : Answer) → length (ending_with answers last) ≡ length answers
length-ending [] last = refl
length-ending (first ∷ []) last = refl
length-ending (first ∷ next ∷ more) last = ap suc (length-ending (next ∷ more) last)

-- as many answers as are meant
length-answered : (meant : Meant) (replay changed : Bool) → length (answered meant replay changed) ≡ length meant.answers
length-answered meant replay changed = by (ends_committed meant.answers)
  where
    by : (b : Bool) → length (if b then ending_with meant.answers (verdict replay changed) else meant.answers) ≡ length meant.answers
    by true = length-ending meant.answers (verdict replay changed)
    by false = refl

committed_set : (last : Option Answer) → option_map_or is_committed last false ≡ true → option_map_or is_unset last false ≡ false
committed_set None is = refl
committed_set (Some answer.Committed) is = refl
committed_set (Some (answer.Refused refusal)) is = absurd (let none : ⊥ = cc in none)
committed_set (Some other) is = refl

-- a verdict on a commit tells of no setting
unset-answered : (meant : Meant) (replay changed : Bool) → ends_unset (answered meant replay changed) ≡ false → ends_unset meant.answers ≡ false
unset-answered meant replay changed = by (ends_committed meant.answers) refl
  where
    by : (b : Bool) → ends_committed meant.answers ≡ b → ends_unset (if b then ending_with meant.answers (verdict replay changed) else meant.answers) ≡ false → ends_unset meant.answers ≡ false
    by true is set = committed_set (last_answer meant.answers) is
    by false is set = set

nil-is : (draws : List Draw) → is_nil draws ≡ true → draws ≡ []
nil-is [] is = refl
nil-is (one ∷ draws) is = absurd (let none : ⊥ = cc in none)

-- ---- a call that holds on a walk

record Held (base : Base) (here : Walk) (session : SessionId) (now : ℕ) (replay : Bool) (kept : List Draw) (called : Call) (answers : List Answer) (draws : List Draw) : Type 0 where
  meant : Meant
  means : mean base.shape (view here session) (settings_of here session) called draws ≡ Some meant
  none : meant.rest ≡ []
  many : length answers ≡ length meant.answers
  set : ends_unset answers ≡ false → ends_unset meant.answers ≡ false
  drawn : is_some (drawn_by now (kept_by base replay kept) draws here.numbers) ≡ true

call_held : (base : Base) (here : Walk) (event now : ℕ) (session : SessionId) (replay : Bool) (kept : List Draw) (called : Call) (answers : List Answer) (draws : List Draw)
    → let item : Item = Did event now session (Called replay kept called answers draws) in item_holds base here item (deed_of base here item) ≡ true → Held base here session now replay kept called answers draws
call_held base here event now session replay kept called answers draws holds =
    by (meaning base here session called draws) refl (and-left (deed_holds base here (deed_of base here (Did event now session (Called replay kept called answers draws)))) _ (and-right (is_of_now here session) _ holds))
  where
    performed : Performed
    performed = record { session = session; now = now; replay = replay; kept = kept; called = called; answers = answers; draws = draws }

    by : (m : Option Meant) → meaning base here session called draws ≡ m → deed_holds base here (with_meaning performed m) ≡ true → Held base here session now replay kept called answers draws
    by None is held = absurd (let none : ⊥ = cc in none)
    by (Some meant) is held =
        let behind = and-right (is_nil meant.rest) _ held in
        let changed : Bool = differs here.committed (with_call here performed meant).reads in
        let same : answers ≡ answered meant replay changed = (same_answers_decide answers (answered meant replay changed)).0 (and-left (answers_hold here performed meant) _ behind) in
        let free = and-right (answers_hold here performed meant) _ behind in
        let stored = and-right (is_free here performed) _ free in
        record {
          meant = meant;
          means = is;
          none = nil-is meant.rest (and-left (is_nil meant.rest) _ held);
          many = ap length same ∙ length-answered meant replay changed;
          set = λ set. unset-answered meant replay changed (sym (ap ends_unset same) ∙ set);
          drawn = and-right (stores here performed meant) _ stored;
        }

-- ---- a call of a history

items-split : (event : ℕ) (before : List Happened) (one : Happened) (behind : List Happened) → (n : ℕ) × (items_from event (before ++ one ∷ behind) ≡ items_from event before ++ item_of n one ∷ items_from (n + 1) behind)
items-split event [] one behind = (event, refl)
items-split event (first ∷ before) one behind = let more = items-split (event + 1) before one behind in (more.0, ap (λ items. item_of event first ∷ items) more.1)

-- where a walk stands at a call of a history, which holds there, in the settings that the items
-- before it tell
record HeldIn (base : Base) (settings : List _) (session : SessionId) (now : ℕ) (replay : Bool) (kept : List Draw) (called : Call) (answers : List Answer) (draws : List Draw) : Type 0 where
  here : Walk
  held : Held base here session now replay kept called answers draws
  told : settings_of here session ≡ settings

held_in : (base : Base) (history : List Happened) (entries : List Entry) (lines : List (List ℕ)) → legal base (items_of history) entries lines ≡ true
    → (replay : Bool) (kept : List Draw) (called : Call) (answers : List Answer) (draws : List Draw) (served : HasServed history replay kept called answers draws)
    → HeldIn base (settings_behind (items_of served.before) served.session) served.session served.now replay kept called answers draws
held_in base history entries lines is replay kept called answers draws served =
    let one : Happened = Served served.session served.now (up.Call replay kept called) (Says (down.Reply answers draws served.next)) in
    let at = items-split 0 served.before one served.behind in
    let before : List Item = items_of served.before in
    let walk : Walk = walk_of base entries in
    let holds : items_hold base walk (before ++ item_of at.0 one ∷ items_from (at.0 + 1) served.behind) ≡ true =
    ap (items_hold base walk) (sym (ap items_of served.is ∙ at.1)) ∙ and-left (items_hold base walk (items_of history)) (lines_stand (lines_of (items_of history)) lines) is in
    record {
      here = entered (behind_all base walk before) (item_of at.0 one);
      held = call_held base (entered (behind_all base walk before) (item_of at.0 one)) at.0 served.now served.session replay kept called answers draws (holds_at base before (item_of at.0 one) (items_from (at.0 + 1) served.behind) walk holds);
      told = enters (behind_all base walk before) served.session (item_of at.0 one) ∙ settings_told base served.session before (item_of at.0 one ∷ items_from (at.0 + 1) served.behind) walk [] holds refl;
    }

pub legal_redraws : LegalRedraws
legal_redraws base history entries lines is replay kept called answers draws again first second agrees =
    let a = held_in base history entries lines is replay kept called answers draws first in
    let b = held_in base history entries lines is true draws called answers again second in
    let agree : SettingsAgree (settings_of a.here first.session) (settings_of b.here second.session) a.held.meant b.held.meant = by a b agrees in
    granted_again base second.now draws again b.here.numbers
    (answers_tell base.shape (view a.here first.session) (view b.here second.session) (settings_of a.here first.session) (settings_of b.here second.session) called draws again a.held.meant b.held.meant
    a.held.means b.held.means a.held.none b.held.none (sym a.held.many ∙ b.held.many) agree)
    b.held.drawn
  where
    by : (a : HeldIn base (settings_behind (items_of first.before) first.session) first.session first.now replay kept called answers draws)
        (b : HeldIn base (settings_behind (items_of second.before) second.session) second.session second.now true draws called answers again)
        → AgreesAgain history replay kept called answers draws again first second → SettingsAgree (settings_of a.here first.session) (settings_of b.here second.session) a.held.meant b.held.meant
    by a b (inl same) = inl (a.told ∙ same ∙ sym b.told)
    by a b (inr set) = inr (a.held.set set, b.held.set set)

pub runs_redraw : RunsRedraw
runs_redraw base history server sound runs stops = legal_redraws base history server.core.entries server.core.alerts (runs_legal base history server sound runs stops)

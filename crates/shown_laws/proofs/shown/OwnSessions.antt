-- The sessions by which a request goes are among those that it reached, and so are those that
-- showed its calls.
use Rattle.std.proofs.Common.{◌≡◌, refl, sym, ap, subst, ◌∙◌, Bool, true, false, ℕ, ◌||◌, length, List, [], ◌∷◌, ◌++◌, Option, Some, None}
use Rattle.std.specs.Prelude.{fold, slice_get}
use Rattle.std.specs.List.{list_any, cons_option}
use Rattle.svc_values.specs.declared.answer.Answer.{Answer}
use Rattle.svc_values.specs.declared.call.Call.{Call}
use Rattle.svc_values.specs.declared.draw.Draw.{Draw}
use Rattle.svc_values.specs.declared.entry.Ltxid.{Ltxid}
use Rattle.svc_values.specs.declared.entry.SessionId.{SessionId}
use Rattle.svc_values.specs.declared.frame.Down.TheVariants as down
use Rattle.svc_values.specs.declared.frame.Up.{Up}
use Rattle.svc_values.specs.declared.frame.Up.TheVariants as up
use Rattle.svc_values.specs.meaning.Identifiers.{same_session, session_of}
use Rattle.svc_values.specs.SameLaws.{same_session_decides}
use Rattle.client_model.specs.meaning.Account.{Account, hears, hears_outcome, hears_reply, shows, shows_found, sends, begins, before_sends, after_step}
use Rattle.client_model.specs.meaning.Conversation.{Done}
use Rattle.client_model.specs.meaning.Terms.{Terms}
use Rattle.client_model.specs.declared.act.Shown.{Shown}
use Rattle.client_model.specs.declared.input.Input.{Input}
use Rattle.client_model.specs.declared.input.Input.TheVariants.{Start, Waiting, Lent, Opened, TryFailed, Took, Gone}
use Rattle.run_clauses.specs.meaning.Reports.{reached}

-- it is among these
abbrev pub Among : SessionId → List SessionId → Type 0
Among session sessions = list_any (same_session session) sessions ≡ true

pub among_more : (session : SessionId) (sessions more : List SessionId) → Among session sessions → Among session (sessions ++ more)
among_more session [] more is = absurd (let none : ⊥ = cc in none)
among_more session (one ∷ sessions) more is = by (same_session session one) is (among_more session sessions more)
  where
    by : (test : Bool) → (test || list_any (same_session session) sessions) ≡ true → (Among session sessions → Among session (sessions ++ more)) → (test || list_any (same_session session) (sessions ++ more)) ≡ true
    by true is rest = refl
    by false is rest = rest is

pub among_last : (session : SessionId) (sessions : List SessionId) → Among session (sessions ++ session ∷ [])
among_last session [] = ap (λ (b : Bool). b || false) ((same_session_decides session session).1 refl)
among_last session (one ∷ sessions) = by (same_session session one) (among_last session sessions)
  where
    by : (test : Bool) → Among session (sessions ++ session ∷ []) → (test || list_any (same_session session) (sessions ++ session ∷ [])) ≡ true
    by true is = refl
    by false is = is

-- The identifier that is held, and that of the session, are of sessions that were reached.
pub record Reaches (a : Account) (sessions : List SessionId) : Type 0 where
  pub held : (x : Ltxid) → a.held ≡ Some x → Among (session_of x) sessions
  pub session : (x : Ltxid) → a.session.ltxid ≡ Some x → Among (session_of x) sessions

reaches_more : (a : Account) (sessions more : List SessionId) → Reaches a sessions → Reaches a (sessions ++ more)
reaches_more a sessions more is = record { held = λ x has. among_more (session_of x) sessions more (is.held x has); session = λ x has. among_more (session_of x) sessions more (is.session x has) }

module _ (terms : Terms) (calls : List Call) (sessions : List SessionId) where
  -- SENDING AND SHOWING ---------------------------------------------------------------------------

  begin_reaches : (a : Account) (last : Option Up) (test : Bool) → Reaches a sessions → Reaches (record (begins a test) { last = last }) sessions
  begin_reaches a last true is = record { held = is.held; session = is.session }
  begin_reaches a last false is = record { held = is.session; session = is.session }

  one_reaches : (now : ℕ) (a : Account) (frame : Up) → Reaches a sessions → Reaches (sends terms now a frame) sessions
  one_reaches now a (up.Begin settings) is = begin_reaches a (Some (up.Begin settings)) a.begun is
  one_reaches now a (up.Call false kept call) is = record { held = is.held; session = is.session }
  one_reaches now a (up.Call true kept call) is = record { held = is.held; session = is.session }
  one_reaches now a _ is = record { held = is.held; session = is.session }

  sent_reaches : (now : ℕ) (frames : List Up) (a : Account) → Reaches a sessions → Reaches (fold (sends terms now) a frames) sessions
  sent_reaches now [] a is = is
  sent_reaches now (frame ∷ frames) a is = sent_reaches now frames (sends terms now a frame) (one_reaches now a frame is)

  found_reaches : (a : Account) (shown : Shown) (found : Option Call) → Reaches a sessions → Reaches (shows_found terms a shown found) sessions
  found_reaches a shown None is = is
  found_reaches a shown (Some call) is = record { held = is.held; session = is.session }

  shown_reaches : (a : Account) (shown : Option Shown) → Reaches a sessions → Reaches (shows terms calls a shown) sessions
  shown_reaches a None is = is
  shown_reaches a (Some shown) is = found_reaches a shown (slice_get calls (length a.shown)) is

-- HEARING -----------------------------------------------------------------------------------------

asked_reaches : (a : Account) (sessions : List SessionId) (committed completed : Bool) (last : Option Up) → Reaches a sessions → Reaches (hears_outcome a committed completed last) sessions
asked_reaches a sessions committed completed (Some (up.Outcome asked)) is = record { held = is.session; session = is.session }
asked_reaches a sessions committed completed _ is = is

-- a reply to a call is of a session that was reached
abbrev pub ReplyReached : List SessionId → Input → Type 0
ReplyReached sessions input = (answers : List Answer) (draws : List Draw) (x : Ltxid) (alive : Bool) → input ≡ Took (down.Reply answers draws x) alive → Among (session_of x) sessions

answer_reaches : (terms : Terms) (a : Account) (sessions : List SessionId) (answers : List Answer) (ltxid : Ltxid) (shown : Option Shown) → Among (session_of ltxid) sessions → Reaches a sessions → Reaches (hears_reply terms a answers ltxid shown) sessions
answer_reaches terms a sessions answers ltxid None own is = record { held = is.held; session = is.session }
answer_reaches terms a sessions answers ltxid (Some shown) own is = record { held = λ x has. (let same : ltxid ≡ x = cc in subst (λ (y : Ltxid). Among (session_of y) sessions) same own); session = is.session }

on_session : (a : Account) (sessions : List SessionId) (ltxid : Ltxid) (b : Account) → b.held ≡ a.held → b.session.ltxid ≡ Some ltxid → Reaches a sessions → Reaches b (sessions ++ session_of ltxid ∷ [])
on_session a sessions ltxid b same now is = record {
  held = λ x has. among_more (session_of x) sessions (session_of ltxid ∷ []) (is.held x (sym same ∙ has));
  session = λ x has. (let equal : ltxid ≡ x = cc in subst (λ (y : Ltxid). Among (session_of y) (sessions ++ session_of ltxid ∷ [])) equal (among_last (session_of ltxid) sessions));
}

hears_reaches : (terms : Terms) (a : Account) (sessions : List SessionId) (input : Input) (now : ℕ) (shown : Option Shown) → ReplyReached sessions input → Reaches a sessions → Reaches (hears terms a input now shown) (sessions ++ cons_option (reached input) [])
hears_reaches terms a sessions Start now shown own is = reaches_more a sessions [] is
hears_reaches terms a sessions Waiting now shown own is = reaches_more (hears terms a Waiting now shown) sessions [] (record { held = is.held; session = is.session })
hears_reaches terms a sessions TryFailed now shown own is = reaches_more (hears terms a TryFailed now shown) sessions [] (record { held = is.held; session = is.session })
hears_reaches terms a sessions (Opened connection) now shown own is = reaches_more (hears terms a (Opened connection) now shown) sessions [] (record { held = is.held; session = is.session })
hears_reaches terms a sessions (Lent connection ltxid) now shown own is = on_session a sessions ltxid (hears terms a (Lent connection ltxid) now shown) refl refl is
hears_reaches terms a sessions (Took (down.Hello ltxid) alive) now shown own is = on_session a sessions ltxid (hears terms a (Took (down.Hello ltxid) alive) now shown) refl refl is
hears_reaches terms a sessions (Took (down.OutcomeIs committed completed) alive) now shown own is =
    reaches_more (hears_outcome a committed completed a.last) sessions [] (asked_reaches a sessions committed completed a.last is)
hears_reaches terms a sessions (Took (down.Reply answers draws ltxid) alive) now shown own is =
    reaches_more (hears_reply terms a answers ltxid shown) sessions [] (answer_reaches terms a sessions answers ltxid shown (own answers draws ltxid alive refl) is)
hears_reaches terms a sessions (Gone event) now shown own is = reaches_more (hears terms a (Gone event) now shown) sessions [] (record { held = is.held; session = is.session })
hears_reaches terms a sessions _ now shown own is = reaches_more a sessions [] is

pub done_reaches : (terms : Terms) (calls : List Call) (a : Account) (sessions : List SessionId) (done : Done) → ReplyReached sessions done.input → Reaches a sessions
    → Reaches (after_step terms calls a done) (sessions ++ cons_option (reached done.input) [])
done_reaches terms calls a sessions done own is =
    sent_reaches terms calls (sessions ++ cons_option (reached done.input) []) done.now done.act.send (before_sends terms calls a done)
    (shown_reaches terms calls (sessions ++ cons_option (reached done.input) []) (hears terms a done.input done.now done.act.shown) done.act.shown
    (hears_reaches terms a sessions done.input done.now done.act.shown own is))

-- A frame leaves the base, the incarnation and the place of its session.
use Rattle.std.specs.Prelude.{◌≡◌, ◌+ℤ◌, ℕ, Bool, true, false, int_le, List, [], ◌∷◌, Option, Some, None, if◌then◌else◌}
use Rattle.std.specs.Option.{option_map}
use Rattle.std.proofs.Common.{refl, inl, inr, sym, ◌∙◌, ap}
use Rattle.svc_values.specs.declared.draw.Draw.{Draw}
use Rattle.svc_values.specs.declared.draw.Draw.TheVariants as draw
use Rattle.svc_values.specs.declared.draw.DrawKind.{DrawKind}
use Rattle.svc_values.specs.declared.draw.DrawKind.TheVariants as kind
use Rattle.svc_values.specs.declared.call.Call.{Call}
use Rattle.svc_values.specs.declared.answer.Answer.{Answer}
use Rattle.svc_values.specs.declared.entry.Ltxid.{Ltxid}
use Rattle.svc_values.specs.declared.frame.Up.{Up}
use Rattle.svc_values.specs.declared.tables.PlainRow.{PlainRow}
use Rattle.stmt_meaning.specs.meaning.Meaning.{Meant}
use Rattle.svc_values.specs.Draws.{is_there}
use Rattle.mutable_values.specs.declared.source.SeqState.{SeqState}
use Rattle.mutable_values.specs.declared.source.Drawn.TheVariants as drawn
use Rattle.mutable_values.specs.Sources.{Opening, DrawnFrom as Drew, draw_of, draw_from, new_draw, new_value, first_kept, sequence_of, names_of, changed, next_value, reservation_size, reserved_to}
use Rattle.ltxid_book.specs.declared.verdict.Verdict.{Verdict}
use Rattle.ltxid_book.specs.declared.verdict.Verdict.TheVariants as verdict
use Rattle.server_model.specs.Core.{Core, committed}
use Rattle.server_model.specs.Sessions.{Sess, with_work}
use Rattle.svc_values.specs.meaning.Identifiers.{session_of}
use Rattle.stmt_meaning.specs.Asked.{kind_drawn}
use Rattle.server_model.specs.Draws.{Draws, Gives, Reserves, DrawsAll, HaltsAt, BlockLost, BlockStands}
use Rattle.server_model.specs.meaning.Outcomes.{Telling, Silent, Says, Stopped}
use Rattle.server_model.specs.Outcomes.{Outcomes, IsTold, BlockStops, if_blocks}
use Rattle.server_model.specs.Serve.{Commits, InReplay, Blocks, Conflicts, Stores, StopsBefore, StopsAfter, Works, Answers, Reaches, HaltsInDraw, Calls, IsWork, IsSet, IsAlter, AlterStops, AlterMarked, IsDisable, IsRollback, Serve, Connects, Begins, Ends, Closes, Asks, Runs, Refuses, with_opening, if_told}
use Rattle.server_model.specs.Laws.{StaysIn}

-- ---- draws

if-some : {A : Type 0} (b : Bool) (x : Option A) (y : A) → (if b then x else None) ≡ Some y → x ≡ Some y
if-some true x y is = is
if-some false x y is = cc

new_value-stays : (opening : Opening) (kept : List Draw) (sequence : SeqState) → (new_value opening kept sequence).opening.incarnation ≡ opening.incarnation
new_value-stays opening kept sequence = by (int_le sequence.next sequence.upto)
  where
    given : Drew
    given = record { answer = drawn.Value (draw.Seq sequence.name sequence.next); opening = record opening { sequences = changed next_value sequence.name opening.sequences }; kept = kept }

    wanted : Drew
    wanted = record { answer = drawn.Reserve sequence.name (sequence.upto +ℤ reservation_size); opening = opening; kept = kept }

    by : (b : Bool) → (if b then given else wanted).opening.incarnation ≡ opening.incarnation
    by true = refl
    by false = refl

sequence-stays : (opening : Opening) (kept : List Draw) (found : Option SeqState) (told : Drew) → option_map (new_value opening kept) found ≡ Some told → told.opening.incarnation ≡ opening.incarnation
sequence-stays opening kept None told is = cc
sequence-stays opening kept (Some sequence) told is = let same : new_value opening kept sequence ≡ told = cc in sym (ap (λ (t : Drew). t.opening.incarnation) same) ∙ new_value-stays opening kept sequence

new-stays : (opening : Opening) (kept : List Draw) (asked : DrawKind) (now : ℕ) (told : Drew) → new_draw opening kept asked now ≡ Some told → told.opening.incarnation ≡ opening.incarnation
new-stays opening kept (kind.Seq name) now told is = sequence-stays opening kept (sequence_of opening.sequences name) told is
new-stays opening kept kind.Clock now told is = let same : record { answer = drawn.Value (draw.Clock now); opening = opening; kept = kept } ≡ told = cc in sym (ap (λ (t : Drew). t.opening.incarnation) same)
new-stays opening kept kind.Id now told is = sym (ap incarnation is)
  where
    incarnation : Option Drew → ℕ
    incarnation None = opening.incarnation
    incarnation (Some t) = t.opening.incarnation

from-stays : (first : Option Draw) (opening : Opening) (kept : List Draw) (asked : DrawKind) (now : ℕ) (told : Drew) → draw_from first opening kept asked now ≡ Some told → told.opening.incarnation ≡ opening.incarnation
from-stays (Some one) opening kept asked now told is = sym (ap incarnation is)
  where
    incarnation : Option Drew → ℕ
    incarnation None = opening.incarnation
    incarnation (Some t) = t.opening.incarnation
from-stays None opening kept asked now told is = new-stays opening kept asked now told is

draw-stays : (opening : Opening) (kept : List Draw) (asked : DrawKind) (now : ℕ) (told : Drew) → draw_of opening kept asked now ≡ Some told → told.opening.incarnation ≡ opening.incarnation
unfolding draw_of
draw-stays opening kept asked now told is = from-stays (first_kept asked kept) opening kept asked now told (if-some (is_there (names_of opening.sequences) asked) _ told is)

one-stays : (kept : List Draw) (asked : DrawKind) (now : ℕ) (before : Opening) (given : Draw) (after : Opening) (left : List Draw) → Draws kept asked now before given after left → after.incarnation ≡ before.incarnation
one-stays kept asked now _ _ _ _ (Gives before after given left room is) = draw-stays before kept asked now _ is
one-stays kept asked now _ _ _ _ (Reserves before between after name upto same given left room wants is) = draw-stays (reserved_to between name upto) kept asked now _ is ∙ draw-stays before kept asked now _ wants

pub all-stays : (now : ℕ) (draws : List Draw) (before : Opening) (kept : List Draw) (after : Opening) (left : List Draw) → DrawsAll now before kept draws after left → after.incarnation ≡ before.incarnation
all-stays now [] before kept after left drew = ap (λ (o : Opening). o.incarnation) drew.0
all-stays now (given ∷ more) before kept after left drew = all-stays now more drew.0 drew.1 after left drew.2.1 ∙ one-stays kept (kind_drawn given) now before given drew.0 drew.1 drew.2.0

halt-stays : (now : ℕ) (kept : List Draw) (asked : DrawKind) (before after : Opening) → HaltsAt now kept asked before after → after.incarnation ≡ before.incarnation
halt-stays now kept asked before _ (BlockLost name upto is) = refl
halt-stays now kept asked before _ (BlockStands name upto is) = refl

-- ---- frames

moved : (core : Core) (opening : Opening) (sess : Sess) (rows : List PlainRow) (meant : Meant) (after : Core) (t : Sess) → opening.incarnation ≡ core.opening.incarnation → StaysIn (with_opening core opening) (with_work sess rows meant) after t → StaysIn core sess after t
moved core opening sess rows meant after t same stays = record { base = stays.base; incarnation = stays.incarnation ∙ same; session = stays.session; horizon = stays.horizon }

commits_stay : (core : Core) (sess : Sess) (replay : Bool) (called : Call) (answers : List Answer) (draws : List Draw) (after : Core) (t : Sess) (told : Telling) → Commits core sess replay called answers draws after t told → StaysIn core sess after t
commits_stay core sess replay called answers draws _ _ _ (InReplay marked) = record { base = refl; incarnation = refl; session = refl; horizon = refl }
commits_stay core sess replay called answers draws _ _ _ (Blocks unmarked blocked) = record { base = refl; incarnation = refl; session = refl; horizon = refl }
commits_stay core sess replay called answers draws _ _ _ (Conflicts unmarked free differs) = record { base = refl; incarnation = refl; session = refl; horizon = refl }
commits_stay core sess replay called answers draws _ _ _ (Stores may) = record { base = refl; incarnation = refl; session = refl; horizon = refl }
commits_stay core sess replay called answers draws _ _ _ (StopsBefore may) = record { base = refl; incarnation = refl; session = refl; horizon = refl }
commits_stay core sess replay called answers draws _ _ _ (StopsAfter may) = record { base = refl; incarnation = refl; session = refl; horizon = refl }

works_stay : (core : Core) (sess : Sess) (replay : Bool) (kept : List Draw) (called : Call) (now : ℕ) (after : Core) (t : Sess) (told : Telling) → Works core sess replay kept called now after t told → StaysIn core sess after t
works_stay core sess replay kept called now _ _ _ (Answers opening draws left meant drew means ends) = record { base = refl; incarnation = all-stays now draws core.opening _ opening left drew; session = refl; horizon = refl }
works_stay core sess replay kept called now _ _ _ (Reaches opening draws left meant after t told drew means ends commits) =
    moved core opening sess (committed core) meant after t (all-stays now draws core.opening _ opening left drew) (commits_stay (with_opening core opening) _ replay called meant.answers draws after t told commits)
works_stay core sess replay kept called now _ _ _ (HaltsInDraw between opening draws next more left meant drew means halts) =
    record { base = refl; incarnation = halt-stays now left (kind_drawn next) between opening halts ∙ all-stays now draws core.opening _ between left drew; session = refl; horizon = refl }

same_stays : (core after : Core) (sess t : Sess) → (after.base ≡ core.base) → (after.opening ≡ core.opening) → (after.horizon ≡ core.horizon) → session_of t.ltxid ≡ session_of sess.ltxid → StaysIn core sess after t
same_stays core after sess t base opening horizon session = record { base = base; incarnation = ap (λ (o : Opening). o.incarnation) opening; session = session; horizon = horizon }

calls_stay : (core : Core) (sess : Sess) (replay : Bool) (kept : List Draw) (now : ℕ) (called : Call) (after : Core) (t : Sess) (told : Telling) → Calls core sess replay kept now called after t told → StaysIn core sess after t
calls_stay core sess replay kept now _ _ _ _ (IsWork statements commit after t told works) = works_stay core sess replay kept _ now after t told works
calls_stay core sess replay kept now _ _ _ _ (IsSet name value) = record { base = refl; incarnation = refl; session = refl; horizon = refl }
calls_stay core sess replay kept now _ _ _ _ (IsAlter line unmarked) = record { base = refl; incarnation = refl; session = refl; horizon = refl }
calls_stay core sess replay kept now _ _ _ _ (AlterStops line after unmarked (inl same)) = same_stays core after sess _ (ap (λ (c : Core). c.base) same) (ap (λ (c : Core). c.opening) same) (ap (λ (c : Core). c.horizon) same) refl
calls_stay core sess replay kept now _ _ _ _ (AlterStops line after unmarked (inr same)) = same_stays core after sess _ (ap (λ (c : Core). c.base) same) (ap (λ (c : Core). c.opening) same) (ap (λ (c : Core). c.horizon) same) refl
calls_stay core sess replay kept now _ _ _ _ (AlterMarked line marked) = record { base = refl; incarnation = refl; session = refl; horizon = refl }
calls_stay core sess replay kept now _ _ _ _ IsDisable = record { base = refl; incarnation = refl; session = refl; horizon = refl }
calls_stay core sess replay kept now _ _ _ _ IsRollback = record { base = refl; incarnation = refl; session = refl; horizon = refl }

blocks_stay : (judged : Verdict) (core : Core) (x : Ltxid) → ((if_blocks judged core x).base ≡ core.base) × ((if_blocks judged core x).opening ≡ core.opening) × ((if_blocks judged core x).horizon ≡ core.horizon)
blocks_stay verdict.BlockIt core x = (refl, refl, refl)
blocks_stay verdict.AlreadyBlocked core x = (refl, refl, refl)
blocks_stay (verdict.Committed completed) core x = (refl, refl, refl)
blocks_stay (verdict.ServerAhead next) core x = (refl, refl, refl)
blocks_stay (verdict.ClientAhead next) core x = (refl, refl, refl)
blocks_stay (verdict.Forgotten horizon) core x = (refl, refl, refl)

pub outcomes_stay : (core : Core) (x : Ltxid) (after : Core) (told : Telling) → Outcomes core x after told → (after.base ≡ core.base) × (after.opening ≡ core.opening) × (after.horizon ≡ core.horizon)
outcomes_stay core x _ _ (IsTold judged by) = blocks_stay judged core x
outcomes_stay core x _ _ (BlockStops after by (inl same)) = (ap (λ (c : Core). c.base) same, ap (λ (c : Core). c.opening) same, ap (λ (c : Core). c.horizon) same)
outcomes_stay core x _ _ (BlockStops after by (inr same)) = (ap (λ (c : Core). c.base) same, ap (λ (c : Core). c.opening) same, ap (λ (c : Core). c.horizon) same)

told-session : (told : Telling) (sess : Sess) → session_of (if_told told sess).ltxid ≡ session_of sess.ltxid
told-session Silent sess = refl
told-session (Says frame) sess = refl
told-session Stopped sess = refl

pub serve_stays : (core : Core) (sess : Sess) (now : ℕ) (frame : Up) (after : Core) (t : Sess) (told : Telling) → Serve core sess now frame after t told → StaysIn core sess after t
serve_stays core sess now _ _ _ _ (Connects life) = record { base = refl; incarnation = refl; session = refl; horizon = refl }
serve_stays core sess now _ _ _ _ (Begins settings serving) = record { base = refl; incarnation = refl; session = refl; horizon = refl }
serve_stays core sess now _ _ _ _ (Ends serving) = record { base = refl; incarnation = refl; session = refl; horizon = refl }
serve_stays core sess now _ _ _ _ (Closes serving) = record { base = refl; incarnation = refl; session = refl; horizon = refl }
serve_stays core sess now _ _ _ _ (Asks x after told serving asked) = let same = outcomes_stay core x after told asked in same_stays core after sess (if_told told sess) same.0 same.1 same.2 (told-session told sess)
serve_stays core sess now _ _ _ _ (Runs replay kept called after t told begun calls) = calls_stay core sess replay kept now called after t told calls
serve_stays core sess now _ _ _ _ (Refuses frame out) = record { base = refl; incarnation = refl; session = refl; horizon = refl }

-- Steps of the walk, beside the code.
use Rattle.std.proofs.Common.{◌≡◌, ℕ, Bool, true, false, ◌&&◌, cond, List, [], refl, sym, ap, ◌∙◌, subst}
use Rattle.std.proofs.Math.Path.{fun_ext}
use Rattle.std.proofs.lemmas.Bool.{false≢true}
use Rattle.std.specs.Prelude.{Option, Some, None, IsTrue, not, nat_lt}
use Rattle.svc_values.specs.declared.answer.Answer.{Answer}
use Rattle.svc_values.specs.declared.call.Call.{Call}
use Rattle.svc_values.specs.declared.draw.Draw.{Draw}
use Rattle.svc_values.specs.declared.draw.DrawKind.{DrawKind}
use Rattle.svc_values.specs.declared.entry.Ltxid.{Ltxid}
use Rattle.svc_values.specs.declared.entry.Piece.{Piece}
use Rattle.svc_values.specs.declared.entry.SessionId.{SessionId}
use Rattle.svc_values.specs.meaning.Calls.{has_commit}
use Rattle.svc_values.specs.meaning.Identifiers.{same_session}
use Rattle.svc_values.specs.meaning.SettingsList.{NamedValues}
use Rattle.stmt_meaning.specs.meaning.Asked.{asked_by_call}
use Rattle.stmt_meaning.specs.meaning.Meaning.{Meant}
use Rattle.server_model.specs.meaning.Base.{Base}
use Rattle.server_model.specs.meaning.Items.{Outcome, Uncommitted, Committed, ServerAhead, ClientAhead, Forgotten, Thing, CallStopped, Did}
use Rattle.server_model.specs.meaning.Legal.{deed_holds, is_of_now, may_be_blocked, means_commit}
use Rattle.server_model.specs.meaning.NewValues.{Numbers, meets_with, opened}
use Rattle.server_model.specs.meaning.Walk.{Performed, Transaction, Walk, after_deed, begun, deed, if_nothing, if_stands, if_uncommitted, meaning, next_of, performed_if, stands, stopped, transaction_in, with_meaning}
use Rattle.calls_again.specs.OnWay.{OnWay, probed}
use Rattle.legal_walk.specs.declared.ongoing.Ongoing.{Ongoing}
use Rattle.legal_walk.specs.declared.service.Service.{Service}
use Rattle.legal_walk.specs.declared.walker.Walker.{Walker}
use Rattle.legal_walk.specs.Beside.{Moves}
use Rattle.legal_walk.specs.Going.{AllGo, GoesAt, begins_with, ongoing_in}
use Rattle.legal_walk.specs.Items.{after_does, after_item, after_stopped, begins, does_hold, item_holds_here, reaches, standing, stopped_holds}
use Rattle.legal_walk.specs.Moving.{entered_at, may_block, stopped_at}
use Rattle.legal_walk.specs.Trying.{commits_with}
use Rattle.legal_walk.specs.Walks.{Walks}
use Rattle.legal_walk.proofs.Goings.{all_go, goes_begun}
use Rattle.legal_walk.proofs.Holding.{goes_later}
use Rattle.legal_walk.proofs.Served.{beside_sessions, meaning_is}

abbrev pub Does : Base → Walk → ℕ → SessionId → Thing → Bool → Walker → Type 0
Does base walk now session thing told new = (told ≡ does_hold base walk now session thing) × (IsTrue told → Walks base (after_does base walk now session thing) new)

-- ---- what all sessions share moves

pub moved : (base : Base) (walk : Walk) (old : Walker) (step : Walk → Walk) (new : Service) → Moves old.service step new → (step walk).sessions ≡ walk.sessions → Walks base walk old → Walks base (step walk) (record old { service = new })
moved base walk old step new moves same walks = record {
  beside = moves.beside base walk walks.beside;
  sessions =
      subst (λ (l : List (SessionId × Transaction)). AllGo new l old.sessions) (sym same)
      (λ session. goes_later old.service new (transaction_in walk.sessions session) (ongoing_in old.sessions session) moves.schemas moves.on (walks.sessions session));
}

pub told_sessions : (walk : Walk) (x : Ltxid) (outcome : Outcome) → (if_uncommitted walk x outcome).sessions ≡ walk.sessions
told_sessions walk x Uncommitted = refl
told_sessions walk x (Committed completed) = refl
told_sessions walk x (ServerAhead next) = refl
told_sessions walk x (ClientAhead next) = refl
told_sessions walk x (Forgotten horizon) = refl

entered_sessions : (walk : Walk) (session : SessionId) → (entered_at walk session).sessions ≡ walk.sessions
entered_sessions walk session = by (nat_lt walk.numbers.incarnation session.incarnation)
  where
    by : (b : Bool) → (cond b (record walk { numbers = opened walk.numbers session.incarnation; is_over = false }) walk).sessions ≡ walk.sessions
    by true = refl
    by false = refl

-- ---- a request begins

pub begun_so : (base : Base) (walk : Walk) (old : Walker) (session : SessionId) (settings : NamedValues) (one : Ongoing) (new : List ((ℕ × ℕ) × Ongoing)) → one ≡ begins_with settings
    → ((other : SessionId) → ongoing_in new other ≡ cond (same_session session other) one (ongoing_in old.sessions other)) → Walks base walk old → Walks base (begins walk session settings) (record old { sessions = new })
begun_so base walk old session settings one new is put walks = record {
  beside = beside_sessions base walk old.service (begins walk session settings).sessions walks.beside;
  sessions =
      all_go old.service walk.sessions session (begun settings) old.sessions new one (λ other apart. walks.sessions other)
      (subst (GoesAt old.service (begun settings)) (sym is) (goes_begun old.service (begun settings) settings refl)) put;
}

-- ---- a call that met a block

module _ (base : Base) (walk : Walk) (old : Walker) (walks : Walks base walk old) (now : ℕ) (session : SessionId) (called : Call) where
  pub reaches_is : (going : OnWay) (asked : List DrawKind) → going ≡ probed (ongoing_in old.sessions session).going → asked ≡ asked_by_call called
      → meets_with (commits_with old.service.tables old.service.names going called) now asked old.service.numbers ≡ reaches base walk now session called
  reaches_is going asked probe kinds =
      let here = ongoing_in old.sessions session in
      let same : (draws : List Draw) → commits_with old.service.tables old.service.names going called draws ≡ means_commit (meaning base walk session called draws) =
      λ draws. ap (λ (g : OnWay). commits_with old.service.tables old.service.names g called draws) probe
      ∙ sym (ap means_commit (meaning_is base walk old.service session here called draws walks.beside (walks.sessions session).goes)) in
      ap (λ (test : List Draw → Bool). meets_with test now asked old.service.numbers) (fun_ext same)
      ∙ ap (λ (kinds : List DrawKind). meets_with (λ draws. means_commit (meaning base walk session called draws)) now kinds old.service.numbers) kinds
      ∙ ap (λ (numbers : Numbers). meets_with (λ draws. means_commit (meaning base walk session called draws)) now (asked_by_call called) numbers) (sym walks.beside.numbers)

  pub may_is : (replay commits block : Bool) (next : Ltxid) → commits ≡ has_commit called → commits ≡ true → replay ≡ false → next ≡ next_of walk session → block ≡ may_block walk next
      → (block && reaches base walk now session called) ≡ may_be_blocked base walk now session replay called
  may_is replay commits block next told commit unmarked comes blocks =
      ap (λ b. b && reaches base walk now session called) (blocks ∙ ap (may_block walk) comes)
      ∙ sym (ap (λ b. b && (not replay && (may_block walk (next_of walk session) && reaches base walk now session called))) (sym told ∙ commit)
      ∙ ap (λ b. not b && (may_block walk (next_of walk session) && reaches base walk now session called)) unmarked)

-- ---- a call that was stopped

performed_is : (walk : Walk) (now : ℕ) (session : SessionId) (replay : Bool) (called : Call) → performed_if walk now session replay called ≡ if_stands now session called (standing walk session replay called)
performed_is walk now session replay called = by (has_commit called && not replay)
  where
    by : (b : Bool) → cond b (if_stands now session called (stands (next_of walk session) walk.left)) None ≡ if_stands now session called (cond b (stands (next_of walk session) walk.left) None)
    by true = refl
    by false = refl

nothing_same : (p : Performed) (m : Option Meant) (walk : Walk) (called : Call) → if_nothing (with_meaning p m) walk called ≡ walk
nothing_same p None walk called = refl
nothing_same p (Some meant) walk called = refl

module _ (base : Base) (walk : Walk) (now : ℕ) (session : SessionId) (replay : Bool) (called : Call) where
  abbrev Stops : Option Performed → Bool → Walker → Type 0
  Stops performed told new =
      (told ≡ deed_holds base walk (deed base walk performed)) × (IsTrue told → Walks base (if_nothing (deed base walk performed) (after_deed base walk (deed base walk performed)) called) new)

  -- no entry stands
  pub stops_none : (new : Walker) → None ≡ standing walk session replay called → Walks base (stopped_at walk called) new
      → (true ≡ stopped_holds base walk now session replay called) × (IsTrue true → Walks base (after_stopped base walk now session replay called) new)
  stops_none new none walks =
      let is : None ≡ performed_if walk now session replay called = sym (performed_is walk now session replay called ∙ sym (ap (if_stands now session called) none)) in
      subst (λ (o : Option Performed). Stops o true new) is (refl, λ holds. walks)

  abbrev pub again : List Answer → List Draw → Performed
  again answers draws = record { session = session; now = now; replay = false; kept = []; called = called; answers = answers; draws = draws }

  abbrev Again : List Answer → List Draw → Bool → Walker → Type 0
  Again answers draws told new =
      (told ≡ deed_holds base walk (deed base walk (Some (again answers draws)))) × (IsTrue told → Walks base (after_deed base walk (deed base walk (Some (again answers draws)))) new)

  -- or this piece
  pub stops_with : (piece : Piece) (answers : List Answer) (draws : List Draw) (told : Bool) (new : Walker) → Some piece ≡ standing walk session replay called → answers ≡ piece.answers → draws ≡ piece.draws → Again answers draws told new
      → (told ≡ stopped_holds base walk now session replay called) × (IsTrue told → Walks base (after_stopped base walk now session replay called) new)
  stops_with piece answers draws told new some answered drawn served =
      let is : Some (again piece.answers piece.draws) ≡ performed_if walk now session replay called = sym (performed_is walk now session replay called ∙ sym (ap (if_stands now session called) some)) in
      let here : Again piece.answers piece.draws told new =
      subst (λ (ds : List Draw). Again piece.answers ds told new) drawn (subst (λ (l : List Answer). Again l draws told new) answered served) in
      let did = deed base walk (Some (again piece.answers piece.draws)) in
      subst (λ (o : Option Performed). Stops o told new) is (
        here.0,
        λ holds.
            subst (λ (w : Walk). Walks base w new) (sym (nothing_same (again piece.answers piece.draws) (meaning base walk session called piece.draws) (after_deed base walk did) called)) (here.1 holds),
      )

and_true : (b : Bool) → (b && true) ≡ b
and_true true = refl
and_true false = refl

-- nothing comes of this opening any more
pub stops : (base : Base) (walk : Walk) (now : ℕ) (session : SessionId) (replay : Bool) (called : Call) (told : Bool) (between : Walker) (new : Service)
    → (told ≡ stopped_holds base walk now session replay called) × (IsTrue told → Walks base (after_stopped base walk now session replay called) between) → Moves between.service stopped new
    → (told ≡ does_hold base walk now session (CallStopped replay called)) × (IsTrue told → Walks base (after_does base walk now session (CallStopped replay called)) (record between { service = new }))
stops base walk now session replay called told between new step moves = (
  step.0 ∙ sym (and_true (stopped_holds base walk now session replay called)),
  λ holds. moved base (after_stopped base walk now session replay called) between stopped new moves refl (step.1 holds),
)

-- ---- behind the opening

module _ (base : Base) (walk : Walk) (old : Walker) (session : SessionId) (new : Service) (moves : Moves old.service (λ w. entered_at w session) new) (walks : Walks base walk old) where
  pub enters_so : Walks base (entered_at walk session) (record old { service = new })
  enters_so = moved base walk old (λ w. entered_at w session) new moves (entered_sessions walk session) walks

  module _ (now : ℕ) (thing : Thing) where
    pub enters_not : (after : Walker) → false ≡ is_of_now (entered_at walk session) session
        → (false ≡ item_holds_here base walk (Did 0 now session thing)) × (IsTrue false → Walks base (after_item base walk (Did 0 now session thing)) after)
    enters_not after apart = (ap (λ b. b && does_hold base (entered_at walk session) now session thing) apart, λ is. absurd (false≢true is))

    pub enters_does : (told : Bool) (after : Walker) → true ≡ is_of_now (entered_at walk session) session
        → (told ≡ does_hold base (entered_at walk session) now session thing) × (IsTrue told → Walks base (after_does base (entered_at walk session) now session thing) after)
        → (told ≡ item_holds_here base walk (Did 0 now session thing)) × (IsTrue told → Walks base (after_item base walk (Did 0 now session thing)) after)
    enters_does told after of_now step = (step.0 ∙ ap (λ b. b && does_hold base (entered_at walk session) now session thing) of_now, step.1)

-- What a run of the plain server answered of identifiers, and what it blocked, answer by answer.
use Rattle.std.proofs.Common.{◌≡◌, refl, sym, ap, subst, ◌∙◌, append-nil, true, false, ℕ, List, [], ◌∷◌, ◌++◌, map, ◌⊎◌, inl, inr}
use Rattle.std.specs.Prelude.{flat_map}
use Rattle.std.proofs.lemmas.List.Concat.{flat_map-append}
use Rattle.svc_values.specs.declared.entry.Ltxid.{Ltxid}
use Rattle.svc_values.specs.declared.frame.Up.{Up}
use Rattle.svc_values.specs.declared.frame.Up.TheVariants as up
use Rattle.svc_values.specs.declared.frame.Down.TheVariants as down
use Rattle.ltxid_book.specs.meaning.Journal.{Committed, committed_of, is_blocked, next_ltxid, state_of}
use Rattle.ltxid_book.specs.declared.verdict.Verdict.{Verdict}
use Rattle.ltxid_book.specs.declared.verdict.Verdict.TheVariants as verdict
use Rattle.ltxid_book.proofs.Offered.{may_known}
use Rattle.run_clauses.specs.meaning.Blocks.{Answered}
use Rattle.server_model.specs.meaning.Base.{Base}
use Rattle.server_model.specs.Core.{Core, all_entries, all_blocked}
use Rattle.server_model.specs.meaning.Outcomes.{Telling, Says, Stopped}
use Rattle.server_model.specs.Outcomes.{Outcomes, IsTold, BlockStops, verdict_on, down_of, if_blocks, with_block}
use Rattle.server_model.specs.Runs.{Happened, Served, Asked, Server, Moves, Makes, Answers, Halts, Loses, AnswersAsk, HaltsInAsk, Reaps, Falls, Opens, StopsOpening, Runs, Start, Then, reopened_core, forgetting}
use Rattle.server_model.specs.Serve.{Serve, Connects, Begins, Ends, Closes, Asks, Runs as Serves, Refuses}
use Rattle.server_model.specs.Sessions.{Sess}
use Rattle.server_model.proofs.Offered.{runs_keep_base, BlocksAtMost, AddsNone, AddsOne, frame_blocks, blocks-IsNext, already-blocked}

-- WHAT WAS ANSWERED -------------------------------------------------------------------------------

-- it was told uncommitted, or nothing was told of it since the store was stopped
abbrev pub answered_by_telling : Ltxid → Telling → List Answered
answered_by_telling x (Says (down.OutcomeIs false completed)) = record { ltxid = x; may_be = false } ∷ []
answered_by_telling x Stopped = record { ltxid = x; may_be = true } ∷ []
answered_by_telling x _ = []

abbrev pub answered_by_frame : Up → Telling → List Answered
answered_by_frame (up.Outcome x) told = answered_by_telling x told
answered_by_frame _ told = []

abbrev pub answered_by_one : Happened → List Answered
answered_by_one (Served session now frame told) = answered_by_frame frame told
answered_by_one (Asked x told) = answered_by_telling x told

abbrev pub answered_of : List Happened → List Answered
answered_of history = flat_map answered_by_one history

-- WHAT WAS BLOCKED --------------------------------------------------------------------------------

-- What one answer adds to the blocks, of which these were there before all. None where the
-- identifier is blocked, or may have been and was not; and else itself.
pub data Blocks (before now : List Ltxid) : List Ltxid → List Answered → Type 0 where
  BlocksNone : (after : List Ltxid) → after ≡ now → Blocks before now after []
  LeavesOne : (after : List Ltxid) (one : Answered) → after ≡ now → (is_blocked (before ++ now) one.ltxid ≡ true) ⊎ (one.may_be ≡ true) → Blocks before now after (one ∷ [])
  BlocksOne : (after : List Ltxid) (one : Answered) → after ≡ now ++ one.ltxid ∷ [] → is_blocked (before ++ now) one.ltxid ≡ false → Blocks before now after (one ∷ [])

-- all answers, with all blocks
pub data HasBlocked (before : List Ltxid) : List Ltxid → List Answered → Type 0 where
  NoneYet : HasBlocked before [] []
  OneMore : (now after : List Ltxid) (answers more : List Answered) → HasBlocked before now answers → Blocks before now after more → HasBlocked before after (answers ++ more)

-- A MOVE ------------------------------------------------------------------------------------------

abbrev BlocksIn : Core → Core → List Answered → Type 0
BlocksIn core after answers = Blocks core.base.blocked core.blocked after.blocked answers

-- an identifier that is to be blocked is not
free_to_block : (core : Core) (x : Ltxid) → verdict_on core x ≡ verdict.BlockIt → is_blocked (all_blocked core) x ≡ false
free_to_block core x is =
    let commits : List Committed = map committed_of (all_entries core) in
    let may = (may_known core.horizon (state_of commits (all_blocked core)) x (blocks-IsNext core x is)).1 in
    let same : x ≡ next_ltxid commits x.incarnation x.session = (λ i. record { incarnation = x.incarnation; session = x.session; number = may.number_is i }) in
    ap (is_blocked (all_blocked core)) same ∙ may.free

told_blocks : (core : Core) (x : Ltxid) (judged : Verdict) → verdict_on core x ≡ judged → BlocksIn core (if_blocks judged core x) (answered_by_telling x (Says (down_of judged)))
told_blocks core x verdict.BlockIt is = BlocksOne (core.blocked ++ x ∷ []) (record { ltxid = x; may_be = false }) refl (free_to_block core x is)
told_blocks core x verdict.AlreadyBlocked is = LeavesOne core.blocked (record { ltxid = x; may_be = false }) refl (inl (already-blocked core x is))
told_blocks core x (verdict.Committed completed) is = BlocksNone core.blocked refl
told_blocks core x (verdict.ServerAhead next) is = BlocksNone core.blocked refl
told_blocks core x (verdict.ClientAhead next) is = BlocksNone core.blocked refl
told_blocks core x (verdict.Forgotten horizon) is = BlocksNone core.blocked refl

-- the same where the answer did not go out
unsaid_blocks : (core : Core) (x : Ltxid) (judged : Verdict) → verdict_on core x ≡ judged → BlocksIn core (if_blocks judged core x) (answered_by_telling x Stopped)
unsaid_blocks core x verdict.BlockIt is = BlocksOne (core.blocked ++ x ∷ []) (record { ltxid = x; may_be = true }) refl (free_to_block core x is)
unsaid_blocks core x verdict.AlreadyBlocked is = LeavesOne core.blocked (record { ltxid = x; may_be = true }) refl (inr refl)
unsaid_blocks core x (verdict.Committed completed) is = LeavesOne core.blocked (record { ltxid = x; may_be = true }) refl (inr refl)
unsaid_blocks core x (verdict.ServerAhead next) is = LeavesOne core.blocked (record { ltxid = x; may_be = true }) refl (inr refl)
unsaid_blocks core x (verdict.ClientAhead next) is = LeavesOne core.blocked (record { ltxid = x; may_be = true }) refl (inr refl)
unsaid_blocks core x (verdict.Forgotten horizon) is = LeavesOne core.blocked (record { ltxid = x; may_be = true }) refl (inr refl)

-- what an answer blocks, where it went out, and where the store was stopped before
record Both (core after : Core) (told : Telling) (answers : Telling → List Answered) : Type 0 where
  said : BlocksIn core after (answers told)
  unsaid : BlocksIn core after (answers Stopped)

stops_both : (core after : Core) (x : Ltxid) → verdict_on core x ≡ verdict.BlockIt → (after ≡ core) ⊎ (after ≡ with_block core x) → Both core after Stopped (answered_by_telling x)
stops_both core after x is (inl same) =
    let blocks : BlocksIn core after (answered_by_telling x Stopped) = LeavesOne after.blocked (record { ltxid = x; may_be = true }) (ap (λ (c : Core). c.blocked) same) (inr refl) in
    record { said = blocks; unsaid = blocks }
stops_both core after x is (inr same) =
    let blocks : BlocksIn core after (answered_by_telling x Stopped) = BlocksOne after.blocked (record { ltxid = x; may_be = true }) (ap (λ (c : Core). c.blocked) same) (free_to_block core x is) in
    record { said = blocks; unsaid = blocks }

outcomes_block : (core : Core) (x : Ltxid) (after : Core) (told : Telling) → Outcomes core x after told → Both core after told (answered_by_telling x)
outcomes_block core x _ _ (IsTold judged is) = record { said = told_blocks core x judged is; unsaid = unsaid_blocks core x judged is }
outcomes_block core x _ _ (BlockStops after is same) = stops_both core after x is same

none_both : (core after : Core) (told : Telling) (frame : Up) → after.blocked ≡ core.blocked → ((told : Telling) → answered_by_frame frame told ≡ []) → Both core after told (answered_by_frame frame)
none_both core after told frame same none = record {
  said = subst (BlocksIn core after) (sym (none told)) (BlocksNone after.blocked same);
  unsaid = subst (BlocksIn core after) (sym (none Stopped)) (BlocksNone after.blocked same);
}

-- a frame that was lost behind a stop, or refused
lost_frame : (core : Core) (frame : Up) → BlocksIn core core (answered_by_frame frame Stopped)
lost_frame core (up.Outcome x) = LeavesOne core.blocked (record { ltxid = x; may_be = true }) refl (inr refl)
lost_frame core frame = BlocksNone core.blocked refl

refused_frame : (core : Core) (frame : Up) → BlocksIn core core (answered_by_frame frame (Says (down.Refused 2)))
refused_frame core (up.Outcome x) = BlocksNone core.blocked refl
refused_frame core frame = BlocksNone core.blocked refl

call_keeps : (core after : Core) (frame : Up) (told : Telling) → BlocksAtMost core frame after told → ((x : Ltxid) → frame ≡ up.Outcome x → ⊥) → after.blocked ≡ core.blocked
call_keeps core after frame told (AddsNone same) other = same
call_keeps core after frame told (AddsOne x is more by) other = absurd (other x is)

serve_blocks : (core : Core) (sess : Sess) (now : ℕ) (frame : Up) (after : Core) (t : Sess) (told : Telling) → Serve core sess now frame after t told → Both core after told (answered_by_frame frame)
serve_blocks core sess now _ _ _ _ (Connects life) = none_both core core _ up.Connect refl (λ told. refl)
serve_blocks core sess now _ _ _ _ (Begins settings serving) = none_both core core _ (up.Begin settings) refl (λ told. refl)
serve_blocks core sess now _ _ _ _ (Ends serving) = none_both core core _ up.End refl (λ told. refl)
serve_blocks core sess now _ _ _ _ (Closes serving) = none_both core core _ up.Close refl (λ told. refl)
serve_blocks core sess now _ _ _ _ (Asks x after told serving asked) = let both = outcomes_block core x after told asked in record { said = both.said; unsaid = both.unsaid }
serve_blocks core sess now _ _ _ _ (Serves replay kept called after t told begun calls) =
    none_both core after told (up.Call replay kept called)
    (call_keeps core after (up.Call replay kept called) told (frame_blocks core sess now (up.Call replay kept called) after t told (Serves replay kept called after t told begun calls)) (λ x is. let none : ⊥ = cc in none))
    (λ said. refl)
serve_blocks core sess now _ _ _ _ (Refuses frame out) = record { said = refused_frame core frame; unsaid = lost_frame core frame }

-- with nothing behind it
alone : (core after : Core) (answers : List Answered) → BlocksIn core after answers → BlocksIn core after (answers ++ [])
alone core after answers blocks = subst (BlocksIn core after) (sym (append-nil answers)) blocks

turned : (core middle : Core) (server : Server) (answers : List Answered) → server.core ≡ middle → BlocksIn core middle answers → BlocksIn core server.core (answers ++ [])
turned core middle server answers same blocks = alone core server.core answers (subst (λ (c : Core). BlocksIn core c answers) (sym same) blocks)

still : (core after : Core) → after.blocked ≡ core.blocked → BlocksIn core after []
still core after same = BlocksNone after.blocked same

move_blocks : (server after : Server) (more : List Happened) → Moves server more after → BlocksIn server.core after.core (answered_of more)
move_blocks server _ _ (Makes on) = still server.core server.core refl
move_blocks server _ _ (Answers old new now frame core told after on serve answered turns) =
    turned server.core core after (answered_by_frame frame told) (ap (λ (s : Server). s.core) turns.turned) (serve_blocks server.core old now frame core new told serve).said
move_blocks server _ _ (Halts old new now frame core told after running serve turns) =
    turned server.core core after (answered_by_frame frame Stopped) (ap (λ (s : Server). s.core) turns.turned) (serve_blocks server.core old now frame core new told serve).unsaid
move_blocks server _ _ (Loses old now frame after halted turns) = turned server.core server.core after (answered_by_frame frame Stopped) (ap (λ (s : Server). s.core) turns.turned) (lost_frame server.core frame)
move_blocks server _ _ (AnswersAsk x core frame on asks) = alone server.core core (answered_by_telling x (Says frame)) (outcomes_block server.core x core (Says frame) asks).said
move_blocks server _ _ (HaltsInAsk x core told running asks) = alone server.core core (answered_by_telling x Stopped) (outcomes_block server.core x core told asks).unsaid
move_blocks server _ _ (Reaps front back sess split) = still server.core server.core refl
move_blocks server _ _ Falls = still server.core server.core refl
move_blocks server _ _ (Opens below off may) = still server.core (reopened_core (forgetting server.core below)) refl
move_blocks server _ _ (StopsOpening below core off may (inl same)) = still server.core core (ap (λ (c : Core). c.blocked) same)
move_blocks server _ _ (StopsOpening below core off may (inr (inl same))) = still server.core core (ap (λ (c : Core). c.blocked) same)
move_blocks server _ _ (StopsOpening below core off may (inr (inr same))) = still server.core core (ap (λ (c : Core). c.blocked) same)

-- WHOLE RUNS --------------------------------------------------------------------------------------

pub runs_block : (base : Base) (history : List Happened) (server : Server) → Runs base history server → HasBlocked base.blocked server.core.blocked (answered_of history)
runs_block base _ _ Start = NoneYet
runs_block base _ _ (Then history more server after runs moves) =
    subst (HasBlocked base.blocked after.core.blocked) (sym (flat_map-append answered_by_one history more))
    (OneMore server.core.blocked after.core.blocked (answered_of history) (answered_of more) (runs_block base history server runs)
    (subst (λ (b : Base). Blocks b.blocked server.core.blocked after.core.blocked (answered_of more)) (runs_keep_base base history server runs) (move_blocks server after more moves)))

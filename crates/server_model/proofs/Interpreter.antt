-- The plain server as a function, where nothing stops. What it does is what `Serve` allows, so
-- whole runs can be computed.
use Rattle.std.specs.Prelude.{◌≡◌, ◌⊎◌, ◌<◌, ◌^◌, ◌&&◌, ◌||◌, nat_lt, ℕ, suc, Bool, true, false, not, IsTrue, List, [], ◌∷◌, ◌++◌, Option, Some, None, if◌then◌else◌}
use Rattle.std.specs.List.{AllByRecursion, list_all}
use Rattle.std.proofs.Common.{refl, inl, inr, sym, ◌∙◌, ap, subst, append-nil, append_assoc, arith}
use Rattle.std.proofs.lemmas.Bool.Decides.{nat_tests}
use Rattle.std.proofs.lemmas.List.Elements.{All-from_recursion}
use Rattle.svc_values.specs.declared.draw.Draw.{Draw}
use Rattle.svc_values.specs.declared.draw.DrawKind.{DrawKind}
use Rattle.svc_values.specs.declared.call.Call.{Call}
use Rattle.svc_values.specs.declared.call.Call.TheVariants as call
use Rattle.svc_values.specs.declared.answer.Answer.{Answer}
use Rattle.svc_values.specs.declared.answer.Answer.TheVariants as answer
use Rattle.svc_values.specs.declared.frame.Up.{Up}
use Rattle.svc_values.specs.declared.frame.Up.TheVariants as up
use Rattle.svc_values.specs.declared.frame.Down.TheVariants as down
use Rattle.svc_values.specs.meaning.Endings.{ends_committed}
use Rattle.svc_values.specs.meaning.SettingsList.{put_setting}
use Rattle.svc_values.specs.declared.tables.PlainRow.{PlainRow}
use Rattle.svc_values.specs.meaning.Tables.{rows_at, with_writes}
use Rattle.stmt_meaning.specs.meaning.Meaning.{Meant, mean}
use Rattle.stmt_meaning.specs.meaning.SerialTest.{is_nil}
use Rattle.ltxid_book.specs.meaning.Journal.{is_blocked}
use Rattle.mutable_values.specs.declared.source.Drawn.{Drawn}
use Rattle.mutable_values.specs.declared.source.Drawn.TheVariants as drawn
use Rattle.mutable_values.specs.Sources.{Opening, HasRoom, DrawnFrom as Drew, draw_of, has_room, reserved_to}
use Rattle.server_model.specs.Core.{Core, committed, all_blocked}
use Rattle.server_model.specs.Sessions.{Life, New, Idle, Begun, Ended, Sess, begun_with, dropped, ended, with_piece, with_work, raised, entry_of}
use Rattle.stmt_meaning.specs.meaning.Reads.{Read}
use Rattle.stmt_meaning.specs.Reads.{ReadsDiffer, ReadsStand}
use Rattle.stmt_meaning.specs.meaning.Asked.{asked_by_call}
use Rattle.stmt_meaning.specs.Asked.{kind_drawn}
use Rattle.server_model.specs.Draws.{brought, Draws, Gives, Reserves, DrawsAll}
use Rattle.server_model.specs.meaning.Outcomes.{Telling, Silent, Says}
use Rattle.server_model.specs.Outcomes.{IsTold, down_of, if_blocks, verdict_on}
use Rattle.server_model.specs.Serve.{Commits, InReplay, Blocks, Conflicts, Stores, Works, Answers, Reaches, Calls, IsWork, IsSet, IsAlter, AlterMarked, IsDisable, IsRollback, Serve, Connects, Begins, Ends, Closes, Asks, Runs, Refuses, Means, with_last, reply, with_opening, with_entry, with_alert, is_serving, is_out_of_order}
use Rattle.svc_values.specs.meaning.Same.{same_rows, same_draw_kind as same_kind}
use Rattle.server_model.specs.meaning.Legal.{differs}
use Rattle.svc_values.specs.SameLaws.{same_rows_decide, same_draw_kind_decides as same_kind_decides}
use Rattle.server_model.proofs.StoppedHistories.{and-left, and-right}

either : {A B C : Type 0} → A ⊎ B → (A → C) → (B → C) → C
either (inl a) one other = one a
either (inr b) one other = other b

some_is : {A : Type 0} (a b : A) → Some a ≡ Some b → a ≡ b
some_is a b same = cc

-- ---- one draw

pub record Given : Type 0 where
  pub value : Draw
  pub opening : Opening
  pub left : List Draw

abbrev pub value_in : Drawn → Drew → Option Given
value_in (drawn.Value value) told = Some (record { value = value; opening = told.opening; left = told.kept })
value_in (drawn.Reserve name upto) told = None

abbrev pub second : Option Drew → Option Given
second None = None
second (Some told) = value_in told.answer told

abbrev pub first_in : Drawn → Drew → List Draw → DrawKind → ℕ → Option Given
first_in (drawn.Value value) told kept asked now = Some (record { value = value; opening = told.opening; left = told.kept })
first_in (drawn.Reserve name upto) told kept asked now = second (draw_of (reserved_to told.opening name upto) kept asked now)

abbrev pub first : Option Drew → List Draw → DrawKind → ℕ → Option Given
first None kept asked now = None
first (Some told) kept asked now = first_in told.answer told kept asked now

-- the source has room for a draw
abbrev pub room_in : Opening → Bool
room_in opening = list_all has_room opening.sequences && nat_lt opening.identifiers (2 ^ 60)

abbrev pub draw_one : Opening → List Draw → DrawKind → ℕ → Option Given
draw_one opening kept asked now = if room_in opening then first (draw_of opening kept asked now) kept asked now else None

has-room : (opening : Opening) → room_in opening ≡ true → HasRoom opening
has-room opening is = record { reservations = and-left (list_all has_room opening.sequences) _ is; identifiers = below opening.identifiers (and-right (list_all has_room opening.sequences) _ is) }
  where
    below : (n : ℕ) → nat_lt n (2 ^ 60) ≡ true → n < 2 ^ 60
    below n is = grind (arith, nat_tests)

-- what is given is what is drawn
second-is : (found : Option Drew) (given : Given) → second found ≡ Some given → found ≡ Some (record { answer = drawn.Value given.value; opening = given.opening; kept = given.left })
second-is None given is = cc
second-is (Some told) given is = by told.answer refl is
  where
    by : (answer : Drawn) → told.answer ≡ answer → value_in answer told ≡ Some given → Some told ≡ Some (record { answer = drawn.Value given.value; opening = given.opening; kept = given.left })
    by (drawn.Value value) same is =
        let one : record { value = value; opening = told.opening; left = told.kept } ≡ given = some_is _ given is in
        (λ i. Some (record { answer = (same ∙ ap (λ (g : Given). drawn.Value g.value) one) i; opening = (one i).opening; kept = (one i).left }))
    by (drawn.Reserve name upto) same is = cc

told-drawn : (opening : Opening) (kept : List Draw) (asked : DrawKind) (now : ℕ) (found : Option Drew) (given : Given) → HasRoom opening → draw_of opening kept asked now ≡ found → first found kept asked now ≡ Some given → Draws kept asked now opening given.value given.opening given.left
told-drawn opening kept asked now None given room same is = cc
told-drawn opening kept asked now (Some told) given room same is = by told.answer refl is
  where
    by : (answer : Drawn) → told.answer ≡ answer → first_in answer told kept asked now ≡ Some given → Draws kept asked now opening given.value given.opening given.left
    by (drawn.Value value) at is =
        let one : record { value = value; opening = told.opening; left = told.kept } ≡ given = some_is _ given is in
        Gives opening given.opening given.value given.left room (same ∙ (λ i. Some (record { answer = (at ∙ ap (λ (g : Given). drawn.Value g.value) one) i; opening = (one i).opening; kept = (one i).left })))
    by (drawn.Reserve name upto) at is =
        Reserves opening told.opening given.opening name upto told.kept given.value given.left room (same ∙ (λ i. Some (record { answer = at i; opening = told.opening; kept = told.kept }))) (second-is (draw_of (reserved_to told.opening name upto) kept asked now) given is)

one-drawn : (opening : Opening) (kept : List Draw) (asked : DrawKind) (now : ℕ) (given : Given) → draw_one opening kept asked now ≡ Some given → Draws kept asked now opening given.value given.opening given.left
one-drawn opening kept asked now given is = by (room_in opening) refl is
  where
    by : (b : Bool) → room_in opening ≡ b → (if b then first (draw_of opening kept asked now) kept asked now else None) ≡ Some given → Draws kept asked now opening given.value given.opening given.left
    by true room found = told-drawn opening kept asked now (draw_of opening kept asked now) given (has-room opening room) refl found
    by false room found = cc

-- ---- the draws of a call

pub record Found : Type 0 where
  pub draws : List Draw
  pub opening : Opening
  pub left : List Draw
  pub meant : Meant

abbrev pub if_used : Option Meant → Option Meant
if_used None = None
if_used (Some meant) = if is_nil meant.rest then Some meant else None

-- what the call means, if it uses exactly these draws
abbrev pub meaning_of : Core → Sess → Call → List Draw → Option Meant
meaning_of core sess called draws = if_used (mean core.base.shape (with_writes (committed core) sess.writes) sess.settings called draws)

abbrev pub ended_at : Opening → List Draw → Option Meant → Option Found
ended_at opening left None = None
ended_at opening left (Some meant) = Some (record { draws = []; opening = opening; left = left; meant = meant })

abbrev pub or_else : Option Found → Option Found → Option Found
or_else None more = more
or_else (Some found) more = Some found

abbrev pub with_draw : Draw → Option Found → Option Found
with_draw value None = None
with_draw value (Some found) = Some (record { draws = value ∷ found.draws; opening = found.opening; left = found.left; meant = found.meant })

abbrev pub if_given : Option Given → DrawKind → (Given → Option Found) → Option Found
if_given None asked next = None
if_given (Some given) asked next = if same_kind (kind_drawn given.value) asked then with_draw given.value (next given) else None

-- the draws behind these, of the kinds that are asked for, until the call means something
abbrev pub search_draws : Core → Sess → Call → ℕ → List Draw → Opening → List Draw → List DrawKind → Option Found
search_draws core sess called now before opening left [] = ended_at opening left (meaning_of core sess called before)
search_draws core sess called now before opening left (asked ∷ kinds) =
    or_else (ended_at opening left (meaning_of core sess called before))
    (if_given (draw_one opening left asked now) asked (λ given. search_draws core sess called now (before ++ given.value ∷ []) given.opening given.left kinds))

pub record FoundIs (core : Core) (sess : Sess) (called : Call) (now : ℕ) (before : List Draw) (opening : Opening) (left : List Draw) (found : Found) : Type 0 where
  pub drew : DrawsAll now opening left found.draws found.opening found.left
  pub means : Means core sess called (before ++ found.draws) found.meant

nil_is : (draws : List Draw) → is_nil draws ≡ true → draws ≡ []
nil_is [] is = refl
nil_is (draw ∷ draws) is = cc

used_by : (b : Bool) (meant m : Meant) → (if b then Some meant else None) ≡ Some m → (b ≡ true) × (meant ≡ m)
used_by true meant m is = (refl, some_is meant m is)
used_by false meant m is = cc

used-means : (core : Core) (sess : Sess) (called : Call) (draws : List Draw) (result : Option Meant) (meant : Meant) → mean core.base.shape (with_writes (committed core) sess.writes) sess.settings called draws ≡ result → if_used result ≡ Some meant → Means core sess called draws meant
used-means core sess called draws None meant run is = cc
used-means core sess called draws (Some m) meant run is =
    let both = used_by (is_nil m.rest) m meant is in
    subst (Means core sess called draws) both.1 (record { run = run; used = nil_is m.rest both.0 })

ended-is : (core : Core) (sess : Sess) (called : Call) (now : ℕ) (before : List Draw) (opening : Opening) (left : List Draw) (result : Option Meant) (found : Found) → meaning_of core sess called before ≡ result → ended_at opening left result ≡ Some found → FoundIs core sess called now before opening left found
ended-is core sess called now before opening left None found run is = cc
ended-is core sess called now before opening left (Some meant) found run is =
    let here : Found = record { draws = []; opening = opening; left = left; meant = meant } in
    let is_here : FoundIs core sess called now before opening left here = record { drew = (refl, refl); means = subst (λ ds. Means core sess called ds meant) (sym (append-nil before)) (used-means core sess called before _ meant refl run) } in
    subst (FoundIs core sess called now before opening left) (some_is here found is) is_here

if_given-is : (core : Core) (sess : Sess) (called : Call) (now : ℕ) (before : List Draw) (opening : Opening) (left : List Draw) (asked : DrawKind) (result : Option Given) (next : Given → Option Found) (found : Found)
    → draw_one opening left asked now ≡ result → ((given : Given) (more : Found) → next given ≡ Some more → FoundIs core sess called now (before ++ given.value ∷ []) given.opening given.left more) → if_given result asked next ≡ Some found → FoundIs core sess called now before opening left found
if_given-is core sess called now before opening left asked None next found drew inner is = cc
if_given-is core sess called now before opening left asked (Some given) next found drew inner is = by (same_kind (kind_drawn given.value) asked) refl is
  where
    by_more : (more : Option Found) → next given ≡ more → same_kind (kind_drawn given.value) asked ≡ true → with_draw given.value more ≡ Some found → FoundIs core sess called now before opening left found
    by_more None found_more kind is = cc
    by_more (Some more) found_more kind is =
        let rest = inner given more found_more in
        let here : Found = record { draws = given.value ∷ more.draws; opening = more.opening; left = more.left; meant = more.meant } in
        let drawn_here : Draws left (kind_drawn given.value) now opening given.value given.opening given.left =
        subst (λ k. Draws left k now opening given.value given.opening given.left) (sym ((same_kind_decides (kind_drawn given.value) asked).0 kind)) (one-drawn opening left asked now given drew) in
        let is_here : FoundIs core sess called now before opening left here = record {
          drew = (given.opening, given.left, (drawn_here, rest.drew));
          means = subst (λ ds. Means core sess called ds more.meant) (append_assoc before (given.value ∷ []) more.draws) rest.means;
        } in
        subst (FoundIs core sess called now before opening left) (some_is here found is) is_here

    by : (b : Bool) → same_kind (kind_drawn given.value) asked ≡ b → (if b then with_draw given.value (next given) else None) ≡ Some found → FoundIs core sess called now before opening left found
    by true kind is = by_more (next given) refl kind is
    by false kind is = cc

or-is : (first_one more : Option Found) (found : Found) → or_else first_one more ≡ Some found → (first_one ≡ Some found) ⊎ (more ≡ Some found)
or-is None more found is = inr is
or-is (Some one) more found is = inl is

search-is : (core : Core) (sess : Sess) (called : Call) (now : ℕ) (kinds : List DrawKind) (before : List Draw) (opening : Opening) (left : List Draw) (found : Found) → search_draws core sess called now before opening left kinds ≡ Some found → FoundIs core sess called now before opening left found
search-is core sess called now [] before opening left found is = ended-is core sess called now before opening left _ found refl is
search-is core sess called now (asked ∷ kinds) before opening left found is =
    either (or-is (ended_at opening left (meaning_of core sess called before)) _ found is)
    (λ one. ended-is core sess called now before opening left _ found refl one)
    (λ more. if_given-is core sess called now before opening left asked _ (λ given. search_draws core sess called now (before ++ given.value ∷ []) given.opening given.left kinds) found refl
    (λ given rest e. search-is core sess called now kinds (before ++ given.value ∷ []) given.opening given.left rest e) more)

-- ---- commits

pub record Done : Type 0 where
  pub core : Core
  pub sess : Sess
  pub told : Telling

abbrev pub done : Core → Sess → Telling → Done
done core sess told = record { core = core; sess = sess; told = told }

abbrev pub stored_or : Bool → Core → Sess → Call → List Answer → List Draw → Done
stored_or true core sess called answers draws = done core (dropped sess) (reply (with_last answers answer.Conflict) draws sess)
stored_or false core sess called answers draws = done (with_entry core (entry_of sess called answers draws)) (dropped (raised sess)) (reply answers draws (raised sess))

abbrev pub blocked_or : Bool → Core → Sess → Call → List Answer → List Draw → Done
blocked_or true core sess called answers draws = done core (ended sess) (Says down.Blocked)
blocked_or false core sess called answers draws = stored_or (differs (committed core) sess.reads) core sess called answers draws

abbrev pub committed_or : Bool → Core → Sess → Call → List Answer → List Draw → Done
committed_or true core sess called answers draws = done core (dropped sess) (reply (with_last answers answer.CommitInReplay) draws sess)
committed_or false core sess called answers draws = blocked_or (is_blocked (all_blocked core) sess.ltxid) core sess called answers draws

or_true : (a b : Bool) → (not a || b) ≡ true → (a ≡ false) ⊎ (b ≡ true)
or_true true b is = inr is
or_true false b is = inl refl

or_false : (a b : Bool) → (not a || b) ≡ false → (a ≡ true) × (b ≡ false)
or_false true b is = (refl, is)
or_false false b is = let none : ⊥ = cc in absurd none

false_true : (b : Bool) → b ≡ false → b ≡ true → ⊥
false_true b one other = let none : ⊥ = (let e : false ≡ true = sym one ∙ other in cc) in none

differs-is : (reads : List Read) (now : List PlainRow) → differs now reads ≡ true → ReadsDiffer reads now
differs-is [] now is = let none : ⊥ = cc in absurd none
differs-is (read ∷ reads) now is =
    either (or_true (same_rows read.found (rows_at now read.at)) _ is)
    (λ other. (read, ((0, omega arith, refl), λ same. false_true _ other ((same_rows_decide read.found (rows_at now read.at)).1 (sym same)))))
    (λ more. behind (differs-is reads now more))
  where
    behind : ReadsDiffer reads now → ReadsDiffer (read ∷ reads) now
    behind (found, ((k, lt, e), changed)) = (found, ((suc k, omega arith, e), changed))

stands-each : (reads : List Read) (now : List PlainRow) → differs now reads ≡ false → AllByRecursion (λ read. rows_at now read.at ≡ read.found) reads
stands-each [] now is = tt
stands-each (read ∷ reads) now is =
    let both = or_false (same_rows read.found (rows_at now read.at)) _ is in
    (sym ((same_rows_decide read.found (rows_at now read.at)).0 both.0), stands-each reads now both.1)

stands-is : (reads : List Read) (now : List PlainRow) → differs now reads ≡ false → ReadsStand reads now
stands-is reads now is = All-from_recursion (λ read. rows_at now read.at ≡ read.found) reads (stands-each reads now is)

not_false : (b : Bool) → b ≡ false → IsTrue (not b)
not_false b is = ap not is

stored-is : (b : Bool) (core : Core) (sess : Sess) (called : Call) (answers : List Answer) (draws : List Draw) → differs (committed core) sess.reads ≡ b → is_blocked (all_blocked core) sess.ltxid ≡ false
    → let d = stored_or b core sess called answers draws in Commits core sess false called answers draws d.core d.sess d.told
stored-is true core sess called answers draws is free = Conflicts refl (not_false _ free) (differs-is sess.reads (committed core) is)
stored-is false core sess called answers draws is free = Stores (record { unmarked = refl; free = not_false _ free; same = stands-is sess.reads (committed core) is })

blocked-is : (b : Bool) (core : Core) (sess : Sess) (called : Call) (answers : List Answer) (draws : List Draw) → is_blocked (all_blocked core) sess.ltxid ≡ b
    → let d = blocked_or b core sess called answers draws in Commits core sess false called answers draws d.core d.sess d.told
blocked-is true core sess called answers draws is = Blocks refl is
blocked-is false core sess called answers draws is = stored-is (differs (committed core) sess.reads) core sess called answers draws refl is

committed-is : (replay : Bool) (core : Core) (sess : Sess) (called : Call) (answers : List Answer) (draws : List Draw) → let d = committed_or replay core sess called answers draws in Commits core sess replay called answers draws d.core d.sess d.told
committed-is true core sess called answers draws = InReplay refl
committed-is false core sess called answers draws = blocked-is (is_blocked (all_blocked core) sess.ltxid) core sess called answers draws refl

-- ---- calls

abbrev pub found_work : Bool → Core → Sess → Bool → Call → Found → Done
found_work true core sess replay called found = committed_or replay (with_opening core found.opening) (with_work sess (committed core) found.meant) called found.meant.answers found.draws
found_work false core sess replay called found = done (with_opening core found.opening) (with_piece (with_work sess (committed core) found.meant) called found.meant.answers found.draws) (reply found.meant.answers found.draws sess)

abbrev pub if_found : Core → Sess → Bool → Call → Option Found → Option Done
if_found core sess replay called None = None
if_found core sess replay called (Some found) = Some (found_work (ends_committed found.meant.answers) core sess replay called found)

abbrev pub marked_or : Bool → Core → Sess → List ℕ → Done
marked_or true core sess line = done core (ended sess) (Says (down.Refused 2))
marked_or false core sess line = done (with_alert core line) (with_piece sess (call.Alter line) (answer.Done 1 ∷ []) []) (reply (answer.Done 1 ∷ []) [] sess)

abbrev pub interpret_call : Core → Sess → Bool → List Draw → ℕ → Call → Option Done
interpret_call core sess replay kept now (call.Work statements commit) =
    if_found core sess replay (call.Work statements commit) (search_draws core sess (call.Work statements commit) now [] core.opening (brought core.base.grants core.opening replay kept) (asked_by_call (call.Work statements commit)))
interpret_call core sess replay kept now (call.Set name value) =
    Some (done core (record (with_piece sess (call.Set name value) (answer.Done 1 ∷ []) []) { settings = put_setting sess.settings name value }) (reply (answer.Done 1 ∷ []) [] sess))
interpret_call core sess replay kept now (call.Alter line) = Some (marked_or replay core sess line)
interpret_call core sess replay kept now call.Disable = Some (done core (with_piece sess call.Disable (answer.Done 0 ∷ []) []) (reply (answer.Done 0 ∷ []) [] sess))
interpret_call core sess replay kept now call.Rollback = Some (done core (dropped sess) (reply (answer.RolledBack ∷ []) [] sess))

work-is : (b : Bool) (core : Core) (sess : Sess) (replay : Bool) (kept : List Draw) (called : Call) (now : ℕ) (found : Found) → ends_committed found.meant.answers ≡ b → FoundIs core sess called now [] core.opening (brought core.base.grants core.opening replay kept) found
    → let d = found_work b core sess replay called found in Works core sess replay kept called now d.core d.sess d.told
work-is true core sess replay kept called now found ends is =
    Reaches found.opening found.draws found.left found.meant _ _ _ is.drew is.means ends (committed-is replay (with_opening core found.opening) (with_work sess (committed core) found.meant) called found.meant.answers found.draws)
work-is false core sess replay kept called now found ends is = Answers found.opening found.draws found.left found.meant is.drew is.means ends

found-is : (core : Core) (sess : Sess) (replay : Bool) (kept : List Draw) (called : Call) (now : ℕ) (result : Option Found) (d : Done)
    → search_draws core sess called now [] core.opening (brought core.base.grants core.opening replay kept) (asked_by_call called) ≡ result → if_found core sess replay called result ≡ Some d → Works core sess replay kept called now d.core d.sess d.told
found-is core sess replay kept called now None d run is = cc
found-is core sess replay kept called now (Some found) d run is =
    subst (λ (x : Done). Works core sess replay kept called now x.core x.sess x.told) (some_is _ d is)
    (work-is (ends_committed found.meant.answers) core sess replay kept called now found refl (search-is core sess called now (asked_by_call called) [] core.opening (brought core.base.grants core.opening replay kept) found run))

marked-is : (replay : Bool) (core : Core) (sess : Sess) (kept : List Draw) (now : ℕ) (line : List ℕ) → let d = marked_or replay core sess line in Calls core sess replay kept now (call.Alter line) d.core d.sess d.told
marked-is true core sess kept now line = AlterMarked line refl
marked-is false core sess kept now line = IsAlter line refl

call-is : (core : Core) (sess : Sess) (replay : Bool) (kept : List Draw) (now : ℕ) (called : Call) (d : Done) → interpret_call core sess replay kept now called ≡ Some d → Calls core sess replay kept now called d.core d.sess d.told
call-is core sess replay kept now (call.Work statements commit) d is = IsWork statements commit d.core d.sess d.told (found-is core sess replay kept (call.Work statements commit) now _ d refl is)
call-is core sess replay kept now (call.Set name value) d is = subst (λ (x : Done). Calls core sess replay kept now (call.Set name value) x.core x.sess x.told) (some_is _ d is) (IsSet name value)
call-is core sess replay kept now (call.Alter line) d is = subst (λ (x : Done). Calls core sess replay kept now (call.Alter line) x.core x.sess x.told) (some_is _ d is) (marked-is replay core sess kept now line)
call-is core sess replay kept now call.Disable d is = subst (λ (x : Done). Calls core sess replay kept now call.Disable x.core x.sess x.told) (some_is _ d is) IsDisable
call-is core sess replay kept now call.Rollback d is = subst (λ (x : Done). Calls core sess replay kept now call.Rollback x.core x.sess x.told) (some_is _ d is) IsRollback

-- ---- frames

abbrev pub serving_frame : Core → Sess → Up → Option Done
serving_frame core sess (up.Begin settings) = Some (done core (begun_with sess Begun settings) Silent)
serving_frame core sess up.End = Some (done core (begun_with sess Idle []) Silent)
serving_frame core sess up.Close = Some (done core (ended sess) Silent)
serving_frame core sess (up.Outcome x) = Some (done (if_blocks (verdict_on core x) core x) sess (Says (down_of (verdict_on core x))))
serving_frame core sess _ = None

abbrev pub in_order : Life → Core → Sess → ℕ → Up → Option Done
in_order New core sess now up.Connect = Some (done core (record sess { life = Idle }) (Says (down.Hello sess.ltxid)))
in_order New core sess now _ = None
in_order Idle core sess now frame = serving_frame core sess frame
in_order Begun core sess now (up.Call replay kept called) = interpret_call core sess replay kept now called
in_order Begun core sess now frame = serving_frame core sess frame
in_order Ended core sess now frame = None

-- One frame, served without a stop.
abbrev pub interpret : Core → Sess → ℕ → Up → Option Done
interpret core sess now frame = if is_out_of_order sess.life frame then Some (done core (ended sess) (Says (down.Refused 2))) else in_order sess.life core sess now frame

serving-is : (core : Core) (sess : Sess) (now : ℕ) (frame : Up) (d : Done) → IsTrue (is_serving sess.life) → serving_frame core sess frame ≡ Some d → Serve core sess now frame d.core d.sess d.told
serving-is core sess now up.Connect d serving is = cc
serving-is core sess now (up.Begin settings) d serving is = subst (λ (x : Done). Serve core sess now (up.Begin settings) x.core x.sess x.told) (some_is _ d is) (Begins settings serving)
serving-is core sess now (up.Call replay kept called) d serving is = cc
serving-is core sess now (up.Outcome x) d serving is = subst (λ (y : Done). Serve core sess now (up.Outcome x) y.core y.sess y.told) (some_is _ d is) (Asks x _ _ serving (IsTold (verdict_on core x) refl))
serving-is core sess now up.End d serving is = subst (λ (x : Done). Serve core sess now up.End x.core x.sess x.told) (some_is _ d is) (Ends serving)
serving-is core sess now up.Close d serving is = subst (λ (x : Done). Serve core sess now up.Close x.core x.sess x.told) (some_is _ d is) (Closes serving)

in_order-is : (life : Life) (core : Core) (sess : Sess) (now : ℕ) (frame : Up) (d : Done) → sess.life ≡ life → in_order life core sess now frame ≡ Some d → Serve core sess now frame d.core d.sess d.told
in_order-is New core sess now up.Connect d life is = subst (λ (x : Done). Serve core sess now up.Connect x.core x.sess x.told) (some_is _ d is) (Connects life)
in_order-is New core sess now (up.Begin settings) d life is = cc
in_order-is New core sess now (up.Call replay kept called) d life is = cc
in_order-is New core sess now (up.Outcome x) d life is = cc
in_order-is New core sess now up.End d life is = cc
in_order-is New core sess now up.Close d life is = cc
in_order-is Idle core sess now frame d life is = serving-is core sess now frame d (ap is_serving life) is
in_order-is Begun core sess now up.Connect d life is = cc
in_order-is Begun core sess now (up.Begin settings) d life is = serving-is core sess now (up.Begin settings) d (ap is_serving life) is
in_order-is Begun core sess now (up.Call replay kept called) d life is = Runs replay kept called d.core d.sess d.told life (call-is core sess replay kept now called d is)
in_order-is Begun core sess now (up.Outcome x) d life is = serving-is core sess now (up.Outcome x) d (ap is_serving life) is
in_order-is Begun core sess now up.End d life is = serving-is core sess now up.End d (ap is_serving life) is
in_order-is Begun core sess now up.Close d life is = serving-is core sess now up.Close d (ap is_serving life) is
in_order-is Ended core sess now frame d life is = cc

pub interpret-is : (core : Core) (sess : Sess) (now : ℕ) (frame : Up) (d : Done) → interpret core sess now frame ≡ Some d → Serve core sess now frame d.core d.sess d.told
interpret-is core sess now frame d is = by (is_out_of_order sess.life frame) refl is
  where
    by : (b : Bool) → is_out_of_order sess.life frame ≡ b → (if b then Some (done core (ended sess) (Says (down.Refused 2))) else in_order sess.life core sess now frame) ≡ Some d → Serve core sess now frame d.core d.sess d.told
    by true out is = subst (λ (x : Done). Serve core sess now frame x.core x.sess x.told) (some_is _ d is) (Refuses frame out)
    by false out is = in_order-is sess.life core sess now frame d refl is

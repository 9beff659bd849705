-- Which identifiers are blocked: each of them is one that the machine knows of.
use Rattle.std.proofs.Common.{◌≡◌, ℕ, Bool, true, false, List, [], ◌∷◌, ◌++◌, Option, Some, refl, sym, ap, ◌∙◌, subst, inl, inr}
use Rattle.std.specs.Prelude.{◌⊎◌, ◌||◌, All}
use Rattle.std.proofs.lemmas.List.{append-nil}
use Rattle.std.proofs.lemmas.List.Elements.{All-nil, All-cons, All-head, All-tail, All-contains}
use Rattle.std.proofs.lemmas.List.Folds.{list_any-append}
use Rattle.svc_values.specs.declared.entry.Ltxid.{Ltxid}
use Rattle.svc_values.specs.declared.entry.SessionId.{SessionId}
use Rattle.svc_values.specs.declared.frame.Up.{Up}
use Rattle.svc_values.specs.declared.frame.Up.TheVariants as up
use Rattle.svc_values.specs.declared.frame.Down.{Down}
use Rattle.svc_values.specs.meaning.Identifiers.{same_ltxid}
use Rattle.svc_values.specs.Laws.{AreExact}
use Rattle.ltxid_book.specs.meaning.Journal.{is_blocked}
use Rattle.ltxid_book.specs.declared.verdict.Verdict.{Verdict}
use Rattle.ltxid_book.specs.declared.verdict.Verdict.TheVariants as verdict
use Rattle.outage_schedule.specs.declared.note.AskResult.{AskResult}
use Rattle.outage_schedule.specs.declared.note.AskResult.TheVariants as told
use Rattle.server_model.specs.meaning.Outcomes.{Says, Stopped, telling_of}
use Rattle.server_model.specs.Outcomes.{down_of}
use Rattle.server_model.specs.Runs.{Happened, Served}
use Rattle.server_model.specs.Seen.{Store, Seen}
use Rattle.server_model.specs.ServiceCalls.{AsksFor, WasAsked, Gains, AddsBlock, BlocksAsTold, may_store}
use Rattle.world_model.specs.Coupled.{Coupled}
use Rattle.world_model.specs.meaning.Crashing.{with_doubt}
use Rattle.world_model.specs.meaning.Machines.{Server}
use Rattle.world_model.specs.meaning.Outside.{after_asked}
use Rattle.world_model.specs.meaning.Serving.{outcome_frame, server_after}
use Rattle.world_model.specs.Traced.{Traced}
use Rattle.world_core.specs.Answering.{served_item, crashed_item, result_of}
use Rattle.world_core.specs.Stopping.{AreKnown}
use Rattle.world_core.proofs.frames.InOrder.{Answers, Connects, Begins, Replies, Blocks, Tells, Ends, Closes}

-- WHAT WAS ASKED FOR ------------------------------------------------------------------------------

-- it asks for no identifier
abbrev pub AsksNone : Happened → Type 0
AsksNone one = (x : Ltxid) → AsksFor x one → ⊥

-- it asks for this one alone
abbrev AsksOnly : Ltxid → Happened → Type 0
AsksOnly x one = (y : Ltxid) → AsksFor y one → x ≡ y

-- nothing was asked for, so nothing is blocked
pub none_blocked : (happened : List Happened) (more : List Ltxid) → All AsksNone happened → All (WasAsked happened) more → more ≡ []
none_blocked happened [] none asked = refl
none_blocked happened (x ∷ more) none asked =
    let from = All-head (WasAsked happened) x more asked in
    absurd (All-contains AsksNone happened from.0 none from.1.0 x from.1.1)

-- one was asked for, so no other is blocked
only_blocked : AreExact → (x : Ltxid) (one : Happened) (more : List Ltxid) (y : Ltxid) → AsksOnly x one → All (WasAsked (one ∷ [])) more → is_blocked more y ≡ true → x ≡ y
only_blocked exact x one [] y only asked is = absurd (let nothing : ⊥ = cc in nothing)
only_blocked exact x one (z ∷ more) y only asked is = by (same_ltxid z y) refl is (only_blocked exact x one more y only (All-tail (WasAsked (one ∷ [])) z more asked))
  where
    asks : x ≡ z
    asks =
        let from = All-head (WasAsked (one ∷ [])) z more asked in
        All-contains (AsksOnly x) (one ∷ []) from.0 (All-cons (AsksOnly x) one [] only (All-nil (AsksOnly x))) from.1.0 z from.1.1

    by : (found : Bool) → same_ltxid z y ≡ found → (found || is_blocked more y) ≡ true → (is_blocked more y ≡ true → x ≡ y) → x ≡ y
    by true found is later = asks ∙ (exact.identifiers z y).0 found
    by false found is later = later is

-- WHAT IS KNOWN -----------------------------------------------------------------------------------

-- the machine knows of what the store blocks
pub known_blocks : (seen : Seen) (t : Traced) → Coupled seen t → AreKnown t.machine.server seen.state.store.blocked
known_blocks seen t coupled = subst (AreKnown t.machine.server) coupled.blocked coupled.blocks

pub known_same : (server : Server) (old new : List Ltxid) → new ≡ old → AreKnown server old → AreKnown server new
known_same server old new same known = subst (AreKnown server) (sym same) known

known_more : (server : Server) (old more : List Ltxid) → AreKnown server old → AreKnown server more → AreKnown server (old ++ more)
known_more server old more before added x is = by (is_blocked old x) refl (sym (list_any-append (λ block. same_ltxid block x) old more) ∙ is)
  where
    by : (found : Bool) → is_blocked old x ≡ found → (found || is_blocked more x) ≡ true → (is_blocked server.blocked x || is_blocked server.doubtful x) ≡ true
    by true found is = before x found
    by false found is = added x is

or_first : (a b c : Bool) → (b || c) ≡ true → ((a || b) || c) ≡ true
or_first true b c is = refl
or_first false b c is = is

or_second : (a b c : Bool) → (b || c) ≡ true → (b || (a || c)) ≡ true
or_second true true c is = refl
or_second true false c is = refl
or_second false b c is = is

or_this : (a b c : Bool) → a ≡ true → (b || (a || c)) ≡ true
or_this a true c is = refl
or_this a false c is = rw is refl

-- another one is told uncommitted
abbrev blocking : Server → Ltxid → Server
blocking server x = record server { blocked = x ∷ server.blocked }

known_blocking : (server : Server) (x : Ltxid) (blocked : List Ltxid) → AreKnown server blocked → AreKnown (blocking server x) blocked
known_blocking server x blocked known y is = or_first (same_ltxid x y) (is_blocked server.blocked y) (is_blocked server.doubtful y) (known y is)

blocking_own : AreExact → (server : Server) (x y : Ltxid) → x ≡ y → (is_blocked (blocking server x).blocked y || is_blocked server.doubtful y) ≡ true
blocking_own exact server x y same = rw ((exact.identifiers x y).1 same) refl

-- a frame that asked for another one is stopped
abbrev doubting : Server → Ltxid → Server
doubting server x = record server { doubtful = x ∷ server.doubtful }

known_doubting : (server : Server) (x : Ltxid) (blocked : List Ltxid) → AreKnown server blocked → AreKnown (doubting server x) blocked
known_doubting server x blocked known y is = or_second (same_ltxid x y) (is_blocked server.blocked y) (is_blocked server.doubtful y) (known y is)

doubting_own : AreExact → (server : Server) (x y : Ltxid) → x ≡ y → (is_blocked server.blocked y || is_blocked (doubting server x).doubtful y) ≡ true
doubting_own exact server x y same = or_this (same_ltxid x y) (is_blocked server.blocked y) (is_blocked server.doubtful y) ((exact.identifiers x y).1 same)

-- A FRAME -----------------------------------------------------------------------------------------

known_told : AreExact → (session : SessionId) (x : Ltxid) (result : AskResult) (server : Server) (now : ℕ) (old new : Store) → Gains (Served session now (up.Outcome x) (telling_of (Some (outcome_frame result))) ∷ []) old new
    → BlocksAsTold old (telling_of (Some (outcome_frame result))) new → AreKnown server old.blocked → AreKnown (server_after server (served_item (up.Outcome x) (Some (outcome_frame result)))) new.blocked
known_told exact session x told.Uncommitted server now old new gains blocks known =
    let one = Served session now (up.Outcome x) (telling_of (Some (outcome_frame told.Uncommitted))) in
    known_same (blocking server x) (old.blocked ++ gains.more_blocked) new.blocked gains.blocked
    (known_more (blocking server x) old.blocked gains.more_blocked (known_blocking server x old.blocked known)
    (λ y is. blocking_own exact server x y (only_blocked exact x one gains.more_blocked y (λ z asks. asks) gains.asked is)))
known_told exact session x (told.Committed completed) server now old new gains blocks known = known_same server old.blocked new.blocked (blocks refl) known
known_told exact session x (told.ServerAhead next) server now old new gains blocks known = known_same server old.blocked new.blocked (blocks refl) known
known_told exact session x (told.ClientAhead next) server now old new gains blocks known = known_same server old.blocked new.blocked (blocks refl) known
known_told exact session x (told.Forgotten horizon) server now old new gains blocks known = known_same server old.blocked new.blocked (blocks refl) known

-- that was answered
pub known_served : AreExact → (session : SessionId) (commits : ℕ) (frame : Up) (reply : Option Down) (server : Server) (now : ℕ) (old new : Store) → Answers session commits frame reply → Gains (Served session now frame (telling_of reply) ∷ []) old new
    → BlocksAsTold old (telling_of reply) new → AreKnown server old.blocked → AreKnown (server_after server (served_item frame reply)) new.blocked
known_served exact session commits _ _ server now old new Connects gains blocks known = known_same server old.blocked new.blocked (blocks refl) known
known_served exact session commits _ _ server now old new (Begins settings) gains blocks known = known_same server old.blocked new.blocked (blocks refl) known
known_served exact session commits _ _ server now old new (Replies replay kept called answers draws) gains blocks known = known_same server old.blocked new.blocked (blocks refl) known
known_served exact session commits _ _ server now old new (Blocks replay kept called) gains blocks known = known_same server old.blocked new.blocked (blocks refl) known
known_served exact session commits _ _ server now old new (Tells x result) gains blocks known = known_told exact session x result server now old new gains blocks known
known_served exact session commits _ _ server now old new Ends gains blocks known = known_same server old.blocked new.blocked (blocks refl) known
known_served exact session commits _ _ server now old new Closes gains blocks known = known_same server old.blocked new.blocked (blocks refl) known

-- that was stopped
pub known_stopped : AreExact → (session : SessionId) (frame : Up) (server : Server) (now : ℕ) (old new : Store) → may_store frame ≡ true → Gains (Served session now frame Stopped ∷ []) old new → AreKnown server old.blocked
    → AreKnown (with_doubt server (crashed_item frame)) new.blocked
known_stopped exact session up.Connect server now old new may gains known = absurd (let nothing : ⊥ = cc in nothing)
known_stopped exact session (up.Begin settings) server now old new may gains known = absurd (let nothing : ⊥ = cc in nothing)
known_stopped exact session up.End server now old new may gains known = absurd (let nothing : ⊥ = cc in nothing)
known_stopped exact session up.Close server now old new may gains known = absurd (let nothing : ⊥ = cc in nothing)
known_stopped exact session (up.Call replay kept called) server now old new may gains known =
    let one = Served session now (up.Call replay kept called) Stopped in
    let none = none_blocked (one ∷ []) gains.more_blocked (All-cons AsksNone one [] (λ x asks. asks) (All-nil AsksNone)) gains.asked in
    known_same server old.blocked new.blocked (gains.blocked ∙ ap (λ more. old.blocked ++ more) none ∙ append-nil old.blocked) known
known_stopped exact session (up.Outcome x) server now old new may gains known =
    known_same (doubting server x) (old.blocked ++ gains.more_blocked) new.blocked gains.blocked
    (known_more (doubting server x) old.blocked gains.more_blocked (known_doubting server x old.blocked known)
    (λ y is. doubting_own exact server x y (only_blocked exact x (Served session now (up.Outcome x) Stopped) gains.more_blocked y (λ z asks. asks) gains.asked is)))

-- A QUESTION --------------------------------------------------------------------------------------

alone : AreExact → (x y : Ltxid) → is_blocked (x ∷ []) y ≡ true → x ≡ y
alone exact x y is = by (same_ltxid x y) refl is
  where
    by : (found : Bool) → same_ltxid x y ≡ found → (found || false) ≡ true → x ≡ y
    by true found is = (exact.identifiers x y).0 found
    by false found is = absurd (let nothing : ⊥ = cc in nothing)

known_added : AreExact → (x : Ltxid) (server : Server) (old new : List Ltxid) → (new ≡ old) ⊎ (new ≡ old ++ x ∷ []) → AreKnown server old → AreKnown (blocking server x) new
known_added exact x server old new (inl same) known = known_same (blocking server x) old new same (known_blocking server x old known)
known_added exact x server old new (inr one) known =
    known_same (blocking server x) (old ++ x ∷ []) new one
    (known_more (blocking server x) old (x ∷ []) (known_blocking server x old known) (λ y is. blocking_own exact server x y (alone exact x y is)))

pub known_asked : AreExact → (x : Ltxid) (judged : Verdict) (server : Server) (old new : Store) → AddsBlock x old new → BlocksAsTold old (Says (down_of judged)) new → AreKnown server old.blocked → AreKnown (after_asked server x (result_of judged)) new.blocked
known_asked exact x verdict.BlockIt server old new adds blocks known = known_added exact x server old.blocked new.blocked adds.blocked known
known_asked exact x verdict.AlreadyBlocked server old new adds blocks known = known_added exact x server old.blocked new.blocked adds.blocked known
known_asked exact x (verdict.Committed completed) server old new adds blocks known = known_same server old.blocked new.blocked (blocks refl) known
known_asked exact x (verdict.ServerAhead next) server old new adds blocks known = known_same server old.blocked new.blocked (blocks refl) known
known_asked exact x (verdict.ClientAhead next) server old new adds blocks known = known_same server old.blocked new.blocked (blocks refl) known
known_asked exact x (verdict.Forgotten horizon) server old new adds blocks known = known_same server old.blocked new.blocked (blocks refl) known

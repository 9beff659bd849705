-- A frame that may be served is answered as the plain server answers one in order.
use Rattle.std.proofs.Common.{◌≡◌, ℕ, ◌+◌, Bool, true, false, ◌&&◌, List, [], ◌∷◌, ◌++◌, Option, Some, None, map, length, fold, refl, sym, ap, ◌∙◌, subst, arith, inl, inr}
use Rattle.std.specs.Prelude.{◌⊎◌, not, cond, if◌then◌else◌}
use Rattle.std.proofs.lemmas.List.Sums.{sum_by-cons}
use Rattle.svc_values.specs.declared.entry.Entry.{Entry}
use Rattle.svc_values.specs.declared.entry.Ltxid.{Ltxid}
use Rattle.svc_values.specs.declared.entry.SessionId.{SessionId}
use Rattle.svc_values.specs.declared.frame.Up.{Up}
use Rattle.svc_values.specs.declared.frame.Up.TheVariants as up
use Rattle.svc_values.specs.declared.frame.Down.{Down}
use Rattle.svc_values.specs.declared.frame.Down.TheVariants as down
use Rattle.svc_values.specs.meaning.Identifiers.{same_session, session_of}
use Rattle.svc_values.specs.Laws.{AreExact}
use Rattle.ltxid_book.specs.meaning.Journal.{Committed, committed_of, commits_of, next_ltxid}
use Rattle.ltxid_book.specs.meaning.Outcomes.{verdict_of}
use Rattle.server_model.specs.meaning.Base.{Base}
use Rattle.server_model.specs.Base.{IsSound}
use Rattle.server_model.specs.Core.{all_entries}
use Rattle.server_model.specs.Items.{item_of}
use Rattle.server_model.specs.Laws.{identifier_in, stops_last}
use Rattle.server_model.specs.meaning.Outcomes.{Says, telling_of}
use Rattle.server_model.specs.Outcomes.{down_of}
use Rattle.server_model.specs.Runs.{Happened, Served, Runs}
use Rattle.server_model.specs.Seen.{Store, Seen, IsHistory, book_in}
use Rattle.server_model.specs.ServiceCalls.{TellsByTable}
use Rattle.server_model.specs.Sessions.{Life}
use Rattle.server_model.specs.ToldRight.{is_ended, is_refused, is_silent, must_refuse, tells, told_holds, happened_holds, lives_after, told_from}
use Rattle.server_model.specs.meaning.Walk.{Walk, walk_of, deed_of, entered, after}
use Rattle.server_model.proofs.Offered.{runs_keep_base, runs_told, tells_next}
use Rattle.world_model.specs.records.Basic.{living_now}
use Rattle.world_model.specs.Coupled.{living_of, entries_in, life_by, life_of, HasLived, IsLater, Coupled}
use Rattle.world_model.specs.meaning.Links.{Link}
use Rattle.world_model.specs.meaning.Machines.{Server, next_session}
use Rattle.world_model.specs.records.Number.{known_so_far}
use Rattle.world_model.specs.meaning.Serving.{Front, front_at, identifier}
use Rattle.world_model.specs.Traced.{Traced}
use Rattle.world_core.specs.Answering.{result_of}
use Rattle.world_core.proofs.frames.InOrder.{ServedWith, Answers, Connects, Begins, Replies, Blocks, Tells, Ends, Closes, commits_in}
use Rattle.world_core.proofs.frames.Added.{Kind, Greets, KindBegins, KindReplies, KindBlocks, KindTells, KindEnds, KindCloses, kind_added, same_frame}
use Rattle.world_core.proofs.frames.Counting.{counted_behind}
use Rattle.world_core.proofs.frames.Fronts.{front_there}
use Rattle.world_core.proofs.frames.Sessions.{which, session_from, answered_last}
use Rattle.world_core.proofs.frames.Stops.{stops_behind}
use Rattle.world_core.proofs.frames.Storing.{both, none_more, counts}
use Rattle.world_core.proofs.frames.Written.{Which}

-- ITS KIND ----------------------------------------------------------------------------------------

never : {A : Type 0} → ◌≡◌ {A = Bool} false true → A
never e = absurd (let nothing : ⊥ = cc in nothing)

silent_kind : (frame : Up) → is_silent frame ≡ true → Kind frame None
silent_kind up.Connect is = never is
silent_kind (up.Begin settings) is = KindBegins settings
silent_kind (up.Call replay kept called) is = never is
silent_kind (up.Outcome x) is = never is
silent_kind up.End is = KindEnds
silent_kind up.Close is = KindCloses

-- by the table on what the store says
table_kind : (before : Walk) (behind : Walk) (session : SessionId) (x : Ltxid) (told : Down) (store : Store) → tells before behind session (up.Outcome x) told ≡ true
    → (told ≡ down.Refused 2) ⊎ (told ≡ down_of (verdict_of (book_in store) x)) → Kind (up.Outcome x) (Some told)
table_kind before behind session x told store is (inl refused) = never (sym (ap (tells before behind session (up.Outcome x)) refused) ∙ is)
table_kind before behind session x told store is (inr table) =
    let verdict = verdict_of (book_in store) x in
    subst (λ (d : Down). Kind (up.Outcome x) (Some d)) (same_frame verdict ∙ sym table) (KindTells x (result_of verdict))

says_kind : (before behind : Walk) (session : SessionId) (frame : Up) (told : Down) (store : Store) → tells before behind session frame told ≡ true → TellsByTable store frame (Says told) → Kind frame (Some told)
says_kind before behind session up.Connect (down.Hello x) store is table = Greets x
says_kind before behind session up.Connect told store is table = absurd (let nothing : ⊥ = cc in nothing)
says_kind before behind session (up.Begin settings) told store is table = never is
says_kind before behind session (up.Call replay kept called) (down.Reply answers draws x) store is table = KindReplies replay kept called answers draws x
says_kind before behind session (up.Call replay kept called) down.Blocked store is table = KindBlocks replay kept called
says_kind before behind session (up.Call replay kept called) told store is table = absurd (let nothing : ⊥ = cc in nothing)
says_kind before behind session (up.Outcome x) told store is table = table_kind before behind session x told store is table
says_kind before behind session up.End told store is table = never is
says_kind before behind session up.Close told store is table = never is

-- told as it has to be, in order
kind_of : (life : Life) (before behind : Walk) (session : SessionId) (frame : Up) (reply : Option Down) (store : Store) → must_refuse life frame ≡ false → told_holds life before behind session frame (telling_of reply) ≡ true
    → TellsByTable store frame (telling_of reply) → Kind frame reply
kind_of life before behind session frame None store order holds table =
    let parts = both (not (is_ended life)) (is_silent frame && not (must_refuse life frame)) holds in
    silent_kind frame (both (is_silent frame) (not (must_refuse life frame)) parts.1).0
kind_of life before behind session frame (Some told) store order holds table =
    let parts = both (not (is_ended life)) (if must_refuse life frame then is_refused told else tells before behind session frame told) holds in
    says_kind before behind session frame told store (sym (ap (λ (b : Bool). if b then is_refused told else tells before behind session frame told) order) ∙ parts.1) table

-- ITS IDENTIFIER ----------------------------------------------------------------------------------

answers_of : (session : SessionId) (commits : ℕ) (frame : Up) (reply : Option Down) → Kind frame reply
    → ((told : Down) (x : Ltxid) → reply ≡ Some told → identifier_in told ≡ Some x → x ≡ identifier session (commits + cond (commits_in reply) 1 0)) → Answers session commits frame reply
answers_of session commits _ _ (Greets x) named =
    subst (λ (y : Ltxid). Answers session commits up.Connect (Some (down.Hello y))) (sym (named (down.Hello x) x refl refl ∙ ap (identifier session) (none_more commits))) Connects
answers_of session commits _ _ (KindBegins settings) named = Begins settings
answers_of session commits _ _ (KindReplies replay kept called answers draws x) named =
    subst (λ (y : Ltxid). Answers session commits (up.Call replay kept called) (Some (down.Reply answers draws y))) (sym (named (down.Reply answers draws x) x refl refl)) (Replies replay kept called answers draws)
answers_of session commits _ _ (KindBlocks replay kept called) named = Blocks replay kept called
answers_of session commits _ _ (KindTells x result) named = Tells x result
answers_of session commits _ _ KindEnds named = Ends
answers_of session commits _ _ KindCloses named = Closes

-- as many commits as entries
entries_counted : (entries : List Entry) (session : SessionId) → length (commits_of (map committed_of entries) session.incarnation session.session) ≡ entries_in entries session
entries_counted [] session = refl
entries_counted (entry ∷ entries) session = by (same_session (session_of entry.ltxid) session) (entries_counted entries session) ∙ sym (sum_by-cons (counts session) entry entries)
  where
    rest : List Committed
    rest = commits_of (map committed_of entries) session.incarnation session.session

    by : (told : Bool) → length rest ≡ entries_in entries session → length (if told then committed_of entry ∷ rest else rest) ≡ cond told 1 0 + entries_in entries session
    by true more = omega (arith, more)
    by false more = omega (arith, more)

-- WHAT IS TOLD LAST -------------------------------------------------------------------------------

record Holds (lives : List (SessionId × Life)) (one : Happened) : Type 0 where
  pub before : Walk
  pub behind : Walk
  pub holds : happened_holds lives before behind one ≡ true

abbrev behind_one : Base → Walk → Happened → Walk
behind_one base walk one = after base (entered walk (item_of 0 one)) (item_of 0 one) (deed_of base (entered walk (item_of 0 one)) (item_of 0 one))

last_holds : (base : Base) (lives : List (SessionId × Life)) (walk : Walk) (history : List Happened) (one : Happened) → told_from base lives walk (history ++ one ∷ []) ≡ true → Holds (fold lives_after lives history) one
last_holds base lives walk [] one right =
    record { before = entered walk (item_of 0 one); behind = behind_one base walk one; holds = (both (happened_holds lives (entered walk (item_of 0 one)) (behind_one base walk one) one) true right).0 }
last_holds base lives walk (first ∷ history) one right =
    let rest = (both (happened_holds lives (entered walk (item_of 0 first)) (behind_one base walk first) first) (told_from base (lives_after lives first) (behind_one base walk first) (history ++ one ∷ [])) right).1 in
    last_holds base (lives_after lives first) (behind_one base walk first) history one rest

-- ITS ANSWER --------------------------------------------------------------------------------------

lived_of : (history : List Happened) (link : Link) (living : Bool) (session : SessionId) (life : Life) → living ≡ true → link.session ≡ Some session → HasLived history (if living then Some link.session else None) life → life_by history session ≡ life
lived_of history link false session life lives named has = absurd (let nothing : ⊥ = cc in nothing)
lived_of history link true session life lives named has = subst (λ (known : Option SessionId). HasLived history (Some known) life) named has

next_later : (server : Server) → server.is_up ≡ true → IsLater server (next_session server)
next_later server up = inr (up, (refl, omega arith))

module _ (exact : AreExact) (seen new : Seen) (t : Traced) (number : ℕ) (front : Front) (reply : Option Down) (coupled : Coupled seen t) (there : front_at t.machine.links number ≡ Some front) (is_up : t.machine.server.is_up ≡ true) (now : living_now t ≡ true)
    (entries_known : known_so_far t ≡ true) (order : must_refuse (life_of front.link.served) front.first.frame ≡ false) (unserved : front.link.session ≡ None → front.link.served ≡ []) (history : IsHistory new)
    (did : ServedWith seen number t.machine.tick front.first.frame reply new) where
  abbrev frame : Up
  frame = front.first.frame

  abbrev session : SessionId
  session = did.session

  abbrev one : Happened
  one = Served session t.machine.tick frame (telling_of reply)

  is_on : seen.state.is_up ≡ true
  is_on = sym coupled.server.is_up ∙ is_up

  known : Which t.machine.server front.link.session session new.state.sessions
  known =
      let at = front_there t.machine.links number front there in
      let living : seen.state.living number ≡ Some front.link.session = coupled.living number ∙ ap living_of at.0 ∙ ap (λ (b : Bool). if b then Some front.link.session else None) at.1 in
      which t.machine.server seen front.link.session session number new.state.sessions coupled.server is_on living did.of_connection

  life_now : life_by seen.history session ≡ life_of front.link.served
  life_now = by known
    where
      by : Which t.machine.server front.link.session session new.state.sessions → life_by seen.history session ≡ life_of front.link.served
      by (inl (named, same)) =
          let at = front_there t.machine.links number front there in
          lived_of seen.history front.link front.link.is_living session (life_of front.link.served) at.1 named (coupled.lives number front.link at.0)
      by (inr (unnamed, (next, more))) = coupled.later session (subst (IsLater t.machine.server) (sym next) (next_later t.machine.server is_up)) ∙ sym (ap life_of (unserved unnamed))

  sound : IsSound new.start
  sound = subst IsSound (sym did.keeps.start) coupled.sound

  stops : stops_last new.history ≡ true
  stops =
      ap stops_last did.history
      ∙ stops_behind seen (one ∷ []) coupled.sound coupled.history is_on coupled.stops (answered_last session t.machine.tick frame reply) (session_from seen t number front session new.state.sessions coupled is_on now there did.of_connection, tt)

  right : told_from new.start [] (walk_of new.start history.server.core.entries) (seen.history ++ one ∷ []) ≡ true
  right = ap (λ (h : List Happened). told_from new.start [] (walk_of new.start history.server.core.entries) h) (sym did.history) ∙ runs_told new.start new.history history.server sound history.runs stops

  kind : Kind frame reply
  kind =
      let last = last_holds new.start [] (walk_of new.start history.server.core.entries) seen.history one right in
      kind_of (life_by seen.history session) last.before last.behind session frame reply seen.state.store (ap (λ (l : Life). must_refuse l frame) life_now ∙ order) last.holds did.outcome

  counted : entries_in new.state.store.entries session ≡ front.link.commits + cond (commits_in reply) 1 0
  counted =
      let at = front_there t.machine.links number front there in
      counted_behind exact seen t number front.link session new.state.sessions coupled at.0 at.1 entries_known new t.machine.tick frame reply known did refl (kind_added frame reply seen.state.store new.state.store kind did.stored)

  stored_is : all_entries history.server.core ≡ new.state.store.entries
  stored_is = ap (λ (b : Base). b.entries ++ history.server.core.entries) (runs_keep_base new.start new.history history.server history.runs) ∙ sym history.entries

  named : (told : Down) (x : Ltxid) → reply ≡ Some told → identifier_in told ≡ Some x → x ≡ identifier session (front.link.commits + cond (commits_in reply) 1 0)
  named told x is carries =
      let runs : Runs new.start (seen.history ++ Served session t.machine.tick frame (Says told) ∷ []) history.server =
      subst (λ (r : Option Down). Runs new.start (seen.history ++ Served session t.machine.tick frame (telling_of r) ∷ []) history.server) is (subst (λ (h : List Happened). Runs new.start h history.server) did.history history.runs) in
      tells_next new.start seen.history history.server sound session t.machine.tick frame told x runs carries
      ∙ ap (λ (entries : List Entry). next_ltxid (map committed_of entries) session.incarnation session.session) stored_is
      ∙ ap (identifier session) (entries_counted new.state.store.entries session ∙ counted)

  pub answers_so : Answers session front.link.commits frame reply
  answers_so = answers_of session front.link.commits frame reply kind named

  -- its session is where the frames of its connection led it
  pub lived_so : life_by seen.history session ≡ life_of front.link.served
  lived_so = life_now

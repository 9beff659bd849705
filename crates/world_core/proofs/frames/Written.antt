-- What a frame that is answered in order is written down as.
use Rattle.std.proofs.Common.{◌≡◌, ℕ, ◌+◌, ◌==◌, Bool, true, false, List, [], ◌∷◌, Option, Some, None, refl, sym, ap, ◌∙◌, arith, eq-eqb, inl, inr}
use Rattle.std.specs.Prelude.{◌⊎◌, ◌&&◌, cond, is_none, nat_eq, if◌then◌else◌}
use Rattle.std.specs.Option.{option_map_or}
use Rattle.std.specs.Cmp.Lexicographic.{pointwise}
use Rattle.svc_values.specs.declared.value.Value.{Value}
use Rattle.svc_values.specs.declared.entry.Ltxid.{Ltxid}
use Rattle.svc_values.specs.declared.entry.SessionId.{SessionId}
use Rattle.svc_values.specs.declared.frame.Up.{Up}
use Rattle.svc_values.specs.declared.frame.Up.TheVariants as up
use Rattle.svc_values.specs.declared.frame.Down.{Down}
use Rattle.svc_values.specs.meaning.Identifiers.{same_session}
use Rattle.svc_values.specs.Laws.{AreExact}
use Rattle.svc_values.specs.meaning.Same.{same_bool, same_value, same_call}
use Rattle.svc_values.specs.meaning.SettingsList.{same_settings}
use Rattle.outage_schedule.specs.declared.item.Item.{Item}
use Rattle.outage_schedule.specs.declared.item.Item.TheVariants as item
use Rattle.outage_schedule.specs.declared.note.AskResult.{AskResult}
use Rattle.outage_schedule.specs.declared.note.AskResult.TheVariants as told
use Rattle.server_model.specs.meaning.Outcomes.{telling_of}
use Rattle.server_model.specs.Sessions.{Life}
use Rattle.server_model.specs.ToldRight.{life_after, life_behind}
use Rattle.server_model.specs.Seen.{Connections, with_connection, without_connection}
use Rattle.server_model.specs.ServiceCalls.{living_after, is_up_after}
use Rattle.world_model.specs.records.Hold.{is_connect}
use Rattle.world_model.specs.meaning.Links.{Link}
use Rattle.world_model.specs.meaning.Machines.{Server, next_session}
use Rattle.world_model.specs.meaning.Noting.{name_of, same_name}
use Rattle.world_model.specs.meaning.ServiceDid.{item_telling}
use Rattle.world_model.specs.meaning.Serving.{is_item_of, is_served_by, reply_of, is_commit, is_last, server_after}
use Rattle.world_core.specs.Answering.{session_served, served_item}
use Rattle.world_core.proofs.frames.InOrder.{Answers, Connects, Begins, Replies, Blocks, Tells, Ends, Closes, commits_in}

-- THE ITEM ----------------------------------------------------------------------------------------

number_self : (n : ℕ) → (n == n) ≡ true
number_self n = eq-eqb n n refl

both_true : (a b : Bool) → a ≡ true → b ≡ true → (a && b) ≡ true
both_true a b p q = rw (p, q) refl

each_self : {A : Type 0} (same : A → A → Bool) → ((x : A) → same x x ≡ true) → (xs : List A) → pointwise same xs xs ≡ true
each_self same self [] = refl
each_self same self (x ∷ xs) = both_true (same x x) (pointwise same xs xs) (self x) (each_self same self xs)

abbrev same_setting : List ℕ × Value → List ℕ × Value → Bool
same_setting a b = pointwise nat_eq a.0 b.0 && same_value a.1 b.1

settings_same : AreExact → (settings : List (List ℕ × Value)) → same_settings settings settings ≡ true
settings_same exact settings =
    each_self same_setting (λ one. both_true (pointwise nat_eq one.0 one.0) (same_value one.1 one.1) (each_self nat_eq number_self one.0) ((exact.values one.1 one.1).1 refl)) settings

pub bools_same : (b : Bool) → same_bool b b ≡ true
bools_same true = refl
bools_same false = refl

pub names_same : (frame : Up) → same_name (name_of frame) (name_of frame) ≡ true
names_same up.Connect = refl
names_same (up.Begin settings) = refl
names_same (up.Call replay kept call) = refl
names_same (up.Outcome x) = refl
names_same up.End = refl
names_same up.Close = refl

no_more : (n : ℕ) → n + 0 ≡ n
no_more n = omega arith

-- the commits behind the item
abbrev pub behind : ℕ → Item → ℕ
behind commits one = commits + cond (is_commit one) 1 0

-- what the machine reads off the item of a frame
pub record ReadOff (session : SessionId) (number commits : ℕ) (frame : Up) (reply : Option Down) (one : Item) : Type 0 where
  pub is_item : is_item_of frame one ≡ true
  pub replies : reply_of session (behind commits one) one ≡ reply
  pub tells : item_telling session (behind commits one) one ≡ telling_of reply
  pub commits_so : is_commit one ≡ commits_in reply
  pub living : (living : Connections) → living_after frame (telling_of reply) number session living ≡ (if is_last one then without_connection number living else with_connection number (Some session) living)
  pub is_up : is_up_after (telling_of reply) ≡ true
  pub goes_on : (life : Life) → is_last one ≡ false → life_after frame (telling_of reply) life ≡ life_behind frame life

outcome_reads : AreExact → (session : SessionId) (number commits : ℕ) (x : Ltxid) (result : AskResult) → ReadOff session number commits (up.Outcome x) (reply_of session 0 (item.Outcome x result)) (served_item (up.Outcome x) (reply_of session 0 (item.Outcome x result)))
outcome_reads exact session number commits x (told.Committed completed) = record { is_item = (exact.identifiers x x).1 refl; replies = refl; tells = refl; commits_so = refl; living = λ living. refl; is_up = refl; goes_on = λ life on. refl }
outcome_reads exact session number commits x told.Uncommitted = record { is_item = (exact.identifiers x x).1 refl; replies = refl; tells = refl; commits_so = refl; living = λ living. refl; is_up = refl; goes_on = λ life on. refl }
outcome_reads exact session number commits x (told.ServerAhead next) = record { is_item = (exact.identifiers x x).1 refl; replies = refl; tells = refl; commits_so = refl; living = λ living. refl; is_up = refl; goes_on = λ life on. refl }
outcome_reads exact session number commits x (told.ClientAhead next) = record { is_item = (exact.identifiers x x).1 refl; replies = refl; tells = refl; commits_so = refl; living = λ living. refl; is_up = refl; goes_on = λ life on. refl }
outcome_reads exact session number commits x (told.Forgotten horizon) = record { is_item = (exact.identifiers x x).1 refl; replies = refl; tells = refl; commits_so = refl; living = λ living. refl; is_up = refl; goes_on = λ life on. refl }

pub reads : AreExact → (session : SessionId) (number commits : ℕ) (frame : Up) (reply : Option Down) → Answers session commits frame reply → ReadOff session number commits frame reply (served_item frame reply)
reads exact session number commits _ _ Connects = record { is_item = refl; replies = ap (λ n. reply_of session n item.Connect) (no_more commits); tells = ap (λ n. telling_of (reply_of session n item.Connect)) (no_more commits); commits_so = refl; living = λ living. refl; is_up = refl; goes_on = λ life on. refl }
reads exact session number commits _ _ (Begins settings) = record { is_item = settings_same exact settings; replies = refl; tells = refl; commits_so = refl; living = λ living. refl; is_up = refl; goes_on = λ life on. refl }
reads exact session number commits _ _ (Replies replay kept call answers draws) =
    record { is_item = both_true (same_bool replay replay) (same_call call call) (bools_same replay) ((exact.calls call call).1 refl); replies = refl; tells = refl; commits_so = refl; living = λ living. refl; is_up = refl; goes_on = λ life on. refl }
reads exact session number commits _ _ (Blocks replay kept call) = record { is_item = (exact.calls call call).1 refl; replies = refl; tells = refl; commits_so = refl; living = λ living. refl; is_up = refl; goes_on = λ life on. absurd (let nothing : ⊥ = cc in nothing) }
reads exact session number commits _ _ (Tells x result) = outcome_reads exact session number commits x result
reads exact session number commits _ _ Ends = record { is_item = refl; replies = refl; tells = refl; commits_so = refl; living = λ living. refl; is_up = refl; goes_on = λ life on. refl }
reads exact session number commits _ _ Closes = record { is_item = refl; replies = refl; tells = refl; commits_so = refl; living = λ living. refl; is_up = refl; goes_on = λ life on. refl }

-- THE SESSION -------------------------------------------------------------------------------------

-- the session of the connection, or the next one, and how many there are then
abbrev pub Which : Server → Option SessionId → SessionId → ℕ → Type 0
Which server known session sessions = ((known ≡ Some session) × (sessions ≡ server.sessions)) ⊎ ((known ≡ None) × ((session ≡ next_session server) × (sessions ≡ server.sessions + 1)))

pub record ServedBy (server : Server) (link : Link) (frame : Up) (reply : Option Down) (session : SessionId) (sessions : ℕ) : Type 0 where
  pub is_served : is_served_by server link frame session ≡ true
  pub session_is : session_served link.session reply ≡ session
  pub sessions_are : (server_after server (served_item frame reply)).sessions ≡ sessions

first_named : {A : Type 0} (known : Option SessionId) (session : SessionId) → known ≡ Some session → is_none known ≡ true → A
first_named known session named none = absurd (let same : false ≡ true = sym (ap (λ (k : Option SessionId). is_none k) named) ∙ none in let nothing : ⊥ = cc in nothing)

pub later_unnamed : {A : Type 0} (known : Option SessionId) → known ≡ None → is_none known ≡ false → A
later_unnamed known none some = absurd (let same : true ≡ false = sym (ap (λ (k : Option SessionId). is_none k) none) ∙ some in let nothing : ⊥ = cc in nothing)

first_by : AreExact → (server : Server) (link : Link) (commits : ℕ) (session : SessionId) (sessions : ℕ) → Which server link.session session sessions → is_none link.session ≡ true
    → ServedBy server link up.Connect (reply_of session commits item.Connect) session sessions
first_by exact server link commits session sessions (inl (named, same)) none = first_named link.session session named none
first_by exact server link commits session sessions (inr (unnamed, (next, more))) none = record { is_served = (exact.sessions session (next_session server)).1 next; session_is = rw unnamed refl; sessions_are = sym more }

pub named_session : (known : Option SessionId) (session : SessionId) (reply : Option Down) → known ≡ Some session → session_served known reply ≡ session
named_session known session reply named = rw named refl

pub same_named : AreExact → (known : Option SessionId) (session : SessionId) → known ≡ Some session → option_map_or (same_session session) known false ≡ true
same_named exact known session named = rw named ((exact.sessions session session).1 refl)

-- a frame of a session that has its name
later_by : AreExact → (server : Server) (link : Link) (frame : Up) (reply : Option Down) (session : SessionId) (sessions : ℕ) → Which server link.session session sessions → is_none link.session ≡ false
    → is_served_by server link frame session ≡ option_map_or (same_session session) link.session false → (server_after server (served_item frame reply)).sessions ≡ server.sessions
    → ServedBy server link frame reply session sessions
later_by exact server link frame reply session sessions (inl (named, same)) some by kept =
    record { is_served = by ∙ same_named exact link.session session named; session_is = named_session link.session session reply named; sessions_are = kept ∙ sym same }
later_by exact server link frame reply session sessions (inr (unnamed, next)) some by kept = later_unnamed link.session unnamed some

outcome_sessions : (server : Server) (session : SessionId) (x : Ltxid) (result : AskResult) → (server_after server (served_item (up.Outcome x) (reply_of session 0 (item.Outcome x result)))).sessions ≡ server.sessions
outcome_sessions server session x (told.Committed completed) = refl
outcome_sessions server session x told.Uncommitted = refl
outcome_sessions server session x (told.ServerAhead next) = refl
outcome_sessions server session x (told.ClientAhead next) = refl
outcome_sessions server session x (told.Forgotten horizon) = refl

pub served_by : AreExact → (server : Server) (link : Link) (commits : ℕ) (session : SessionId) (frame : Up) (reply : Option Down) → Answers session commits frame reply → (sessions : ℕ) → Which server link.session session sessions
    → is_none link.session ≡ is_connect frame → ServedBy server link frame reply session sessions
served_by exact server link commits session _ _ Connects sessions which first = first_by exact server link commits session sessions which first
served_by exact server link commits session _ _ (Begins settings) sessions which first = later_by exact server link (up.Begin settings) _ session sessions which first refl refl
served_by exact server link commits session _ _ (Replies replay kept call answers draws) sessions which first = later_by exact server link (up.Call replay kept call) _ session sessions which first refl refl
served_by exact server link commits session _ _ (Blocks replay kept call) sessions which first = later_by exact server link (up.Call replay kept call) _ session sessions which first refl refl
served_by exact server link commits session _ _ (Tells x result) sessions which first = later_by exact server link (up.Outcome x) _ session sessions which first refl (outcome_sessions server session x result)
served_by exact server link commits session _ _ Ends sessions which first = later_by exact server link up.End _ session sessions which first refl refl
served_by exact server link commits session _ _ Closes sessions which first = later_by exact server link up.Close _ session sessions which first refl refl

-- WHAT A FRAME LEAVES OF THE SERVER ---------------------------------------------------------------

pub record StaysUp (old new : Server) : Type 0 where
  pub is_up : new.is_up ≡ old.is_up
  pub incarnation : new.incarnation ≡ old.incarnation
  pub stopped : new.stopped ≡ old.stopped
  pub per_record : new.per_record ≡ old.per_record

pub stays_up : (server : Server) (one : Item) → StaysUp server (server_after server one)
stays_up server item.Connect = record { is_up = refl; incarnation = refl; stopped = refl; per_record = refl }
stays_up server (item.Outcome x (told.Committed completed)) = record { is_up = refl; incarnation = refl; stopped = refl; per_record = refl }
stays_up server (item.Outcome x told.Uncommitted) = record { is_up = refl; incarnation = refl; stopped = refl; per_record = refl }
stays_up server (item.Outcome x (told.ServerAhead next)) = record { is_up = refl; incarnation = refl; stopped = refl; per_record = refl }
stays_up server (item.Outcome x (told.ClientAhead next)) = record { is_up = refl; incarnation = refl; stopped = refl; per_record = refl }
stays_up server (item.Outcome x (told.Forgotten horizon)) = record { is_up = refl; incarnation = refl; stopped = refl; per_record = refl }
stays_up server (item.Begin settings) = record { is_up = refl; incarnation = refl; stopped = refl; per_record = refl }
stays_up server (item.Call replay call answers draws) = record { is_up = refl; incarnation = refl; stopped = refl; per_record = refl }
stays_up server (item.Blocked call) = record { is_up = refl; incarnation = refl; stopped = refl; per_record = refl }
stays_up server item.End = record { is_up = refl; incarnation = refl; stopped = refl; per_record = refl }
stays_up server item.Close = record { is_up = refl; incarnation = refl; stopped = refl; per_record = refl }
stays_up server (item.Refused cause) = record { is_up = refl; incarnation = refl; stopped = refl; per_record = refl }
stays_up server (item.CrashedCall replay call) = record { is_up = refl; incarnation = refl; stopped = refl; per_record = refl }
stays_up server (item.CrashedOutcome x) = record { is_up = refl; incarnation = refl; stopped = refl; per_record = refl }

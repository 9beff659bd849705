-- A test over the steps of all requests, by clients; and where one client goes on.
use Rattle.std.proofs.Common.{◌≡◌, ◌≢◌, refl, sym, ap, ◌∙◌, Bool, true, false, ℕ, suc, zero, ◌+◌, ◌&&◌, List, [], ◌∷◌, ◌++◌, map, Option, Some, None}
use Rattle.std.specs.Prelude.{slice_get, slice_set}
use Rattle.std.specs.List.{list_all}
use Rattle.std.specs.Option.{option_map_or}
use Rattle.std.proofs.lemmas.Bool.{and_parts, and_from}
use Rattle.std.proofs.lemmas.List.Folds.{list_all-append}
use Rattle.client_model.specs.declared.act.Hold.{Hold}
use Rattle.client_model.specs.declared.act.Hold.TheVariants as hold
use Rattle.outage_schedule.specs.declared.document.Request.{Request}
use Rattle.world_model.specs.meaning.Settings.{Setting}
use Rattle.world_model.specs.meaning.Clients.{Step, Doing, Past, Client, client_at, with_client, after_hold, after_step, past_of, resting}
use Rattle.world_model.specs.Traced.{Course, courses_from, courses_of_clients}
use Rattle.world_model.proofs.events.AllLists.{set_all, at_all, append_all, one_all}

abbrev pub now_passes : (Doing → Bool) → Option Doing → Bool
now_passes test now = option_map_or test now true

-- each request that is over passes the one test, and the one in course the other
abbrev pub client_passes : (Past → Bool) → (Doing → Bool) → Client → Bool
client_passes over going client = list_all over client.past && now_passes going client.now

-- STEPS OF COURSES --------------------------------------------------------------------------------

abbrev pub past_steps : (List Step → Bool) → Past → Bool
past_steps test past = test past.steps

abbrev pub doing_steps : (List Step → Bool) → Doing → Bool
doing_steps test doing = test doing.steps

abbrev pub course_steps : (List Step → Bool) → Course → Bool
course_steps test course = test course.steps

courses_pass : (test : List Step → Bool) (setting : Setting) (client place : ℕ) (past : List Past) (now : Option Doing)
    → list_all (course_steps test) (courses_from setting client place past now) ≡ (list_all (past_steps test) past && now_passes (doing_steps test) now)
courses_pass test setting client place [] None = refl
courses_pass test setting client place [] (Some doing) = by (test doing.steps)
  where
    by : (b : Bool) → (b && true) ≡ b
    by true = refl
    by false = refl
courses_pass test setting client place (one ∷ past) now =
    ap (λ b. test one.steps && b) (courses_pass test setting client (place + 1) past now) ∙ sym (and_assoc (test one.steps) (list_all (past_steps test) past) (now_passes (doing_steps test) now))
  where
    and_assoc : (a b c : Bool) → ((a && b) && c) ≡ (a && (b && c))
    and_assoc true b c = refl
    and_assoc false b c = refl

pub all_courses : (test : List Step → Bool) (setting : Setting) (number : ℕ) (clients : List Client)
    → list_all (course_steps test) (courses_of_clients setting number clients) ≡ list_all (client_passes (past_steps test) (doing_steps test)) clients
all_courses test setting number [] = refl
all_courses test setting number (client ∷ clients) =
    list_all-append (course_steps test) (courses_from setting number 0 client.past client.now) (courses_of_clients setting (number + 1) clients)
    ∙ (ap (λ b. b && list_all (course_steps test) (courses_of_clients setting (number + 1) clients)) (courses_pass test setting number 0 client.past client.now)
    ∙ ap (λ b. client_passes (past_steps test) (doing_steps test) client && b) (all_courses test setting (number + 1) clients))

-- A CLIENT GOES ON --------------------------------------------------------------------------------

pub at_client : (test : Client → Bool) (clients : List Client) (number : ℕ) (client : Client) → list_all test clients ≡ true → client_at clients number ≡ Some client → test client ≡ true
at_client test clients zero client all e = absurd (let never : ⊥ = cc in never)
at_client test clients (suc index) client all e = at_all test clients index client all e

pub with_client_all : (test : Client → Bool) (clients : List Client) (number : ℕ) (client : Client) → list_all test clients ≡ true → test client ≡ true → list_all test (with_client clients number client) ≡ true
with_client_all test clients zero client all here = all
with_client_all test clients (suc index) client all here = set_all test clients index client all here

-- the request goes on, or is over
pub held_passes : (over : Past → Bool) (going : Doing → Bool) (setting : Setting) (number : ℕ) (client : Client) (doing : Doing) (held : Hold) → client_passes over going client ≡ true → going doing ≡ true
    → over (past_of setting.terms doing) ≡ true → client_passes over going (after_hold setting number client doing held) ≡ true
held_passes over going setting number client doing held here now past = by held
  where
    old : list_all over client.past ≡ true
    old = (and_parts (list_all over client.past) (now_passes going client.now) here).0

    rests : (list_all over (client.past ++ past_of setting.terms doing ∷ []) && true) ≡ true
    rests = and_from (list_all over (client.past ++ past_of setting.terms doing ∷ [])) true (append_all over client.past (past_of setting.terms doing ∷ []) old (one_all over (past_of setting.terms doing) past)) refl

    by : (held : Hold) → client_passes over going (after_hold setting number client doing held) ≡ true
    by hold.Keep = and_from (list_all over client.past) (going doing) old now
    by hold.GiveBack = rests
    by hold.Drop = rests

found_passes : (over : Past → Bool) (going : Doing → Bool) (setting : Setting) (clients : List Client) (number : ℕ) (doing : Doing) (held : Hold) (found : Option Client) → client_at clients number ≡ found
    → list_all (client_passes over going) clients ≡ true → going doing ≡ true → over (past_of setting.terms doing) ≡ true
    → list_all (client_passes over going) (option_map_or (λ client. with_client clients number (after_hold setting number client doing held)) found clients) ≡ true
found_passes over going setting clients number doing held None is all now past = all
found_passes over going setting clients number doing held (Some client) is all now past =
    with_client_all (client_passes over going) clients number (after_hold setting number client doing held) all
    (held_passes over going setting number client doing held (at_client (client_passes over going) clients number client all is) now past)

pub step_passes : (over : Past → Bool) (going : Doing → Bool) (setting : Setting) (clients : List Client) (number : ℕ) (doing : Doing) (held : Hold) → list_all (client_passes over going) clients ≡ true
    → going doing ≡ true → over (past_of setting.terms doing) ≡ true → list_all (client_passes over going) (after_step setting clients number doing held) ≡ true
step_passes over going setting clients number doing held all now past = found_passes over going setting clients number doing held (client_at clients number) refl all now past

-- the one in course
pub doing_passes : (over : Past → Bool) (going : Doing → Bool) (clients : List Client) (number : ℕ) (client : Client) → list_all (client_passes over going) clients ≡ true → client_at clients number ≡ Some client
    → now_passes going client.now ≡ true
doing_passes over going clients number client all is =
    (and_parts (list_all over client.past) (now_passes going client.now) (at_client (client_passes over going) clients number client all is)).1

-- BY NUMBER ---------------------------------------------------------------------------------------

pub stepped_client : (setting : Setting) (clients : List Client) (number : ℕ) (client : Client) (doing : Doing) (held : Hold) → client_at clients number ≡ Some client
    → after_step setting clients number doing held ≡ with_client clients number (after_hold setting number client doing held)
stepped_client setting clients number client doing held here = ap (λ (found : Option Client). option_map_or (λ one. with_client clients number (after_hold setting number one doing held)) found clients) here

set_own : (clients : List Client) (index : ℕ) (client next : Client) → slice_get clients index ≡ Some client → slice_get (slice_set clients index next) index ≡ Some next
set_own [] index client next here = absurd (let never : ⊥ = cc in never)
set_own (first ∷ clients) zero client next here = refl
set_own (first ∷ clients) (suc index) client next here = set_own clients index client next here

pub client_set : (clients : List Client) (number : ℕ) (client next : Client) → client_at clients number ≡ Some client → client_at (with_client clients number next) number ≡ Some next
client_set clients zero client next here = absurd (let never : ⊥ = cc in never)
client_set clients (suc index) client next here = set_own clients index client next here

set_others : (clients : List Client) (index other : ℕ) (next : Client) → other ≢ index → slice_get (slice_set clients index next) other ≡ slice_get clients other
set_others [] index other next differ = refl
set_others (first ∷ clients) zero zero next differ = absurd (differ refl)
set_others (first ∷ clients) zero (suc other) next differ = refl
set_others (first ∷ clients) (suc index) zero next differ = refl
set_others (first ∷ clients) (suc index) (suc other) next differ = set_others clients index other next (λ e. differ (ap suc e))

pub client_others : (clients : List Client) (number other : ℕ) (next : Client) → other ≢ number → client_at (with_client clients number next) other ≡ client_at clients other
client_others clients zero other next differ = refl
client_others clients (suc index) zero next differ = refl
client_others clients (suc index) (suc other) next differ = set_others clients index other next (λ e. differ (ap suc e))

set_again : (clients : List Client) (index : ℕ) (one other : Client) → slice_set (slice_set clients index one) index other ≡ slice_set clients index other
set_again [] index one other = refl
set_again (first ∷ clients) zero one other = refl
set_again (first ∷ clients) (suc index) one other = ap (λ rest. first ∷ rest) (set_again clients index one other)

pub client_twice : (clients : List Client) (number : ℕ) (one other : Client) → with_client (with_client clients number one) number other ≡ with_client clients number other
client_twice clients zero one other = refl
client_twice clients (suc index) one other = set_again clients index one other

-- THE START ---------------------------------------------------------------------------------------

pub none_yet : {A : Type 0} (over : Past → Bool) (going : Doing → Bool) (script : A → List Request) (all : List A) → list_all (client_passes over going) (map (λ one. resting (script one) []) all) ≡ true
none_yet over going script [] = refl
none_yet over going script (one ∷ all) = none_yet over going script all

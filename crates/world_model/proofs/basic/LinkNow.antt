-- A session that lives is of this incarnation; while the server is down nothing is open and none
-- lives.
use Rattle.std.proofs.Common.{◌≡◌, refl, ap, ◌∙◌, Bool, true, false, ℕ, ◌&&◌, ◌||◌, List, map, Option, Some, None}
use Rattle.std.specs.Prelude.{◌==◌, not}
use Rattle.std.specs.List.{list_all}
use Rattle.std.specs.Option.{option_map_or}
use Rattle.std.proofs.lemmas.Bool.{and_parts, or_left, or_right}
use Rattle.svc_values.specs.declared.entry.SessionId.{SessionId}
use Rattle.svc_values.specs.declared.frame.Up.{Up}
use Rattle.svc_values.specs.declared.frame.Up.TheVariants as up
use Rattle.svc_values.specs.declared.frame.Down.{Down}
use Rattle.svc_values.specs.meaning.Identifiers.{same_session}
use Rattle.outage_schedule.specs.declared.item.Served.{Served}
use Rattle.world_model.specs.meaning.Links.{Link}
use Rattle.world_model.specs.meaning.Machines.{Server, Machine, next_session}
use Rattle.world_model.specs.meaning.Serving.{Front, is_of_front, is_served_by, is_item_of, is_last, after_front}
use Rattle.world_model.specs.meaning.Crashing.{fallen_link}
use Rattle.world_model.specs.Parts.{implies}
use Rattle.world_model.proofs.basic.NamesKept.{serving}
use Rattle.world_model.proofs.events.Tests.{eq_from, eq_to, same_session_is}
use Rattle.world_model.proofs.events.AllLists.{map_all, every_all, weaker_all}
use Rattle.world_model.proofs.basic.Ends.{sends_alike, handled_alike, cut_case, fallen_case}
use Rattle.world_model.proofs.basic.LinkLives.{no_test}
use Rattle.world_model.proofs.events.AllLinks.{Keeps}

-- NOW ---------------------------------------------------------------------------------------------

abbrev now_test : ℕ → Bool → Option SessionId → Bool
now_test incarnation living session = option_map_or (λ (one : SessionId). implies living (one.incarnation == incarnation)) session true

abbrev pub now_at : ℕ → Link → Bool
now_at incarnation link = now_test incarnation link.is_living link.session

dead_now : (incarnation : ℕ) (session : Option SessionId) → now_test incarnation false session ≡ true
dead_now incarnation None = refl
dead_now incarnation (Some one) = refl

by_other : (incarnation : ℕ) (living : Bool) (found : Option SessionId) (session : SessionId) → living ≡ true → option_map_or (same_session session) found false ≡ true → now_test incarnation living found ≡ true
    → session.incarnation ≡ incarnation
by_other incarnation living None session is same here = absurd (let none : ⊥ = cc in none)
by_other incarnation false (Some one) session is same here = absurd (let none : ⊥ = cc in none)
by_other incarnation true (Some one) session is same here = ap (λ (s : SessionId). s.incarnation) (same_session_is session one same) ∙ eq_from one.incarnation incarnation here

-- what is served now is of this incarnation
pub served_incarnation : (server : Server) (link : Link) (frame : Up) (session : SessionId) → link.is_living ≡ true → is_served_by server link frame session ≡ true → now_at server.incarnation link ≡ true
    → session.incarnation ≡ server.incarnation
served_incarnation server link up.Connect session living is here = ap (λ (s : SessionId). s.incarnation) (same_session_is session (next_session server) is)
served_incarnation server link frame session living is here = by_other server.incarnation link.is_living link.session session living is here

implied_now : (living : Bool) (a b : ℕ) → a ≡ b → implies living (a == b) ≡ true
implied_now true a b same = eq_to a b same
implied_now false a b same = refl

served_now : (m : Machine) (front : Front) (served : Served) (reply : Option Down) → front.link.is_living ≡ true → is_of_front m front served ≡ true → now_at m.server.incarnation front.link ≡ true
    → now_at m.server.incarnation (after_front front served reply) ≡ true
served_now m front served reply living is here =
    implied_now (not (is_last served.item)) served.session.incarnation m.server.incarnation (served_incarnation m.server front.link front.first.frame served.session living (serving m front served is) here)

pub now_keep : (m : Machine) → Keeps m no_test (now_at m.server.incarnation)
now_keep m = record {
  at_new = λ up. refl;
  at_sends = λ frames link here. sends_alike (λ one. now_at m.server.incarnation one ≡ true) m.event frames link here here;
  at_takes = λ reply left link old here down. here;
  at_serves = λ number front served at ordinary old here.
      let is : is_of_front m front served ≡ true = (and_parts (is_of_front m front served) (is_item_of front.first.frame served.item) ordinary).0 in
      handled_alike (λ one. now_at m.server.incarnation one ≡ true) m.event front served (λ reply. served_now m front served reply at.living is here) (λ reply. served_now m front served reply at.living is here);
  at_stops = λ number after front served at stopped old here. fallen_case (λ one. now_at m.server.incarnation one ≡ true) m.event (after_front front served None) (λ is. refl) (λ is. refl);
  at_cuts = λ up down link opens here. cut_case (λ one. now_at m.server.incarnation one ≡ true) m.event up down link opens here;
  at_reaps = λ link orphan here. dead_now m.server.incarnation link.session;
  at_falls = λ link here. fallen_case (λ one. now_at m.server.incarnation one ≡ true) m.event link (λ is. dead_now m.server.incarnation link.session) (λ is. dead_now m.server.incarnation link.session);
}

-- DOWN --------------------------------------------------------------------------------------------

abbrev pub is_down_link : Link → Bool
is_down_link link = not link.is_open && not link.is_living

abbrev pub up_or_down : Bool → Link → Bool
up_or_down is_up link = is_up || is_down_link link

shut_down : (up opens living : Bool) → (up || (not opens && not living)) ≡ true → (up || not living) ≡ true
shut_down true opens living here = refl
shut_down false true living here = absurd (let none : ⊥ = cc in none)
shut_down false false living here = here

living_up : (up opens living : Bool) → living ≡ true → (up || (not opens && not living)) ≡ true → up ≡ true
living_up true opens living is here = refl
living_up false true true is here = absurd (let none : ⊥ = cc in none)
living_up false false true is here = absurd (let none : ⊥ = cc in none)
living_up false opens false is here = absurd (let none : ⊥ = cc in none)

reaped_down : (up opens living : Bool) → (up || (not opens && not living)) ≡ true → (up || (not opens && true)) ≡ true
reaped_down true opens living here = refl
reaped_down false true living here = absurd (let none : ⊥ = cc in none)
reaped_down false false living here = refl

closed_down : (up opens : Bool) → opens ≡ false → (up || (not opens && true)) ≡ true
closed_down true opens is = refl
closed_down false true is = absurd (let none : ⊥ = cc in none)
closed_down false false is = refl

pub down_keep : (m : Machine) → Keeps m no_test (up_or_down m.server.is_up)
down_keep m = record {
  at_new = λ up. or_left m.server.is_up false up;
  at_sends = λ frames link here. sends_alike (λ one. up_or_down m.server.is_up one ≡ true) m.event frames link (shut_down m.server.is_up link.is_open link.is_living here) here;
  at_takes = λ reply left link old here down. here;
  at_serves = λ number front served at ordinary old here.
      let up : m.server.is_up ≡ true = living_up m.server.is_up front.link.is_open front.link.is_living at.living here in
      handled_alike (λ one. up_or_down m.server.is_up one ≡ true) m.event front served (λ reply. or_left m.server.is_up _ up) (λ reply. or_left m.server.is_up _ up);
  at_stops = λ number after front served at stopped old here.
      let up : m.server.is_up ≡ true = living_up m.server.is_up front.link.is_open front.link.is_living at.living here in
      fallen_case (λ one. up_or_down m.server.is_up one ≡ true) m.event (after_front front served None) (λ is. or_left m.server.is_up _ up) (λ is. or_left m.server.is_up _ up);
  at_cuts = λ up down link opens here. cut_case (λ one. up_or_down m.server.is_up one ≡ true) m.event up down link opens (shut_down m.server.is_up link.is_open link.is_living here);
  at_reaps = λ link orphan here. reaped_down m.server.is_up link.is_open link.is_living here;
  at_falls = λ link here. fallen_case (λ one. up_or_down m.server.is_up one ≡ true) m.event link (λ is. or_right m.server.is_up true refl) (λ is. closed_down m.server.is_up link.is_open is);
}

-- after a crash
pub all_fallen : (event : ℕ) (links : List Link) → list_all is_down_link (map (fallen_link event) links) ≡ true
all_fallen event links =
    map_all no_test is_down_link (fallen_link event) links (λ link here. fallen_case (λ one. is_down_link one ≡ true) event link (λ is. refl) (λ is. closed_down false link.is_open is)) (every_all no_test links (λ link. refl))

-- where it is down, none is of another incarnation
pub down_now : (incarnation : ℕ) (links : List Link) → list_all is_down_link links ≡ true → list_all (now_at incarnation) links ≡ true
down_now incarnation links down = weaker_all is_down_link (now_at incarnation) links (λ link here. by link.is_living link.session (and_parts (not link.is_open) (not link.is_living) here).1) down
  where
    by : (living : Bool) (session : Option SessionId) → not living ≡ true → now_test incarnation living session ≡ true
    by true session is = absurd (let none : ⊥ = cc in none)
    by false session is = dead_now incarnation session

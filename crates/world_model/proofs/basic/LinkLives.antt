-- Of each connection: it counts its commits, and nothing is served behind what ends its session.
use Rattle.std.proofs.Common.{◌≡◌, refl, ap, ◌∙◌, Bool, true, false, ◌&&◌, ◌||◌, List, [], ◌∷◌, ◌++◌, Option, None, count_by}
use Rattle.std.specs.Prelude.{◌==◌, not}
use Rattle.std.specs.List.{list_any}
use Rattle.std.proofs.lemmas.Bool.{and_parts, and_from, or_parts, not-true, not_from_false}
use Rattle.std.proofs.lemmas.List.Folds.{list_any-append}
use Rattle.svc_values.specs.declared.frame.Up.{Up}
use Rattle.svc_values.specs.declared.frame.Up.TheVariants as up
use Rattle.svc_values.specs.declared.frame.Down.{Down}
use Rattle.outage_schedule.specs.declared.item.Item.{Item}
use Rattle.outage_schedule.specs.declared.item.Item.TheVariants as item
use Rattle.outage_schedule.specs.declared.item.Served.{Served}
use Rattle.world_model.specs.meaning.Frames.{Handled}
use Rattle.world_model.specs.meaning.Links.{Link}
use Rattle.world_model.specs.meaning.Machines.{Machine}
use Rattle.world_model.specs.meaning.Serving.{Front, is_ordinary, is_of_front, is_item_of, is_commit, is_last, after_front}
use Rattle.world_model.specs.records.Basic.{is_stopped, ends_life, none_behind, lives_rightly}
use Rattle.world_model.specs.Parts.{implies}
use Rattle.world_model.proofs.events.Tests.{or_false, count_more}
use Rattle.world_model.proofs.basic.Ends.{sends_alike, handled_alike, cut_case, fallen_case}
use Rattle.world_model.proofs.events.AllLinks.{Keeps}

-- COMMITS -----------------------------------------------------------------------------------------

abbrev pub counts_commits : Link → Bool
counts_commits link = link.commits == count_by (λ one. is_commit one.served.item) link.served

served_counts : (front : Front) (served : Served) (reply : Option Down) → counts_commits front.link ≡ true → counts_commits (after_front front served reply) ≡ true
served_counts front served reply here = count_more (λ (one : Handled). is_commit one.served.item) front.link.served (record { sent = front.first; served = served; reply = reply }) front.link.commits here

abbrev pub no_test : Link → Bool
no_test link = true

pub commits_keep : (m : Machine) → Keeps m no_test counts_commits
commits_keep m = record {
  at_new = λ up. refl;
  at_sends = λ frames link here. sends_alike (λ one. counts_commits one ≡ true) m.event frames link here here;
  at_takes = λ reply left link old here down. here;
  at_serves = λ number front served at ordinary old here. handled_alike (λ one. counts_commits one ≡ true) m.event front served (λ reply. served_counts front served reply here) (λ reply. served_counts front served reply here);
  at_stops = λ number after front served at stopped old here.
      fallen_case (λ one. counts_commits one ≡ true) m.event (after_front front served None) (λ is. served_counts front served None here) (λ is. served_counts front served None here);
  at_cuts = λ up down link opens here. cut_case (λ one. counts_commits one ≡ true) m.event up down link opens here;
  at_reaps = λ link orphan here. here;
  at_falls = λ link here. fallen_case (λ one. counts_commits one ≡ true) m.event link (λ is. here) (λ is. here);
}

-- LIFE --------------------------------------------------------------------------------------------

-- an ordinary item is no stopped one
pub not_stopped : (frame : Up) (one : Item) → is_item_of frame one ≡ true → is_stopped one ≡ false
not_stopped up.Connect (item.CrashedCall marked call) e = absurd (let none : ⊥ = cc in none)
not_stopped (up.Begin settings) (item.CrashedCall marked call) e = absurd (let none : ⊥ = cc in none)
not_stopped (up.Call replay kept called) (item.CrashedCall marked call) e = absurd (let none : ⊥ = cc in none)
not_stopped (up.Outcome x) (item.CrashedCall marked call) e = absurd (let none : ⊥ = cc in none)
not_stopped up.End (item.CrashedCall marked call) e = absurd (let none : ⊥ = cc in none)
not_stopped up.Close (item.CrashedCall marked call) e = absurd (let none : ⊥ = cc in none)
not_stopped up.Connect (item.CrashedOutcome asked) e = absurd (let none : ⊥ = cc in none)
not_stopped (up.Begin settings) (item.CrashedOutcome asked) e = absurd (let none : ⊥ = cc in none)
not_stopped (up.Call replay kept called) (item.CrashedOutcome asked) e = absurd (let none : ⊥ = cc in none)
not_stopped (up.Outcome x) (item.CrashedOutcome asked) e = absurd (let none : ⊥ = cc in none)
not_stopped up.End (item.CrashedOutcome asked) e = absurd (let none : ⊥ = cc in none)
not_stopped up.Close (item.CrashedOutcome asked) e = absurd (let none : ⊥ = cc in none)
not_stopped frame one e = refl

none_more : (handled : List Handled) (one : Handled) → list_any ends_life handled ≡ false → none_behind (handled ++ one ∷ []) ≡ true
none_more [] one none = refl
none_more (first ∷ []) one none = and_from (not (ends_life first)) true (not_from_false (ends_life first) (or_parts (ends_life first) false none).0) refl
none_more (first ∷ second ∷ others) one none =
    let parts = or_parts (ends_life first) (list_any ends_life (second ∷ others)) none in
    and_from (not (ends_life first)) (none_behind ((second ∷ others) ++ one ∷ [])) (not_from_false (ends_life first) parts.0) (none_more (second ∷ others) one parts.1)

-- behind what ends a session nothing is served
pub none_later : (one : Handled) (others : List Handled) → none_behind (one ∷ others) ≡ true → ends_life one ≡ true → others ≡ []
none_later one [] lone ends = refl
none_later one (next ∷ others) lone ends =
    absurd (let never : not (ends_life one) ≡ true = (and_parts (not (ends_life one)) (none_behind (next ∷ others)) lone).0 in let none : ⊥ = cc in none)

pub lone_later : (one : Handled) (others : List Handled) → none_behind (one ∷ others) ≡ true → none_behind others ≡ true
lone_later one [] lone = refl
lone_later one (next ∷ others) lone = (and_parts (not (ends_life one)) (none_behind (next ∷ others)) lone).1

pub implied : (a b : Bool) → a ≡ true → implies a b ≡ true → b ≡ true
implied true b is e = e
implied false b is e = absurd (let none : ⊥ = cc in none)

-- a session that lives served none of these
pub served_none : (link : Link) → link.is_living ≡ true → lives_rightly link ≡ true → list_any ends_life link.served ≡ false
served_none link living here =
    not-true (list_any ends_life link.served)
    (implied link.is_living (not (list_any ends_life link.served)) living (and_parts (none_behind link.served) (implies link.is_living (not (list_any ends_life link.served))) here).1)

living_last : (last stopped any : Bool) → stopped ≡ false → any ≡ (last || stopped) → implies (not last) (not any) ≡ true
living_last true stopped any none is = refl
living_last false true any none is = absurd (let none : ⊥ = cc in none)
living_last false false true none is = absurd (let none : ⊥ = cc in none)
living_last false false false none is = refl

ordinary_item : (m : Machine) (front : Front) (served : Served) → is_ordinary m front served ≡ true → is_item_of front.first.frame served.item ≡ true
ordinary_item m front served ordinary = (and_parts (is_of_front m front served) (is_item_of front.first.frame served.item) ordinary).1

served_lives : (m : Machine) (front : Front) (served : Served) (reply : Option Down) → front.link.is_living ≡ true → is_ordinary m front served ≡ true → lives_rightly front.link ≡ true
    → lives_rightly (after_front front served reply) ≡ true
served_lives m front served reply living ordinary here =
    let one : Handled = record { sent = front.first; served = served; reply = reply } in
    let none : list_any ends_life front.link.served ≡ false = served_none front.link living here in
    let any : list_any ends_life (front.link.served ++ one ∷ []) ≡ (is_last served.item || is_stopped served.item) =
    list_any-append ends_life front.link.served (one ∷ []) ∙ (ap (λ b. b || (ends_life one || false)) none ∙ or_false (ends_life one)) in
    and_from (none_behind (front.link.served ++ one ∷ [])) (implies (not (is_last served.item)) (not (list_any ends_life (front.link.served ++ one ∷ [])))) (none_more front.link.served one none)
    (living_last (is_last served.item) (is_stopped served.item) (list_any ends_life (front.link.served ++ one ∷ [])) (not_stopped front.first.frame served.item (ordinary_item m front served ordinary)) any)

stopped_ends : (front : Front) (served : Served) → front.link.is_living ≡ true → lives_rightly front.link ≡ true
    → none_behind (front.link.served ++ record { sent = front.first; served = served; reply = None } ∷ []) ≡ true
stopped_ends front served living here = none_more front.link.served (record { sent = front.first; served = served; reply = None }) (served_none front.link living here)

fallen_lives : (link : Link) → lives_rightly link ≡ true → (none_behind link.served && true) ≡ true
fallen_lives link here = and_from (none_behind link.served) true (and_parts (none_behind link.served) (implies link.is_living (not (list_any ends_life link.served))) here).0 refl

pub life_keeps : (m : Machine) → Keeps m no_test lives_rightly
life_keeps m = record {
  at_new = λ up. refl;
  at_sends = λ frames link here. sends_alike (λ one. lives_rightly one ≡ true) m.event frames link here here;
  at_takes = λ reply left link old here down. here;
  at_serves = λ number front served at ordinary old here.
      handled_alike (λ one. lives_rightly one ≡ true) m.event front served (λ reply. served_lives m front served reply at.living ordinary here) (λ reply. served_lives m front served reply at.living ordinary here);
  at_stops = λ number after front served at stopped old here.
      fallen_case (λ one. lives_rightly one ≡ true) m.event (after_front front served None)
      (λ is. and_from (none_behind (after_front front served None).served) true (stopped_ends front served at.living here) refl)
      (λ is. and_from (none_behind (after_front front served None).served) true (stopped_ends front served at.living here) refl);
  at_cuts = λ up down link opens here. cut_case (λ one. lives_rightly one ≡ true) m.event up down link opens here;
  at_reaps = λ link orphan here. fallen_lives link here;
  at_falls = λ link here. fallen_case (λ one. lives_rightly one ≡ true) m.event link (λ is. fallen_lives link here) (λ is. fallen_lives link here);
}

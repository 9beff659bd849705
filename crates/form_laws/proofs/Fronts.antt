-- What may still be served on a connection was sent on it: a test that holds of all that was sent
-- holds of it.
use Rattle.std.proofs.Common.{◌≡◌, Bool, true, List, [], ◌∷◌, ◌++◌, refl, sym, ap, ◌∙◌}
use Rattle.std.specs.List.{list_all}
use Rattle.std.proofs.lemmas.Bool.{and_parts}
use Rattle.std.proofs.lemmas.List.Folds.{list_all-append}
use Rattle.world_model.specs.meaning.Frames.{Sent, whole_front, up_size}
use Rattle.world_model.specs.meaning.Links.{Link}
use Rattle.world_model.specs.meaning.Machines.{Machine}
use Rattle.world_model.specs.Parts.{implies}
use Rattle.world_model.proofs.Offered.{Begins, Keeps, append_all, cut_case, fallen_case, handled_alike, implied_by, implies_more, met, sends_alike, whole_begins}

module _ (test : Sent → Bool) where
  -- where all that was sent passes, so does what may be served
  abbrev pub front_passes : Link → Bool
  front_passes link = implies (list_all test link.sent) (list_all test link.up)

  fewer : (front all : List Sent) → Begins front all → list_all test all ≡ true → list_all test front ≡ true
  fewer front all begins passes = (and_parts (list_all test front) (list_all test begins.rest) (sym (list_all-append test front begins.rest) ∙ ap (list_all test) begins.whole ∙ passes)).0

  sent_on : (link : Link) (frames : List Sent) → front_passes link ≡ true → implies (list_all test (link.sent ++ frames)) (list_all test (link.up ++ frames)) ≡ true
  sent_on link frames here = implied_by (list_all test (link.sent ++ frames)) (list_all test (link.up ++ frames)) (λ all.
      let parts = and_parts (list_all test link.sent) (list_all test frames) (sym (list_all-append test link.sent frames) ∙ all) in
      append_all test link.up frames (met (list_all test link.sent) (list_all test link.up) here parts.0) parts.1)

  none_left : (sent : List Sent) → implies (list_all test sent) (list_all test []) ≡ true
  none_left sent = implied_by (list_all test sent) true (λ all. refl)

  later : (front : Sent) (rest up : List Sent) → up ≡ front ∷ rest → list_all test up ≡ true → list_all test rest ≡ true
  later front rest up is all = (and_parts (test front) (list_all test rest) (ap (list_all test) (sym is) ∙ all)).1

  pub fronts_keep : (m : Machine) → Keeps m (λ link. true) front_passes
  fronts_keep m = record {
    at_new = λ up. refl;
    at_sends = λ frames link here. sends_alike (λ one. front_passes one ≡ true) m.event frames link (sent_on link frames here) (sent_on link frames here);
    at_takes = λ reply left link before here down. here;
    at_serves = λ number front served at ordinary before here. handled_alike (λ one. front_passes one ≡ true) m.event front served
        (λ reply. implies_more (list_all test front.link.sent) (list_all test front.link.up) (list_all test front.later) (later front.first front.later front.link.up at.up) here)
        (λ reply. implies_more (list_all test front.link.sent) (list_all test front.link.up) (list_all test front.later) (later front.first front.later front.link.up at.up) here);
    at_stops = λ number after front served at stopped before here. fallen_case (λ one. front_passes one ≡ true) m.event _ (λ opens. none_left front.link.sent) (λ closed. none_left front.link.sent);
    at_cuts = λ up down link opens here. cut_case (λ one. front_passes one ≡ true) m.event up down link opens
        (implies_more (list_all test link.sent) (list_all test link.up) (list_all test (whole_front up_size up link.up)) (fewer (whole_front up_size up link.up) link.up (whole_begins up_size up link.up)) here);
    at_reaps = λ link orphan here. here;
    at_falls = λ link here. fallen_case (λ one. front_passes one ≡ true) m.event link (λ opens. none_left link.sent) (λ closed. none_left link.sent);
  }

-- On the connection of an entry: what its request knows of the calls that were served there, and of
-- the pieces of the entry's transaction.
use Rattle.std.proofs.Common.{◌≡◌, refl, sym, ap, ◌∙◌, Bool, true, ℕ, ◌+◌, List, [], ◌∷◌, ◌++◌}
use Rattle.std.specs.List.{list_all}
use Rattle.std.specs.Option.{option_map_or}
use Rattle.std.proofs.lemmas.Bool.{and_parts, and_from}
use Rattle.svc_values.specs.declared.draw.Draw.{Draw}
use Rattle.invariant_laws.specs.Invariant.{Invariant}
use Rattle.world_model.specs.meaning.Links.{Link}
use Rattle.once_laws.specs.Redrawn.{redraws_on, repeats_redraw}
use Rattle.invariant_laws.specs.Same.{ServedCall, is_scripts, ran_by, scripts_from, test_at}
use Rattle.invariant_laws.specs.Shown.{calls_on, first_of, in_row, is_current, is_row, rows_on}
use Rattle.world_model.specs.Traced.{Traced, Course, courses_of}
use Rattle.invariant_laws.specs.Verified.{answers_known, are_verified, commits_ran, gone_behind, knows_answers, on_held, verifies}
use Rattle.world_model.specs.Words.{held_in}
use Rattle.world_model.proofs.Offered.{at_all, known_of, Known}
use Rattle.once_laws.proofs.Offered.{link_agrees, tells_as, at_held, EntryRan, EntryAt, dids, entry_places_entry_ran as entry_ran, first, had, held_link, row, did_so, did_stands, inner_so, is_told_so, items_stand, last, link_came, of_did, of_item, last_dropped}

pub scripts_front : (course : Course) (before : List ServedCall) (did : ServedCall) (from : ℕ) → scripts_from course from (before ++ did ∷ []) ≡ true → scripts_from course from before ≡ true
scripts_front course [] did from all = refl
scripts_front course (one ∷ before) did from all =
    let parts = and_parts (is_scripts course from one) (scripts_from course (from + 1) (before ++ did ∷ [])) all in and_from (is_scripts course from one) (scripts_from course (from + 1) before) parts.0 (scripts_front course before did (from + 1) parts.1)

module _ (t : Traced) (whole : Invariant t) (ran : commits_ran t ≡ true) (granted : Draw → Bool) (verified : are_verified t ≡ true) (answered : answers_known t ≡ true) (redrew : repeats_redraw granted t ≡ true) (e : EntryAt t whole ran) where
  abbrev run : EntryRan t e.course e.sending e.entry
  run = entry_ran t whole ran e

  abbrev pub link : Link
  link = run.link

  pub known : Known link
  known = known_of t whole.orderly e.sending.connection link run.there

  pub in_a_row : in_row (option_map_or (λ s. s.call) (first_of (calls_on e.course link)) 0) (calls_on e.course link) ≡ true
  in_a_row =
      (and_parts (in_row (option_map_or (λ s. s.call) (first_of (calls_on e.course link)) 0) (calls_on e.course link)) _
      (at_held t.machine.links e.sending.connection link (λ n l. is_row e.course (is_current e.course n) (calls_on e.course l)) (held_in e.course.steps) run.there (had t whole ran e) (at_all (rows_on t) (courses_of t) e.number e.course whole.shown.rows e.at_course))).0

  pub told : list_all (is_told_so e.course (tells_as granted)) (gone_behind e.course link) ≡ true
  told =
      link_agrees t.setting.terms.digest granted e.course link
      (held_link t e.course (verifies t.setting.terms.digest e.course) e.sending.connection link run.there (had t whole ran e) (at_all (λ course. on_held t course (verifies t.setting.terms.digest course)) (courses_of t) e.number e.course verified e.at_course))
      (held_link t e.course (knows_answers e.course) e.sending.connection link run.there (had t whole ran e) (at_all (λ course. on_held t course (knows_answers course)) (courses_of t) e.number e.course answered e.at_course))
      (at_held t.machine.links e.sending.connection link (λ n l. redraws_on granted e.course l) (held_in e.course.steps) run.there (had t whole ran e)
      (at_all (λ course. list_all (test_at t (redraws_on granted course)) (held_in course.steps)) (courses_of t) e.number e.course redrew e.at_course))

  -- the last call that was sent there
  abbrev pub last_sent : ℕ
  last_sent = last e.course (tells_as granted) link known in_a_row told

  pub served_told : list_all (λ one. of_item (did_stands e.course (tells_as granted) last_sent) one.sent one.served.item) link.served ≡ true
  served_told = items_stand e.course (tells_as granted) link known in_a_row told

  pub pieces_told : list_all (of_did (did_stands e.course (tells_as granted) last_sent)) (dids t whole ran e) ≡ true
  pieces_told =
      at_all (list_all (of_did (did_stands e.course (tells_as granted) last_sent))) (ran_by link).over e.entry.ltxid.number (dids t whole ran e) (link_came e.course (tells_as granted) link known in_a_row told).1 run.over

  -- each call of its transaction but the last is as it was shown
  pub inside_told : list_all (did_so e.course (tells_as granted)) run.before ≡ true
  inside_told = ap (list_all (did_so e.course (tells_as granted))) (sym (last_dropped run.before run.did)) ∙ inner_so e.course (tells_as granted) last_sent (first t whole ran e) (dids t whole ran e) (row t whole ran e) pieces_told

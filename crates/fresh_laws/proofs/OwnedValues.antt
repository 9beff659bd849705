-- Each value that a run gives to calls has one owner: what is drawn anew is drawn once, and what is
-- given again was kept of the same call.
use Rattle.std.proofs.Common.{◌≡◌, refl, sym, ap, subst, ◌∙◌, arith, ℕ, suc, ◌+◌, ◌≤◌, not, Bool, true, false, List, [], ◌∷◌, ◌++◌, Option, Some, None}
use Rattle.std.proofs.Math.Seq.{drop-append_seam}
use Rattle.std.specs.Prelude.{◌==◌, slice_get, flat_map, filter_map, drop, is_some, is_none, length}
use Rattle.std.specs.List.{list_all, cons_option}
use Rattle.std.proofs.lemmas.Bool.{and_parts, not-true}
use Rattle.svc_values.specs.declared.draw.Draw.{Draw}
use Rattle.svc_values.specs.declared.entry.Entry.{Entry}
use Rattle.svc_values.specs.declared.entry.SessionId.{SessionId}
use Rattle.svc_values.specs.meaning.Identifiers.{same_session, ltxid_of}
use Rattle.svc_values.specs.meaning.Same.{same_bool}
use Rattle.outage_schedule.specs.declared.document.Document.{Document}
use Rattle.outage_schedule.specs.declared.event.Event.{Event}
use Rattle.outage_schedule.specs.declared.item.Served.{Served}
use Rattle.outage_schedule.specs.declared.note.Note.{Note}
use Rattle.server_model.specs.meaning.Base.{Base}
use Rattle.server_model.specs.meaning.Fresh.{drawn_anew}
use Rattle.server_model.specs.meaning.Items.{Item as Plain}
use Rattle.server_model.specs.Items.{items_of}
use Rattle.server_model.specs.Laws.{RunsLegal, RunsFreshNew}
use Rattle.server_model.specs.meaning.Legal.{items_hold, lines_of, lines_stand}
use Rattle.server_model.specs.Seen.{Seen}
use Rattle.server_model.specs.meaning.Walk.{Walk, walk_of}
use Rattle.world_model.specs.records.Basic.{is_named, first_is_connect, none_behind, lives_rightly, sessions_of}
use Rattle.world_model.specs.Coupled.{Coupled}
use Rattle.world_model.specs.meaning.Frames.{Handled}
use Rattle.world_model.specs.Orderly.{Orderly}
use Rattle.world_model.specs.meaning.Links.{Link, link_at}
use Rattle.world_model.specs.records.Number.{numbered_after}
use Rattle.invariant_laws.specs.Once.{Given, stopped_draws, given_by, given_on, given, owned}
use Rattle.world_model.specs.Parts.{has_entry, implies}
use Rattle.world_model.specs.Reached.{Reached, Begins, GoesOn}
use Rattle.world_model.specs.records.Ready.{all_requests_right}
use Rattle.world_model.specs.RunLaws.{RunsAreOrderly}
use Rattle.invariant_laws.specs.SameLaws.{RunsServe}
use Rattle.world_model.specs.Sames.{all_with, each_pair}
use Rattle.invariant_laws.specs.Shown.{in_rows}
use Rattle.world_model.specs.Traced.{Traced}
use Rattle.fresh_laws.specs.ValueLaws.{HoldsAtTheEnd, HoldsOnTheWay, ValuesHaveOneOwner}
use Rattle.world_model.specs.records.Wire.{is_fresh, is_sent_front, handled_from, stage_of, is_right}
use Rattle.once_laws.specs.StoredOnce.{stood_in}
use Rattle.world_model.proofs.Offered.{at_link, weaker_all, known_of, commits_behind, finishing_reached, reached_coupled, eq_from}
use Rattle.fresh_laws.proofs.DrawnFor.{drawn_for, drawn_apart, drawn_within, first_apart, is_session, among}
use Rattle.once_laws.proofs.Offered.{times, AreOnce, once_each, total, firsts, firsts_both, each_owned, repeats_given, are_repeated, repeated_now, are_given, given_start, given_now}
use Rattle.fresh_laws.proofs.GivenFirsts.{served_firsts}
use Rattle.fresh_laws.proofs.HeldAtStop.{stopped_held}
use Rattle.fresh_laws.proofs.FrameDraws.{anew}
use Rattle.fresh_laws.proofs.HistoryDraws.{Told, history_draws}
use Rattle.invariant_laws.proofs.Offered.{rows_law, counts_none, none_before, link_rests, is_its, has_ran, none_ran, other_ran}
use Rattle.fresh_laws.proofs.StoppedDraws.{stopped_in}

-- WHERE A RUN HAS COME TO -------------------------------------------------------------------------

pub record GivenSoFar (t : Traced) : Type 0 where
  pub rows : in_rows t ≡ true
  pub given : are_given t ≡ true
  pub repeated : are_repeated t ≡ true

pub reached_given : RunsAreOrderly → (document : Document) (events : List Event) (notes : List Note) (items : List Served) (seen : Seen) (t : Traced) → all_requests_right document ≡ true → Reached document events notes items seen t → GivenSoFar t
reached_given orderly document _ _ _ _ _ calls (Begins seen start history horizon coupled) = record { rows = rows_law.at_start document; given = given_start document; repeated = refl }
reached_given orderly document _ _ _ _ _ calls (GoesOn events notes items more before after old new event note reached one forgets) =
    let inv = orderly document events notes items before old calls reached in
    let later = orderly document (events ++ event ∷ []) (notes ++ note ∷ []) (items ++ more) after new calls (GoesOn events notes items more before after old new event note reached one forgets) in
    let was = reached_given orderly document events notes items before old calls reached in
    record {
      rows = rows_law.at_event before after old new event note more [] one inv was.rows;
      given = given_now before after old new event note more [] one inv was.rows was.given;
      repeated = repeated_now before after old new event note more [] one inv later was.given was.repeated;
    }

-- CONNECTIONS -------------------------------------------------------------------------------------

-- what is known of each connection: without a session it served nothing, and what its calls were
-- given first its session drew
pub record HasDrawn (whole : List Given) (t : Traced) (drawn : (SessionId → Bool) → List Draw) (value : Draw) (link : Link) : Type 0 where
  pub unnamed : link.session ≡ None → link.served ≡ []
  pub named : (session : SessionId) → link.session ≡ Some session → firsts whole value (given_on t link) ≤ times value (drawn (is_session session))

module _ (t : Traced) (base : Base) (walk : Walk) (items : List Plain) (value : Draw) where
  abbrev whole : List Given
  whole = given t

  abbrev drawn : (SessionId → Bool) → List Draw
  drawn some = drawn_for some base walk items

  abbrev names : List Link → List SessionId
  names links = filter_map (λ link. link.session) links

  -- by sessions, which differ: what is weighed of each connection its session drew
  pub links_within : (weight : Link → ℕ) (links : List Link) → each_pair (λ a b. not (same_session a b)) (names links) ≡ true
      → ((index : ℕ) (link : Link) → slice_get links index ≡ Some link → (link.session ≡ None → weight link ≡ 0) × ((session : SessionId) → link.session ≡ Some session → weight link ≤ times value (drawn (is_session session)))) → total weight links ≤ times value (drawn (among (names links)))
  links_within weight [] apart has = omega arith
  links_within weight (link ∷ links) apart has = by link.session refl apart (λ rest. links_within weight links rest (λ index one at. has (suc index) one at))
    where
      by : (session : Option SessionId) → link.session ≡ session → each_pair (λ a b. not (same_session a b)) (cons_option session (names links)) ≡ true
          → (each_pair (λ a b. not (same_session a b)) (names links) ≡ true → total weight links ≤ times value (drawn (among (names links)))) → weight link + total weight links ≤ times value (drawn (among (cons_option session (names links))))
      by None is apart again = let none = (has 0 link refl).0 is in let rest = again apart in omega (arith, none, rest)
      by (Some session) is apart again =
          let parts = and_parts (all_with (λ other. not (same_session session other)) (names links)) (each_pair (λ a b. not (same_session a b)) (names links)) apart in
          let own = (has 0 link refl).1 session is in
          let rest = again parts.1 in
          let all = drawn_apart value (is_session session) (among (names links)) (among (session ∷ names links)) (first_apart session (names links) parts.0) base walk items in
          omega (arith, own, rest, all)

  total_firsts : (links : List Link) → firsts whole value (flat_map (given_on t) links) ≡ total (λ link. firsts whole value (given_on t link)) links
  total_firsts [] = refl
  total_firsts (link ∷ links) = let both = firsts_both whole value (given_on t link) (flat_map (given_on t) links) in let rest = total_firsts links in omega (arith, both, rest)

  pub links_firsts : (links : List Link) → each_pair (λ a b. not (same_session a b)) (names links) ≡ true → ((index : ℕ) (link : Link) → slice_get links index ≡ Some link → HasDrawn whole t drawn value link) → firsts whole value (flat_map (given_on t) links) ≤ times value (drawn (among (names links)))
  links_firsts links apart has =
      let all = links_within (λ link. firsts whole value (given_on t link)) links apart (λ index link at.
      ((λ none. ap (λ (served : List Handled). firsts whole value (flat_map (λ one. given_by t link one one.served.item) served)) ((has index link at).unnamed none)), (has index link at).named)) in
      let same = total_firsts links in
      omega (arith, all, same)

-- A RUN -------------------------------------------------------------------------------------------

no_length : (served : List Handled) → (length served == 0) ≡ true → served ≡ []
no_length [] is = refl
no_length (one ∷ served) is = let long : length (one ∷ served) ≡ 0 = eq_from (length (one ∷ served)) 0 is in absurd (let none : ⊥ = omega (arith, long) in none)

module _ (orderly : RunsAreOrderly) (serve : RunsServe) (legal : RunsLegal) (fresh : RunsFreshNew) (document : Document) (events : List Event) (notes : List Note) (items : List Served) (seen : Seen) (t : Traced) (calls : all_requests_right document ≡ true)
    (reached : Reached document events notes items seen t) where
  pub inv : Orderly t
  inv = orderly document events notes items seen t calls reached

  pub coupled : Coupled seen t
  coupled = reached_coupled document events notes items seen t reached

  abbrev pub gained : List Entry
  gained = coupled.history.server.core.entries

  abbrev pub plain : List Plain
  plain = items_of seen.history

  abbrev pub walk : Walk
  walk = walk_of seen.start gained

  pub entries : t.entries ≡ seen.start.entries ++ gained
  entries = coupled.entries ∙ coupled.history.entries

  pub held : items_hold seen.start walk plain ≡ true
  held = (and_parts (items_hold seen.start walk plain) (lines_stand (lines_of plain) coupled.history.server.core.alerts) (legal seen.start seen.history coupled.history.server coupled.sound coupled.history.runs coupled.stops)).0

  -- what a session drew is what its connection was given
  pub link_drew : (number : ℕ) (link : Link) (session : SessionId) → link_at t.machine.links number ≡ Some link → link.session ≡ Some session
      → Told seen.start (seen.start.entries ++ gained) session (stopped_draws t link.held) (stood_in t link.held) (subst (λ (all : List Entry). numbered_after [] all ≡ true) entries inv.number.entries) walk plain link.served
  unfolding inv coupled
  link_drew number link session there its =
      let none = none_before orderly document events notes items seen t calls reached number link session there its in
      let all : List Entry = seen.start.entries ++ gained in
      history_draws seen.start all session (stopped_draws t link.held) (stood_in t link.held) (subst (λ (all : List Entry). numbered_after [] all ≡ true) entries inv.number.entries) seen.history walk 0 link.served
      none_ran false held refl
      (record {
        has = serve document events notes items seen t calls reached number link session there its;
        handled = at_link (λ l. handled_from 0 l.served) t.machine.links number link inv.wire.handled there;
        lone = (and_parts (none_behind link.served) _ (at_link lives_rightly t.machine.links number link inv.basic.life there)).0;
        rests = link_rests link (at_link is_sent_front t.machine.links number link inv.wire.sent there) (at_link (λ l. is_right (stage_of l)) t.machine.links number link inv.wire.grammar there);
      })
      (record {
        count = counts_none seen.start.entries session none;
        many = refl;
        now = λ is. record { pieces = refl; settings = refl; at_start = refl };
        all = weaker_all (λ entry. not (is_its session entry)) (has_ran session none_ran) seen.start.entries (λ entry is. other_ran session none_ran entry (not-true (is_its session entry) is)) none;
      })
      (λ stopped.
      let held_is = stopped_held link session (known_of t inv number link there) (at_link is_fresh t.machine.links number link inv.wire.fresh there) (at_link is_named t.machine.links number link inv.basic.named there) its stopped in (
        ap (stopped_draws t) held_is ∙ ap (λ (list : List Entry). stopped_in list (ltxid_of session (commits_behind 0 link.served))) entries,
        ap (stood_in t) held_is ∙ ap (λ (list : List Entry). has_entry list (ltxid_of session (commits_behind 0 link.served))) entries,
      ))

  pub has_drawn : (value : Draw) (number : ℕ) (link : Link) → link_at t.machine.links number ≡ Some link → HasDrawn (given t) t (λ some. drawn_for some seen.start walk plain) value link
  has_drawn value number link there = record {
    unnamed = λ none.
        let named = and_parts (same_bool (is_some link.session) (first_is_connect link.served)) _ (at_link is_named t.machine.links number link inv.basic.named there) in
        let two = and_parts (implies (is_none link.session) (length link.served == 0)) _ named.1 in
        no_length link.served (sym (ap (λ (s : Option SessionId). implies (is_none s) (length link.served == 0)) none) ∙ two.0);
    named = λ session its.
        let drew = link_drew number link session there its in
        let so_far = reached_given orderly document events notes items seen t calls reached in
        let most = served_firsts t value seen.start link 0 link.served (at_link (λ l. handled_from 0 l.served) t.machine.links number link inv.wire.handled there) drew.right
        (at_link (λ l. list_all (repeats_given t.machine.links) l.served) t.machine.links number link so_far.repeated there) in
        let same : times value (drawn_for (is_session session) seen.start walk plain) ≡ times value (flat_map (λ one. anew seen.start (stopped_draws t link.held) one.sent.frame one.served.item) link.served) = ap (times value) drew.new in
        omega (arith, most, same);
  }

  -- none of the values that were given is the first of its kind twice
  pub all_firsts : (value : Draw) → firsts (given t) value (given t) ≤ times value (drawn_for (among (sessions_of t)) seen.start walk plain)
  all_firsts value =
      links_firsts t seen.start walk plain value t.machine.links (and_parts (each_pair (λ a b. not (same_session a b)) (sessions_of t)) _ inv.basic.apart).0 (λ index link at. has_drawn value (suc index) link at)

  pub gained_is : drop t.image t.entries ≡ gained
  gained_is = ap (λ (list : List Entry). drop t.image list) entries ∙ (ap (λ (n : ℕ). drop n (seen.start.entries ++ gained)) coupled.image ∙ drop-append_seam seen.start.entries gained)

  pub once : AreOnce (drawn_anew seen.start walk plain)
  once = once_each (drawn_anew seen.start walk plain) (fresh seen.start seen.history coupled.history.server coupled.sound coupled.history.runs coupled.stops)

  all_owned : owned t ≡ true
  all_owned = each_owned (given t) (λ value single.
      let first = all_firsts value in
      let within = drawn_within value (among (sessions_of t)) seen.start walk plain in
      let most = once value single in
      omega (arith, first, within, most))

pub values_owned : RunsAreOrderly → RunsServe → RunsLegal → RunsFreshNew → ValuesHaveOneOwner
values_owned orderly serve legal fresh document events notes items seen t calls reached = all_owned orderly serve legal fresh document events notes items seen t calls reached

-- a whole run comes to its end so
pub at_end : (test : Traced → Bool) → HoldsOnTheWay test → HoldsAtTheEnd test
at_end test holds document notes items seen t calls run =
    let so = finishing_reached document run.place notes items seen t run.finishing in
    holds document so.0 notes items seen t calls so.1

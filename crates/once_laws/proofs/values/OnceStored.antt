-- No call of a request is stored twice: the transactions of two connections that have it are one
-- transaction of the request, of which one identifier has an entry, and no two connections have one
-- session.
use Rattle.std.proofs.Common.{◌≡◌, refl, sym, ap, subst, ◌∙◌, arith, Bool, true, false, ℕ, suc, ◌<◌, ◌≤◌, ◌&&◌, Some, ◌⊎◌, inl, inr}
use Rattle.std.specs.Prelude.{◌==◌, is_none, not, slice_get}
use Rattle.std.specs.List.{list_any}
use Rattle.std.specs.Option.{option_map_or}
use Rattle.std.proofs.lemmas.Bool.{and_parts, and_from, or_cases}
use Rattle.svc_values.specs.declared.entry.Ltxid.{Ltxid}
use Rattle.svc_values.specs.declared.frame.Up.{Up}
use Rattle.svc_values.specs.declared.frame.Up.TheVariants as up
use Rattle.svc_values.specs.meaning.Identifiers.{is_of_session}
use Rattle.outage_schedule.specs.declared.item.Item.{Item}
use Rattle.outage_schedule.specs.declared.item.Item.TheVariants as item
use Rattle.once_laws.specs.CallEndings.{end_fittingly}
use Rattle.world_model.specs.meaning.Crashing.{is_crashed_item}
use Rattle.world_model.specs.meaning.Frames.{Owner, Sent, Handled}
use Rattle.invariant_laws.specs.Invariant.{Invariant}
use Rattle.invariant_laws.specs.KeptLaws.{RunsKeepInvariant}
use Rattle.world_model.specs.meaning.Links.{Link}
use Rattle.invariant_laws.specs.Once.{all_but_last, transaction_at}
use Rattle.world_model.specs.Parts.{commit_sendings, has_entry}
use Rattle.invariant_laws.specs.SameLaws.{HoldsAtEnds, HoldsInRuns}
use Rattle.world_model.specs.Sames.{is_of, owned_by, same_owner, same_owners, same_up}
use Rattle.world_model.specs.meaning.Serving.{is_item_of, reply_of}
use Rattle.once_laws.specs.Showing.{show_replies}
use Rattle.once_laws.specs.StoredOnce.{is_call as is_call_item, stood_in, are_stored_once}
use Rattle.world_model.specs.Traced.{Traced, Course, courses_of}
use Rattle.world_model.specs.records.Wire.{New, handled_from, is_handled, is_right, same_replies, stage_of}
use Rattle.world_model.proofs.Offered.{at_link, at_all, any_goes, finishing_reached, owner_self, eq_from, eq_to, not_both}
use Rattle.invariant_laws.proofs.Offered.{owners_are, calls_same, is_under, under_at}
use Rattle.once_laws.proofs.calls.CallRows.{got_before, less_or}
use Rattle.once_laws.proofs.calls.CallsApart.{IsCalled, WasSent, calls_rise, is_called, on_one}
use Rattle.once_laws.proofs.calls.CallsBefore.{none_ended}
use Rattle.once_laws.proofs.calls.OneCourse.{HadBy, had_by, one_course}
use Rattle.once_laws.proofs.calls.OneEntry.{never_on_two, one_stored}
use Rattle.once_laws.proofs.calls.ShownPlaces.{same_transaction}
use Rattle.once_laws.proofs.calls.StageCalls.{begins, one_owner}
use Rattle.once_laws.proofs.values.StoredApart.{IsStoredAt, stored_apart}
use Rattle.once_laws.proofs.values.StoredCommits.{Stores, leaves_open, stores_from, stores_item}
use Rattle.once_laws.proofs.values.StoredSendings.{StoredSending, stored_sending}
use Rattle.once_laws.proofs.calls.ToldCalls.{handled_is, sent_at}

-- FRAMES ------------------------------------------------------------------------------------------

begins_same : (a b : Up) → same_up a b ≡ true → begins a ≡ begins b
begins_same (up.Begin a) (up.Begin b) same = refl
begins_same (up.Call r k c) (up.Call s l d) same = refl
begins_same up.Connect up.Connect same = refl
begins_same (up.Outcome x) (up.Outcome y) same = refl
begins_same up.End up.End same = refl
begins_same up.Close up.Close same = refl
begins_same a b same = absurd (let none : ⊥ = cc in none)

-- where a request begins no transaction goes on
begin_closes : (n : ℕ) (one : Handled) → is_handled n one ≡ true → begins one.sent.frame ≡ true → leaves_open one.served.item ≡ false
begin_closes n one handled begin = cases (or_cases (is_item_of one.sent.frame one.served.item && same_replies one.reply (reply_of one.served.session n one.served.item)) (is_crashed_item one.sent.frame one.served.item && is_none one.reply) handled)
  where
    ordinary : (frame : Up) (it : Item) → begins frame ≡ true → is_item_of frame it ≡ true → leaves_open it ≡ false
    ordinary (up.Begin settings) (item.Begin begun) begin is = refl
    ordinary (up.Begin settings) it begin is = absurd (let none : ⊥ = cc in none)
    ordinary frame it begin is = absurd (let none : ⊥ = cc in none)

    crashed : (frame : Up) (it : Item) → begins frame ≡ true → is_crashed_item frame it ≡ true → leaves_open it ≡ false
    crashed (up.Begin settings) it begin is = absurd (let none : ⊥ = cc in none)
    crashed frame it begin is = absurd (let none : ⊥ = cc in none)

    cases : ((is_item_of one.sent.frame one.served.item && same_replies one.reply (reply_of one.served.session n one.served.item)) ≡ true) ⊎ ((is_crashed_item one.sent.frame one.served.item && is_none one.reply) ≡ true) → leaves_open one.served.item ≡ false
    cases (inl so) = ordinary one.sent.frame one.served.item begin (and_parts (is_item_of one.sent.frame one.served.item) (same_replies one.reply (reply_of one.served.session n one.served.item)) so).0
    cases (inr so) = crashed one.sent.frame one.served.item begin (and_parts (is_crashed_item one.sent.frame one.served.item) (is_none one.reply) so).0

stores_call : (stood : Bool) (it : Item) → stores_item stood it ≡ true → is_call_item it ≡ true
stores_call stood (item.Call marked called answers draws) is = refl
stores_call stood (item.CrashedCall marked called) is = refl
stores_call stood it is = absurd (let none : ⊥ = cc in none)

-- A STORED CALL -----------------------------------------------------------------------------------

module _ (t : Traced) (inv : Invariant t) (shows : show_replies t ≡ true) (fit : end_fittingly t ≡ true) where
  -- its request, and the identifier of the connection's session that has the entry of its
  -- transaction
  record IsStored (link : Link) (one : Handled) : Type 0 where
    owner : Owner
    mine : one.sent.owner ≡ Some owner
    number : ℕ
    course : Course
    at : slice_get (courses_of t) number ≡ Some course
    owner_is : course.owner ≡ owner
    x : Ltxid
    entry : has_entry t.entries x ≡ true
    own : option_map_or (λ session. is_of_session session x) link.session false ≡ true
    sent : list_any (under_at (λ at. transaction_at course.report.calls at == transaction_at course.report.calls one.sent.call) x) (commit_sendings course) ≡ true

  module _ (index : ℕ) (link : Link) (there : slice_get t.machine.links index ≡ Some link) (place : ℕ) (one : Handled) (is : IsStoredAt (stood_in t link.held) link.served place one) where
    stores : Stores (stood_in t link.held) link.served place
    stores = stores_from (stood_in t link.held) link.served place is.goes

    first : IsCalled t inv index link there place one
    first = is_called t inv index link there place one is.at is.called

    second : IsCalled t inv index link there stores.last stores.one
    second = is_called t inv index link there stores.last stores.one stores.at (stores_call (stood_in t link.held) stores.one.served.item stores.stores)

    handled : handled_from 0 link.served ≡ true
    handled = at_link (λ l. handled_from 0 l.served) t.machine.links (suc index) link inv.orderly.wire.handled there

    none_begins : (k : ℕ) (other : Sent) → place < k → k < stores.last → slice_get link.sent k ≡ Some other → begins other.frame ≡ false
    none_begins k other above below at = by (begins other.frame) refl
      where
        got : (h : Handled) × (slice_get link.served k ≡ Some h)
        got = got_before link.served k stores.last stores.one (omega (arith, below)) stores.at

        its : WasSent link k got.0
        its = sent_at t inv index link there k got.0 got.1

        by : (test : Bool) → begins other.frame ≡ test → test ≡ false
        by false is = refl
        by true is =
            let both : Some its.sent ≡ Some other = sym its.at ∙ at in
            let equal : its.sent ≡ other = cc in
            let begin : begins got.0.sent.frame ≡ true = begins_same got.0.sent.frame its.sent.frame its.frame ∙ (ap (λ (s : Sent). begins s.frame) equal ∙ is) in
            let so = handled_is 0 link.served k got.0 handled got.1 in
            absurd (not_both (leaves_open got.0.served.item) (stores.between k got.0 (omega (arith, above)) below got.1) (begin_closes so.0 got.0 so.1 begin))

    same_one : stores.last ≤ place → one ≡ stores.one
    same_one back =
        let from = stores.from in
        let equal : place ≡ stores.last = omega (arith, back, from) in
        let both : Some one ≡ Some stores.one = sym is.at ∙ (ap (slice_get link.served) equal ∙ stores.at) in
        let same : one ≡ stores.one = cc in
        same

    same_owner_so : one.sent.owner ≡ stores.one.sent.owner
    same_owner_so = by (less_or place stores.last)
      where
        by : (place < stores.last) ⊎ (stores.last ≤ place) → one.sent.owner ≡ stores.one.sent.owner
        by (inr back) = ap (λ (h : Handled). h.sent.owner) (same_one back)
        by (inl less) =
            first.was.owner
            ∙ (one_owner New link.sent (at_link (λ l. is_right (stage_of l)) t.machine.links (suc index) link inv.orderly.wire.grammar there) place stores.last first.was.sent second.was.sent less first.was.at second.was.at first.called second.called none_begins
            ∙ sym second.was.owner)

    upto : one.sent.call ≤ stores.one.sent.call
    upto = by (less_or place stores.last)
      where
        by : (place < stores.last) ⊎ (stores.last ≤ place) → one.sent.call ≤ stores.one.sent.call
        by (inr back) = let same : one.sent.call ≡ stores.one.sent.call = ap (λ (h : Handled). h.sent.call) (same_one back) in omega (arith, same)
        by (inl less) = let rises = calls_rise t inv index link there place stores.last one stores.one less first second same_owner_so in omega (arith, rises)

    had : HadBy t (suc index) first.owner
    had = had_by t (suc index) first.owner first.held

    mine_one : owned_by had.course.owner one.sent ≡ true
    mine_one = ap (is_of had.course.owner) (first.was.owner ∙ first.is) ∙ (ap (λ (o : Owner). same_owner o first.owner) had.mine ∙ owner_self first.owner)

    mine_end : owned_by had.course.owner stores.one.sent ≡ true
    mine_end = ap (is_of had.course.owner) (sym same_owner_so) ∙ mine_one

    sending : StoredSending t inv shows fit index link there had.place had.course had.at had.had stores.last stores.one stores.at mine_end (calls_same stores.one.sent.frame second.was.sent.frame second.was.frame ∙ second.called)
    sending =
        stored_sending t inv shows fit index link there had.place had.course had.at had.had stores.last stores.one stores.at mine_end (calls_same stores.one.sent.frame second.was.sent.frame second.was.frame ∙ second.called) stores.stores

    same_so : transaction_at had.course.report.calls one.sent.call ≡ transaction_at had.course.report.calls stores.one.sent.call
    same_so =
        same_transaction had.course.report.calls one.sent.call stores.one.sent.call upto
        (λ j shown from below at.
        none_ended t inv shows fit index link there had.place had.course had.at had.had place stores.last one stores.one is.at stores.at mine_one (calls_same one.sent.frame first.was.sent.frame first.was.frame ∙ first.called) mine_end sending.plain stores.between j shown from below at)

    is_stored : IsStored link one
    is_stored = record {
      owner = first.owner;
      mine = first.was.owner ∙ first.is;
      number = had.place;
      course = had.course;
      at = had.at;
      owner_is = had.mine;
      x = sending.x;
      entry = sending.entry;
      own = sending.own;
      sent = any_goes (under_at (λ at. at == stores.one.sent.call) sending.x) (under_at (λ at. transaction_at had.course.report.calls at == transaction_at had.course.report.calls one.sent.call) sending.x)
          (λ s here.
          let parts = and_parts (s.at == stores.one.sent.call) (is_under sending.x s) here in
          and_from (transaction_at had.course.report.calls s.at == transaction_at had.course.report.calls one.sent.call) (is_under sending.x s)
          (eq_to (transaction_at had.course.report.calls s.at) (transaction_at had.course.report.calls one.sent.call) (ap (transaction_at had.course.report.calls) (eq_from s.at stores.one.sent.call parts.0) ∙ sym same_so)) parts.1)
          (commit_sendings had.course) sending.sent;
    }

  -- TWO CONNECTIONS -------------------------------------------------------------------------------

  clash : (index other : ℕ) (a b : Link) → index < other → slice_get t.machine.links index ≡ Some a → slice_get t.machine.links other ≡ Some b → (one two : Handled) → IsStored a one → IsStored b two → same_owners one.sent.owner two.sent.owner ≡ true → one.sent.call ≡ two.sent.call → ⊥
  clash index other a b less at there one two first second owners calls =
      let owner : Some first.owner ≡ Some second.owner = sym first.mine ∙ (owners_are one.sent.owner two.sent.owner owners ∙ second.mine) in
      let equal : first.owner ≡ second.owner = cc in
      let course : second.course ≡ first.course = one_course t second.number first.number second.course first.course second.at first.at (second.owner_is ∙ (sym equal ∙ sym first.owner_is)) in
      let its : list_any (under_at (λ n. transaction_at first.course.report.calls n == transaction_at first.course.report.calls one.sent.call) second.x) (commit_sendings first.course) ≡ true =
      subst (λ (k : ℕ). list_any (under_at (λ n. transaction_at first.course.report.calls n == transaction_at first.course.report.calls k) second.x) (commit_sendings first.course) ≡ true) (sym calls)
      (subst (λ (c : Course). list_any (under_at (λ n. transaction_at c.report.calls n == transaction_at c.report.calls two.sent.call) second.x) (commit_sendings c) ≡ true) course second.sent) in
      let settled : all_but_last t first.course.report.calls (commit_sendings first.course) ≡ true = at_all (λ (c : Course). all_but_last t c.report.calls (commit_sendings c)) (courses_of t) first.number first.course inv.once.settled first.at in
      never_on_two t inv index other a b less at there first.x second.x first.own second.own
      (one_stored t inv first.course settled (transaction_at first.course.report.calls one.sent.call) first.x second.x first.entry second.entry first.sent its)

  pub stored_once : are_stored_once t ≡ true
  stored_once =
      stored_apart t (λ index link at place later one two less first second. on_one t inv index link at (stood_in t link.held) place later one two less first second)
      (λ index other a b less at there place later one two first second.
      by one two (same_owners one.sent.owner two.sent.owner) (one.sent.call == two.sent.call) refl refl (clash index other a b less at there one two (is_stored index a at place one first) (is_stored other b there later two second)))
    where
      by : (one two : Handled) (owners calls : Bool) → same_owners one.sent.owner two.sent.owner ≡ owners → (one.sent.call == two.sent.call) ≡ calls → (same_owners one.sent.owner two.sent.owner ≡ true → one.sent.call ≡ two.sent.call → ⊥) → not (owners && calls) ≡ true
      by one two true true owner call never = absurd (never owner (eq_from one.sent.call two.sent.call call))
      by one two true false owner call never = refl
      by one two false calls owner call never = refl

-- RUNS --------------------------------------------------------------------------------------------

pub runs_store_once : RunsKeepInvariant → HoldsInRuns show_replies → HoldsInRuns end_fittingly → HoldsInRuns are_stored_once
runs_store_once keeps shows fits document events notes items seen t calls reached =
    stored_once t (keeps document events notes items seen t calls reached) (shows document events notes items seen t calls reached) (fits document events notes items seen t calls reached)

pub whole_runs_store_once : RunsKeepInvariant → HoldsInRuns show_replies → HoldsInRuns end_fittingly → HoldsAtEnds are_stored_once
whole_runs_store_once keeps shows fits document notes items seen t calls run =
    let so = finishing_reached document run.place notes items seen t run.finishing in runs_store_once keeps shows fits document so.0 notes items seen t calls so.1

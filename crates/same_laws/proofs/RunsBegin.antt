-- In a state that is as the invariant says, each transaction with a call of a request begins where
-- one may.
use Rattle.std.proofs.Common.{◌≡◌, refl, sym, ap, ◌∙◌, append_assoc, Bool, true, false, ℕ, ◌+◌, ◌&&◌, List, [], ◌∷◌, ◌++◌, map, Option, None}
use Rattle.std.specs.Prelude.{◌==◌}
use Rattle.std.specs.List.{list_all, list_any}
use Rattle.std.proofs.lemmas.Bool.{and_from, or_left, or_right}
use Rattle.std.proofs.lemmas.List.Folds.{list_any-append}
use Rattle.svc_values.specs.declared.frame.Up.{Up}
use Rattle.svc_values.specs.declared.frame.Up.TheVariants as up
use Rattle.outage_schedule.specs.declared.item.Item.{Item}
use Rattle.outage_schedule.specs.declared.item.Item.TheVariants as item
use Rattle.outage_schedule.specs.declared.request.ShownCall.{ShownCall}
use Rattle.invariant_laws.specs.Begins.{begins_followed}
use Rattle.invariant_laws.specs.FirstCalls.{all_begin_there, begins_behind, begins_on, ends_before, is_behind_decided, is_ended, transactions_begin}
use Rattle.world_model.specs.meaning.Frames.{Owner, Sent, Handled}
use Rattle.invariant_laws.specs.Invariant.{Invariant}
use Rattle.world_model.specs.meaning.Links.{Link}
use Rattle.world_model.specs.Parts.{implies}
use Rattle.world_model.specs.Sames.{is_of, owned_by, same_sent, same_up}
use Rattle.world_model.specs.Traced.{Traced, Course, courses_of}
use Rattle.world_model.specs.records.Wire.{New, is_sent_front}
use Rattle.world_model.proofs.Offered.{at_link, at_all, same_frames, eq_to}
use Rattle.invariant_laws.proofs.Offered.{front_all, kept_decided_carries as carries, none_ran}
use Rattle.once_laws.proofs.Offered.{followed_on, owner_same, call_same, InRow, held_so, sent_front}
use Rattle.same_laws.proofs.RanBegins.{AllMayEnd, MayEnd, all_known}

behind_alike : (shown : List ShownCall) (index : ℕ) (a b : Up) → same_up a b ≡ true → begins_behind shown index b ≡ true → begins_behind shown index a ≡ true
behind_alike shown index (up.Begin x) (up.Begin y) same carry = carry
behind_alike shown index up.Connect up.Connect same carry = refl
behind_alike shown index (up.Call r k c) (up.Call s l d) same carry = refl
behind_alike shown index (up.Outcome x) (up.Outcome y) same carry = refl
behind_alike shown index up.End up.End same carry = refl
behind_alike shown index up.Close up.Close same carry = refl
behind_alike shown index a b same carry = absurd (let none : ⊥ = cc in none)

module _ (course : Course) where
  carries_alike : (a b : Sent) → same_sent a b ≡ true → carries course b ≡ true → carries course a ≡ true
  carries_alike a b same carry =
      ap (λ (owner : Option Owner). implies (is_of course.owner owner) (begins_behind course.report.calls a.call a.frame)) (owner_same a b same)
      ∙ (ap (λ (call : ℕ). implies (owned_by course.owner b) (begins_behind course.report.calls call a.frame)) (call_same course a b same) ∙ by (owned_by course.owner b) carry)
    where
      by : (own : Bool) → implies own (begins_behind course.report.calls b.call b.frame) ≡ true → implies own (begins_behind course.report.calls b.call a.frame) ≡ true
      by false carry = refl
      by true carry = behind_alike course.report.calls b.call a.frame b.frame (same_frames a b same) carry

  -- what a session served, an item that ended a transaction among it
  one_ends : (whole front rest : List Handled) (one : Handled) → whole ≡ front ++ one ∷ rest → (told : Item) → one.served.item ≡ told → MayEnd course whole one.sent told
  one_ends whole front rest one is (item.Call marked call answers draws) same =
      λ own ends. or_right (is_behind_decided course.report.calls (one.sent.call + 1)) (list_any (ends_before course (one.sent.call + 1)) whole)
      (ap (list_any (ends_before course (one.sent.call + 1))) is
      ∙ (list_any-append (ends_before course (one.sent.call + 1)) front (one ∷ rest)
      ∙ or_right (list_any (ends_before course (one.sent.call + 1)) front) (list_any (ends_before course (one.sent.call + 1)) (one ∷ rest))
      (or_left (ends_before course (one.sent.call + 1) one) (list_any (ends_before course (one.sent.call + 1)) rest)
      (and_from (owned_by course.owner one.sent) ((one.sent.call + 1 == one.sent.call + 1) && is_ended one.served.item) own
      (and_from (one.sent.call + 1 == one.sent.call + 1) (is_ended one.served.item) (eq_to (one.sent.call + 1) (one.sent.call + 1) refl) (ap is_ended same ∙ ends))))))
  one_ends whole front rest one is item.Connect same = tt
  one_ends whole front rest one is (item.Begin settings) same = tt
  one_ends whole front rest one is item.End same = tt
  one_ends whole front rest one is told same = tt

  all_end : (whole front rest : List Handled) → whole ≡ front ++ rest → AllMayEnd course whole rest
  all_end whole front [] is = tt
  all_end whole front (one ∷ rest) is = (one_ends whole front rest one is one.served.item refl, all_end whole (front ++ one ∷ []) rest (is ∙ sym (append_assoc front (one ∷ []) rest)))

  -- A CONNECTION ----------------------------------------------------------------------------------

  link_begins : (link : Link) → is_sent_front link ≡ true → InRow course link.served → begins_on course link ≡ true → begins_followed link ≡ true → all_begin_there course link ≡ true
  link_begins link sent row carry follow =
      all_known course link.served link.served New row.start none_ran 0 None row.handled row.lone row.right row.row (front_all (carries course) carries_alike (map (λ one. one.sent) link.served) link.sent (sent_front link sent) carry)
      (followed_on course link sent follow) (all_end link.served [] link.served refl) refl refl

-- A RUN -------------------------------------------------------------------------------------------

pub transactions_begun : (t : Traced) → Invariant t → transactions_begin t ≡ true
transactions_begun t whole =
    held_so t whole.orderly whole.shown.rows all_begin_there
    (λ index course number link at there row.
    link_begins course link (at_link is_sent_front t.machine.links number link whole.orderly.wire.sent there) row
    (at_link (begins_on course) t.machine.links number link (at_all (λ c. list_all (begins_on c) t.machine.links) (courses_of t) index course whole.decided at) there) (at_link begins_followed t.machine.links number link whole.followed there))

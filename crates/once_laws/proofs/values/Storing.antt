-- How the call that stored a transaction was served: as a commit that was answered, or stopped,
-- with the entry of what is held; and what is known of one identifier.
use Rattle.std.proofs.Common.{◌≡◌, refl, sym, ap, subst, ◌∙◌, arith, Bool, true, false, ℕ, suc, zero, ◌+◌, ◌&&◌, ◌||◌, cond, length, List, [], ◌∷◌, Option, Some, None, ◌⊎◌, inl, inr}
use Rattle.std.specs.Prelude.{◌==◌, count_by, is_none, is_some, not, slice_get}
use Rattle.std.specs.List.{list_all, list_any, last_or}
use Rattle.std.specs.Option.{option_map_or}
use Rattle.std.proofs.lemmas.Bool.{and_parts, or_cases}
use Rattle.std.proofs.lemmas.List.Sums.{sum_by-cons}
use Rattle.svc_values.specs.declared.answer.Answer.{Answer}
use Rattle.svc_values.specs.declared.call.Call.{Call}
use Rattle.svc_values.specs.declared.draw.Draw.{Draw}
use Rattle.svc_values.specs.declared.entry.Ltxid.{Ltxid}
use Rattle.svc_values.specs.declared.entry.SessionId.{SessionId}
use Rattle.svc_values.specs.declared.frame.Up.{Up}
use Rattle.svc_values.specs.declared.frame.Up.TheVariants as up
use Rattle.svc_values.specs.declared.frame.Down.{Down}
use Rattle.svc_values.specs.declared.frame.Down.TheVariants as down
use Rattle.svc_values.specs.meaning.Calls.{has_commit}
use Rattle.svc_values.specs.meaning.Endings.{ends_committed}
use Rattle.svc_values.specs.meaning.Identifiers.{is_of_session, same_session, session_of}
use Rattle.svc_values.specs.meaning.Same.{same_answers, same_bool}
use Rattle.svc_values.specs.SameLaws.{same_answers_decide, same_call_decides}
use Rattle.outage_schedule.specs.declared.item.Item.{Item}
use Rattle.outage_schedule.specs.declared.item.Item.TheVariants as item
use Rattle.outage_schedule.specs.declared.request.ShownCall.{ShownCall}
use Rattle.world_model.specs.records.Basic.{first_is_connect, is_named}
use Rattle.once_laws.specs.CallEndings.{ends_rolled_back, is_rollback, ends_fittingly}
use Rattle.world_model.specs.meaning.Crashing.{is_crashed_item}
use Rattle.world_model.specs.meaning.Frames.{Handled}
use Rattle.world_model.specs.meaning.Links.{Link}
use Rattle.invariant_laws.specs.Once.{is_blocked_reply, shows_at}
use Rattle.world_model.specs.Parts.{has_entry, implies, is_commit_frame}
use Rattle.world_model.specs.meaning.Serving.{is_item_of, reply_of}
use Rattle.once_laws.specs.StoredOnce.{stood_in}
use Rattle.world_model.specs.Traced.{Traced}
use Rattle.world_model.specs.records.Wire.{is_handled, same_replies}
use Rattle.once_laws.proofs.calls.AnsweredCalls.{crashed_not}
use Rattle.world_model.proofs.Offered.{implied, same_session_is}
use Rattle.once_laws.proofs.values.StoredCommits.{stores_item}
use Rattle.once_laws.proofs.calls.ToldCalls.{ShownAt, says}

-- THE CALL ----------------------------------------------------------------------------------------

pub item_commit : (frame : Up) (called : Call) (answers : List Answer) (draws : List Draw) → is_item_of frame (item.Call false called answers draws) ≡ true → has_commit called ≡ true → is_commit_frame frame ≡ true
item_commit (up.Call false kept sent) called answers draws is commits = ap has_commit (sym ((same_call_decides called sent).0 is)) ∙ commits
item_commit (up.Call true kept sent) called answers draws is commits = absurd (let none : ⊥ = cc in none)
item_commit frame called answers draws is commits = absurd (let none : ⊥ = cc in none)

pub any_of_count : {A : Type 0} (test : A → Bool) (xs : List A) → count_by test xs ≡ 1 → list_any test xs ≡ true
any_of_count test [] is = absurd (let none : ⊥ = omega (arith, is) in none)
any_of_count test (x ∷ xs) is = by (test x) (sum_by-cons (λ y. cond (test y) 1 0) x xs) (any_of_count test xs)
  where
    by : (here : Bool) → count_by test (x ∷ xs) ≡ cond here 1 0 + count_by test xs → (count_by test xs ≡ 1 → list_any test xs ≡ true) → (here || list_any test xs) ≡ true
    by true sum later = refl
    by false sum later = later (omega (arith, sum, is))

-- the identifier is of a session
pub record OfSession (x : Ltxid) (session : Option SessionId) : Type 0 where
  pub one : SessionId
  pub is : session ≡ Some one
  pub same : session_of x ≡ one

pub of_session : (x : Ltxid) (session : Option SessionId) → option_map_or (λ one. is_of_session one x) session false ≡ true → OfSession x session
of_session x None is = absurd (let none : ⊥ = cc in none)
of_session x (Some one) is = record { one = one; is = refl; same = same_session_is (session_of x) one is }

-- how a call stored its transaction
pub data Storing (t : Traced) (link : Link) (end : Handled) : Type 0 where
  Answered : (called : Call) (answers : List Answer) (draws : List Draw) → end.served.item ≡ item.Call false called answers draws → is_item_of end.sent.frame (item.Call false called answers draws) ≡ true → ends_committed answers ≡ true → has_commit called ≡ true → Storing t link end
  Stopped : (x : Ltxid) → link.held ≡ Some x → has_entry t.entries x ≡ true → is_none end.reply ≡ true → Storing t link end

ordinary_crash : {A : Type 0} (frame : Up) (marked : Bool) (called : Call) → is_item_of frame (item.CrashedCall marked called) ≡ true → A
ordinary_crash (up.Call replay kept sent) marked called is = absurd (let none : ⊥ = cc in none)
ordinary_crash frame marked called is = absurd (let none : ⊥ = cc in none)

unmarked_by : (marked commits : Bool) → (not marked && commits) ≡ true → (marked ≡ false) × (commits ≡ true)
unmarked_by false commits is = (refl, is)
unmarked_by true commits is = absurd (let none : ⊥ = cc in none)

held_stood : (t : Traced) (held : Option Ltxid) → stood_in t held ≡ true → (x : Ltxid) × ((held ≡ Some x) × (has_entry t.entries x ≡ true))
held_stood t None is = absurd (let none : ⊥ = cc in none)
held_stood t (Some x) is = (x, (refl, is))

pub storing : (t : Traced) (link : Link) (n : ℕ) (end : Handled) → is_handled n end ≡ true → ends_fittingly end.served.item ≡ true → stores_item (stood_in t link.held) end.served.item ≡ true → Storing t link end
storing t link n end handled_so fits stores = by end.served.item refl fits stores
  where
    ways : ((is_item_of end.sent.frame end.served.item && same_replies end.reply (reply_of end.served.session n end.served.item)) ≡ true) ⊎ ((is_crashed_item end.sent.frame end.served.item && is_none end.reply) ≡ true)
    ways = or_cases (is_item_of end.sent.frame end.served.item && same_replies end.reply (reply_of end.served.session n end.served.item)) (is_crashed_item end.sent.frame end.served.item && is_none end.reply) handled_so

    by : (it : Item) → end.served.item ≡ it → ends_fittingly it ≡ true → stores_item (stood_in t link.held) it ≡ true → Storing t link end
    by (item.Call marked called answers draws) is fits stores = cases ways
      where
        both : (marked ≡ false) × (has_commit called ≡ true)
        both = unmarked_by marked (has_commit called) (implied (ends_committed answers) (not marked && has_commit called) stores (and_parts (same_bool (ends_rolled_back answers) (is_rollback called)) (implies (ends_committed answers) (not marked && has_commit called)) fits).1)

        plain : (m : Bool) → m ≡ false → end.served.item ≡ item.Call m called answers draws → is_item_of end.sent.frame (item.Call m called answers draws) ≡ true → Storing t link end
        plain false same is_so of = Answered called answers draws is_so of stores both.1
        plain true same is_so of = absurd (let none : ⊥ = cc in none)

        cases : ((is_item_of end.sent.frame end.served.item && same_replies end.reply (reply_of end.served.session n end.served.item)) ≡ true) ⊎ ((is_crashed_item end.sent.frame end.served.item && is_none end.reply) ≡ true) → Storing t link end
        cases (inl so) = plain marked both.0 is (subst (λ (i : Item). is_item_of end.sent.frame i ≡ true) is (and_parts (is_item_of end.sent.frame end.served.item) (same_replies end.reply (reply_of end.served.session n end.served.item)) so).0)
        cases (inr so) = crashed_not end.sent.frame marked called answers draws (subst (λ (i : Item). is_crashed_item end.sent.frame i ≡ true) is (and_parts (is_crashed_item end.sent.frame end.served.item) (is_none end.reply) so).0)
    by (item.CrashedCall marked called) is fits stores = cases ways
      where
        cases : ((is_item_of end.sent.frame end.served.item && same_replies end.reply (reply_of end.served.session n end.served.item)) ≡ true) ⊎ ((is_crashed_item end.sent.frame end.served.item && is_none end.reply) ≡ true) → Storing t link end
        cases (inl so) = ordinary_crash end.sent.frame marked called (subst (λ (i : Item). is_item_of end.sent.frame i ≡ true) is (and_parts (is_item_of end.sent.frame end.served.item) (same_replies end.reply (reply_of end.served.session n end.served.item)) so).0)
        cases (inr so) = let held = held_stood t link.held stores in Stopped held.0 held.1.0 held.1.1 (and_parts (is_crashed_item end.sent.frame end.served.item) (is_none end.reply) so).1
    by it is fits stores = absurd (let none : ⊥ = cc in none)

pub held_session : (link : Link) (x : Ltxid) → is_named link ≡ true → link.held ≡ Some x → option_map_or (λ session. is_of_session session x) link.session false ≡ true
held_session link x named held =
    let one = and_parts (same_bool (is_some link.session) (first_is_connect link.served)) (implies (is_none link.session) (length link.served == 0) && (list_all (λ h. option_map_or (same_session h.served.session) link.session false) link.served && option_map_or (λ y. option_map_or (same_session (session_of y)) link.session false) link.held true)) named in
    let two = and_parts (implies (is_none link.session) (length link.served == 0)) (list_all (λ h. option_map_or (same_session h.served.session) link.session false) link.served && option_map_or (λ y. option_map_or (same_session (session_of y)) link.session false) link.held true) one.1 in
    let three = and_parts (list_all (λ h. option_map_or (same_session h.served.session) link.session false) link.served) (option_map_or (λ y. option_map_or (same_session (session_of y)) link.session false) link.held true) two.1 in
    sym (ap (λ (h : Option Ltxid). option_map_or (λ (y : Ltxid). option_map_or (same_session (session_of y)) link.session false) h true) held) ∙ three.1

-- the last one, and its place
pub last_place : {A : Type 0} (xs : List A) (x : A) → last_or None xs ≡ Some x → (n : ℕ) × ((slice_get xs n ≡ Some x) × (length xs ≡ n + 1))
last_place [] x is = absurd (let none : ⊥ = cc in none)
last_place (y ∷ []) x is = (zero, (is, omega arith))
last_place (y ∷ z ∷ ys) x is = let rest = last_place (z ∷ ys) x is in (suc rest.0, (rest.1.0, (let long = rest.1.1 in omega (arith, long))))

pub blocked_says : {A : Type 0} (frame : Down) (answers : List Answer) → is_blocked_reply frame ≡ true → says frame answers ≡ true → A
blocked_says down.Blocked answers blocked said = absurd (let none : ⊥ = cc in none)
blocked_says frame answers blocked said = absurd (let none : ⊥ = cc in none)

pub shown_answers : (calls : List ShownCall) (place : ℕ) (given answers : List Answer) → ShownAt calls place answers → shows_at (same_answers given) calls place ≡ true → given ≡ answers
shown_answers calls place given answers told is =
    (same_answers_decide given told.shown.answers).0 (sym (ap (λ (found : Option ShownCall). option_map_or (λ call. same_answers given call.answers) found false) told.at) ∙ is) ∙ told.same

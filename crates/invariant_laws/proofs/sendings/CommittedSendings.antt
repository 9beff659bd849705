-- Of a connection whose session has one entry more than what is held says: the call that made it is
-- a sending of the request that lost the connection, under the identifier that is held there.
use Rattle.std.proofs.Common.{◌≡◌, refl, sym, ap, subst, ◌∙◌, Bool, true, false, ℕ, ◌<◌, ◌&&◌, ◌||◌, List, [], ◌∷◌, filter, Option, Some, None, ◌⊎◌, inl, inr, if◌then◌else◌, arith}
use Rattle.std.specs.Prelude.{◌==◌, not, is_some, is_none, nat_le, nat_lt}
use Rattle.std.specs.Cmp.Lexicographic.{pointwise}
use Rattle.std.specs.List.{list_all, list_any, last_or}
use Rattle.std.specs.Option.{option_map_or}
use Rattle.std.proofs.lemmas.Bool.{and_parts, and_from, or_cases, or_right, or_left}
use Rattle.svc_values.specs.declared.answer.Answer.{Answer}
use Rattle.svc_values.specs.declared.call.Call.{Call}
use Rattle.svc_values.specs.declared.entry.Ltxid.{Ltxid}
use Rattle.svc_values.specs.declared.frame.Up.{Up}
use Rattle.svc_values.specs.declared.frame.Up.TheVariants as up
use Rattle.svc_values.specs.meaning.Calls.{has_commit}
use Rattle.svc_values.specs.meaning.Endings.{ends_committed}
use Rattle.svc_values.specs.meaning.Identifiers.{same_ltxid}
use Rattle.svc_values.specs.meaning.Same.{same_bool, same_call, same_draws}
use Rattle.svc_values.specs.SameLaws.{same_bool_decides, same_call_decides}
use Rattle.world_model.specs.meaning.Frames.{Sent, Handled}
use Rattle.world_model.specs.meaning.Links.{Link, link_at}
use Rattle.invariant_laws.specs.Lost.{is_next}
use Rattle.world_model.specs.records.Number.{is_ahead, ahead_rightly, last_served_made, made_entry}
use Rattle.invariant_laws.specs.Once.{has_fate, answered_blocked, is_frame_of}
use Rattle.world_model.specs.Parts.{Sending, is_rep, is_out, out_frame, is_unmarked, is_unmarked_frame, is_commit_call, is_commit_frame, served_reps, held_number, implies}
use Rattle.world_model.specs.Sames.{owned_by, same_owners, same_sent, same_up}
use Rattle.world_model.specs.records.Script.{is_call_of, is_sending_of, reverse_onto}
use Rattle.invariant_laws.specs.Shown.{ends_own}
use Rattle.world_model.specs.Traced.{Traced, Course}
use Rattle.world_model.proofs.Offered.{implied, any_with, calls_of, on_of, eq_from, eq_to, lt_from}
use Rattle.invariant_laws.proofs.sendings.SendingsTaken.{taken_among}

-- LISTS -------------------------------------------------------------------------------------------

-- the last one that a filter leaves in is one of the list
pub last_found : {A : Type 0} (test keep : A → Bool) (found : Option A) (xs : List A) (x : A) → last_or found (filter keep xs) ≡ Some x → test x ≡ true → (found ≡ Some x) ⊎ (list_any test xs ≡ true)
last_found test keep found [] x is here = inl is
last_found {A} test keep found (first ∷ xs) x is here = by (keep first) is (λ now. last_found test keep (Some first) xs x now here) (λ now. last_found test keep found xs x now here)
  where
    later : (Some first ≡ Some x) ⊎ (list_any test xs ≡ true) → (test first || list_any test xs) ≡ true
    later (inl same) = let equal : first ≡ x = cc in or_left (test first) (list_any test xs) (ap test equal ∙ here)
    later (inr rest) = or_right (test first) (list_any test xs) rest

    still : (found ≡ Some x) ⊎ (list_any test xs ≡ true) → (found ≡ Some x) ⊎ ((test first || list_any test xs) ≡ true)
    still (inl same) = inl same
    still (inr rest) = inr (or_right (test first) (list_any test xs) rest)

    by : (kept : Bool) → last_or found (if kept then first ∷ filter keep xs else filter keep xs) ≡ Some x → (last_or (Some first) (filter keep xs) ≡ Some x → (Some first ≡ Some x) ⊎ (list_any test xs ≡ true))
        → (last_or found (filter keep xs) ≡ Some x → (found ≡ Some x) ⊎ (list_any test xs ≡ true)) → (found ≡ Some x) ⊎ ((test first || list_any test xs) ≡ true)
    by true is with_it without = inr (later (with_it is))
    by false is with_it without = still (without is)

pub filter_any : {A : Type 0} (test keep : A → Bool) (xs : List A) → list_any (λ x. test x && keep x) xs ≡ true → list_any test (filter keep xs) ≡ true
filter_any test keep [] any = any
filter_any test keep (x ∷ xs) any = by (keep x) (or_cases (test x && keep x) (list_any (λ y. test y && keep y) xs) any) (λ later. filter_any test keep xs later)
  where
    by : (kept : Bool) → ((test x && kept) ≡ true) ⊎ (list_any (λ y. test y && keep y) xs ≡ true) → (list_any (λ y. test y && keep y) xs ≡ true → list_any test (filter keep xs) ≡ true)
        → list_any test (if kept then x ∷ filter keep xs else filter keep xs) ≡ true
    by true (inl here) again = or_left (test x) (list_any test (filter keep xs)) (and_parts (test x) true here).0
    by true (inr later) again = or_right (test x) (list_any test (filter keep xs)) (again later)
    by false (inl here) again = absurd (let never : false ≡ true = (and_parts (test x) false here).1 in let none : ⊥ = cc in none)
    by false (inr later) again = again later

pub any_filtered : (test keep : Sending → Bool) (xs : List Sending) → list_any test (filter keep xs) ≡ true → list_any (λ x. test x && keep x) xs ≡ true
any_filtered test keep [] any = any
any_filtered test keep (x ∷ xs) any = by (keep x) any (λ later. any_filtered test keep xs later)
  where
    either : (test x ≡ true) ⊎ (list_any test (filter keep xs) ≡ true) → (list_any test (filter keep xs) ≡ true → list_any (λ y. test y && keep y) xs ≡ true) → ((test x && true) || list_any (λ y. test y && keep y) xs) ≡ true
    either (inl here) again = or_left (test x && true) (list_any (λ y. test y && keep y) xs) (and_from (test x) true here refl)
    either (inr later) again = or_right (test x && true) (list_any (λ y. test y && keep y) xs) (again later)

    by : (kept : Bool) → list_any test (if kept then x ∷ filter keep xs else filter keep xs) ≡ true → (list_any test (filter keep xs) ≡ true → list_any (λ y. test y && keep y) xs ≡ true)
        → ((test x && kept) || list_any (λ y. test y && keep y) xs) ≡ true
    by true any again = either (or_cases (test x) (list_any test (filter keep xs)) any) again
    by false any again = or_right (test x && false) (list_any (λ y. test y && keep y) xs) (again any)

pub any_reversed : (test : Sending → Bool) (xs done : List Sending) → list_any test (reverse_onto xs done) ≡ true → (list_any test xs || list_any test done) ≡ true
any_reversed test [] done any = any
any_reversed test (x ∷ xs) done any = by (test x) (list_any test xs) (any_reversed test xs (x ∷ done) any)
  where
    by : (one more : Bool) → (more || (one || list_any test done)) ≡ true → ((one || more) || list_any test done) ≡ true
    by true more any = refl
    by false true any = refl
    by false false any = any

pub any_pair : (test : Sent → Bool) (next : Sending → Bool) (xs : List Sent) (ys : List Sending) → ((x : Sent) (y : Sending) → is_sending_of x y ≡ true → test x ≡ true → next y ≡ true) → pointwise is_sending_of xs ys ≡ true → list_any test xs ≡ true
    → list_any next ys ≡ true
any_pair test next [] ys goes pairs any = absurd (let none : ⊥ = cc in none)
any_pair test next (x ∷ xs) [] goes pairs any = absurd (let none : ⊥ = cc in none)
any_pair test next (x ∷ xs) (y ∷ ys) goes pairs any =
    let parts = and_parts (is_sending_of x y) (pointwise is_sending_of xs ys) pairs in by (or_cases (test x) (list_any test xs) any) parts.0 (λ later. any_pair test next xs ys goes parts.1 later)
  where
    by : (test x ≡ true) ⊎ (list_any test xs ≡ true) → is_sending_of x y ≡ true → (list_any test xs ≡ true → list_any next ys ≡ true) → (next y || list_any next ys) ≡ true
    by (inl here) pair again = or_left (next y) (list_any next ys) (goes x y pair here)
    by (inr later) pair again = or_right (next y) (list_any next ys) (again later)

pub either_false : (a : Bool) → (a || false) ≡ true → a ≡ true
either_false true is = refl
either_false false is = is

-- WHAT IS OUT -------------------------------------------------------------------------------------

-- the call that made an entry is out
pub record CommitOut (link : Link) : Type 0 where
  pub sent : Sent
  pub is : out_frame link ≡ Some sent
  pub commits : is_commit_call sent ≡ true

pub commit_alike : (a b : Up) → same_up a b ≡ true → is_commit_frame a ≡ true → is_commit_frame b ≡ true
commit_alike (up.Call false k c) (up.Call s l d) same commit = by s refl
  where
    parts : (same_bool false s ≡ true) × ((same_draws k l && same_call c d) ≡ true)
    parts = and_parts (same_bool false s) (same_draws k l && same_call c d) same

    by : (mark : Bool) → s ≡ mark → is_commit_frame (up.Call s l d) ≡ true
    by true is = absurd (let never : false ≡ true = (same_bool_decides false s).0 parts.0 ∙ is in let none : ⊥ = cc in none)
    by false is =
        ap (λ (m : Bool). is_commit_frame (up.Call m l d)) is
        ∙ subst (λ (one : Call). has_commit one ≡ true) ((same_call_decides c d).0 (and_parts (same_draws k l) (same_call c d) parts.1).1) commit
commit_alike a b same commit = absurd (let none : ⊥ = cc in none)

pub commit_out : (t : Traced) (link : Link) → is_ahead t link ≡ true → ahead_rightly t link ≡ true → CommitOut link
commit_out t link is rightly = by (last_or None (served_reps link)) (out_frame link) refl (and_parts (last_served_made link) (not (list_any is_commit_call link.up)) (and_parts (is_out link) _ ahead).1).0
  where
    ahead : (is_out link && (last_served_made link && not (list_any is_commit_call link.up))) ≡ true
    ahead = implied (is_ahead t link) (is_out link && (last_served_made link && not (list_any is_commit_call link.up))) is rightly

    by : (last : Option Handled) (out : Option Sent) → out_frame link ≡ out → option_map_or (λ one. made_entry one.served.item && (is_commit_call one.sent && option_map_or (same_sent one.sent) out false)) last false ≡ true → CommitOut link
    by None out at made = absurd (let none : ⊥ = cc in none)
    by (Some one) None at made =
        absurd (let never : false ≡ true = (and_parts (is_commit_call one.sent) false (and_parts (made_entry one.served.item) (is_commit_call one.sent && false) made).1).1 in let none : ⊥ = cc in none)
    by (Some one) (Some sent) at made =
        let both = and_parts (is_commit_call one.sent) (same_sent one.sent sent) (and_parts (made_entry one.served.item) (is_commit_call one.sent && same_sent one.sent sent) made).1 in
        let same = and_parts (same_owners one.sent.owner sent.owner) ((one.sent.call == sent.call) && same_up one.sent.frame sent.frame) both.1 in
        record { sent = sent; is = at; commits = commit_alike one.sent.frame sent.frame (and_parts (one.sent.call == sent.call) (same_up one.sent.frame sent.frame) same.1).1 both.0 }

pub commit_unmarked : (frame : Up) → is_commit_frame frame ≡ true → is_unmarked_frame frame ≡ true
commit_unmarked (up.Call false kept call) commit = refl
commit_unmarked frame commit = absurd (let none : ⊥ = cc in none)

-- ITS SENDING -------------------------------------------------------------------------------------

abbrev pub calls_at : ℕ → Sent → Bool
calls_at count sent = (sent.call == count) && is_commit_call sent

abbrev pub sends_at : ℕ → Sending → Bool
sends_at count sending = (sending.at == count) && has_commit sending.call

pub pair_sends : (count : ℕ) (sent : Sent) (sending : Sending) → is_sending_of sent sending ≡ true → calls_at count sent ≡ true → sends_at count sending ≡ true
pair_sends count sent sending pair here =
    let one = and_parts (sent.call == sending.at) (is_call_of sending.call sent.frame) pair in
    let two = and_parts (sent.call == count) (is_commit_call sent) here in
    and_from (sending.at == count) (has_commit sending.call) (eq_to sending.at count (sym (eq_from sent.call sending.at one.0) ∙ eq_from sent.call count two.0)) (by sent.frame one.1 two.1)
  where
    by : (frame : Up) → is_call_of sending.call frame ≡ true → is_commit_frame frame ≡ true → has_commit sending.call ≡ true
    by (up.Call false kept call) is commit = subst (λ (one : Call). has_commit one ≡ true) (sym ((same_call_decides sending.call call).0 is)) commit
    by frame is commit = absurd (let none : ⊥ = cc in none)

-- it is one with a commit, under this identifier and of the call at this place, and no reply to it
-- was taken
abbrev pub is_unanswered : Ltxid → ℕ → Sending → Bool
is_unanswered x count sending = same_ltxid sending.ltxid x && ((sending.at == count) && (has_commit sending.call && is_none sending.taken))

-- what became of one with a commit, on the connection of its number
abbrev pub fated : List Link → Sending → Bool
fated links sending = implies (has_commit sending.call) (option_map_or (has_fate sending) (link_at links sending.connection) false)

module _ (links : List Link) (count number : ℕ) (link : Link) (x : Ltxid) (there : link_at links number ≡ Some link) (held : link.held ≡ Some x) where
  -- one that was not answered is under what is held
  under_held : (sending : Sending) → (sends_at count sending && (sending.connection == number)) ≡ true → (taken_among count sending && fated links sending) ≡ true → is_unanswered x count sending ≡ true
  under_held sending here known =
      let one = and_parts (sends_at count sending) (sending.connection == number) here in
      let at = and_parts (sending.at == count) (has_commit sending.call) one.0 in
      let two = and_parts (taken_among count sending) (fated links sending) known in
      let fate : option_map_or (has_fate sending) (link_at links sending.connection) false ≡ true = implied (has_commit sending.call) (option_map_or (has_fate sending) (link_at links sending.connection) false) at.1 two.1 in
      let found : link_at links sending.connection ≡ Some link = ap (link_at links) (eq_from sending.connection number one.1) ∙ there in
      let its : has_fate sending link ≡ true = sym (ap (λ (l : Option Link). option_map_or (has_fate sending) l false) found) ∙ fate in
      let three = and_parts (nat_le sending.ltxid.number (held_number link)) _ its in
      let four = and_parts (option_map_or (λ answers. implies (ends_committed answers) (nat_lt sending.ltxid.number (held_number link))) sending.taken true) _ three.1 in
      let none : is_none sending.taken ≡ true = untaken (and_parts (nat_le sending.at count) (implies (is_some sending.taken) (nat_lt sending.at count)) two.0).1 (eq_from sending.at count at.0) in
      and_from (same_ltxid sending.ltxid x) ((sending.at == count) && (has_commit sending.call && is_none sending.taken)) (same_held (implied (is_none sending.taken) _ none four.1))
      (and_from (sending.at == count) (has_commit sending.call && is_none sending.taken) at.0 (and_from (has_commit sending.call) (is_none sending.taken) at.1 none))
    where
      untaken : implies (is_some sending.taken) (nat_lt sending.at count) ≡ true → sending.at ≡ count → is_none sending.taken ≡ true
      untaken late same = by sending.taken late
        where
          by : (taken : Option (List Answer)) → implies (is_some taken) (nat_lt sending.at count) ≡ true → is_none taken ≡ true
          by None late = refl
          by (Some answers) late = let less : sending.at < count = lt_from sending.at count late in absurd (let never : ⊥ = omega (arith, less, same) in never)

      same_held : ((is_out link || answered_blocked link) && (option_map_or (same_ltxid sending.ltxid) link.held false && option_map_or (is_frame_of sending) (out_frame link) false)) ≡ true → same_ltxid sending.ltxid x ≡ true
      same_held fate =
          let parts = and_parts (is_out link || answered_blocked link) _ fate in
          sym (ap (λ (one : Option Ltxid). option_map_or (same_ltxid sending.ltxid) one false) held) ∙ (and_parts (option_map_or (same_ltxid sending.ltxid) link.held false) (option_map_or (is_frame_of sending) (out_frame link) false) parts.1).0

  pub committed_sending : (t : Traced) (course : Course) (sendings : List Sending) → is_ahead t link ≡ true → ahead_rightly t link ≡ true → is_next count link ≡ true → ends_own course link ≡ true
      → pointwise is_sending_of (calls_of course.owner link.sent) (on_of number sendings) ≡ true → list_all (λ (s : Sending). taken_among count s && fated links s) sendings ≡ true
      → list_any (is_unanswered x count) sendings ≡ true
  committed_sending t course sendings ahead rightly next own agrees known =
      any_with (λ (s : Sending). sends_at count s && (s.connection == number)) (λ (s : Sending). taken_among count s && fated links s) (is_unanswered x count) sendings under_held
      (any_filtered (sends_at count) (λ (s : Sending). s.connection == number) sendings
      (either_false (list_any (sends_at count) (filter (λ (s : Sending). s.connection == number) sendings)) (any_reversed (sends_at count) (filter (λ (s : Sending). s.connection == number) sendings) []
      (any_pair (calls_at count) (sends_at count) (calls_of course.owner link.sent) (on_of number sendings) (pair_sends count) agrees among)))) known
    where
      out : CommitOut link
      out = commit_out t link ahead rightly

      unmarked : is_unmarked out.sent ≡ true
      unmarked = commit_unmarked out.sent.frame out.commits

      is_out_now : is_out link ≡ true
      is_out_now = (and_parts (is_out link) _ (implied (is_ahead t link) (is_out link && (last_served_made link && not (list_any is_commit_call link.up))) ahead rightly)).0

      at : (out.sent.call == count) ≡ true
      at =
          implied (is_unmarked out.sent) (out.sent.call == count) unmarked
          (sym (ap (λ (found : Option Sent). option_map_or (λ sent. implies (is_unmarked sent) (sent.call == count)) found true) out.is)
          ∙ implied (is_out link) (option_map_or (λ sent. implies (is_unmarked sent) (sent.call == count)) (out_frame link) true) is_out_now next)

      mine : owned_by course.owner out.sent ≡ true
      mine = sym (ap (λ (found : Option Sent). option_map_or (owned_by course.owner) found false) out.is) ∙ own

      among : list_any (calls_at count) (calls_of course.owner link.sent) ≡ true
      among =
          filter_any (calls_at count) (λ (s : Sent). owned_by course.owner s && is_unmarked s) link.sent
          (by (last_found (λ (s : Sent). calls_at count s && (owned_by course.owner s && is_unmarked s)) is_rep None link.sent out.sent out.is
          (and_from (calls_at count out.sent) (owned_by course.owner out.sent && is_unmarked out.sent) (and_from (out.sent.call == count) (is_commit_call out.sent) at out.commits) (and_from (owned_by course.owner out.sent) (is_unmarked out.sent) mine unmarked))))
        where
          by : (None ≡ Some out.sent) ⊎ (list_any (λ (s : Sent). calls_at count s && (owned_by course.owner s && is_unmarked s)) link.sent ≡ true) → list_any (λ (s : Sent). calls_at count s && (owned_by course.owner s && is_unmarked s)) link.sent ≡ true
          by (inl never) = absurd (let none : ⊥ = cc in none)
          by (inr any) = any

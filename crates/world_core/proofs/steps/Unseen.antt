-- A client's step leaves what the service knows of connections, but for a connection that it opens.
use Rattle.std.proofs.Common.{◌≡◌, ℕ, ◌+◌, ◌==◌, Bool, true, false, List, [], ◌∷◌, ◌++◌, Option, Some, None, length, map, refl, sym, ap, ap₂, subst, ◌∙◌}
use Rattle.std.specs.Prelude.{unwrap_or, option_and_then, if◌then◌else◌}
use Rattle.std.specs.List.{list_any}
use Rattle.std.specs.Option.{option_map_or}
use Rattle.std.proofs.lemmas.Bool.{and_parts, eqb-true}
use Rattle.svc_values.specs.declared.entry.Ltxid.{Ltxid}
use Rattle.pool_core.specs.declared.answers.Take.{Take}
use Rattle.pool_core.specs.declared.answers.Take.TheVariants as take
use Rattle.pool_core.specs.meaning.Slots.{take_answer, after_take, after_opened}
use Rattle.client_model.specs.declared.input.Input.{Input}
use Rattle.client_model.specs.declared.input.Input.TheVariants.{Waiting, Lent, Opened, TryFailed, Took, Gone}
use Rattle.client_model.specs.declared.input.Wants.{Wants}
use Rattle.client_model.specs.declared.input.Wants.TheVariants as wants
use Rattle.client_model.specs.meaning.Talk.{wants_of}
use Rattle.outage_schedule.specs.declared.note.GoNote.{GoNote}
use Rattle.outage_schedule.specs.declared.note.GoNote.TheVariants as go
use Rattle.world_model.specs.meaning.Acting.{act_at, call_in, connection_of, frames_of, loses, owner_at, sent_by, steps}
use Rattle.world_model.specs.meaning.Clients.{Client, Doing, client_at, doing_at, doing_of, heard}
use Rattle.world_model.specs.meaning.Frames.{Reply, Sent}
use Rattle.world_model.specs.meaning.Going.{finds_none, follow_go, goes, goes_by, lends, looks, looks_at, lost_at_once, noted, takes_reply, takes_slot, tries_while, unless_open}
use Rattle.world_model.specs.meaning.Links.{Link, new_link, link_at, with_link, changed, ends, sends, takes, is_close}
use Rattle.world_model.specs.meaning.Machines.{Machine}
use Rattle.world_model.specs.meaning.Noting.{only_if, same_did}
use Rattle.world_model.specs.meaning.Settings.{Setting}
use Rattle.world_core.specs.Beside.{opened_in}
use Rattle.world_core.proofs.Coupling.{view, views, view_with}

-- WHAT IS SENT ------------------------------------------------------------------------------------

view_ends : (event : ℕ) (link : Link) → view (ends event link) ≡ view link
view_ends event link = by link.is_open
  where
    by : (opens : Bool) → view (if opens then record link { is_open = false; ended = Some event } else link) ≡ view link
    by true = refl
    by false = refl

view_sends : (event : ℕ) (frames : List Sent) (link : Link) → view (sends event frames link) ≡ view link
view_sends event frames link = by (list_any (λ (sent : Sent). is_close sent.frame) frames)
  where
    by : (closes : Bool) → view (if closes then ends event (record link { sent = link.sent ++ frames; up = link.up ++ frames }) else record link { sent = link.sent ++ frames; up = link.up ++ frames }) ≡ view link
    by true = view_ends event (record link { sent = link.sent ++ frames; up = link.up ++ frames })
    by false = refl

changed_views : (change : Link → Link) (links : List Link) (number : ℕ) (found : Option Link) → ((link : Link) → view (change link) ≡ view link) → link_at links number ≡ found → views (option_map_or (λ (link : Link). with_link links number (change link)) found links) ≡ views links
changed_views change links number None same there = refl
changed_views change links number (Some link) same there = view_with links number link (change link) there (same link)

pub sent_views : (event : ℕ) (frames : List Sent) (links : List Link) (number : ℕ) → views (changed (sends event frames) links number) ≡ views links
sent_views event frames links number = changed_views (sends event frames) links number (link_at links number) (view_sends event frames) refl

-- STEPS -------------------------------------------------------------------------------------------

steps_views : (setting : Setting) (m : Machine) (number : ℕ) (doing : Doing) (holds_slot : Bool) (input : Input) → views (steps setting m number doing holds_slot input).links ≡ views m.links
steps_views setting m number doing holds_slot input =
    sent_views m.event (map (sent_by (owner_at m number) (call_in (heard setting.terms m.event m.tick doing input).talk.phase)) (frames_of m.pool (connection_of doing) (act_at setting m doing input))) m.links (connection_of doing)

lost_views : (setting : Setting) (m : Machine) (number : ℕ) (ended : Option ℕ) (now : Option Doing) → views (lost_at_once setting m number ended now).links ≡ views m.links
lost_views setting m number ended None = refl
lost_views setting m number ended (Some doing) = steps_views setting m number (record doing { connection = None }) true (Gone (unwrap_or ended 0))

unless_views : (setting : Setting) (m : Machine) (number : ℕ) (link : Link) → views (unless_open setting m number link).links ≡ views m.links
unless_views setting m number link = by link.is_open
  where
    by : (opens : Bool) → views (if opens then m else lost_at_once setting m number link.ended (doing_at m.clients number)).links ≡ views m.links
    by true = refl
    by false = lost_views setting m number link.ended (doing_at m.clients number)

-- NOTES -------------------------------------------------------------------------------------------

note_is : (did expected : GoNote) → same_did did expected ≡ true → did ≡ expected
note_is go.Idle go.Idle is = refl
note_is go.Wait go.Wait is = refl
note_is go.NoFrame go.NoFrame is = refl
note_is go.Early go.Early is = refl
note_is go.Down go.Down is = refl
note_is (go.Open a) (go.Open b) is = ap (λ (n : ℕ). go.Open n) (eqb-true a b is)
note_is (go.Lent a) (go.Lent b) is = ap (λ (n : ℕ). go.Lent n) (eqb-true a b is)
note_is (go.Took a many) (go.Took b more) is = let both = and_parts (a == b) (many == more) is in ap₂ (λ (n : ℕ) (sent : ℕ). go.Took n sent) (eqb-true a b both.0) (eqb-true many more both.1)
note_is (go.Lost a) (go.Lost b) is = ap (λ (n : ℕ). go.Lost n) (eqb-true a b is)
note_is did expected is = absurd (let none : ⊥ = cc in none)

some_machine : (a b : Machine) → ◌≡◌ {A = Option Machine} (Some a) (Some b) → a ≡ b
some_machine a b is = cc

noted_is : (did expected : GoNote) (next n : Machine) → noted did expected next ≡ Some n → (did ≡ expected) × (next ≡ n)
noted_is did expected next n = by (same_did did expected) refl
  where
    by : (same : Bool) → same_did did expected ≡ same → only_if same next ≡ Some n → (did ≡ expected) × (next ≡ n)
    by true is e = (note_is did expected is, some_machine next n e)
    by false is e = absurd (let none : ⊥ = cc in none)

-- what the service knows of these connections later, where this one was opened or none
abbrev pub Leaves : List Link → Bool → Option ℕ → List Link → Type 0
Leaves links is_up None later = views later ≡ views links
Leaves links is_up (Some number) later = (number ≡ length links + 1) × (is_up ≡ true) × (views later ≡ views (links ++ new_link ∷ []))

noted_leaves : (links : List Link) (is_up : Bool) (did expected : GoNote) (next n : Machine) → Leaves links is_up (opened_in expected) next.links → noted did expected next ≡ Some n → Leaves links is_up (opened_in did) n.links
noted_leaves links is_up did expected next n leaves e =
    let both = noted_is did expected next n e in
    subst (λ (m : Machine). Leaves links is_up (opened_in did) m.links) both.1 (subst (λ (d : GoNote). Leaves links is_up (opened_in d) next.links) (sym both.0) leaves)

-- WHAT A STEP LEAVES ------------------------------------------------------------------------------

abbrev LeavesFrom : Machine → GoNote → Machine → Type 0
LeavesFrom m did n = Leaves m.links m.server.is_up (opened_in did) n.links

module _ (setting : Setting) (number : ℕ) (did : GoNote) (n : Machine) where
  tries_leave : (m : Machine) (doing : Doing) (is_up : Bool) → m.server.is_up ≡ is_up → tries_while setting m number did doing is_up ≡ Some n → LeavesFrom m did n
  tries_leave m doing true up e =
      let next : ℕ = length m.links + 1 in
      let opening : Machine = record m { links = m.links ++ new_link ∷ []; pool = after_opened m.pool next } in
      noted_leaves m.links m.server.is_up did (go.Open next) (steps setting opening number (record doing { connection = Some next }) true (Opened next)) n
      (refl, up, steps_views setting opening number (record doing { connection = Some next }) true (Opened next)) e
  tries_leave m doing false up e = noted_leaves m.links m.server.is_up did go.Down (steps setting m number doing true TryFailed) n (steps_views setting m number doing true TryFailed) e

  lends_leave : (m : Machine) (doing : Doing) (connection : ℕ) (has : Option Ltxid) → lends setting m number did doing connection has ≡ Some n → LeavesFrom m did n
  lends_leave m doing connection None e = absurd (let none : ⊥ = cc in none)
  lends_leave m doing connection (Some ltxid) e =
      noted_leaves m.links m.server.is_up did (go.Lent connection) (steps setting m number (record doing { connection = Some connection }) true (Lent connection ltxid)) n
      (steps_views setting m number (record doing { connection = Some connection }) true (Lent connection ltxid)) e

  slot_leaves : (m : Machine) (doing : Doing) (answer : Take) → takes_slot setting m number did doing answer ≡ Some n → LeavesFrom m did n
  slot_leaves m doing take.Waiting e = noted_leaves m.links m.server.is_up did go.Wait (steps setting m number doing false Waiting) n (steps_views setting m number doing false Waiting) e
  slot_leaves m doing (take.Lent connection) e = lends_leave m doing connection (option_and_then (λ (link : Link). link.held) (link_at m.links connection)) e
  slot_leaves m doing take.Open e = tries_leave m doing m.server.is_up refl e

  none_leaves : (m : Machine) (doing : Doing) (connection : ℕ) (link : Link) → finds_none setting m number did doing connection link ≡ Some n → LeavesFrom m did n
  none_leaves m doing connection link = by link.is_open
    where
      by : (opens : Bool) → (if opens then noted did go.NoFrame m else noted did (go.Lost connection) (loses setting m number doing link.ended)) ≡ Some n → LeavesFrom m did n
      by true e = noted_leaves m.links m.server.is_up did go.NoFrame m n refl e
      by false e =
          noted_leaves m.links m.server.is_up did (go.Lost connection) (loses setting m number doing link.ended) n
          (steps_views setting m number (record doing { connection = None }) true (Gone (unwrap_or link.ended 0))) e

  reply_leaves : (m : Machine) (doing : Doing) (connection : ℕ) (link : Link) (reply : Reply) (left : List Reply) → link_at m.links connection ≡ Some link → takes_reply setting m number did doing connection link reply left ≡ Some n → LeavesFrom m did n
  reply_leaves m doing connection link reply left there e =
      let input : Input = Took reply.frame link.is_open in
      let taking : Machine = record m { links = with_link m.links connection (takes input reply left link) } in
      let heard_it : Machine = steps setting taking number doing true input in
      noted_leaves m.links m.server.is_up did (go.Took connection (length (frames_of m.pool connection (act_at setting m doing input)))) (unless_open setting heard_it number link) n
      (unless_views setting heard_it number link ∙ (steps_views setting taking number doing true input ∙ view_with m.links connection link (takes input reply left link) there refl)) e

  looks_leave : (m : Machine) (doing : Doing) (connection : ℕ) (link : Link) (down : List Reply) → link_at m.links connection ≡ Some link → looks setting m number did doing connection link down ≡ Some n → LeavesFrom m did n
  looks_leave m doing connection link [] there e = none_leaves m doing connection link e
  looks_leave m doing connection link (reply ∷ left) there e = reply_leaves m doing connection link reply left there e

  found_leaves : (m : Machine) (doing : Doing) (connection : ℕ) (found : Option Link) → link_at m.links connection ≡ found → option_and_then (λ (link : Link). looks setting m number did doing connection link link.down) found ≡ Some n → LeavesFrom m did n
  found_leaves m doing connection None there e = absurd (let none : ⊥ = cc in none)
  found_leaves m doing connection (Some link) there e = looks_leave m doing connection link link.down there e

  frame_leaves : (m : Machine) (doing : Doing) (has : Option ℕ) → option_and_then (looks_at setting m number did doing) has ≡ Some n → LeavesFrom m did n
  frame_leaves m doing None e = absurd (let none : ⊥ = cc in none)
  frame_leaves m doing (Some connection) e = found_leaves m doing connection (link_at m.links connection) refl e

  wish_leaves : (m : Machine) (doing : Doing) (wanted : Wants) → goes_by setting m number did doing wanted ≡ Some n → LeavesFrom m did n
  wish_leaves m doing wants.Idle e = absurd (let none : ⊥ = cc in none)
  wish_leaves m doing wants.Request e = absurd (let none : ⊥ = cc in none)
  wish_leaves m doing wants.Slot e = slot_leaves (record m { pool = after_take m.pool number }) doing (take_answer m.pool number) e
  wish_leaves m doing wants.Try e = tries_leave m doing m.server.is_up refl e
  wish_leaves m doing wants.Early e = noted_leaves m.links m.server.is_up did go.Early m n refl e
  wish_leaves m doing wants.Frame e = frame_leaves m doing doing.connection e

  doing_leaves : (m : Machine) (now : Option Doing) → goes setting m number did now ≡ Some n → LeavesFrom m did n
  doing_leaves m None e = noted_leaves m.links m.server.is_up did go.Idle m n refl e
  doing_leaves m (Some doing) e = wish_leaves m doing (wants_of setting.terms doing.talk m.tick) e

  client_leaves : (m : Machine) (found : Option Client) → option_and_then (λ (client : Client). goes setting m number did (doing_of setting.terms m.event m.tick client)) found ≡ Some n → LeavesFrom m did n
  client_leaves m None e = absurd (let none : ⊥ = cc in none)
  client_leaves m (Some client) e = doing_leaves m (doing_of setting.terms m.event m.tick client) e

  -- behind a step of a client
  pub go_leaves : (m : Machine) → follow_go setting m number did ≡ Some n → LeavesFrom m did n
  go_leaves m e = client_leaves m (client_at m.clients number) e

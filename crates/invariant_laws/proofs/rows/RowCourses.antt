-- The calls of a request are in a row on each connection that it held, where its client steps.
use Rattle.std.proofs.Common.{◌≡◌, refl, ap, ◌∙◌, Bool, true, false, ℕ, ◌&&◌, List, [], ◌∷◌, ◌++◌, map, Option, Some, None, if◌then◌else◌}
use Rattle.std.specs.Prelude.{◌==◌, not, Ok, Err}
use Rattle.std.specs.List.{list_all, last_or}
use Rattle.std.specs.Option.{option_map_or}
use Rattle.std.specs.Str.{bytes_eq}
use Rattle.std.proofs.lemmas.Bool.{and_parts}
use Rattle.std.proofs.lemmas.List.Elements.{filter-append}
use Rattle.svc_values.specs.declared.draw.Draw.{Draw}
use Rattle.svc_values.specs.declared.answer.Answer.{Answer}
use Rattle.svc_values.specs.declared.call.Call.{Call}
use Rattle.svc_values.specs.declared.entry.Ltxid.{Ltxid}
use Rattle.svc_values.specs.declared.frame.Up.{Up}
use Rattle.svc_values.specs.declared.frame.Up.TheVariants as up
use Rattle.svc_values.specs.declared.frame.Down.{Down}
use Rattle.svc_values.specs.declared.frame.Down.TheVariants as down
use Rattle.svc_values.specs.meaning.Same.{same_bool}
use Rattle.call_recorder.specs.declared.recorded.Recorded.{Recorded}
use Rattle.pool_core.specs.declared.answers.Back.{Back}
use Rattle.pool_core.specs.declared.answers.Back.TheVariants as back
use Rattle.client_model.specs.declared.act.Hold.{Hold}
use Rattle.client_model.specs.declared.act.Hold.TheVariants as hold
use Rattle.client_model.specs.meaning.States.{Living, Repeating, next_of}
use Rattle.client_model.specs.meaning.Terms.{Terms, Talk, Phase, Replaying}
use Rattle.client_model.specs.meaning.Talk.{sends_or_ends, next_call, sends_marked, on_compared, on_repeated, takes}
use Rattle.client_model.specs.meaning.Verifying.{verified_more, mismatch, submitted}
use Rattle.world_model.specs.meaning.Acting.{closing, sent_by}
use Rattle.world_model.specs.meaning.Frames.{Owner, Sent}
use Rattle.world_model.specs.records.Hold.{is_awaited, is_ask, is_connect, is_call as is_awaited_call}
use Rattle.world_model.specs.meaning.Links.{Link, link_at}
use Rattle.world_model.specs.Parts.{is_answered, is_unmarked}
use Rattle.world_model.specs.Sames.{owned_by, same_owner}
use Rattle.invariant_laws.specs.Shown.{is_call, is_current, is_row}
use Rattle.world_model.specs.Traced.{Course}
use Rattle.world_model.specs.records.Wire.{stage_of, is_right}
use Rattle.invariant_laws.proofs.rows.RowLast.{row_of, is_opening}
use Rattle.invariant_laws.proofs.talks.TalkRows.{no_calls}
use Rattle.world_model.proofs.Offered.{eq_from}

-- LISTS -------------------------------------------------------------------------------------------

-- of one connection
abbrev pub row_test : Course → ℕ → List Sent → Bool
row_test course number sents = is_row course (is_current course number) (row_of course.owner sents)

-- frames without a call
pub silent_row : (owner other : Owner) (call : ℕ) (frames : List Up) → no_calls frames ≡ true → row_of owner (map (sent_by other call) frames) ≡ []
silent_row owner other call [] none = refl
silent_row owner other call (frame ∷ frames) none =
    let parts = and_parts (not (is_call frame)) (no_calls frames) none in by (same_owner owner other) (is_call frame) parts.0 (silent_row owner other call frames parts.1)
  where
    by : (mine call_so : Bool) → not call_so ≡ true → row_of owner (map (sent_by other call) frames) ≡ []
        → (if mine && call_so then sent_by other call frame ∷ row_of owner (map (sent_by other call) frames) else row_of owner (map (sent_by other call) frames)) ≡ []
    by mine true is rest = absurd (let never : ⊥ = cc in never)
    by true false is rest = rest
    by false false is rest = rest

-- frames of another request
pub others_row : (owner other : Owner) (call : ℕ) (frames : List Up) → same_owner owner other ≡ false → row_of owner (map (sent_by other call) frames) ≡ []
others_row owner other call [] differs = refl
others_row owner other call (frame ∷ frames) differs =
    ap (λ (test : Bool). if test && is_call frame then sent_by other call frame ∷ row_of owner (map (sent_by other call) frames) else row_of owner (map (sent_by other call) frames)) differs ∙ others_row owner other call frames differs

pub closing_silent : (held : Hold) (how : Back) → no_calls (closing held how) ≡ true
closing_silent hold.Keep how = refl
closing_silent hold.Drop how = refl
closing_silent hold.GiveBack back.Closed = refl
closing_silent hold.GiveBack back.Idle = refl

pub row_append : (owner : Owner) (sents more : List Sent) → row_of owner (sents ++ more) ≡ row_of owner sents ++ row_of owner more
row_append owner sents more = filter-append (λ sent. owned_by owner sent && is_call sent.frame) sents more

pub strange_row : (owner : Owner) (sents : List Sent) → list_all (λ (sent : Sent). not (owned_by owner sent)) sents ≡ true → row_of owner sents ≡ []
strange_row owner [] strange = refl
strange_row owner (sent ∷ sents) strange =
    let parts = and_parts (not (owned_by owner sent)) (list_all (λ (s : Sent). not (owned_by owner s)) sents) strange in by (owned_by owner sent) parts.0 (strange_row owner sents parts.1)
  where
    by : (mine : Bool) → not mine ≡ true → row_of owner sents ≡ [] → (if mine && is_call sent.frame then sent ∷ row_of owner sents else row_of owner sents) ≡ []
    by true is later = absurd (let none : ⊥ = cc in none)
    by false is later = later

-- A REPLAY SHOWS NOTHING --------------------------------------------------------------------------

pub call_shows : (terms : Terms) (talk : Talk) (state : Living) (alive : Bool) (before : List Up) (now : ℕ) (next : Option Call) → (sends_or_ends terms talk state alive before None now next).1.shown ≡ None
call_shows terms talk state alive before now None = refl
call_shows terms talk state true before now (Some call) = refl
call_shows terms talk state false before now (Some call) = refl

pub marked_shows : (terms : Terms) (talk : Talk) (state : Repeating) (alive : Bool) (before : List Up) (now : ℕ) (one : Option Recorded) → (sends_marked terms talk state alive before now one).1.shown ≡ None
marked_shows terms talk state alive before now None = call_shows terms talk (submitted state) alive before now (next_call talk)
marked_shows terms talk state alive before now (Some one) = refl

compared_shows : (terms : Terms) (talk : Talk) (state : Repeating) (seen answers : List ℕ) (alive : Bool) (now : ℕ) (test : Bool)
    → (on_compared terms talk alive now (if test then Ok (verified_more state) else Err (mismatch state seen answers))).1.shown ≡ None
compared_shows terms talk state seen answers alive now true = marked_shows terms talk (verified_more state) alive [] now (next_of (verified_more state))
compared_shows terms talk state seen answers alive now false = refl

repeated_shows : (terms : Terms) (talk : Talk) (state : Repeating) (answers : List Answer) (draws : List Draw) (ltxid : Ltxid) (alive : Bool) (now : ℕ) (one : Option Recorded) → (on_repeated terms talk state answers draws ltxid alive now one).1.shown ≡ None
repeated_shows terms talk state answers draws ltxid alive now None = refl
repeated_shows terms talk state answers draws ltxid alive now (Some one) =
    compared_shows terms talk state one.seen.digest (terms.digest answers) alive now (bytes_eq one.seen.digest (terms.digest answers))

pub replay_shows : (terms : Terms) (talk : Talk) (state : Repeating) (frame : Down) (alive : Bool) (now : ℕ) → (takes terms talk (Replaying state) frame alive now).1.shown ≡ None
replay_shows terms talk state (down.Reply answers draws ltxid) alive now = repeated_shows terms talk state answers draws ltxid alive now (next_of state)
replay_shows terms talk state down.Blocked alive now = refl
replay_shows terms talk state (down.Refused cause) alive now = refl
replay_shows terms talk state (down.Hello ltxid) alive now = refl
replay_shows terms talk state (down.OutcomeIs committed completed) alive now = refl
replay_shows terms talk state (down.OutcomeRefused ahead horizon) alive now = refl

-- WHAT IS OUT -------------------------------------------------------------------------------------

-- the connection of a request, with what was sent last on it
pub record OnIt (links : List Link) (owner : Owner) (connection : Option ℕ) (phase : Phase) : Type 0 where
  pub number : ℕ
  pub has : connection ≡ Some number
  pub link : Link
  pub there : link_at links number ≡ Some link
  pub right : is_right (stage_of link) ≡ true
  pub last : Sent
  pub is : last_or None link.sent ≡ Some last
  pub answered : is_answered last.frame ≡ true
  pub mine : owned_by owner last ≡ true
  pub awaited : is_awaited phase last ≡ true

pub awaits_last : (links : List Link) (owner : Owner) (connection : Option ℕ) (phase : Phase) (number : ℕ) (link : Link) → connection ≡ Some number → link_at links number ≡ Some link → is_right (stage_of link) ≡ true
    → option_map_or (λ sent. is_answered sent.frame && (owned_by owner sent && is_awaited phase sent)) (last_or None link.sent) false ≡ true → OnIt links owner connection phase
awaits_last links owner connection phase number link has there right waits = by (last_or None link.sent) refl waits
  where
    by : (found : Option Sent) → last_or None link.sent ≡ found → option_map_or (λ sent. is_answered sent.frame && (owned_by owner sent && is_awaited phase sent)) found false ≡ true → OnIt links owner connection phase
    by None is waits = absurd (let none : ⊥ = cc in none)
    by (Some last) is waits =
        let one = and_parts (is_answered last.frame) (owned_by owner last && is_awaited phase last) waits in
        let two = and_parts (owned_by owner last) (is_awaited phase last) one.1 in
        record { number = number; has = has; link = link; there = there; right = right; last = last; is = is; answered = one.0; mine = two.0; awaited = two.1 }

-- a call that is awaited
pub record AwaitedCall (mark : Bool) (index : ℕ) (sent : Sent) : Type 0 where
  pub call : is_call sent.frame ≡ true
  pub at : sent.call ≡ index
  pub unmarked : mark ≡ false → is_unmarked sent ≡ true

awaited_frame : (mark : Bool) (index : ℕ) (sent : Sent) (frame : Up) → is_awaited_call mark index sent frame ≡ true → AwaitedCall mark index (record sent { frame = frame })
awaited_frame mark index sent (up.Call true kept call) is =
    let parts = and_parts (same_bool mark true) (sent.call == index) is in record { call = refl; at = eq_from sent.call index parts.1; unmarked = λ plain. absurd (never mark plain parts.0) }
  where
    never : (mark : Bool) → mark ≡ false → same_bool mark true ≡ true → ⊥
    never true plain same = let none : ⊥ = cc in none
    never false plain same = let none : ⊥ = cc in none
awaited_frame mark index sent (up.Call false kept call) is = let parts = and_parts (same_bool mark false) (sent.call == index) is in record { call = refl; at = eq_from sent.call index parts.1; unmarked = λ plain. refl }
awaited_frame mark index sent up.Connect is = absurd (let none : ⊥ = cc in none)
awaited_frame mark index sent (up.Begin settings) is = absurd (let none : ⊥ = cc in none)
awaited_frame mark index sent (up.Outcome x) is = absurd (let none : ⊥ = cc in none)
awaited_frame mark index sent up.End is = absurd (let none : ⊥ = cc in none)
awaited_frame mark index sent up.Close is = absurd (let none : ⊥ = cc in none)

pub awaited_call : (mark : Bool) (index : ℕ) (sent : Sent) → is_awaited_call mark index sent sent.frame ≡ true → AwaitedCall mark index sent
awaited_call mark index sent is = awaited_frame mark index sent sent.frame is

pub ask_opens : (x : Ltxid) (frame : Up) → is_ask x frame ≡ true → is_opening frame ≡ true
ask_opens x (up.Outcome asked) is = refl
ask_opens x up.Connect is = refl
ask_opens x (up.Begin settings) is = absurd (let none : ⊥ = cc in none)
ask_opens x (up.Call mark kept call) is = absurd (let none : ⊥ = cc in none)
ask_opens x up.End is = absurd (let none : ⊥ = cc in none)
ask_opens x up.Close is = absurd (let none : ⊥ = cc in none)

pub connect_opens : (frame : Up) → is_connect frame ≡ true → is_opening frame ≡ true
connect_opens up.Connect is = refl
connect_opens (up.Outcome asked) is = refl
connect_opens (up.Begin settings) is = absurd (let none : ⊥ = cc in none)
connect_opens (up.Call mark kept call) is = absurd (let none : ⊥ = cc in none)
connect_opens up.End is = absurd (let none : ⊥ = cc in none)
connect_opens up.Close is = absurd (let none : ⊥ = cc in none)

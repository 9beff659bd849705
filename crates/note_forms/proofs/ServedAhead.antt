-- A served item that was read from its tokens.
use Rattle.std.proofs.Common.{◌≡◌, ℕ, List, ◌∷◌, Bool, Option, Some, None, Result, Ok, codes, ap, ◌∙◌}
use Rattle.json.specs.Token.{Token}
use Rattle.json.specs.Json.{parse_map}
use Rattle.serde_json.specs.Data.{Data, array, string, Items, no_items, item}
use Rattle.json_form.specs.meaning.Faults.{Fault, ◌>>=◌, within_item}
use Rattle.json_form.specs.meaning.Values.{bool_of}
use Rattle.json_form.specs.meaning.Arrays.{placed, part}
use Rattle.json_form.specs.Streams.{value_ahead, items_ahead, Begins, IsLastItem}
use Rattle.json_form.proofs.Offered.{string_ahead, read_ahead}
use Rattle.svc_values.specs.declared.answer.Answer.{Answer}
use Rattle.svc_values.specs.declared.call.Call.{Call}
use Rattle.svc_values.specs.declared.draw.Draw.{Draw}
use Rattle.svc_values.specs.declared.entry.SessionId.{SessionId}
use Rattle.outage_schedule.specs.declared.item.Item.TheVariants as served
use Rattle.outage_schedule.specs.declared.item.Served.{Served}
use Rattle.outage_schedule.specs.declared.note.Note.{Note}
use Rattle.note_forms.specs.declared.item.ServedAt.{ServedAt}
use Rattle.told_reports.specs.declared.place.ServedWord.TheVariants as word
use Rattle.answer_forms.specs.meaning.Parts.{session_in, call_in}
use Rattle.answer_forms.specs.meaning.Answers.{answers_in}
use Rattle.answer_forms.specs.meaning.Draws.{draws_in}
use Rattle.note_forms.specs.meaning.Items.{event_in, place_in, served_at, answered_in, one_served}
use Rattle.note_forms.specs.NotesAhead.{AreLeft}

abbrev or_else : {A : Type 0} → A → Option A → A
or_else x None = x
or_else x (Some y) = y

-- what was mapped was there
pub mapped : (g : Items → Items) (o : Option (Items × List Token)) (b : Items) (r : List Token) → parse_map g o ≡ Some (b, r) → (a : Items) × (o ≡ Some (a, r)) × (g a ≡ b)
mapped g None b r e = absurd (cc)
mapped g (Some p) b r e = let same = ap (or_else (g p.0, p.1)) e in (p.0, ap (λ s. Some (p.0, s)) (ap (λ q. q.1) same), ap (λ q. q.0) same)

module _ (notes : List Note) (last : ℕ) where
  place_made : (v d e : Data) (ds : Items) (event : ℕ) (session : SessionId) → event_in notes word.Call last d ≡ Ok event → session_in e ≡ Ok session
      → place_in notes word.Call last (placed (item v (item d (item e ds)))) ≡ Ok (record { event = event; session = session })
  unfolding place_in part
  place_made v d e ds event session h k =
      ap (λ (r : Result ℕ Fault). within_item 1 r >>= λ x. within_item 2 (session_in e) >>= λ y. Ok (record { event = x; session = y })) h
      ∙ ap (λ (r : Result SessionId Fault). within_item 2 r >>= λ y. Ok (record { event = event; session = y })) k

  abbrev behind : Items → Result ServedAt Fault → Result Served Fault
  behind ds r = r >>= λ place. part 3 bool_of (placed ds) >>= λ replay. part 4 call_in (placed ds) >>= λ call. part 5 answers_in (placed ds) >>= λ answers. part 6 draws_in (placed ds) >>= λ draws. Ok (served_at place (served.Call replay call answers draws))

  parts_made : (v d e f g h i : Data) (place : ServedAt) (replay : Bool) (call : Call) (answers : List Answer) (draws : List Draw) → bool_of f ≡ Ok replay → call_in g ≡ Ok call → answers_in h ≡ Ok answers → draws_in i ≡ Ok draws
      → behind (item v (item d (item e (item f (item g (item h (item i no_items))))))) (Ok place) ≡ Ok (served_at place (served.Call replay call answers draws))
  unfolding part
  parts_made v d e f g h i place replay call answers draws k l m n =
      ap (λ (r : Result Bool Fault). within_item 3 r >>= λ a. within_item 4 (call_in g) >>= λ b. within_item 5 (answers_in h) >>= λ c. within_item 6 (draws_in i) >>= λ x. Ok (served_at place (served.Call a b c x))) k
      ∙ ap (λ (r : Result Call Fault). within_item 4 r >>= λ b. within_item 5 (answers_in h) >>= λ c. within_item 6 (draws_in i) >>= λ x. Ok (served_at place (served.Call replay b c x))) l
      ∙ ap (λ (r : Result (List Answer) Fault). within_item 5 r >>= λ c. within_item 6 (draws_in i) >>= λ x. Ok (served_at place (served.Call replay call c x))) m
      ∙ ap (λ (r : Result (List Draw) Fault). within_item 6 r >>= λ x. Ok (served_at place (served.Call replay call answers x))) n

  answered_made : (v d e f g h i : Data) (event : ℕ) (session : SessionId) (replay : Bool) (call : Call) (answers : List Answer) (draws : List Draw) → event_in notes word.Call last d ≡ Ok event → session_in e ≡ Ok session → bool_of f ≡ Ok replay → call_in g ≡ Ok call → answers_in h ≡ Ok answers → draws_in i ≡ Ok draws
      → answered_in notes last (array (item v (item d (item e (item f (item g (item h (item i no_items)))))))) ≡ Ok (served_at (record { event = event; session = session }) (served.Call replay call answers draws))
  unfolding answered_in
  answered_made v d e f g h i event session replay call answers draws a b k l m n =
      let ds = item v (item d (item e (item f (item g (item h (item i no_items)))))) in
      ap (behind ds) (place_made v d e (item f (item g (item h (item i no_items)))) event session a b) ∙ parts_made v d e f g h i (record { event = event; session = session }) replay call answers draws k l m n

  -- a call whose parts behind the word were read one after the other
  pub answered_ends : (depth : ℕ) (ts r s t u v rest : List Token) (event : ℕ) (session : SessionId) (replay : Bool) (call : Call) (answers : List Answer) (draws : List Draw)
      → Begins (event_in notes word.Call last) depth ts event r → Begins session_in depth r session s → Begins bool_of depth s replay t → Begins call_in depth t call u → Begins answers_in depth u answers v → IsLastItem draws_in depth v draws rest
      → AreLeft (λ ds. (w : Data) → answered_in notes last (array (item w ds)) ≡ Ok (served_at (record { event = event; session = session }) (served.Call replay call answers draws))) depth ts rest
  answered_ends depth ts r s t u v rest event session replay call answers draws a b c k l m =
      let h = read_ahead answers_in depth u v rest answers (item m.0 no_items) l m.1 in
      let g = read_ahead call_in depth t u rest call (item h.0 (item m.0 no_items)) k h.1 in
      let f = read_ahead bool_of depth s t rest replay (item g.0 (item h.0 (item m.0 no_items))) c g.1 in
      let e = read_ahead session_in depth r s rest session (item f.0 (item g.0 (item h.0 (item m.0 no_items)))) b f.1 in
      let d = read_ahead (event_in notes word.Call last) depth ts r rest event (item e.0 (item f.0 (item g.0 (item h.0 (item m.0 no_items))))) a e.1 in
      (item d.0 (item e.0 (item f.0 (item g.0 (item h.0 (item m.0 no_items))))), d.1, λ w. answered_made w d.0 e.0 f.0 g.0 h.0 m.0 event session replay call answers draws d.2 e.2 f.2 g.2 h.2 m.2)

  -- the word `call`
  pub call_word : (d : Data) (ds : Items) (one : Served) → ((w : Data) → answered_in notes last (array (item w ds)) ≡ Ok one) → one_served notes last (array (item (string (codes "call")) ds)) ≡ Ok one
  unfolding one_served
  call_word d ds one h = h (string (codes "call"))

  pub served_joined : (depth inside : ℕ) (ts begin behind_word rest : List Token) (name : List ℕ) (one : Served) → value_ahead depth ts ≡ parse_map array (items_ahead inside begin) → begin ≡ Token.string name ∷ behind_word
      → AreLeft (λ ds. one_served notes last (array (item (string name) ds)) ≡ Ok one) inside behind_word rest → Begins (one_served notes last) depth ts one rest
  served_joined depth inside ts begin behind_word rest name one opens is left =
      let plain : Data → Result Data Fault = λ d. Ok d in
      let begins : Begins plain inside begin (string name) behind_word = ap (λ ks. parse_map plain (value_ahead inside ks)) is ∙ ap (parse_map plain) (string_ahead inside name behind_word) in
      let d = read_ahead plain inside begin behind_word rest (string name) left.0 begins left.1 in
      let gives = ap (λ (r : Result Data Fault). r >>= λ w. one_served notes last (array (item w left.0))) d.2 ∙ left.2 in
      ap (parse_map (one_served notes last)) (opens ∙ ap (parse_map array) d.1) ∙ ap (λ q. Some (q, rest)) gives

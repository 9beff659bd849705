-- Objects whose members were read one after the other.
use Rattle.std.proofs.Common.{◌≡◌, ◌-◌, ◌≤◌, ℕ, List, [], length, Bool, Option, Some, None, Result, Ok, codes, ap, ◌∙◌, arith}
use Rattle.json.specs.Token.{Token}
use Rattle.json.specs.Json.{read_key, value, members, parse_map}
use Rattle.serde_json.specs.Data.{Data, Members, no_members, put, object}
use Rattle.serde_json.specs.Read.{of_members, converted}
use Rattle.json_form.specs.meaning.Faults.{Fault, ◌>>=◌, within}
use Rattle.json_form.specs.meaning.Values.{bool_of}
use Rattle.json_form.specs.meaning.Objects.{required, member_in}
use Rattle.json_form.specs.Streams.{value_ahead, members_ahead}
use Rattle.json_form.proofs.Offered.{begun, member_turn, members_over, read_key-shorter}
use Rattle.svc_values.specs.declared.entry.Ltxid.{Ltxid}
use Rattle.svc_values.specs.declared.entry.Piece.{Piece}
use Rattle.svc_values.specs.declared.entry.SessionId.{SessionId}
use Rattle.svc_values.specs.meaning.SettingsList.{NamedValues}
use Rattle.outage_schedule.specs.declared.request.ShownCall.{ShownCall}
use Rattle.outage_schedule.specs.declared.request.Outcome.{Outcome}
use Rattle.outage_schedule.specs.declared.failure.Failure.{Failure}
use Rattle.answer_forms.specs.meaning.Parts.{identifier_in, settings_in, sessions_in}
use Rattle.entry_forms.specs.meaning.Entries.{pieces_in, entry_in}
use Rattle.entry_forms.specs.meaning.Failures.{failed_in}
use Rattle.entry_forms.specs.meaning.Requests.{calls_in, outcomes_in, tried_in, request_in}
use Rattle.entry_forms.specs.ObjectsAhead.{IsNext}

-- the tokens are read as these members behind those, up to the brace behind them
abbrev pub Run : ℕ → Members → List Token → Members → List Token → Type 0
Run depth old ts all rest = (n : ℕ) → length ts ≤ n → converted (λ ms. of_members ms old) (members (value depth) n ts) ≡ Some (all, rest)

pub run_over : (depth : ℕ) (old : Members) (ts rest : List Token) → read_key ts ≡ Some (None, rest) → Run depth old ts old rest
run_over depth old ts rest e = λ n enough. members_over (value depth) old n ts rest enough e

-- the value of the member that is next
pub next_value : {A : Type 0} (read : Data → Result A Fault) (name : List ℕ) (depth : ℕ) (ts rest : List Token) (x : A) → (next : IsNext read name depth ts x rest) → (d : Data) × (value_ahead depth next.0 ≡ Some (d, rest)) × (read d ≡ Ok x)
next_value read name depth ts rest x next = begun read (value_ahead depth next.0) x rest next.2

pub run_more : {A : Type 0} (read : Data → Result A Fault) (name : List ℕ) (depth : ℕ) (old : Members) (ts r : List Token) (x : A) (all : Members) (rest : List Token)
    → (next : IsNext read name depth ts x r) → Run depth (put name (next_value read name depth ts r x next).0 old) r all rest → Run depth old ts all rest
run_more read name depth old ts r x all rest next more =
    let b = next_value read name depth ts r x next in
    let fewer = read_key-shorter ts (Some name) next.0 next.1 in
    λ n enough. member_turn (value depth) old n name ts next.0 r b.0 (omega (arith, fewer, enough)) next.1 b.1 ∙ more (n - 1) (omega (arith, fewer, next.3, enough))

entry_made : (a b c d : Data) (completed : Bool) (x : Ltxid) (pieces : List Piece) (settings : NamedValues) → bool_of a ≡ Ok completed → identifier_in b ≡ Ok x → pieces_in c ≡ Ok pieces → settings_in d ≡ Ok settings
    → entry_in (object (put (codes "settings") d (put (codes "pieces") c (put (codes "ltxid") b (put (codes "completed") a no_members))))) ≡ Ok (record { ltxid = x; completed = completed; settings = settings; pieces = pieces; writes = [] })
unfolding entry_in required member_in
entry_made a b c d completed x pieces settings h k l m =
    ap (λ (r : Result Bool Fault). within (codes "completed") r >>= λ v. within (codes "ltxid") (identifier_in b) >>= λ w. within (codes "pieces") (pieces_in c) >>= λ p. within (codes "settings") (settings_in d) >>= λ s. Ok (record { ltxid = w; completed = v; settings = s; pieces = p; writes = [] })) h
    ∙ ap (λ (r : Result Ltxid Fault). within (codes "ltxid") r >>= λ w. within (codes "pieces") (pieces_in c) >>= λ p. within (codes "settings") (settings_in d) >>= λ s. Ok (record { ltxid = w; completed = completed; settings = s; pieces = p; writes = [] })) k
    ∙ ap (λ (r : Result (List Piece) Fault). within (codes "pieces") r >>= λ p. within (codes "settings") (settings_in d) >>= λ s. Ok (record { ltxid = x; completed = completed; settings = s; pieces = p; writes = [] })) l
    ∙ ap (λ (r : Result NamedValues Fault). within (codes "settings") r >>= λ s. Ok (record { ltxid = x; completed = completed; settings = s; pieces = pieces; writes = [] })) m

-- an entry whose members were read in this order
pub entry_joined : (depth inside : ℕ) (ts begin r s t u rest : List Token) (completed : Bool) (x : Ltxid) (pieces : List Piece) (settings : NamedValues) → value_ahead depth ts ≡ parse_map object (members_ahead inside begin)
    → IsNext bool_of (codes "completed") inside begin completed r → IsNext identifier_in (codes "ltxid") inside r x s → IsNext pieces_in (codes "pieces") inside s pieces t → IsNext settings_in (codes "settings") inside t settings u
    → read_key u ≡ Some (None, rest) → parse_map entry_in (value_ahead depth ts) ≡ Some (Ok (record { ltxid = x; completed = completed; settings = settings; pieces = pieces; writes = [] }), rest)
entry_joined depth inside ts begin r s t u rest completed x pieces settings opens h k l m ends =
    let a = next_value bool_of (codes "completed") inside begin r completed h in
    let b = next_value identifier_in (codes "ltxid") inside r s x k in
    let c = next_value pieces_in (codes "pieces") inside s t pieces l in
    let d = next_value settings_in (codes "settings") inside t u settings m in
    let one = put (codes "completed") a.0 no_members in
    let two = put (codes "ltxid") b.0 one in
    let three = put (codes "pieces") c.0 two in
    let all = put (codes "settings") d.0 three in
    let run : Run inside no_members begin all rest =
    run_more bool_of (codes "completed") inside no_members begin r completed all rest h
    (run_more identifier_in (codes "ltxid") inside one r s x all rest k
    (run_more pieces_in (codes "pieces") inside two s t pieces all rest l
    (run_more settings_in (codes "settings") inside three t u settings all rest m (run_over inside all u rest ends)))) in
    ap (parse_map entry_in) (opens ∙ ap (parse_map object) (run (length begin) (omega arith))) ∙ ap (λ q. Some (q, rest)) (entry_made a.0 b.0 c.0 d.0 completed x pieces settings a.2 b.2 c.2 d.2)

request_made : (a b c d e : Data) (calls : List ShownCall) (failed : Option Failure) (outcomes : List Outcome) (sessions : List SessionId) (tried : List (List Ltxid)) → calls_in a ≡ Ok calls → failed_in b ≡ Ok failed → outcomes_in c ≡ Ok outcomes → sessions_in d ≡ Ok sessions → tried_in e ≡ Ok tried
    → request_in (object (put (codes "tried") e (put (codes "sessions") d (put (codes "outcomes") c (put (codes "failed") b (put (codes "calls") a no_members)))))) ≡ Ok (record { calls = calls; failed = failed; outcomes = outcomes; sessions = sessions; tried = tried })
unfolding request_in required member_in
request_made a b c d e calls failed outcomes sessions tried h k l m n =
    ap (λ (r : Result (List ShownCall) Fault). within (codes "calls") r >>= λ v. within (codes "failed") (failed_in b) >>= λ w. within (codes "outcomes") (outcomes_in c) >>= λ x. within (codes "sessions") (sessions_in d) >>= λ y. within (codes "tried") (tried_in e) >>= λ z. Ok (record { calls = v; failed = w; outcomes = x; sessions = y; tried = z })) h
    ∙ ap (λ (r : Result (Option Failure) Fault). within (codes "failed") r >>= λ w. within (codes "outcomes") (outcomes_in c) >>= λ x. within (codes "sessions") (sessions_in d) >>= λ y. within (codes "tried") (tried_in e) >>= λ z. Ok (record { calls = calls; failed = w; outcomes = x; sessions = y; tried = z })) k
    ∙ ap (λ (r : Result (List Outcome) Fault). within (codes "outcomes") r >>= λ x. within (codes "sessions") (sessions_in d) >>= λ y. within (codes "tried") (tried_in e) >>= λ z. Ok (record { calls = calls; failed = failed; outcomes = x; sessions = y; tried = z })) l
    ∙ ap (λ (r : Result (List SessionId) Fault). within (codes "sessions") r >>= λ y. within (codes "tried") (tried_in e) >>= λ z. Ok (record { calls = calls; failed = failed; outcomes = outcomes; sessions = y; tried = z })) m
    ∙ ap (λ (r : Result (List (List Ltxid)) Fault). within (codes "tried") r >>= λ z. Ok (record { calls = calls; failed = failed; outcomes = outcomes; sessions = sessions; tried = z })) n

-- a request whose members were read in this order
pub request_joined : (depth inside : ℕ) (ts begin r s t u v rest : List Token) (calls : List ShownCall) (failed : Option Failure) (outcomes : List Outcome) (sessions : List SessionId) (tried : List (List Ltxid)) → value_ahead depth ts ≡ parse_map object (members_ahead inside begin)
    → IsNext calls_in (codes "calls") inside begin calls r → IsNext failed_in (codes "failed") inside r failed s → IsNext outcomes_in (codes "outcomes") inside s outcomes t → IsNext sessions_in (codes "sessions") inside t sessions u → IsNext tried_in (codes "tried") inside u tried v
    → read_key v ≡ Some (None, rest) → parse_map request_in (value_ahead depth ts) ≡ Some (Ok (record { calls = calls; failed = failed; outcomes = outcomes; sessions = sessions; tried = tried }), rest)
request_joined depth inside ts begin r s t u v rest calls failed outcomes sessions tried opens h k l m n ends =
    let a = next_value calls_in (codes "calls") inside begin r calls h in
    let b = next_value failed_in (codes "failed") inside r s failed k in
    let c = next_value outcomes_in (codes "outcomes") inside s t outcomes l in
    let d = next_value sessions_in (codes "sessions") inside t u sessions m in
    let e = next_value tried_in (codes "tried") inside u v tried n in
    let one = put (codes "calls") a.0 no_members in
    let two = put (codes "failed") b.0 one in
    let three = put (codes "outcomes") c.0 two in
    let four = put (codes "sessions") d.0 three in
    let all = put (codes "tried") e.0 four in
    let run : Run inside no_members begin all rest =
    run_more calls_in (codes "calls") inside no_members begin r calls all rest h
    (run_more failed_in (codes "failed") inside one r s failed all rest k
    (run_more outcomes_in (codes "outcomes") inside two s t outcomes all rest l
    (run_more sessions_in (codes "sessions") inside three t u sessions all rest m
    (run_more tried_in (codes "tried") inside four u v tried all rest n (run_over inside all v rest ends))))) in
    ap (parse_map request_in) (opens ∙ ap (parse_map object) (run (length begin) (omega arith))) ∙ ap (λ q. Some (q, rest)) (request_made a.0 b.0 c.0 d.0 e.0 calls failed outcomes sessions tried a.2 b.2 c.2 d.2 e.2)

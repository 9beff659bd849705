-- The document that `load` makes of three numbers: clients that move money between sixteen
-- accounts, under a schedule with cuts.
use Rattle.std.specs.Prelude.{ℕ, zero, suc, ◌+◌, ◌*◌, ◌/◌, ◌%◌, ◌^◌, ◌==◌, nat_le, ℤ, pos, negsuc, false, true, List, [], ◌∷◌, None, codes, if◌then◌else◌}
use Rattle.svc_values.specs.declared.value.Kind.TheVariants as kind
use Rattle.svc_values.specs.declared.value.Value.{Value}
use Rattle.svc_values.specs.declared.value.Value.TheVariants as value
use Rattle.svc_values.specs.declared.statement.Operand.{Operand}
use Rattle.svc_values.specs.declared.statement.Operand.TheVariants as operand
use Rattle.svc_values.specs.declared.statement.Change.TheVariants as change
use Rattle.svc_values.specs.declared.statement.Statement.{Statement}
use Rattle.svc_values.specs.declared.statement.Statement.TheVariants as statement
use Rattle.svc_values.specs.declared.call.Call.{Call}
use Rattle.svc_values.specs.declared.call.Call.TheVariants as call
use Rattle.outage_schedule.specs.declared.document.ServiceOf.{ServiceOf}
use Rattle.outage_schedule.specs.declared.document.DocTable.{DocTable}
use Rattle.outage_schedule.specs.declared.document.Request.{Request}
use Rattle.outage_schedule.specs.declared.document.Client.{Client}
use Rattle.outage_schedule.specs.declared.document.Document.{Document}
use Rattle.outage_schedule.specs.declared.event.Event.{Event}
use Rattle.outage_schedule.specs.declared.event.Event.TheVariants as event
use Rattle.outage_schedule.specs.declared.report.Report.{Report}
use Rattle.outage_schedule.specs.declared.report.ReportTable.{ReportTable}
use Rattle.document_forms.specs.meaning.Service.{usual_service}
use Rattle.stmt_meaning.specs.meaning.Effects.{total as column_total}

-- A number is drawn by a step of a state, of 64 bits.
unfoldable pub next : ℕ → ℕ
next x = (x * 6364136223846793005 + 1442695040888963407) % 2 ^ 64

-- the number below m that is drawn where the step led to this state
unfoldable pub drawn : ℕ → ℕ → ℕ
drawn m x = (x / 2 ^ 33) % m

-- the state behind so many draws
abbrev pub behind : ℕ → ℕ → ℕ
behind zero x = x
behind (suc n) x = behind n (next x)

-- the account with this number, which holds 1,000
abbrev pub account : ℕ → List Value
account n = value.Int (pos n) ∷ value.Int (pos 1000) ∷ []

-- so many accounts, from this number on
abbrev pub accounts_from : ℕ → ℕ → List (List Value)
accounts_from zero n = []
accounts_from (suc k) n = account n ∷ accounts_from k (n + 1)

abbrev pub number : ℤ → Operand
number n = operand.Lit (value.Int n)

-- so much more stands on an account
abbrev pub paid : ℕ → ℤ → Statement
paid n by = statement.Update (codes "acc") (number (pos n)) (codes "bal") (change.Plus (number by))

-- the first account is read, 1 goes from it to the second one, and that is committed
abbrev pub look : ℕ → Call
look a = call.Work (statement.Get (codes "acc") (number (pos a)) ∷ []) false

abbrev pub pay : ℕ → ℕ → Call
pay a b = call.Work (paid a (negsuc 0) ∷ paid b (pos 1) ∷ []) false

abbrev pub commit : Call
commit = call.Work [] true

unfoldable pub transfer : ℕ → ℕ → Request
transfer a b = record { settings = []; calls = look a ∷ pay a b ∷ commit ∷ []; again = 0 }

-- so many transfers, each of two accounts that are drawn from this state on: the first one of the
-- first draw, and the second one of the next
abbrev pub transfers : ℕ → ℕ → List Request
transfers zero x = []
transfers (suc n) x = transfer (drawn 16 (next x)) (drawn 16 (next (next x)))
    ∷ transfers n (next (next x))

-- so many clients with so many transfers each
abbrev pub scripts : ℕ → ℕ → ℕ → List Client
scripts zero requests x = []
scripts (suc n) requests x = record {
  requests = transfers requests x;
} ∷ scripts n requests (behind (2 * requests) x)

-- one of the connections, which are twice as many as the clients, and one of the clients
abbrev pub connection_drawn : ℕ → ℕ → ℕ
connection_drawn clients x = 1 + drawn (2 * clients) x

abbrev pub client_drawn : ℕ → ℕ → ℕ
client_drawn clients x = 1 + drawn clients x

-- Of sixteen cases one is a cut, one a tick, seven are a step of a client, and the other seven a
-- frame that is served. The first draw, which led to this state, tells which it is, and the next
-- one of whom.
unfoldable pub event_at : ℕ → ℕ → Event
event_at clients x =
    if drawn 16 x == 0 then event.Cut (connection_drawn clients (next x)) 0 0
    else (if drawn 16 x == 1 then event.Tick
    else (if nat_le (drawn 16 x) 8 then event.Go (client_drawn clients (next x))
    else event.Serve (connection_drawn clients (next x))))

-- the state behind that event: a tick takes no second draw
unfoldable pub behind_event : ℕ → ℕ
behind_event x = if drawn 16 x == 1 then x else next x

-- so many events of so many clients, drawn from this state on
abbrev pub events : ℕ → ℕ → ℕ → List Event
events clients zero x = []
events clients (suc n) x = event_at clients (next x) ∷ events clients n (behind_event (next x))

-- the one table: the accounts 0 to 15
unfoldable pub accounts : DocTable
accounts = record {
  name = codes "acc";
  columns = record {
    name = codes "id";
    kind = kind.Int;
  } ∷ record { name = codes "bal"; kind = kind.Int } ∷ [];
  rows = accounts_from 16 0;
  index = [];
}

-- as without a word of it, but with a pool of one slot more than half of the clients
abbrev pub load_service : ℕ → ServiceOf
load_service clients = record usual_service { pool = record { max = 1 + clients / 2; wait = 1000 } }

-- The scripts are drawn first, and then four events for each request.
abbrev pub loaded : ℕ → ℕ → ℕ → Document
loaded seed clients requests = record {
  service = load_service clients;
  tables = accounts ∷ [];
  sequences = [];
  image = None;
  print_image = false;
  clients = scripts clients requests seed;
  schedule = events clients (4 * clients * requests) (behind (2 * clients * requests) seed);
}

-- the rows of the first table
abbrev pub first_rows : List ReportTable → List (List Value)
first_rows [] = []
first_rows (table ∷ tables) = table.rows

-- what stands on all accounts of a report: the sum of the second column
abbrev pub total : Report → ℤ
total report = column_total 1 (first_rows report.tables)

-- What members of a report are read as that are read one after the other.
use Rattle.std.proofs.Common.{◌≡◌, ℕ, List, [], ◌∷◌, Bool, true, false, cond, true≢false, Option, Some, None, option_map, Result, Ok, codes, refl, sym, ap, ◌∙◌}
use Rattle.std.specs.Prelude.{◌||◌, is_some}
use Rattle.std.proofs.Math.Path.{fun_ext}
use Rattle.std.specs.Str.{bytes_eq}
use Rattle.std.specs.List.{AllByRecursion}
use Rattle.std.proofs.lemmas.Slice.Eq.{bytes_eq-Decides}
use Rattle.serde_json.specs.Data.{Data}
use Rattle.json_form.specs.meaning.Faults.{Fault}
use Rattle.json_form.specs.meaning.Objects.{Named, is_among}
use Rattle.json_form.specs.Objects.{members_at, putting}
use Rattle.json_form.specs.declared.object.Members as held
use Rattle.outage_schedule.specs.declared.item.Served.{Served}
use Rattle.outage_schedule.specs.declared.note.Note.{Note}
use Rattle.svc_values.specs.declared.entry.Entry.{Entry}
use Rattle.outage_schedule.specs.declared.report.ReportTable.{ReportTable}
use Rattle.outage_schedule.specs.declared.request.RequestReport.{RequestReport}
use Rattle.report_reader.specs.declared.streamed.Ahead.{Ahead}
use Rattle.note_forms.specs.meaning.Items.{served_in}
use Rattle.entry_forms.specs.meaning.Requests.{clients_in}
use Rattle.note_forms.specs.meaning.Notes.{notes_in}
use Rattle.entry_forms.specs.meaning.Entries.{entries_in, tables_in}
use Rattle.report_reader.specs.meaning.Reports.{report_members}
use Rattle.report_reader.specs.Ahead.{held_members, only, noted, IsFound, AreRead}

-- ---- values

-- what is not there
pub not_there : {A : Type 0} (o : Option A) → is_some o ≡ false → o ≡ None
not_there None h = refl
not_there (Some x) h = absurd (cc)

-- ---- the members that are held

only_by : (b : Bool) (o : Option Data) → o ≡ None → cond b o None ≡ None
only_by true o none = none
only_by false o none = refl

-- none was passed
pub only_none : (names : List (List ℕ)) → only names (λ name. None) ≡ (λ name. None)
unfolding only
only_none names = fun_ext (λ q. only_by (is_among names q) None refl)

dropped : (q k : List ℕ) (names : List (List ℕ)) (d : Data) (before : Option Data) (b : Bool) → bytes_eq q k ≡ b → is_among names k ≡ false
    → cond (is_among names q) (cond b (Some d) before) None ≡ cond (is_among names q) before None
dropped q k names d before true same out = rw (ap (is_among names) ((bytes_eq-Decides q k).0 same) ∙ out) refl
dropped q k names d before false same out = refl

-- one more that has another name
only_without : (names : List (List ℕ)) (k : List ℕ) (d : Data) (ms : Named) → is_among names k ≡ false → only names (putting k d ms) ≡ only names ms
unfolding only putting
only_without names k d ms out = fun_ext (λ q. dropped q k names d (ms q) (bytes_eq q k) refl out)

kept : (q k : List ℕ) (names : List (List ℕ)) (d : Data) (before : Option Data) (b : Bool) → bytes_eq q k ≡ b → is_among names k ≡ true
    → cond (is_among names q) (cond b (Some d) before) None ≡ cond b (Some d) (cond (is_among names q) before None)
kept q k names d before true same among = rw (ap (is_among names) ((bytes_eq-Decides q k).0 same) ∙ among) refl
kept q k names d before false same among = refl

-- one more that has one of the names
only_with : (names : List (List ℕ)) (k : List ℕ) (d : Data) (ms : Named) → is_among names k ≡ true → only names (putting k d ms) ≡ putting k d (only names ms)
unfolding only putting
only_with names k d ms among = fun_ext (λ q. kept q k names d (ms q) (bytes_eq q k) refl among)

apart_by : (names : List (List ℕ)) (q k : List ℕ) (b : Bool) → bytes_eq q k ≡ b → is_among names q ≡ false → is_among names k ≡ true → b ≡ false
apart_by names q k true same out among = absurd (true≢false (sym among ∙ ap (is_among names) (sym ((bytes_eq-Decides q k).0 same)) ∙ out))
apart_by names q k false same out among = refl

-- a name that is none of these is another one than each of them
apart : (names : List (List ℕ)) (q k : List ℕ) → is_among names q ≡ false → is_among names k ≡ true → bytes_eq q k ≡ false
apart names q k out among = apart_by names q k (bytes_eq q k) refl out among

among_by : (names : List (List ℕ)) (n k : List ℕ) (rest b : Bool) → bytes_eq n k ≡ b → (b || rest) ≡ true → is_among names n ≡ true → (rest ≡ true → is_among names k ≡ true) → is_among names k ≡ true
among_by names n k rest true same h first later = ap (is_among names) (sym ((bytes_eq-Decides n k).0 same)) ∙ first
among_by names n k rest false same h first later = later h

-- one of the names, each of which is one of the others
among_more : (names more : List (List ℕ)) (k : List ℕ) → AllByRecursion (λ n. is_among more n ≡ true) names → is_among names k ≡ true → is_among more k ≡ true
among_more [] more k all h = absurd (true≢false (sym h))
among_more (n ∷ names) more k all h = among_by more n k (is_among names k) (bytes_eq n k) refl h all.0 (λ rest. among_more names more k all.1 rest)

pub held_is_known : (print : Bool) (k : List ℕ) → is_among (held_members print) k ≡ true → is_among (report_members print) k ≡ true
held_is_known true k h = among_more (held_members true) (report_members true) k (refl, (refl, (refl, (refl, tt)))) h
held_is_known false k h = among_more (held_members false) (report_members false) k (refl, (refl, (refl, tt))) h

-- what is known of the members that are read one after the other
pub record Streamed (print : Bool) (name : List ℕ) : Type 0 where
  pub out : is_among (held_members print) name ≡ false
  pub known : is_among (report_members print) name ≡ true

pub clients_streamed : (print : Bool) → Streamed print (codes "clients")
clients_streamed true = record { out = refl; known = refl }
clients_streamed false = record { out = refl; known = refl }

pub entries_streamed : (print : Bool) → Streamed print (codes "entries")
entries_streamed true = record { out = refl; known = refl }
entries_streamed false = record { out = refl; known = refl }

pub notes_streamed : (print : Bool) → Streamed print (codes "notes")
notes_streamed true = record { out = refl; known = refl }
notes_streamed false = record { out = refl; known = refl }

pub served_streamed : (print : Bool) → Streamed print (codes "served")
served_streamed true = record { out = refl; known = refl }
served_streamed false = record { out = refl; known = refl }

pub tables_streamed : (print : Bool) → Streamed print (codes "tables")
tables_streamed true = record { out = refl; known = refl }
tables_streamed false = record { out = refl; known = refl }

-- ---- one more member

found_now : {A : Type 0} (name : List ℕ) (read : Data → Result A Fault) (x : A) (d : Data) (ms : Named) → bytes_eq name name ≡ true → read d ≡ Ok x → IsFound name read (Some x) (putting name d ms)
unfolding putting
found_now name read x d ms same e = rw same (ap (λ r. Some r) e)

found_still : {A : Type 0} (name k : List ℕ) (read : Data → Result A Fault) (found : Option A) (d : Data) (ms : Named) → bytes_eq name k ≡ false → IsFound name read found ms → IsFound name read found (putting k d ms)
unfolding putting
found_still name k read found d ms other h = rw other h

none_at : {A : Type 0} (f g : Data → Result A Fault) (o : Option Data) (found : Option A) → found ≡ None → option_map f o ≡ option_map (λ x. Ok x) found → option_map g o ≡ option_map (λ x. Ok x) found
none_at f g None None none h = refl
none_at f g (Some d) None none h = absurd (cc)
none_at f g o (Some x) none h = absurd (cc)

-- where nothing was found, nothing is however it is read
found_none : {A : Type 0} (name : List ℕ) (f g : Data → Result A Fault) (found : Option A) (ms : Named) → found ≡ None → IsFound name f found ms → IsFound name g found ms
found_none name f g found ms none h = none_at f g (ms name) found none h

-- what was found, by another name
pub found_as : {A : Type 0} (name : List ℕ) (read : Data → Result A Fault) (ms : Named) {found other : Option A} → found ≡ other → IsFound name read found ms → IsFound name read other ms
found_as name read ms same h = h ∙ ap (option_map (λ x. Ok x)) same

-- the others stay where one that is read has another name
others_stay : (print : Bool) (name : List ℕ) (others : held.Members) (d : Data) (ms : Named) → Streamed print name → members_at others ≡ only (held_members print) ms → members_at others ≡ only (held_members print) (putting name d ms)
others_stay print name others d ms streamed h = h ∙ sym (only_without (held_members print) name d ms streamed.out)

pub clients_put : (print : Bool) (old : Ahead) (clients : List (List RequestReport)) (d : Data) (ms : Named) → clients_in d ≡ Ok clients → AreRead print old ms
    → AreRead print (record { clients = Some clients; entries = old.entries; notes = old.notes; served = old.served; tables = old.tables; others = old.others }) (putting (codes "clients") d ms)
clients_put print old clients d ms e are = record {
  clients = found_now (codes "clients") clients_in clients d ms refl e;
  entries = found_still (codes "entries") (codes "clients") entries_in old.entries d ms refl are.entries;
  notes = found_still (codes "notes") (codes "clients") notes_in old.notes d ms refl are.notes;
  served = found_still (codes "served") (codes "clients") (served_in (noted old.notes)) old.served d ms refl are.served;
  tables = found_still (codes "tables") (codes "clients") tables_in old.tables d ms refl are.tables;
  others = others_stay print (codes "clients") old.others d ms (clients_streamed print) are.others;
}

pub entries_put : (print : Bool) (old : Ahead) (entries : List Entry) (d : Data) (ms : Named) → entries_in d ≡ Ok entries → AreRead print old ms
    → AreRead print (record { clients = old.clients; entries = Some entries; notes = old.notes; served = old.served; tables = old.tables; others = old.others }) (putting (codes "entries") d ms)
entries_put print old entries d ms e are = record {
  clients = found_still (codes "clients") (codes "entries") clients_in old.clients d ms refl are.clients;
  entries = found_now (codes "entries") entries_in entries d ms refl e;
  notes = found_still (codes "notes") (codes "entries") notes_in old.notes d ms refl are.notes;
  served = found_still (codes "served") (codes "entries") (served_in (noted old.notes)) old.served d ms refl are.served;
  tables = found_still (codes "tables") (codes "entries") tables_in old.tables d ms refl are.tables;
  others = others_stay print (codes "entries") old.others d ms (entries_streamed print) are.others;
}

pub notes_put : (print : Bool) (old : Ahead) (notes : List Note) (d : Data) (ms : Named) → old.served ≡ None → notes_in d ≡ Ok notes → AreRead print old ms
    → AreRead print (record { clients = old.clients; entries = old.entries; notes = Some notes; served = old.served; tables = old.tables; others = old.others }) (putting (codes "notes") d ms)
notes_put print old notes d ms before e are = record {
  clients = found_still (codes "clients") (codes "notes") clients_in old.clients d ms refl are.clients;
  entries = found_still (codes "entries") (codes "notes") entries_in old.entries d ms refl are.entries;
  notes = found_now (codes "notes") notes_in notes d ms refl e;
  served = found_still (codes "served") (codes "notes") (served_in notes) old.served d ms refl (found_none (codes "served") (served_in (noted old.notes)) (served_in notes) old.served ms before are.served);
  tables = found_still (codes "tables") (codes "notes") tables_in old.tables d ms refl are.tables;
  others = others_stay print (codes "notes") old.others d ms (notes_streamed print) are.others;
}

pub served_put : (print : Bool) (old : Ahead) (notes : List Note) (served : List Served) (d : Data) (ms : Named) → old.notes ≡ Some notes → served_in notes d ≡ Ok served → AreRead print old ms
    → AreRead print (record { clients = old.clients; entries = old.entries; notes = old.notes; served = Some served; tables = old.tables; others = old.others }) (putting (codes "served") d ms)
served_put print old notes served d ms there e are = record {
  clients = found_still (codes "clients") (codes "served") clients_in old.clients d ms refl are.clients;
  entries = found_still (codes "entries") (codes "served") entries_in old.entries d ms refl are.entries;
  notes = found_still (codes "notes") (codes "served") notes_in old.notes d ms refl are.notes;
  served = found_now (codes "served") (served_in (noted old.notes)) served d ms refl (ap (λ o. served_in (noted o) d) there ∙ e);
  tables = found_still (codes "tables") (codes "served") tables_in old.tables d ms refl are.tables;
  others = others_stay print (codes "served") old.others d ms (served_streamed print) are.others;
}

pub tables_put : (print : Bool) (old : Ahead) (tables : List ReportTable) (d : Data) (ms : Named) → tables_in d ≡ Ok tables → AreRead print old ms
    → AreRead print (record { clients = old.clients; entries = old.entries; notes = old.notes; served = old.served; tables = Some tables; others = old.others }) (putting (codes "tables") d ms)
tables_put print old tables d ms e are = record {
  clients = found_still (codes "clients") (codes "tables") clients_in old.clients d ms refl are.clients;
  entries = found_still (codes "entries") (codes "tables") entries_in old.entries d ms refl are.entries;
  notes = found_still (codes "notes") (codes "tables") notes_in old.notes d ms refl are.notes;
  served = found_still (codes "served") (codes "tables") (served_in (noted old.notes)) old.served d ms refl are.served;
  tables = found_now (codes "tables") tables_in tables d ms refl e;
  others = others_stay print (codes "tables") old.others d ms (tables_streamed print) are.others;
}

pub held_put : (print : Bool) (old : Ahead) (others : held.Members) (k : List ℕ) (d : Data) (ms : Named) → is_among (held_members print) k ≡ true → members_at others ≡ putting k d (members_at old.others) → AreRead print old ms
    → AreRead print (record { clients = old.clients; entries = old.entries; notes = old.notes; served = old.served; tables = old.tables; others = others }) (putting k d ms)
held_put print old others k d ms among put are =
    let other : (name : List ℕ) → Streamed print name → bytes_eq name k ≡ false = λ name streamed. apart (held_members print) name k streamed.out among in record {
      clients = found_still (codes "clients") k clients_in old.clients d ms (other (codes "clients") (clients_streamed print)) are.clients;
      entries = found_still (codes "entries") k entries_in old.entries d ms (other (codes "entries") (entries_streamed print)) are.entries;
      notes = found_still (codes "notes") k notes_in old.notes d ms (other (codes "notes") (notes_streamed print)) are.notes;
      served = found_still (codes "served") k (served_in (noted old.notes)) old.served d ms (other (codes "served") (served_streamed print)) are.served;
      tables = found_still (codes "tables") k tables_in old.tables d ms (other (codes "tables") (tables_streamed print)) are.tables;
      others = put ∙ ap (putting k d) are.others ∙ sym (only_with (held_members print) k d ms among);
    }

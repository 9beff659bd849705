-- What members are read as that are read one after the other.
use Rattle.std.proofs.Common.{◌≡◌, ℕ, List, [], ◌∷◌, Bool, true, false, cond, Option, Some, None, option_map, Result, Ok, Err, codes, refl, sym, ap, subst, ◌∙◌}
use Rattle.std.specs.Prelude.{◌||◌, is_some, IfSome, MatchOption}
use Rattle.std.specs.Result.{result_ok}
use Rattle.std.proofs.Math.Path.{fun_ext}
use Rattle.std.specs.Str.{bytes_eq}
use Rattle.std.specs.List.{AllByRecursion}
use Rattle.std.proofs.lemmas.Slice.Eq.{bytes_eq-Decides}
use Rattle.serde_json.specs.Data.{Data}
use Rattle.json_form.specs.declared.fault.DocFault.{DocFault}
use Rattle.json_form.specs.meaning.Faults.{Fault}
use Rattle.json_form.specs.Faults.{Gives}
use Rattle.json_form.specs.meaning.Objects.{Named, is_among}
use Rattle.json_form.specs.Objects.{members_at, without, putting}
use Rattle.json_form.specs.declared.object.Members as held
use Rattle.outage_schedule.specs.declared.document.Client.{Client}
use Rattle.outage_schedule.specs.declared.document.DocTable.{DocTable}
use Rattle.outage_schedule.specs.declared.event.Event.{Event}
use Rattle.document_forms.specs.meaning.Tables.{tables_of}
use Rattle.document_forms.specs.meaning.Events.{schedule_of}
use Rattle.doc_reader.specs.declared.streamed.Ahead.{Ahead}
use Rattle.doc_reader.specs.meaning.Documents.{clients_of, document_members}
use Rattle.doc_reader.specs.Ahead.{held_members, held_back, AreRead}
use Rattle.json_form.proofs.Offered.{without_put, without_other}
use Rattle.document_forms.proofs.Offered.{at_this, at_other}

given_some : {A : Type 0} (P : A → Type 0) (r : Result A DocFault) (read : Result A Fault) → Gives r read → ((x : A) → read ≡ Ok x → P x) → IfSome (result_ok r) P
given_some P (Ok x) read h more = more x h
given_some P (Err e) read h more = tt

-- a reading that gave something gave what is read
pub of_given : {A : Type 0} (P : A → Type 0) (r : Result A DocFault) (o : Option A) (read : Result A Fault) → o ≡ result_ok r → Gives r read → ((x : A) → read ≡ Ok x → P x) → IfSome o P
of_given P r o read same h more = subst (λ (q : Option _). IfSome q P) (sym same) (given_some P r read h more)

pub nothing_more : {A : Type 0} (P : Type 0) (Q : A → Type 0) (r : Option A) → MatchOption r P Q → is_some r ≡ false → P
nothing_more P Q None is h = is
nothing_more P Q (Some x) is h = absurd (cc)

-- ---- nothing was read

nothing_at : (name q : List ℕ) (ms : Named) (b : Bool) → bytes_eq q name ≡ b → ms name ≡ None → cond b None (ms q) ≡ ms q
nothing_at name q ms true at none = sym (ap ms ((bytes_eq-Decides q name).0 at) ∙ none)
nothing_at name q ms false at none = refl

pub nothing_taken : (name : List ℕ) (ms : Named) → ms name ≡ None → without name ms ≡ ms
unfolding without
nothing_taken name ms none = fun_ext (λ q. nothing_at name q ms (bytes_eq q name) refl none)

pub none_held : held_back (λ name. None) ≡ (λ name. None)
none_held =
    let none : Named = λ name. None in
    ap (λ ms. without (codes "schedule") (without (codes "clients") ms)) (nothing_taken (codes "tables") none refl) ∙ ap (without (codes "schedule")) (nothing_taken (codes "clients") none refl) ∙ nothing_taken (codes "schedule") none refl

-- ---- the three members that are read one after the other

pub tables_put : (old : Ahead) (tables : List DocTable) (d : Data) (ms : Named) → tables_of d ≡ Ok tables → AreRead old ms
    → AreRead (record { tables = Some tables; clients = old.clients; schedule = old.schedule; others = old.others }) (putting (codes "tables") d ms)
tables_put old tables d ms e are = record {
  tables = ap (option_map tables_of) (at_this (codes "tables") d ms refl) ∙ ap (λ r. Some r) e;
  clients = ap (option_map clients_of) (at_other (codes "clients") (codes "tables") d ms refl) ∙ are.clients;
  schedule = ap (option_map (schedule_of 64 true)) (at_other (codes "schedule") (codes "tables") d ms refl) ∙ are.schedule;
  others = are.others ∙ sym (ap (λ m. without (codes "schedule") (without (codes "clients") m)) (without_put (codes "tables") d ms));
}

pub clients_put : (old : Ahead) (clients : List Client) (d : Data) (ms : Named) → clients_of d ≡ Ok clients → AreRead old ms
    → AreRead (record { tables = old.tables; clients = Some clients; schedule = old.schedule; others = old.others }) (putting (codes "clients") d ms)
clients_put old clients d ms e are = record {
  tables = ap (option_map tables_of) (at_other (codes "tables") (codes "clients") d ms refl) ∙ are.tables;
  clients = ap (option_map clients_of) (at_this (codes "clients") d ms refl) ∙ ap (λ r. Some r) e;
  schedule = ap (option_map (schedule_of 64 true)) (at_other (codes "schedule") (codes "clients") d ms refl) ∙ are.schedule;
  others = are.others ∙ sym (ap (λ m. without (codes "schedule") (without (codes "clients") m)) (without_other (codes "clients") (codes "tables") d ms refl) ∙ ap (without (codes "schedule")) (without_put (codes "clients") d (without (codes "tables") ms)));
}

pub schedule_put : (old : Ahead) (events : List Event) (d : Data) (ms : Named) → schedule_of 64 true d ≡ Ok events → AreRead old ms
    → AreRead (record { tables = old.tables; clients = old.clients; schedule = Some events; others = old.others }) (putting (codes "schedule") d ms)
schedule_put old events d ms e are = record {
  tables = ap (option_map tables_of) (at_other (codes "tables") (codes "schedule") d ms refl) ∙ are.tables;
  clients = ap (option_map clients_of) (at_other (codes "clients") (codes "schedule") d ms refl) ∙ are.clients;
  schedule = ap (option_map (schedule_of 64 true)) (at_this (codes "schedule") d ms refl) ∙ ap (λ r. Some r) e;
  others = are.others ∙ sym (ap (λ m. without (codes "schedule") (without (codes "clients") m)) (without_other (codes "schedule") (codes "tables") d ms refl)
      ∙ ap (without (codes "schedule")) (without_other (codes "schedule") (codes "clients") d (without (codes "tables") ms) refl) ∙ without_put (codes "schedule") d (without (codes "clients") (without (codes "tables") ms)));
}

-- ---- the members that are held

record Apart (k : List ℕ) : Type 0 where
  tables : bytes_eq (codes "tables") k ≡ false
  clients : bytes_eq (codes "clients") k ≡ false
  schedule : bytes_eq (codes "schedule") k ≡ false
  from_tables : bytes_eq k (codes "tables") ≡ false
  from_clients : bytes_eq k (codes "clients") ≡ false
  from_schedule : bytes_eq k (codes "schedule") ≡ false
  among : is_among document_members k ≡ true

one_at : (P : List ℕ → Type 0) (n k : List ℕ) (rest b : Bool) → bytes_eq n k ≡ b → (b || rest) ≡ true → P n → (rest ≡ true → P k) → P k
one_at P n k rest true e h this later = subst P ((bytes_eq-Decides n k).0 e) this
one_at P n k rest false e h this later = later h

one_of : (P : List ℕ → Type 0) (names : List (List ℕ)) (k : List ℕ) → is_among names k ≡ true → AllByRecursion P names → P k
one_of P [] k h all = absurd (cc)
one_of P (n ∷ ns) k h all = one_at P n k (is_among ns k) _ refl h all.0 (λ more. one_of P ns k more all.1)

held_apart : AllByRecursion Apart held_members
held_apart = (
  record { tables = refl; clients = refl; schedule = refl; from_tables = refl; from_clients = refl; from_schedule = refl; among = refl },
  (
    record { tables = refl; clients = refl; schedule = refl; from_tables = refl; from_clients = refl; from_schedule = refl; among = refl },
    (
      record { tables = refl; clients = refl; schedule = refl; from_tables = refl; from_clients = refl; from_schedule = refl; among = refl },
      (
        record { tables = refl; clients = refl; schedule = refl; from_tables = refl; from_clients = refl; from_schedule = refl; among = refl },
        tt,
      ),
    ),
  ),
)

pub held_is_known : (k : List ℕ) → is_among held_members k ≡ true → is_among document_members k ≡ true
held_is_known k h = (one_of Apart held_members k h held_apart).among

pub held_put : (old : Ahead) (others : held.Members) (k : List ℕ) (d : Data) (ms : Named) → is_among held_members k ≡ true → members_at others ≡ putting k d (members_at old.others) → AreRead old ms
    → AreRead (record { tables = old.tables; clients = old.clients; schedule = old.schedule; others = others }) (putting k d ms)
held_put old others k d ms h put are =
    let apart = one_of Apart held_members k h held_apart in record {
      tables = ap (option_map tables_of) (at_other (codes "tables") k d ms apart.tables) ∙ are.tables;
      clients = ap (option_map clients_of) (at_other (codes "clients") k d ms apart.clients) ∙ are.clients;
      schedule = ap (option_map (schedule_of 64 true)) (at_other (codes "schedule") k d ms apart.schedule) ∙ are.schedule;
      others = put ∙ ap (putting k d) are.others ∙ sym (ap (λ m. without (codes "schedule") (without (codes "clients") m)) (without_other k (codes "tables") d ms apart.from_tables)
          ∙ ap (without (codes "schedule")) (without_other k (codes "clients") d (without (codes "tables") ms) apart.from_clients) ∙ without_other k (codes "schedule") d (without (codes "clients") (without (codes "tables") ms)) apart.from_schedule);
    }

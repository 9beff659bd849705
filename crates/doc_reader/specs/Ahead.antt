-- A document whose tables, clients and events are read one after the other.
use Rattle.std.specs.Prelude.{◌≡◌, ℕ, List, [], ◌∷◌, true, Some, option_map, Ok, codes}
use Rattle.json.specs.Token.{Token}
use Rattle.serde_json.specs.Data.{Data}
use Rattle.json_form.specs.meaning.Objects.{Named}
use Rattle.json_form.specs.Objects.{members_at, without, putting}
use Rattle.json_form.specs.Streams.{value_ahead}
use Rattle.doc_reader.specs.declared.streamed.Ahead.{Ahead}
use Rattle.document_forms.specs.meaning.Tables.{tables_of}
use Rattle.doc_reader.specs.meaning.Documents.{clients_of}
use Rattle.document_forms.specs.meaning.Events.{schedule_of}

-- the members whose values are held until the last member was passed
abbrev pub held_members : List (List ℕ)
held_members = codes "service" ∷ codes "sequences" ∷ codes "image" ∷ codes "print_image" ∷ []

abbrev pub held_back : Named → Named
held_back ms = without (codes "schedule") (without (codes "clients") (without (codes "tables") ms))

-- what was read is what these members are read as, the events as where there are 64 clients and a
-- second store, and the others are held
pub record AreRead (ahead : Ahead) (ms : Named) : Type 0 where
  pub tables : option_map tables_of (ms (codes "tables")) ≡ option_map (λ ts. Ok ts) ahead.tables
  pub clients : option_map clients_of (ms (codes "clients")) ≡ option_map
      (λ cs. Ok cs) ahead.clients
  pub schedule : option_map (schedule_of 64 true) (ms (codes "schedule")) ≡ option_map
      (λ es. Ok es) ahead.schedule
  pub others : members_at ahead.others ≡ held_back ms

-- the tokens begin with a value, and once it was passed it is read with the members before as the
-- one at this name
abbrev pub Passes : ℕ → List ℕ → Ahead → List Token → Ahead → List Token → Type 0
Passes depth name old ts new rest = (d : Data) × (value_ahead depth ts ≡ Some (d, rest))
    × ((ms : Named) → AreRead old ms → AreRead new (putting name d ms))

-- Settings one after the other, as a loop reads them.
use Rattle.std.proofs.Common.{◌≡◌, ℕ, suc, List, [], ◌∷◌, ◌++◌, Result, Ok, Err, refl, sym, ap, ◌∙◌}
use Rattle.std.specs.Prelude.{Some}
use Rattle.std.proofs.lemmas.List.{append-nil}
use Rattle.svc_values.specs.declared.value.Value.{Value}
use Rattle.svc_values.specs.meaning.SettingsList.{NamedValues, last_name}
use Rattle.svc_values.proofs.Offered.{last_name-last}
use Rattle.canon_bytes.specs.declared.fault.Fault.{Fault}
use Rattle.canon_bytes.specs.declared.fault.ReadFault.{ReadFault}
use Rattle.canon_bytes.specs.declared.fault.ReadFault.TheVariants as errors
use Rattle.canon_bytes.specs.Reading.{IsReading}
use Rattle.canon_bytes.specs.meaning.SettingsBytes.{setting_at, settings_behind}
use Rattle.canon_bytes.proofs.Loop.{behind, moved}

-- these settings, and then that many more from the bytes
abbrev pub continued : NamedValues → ℕ → List ℕ → Result (NamedValues × List ℕ) Fault
continued settings more bytes = behind settings (settings_behind (last_name settings) more bytes)

pub continued-next : (settings : NamedValues) (more : ℕ) (bytes : List ℕ) (name : List ℕ) (value : Value) (rest : List ℕ) → setting_at (last_name settings) bytes ≡ Ok ((name, value), rest) → continued settings (suc more) bytes ≡ continued (settings ++ (name, value) ∷ []) more rest
unfolding settings_behind
continued-next settings more bytes name value rest first =
    rw first (moved settings (name, value) (settings_behind (Some name) more rest))
    ∙ ap (λ before. behind (settings ++ (name, value) ∷ []) (settings_behind before more rest)) (sym (last_name-last settings name value))

pub continued-fault : (e : ReadFault) (settings : NamedValues) (more : ℕ) (bytes : List ℕ) → IsReading (λ (x : (List ℕ × Value) × List ℕ). x) (Err e) (setting_at (last_name settings) bytes) → IsReading (λ (x : NamedValues × List ℕ). x) (Err e) (continued settings (suc more) bytes)
unfolding settings_behind
continued-fault errors.NoMemory settings more bytes first = tt
continued-fault (errors.Fault fault) settings more bytes first = rw first refl

pub continued-last : (settings : NamedValues) (bytes : List ℕ) → continued settings 0 bytes ≡ Ok (settings, bytes)
unfolding settings_behind
continued-last settings bytes = ap (λ (all : NamedValues). Ok (all, bytes)) (append-nil settings)

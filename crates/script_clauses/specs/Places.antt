-- Where a stretch of a script begins.
use Rattle.std.specs.Prelude.{◌≡◌, ◌↔◌, ℕ, IsTrue, List, length, map, take, drop}
use Rattle.svc_values.specs.declared.call.Call.{Call}
use Rattle.svc_values.specs.declared.entry.Entry.{Entry}
use Rattle.svc_values.specs.meaning.SettingsList.{NamedValues, same_settings, with_sets}
use Rattle.script_clauses.specs.meaning.Scripted.{is_stretch}

-- The entry has the calls of the script from this place on, as many as it has pieces, and the
-- settings behind those before it.
pub record StandsAt (settings : NamedValues) (script : List Call) (entry : Entry)
    (from : ℕ) : Type 0 where
  pub calls : map (λ piece. piece.call) entry.pieces ≡ take (length entry.pieces) (drop from script)
  pub starts : IsTrue (same_settings entry.settings (with_sets settings (take from script)))

-- The test of a stretch is true exactly of those that stand at some place.
abbrev pub StretchesHavePlaces : Type 0
StretchesHavePlaces = (settings : NamedValues) (script : List Call) (entry : Entry)
    → IsTrue (is_stretch settings script entry) ↔ ((from : ℕ) × StandsAt settings script entry from)

-- The limits that the small parts of a report keep to: numbers have 64 bits, names are names, and
-- texts, octets, rows and answers are no longer than those of a document.
use Rattle.std.specs.Prelude.{ℕ, ◌^◌, ◌&&◌, ◌==◌, Bool, true, nat_le, nat_lt, List, length}
use Rattle.std.specs.List.{list_all}
use Rattle.json_form.specs.meaning.Values.{fits_i64}
use Rattle.svc_values.specs.declared.value.Value.{Value}
use Rattle.svc_values.specs.declared.value.Value.TheVariants as value
use Rattle.svc_values.specs.declared.answer.Answer.{Answer}
use Rattle.svc_values.specs.declared.answer.Answer.TheVariants as answer
use Rattle.svc_values.specs.declared.draw.Draw.{Draw}
use Rattle.svc_values.specs.declared.draw.Draw.TheVariants as draw
use Rattle.svc_values.specs.declared.entry.Ltxid.{Ltxid}
use Rattle.svc_values.specs.declared.entry.SessionId.{SessionId}
use Rattle.svc_values.specs.meaning.SettingsList.{NamedValues}
use Rattle.svc_values.specs.meaning.Texts.{is_name}

-- a number of 64 bits without a sign
abbrev pub fits_u64 : ℕ → Bool
fits_u64 n = nat_lt n (2 ^ 64)

-- at most 64 bytes
abbrev pub fits_line : List ℕ → Bool
fits_line bytes = nat_le (length bytes) 64

abbrev pub fits_value : Value → Bool
fits_value (value.Int n) = fits_i64 n
fits_value (value.Text text) = fits_line text
fits_value (value.Bytes octets) = fits_line octets

-- at most 8 values
abbrev pub fits_row : List Value → Bool
fits_row row = nat_le (length row) 8 && list_all fits_value row

abbrev pub fits_identifier : Ltxid → Bool
fits_identifier x = fits_u64 x.incarnation && (fits_u64 x.session && fits_u64 x.number)

abbrev pub fits_session : SessionId → Bool
fits_session s = fits_u64 s.incarnation && fits_u64 s.session

abbrev pub fits_settings : NamedValues → Bool
fits_settings settings = list_all (λ pair. is_name pair.0 && fits_value pair.1) settings

-- an answer of at most 32 rows
abbrev pub fits_answer : Answer → Bool
fits_answer (answer.Done n) = fits_u64 n
fits_answer (answer.Rows rows) = nat_le (length rows) 32 && list_all fits_row rows
fits_answer (answer.Number n) = fits_i64 n
fits_answer _ = true

-- an identifier value has 16 octets
abbrev pub fits_draw : Draw → Bool
fits_draw (draw.Seq name n) = is_name name && fits_i64 n
fits_draw (draw.Clock tick) = fits_u64 tick
fits_draw (draw.Id octets) = length octets == 16

abbrev pub fits_replies : List Answer → List Draw → Bool
fits_replies answers draws = list_all fits_answer answers && list_all fits_draw draws

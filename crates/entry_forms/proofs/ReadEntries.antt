-- What entries that were read keep to.
use Rattle.std.proofs.Common.{◌≡◌, List, [], true, Result, Ok, subst, codes, Bool}
use Rattle.std.specs.Prelude.{⊤}
use Rattle.std.specs.List.{list_all}
use Rattle.serde_json.specs.Data.{Data}
use Rattle.json_form.specs.meaning.Faults.{Fault, ◌>>=◌}
use Rattle.json_form.specs.meaning.Values.{items_of, bool_of}
use Rattle.json_form.specs.meaning.Arrays.{Placed, each_of, fixed, part}
use Rattle.json_form.specs.meaning.Objects.{Named, object_with, all_there, member_in}
use Rattle.svc_values.specs.declared.call.Call.{Call}
use Rattle.svc_values.specs.declared.entry.Entry.{Entry}
use Rattle.svc_values.specs.declared.entry.Ltxid.{Ltxid}
use Rattle.svc_values.specs.declared.entry.Piece.{Piece}
use Rattle.svc_values.specs.meaning.Calls.{is_made}
use Rattle.svc_values.specs.meaning.SettingsList.{NamedValues}
use Rattle.json_form.proofs.Offered.{after, ok_is, member_read, all_read, both_true}
use Rattle.answer_forms.specs.meaning.Parts.{identifier_in, settings_in, call_in}
use Rattle.answer_forms.specs.meaning.Answers.{answers_in}
use Rattle.answer_forms.specs.meaning.Draws.{draws_in}
use Rattle.entry_forms.specs.meaning.Entries.{piece_in, pieces_in, entry_members, entry_in, entries_in}
use Rattle.told_reports.specs.Keeping.{is_entry}
use Rattle.answer_forms.proofs.Offered.{settings_read, call_at}

abbrev with_call : Placed → Call → Result Piece Fault
with_call ds call =
    part 1 answers_in ds >>= λ answers. part 2 draws_in ds >>= λ draws. Ok (record { call = call; answers = answers; draws = draws })

piece_read : (d : Data) (piece : Piece) → piece_in d ≡ Ok piece → is_made piece.call ≡ true
unfolding piece_in
piece_read d piece h =
    let a = after (fixed 3 d) (λ ds. part 0 call_in ds >>= with_call ds) piece h in
    let b = after (part 0 call_in a.0) (with_call a.0) piece a.2 in
    let e = after (part 1 answers_in a.0) (λ answers. part 2 draws_in a.0 >>= λ draws. Ok (record { call = b.0; answers = answers; draws = draws })) piece b.2 in
    let g = after (part 2 draws_in a.0) (λ draws. Ok (record { call = b.0; answers = e.0; draws = draws })) piece e.2 in
    subst (λ (p : Piece). is_made p.call ≡ true) (ok_is _ piece g.2) (call_at 0 a.0 b.0 b.1)

pieces_read : (d : Data) (pieces : List Piece) → pieces_in d ≡ Ok pieces → list_all (λ piece. is_made piece.call) pieces ≡ true
pieces_read d pieces h =
    let a = after (items_of d) (each_of piece_in) pieces h in
    all_read (λ piece. is_made piece.call) piece_in piece_read a.0 pieces a.2

abbrev made_entry : Bool → Ltxid → List Piece → NamedValues → Result Entry Fault
made_entry completed x pieces settings =
    Ok (record { ltxid = x; completed = completed; settings = settings; pieces = pieces; writes = [] })

abbrev with_pieces : Named → Bool → Ltxid → List Piece → Result Entry Fault
with_pieces ms completed x pieces = member_in (codes "settings") settings_in ms >>= made_entry completed x pieces

abbrev with_ltxid : Named → Bool → Ltxid → Result Entry Fault
with_ltxid ms completed x = member_in (codes "pieces") pieces_in ms >>= with_pieces ms completed x

abbrev with_completed : Named → Bool → Result Entry Fault
with_completed ms completed = member_in (codes "ltxid") identifier_in ms >>= with_ltxid ms completed

abbrev with_members : Named → ⊤ → Result Entry Fault
with_members ms _ = member_in (codes "completed") bool_of ms >>= with_completed ms

entry_read : (d : Data) (entry : Entry) → entry_in d ≡ Ok entry → is_entry entry ≡ true
unfolding entry_in
entry_read d entry h =
    let a = after (object_with entry_members d) (λ ms. all_there entry_members ms >>= with_members ms) entry h in
    let ms = a.0 in
    let t = after (all_there entry_members ms) (with_members ms) entry a.2 in
    let b = after (member_in (codes "completed") bool_of ms) (with_completed ms) entry t.2 in
    let x = after (member_in (codes "ltxid") identifier_in ms) (with_ltxid ms b.0) entry b.2 in
    let p = after (member_in (codes "pieces") pieces_in ms) (with_pieces ms b.0 x.0) entry x.2 in
    let s = after (member_in (codes "settings") settings_in ms) (made_entry b.0 x.0 p.0) entry p.2 in
    let ps = member_read (codes "pieces") pieces_in ms p.0 p.1 in
    let ss = member_read (codes "settings") settings_in ms s.0 s.1 in
    subst (λ (e : Entry). is_entry e ≡ true) (ok_is _ entry s.2) (both_true _ _ (settings_read ss.0 s.0 ss.1) (pieces_read ps.0 p.0 ps.1))

pub entries_read : (d : Data) (entries : List Entry) → entries_in d ≡ Ok entries → list_all is_entry entries ≡ true
entries_read d entries h =
    let a = after (items_of d) (each_of entry_in) entries h in all_read is_entry entry_in entry_read a.0 entries a.2

use Rattle.std.proofs.Common.{◌≡◌, refl, true, false}
use Rattle.std.specs.Str.{is_utf8}
use Rattle.std.proofs.lemmas.Str.{is_utf8-from_IsUtf8}
use Rattle.canon_bytes.specs.meaning.TextBytes.{text_at}
use Rattle.canon_bytes.proofs.Utf8.{is_utf8-refuted}
use Rattle.canon_bytes.proofs.texts.TextTake.take.Goals as goal

pub returns-in-Err-clause-exact : goal.returns-in-Err-clause-exact
unfolding text_at
returns-in-Err-clause-exact c =
    let no : is_utf8 c.in_ok-octets.octets.now ≡ false = is_utf8-refuted _ c.in-Err.ensures.cases.0 in
    rw (c.in_ok-octets.ensures.exact, no, c.valid_up_to.ensures, c.in-Err.ensures.valid_len) refl

pub returns-in-Ok-new-clause-exact : goal.returns-in-Ok-new-clause-exact
unfolding text_at
returns-in-Ok-new-clause-exact c =
    let yes : is_utf8 c.in_ok-octets.octets.now ≡ true = is_utf8-from_IsUtf8 _ c.in-Ok.ensures.cases.1 in
    rw (c.in_ok-octets.ensures.exact, yes, c.in-Ok-new.ensures.made, c.in-Ok.ensures.cases.0) refl

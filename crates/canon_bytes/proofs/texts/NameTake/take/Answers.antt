use Rattle.std.proofs.Common.{◌≡◌, refl, false}
use Rattle.svc_values.specs.meaning.Texts.{is_name}
use Rattle.canon_bytes.specs.meaning.TextBytes.{name_at}
use Rattle.canon_bytes.proofs.Utf8.{is_name-refuted}
use Rattle.canon_bytes.proofs.texts.NameTake.take.Goals as goal

pub returns-in_default-clause-exact : goal.returns-in_default-clause-exact
unfolding name_at
returns-in_default-clause-exact c =
    let no_name : is_name c.in_ok-octets.octets.now ≡ false = is_name-refuted _ c.in_default.ensures.cases.0 in
    rw (c.in_ok-octets.ensures.exact, no_name) refl

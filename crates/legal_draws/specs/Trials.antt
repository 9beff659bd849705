-- Tests of draws that are chosen one after the other.
use Rattle.std.specs.Prelude.{◌≡◌, ◌++◌, Bool, false, List}
use Rattle.svc_values.specs.declared.draw.Draw.{Draw}

-- no draws that begin with these meet the test
abbrev pub FailsBehind : (List Draw → Bool) → List Draw → Type 0
FailsBehind test draws = (more : List Draw) → test (draws ++ more) ≡ false

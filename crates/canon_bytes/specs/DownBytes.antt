-- Frames to the client: a payload is a tag and the fields, and a frame is the number of its bytes
-- and the payload. Here is what contracts and proofs say of it besides.
use Rattle.std.specs.Prelude.{ℕ, suc, ◌==◌, ◌||◌, IsTrue, List, [], ◌∷◌, length, Result, Ok, Err, if◌then◌else◌}
use Rattle.svc_values.specs.Identifiers.{IsLtxid}
use Rattle.svc_values.specs.declared.frame.Ahead.{Ahead}
use Rattle.svc_values.specs.declared.frame.Ahead.TheVariants as ahead
use Rattle.svc_values.specs.declared.frame.Down.{Down}
use Rattle.svc_values.specs.declared.frame.Down.TheVariants as down
use Rattle.canon_bytes.specs.meaning.Numbers.{u64_at, bool_at}
use Rattle.canon_bytes.specs.Numbers.{FitsU64}
use Rattle.canon_bytes.specs.meaning.Draws.{draws_at}
use Rattle.canon_bytes.specs.Draws.{FitsDraws}
use Rattle.canon_bytes.specs.meaning.AnswerBytes.{answers_at}
use Rattle.canon_bytes.specs.AnswerBytes.{FitsAnswers}
use Rattle.canon_bytes.specs.meaning.Entries.{ltxid_at}
use Rattle.canon_bytes.specs.Entries.{FitsLtxid}
use Rattle.canon_bytes.specs.meaning.Reading.{◌>>=◌}
use Rattle.canon_bytes.specs.declared.fault.Fault.{Fault}
use Rattle.canon_bytes.specs.declared.fault.Fault.TheVariants.{Short, BadTag}

-- a frame is refused for one of two causes
abbrev pub IsCause : ℕ → Type 0
IsCause cause = IsTrue ((cause == 1) || (cause == 2))

abbrev pub FitsDown : Down → Type 0
FitsDown (down.Hello ltxid) = FitsLtxid ltxid
FitsDown (down.Reply answers draws ltxid) = FitsAnswers answers × FitsDraws draws × FitsLtxid ltxid
FitsDown (down.OutcomeRefused who next) = FitsU64 next
FitsDown (down.Refused cause) = IsCause cause
FitsDown _ = Unit {0}

unfoldable pub ahead_at : List ℕ → Result (Ahead × List ℕ) Fault
ahead_at [] = Err Short
ahead_at (tag ∷ rest) =
    if tag == 1 then Ok (ahead.Server, rest)
    else (if tag == 2 then Ok (ahead.Client, rest)
    else (if tag == 3 then Ok (ahead.Forgotten, rest)
    else Err (BadTag (suc (length rest)))))

unfoldable pub cause_at : List ℕ → Result (ℕ × List ℕ) Fault
cause_at [] = Err Short
cause_at (cause ∷ rest) = if (cause == 1) || (cause == 2) then Ok (cause, rest) else
    Err (BadTag (suc (length rest)))

-- what stands behind the tag of each frame
unfoldable pub reply_at : List ℕ → Result (Down × List ℕ) Fault
reply_at bytes = do
  answers ← answers_at bytes
  draws ← draws_at answers.1
  ltxid ← ltxid_at draws.1
  Ok (down.Reply answers.0 draws.0 ltxid.0, ltxid.1)

unfoldable pub outcome_is_at : List ℕ → Result (Down × List ℕ) Fault
outcome_is_at bytes = do
  committed ← bool_at bytes
  completed ← bool_at committed.1
  Ok (down.OutcomeIs committed.0 completed.0, completed.1)

unfoldable pub outcome_refused_at : List ℕ → Result (Down × List ℕ) Fault
outcome_refused_at bytes = do
  who ← ahead_at bytes
  next ← u64_at who.1
  Ok (down.OutcomeRefused who.0 next.0, next.1)

unfoldable pub down_at : List ℕ → Result (Down × List ℕ) Fault
down_at [] = Err Short
down_at (tag ∷ rest) =
    if tag == 17 then (ltxid_at rest >>= λ ltxid. Ok (down.Hello ltxid.0, ltxid.1))
    else (if tag == 18 then reply_at rest
    else (if tag == 19 then outcome_is_at rest
    else (if tag == 20 then outcome_refused_at rest
    else (if tag == 21 then Ok (down.Blocked, rest)
    else (if tag == 22 then (cause_at rest >>= λ cause. Ok (down.Refused cause.0, cause.1))
    else Err (BadTag (suc (length rest))))))))

-- the rules that a writer's caller sees to
abbrev pub IsMadeDown : Down → Type 0
IsMadeDown (down.Hello ltxid) = IsLtxid ltxid
IsMadeDown (down.Reply answers draws ltxid) = IsLtxid ltxid
IsMadeDown (down.Refused cause) = IsCause cause
IsMadeDown _ = Unit {0}

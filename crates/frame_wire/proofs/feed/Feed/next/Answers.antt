use Rattle.std.proofs.Common.{◌≡◌, ◌++◌, ◌+◌, length, drop, ℕ, List, true, false, refl, sym, ap, ◌∙◌, inr}
use Rattle.canon_bytes.specs.meaning.TextBytes.{spell_bytes}
use Rattle.frame_wire.specs.Stream.{Pending}
use Rattle.frame_wire.proofs.feed.Feed.next.Goals as goal

pub returns-in-Ok : goal.returns-in-Ok
returns-in-Ok g c =
    let payload = c.in-Some.payload.now in
    let pending = ap (λ (p : Pending). p.bytes) c.self.view_is in
    let front = rw (c.as_slice.ensures, pending) at c.in-Some.ensures.front in
    let found = c.in-Ok.ensures.found in
    let good : c.args.self.now.bad ≡ false = sym (ap (λ (p : Pending). p.bad) c.self.view_is) ∙ c.if-self.false in (
      good,
      record {
        front = front ∙ ap (λ (p : List ℕ). spell_bytes p ++ drop (8 + length payload) c.args.self.now.bytes) found ∙ ap (λ (r : List ℕ). spell_bytes (g.F.Take.spelling c.in-Ok.frame) ++ r) (sym (c.advance.ensures.items ∙ ap (λ (b : List ℕ). drop (8 + length payload) b) pending));
        fitting = c.in-Ok.ensures.fitting;
        short = rw (← found) c.in-Some.ensures.short;
      },
      c.if-self.false,
    )

abbrev marked : Pending → Pending
marked p = record { bytes = p.bytes; bad = true }

pub returns-in-Err-BadFrame : goal.returns-in-Err-BadFrame
returns-in-Err-BadFrame g c = (
  inr (c.in-Some.payload.now, sym (rw (c.as_slice.ensures, ap (λ (p : Pending). p.bytes) c.self.view_is) at c.in-Some.ensures.exact), c.in-Err-BadFrame.ensures.none (rw c.in-Err-BadFrame.field-0-is refl)),
  ap (λ (p : Pending). marked p) c.self.view_is,
)

-- What holds of a connection that may end, by cases: it was open, or it was not.
use Rattle.std.proofs.Common.{◌≡◌, refl, Bool, true, false, ℕ, List, [], ◌++◌, Option, Some, if◌then◌else◌}
use Rattle.std.specs.List.{list_any}
use Rattle.svc_values.specs.declared.frame.Down.{Down}
use Rattle.outage_schedule.specs.declared.item.Served.{Served}
use Rattle.world_model.specs.meaning.Frames.{Sent, up_size, down_size, whole_front}
use Rattle.world_model.specs.meaning.Links.{Link, ends, sends, is_close}
use Rattle.world_model.specs.meaning.Serving.{Front, after_front, handled, is_blocked, reply_of, commits_after}
use Rattle.world_model.specs.meaning.Cutting.{cut_link}
use Rattle.world_model.specs.meaning.Crashing.{fallen_link}
use Rattle.world_model.proofs.events.Tests.{not_both}

abbrev pub shut : ℕ → Link → Link
shut event link = record link { is_open = false; ended = Some event }

abbrev pub with_frames : List Sent → Link → Link
with_frames frames link = record link { sent = link.sent ++ frames; up = link.up ++ frames }

abbrev pub has_close : List Sent → Bool
has_close frames = list_any (λ sent. is_close sent.frame) frames

-- as a cut leaves it, and a crash
abbrev pub as_cut : ℕ → ℕ → Link → Link → Link
as_cut up down link one = record one { is_cut = true; up = whole_front up_size up link.up; down = whole_front down_size down link.down }

abbrev pub as_fallen : Link → Link → Link
as_fallen link one = record one { is_living = false; up = []; down = if link.is_cut then link.down else [] }

module _ (P : Link → Type 0) where
  ends_by : (event : ℕ) (link : Link) (is_open : Bool) → link.is_open ≡ is_open → (link.is_open ≡ true → P (shut event link)) → (link.is_open ≡ false → P link) → P (if is_open then shut event link else link)
  ends_by event link true is one other = one is
  ends_by event link false is one other = other is

  pub ends_case : (event : ℕ) (link : Link) → (link.is_open ≡ true → P (shut event link)) → (link.is_open ≡ false → P link) → P (ends event link)
  ends_case event link one other = ends_by event link link.is_open refl one other

  pub if_by : (test : Bool) (a b : Link) → (test ≡ true → P a) → (test ≡ false → P b) → P (if test then a else b)
  if_by true a b one other = one refl
  if_by false a b one other = other refl

  pub sends_case : (event : ℕ) (frames : List Sent) (link : Link) → (has_close frames ≡ true → P (ends event (with_frames frames link))) → (has_close frames ≡ false → P (with_frames frames link))
      → P (sends event frames link)
  sends_case event frames link one other = if_by (has_close frames) (ends event (with_frames frames link)) (with_frames frames link) one other

  -- what is the same with the frames sent, ended or not
  pub sends_alike : (event : ℕ) (frames : List Sent) (link : Link) → P (shut event (with_frames frames link)) → P (with_frames frames link) → P (sends event frames link)
  sends_alike event frames link one other = sends_case event frames link (λ closes. ends_case event (with_frames frames link) (λ is. one) (λ is. other)) (λ closes. other)

  pub handled_case : (event : ℕ) (front : Front) (served : Served) → ((reply : Option Down) → is_blocked served.item ≡ true → P (ends event (after_front front served reply)))
      → ((reply : Option Down) → is_blocked served.item ≡ false → P (after_front front served reply)) → P (handled event front served)
  handled_case event front served one other =
      let reply : Option Down = reply_of served.session (commits_after front.link served.item) served.item in
      if_by (is_blocked served.item) (ends event (after_front front served reply)) (after_front front served reply) (one reply) (other reply)

  pub handled_alike : (event : ℕ) (front : Front) (served : Served) → ((reply : Option Down) → P (shut event (after_front front served reply))) → ((reply : Option Down) → P (after_front front served reply))
      → P (handled event front served)
  handled_alike event front served one other =
      handled_case event front served (λ reply is. ends_case event (after_front front served reply) (λ opens. one reply) (λ closed. other reply)) (λ reply is. other reply)

module _ (P : Link → Type 0) where
  pub cut_case : (event up down : ℕ) (link : Link) → link.is_open ≡ true → P (as_cut up down link (shut event link)) → P (cut_link event up down link)
  cut_case event up down link opens here = ends_case (λ one. P (as_cut up down link one)) event link (λ is. here) (λ is. absurd (not_both link.is_open opens is))

  pub fallen_case : (event : ℕ) (link : Link) → (link.is_open ≡ true → P (as_fallen link (shut event link))) → (link.is_open ≡ false → P (as_fallen link link)) → P (fallen_link event link)
  fallen_case event link one other = ends_case (λ here. P (as_fallen link here)) event link one other

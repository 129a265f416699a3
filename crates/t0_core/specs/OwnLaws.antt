-- Law: the front of a terminal's end is that of a dialogue that this end opens, with its own data.
use Rattle.std.proofs.Common.{◌≡◌, ℕ, ◌+◌, ◌-◌, ◌<◌, List, [], ◌∷◌, ◌++◌, length, take, refl, sym, ◌∙◌, ap, arith, lit<, length-append}
use Rattle.std.specs.Prelude.{slice_index}
use Rattle.std.proofs.lemmas.List.{take_more}
use Rattle.apdu_core.specs.HeaderBytes.{header_bytes}
use Rattle.t0_core.specs.declared.end.End.TheVariants.{Terminal, Card}
use Rattle.t0_core.specs.declared.direction.Direction.{Direction}
use Rattle.t0_core.specs.declared.direction.Direction.TheVariants.{ToCard, FromCard}
use Rattle.t0_core.specs.declared.host_end.HostStage.{HostStage}
use Rattle.t0_core.specs.declared.host_end.HostStage.TheVariants.{SendingHeader, Awaiting, Moving, AwaitingSecond}
use Rattle.t0_core.specs.Character.{Character, sent_by}
use Rattle.t0_core.specs.Dialogue.{Body, Dialogue, IsDialogue, characters, foreseen, to_move}
use Rattle.t0_core.specs.Front.{Front, In_header, In_body, After_first, IsFront, IsBegun, front_characters, header_only}
use Rattle.t0_core.specs.HostSide.{Hosting, HostStandsAt, IsOpenedBy, IsRequest, AreOwn, AreForeseen, at_stage}
use Rattle.t0_core.specs.WholeLaws.{Supplies, longer, closes, closed, owes}
use Rattle.t0_core.specs.DialogueLaws.{ends_with, header_next}

-- a dialogue that this end opened begins with the front, and is longer
abbrev pub BeginsOwn : Hosting → Front → Type 0
BeginsOwn host front = (d : Dialogue) × (c : Character) × (rest : List Character) × IsDialogue d
    × IsOpenedBy host d.body
    × (characters d ≡ front_characters front ++ c ∷ rest)

none_moved : (direction : Direction) (content : List ℕ) → AreOwn direction content []
none_moved ToCard content = refl
none_moved FromCard content = tt

-- the next of the end's own data
next_own : (direction : Direction) (content : List ℕ) (p3 : ℕ) → AreForeseen direction content p3
    → (moved : List ℕ) → length moved < foreseen direction p3 → AreOwn direction content moved
    → (y : ℕ) × AreOwn direction content (moved ++ y ∷ [])
next_own ToCard content p3 same moved lt own =
    let k = length moved in
    let one : length (moved ++ slice_index content k ∷ []) ≡ k + 1 =
    length-append moved (slice_index content k ∷ []) in (
      slice_index content k,
      ap (λ m. m ++ slice_index content k ∷ []) own
          ∙ sym (take_more content k 0 (omega (arith, lt, same)))
          ∙ ap (λ n. take n content) (sym one),
    )
next_own FromCard content p3 same moved lt own = (0, tt)

opened_fresh : (host : Hosting) → IsOpenedBy host (header_only host.header host.p3 host.direction)
opened_fresh host = (refl, refl, refl, none_moved host.direction host.content)

fresh_is : (host : Hosting) → IsDialogue (closed (header_only host.header host.p3 host.direction))
fresh_is host = record {
  moved_by_segments = refl;
  is_status = (refl, lit< tt);
  only_nulls =
      λ _. tt;
}

in_header : (host : Hosting) (sent : ℕ) (bytes : List ℕ) → sent < 5
    → bytes ≡ take sent (header_bytes host.header ++ host.p3 ∷ [])
    → BeginsOwn host (In_header bytes)
in_header host sent bytes lt is =
    let more = header_next host.header host.p3 sent _ lt in
    let c : Character = (Terminal, slice_index (header_bytes host.header ++ host.p3 ∷ []) sent) in (
      closed (header_only host.header host.p3 host.direction),
      c,
      more.0,
      fresh_is host,
      opened_fresh host,
      more.1 ∙ ap (λ bs. sent_by Terminal bs ++ c ∷ more.0) (sym is),
    )

in_body : (host : Hosting) (b : Body) → IsRequest host → IsOpenedBy host b → IsBegun b
    → BeginsOwn host (In_body b)
in_body host b request opened is =
    let Own : List ℕ → Type 0 = λ m. AreOwn host.direction host.content m in
    let same : foreseen b.direction b.p3 ≡ foreseen host.direction host.p3 =
    rw (opened.2, opened.1) refl in
    let supplies : Supplies Own b =
    λ moved lt own. next_own host.direction host.content host.p3 request.2 moved
    (omega (arith, lt, same)) own in
    let x = longer Own (to_move b - length b.moved) b supplies is opened.3
    (omega (arith, owes b is)) in
    let d = closes Own b x.0 x.1 in (
      closed x.0,
      d.0,
      d.1,
      d.2,
      (x.1.header_is ∙ opened.0, x.1.p3_is ∙ opened.1, x.1.direction_is ∙ opened.2, x.1.own),
      d.3,
    )

begins_at : (host : Hosting) (stage : HostStage) (front : Front) → IsRequest host
    → HostStandsAt (at_stage host stage) front → IsFront front → BeginsOwn host front
begins_at host (SendingHeader sent) (In_header bytes) request stands is =
    in_header host sent bytes stands.0 stands.1
begins_at host (Awaiting m) (In_body b) request stands is = in_body host b request stands.0 is
begins_at host (Moving m until) (In_body b) request stands is = in_body host b request stands.0 is
begins_at host (AwaitingSecond sw1 sent) (After_first b first) request stands is =
    let d : Dialogue = record { body = b; status = (first, 0) } in (
      d,
      (Card, 0),
      [],
      record {
        moved_by_segments = is.1;
        is_status =
            (is.2.0, lit< tt);
        only_nulls = is.0.only_nulls;
      },
      stands.0,
      ends_with (After_first b first) 0 d (refl, lit< tt, refl),
    )
begins_at _ _ _ _ stands _ = absurd stands

pub begins_own : (host : Hosting) (front : Front) → IsRequest host → HostStandsAt host front
    → IsFront front → BeginsOwn host front
begins_own host front request stands is = begins_at host host.stage front request stands is

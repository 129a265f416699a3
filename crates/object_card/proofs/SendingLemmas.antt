-- The card once bytes are sent.
use Rattle.std.proofs.Common.{◌≡◌, ◌∙◌, ℕ, zero, suc, ◌+◌, ◌<◌, ◌≤◌, List, [], ◌∷◌, length, take, drop, Option, Some, None, Bool, true, false, refl, sym, ap, subst, arith, length-append, length-drop, length-take}
use Rattle.std.specs.Prelude.{unwrap_or, option_map, IfSome, if◌then◌else◌, ◌==◌, ◌||◌}
use Rattle.std.specs.List.{AllByRecursion}
use Rattle.std.proofs.lemmas.List.{drop-drop}
use Rattle.std.proofs.lemmas.Bool.{ne_eqb}
use Rattle.std.proofs.lemmas.Bool.Decides.{eqb_tells}
use Rattle.std.proofs.Common.{inl, inr}
use Rattle.apdu_core.specs.declared.header.Header.{Header}
use Rattle.apdu_core.specs.Chaining.{ChainState, idle}
use Rattle.apdu_core.specs.StatusWord.{StatusWord, count}
use Rattle.t0_core.specs.Meaning.{answered_with}
use Rattle.object_card.specs.declared.limits.TheConstants.{VALUE_LIMIT}
use Rattle.object_card.specs.declared.response.Response.{Response}
use Rattle.object_card.specs.Tables.{Entry, IsEntry}
use Rattle.object_card.specs.State.{CardState, IsCardState, ResponsePending, pending_of, with_pending}
use Rattle.object_card.specs.Refusals.{is_get, is_get_response, to_send}
use Rattle.object_card.specs.CardMeaning.{Does, sends, announcing}
use Rattle.object_card.specs.CardFields.{ApplicationView, IsResponse, held_at, entries_at, value_at, whole_of, left_of, pending_in, state_of}
use Rattle.object_card.specs.CardView.{IsStanding, IsAsked}
use Rattle.object_card.specs.StateLaws.{stays_sound}
use Rattle.object_card.proofs.CardFieldLemmas.{entries-sound, entries-known}
use Rattle.object_card.proofs.VerdictLemmas.{leaves_standing, enough_left}

abbrev pub next_at : ℕ → Response → Option Response
next_at left rest = if left == 0 then None else Some rest

value_few : (entries : List Entry) (i : ℕ) → AllByRecursion IsEntry entries
    → length (value_at entries (Some i)) ≤ VALUE_LIMIT
value_few [] i all = omega arith
value_few (e ∷ entries) zero all = all.0.within
value_few (e ∷ entries) (suc i) all = value_few entries i all.1

value_fits : (entries : List Entry) (place : Option ℕ) → AllByRecursion IsEntry entries
    → length (value_at entries place) ≤ VALUE_LIMIT
value_fits entries None all = omega arith
value_fits entries (Some i) all = value_few entries i all

all_sound : (held : List ApplicationView) (selected : Option ℕ) (chain : ChainState)
    (response : Option Response) → IsCardState (state_of held selected chain response)
    → AllByRecursion IsEntry (entries_at held selected)
all_sound held selected chain response is = split (held_at held selected) refl
  where
    split : (v : Option ApplicationView) → held_at held selected ≡ v
        → AllByRecursion IsEntry (entries_at held selected)
    split None e =
        subst (λ v. AllByRecursion IsEntry (unwrap_or (option_map (λ a. a.entries) v) []))
        (sym e) tt
    split (Some a) e = subst (AllByRecursion IsEntry) (sym (entries-known held selected a e))
        (entries-sound held selected chain response a is e)

pub sent_few : (held : List ApplicationView) (selected : Option ℕ) (chain : ChainState)
    (response : Option Response) (r : Response)
    → IsStanding held selected chain response → IsResponse (entries_at held selected) r → r.sent
    ≤ 20 + VALUE_LIMIT
sent_few held selected chain response r standing fits =
    omega (
      arith,
      fits.begun,
      fits.within,
      length-append (take r.len r.front) (value_at (entries_at held selected) r.value),
      length-take r.len r.front,
      value_fits (entries_at held selected) r.value
          (all_sound held selected chain response standing.sound),
    )

pub count_few : (p3 : ℕ) → p3 < 256 → count p3 ≤ 256
count_few p3 small = elim (eqb_tells p3 0)
    [ inl none ↦ rw none.0 (omega arith) | inr some ↦ rw some.0 (omega (arith, small)) ]

pub enough : (held : List ApplicationView) (selected : Option ℕ) (chain : ChainState)
    (response : Option Response) (h : Header) (p3 cut : ℕ) (r : Response)
    → IsAsked (state_of held selected chain response) h p3 cut → (is_get h || is_get_response h)
    ≡ true
    → left_of (entries_at held selected) r ≡ to_send (state_of held selected chain response) h
    → count p3 ≤ length (left_of (entries_at held selected) r)
enough held selected chain response h p3 cut r asked sending is =
    omega (
      arith,
      ap length is,
      enough_left (state_of held selected chain response) h p3 asked.taken
          sending,
    )

pub sent_more : (entries : List Entry) (r : Response) (n : ℕ) → IsResponse entries r → n
    ≤ length (left_of entries r)
    → IsResponse entries (record r { sent = r.sent + n })
sent_more entries r n fits within = record {
  room = fits.room;
  within = fits.within;
  is_held = fits.is_held;
  begun = omega (arith, fits.begun, within, length-drop r.sent (whole_of entries r));
}

pub left_after : (entries : List Entry) (r rest : Response) (n : ℕ) → rest
    ≡ record r { sent = r.sent + n } → left_of entries rest ≡ drop n (left_of entries r)
left_after entries r rest n is = ap (λ x. left_of entries x) is
    ∙ sym (drop-drop n r.sent (whole_of entries r))

next_pending : (entries : List Entry) (xs : List ℕ) (rest : Response) (next : Option Response)
    (n : ℕ) → next ≡ next_at (length xs) rest
    → left_of entries rest ≡ xs → pending_in entries (idle n) next ≡ pending_of xs
next_pending entries [] rest next n is left = ap (λ r. pending_in entries (idle n) r) is
next_pending entries (b ∷ xs) rest next n is left =
    let some : (length (b ∷ xs) == 0) ≡ false = ne_eqb (length (b ∷ xs)) 0
    (λ e. omega (arith, e)) in
    ap (λ r. pending_in entries (idle n) r) (is ∙ ap (λ v. if v then None else Some rest) some)
    ∙ ap (λ l. ResponsePending l) left

pub sends_does : (held : List ApplicationView) (selected : Option ℕ) (chain : ChainState)
    (response : Option Response) (h : Header) (p3 cut : ℕ) (r rest : Response)
    (next : Option Response) (status : StatusWord)
    → IsAsked (state_of held selected chain response) h p3 cut → (is_get h || is_get_response h)
    ≡ true
    → left_of (entries_at held selected) r ≡ to_send (state_of held selected chain response) h
    → left_of (entries_at held selected) rest ≡ drop (count p3)
    (left_of (entries_at held selected) r)
    → status ≡ announcing (drop (count p3) (left_of (entries_at held selected) r)) cut
    → next ≡ next_at (length (drop (count p3) (left_of (entries_at held selected) r))) rest
    → Does (state_of held selected chain response) cut
    (answered_with (record { header = h; p3 = p3; cut = cut })
    (take (count p3) (left_of (entries_at held selected) r)) status)
    (state_of held selected (idle chain.limit) next)
sends_does held selected chain response h p3 cut r rest next status asked sending is rest_is
    status_is next_is =
    let s = state_of held selected chain response in
    let entries = entries_at held selected in
    let after : with_pending s (pending_of (drop (count p3) (left_of entries r)))
    ≡ state_of held selected (idle chain.limit) next =
    ap (λ p. with_pending s p)
    (sym (next_pending entries (drop (count p3) (left_of entries r)) rest next chain.limit
    next_is rest_is)) in
    let Sends : List ℕ → Type 0 = λ xs. Does s cut
    (record {
      header = h;
      p3 = p3;
      sent = [];
      received = take (count p3) xs;
      status = announcing
          (drop (count p3) xs) cut;
    })
    (with_pending s (pending_of (drop (count p3) xs))) in
    let Status : StatusWord → Type 0 = λ w. Does s cut
    (record {
      header = h;
      p3 = p3;
      sent = [];
      received = take (count p3)
          (left_of entries r);
      status = w;
    })
    (with_pending s (pending_of (drop (count p3) (left_of entries r)))) in
    let Next : CardState → Type 0 = λ new. Does s cut
    (record {
      header = h;
      p3 = p3;
      sent = [];
      received = take (count p3)
          (left_of entries r);
      status = status;
    }) new in
    subst Next after (subst Status (sym status_is)
    (subst Sends (sym is) (sends h p3 asked.taken sending)))

next_fits : (P : Response → Type 0) (n : ℕ) (rest : Response) (next : Option Response) → next
    ≡ next_at n rest → P rest → IfSome next P
next_fits P n rest next is fits = subst (λ r. IfSome r P) (sym is) (split (n == 0))
  where
    split : (b : Bool) → IfSome (if b then None else Some rest) P
    split true = tt
    split false = fits

pub sends_standing : (held : List ApplicationView) (selected : Option ℕ) (chain : ChainState)
    (response : Option Response) (h : Header) (p3 cut : ℕ) (r rest : Response)
    (next : Option Response) (status : StatusWord) → IsStanding held selected chain response
    → IsAsked (state_of held selected chain response) h p3 cut → (is_get h || is_get_response h)
    ≡ true
    → left_of (entries_at held selected) r ≡ to_send (state_of held selected chain response) h
    → left_of (entries_at held selected) rest ≡ drop (count p3)
    (left_of (entries_at held selected) r)
    → status ≡ announcing (drop (count p3) (left_of (entries_at held selected) r)) cut
    → next ≡ next_at (length (drop (count p3) (left_of (entries_at held selected) r))) rest
    → IsResponse (entries_at held selected) rest → IsStanding held selected (idle chain.limit) next
sends_standing held selected chain response h p3 cut r rest next status standing asked sending is
    rest_is status_is next_is fits =
    leaves_standing held selected chain response next standing
    (next_fits (IsResponse (entries_at held selected))
    (length (drop (count p3) (left_of (entries_at held selected) r))) rest next next_is fits)
    (stays_sound _ _ cut _ (sends_does held selected chain response h p3 cut r rest next status
    asked sending is rest_is status_is next_is) standing.sound)

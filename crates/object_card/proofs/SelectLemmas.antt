-- The card once an application is selected.
use Rattle.std.proofs.Common.{◌≡◌, ◌∙◌, ℕ, ◌<◌, List, length, Option, Some, None, true, refl, sym, ap, subst, arith}
use Rattle.std.specs.Prelude.{slice_get, option_map, is_some, IfSome}
use Rattle.std.proofs.lemmas.List.{append-nil}
use Rattle.apdu_core.specs.declared.header.Header.{Header}
use Rattle.apdu_core.specs.Chaining.{ChainState, idle}
use Rattle.apdu_core.specs.StatusWord.{StatusWord}
use Rattle.t0_core.specs.Meaning.{taken_with}
use Rattle.object_card.specs.declared.response.Response.{Response}
use Rattle.object_card.specs.Tables.{Entry, entries_in}
use Rattle.object_card.specs.State.{ResponsePending, with_pending, with_selected}
use Rattle.object_card.specs.OneStep.{control_information}
use Rattle.object_card.specs.Refusals.{is_select}
use Rattle.object_card.specs.CardMeaning.{Does, selects_application, misses_application, announcing}
use Rattle.object_card.specs.CardFields.{ApplicationView, IsWhole, IsResponse, applications_of, aid_at, entries_at, left_of, state_of}
use Rattle.object_card.specs.CardView.{IsStanding, IsAsked}
use Rattle.object_card.specs.StateLaws.{stays_sound}
use Rattle.object_card.proofs.CardFieldLemmas.{entries-in, whole_left}

pub misses_does : (held : List ApplicationView) (selected : Option ℕ) (chain : ChainState)
    (response : Option Response) (h : Header) (cut : ℕ) (aid : List ℕ) (status : StatusWord)
    → IsAsked (state_of held selected chain response) h (length aid) cut → is_select h ≡ true
    → entries_in aid (applications_of held) ≡ None
    → status ≡ (0x6A, 0x82)
    → Does (state_of held selected chain response) cut
    (taken_with (record { header = h; p3 = length aid; cut = cut }) aid status)
    (state_of held selected (idle chain.limit) None)
misses_does held selected chain response h cut aid status asked select none is =
    let Answered : StatusWord → Type 0 = λ w. Does (state_of held selected chain response) cut
    (taken_with (record { header = h; p3 = length aid; cut = cut }) aid w)
    (state_of held selected (idle chain.limit) None) in
    subst Answered (sym is) (misses_application h aid asked.taken select none)

-- all of the response is left
pub information_left : (entries : List Entry) (r : Response) (aid : List ℕ)
    → IsWhole r (control_information aid) None → left_of entries r ≡ control_information aid
information_left entries r aid whole = whole_left entries r (control_information aid) None whole
    ∙ append-nil (control_information aid)

pub whole_response : (entries : List Entry) (r : Response) (front : List ℕ) → IsWhole r front None
    → IsResponse entries r
whole_response entries r front whole = record {
  room = whole.room;
  within = whole.within;
  is_held = subst (λ v. IfSome v (λ place. place < length entries)) (sym whole.value_is) tt;
  begun = omega (arith, whole.unsent);
}

pub selects_does : (held : List ApplicationView) (selected : Option ℕ) (chain : ChainState)
    (response : Option Response) (h : Header) (cut : ℕ) (aid : List ℕ)
    (i : ℕ) (a : ApplicationView) (r : Response) (status : StatusWord)
    → IsStanding held selected chain response
    → IsAsked (state_of held selected chain response) h (length aid) cut → is_select h ≡ true
    → slice_get held i ≡ Some a → a.aid ≡ aid
    → left_of (entries_at held (Some i)) r ≡ control_information aid → status
    ≡ announcing (control_information aid) cut
    → Does (state_of held selected chain response) cut
    (taken_with (record { header = h; p3 = length aid; cut = cut }) aid status)
    (state_of held (Some i) (idle chain.limit) (Some r))
selects_does held selected chain response h cut aid i a r status standing asked select at_place
    named whole is =
    let s = state_of held selected chain response in
    let found : entries_in aid (applications_of held) ≡ Some a.entries =
    ap (λ x. entries_in x (applications_of held)) (sym named)
    ∙ entries-in held i a standing.sound.are_applications.distinct_aids at_place in
    let chosen : aid_at held (Some i) ≡ Some aid = ap (option_map (λ a. a.aid)) at_place
    ∙ ap Some named in
    let Answered : StatusWord → Type 0 = λ w. Does s cut
    (taken_with (record { header = h; p3 = length aid; cut = cut }) aid w)
    (with_pending (with_selected s aid) (ResponsePending (control_information aid))) in
    let Pending : List ℕ → Type 0 = λ left. Does s cut
    (taken_with (record { header = h; p3 = length aid; cut = cut }) aid status)
    (record {
      applications = applications_of held;
      selected = Some aid;
      pending = ResponsePending
          left;
    }) in
    let Chosen : Option (List ℕ) → Type 0 = λ x. Does s cut
    (taken_with (record { header = h; p3 = length aid; cut = cut }) aid status)
    (record {
      applications = applications_of held;
      selected = x;
      pending = ResponsePending
          (left_of (entries_at held (Some i)) r);
    }) in
    subst Chosen (sym chosen)
    (subst Pending (sym whole)
    (subst Answered (sym is)
    (selects_application h aid asked.taken select (ap is_some found))))

pub selects_standing : (held : List ApplicationView) (selected : Option ℕ) (chain : ChainState)
    (response : Option Response) (h : Header) (cut : ℕ) (aid : List ℕ)
    (i : ℕ) (a : ApplicationView) (r : Response) (status : StatusWord)
    → IsStanding held selected chain response
    → IsAsked (state_of held selected chain response) h (length aid) cut → is_select h ≡ true
    → slice_get held i ≡ Some a → a.aid ≡ aid
    → left_of (entries_at held (Some i)) r ≡ control_information aid → status
    ≡ announcing (control_information aid) cut
    → i < length held → IsResponse (entries_at held (Some i)) r
    → IsStanding held (Some i) (idle chain.limit) (Some r)
selects_standing held selected chain response h cut aid i a r status standing asked select at_place
    named whole is within fits = record {
      sound = stays_sound _ _ cut _
          (selects_does held selected chain response h cut aid i a r status standing asked select
          at_place named whole is) standing.sound;
      selected_is = within;
      limit_is = standing.limit_is;
      of_puts = tt;
      response_is = fits;
      alone = λ some. refl;
    }

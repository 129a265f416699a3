-- The reply to an operation does not depend on what is pending; the reply to a put.
use Rattle.std.proofs.Common.{◌≡◌, ℕ, List, Some, None, true, refl, sym, ap, subst, ◌∙◌}
use Rattle.std.specs.Prelude.{is_some, option_and_then}
use Rattle.object_card.specs.Tables.{entries_in, with_object}
use Rattle.object_card.specs.State.{CardState, selected_entries, with_selected}
use Rattle.apdu_core.specs.Shared.{Reply, reply}
use Rattle.object_card.specs.OneStep.{Operation, Put, Answers, selects, finds_no_application, none_selected, finds_no_object, gives, stores, does_not_store, wants_memory, with_put, SameTables}

-- the same tables have the same entries selected
pub same_entries : (a b : CardState) → SameTables a b → selected_entries a ≡ selected_entries b
same_entries a b same =
    ap (λ apps. option_and_then (λ aid. entries_in aid apps) a.selected) same.0
    ∙ ap (λ chosen. option_and_then (λ aid. entries_in aid b.applications) chosen) same.1

-- A card with the same tables gives the same reply, and has the same tables afterwards.
pub answers_alike : (a b a' : CardState) (operation : Operation) (answer : Reply) → SameTables a b
    → Answers a operation answer a'
    → (b' : CardState) × Answers b operation answer b' × SameTables a' b'
answers_alike a b a' operation answer same (selects aid held) = (
  with_selected b aid,
  selects aid (subst (λ apps. is_some (entries_in aid apps) ≡ true) same.0 held),
  (same.0, refl),
)
answers_alike a b a' operation answer same (finds_no_application aid none) =
    (b, finds_no_application aid (subst (λ apps. entries_in aid apps ≡ None) same.0 none), same)
answers_alike a b a' operation answer same (none_selected op kind none) =
    (b, none_selected op kind (sym (same_entries a b same) ∙ none), same)
answers_alike a b a' operation answer same (finds_no_object tag entries is none) =
    (b, finds_no_object tag entries (sym (same_entries a b same) ∙ is) none, same)
answers_alike a b a' operation answer same (gives tag value entries is held) =
    (b, gives tag value entries (sym (same_entries a b same) ∙ is) held, same)
answers_alike a b a' operation answer same (stores tag value aid entries selected is status) = (
  with_put b aid tag value,
  stores tag value aid entries (sym same.1 ∙ selected)
      (subst (λ apps. entries_in aid apps ≡ Some entries) same.0 is) status,
  (ap (λ apps. with_object aid tag value apps) same.0, same.1),
)
answers_alike a b a' operation answer same (does_not_store tag value entries status is other put) =
    (b, does_not_store tag value entries status (sym (same_entries a b same) ∙ is) other put, same)
answers_alike a b a' operation answer same (wants_memory tag value entries is put) =
    (b, wants_memory tag value entries (sym (same_entries a b same) ∙ is) put, same)

-- The reply to a put has a status and no data.
pub put_is_bare : (old new : CardState) (tag value : List ℕ) (answer : Reply)
    → Answers old (Put tag value) answer new → answer ≡ reply answer.status
put_is_bare old new tag value answer (none_selected op kind none) = refl
put_is_bare _ _ _ _ _ _ = refl

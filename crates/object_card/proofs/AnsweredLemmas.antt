-- The card once SW2 is sent.
use Rattle.std.proofs.Common.{◌≡◌, ◌∙◌, ℕ, zero, suc, List, [], ◌∷◌, Option, Some, None, Bool, true, false, refl, sym, ap, subst}
use Rattle.std.specs.Prelude.{slice_get, slice_set, unwrap_or, option_map, if◌then◌else◌}
use Rattle.std.proofs.lemmas.Option.{slice_get_within}
use Rattle.apdu_core.specs.Chaining.{ChainState, idle}
use Rattle.t0_core.specs.Meaning.{Decided}
use Rattle.t0_core.specs.CardContract.{IsDecided}
use Rattle.object_card.specs.declared.response.Response.{Response}
use Rattle.object_card.specs.declared.ready.Ready.{Ready}
use Rattle.object_card.specs.declared.ready.Ready.TheVariants as ready
use Rattle.object_card.specs.Tables.{Entry, AreDistinct, same_bytes, is_locked, with_entry, with_value, with_object}
use Rattle.object_card.specs.State.{CardState, IsCardState, NothingPending}
use Rattle.object_card.specs.CardFields.{ApplicationView, applications_of, aid_at, state_of}
use Rattle.object_card.specs.CardView.{NewValue, IsStanding, IsCard, IsReady, settled_chain, selected_after, response_after, state_with, prepared_of}
use Rattle.object_card.specs.PutData.{IsStored}
use Rattle.object_card.specs.TableLaws.{aids}
use Rattle.object_card.proofs.SameTag.{itself}
use Rattle.object_card.proofs.CardFieldLemmas.{other_aid}

-- for an entry that is not locked, or new, both ways to put a value agree
entry_with : (tag value : List ℕ) (entries : List Entry) → is_locked tag entries ≡ false
    → with_entry tag value false entries ≡ with_value tag value entries
entry_with tag value [] free = refl
entry_with tag value (e ∷ entries) free = split (same_bytes tag e.tag) refl
    (entry_with tag value entries)
  where
    split : (v : Bool) → same_bytes tag e.tag ≡ v
        → (is_locked tag entries ≡ false → with_entry tag value false entries
        ≡ with_value tag value entries)
        → with_entry tag value false (e ∷ entries) ≡ with_value tag value (e ∷ entries)
    split true s more =
        let l : e.locked ≡ false =
        subst (λ b. (if b then e.locked else is_locked tag entries) ≡ false) s free in
        rw s (λ j. record { tag = e.tag; value = value; locked = sym l j } ∷ entries)
    split false s more =
        rw s (ap (λ es. e ∷ es)
        (more (subst (λ b. (if b then e.locked else is_locked tag entries) ≡ false) s free)))

-- a value put at an application's place is put under its identifier
applications_with : (held : List ApplicationView) (i : ℕ) (a b : ApplicationView)
    (tag value : List ℕ) → AreDistinct (aids (applications_of held)) → slice_get held i ≡ Some a
    → b.aid ≡ a.aid → b.entries ≡ with_entry tag value false a.entries → is_locked tag a.entries
    ≡ false
    → applications_of (slice_set held i b) ≡ with_object a.aid tag value (applications_of held)
applications_with [] i a b tag value distinct at_place aid entries free = absurd (cc)
applications_with (h ∷ held) zero a b tag value distinct at_place aid entries free =
    let e : a ≡ h = cc in
    let x : b.aid ≡ h.aid = aid ∙ ap (λ a. a.aid) e in
    let y : b.entries ≡ with_value tag value h.entries =
    entries ∙ entry_with tag value a.entries free ∙ ap (λ a. with_value tag value a.entries) e in
    subst (λ z. applications_of (b ∷ held) ≡ with_object z tag value (applications_of (h ∷ held)))
    (ap (λ a. a.aid) (sym e))
    (rw (itself h.aid) (λ j. record { aid = x j; entries = y j } ∷ applications_of held))
applications_with (h ∷ held) (suc i) a b tag value distinct at_place aid entries free =
    rw (other_aid h.aid held i a distinct.0 at_place)
    (ap (λ xs. record { aid = h.aid; entries = h.entries } ∷ xs)
    (applications_with held i a b tag value distinct.1 at_place aid entries free))

-- the state with the stored value
state_stored : (held new : List ApplicationView) (i : ℕ) (a b : ApplicationView)
    (tag value : List ℕ) (chain : ChainState) (response : Option Response)
    → AreDistinct (aids (applications_of held)) → slice_get held i ≡ Some a → slice_get new i
    ≡ Some b → b.aid ≡ a.aid
    → b.entries ≡ with_entry tag value false a.entries → is_locked tag a.entries ≡ false → new
    ≡ slice_set held i b
    → state_of new (Some i) (idle chain.limit) None
    ≡ state_with (state_of held (Some i) chain response) (Some (tag, value))
state_stored held new i a b tag value chain response distinct before after aid entries free is =
    let was : aid_at held (Some i) ≡ Some a.aid = ap (option_map (λ a. a.aid)) before in
    let named : a.aid ≡ unwrap_or (aid_at held (Some i)) [] = sym (ap (λ v. unwrap_or v []) was) in
    let applications : applications_of new ≡ with_object (unwrap_or (aid_at held (Some i)) []) tag
    value (applications_of held) =
    ap applications_of is ∙ applications_with held i a b tag value distinct before aid entries free
    ∙ ap (λ z. with_object z tag value (applications_of held)) named in
    let selected : aid_at new (Some i) ≡ aid_at held (Some i) = ap (option_map (λ a. a.aid)) after
    ∙ ap Some aid ∙ sym was in
    λ j. record { applications = applications j; selected = selected j; pending = NothingPending }

-- the new state is sound, and is the one that was decided
pub record Settles (held new : List ApplicationView) (selected : Option ℕ) (chain : ChainState)
    (response : Option Response) (ready : Ready) (put : Option NewValue) : Type 0 where
  pub standing : IsStanding new (selected_after ready selected) (settled_chain chain ready)
      (response_after ready)
  pub decided : prepared_of held selected chain response ready put
      ≡ Decided (state_of new (selected_after ready selected) (settled_chain chain ready)
      (response_after ready))

stands_stored : (held new : List ApplicationView) (selected : Option ℕ) (chain : ChainState)
    (response : Option Response) (put : Option NewValue)
    → IsStanding held selected chain response → IsReady held selected chain response ready.Stores
    put → IsStored held selected put new
    → Settles held new selected chain response ready.Stores put
stands_stored held new None chain response put standing fits stored = let no : None ≡ Some fits.0 =
    fits.3 in absurd (cc)
stands_stored held new (Some i) chain response put standing fits stored =
    let (a, tag, value, at_place, put_is, place, free, sound) = fits in
    let (x, b, before, after, aid, entries, is) =
    subst (λ p. IsStored held (Some i) p new) put_is stored in
    let same : x ≡ a = some_inj (sym before ∙ at_place) in
    let settled : state_of new (Some i) (idle chain.limit) None
    ≡ state_with (state_of held (Some i) chain response) put =
    state_stored held new i a b tag value chain response
    standing.sound.are_applications.distinct_aids at_place after
    (aid ∙ ap (λ a. a.aid) same) (entries ∙ ap (λ a. with_entry tag value false a.entries) same)
    free is
    ∙ ap (λ p. state_with (state_of held (Some i) chain response) p) (sym put_is) in
    record {
      standing = record {
        sound = subst IsCardState (sym settled) sound;
        selected_is = slice_get_within new i b after;
        limit_is = standing.limit_is;
        of_puts = tt;
        response_is = tt;
        alone = λ some. refl;
      };
      decided = ap Decided (sym settled);
    }
  where
    some_inj : {x y : ApplicationView} → Some x ≡ Some y → x ≡ y
    some_inj e = cc

-- without a value to put, the applications are unchanged
unchanged : (held new : List ApplicationView) (selected : Option ℕ) (put : Option NewValue) → put
    ≡ None → IsStored held selected put new → held ≡ new
unchanged held new selected put none stored =
    sym (subst (λ p. IsStored held selected p new) none stored)

pub settles : (held new : List ApplicationView) (selected : Option ℕ) (chain : ChainState)
    (response : Option Response) (ready : Ready) (put : Option NewValue)
    → IsCard held selected chain response ready put
    → IsDecided (prepared_of held selected chain response ready put)
    → IsStored held selected put new
    → Settles held new selected chain response ready put
settles held new selected chain response (ready.Leaves next) put card decided stored =
    subst (λ new. Settles held new selected chain response (ready.Leaves next) put)
    (unchanged held new selected put card.fits.1 stored)
    (record { standing = card.fits.0; decided = refl })
settles held new selected chain response (ready.Selects application next) put card decided stored =
    subst (λ new. Settles held new selected chain response (ready.Selects application next) put)
    (unchanged held new selected put card.fits.1 stored)
    (record { standing = card.fits.0; decided = refl })
settles held new selected chain response (ready.Joins before) put card decided stored =
    subst (λ new. Settles held new selected chain response (ready.Joins before) put)
    (unchanged held new selected put card.fits.2 stored)
    (record { standing = card.fits.0; decided = refl })
settles held new selected chain response ready.Stores put card decided stored =
    stands_stored held new selected chain response put card.standing card.fits stored
settles _ _ _ _ _ _ _ _ decided _ = absurd decided

-- the fields once SW2 is sent: they are sound, and what was decided is in effect
pub handed_out : (held now new after : List ApplicationView) (selected selected_now : Option ℕ)
    (chain chain_now : ChainState) (response response_now : Option Response)
    (made : Ready) (put taken empty : Option NewValue)
    → IsCard held selected chain response made put
    → IsDecided (prepared_of held selected chain response made put)
    → IsStored now selected taken new
    → now ≡ held → taken ≡ put → after ≡ new → selected_now ≡ selected_after made selected
    → chain_now ≡ settled_chain chain made
    → response_now ≡ response_after made → empty ≡ None
    → IsCard after selected_now chain_now response_now ready.Nothing empty
    × (prepared_of held selected chain response made put
    ≡ Decided (state_of after selected_now chain_now response_now))
handed_out held now new after selected selected_now chain chain_now response response_now made put
    taken empty card decided stored now_is taken_is after_is selected_is chain_is response_is
    empty_is =
    let there : IsStored held selected put new =
    subst (λ p. IsStored held selected p new) taken_is
    (subst (λ h. IsStored h selected taken new) now_is stored) in
    let s = settles held new selected chain response made put card decided there in
    let old = prepared_of held selected chain response made put in
    let A : List ApplicationView → Type 0 = λ x. IsStanding x (selected_after made selected)
    (settled_chain chain made) (response_after made) in
    let B : Option ℕ → Type 0 = λ x. IsStanding after x (settled_chain chain made)
    (response_after made) in
    let C : ChainState → Type 0 = λ x. IsStanding after selected_now x (response_after made) in
    let D : Option Response → Type 0 = λ x. IsStanding after selected_now chain_now x in
    let standing = subst D (sym response_is)
    (subst C (sym chain_is) (subst B (sym selected_is) (subst A (sym after_is) s.standing))) in
    let state : state_of new (selected_after made selected) (settled_chain chain made)
    (response_after made) ≡ state_of after selected_now chain_now response_now =
    λ j. state_of (sym after_is j) (sym selected_is j) (sym chain_is j) (sym response_is j) in
    (record { standing = standing; fits = empty_is }, s.decided ∙ ap Decided state)

-- a decision determines one state
pub same_next : (a b : CardState) → Decided a ≡ Decided b → a ≡ b
same_next a b e = cc

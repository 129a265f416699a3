-- A SELECT or a GET DATA, repeated or not, and its fetches equal the operation in one step.
use Rattle.std.proofs.Common.{◌≡◌, ℕ, List, [], ◌∷◌, ◌++◌, Option, Some, None, true, refl, sym, ap, ◌∙◌, append-nil, append_assoc}
use Rattle.apdu_core.specs.StatusWord.{StatusWord, corrects}
use Rattle.tlv_core.specs.Address.{NamesTag}
use Rattle.t0_core.specs.declared.direction.Direction.TheVariants.{FromCard}
use Rattle.t0_core.specs.Dialogue.{Dialogue}
use Rattle.t0_core.specs.Meaning.{tpdu_of, received}
use Rattle.object_card.specs.Tables.{IsAid}
use Rattle.object_card.specs.State.{CardState, is_idle}
use Rattle.object_card.specs.OneStep.{Select, Get}
use Rattle.object_card.specs.CardMeaning.{Does}
use Rattle.object_card.specs.CarryingOut.{select_header, get_header, IsCarriedOut}
use Rattle.object_card.specs.OperationLaws.{select_is_carried_out, get_is_carried_out, get_again_is_carried_out}
use Rattle.exchange_core.specs.declared.wanted.Wanted.TheVariants.{Everything}
use Rattle.exchange_core.specs.Gathered.{UnitOf, Single, Repeated, Asks, SendsFrom, first_of, dialogues_of, repeated_with, after_dialogue, correction_of, IsUnit}
use Rattle.card_terminal.proofs.FetchLemmas.{Goes, Rest, sent_data}
use Rattle.exchange_core.specs.PrefixLaws.{correction_is}

pub select_answers : (old mid new : CardState) (aid : List ℕ) (d : Dialogue) (content : List ℕ)
    (status : StatusWord) → is_idle old.pending ≡ true → IsAid aid
    → SendsFrom select_header aid d → Goes old (d ∷ []) mid → Rest (Single d) mid new content status
    → IsCarriedOut old (Select aid) status content new
select_answers old mid new aid d content status idle is_aid sends (cut, next, in_range, does, is)
    rest =
    let here : Does old cut (tpdu_of d) mid = rw is does in
    let (brought, content_is, f) = rest old cut in_range here in
    rw (content_is ∙ ap (λ z. z ++ brought) (append-nil (received d))
    ∙ ap (λ z. received d ++ z) f.content_is)
    (select_is_carried_out old mid new cut aid (tpdu_of d) f.fetches status idle is_aid in_range
    (record {
      header_is = sends.header_is;
      counts = sends.counts;
      takes = (
        sends.sends.0,
        sends.sends.1 ∙ ap (λ bs. bs ++ sends.sends.0) (sym (sent_data d sends.to_card)),
      );
    }) here f.all)

-- if everything is wanted, a dialogue that is not repeated has no status 6CXX
told_no_count : (d : Dialogue) → d.body.direction ≡ FromCard → repeated_with Everything d ≡ None
    → corrects d.status ≡ None
told_no_count d from once =
    by (corrects d.status)
    (ap (λ v. correction_of v (after_dialogue Everything d) (corrects d.status)) (sym from) ∙ once)
  where
    by : (v : Option ℕ) → correction_of FromCard Everything v ≡ None → v ≡ None
    by None e = refl
    by (Some n) e = absurd (cc)

pub get_answers : (old mid new : CardState) (tag : List ℕ) (p1 p2 : ℕ) (u : UnitOf)
    (content : List ℕ) (status : StatusWord) → is_idle old.pending ≡ true → NamesTag tag p1 p2
    → Asks (get_header p1 p2) 256 (first_of u) → IsUnit Everything u
    → Goes old (dialogues_of u) mid → Rest u mid new content status
    → IsCarriedOut old (Get tag) status content new
get_answers old mid new tag p1 p2 (Single d) content status idle names opens once
    (cut, next, in_range, does, is) rest =
    let here : Does old cut (tpdu_of d) mid = rw is does in
    let (brought, content_is, f) = rest old cut in_range here in
    rw (content_is ∙ ap (λ z. z ++ brought) (append-nil (received d))
    ∙ ap (λ z. received d ++ z) f.content_is)
    (get_is_carried_out old mid new tag p1 p2 cut (tpdu_of d) f.fetches status idle names
    opens.header_is in_range here (told_no_count d opens.from_card once) f.all)
get_answers old mid new tag p1 p2 (Repeated d e) content status idle names opens (n, told, asks)
    (before, next, in_range, does, (cut, last, also_in_range, again, is)) rest =
    let here : Does next cut (tpdu_of e) mid = rw is again in
    let (brought, content_is, f) = rest next cut also_in_range here in
    rw (content_is ∙ append_assoc (received d) (received e ++ []) brought
    ∙ ap (λ z. received d ++ (z ++ brought)) (append-nil (received e))
    ∙ ap (λ z. received d ++ (received e ++ z)) f.content_is)
    (get_again_is_carried_out old next mid new tag p1 p2 before cut n (tpdu_of d) (tpdu_of e)
    f.fetches status idle names opens.header_is does
    (correction_is d.body.direction (after_dialogue Everything d) (corrects d.status) n told)
    (asks.header_is ∙ opens.header_is) asks.counts also_in_range here f.all)

-- The commands of a value's chain are one put.
use Rattle.std.proofs.Common.{◌≡◌, ◌≢◌, ℕ, ◌+◌, ◌≤◌, List, [], ◌∷◌, ◌++◌, length, Some, None, true, false, ◌⊎◌, inl, inr, refl, sym, ap, subst, ◌∙◌, arith, append-nil, append_assoc, length-append}
use Rattle.std.specs.Prelude.{◌==◌}
use Rattle.std.specs.List.{concat}
use Rattle.std.proofs.lemmas.Bool.{true≢false, eq-eqb}
use Rattle.apdu_core.specs.declared.header.Header.{Header}
use Rattle.apdu_core.specs.StatusWord.{StatusWord, ok}
use Rattle.apdu_core.specs.CommandBytes.{Command}
use Rattle.apdu_core.specs.Chaining.{IsPieces, with_more, chain_commands}
use Rattle.t0_core.specs.Meaning.{Tpdu}
use Rattle.tlv_core.specs.Address.{NamesTag}
use Rattle.object_card.specs.State.{CardState, Pending, NothingPending, ChainPending, ResponsePending, is_idle, chained, with_pending}
use Rattle.apdu_core.specs.Shared.{reply}
use Rattle.object_card.specs.OneStep.{Put, Answers, none_selected, does_not_store, not_allowed, wrong_length, SameTables}
use Rattle.object_card.specs.Refusals.{is_put, refusal, breaks_chain}
use Rattle.object_card.specs.CardMeaning.{after_refusal}
use Rattle.object_card.specs.CarryingOut.{put_header, IsAnswered, EndsWith, IsCarriedOut, all_taken, stopped}
use Rattle.object_card.specs.TagLaws.{named}
use Rattle.object_card.specs.RefusalLaws.{is_refusing, refusal_drops_chain, IsPutRefusal, none_is_selected, is_not_allowed, is_too_long, put_is_refused}
use Rattle.object_card.specs.StepLaws.{put_step, put_refused, is_chained, is_ended}
use Rattle.object_card.specs.AnswerLaws.{answers_alike, put_is_bare}

-- if the number of bytes moved is the number given, they are the given ones
pub all_have_moved : (bytes moved rest : List ℕ) → bytes ≡ moved ++ rest
    → length bytes ≡ length moved → bytes ≡ moved
all_have_moved bytes moved [] is same = is ∙ append-nil moved
all_have_moved bytes moved (b ∷ rest) is same =
    absurd (omega (arith, ap length is, length-append moved (b ∷ rest), same))

other_than_ok : (status : StatusWord) → (status.0 == 0x90) ≡ false → status ≢ ok
other_than_ok status differs is =
    true≢false (sym (ap (λ (s : StatusWord). s.0 == 0x90) is) ∙ differs)

-- the refusal of a command of the chain is the reply to the whole value
refusal_answers : (state : CardState) (tag value : List ℕ) (p3 : ℕ) (status : StatusWord)
    → length (chained state.pending) + p3 ≤ length value
    → IsPutRefusal state tag p3 status → Answers state (Put tag value) (reply status) state
refusal_answers state tag value p3 status long (none_is_selected none) =
    none_selected (Put tag value) refl none
refusal_answers state tag value p3 status long (is_not_allowed entries is locked) =
    does_not_store tag value entries (0x69, 0x82) is (other_than_ok (0x69, 0x82) refl)
    (not_allowed locked)
refusal_answers state tag value p3 status long (is_too_long entries is free longer) =
    does_not_store tag value entries (0x67, 0x00) is (other_than_ok (0x67, 0x00) refl)
    (wrong_length free (omega (arith, long, longer)))

-- a value has a first piece, and its pieces concatenate to it
some_piece : (value : List ℕ) (pieces : List (List ℕ)) → IsPieces value pieces
    → (first : List ℕ) × (others : List (List ℕ)) × (pieces ≡ first ∷ others)
    × (concat pieces ≡ value)
some_piece [] pieces is = ([], [], is, ap concat is)
some_piece (b ∷ bytes) [] is = absurd is.1
some_piece (b ∷ bytes) (first ∷ others) is = (first, others, refl, is.0)

-- either the first command gets another status, or the others end with this one
ends_first : (old new : CardState) (c : Command) (commands : List Command) (status : StatusWord)
    → EndsWith old (c ∷ commands) new status
    → (IsAnswered old c status new × (status ≢ ok))
    ⊎ ((next : CardState) × IsAnswered old c ok next × EndsWith next commands new status)
ends_first old new c commands status (all_taken (next, answered, taken)) =
    inr (next, answered, all_taken taken)
ends_first old new c commands status
    (stopped [] e after mid last split taken answered other) =
    let same : e ≡ c = cc in
    let at_old : IsAnswered old e status new =
    subst (λ s. IsAnswered s e status new) taken answered in
    inl (subst (λ x. IsAnswered old x status new) same at_old, other)
ends_first old new c commands status
    (stopped (b ∷ before) e after mid last split (next, now, taken) answered other) =
    let same : b ≡ c = cc in
    let rest : commands ≡ before ++ e ∷ after = cc in
    inr (
      next,
      subst (λ x. IsAnswered old x ok next) same now,
      stopped before e after mid status rest taken answered other,
    )

ends_none : (old new : CardState) (status : StatusWord) → EndsWith old [] new status
    → (status ≡ ok) × (old ≡ new)
ends_none old new status (all_taken same) = (refl, sym same)
ends_none old new status (stopped before c after mid last split taken answered other) =
    absurd (omega (arith, ap length split, length-append before (c ∷ after)))

module _ (tag : List ℕ) (p1 p2 : ℕ) (is_named : NamesTag tag p1 p2) where
  -- what is pending after these bytes of the value
  abbrev Suits : Pending → List ℕ → Type 0
  Suits NothingPending bytes = bytes ≡ []
  Suits (ChainPending q1 q2 came) bytes = (q1 ≡ p1) × (q2 ≡ p2) × (came ≡ bytes)
  Suits (ResponsePending left) bytes = bytes ≡ []

  suits_chained : (pending : Pending) (bytes : List ℕ) → Suits pending bytes
      → chained pending ≡ bytes
  suits_chained NothingPending bytes suits = sym suits
  suits_chained (ChainPending q1 q2 came) bytes suits = suits.2
  suits_chained (ResponsePending left) bytes suits = sym suits

  abbrev IsOfChain : Header → Type 0
  IsOfChain h = (h ≡ put_header p1 p2) ⊎ (h ≡ with_more (put_header p1 p2))

  suits_goes_on : (pending : Pending) (bytes : List ℕ) (h : Header) → IsOfChain h
      → Suits pending bytes → breaks_chain pending h ≡ false
  suits_goes_on NothingPending bytes h which suits = refl
  suits_goes_on (ChainPending q1 q2 came) bytes h which suits =
      let first : (p1 == q1) ≡ true = eq-eqb p1 q1 (sym suits.0) in
      let second : (p2 == q2) ≡ true = eq-eqb p2 q2 (sym suits.1) in
      let Goes_on : Header → Type 0 = λ h. breaks_chain (ChainPending q1 q2 came) h ≡ false in
      elim which [
        | inl last ↦ subst Goes_on (sym last) (rw (first, second) refl)
        | inr more ↦ subst Goes_on (sym more) (rw (first, second) refl)
      ]
  suits_goes_on (ResponsePending left) bytes h which suits = refl

  -- the card has these bytes of the value, and its tables are unchanged
  record IsGathering (old mid : CardState) (bytes : List ℕ) : Type 0 where
    same : SameTables mid old
    suits : Suits mid.pending bytes

  is_of_chain_put : (h : Header) → IsOfChain h → is_put h ≡ true
  is_of_chain_put h which =
      elim which [ inl last ↦ ap (λ h. is_put h) last | inr more ↦ ap (λ h. is_put h) more ]

  -- a refused command ends the put
  refused_here : (old mid new : CardState) (t : Tpdu) (bytes value : List ℕ)
      → IsGathering old mid bytes → IsOfChain t.header → length bytes + t.p3 ≤ length value
      → refusal mid t.header t.p3 ≡ Some t.status
      → new ≡ with_pending mid (after_refusal t.header t.status mid.pending)
      → IsCarriedOut old (Put tag value) t.status [] new
  refused_here old mid new t bytes value gathering which long refused is =
      let came : chained mid.pending ≡ bytes = suits_chained mid.pending bytes gathering.suits in
      let fits : length (chained mid.pending) + t.p3 ≤ length value =
      omega (arith, long, ap length came) in
      let why = put_is_refused mid tag p1 p2 t.p3 (named tag p1 p2 is_named) t.header t.status which
      (suits_goes_on mid.pending bytes t.header which gathering.suits) refused in
      let (after, answers, same) =
      answers_alike mid old mid (Put tag value) (reply t.status) gathering.same
      (refusal_answers mid tag value t.p3 t.status fits why) in (
        after,
        answers,
        (
          sym same.0 ∙ sym (ap (λ s. s.applications) is),
          sym same.1
              ∙ sym (ap (λ s. s.selected) is),
        ),
        ap (λ s. is_idle s.pending) is ∙ refusal_drops_chain t.header t.status mid.pending,
      )

  -- a command that is followed by more of its chain is taken, or its refusal ends the put
  piece_step : (old mid new : CardState) (piece bytes value : List ℕ) (status : StatusWord)
      → IsGathering old mid bytes
      → IsAnswered mid (record {
        header = with_more (put_header p1 p2);
        content = piece;
        le = None;
      }) status new → length bytes + length piece ≤ length value
      → ((status ≡ ok) × IsGathering old new (bytes ++ piece))
      ⊎ ((status ≢ ok) × IsCarriedOut old (Put tag value) status [] new)
  piece_step old mid new piece bytes value status gathering (cut, t, carries, is, does) long =
      elim (put_step mid new cut t does (is_of_chain_put t.header (inr carries.header_is))) [
        | put_refused refused left ↦
            let fits : length bytes + t.p3 ≤ length value = omega (arith, long, carries.counts) in
            inr (
              subst (λ s. s ≢ ok) is
                  (other_than_ok t.status (is_refusing mid t.header t.p3 t.status refused).not_ok),
              subst (λ s. IsCarriedOut old (Put tag value) s [] new) is
                  (refused_here old mid new t bytes value gathering (inr carries.header_is) fits
                  refused left),
            )
        | is_chained taken cla all none fine left ↦
            let sent : piece ≡ t.sent =
            all_have_moved piece t.sent carries.takes.0 carries.takes.1
            (sym carries.counts ∙ all) in
            let came : chained mid.pending ≡ bytes =
            suits_chained mid.pending bytes gathering.suits in
            let joined : chained mid.pending ++ t.sent ≡ bytes ++ piece =
            ap (λ bs. bs ++ t.sent) came ∙ ap (λ bs. bytes ++ bs) (sym sent) in
            inl (
              sym is ∙ fine,
              record {
                same = (
                  ap (λ s. s.applications) left ∙ gathering.same.0,
                  ap (λ s. s.selected) left
                      ∙ gathering.same.1,
                );
                suits = subst (λ pending. Suits pending (bytes ++ piece))
                    (sym (ap (λ s. s.pending) left))
                    (ap (λ h. h.p1) carries.header_is, ap (λ h. h.p2) carries.header_is, joined);
              },
            )
        | is_ended taken cla all none other answer next named_by same answers left ↦
            let more : t.header.cla ≡ 0x10 = ap (λ h. h.cla) carries.header_is in
            absurd (omega (arith, cla, more))
      ]

  one_tag : (other : List ℕ) → NamesTag other p1 p2 → other ≡ tag
  one_tag other is = let same : Some other ≡ Some tag = sym (named other p1 p2 is)
      ∙ named tag p1 p2 is_named in cc

  last_step : (old mid new : CardState) (last bytes : List ℕ) (status : StatusWord)
      → IsGathering old mid bytes
      → IsAnswered mid (record { header = put_header p1 p2; content = last; le = None }) status new
      → IsCarriedOut old (Put tag (bytes ++ last)) status [] new
  last_step old mid new last bytes status gathering (cut, t, carries, is, does) =
      elim (put_step mid new cut t does (is_of_chain_put t.header (inl carries.header_is))) [
        | put_refused refused left ↦
            let fits : length bytes + t.p3 ≤ length (bytes ++ last) =
            omega (arith, length-append bytes last, carries.counts) in
            subst (λ s. IsCarriedOut old (Put tag (bytes ++ last)) s [] new) is
            (refused_here old mid new t bytes (bytes ++ last) gathering (inl carries.header_is)
            fits refused left)
        | is_chained taken cla all none fine left ↦
            let last_class : t.header.cla ≡ 0x00 = ap (λ h. h.cla) carries.header_is in
            absurd (omega (arith, cla, last_class))
        | is_ended taken cla all none other answer next named_by same answers left ↦
            let sent : last ≡ t.sent =
            all_have_moved last t.sent carries.takes.0 carries.takes.1
            (sym carries.counts ∙ all) in
            let came : chained mid.pending ≡ bytes =
            suits_chained mid.pending bytes gathering.suits in
            let joined : chained mid.pending ++ t.sent ≡ bytes ++ last =
            ap (λ bs. bs ++ t.sent) came ∙ ap (λ bs. bytes ++ bs) (sym sent) in
            let here : NamesTag other p1 p2 =
            subst (λ h. NamesTag other h.p1 h.p2) carries.header_is named_by in
            let operation : Put other (chained mid.pending ++ t.sent) ≡ Put tag (bytes ++ last) =
            ap (λ x. Put x (chained mid.pending ++ t.sent)) (one_tag other here)
            ∙ ap (λ v. Put tag v) joined in
            let bare : answer ≡ reply status =
            put_is_bare mid next other (chained mid.pending ++ t.sent) answer answers
            ∙ ap (λ s. reply s) (sym same ∙ is) in
            let at_mid : Answers mid (Put tag (bytes ++ last)) (reply status) next =
            subst (λ o. Answers mid o (reply status) next) operation
            (subst (λ a. Answers mid (Put other (chained mid.pending ++ t.sent)) a next) bare
            answers) in
            let (after, at_old, tables) =
            answers_alike mid old next (Put tag (bytes ++ last)) (reply status) gathering.same
            at_mid in (
              after,
              at_old,
              (
                sym tables.0 ∙ sym (ap (λ s. s.applications) left),
                sym tables.1
                    ∙ sym (ap (λ s. s.selected) left),
              ),
              ap (λ s. is_idle s.pending) left,
            )
      ]

  -- all commands from one on
  all_of_them : (first : List ℕ) (others : List (List ℕ)) (old mid new : CardState) (bytes : List ℕ)
      (status : StatusWord) → IsGathering old mid bytes
      → EndsWith mid (chain_commands (put_header p1 p2) (first ∷ others)) new status
      → IsCarriedOut old (Put tag (bytes ++ concat (first ∷ others))) status [] new
  all_of_them first [] old mid new bytes status gathering ends =
      subst (λ v. IsCarriedOut old (Put tag (bytes ++ v)) status [] new) (sym (append-nil first))
      (elim (ends_first mid new _ [] status ends) [
        | inl (answered, other) ↦ last_step old mid new first bytes status gathering answered
        | inr (next, answered, rest) ↦
            let (fine, same) = ends_none next new status rest in
            subst (λ w. IsCarriedOut old (Put tag (bytes ++ first)) w [] new) (sym fine)
            (subst (λ s. IsCarriedOut old (Put tag (bytes ++ first)) ok [] s) same
            (last_step old mid next first bytes ok gathering answered))
      ])
  all_of_them first (second ∷ others) old mid new bytes status gathering ends =
      let value : List ℕ = bytes ++ concat (first ∷ second ∷ others) in
      let fits : length bytes + length first ≤ length value =
      omega (
        arith,
        length-append bytes (concat (first ∷ second ∷ others)),
        length-append first (concat (second ∷ others)),
      ) in
      let left = chain_commands (put_header p1 p2) (second ∷ others) in
      elim (ends_first mid new _ left status ends) [
        | inl (answered, other) ↦
            elim (piece_step old mid new first bytes value status gathering answered fits) [
              | inl taken ↦ absurd (other taken.0)
              | inr refused ↦ refused.1
            ]
        | inr (next, answered, rest) ↦
            elim (piece_step old mid next first bytes value ok gathering answered fits) [
              | inl taken ↦ subst (λ v. IsCarriedOut old (Put tag v) status [] new)
                  (append_assoc bytes first (concat (second ∷ others)))
                  (all_of_them second others old next new (bytes ++ first) status taken.1 rest)
              | inr refused ↦ absurd (refused.0 refl)
            ]
      ]

  suits_idle : (pending : Pending) → is_idle pending ≡ true → Suits pending []
  suits_idle NothingPending idle = refl
  suits_idle (ChainPending q1 q2 came) idle = absurd (true≢false (sym idle))
  suits_idle (ResponsePending left) idle = refl

  -- The commands of a value's chain, up to the first whose status is not 9000, are the put of the
  -- value.
  pub chain_is_put : (old new : CardState) (value : List ℕ) (pieces : List (List ℕ))
      (status : StatusWord) → is_idle old.pending ≡ true → IsPieces value pieces
      → EndsWith old (chain_commands (put_header p1 p2) pieces) new status
      → IsCarriedOut old (Put tag value) status [] new
  chain_is_put old new value pieces status idle are ends =
      let (first, others, pieces_are, whole) = some_piece value pieces are in
      let begun : IsGathering old old [] =
      record { same = (refl, refl); suits = suits_idle old.pending idle } in
      subst (λ v. IsCarriedOut old (Put tag v) status [] new) (ap concat (sym pieces_are) ∙ whole)
      (all_of_them first others old old new [] status begun
      (subst (λ p. EndsWith old (chain_commands (put_header p1 p2) p) new status) pieces_are ends))

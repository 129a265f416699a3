-- What becomes of each response that a card is given.
use Rattle.std.proofs.Common.{append_assoc, ◌≡◌, ◌∙◌, ◌⊎◌, ℕ, ◌<◌, ◌≤◌, List, [], ◌∷◌, ◌++◌, length, Option, Some, None, Bool, true, false, inl, inr, refl, sym, ap, subst, arith}
use Rattle.std.specs.List.{AllByRecursion}
use Rattle.apdu_core.specs.declared.header.Header.{Header}
use Rattle.apdu_core.specs.CommandBytes.{Command}
use Rattle.apdu_core.specs.StatusWord.{StatusWord, corrects, count}
use Rattle.std.specs.Prelude.{if◌then◌else◌}
use Rattle.t0_core.specs.CardSide.{Stage}
use Rattle.t0_core.specs.Dialogue.{Body, Dialogue, IsDialogue, body_characters, characters}
use Rattle.std.specs.Prelude.{drop}
use Rattle.t0_core.specs.Front.{Front, In_header, In_body, After_first, IsBegun, IsFront, front_characters}
use Rattle.t0_core.specs.History.{Event, IsItem, Item, Whole, Cut_off, events_of, passed}
use Rattle.t0_core.specs.Meaning.{Prepared, Tpdu, tpdu_of}
use Rattle.command_card.specs.declared.application.TheConstants.{OWN_RESPONSE_LIMIT}
use Rattle.std.specs.Prelude.{is_some}
use Rattle.std.proofs.lemmas.Bool.{true≢false}
use Rattle.apdu_core.specs.HeaderBytes.{ins_is_valid}
use Rattle.command_card.specs.Carrying.{asking, taking, Did, IsTooLong, Makes, out_of_memory}
use Rattle.command_card.specs.Deeds.{IsCarriedOut, IsWithout, StepsBy, command_in, outcome_in}
use Rattle.command_card.specs.declared.given.Directions.{Directions}
use Rattle.command_card.specs.Given.{Answers, GivenState, Gives, IsGiven, after_drop, go_to_card, settled, takes_data, without_answer}
use Rattle.command_card.specs.Giving.{Decided, Gave, Giving, Lends, Responded, Shows, Tells, TookBack}
use Rattle.command_card.specs.Settling.{AnswersBy, AreAllowed, AreMet, ComesOf, Empty, GoesOutWhole, Holding, Holds, IsAllowed, IsAnswered, IsEmpty, IsFor, IsHeld, IsMet, IsUnanswered, IsUnshown, Settled, answer_in, before_after, before_by, dropping, forgetting, held_after, held_by, settled_amid, settles, settling, tpdu_before}
use Rattle.command_card.specs.AtT1.{Carries, CarriesTold, Fetches, HandsOut, RespondsBy, may_bring}
use Rattle.command_card.specs.AtT1.{shown as shown_whole}
use Rattle.command_card.specs.Lending.{AreLent, Happening, IsStretch, LeadsLent, Lent, On_line, Passes, RunsLent, Stretch, lent_of, line_of}
use Rattle.command_card.specs.Meaning.{Does, Kind, Invalid, Hands, Unfetched, Takes, Asks, kind_in, kind_of}
use Rattle.command_card.specs.State.{CardState, Hand, Left, Nothing_left, For_fetch, For_repeat, fetch_left, is_fetch, pending_for}
use Rattle.command_card.specs.View.{after_reset}
use Rattle.command_card.specs.Wanted.{is_known}
use Rattle.command_card.proofs.DeedLemmas.{IsSaid, is_command, never_repeats, tells}
use Rattle.command_card.proofs.SentLemmas.{same_data, same_header}

-- ---- what is done amid a dialogue

-- a response that was given is not too long
abbrev Fits : Holding → Type 0
Fits (Empty settled) = Unit {0}
Fits (Holds h) = length h.answer.bytes ≤ OWN_RESPONSE_LIMIT

is_empty : (held : Holding) → answer_in held ≡ None → IsEmpty held
is_empty (Empty settled) is = tt
is_empty (Holds h) is = absurd (cc)

-- the same in another state of the application
held_still : (old new : GivenState) (held : Holding) → new.given ≡ old.given
    → new.settled ≡ old.settled → IsHeld old held → IsHeld new held
held_still old new held given settled_is is = (given ∙ is.0, settled_is ∙ is.1)

same_held : (old new : GivenState) (held : Holding) → new ≡ old → IsHeld old held
    → IsHeld new held
same_held old new held same is = held_still old new held (ap (λ (s : GivenState). s.given) same)
    (ap (λ (s : GivenState). s.settled) same) is

-- what holds without what was shown, and after a drop
record Kept (s : GivenState) (held : Holding) : Type 0 where
  is : IsHeld s held
  fits : Fits held
  unshown : IsUnshown held

forgets : (s : GivenState) (held : Holding) → IsHeld s held → Fits held
    → Kept s (forgetting held)
forgets s (Empty settled) is fits = record { is = is; fits = tt; unshown = tt }
forgets s (Holds h) is fits = record { is = is; fits = fits; unshown = refl }

drops : (old new : GivenState) (held : Holding) → IsHeld old held → new.given ≡ None
    → new.settled ≡ old.settled → Kept new (dropping held)
drops old new (Empty settled) is gone same =
    record { is = (gone, same ∙ is.1); fits = tt; unshown = tt }
drops old new (Holds h) is gone same =
    record { is = (gone, same ∙ is.1); fits = tt; unshown = tt }

settles_on : (new : GivenState) (held : Holding) → IsHeld new (settling held)
    → Kept new (settling held)
settles_on new (Empty settled) is = record { is = is; fits = tt; unshown = tt }
settles_on new (Holds h) is = record { is = is; fits = tt; unshown = tt }

-- what is done to the card once, by what it holds
record StepOf (before : Option Tpdu) (held : Holding) (k : Giving) (new : CardState GivenState)
    : Type 0 where
  is_allowed : IsAllowed held k
  given_is : IsHeld new.app (held_by held k)
  fits : Fits (held_by held k)
  said : IsSaid new.left (before_by before k)

-- ---- whole commands

fetched_none : (rest : List ℕ) (status : StatusWord) → corrects status ≡ None
    → IsSaid (fetch_left rest status) None
fetched_none [] status own = tt
fetched_none (b ∷ rest) status own = (tt, own)

none_said : (l : Left) → l ≡ Nothing_left → IsSaid l None
none_said l is = subst (λ x. IsSaid x None) (sym is) tt

-- the state after a GET RESPONSE, and what it brings
fetch_step : (left : Left) (before : Option Tpdu) (old new : CardState GivenState) (n : ℕ)
    (response : List ℕ) → IsSaid left before → Fetches old n response new left
    → (new.app ≡ old.app) × IsSaid new.left None
fetch_step Nothing_left before old new n response said is =
    (is.same, none_said new.left is.none_left)
fetch_step (For_fetch bytes status) before old new n response said (same, hands) = (
  same,
  subst (λ l. IsSaid l None) (sym hands.left_is) (fetched_none (drop n bytes) status said.1),
)
fetch_step (For_repeat h bytes status) before old new n response said is =
    (is.same, none_said new.left is.none_left)

-- the whole command takes the response that is held
record Carried (held : Holding) (c : Command) (response : List ℕ)
    (new : CardState GivenState) : Type 0 where
  brings : GoesOutWhole held c response
  gone : IsHeld new.app (Empty true)
  said : IsSaid new.left None

carry_step : (held : Holding) (told c : Command) (old new : CardState GivenState)
    (response : List ℕ) → old.app.given ≡ answer_in held → Fits held
    → Carries Gives old told (may_bring c.le) response new → Carried held c response new
carry_step held told c old new response is fits carries = by held is fits carries.makes
  where
    by : (h : Holding) → old.app.given ≡ answer_in h → Fits h
        → Makes Gives old.app told carries.bytes carries.status new.app
        → Carried h c response new
    by h is f (inr (same, empty, sw, long)) = absurd (never h is f)
      where
        never : (h : Holding) → old.app.given ≡ answer_in h → Fits h → ⊥
        never (Empty settled) is f =
            subst (λ g. IsGiven g long.did.response long.did.status) is long.acts.0
        never (Holds x) is f =
            let same = subst (λ g. IsGiven g long.did.response long.did.status) is long.acts.0 in
            omega (arith, long.long, f, ap length same.0)
    by (Empty settled) is f (inl (gives, own, few)) =
        absurd (subst (λ g. IsGiven g carries.bytes carries.status) is gives.0)
    by (Holds h) is f (inl (gives, own, few)) =
        let same = subst (λ g. IsGiven g carries.bytes carries.status) is gives.0 in record {
          brings = (
            new.left,
            subst (λ b. HandsOut b h.answer.status (may_bring c.le) response new.left) same.0
                (subst (λ w. HandsOut carries.bytes w (may_bring c.le) response new.left) same.1
                carries.hands),
          );
          gone = (
            ap (λ (s : GivenState). s.given) gives.1,
            ap (λ (s : GivenState). s.settled) gives.1,
          );
          said = subst (λ l. IsSaid l None) (sym carries.hands.left_is)
              (fetched_none (drop (may_bring c.le) carries.bytes) carries.status own.1);
        }

-- `Responds`, by what the header is and what the application is shown
abbrev RespondsIn : Bool → Option Command → CardState GivenState → Command → List ℕ
    → CardState GivenState → Type 0
RespondsIn true o old c response new = Fetches old (may_bring c.le) response new old.left
RespondsIn false o old c response new = CarriesTold Gives old c response new o

in_kind : (f : Bool) (o : Option Command) (old : CardState GivenState) (c : Command)
    (response : List ℕ) (new : CardState GivenState)
    → o ≡ shown_whole (takes_data old.app c.header) c.header c.content c.le
    → RespondsBy takes_data Gives old c response new f → RespondsIn f o old c response new
in_kind true o old c response new is does = does
in_kind false o old c response new is does =
    subst (λ x. CarriesTold Gives old c response new x) (sym is) does

responded : (c : Command) (reached f : Bool) (o : Option Command) (response : List ℕ)
    (before : Option Tpdu) (held : Holding) (old mid : CardState GivenState)
    (app : GivenState) → reached ≡ (if f then false else is_some o)
    → IsHeld old.app held → Fits held → IsSaid old.left before
    → RespondsIn f o old c response (record { app = app; left = mid.left })
    → mid.app ≡ without_answer app → StepOf before held (Responded c reached response) mid
responded c true true o response before held old mid app r is fits said does mid_is =
    absurd (cc)
responded c true false None response before held old mid app r is fits said does mid_is =
    absurd (cc)
responded c true false (Some told) response before held old mid app r is fits said does mid_is =
    let one = carry_step held told c old (record { app = app; left = mid.left }) response is.0
    fits does in record {
      is_allowed = one.brings;
      given_is = held_still app mid.app (Empty true) (ap (λ (s : GivenState). s.given) mid_is)
          (ap (λ (s : GivenState). s.settled) mid_is) one.gone;
      fits = tt;
      said = one.said;
    }
responded c false true o response before held old mid app r is fits said does mid_is =
    let one = fetch_step old.left before old (record { app = app; left = mid.left })
    (may_bring c.le) response said does in
    let kept = forgets mid.app held (held_still app mid.app held
    (ap (λ (s : GivenState). s.given) mid_is) (ap (λ (s : GivenState). s.settled) mid_is)
    (same_held old.app app held one.0 is)) fits in record {
      is_allowed = tt;
      given_is = kept.is;
      fits = kept.fits;
      said = one.1;
    }
responded c false false None response before held old mid app r is fits said does mid_is =
    let kept = forgets mid.app held (held_still app mid.app held
    (ap (λ (s : GivenState). s.given) mid_is) (ap (λ (s : GivenState). s.settled) mid_is)
    (same_held old.app app held does.same is)) fits in record {
      is_allowed = tt;
      given_is = kept.is;
      fits = kept.fits;
      said = none_said mid.left does.none_left;
    }
responded c false false (Some told) response before held old mid app r is fits said does mid_is =
    absurd (cc)

step : (before : Option Tpdu) (held : Holding) (k : Giving) (front : Front)
    (old mid : CardState GivenState) → IsHeld old.app held → Fits held
    → IsSaid old.left before → Lends k front old mid → StepOf before held k mid
step before held (Gave shown a) front old mid is fits said (shows, none, own, few, mid_is) =
    record {
      is_allowed = is_empty held (sym is.0 ∙ none);
      given_is = (
        ap (λ (s : CardState GivenState). s.app.given) mid_is,
        ap (λ (s : CardState GivenState). s.app.settled) mid_is,
      );
      fits = few;
      said = subst (λ l. IsSaid l before)
          (sym (ap (λ (s : CardState GivenState). s.left) mid_is)) said;
    }
step before held (Decided to_card) front old mid is fits said (unknown, mid_is) = record {
  is_allowed = tt;
  given_is = held_still old.app mid.app held
      (ap (λ (s : CardState GivenState). s.app.given) mid_is)
      (ap (λ (s : CardState GivenState). s.app.settled) mid_is) is;
  fits = fits;
  said = subst (λ l. IsSaid l before)
      (sym (ap (λ (s : CardState GivenState). s.left) mid_is)) said;
}
step before held TookBack front old mid is fits said mid_is =
    let kept = drops old.app mid.app held is
    (ap (λ (s : CardState GivenState). s.app.given) mid_is)
    (ap (λ (s : CardState GivenState). s.app.settled) mid_is) in record {
      is_allowed = tt;
      given_is = kept.is;
      fits = kept.fits;
      said = subst (λ l. IsSaid l before)
          (sym (ap (λ (s : CardState GivenState). s.left) mid_is)) said;
    }
step before held (Responded c reached response) front old mid is fits said
    (reached_is, (app, does, mid_is)) =
    responded c reached (is_fetch c.header)
    (shown_whole (takes_data old.app c.header) c.header c.content c.le) response before held old
    mid app reached_is is fits said (in_kind (is_fetch c.header)
    (shown_whole (takes_data old.app c.header) c.header c.content c.le) old c response
    (record { app = app; left = mid.left }) refl does) mid_is

-- what is done to the card amid a dialogue
record Walk (before : Option Tpdu) (held : Holding) (ks : List Giving)
    (new : CardState GivenState) : Type 0 where
  are_allowed : AreAllowed held ks
  given_is : IsHeld new.app (held_after held ks)
  fits : Fits (held_after held ks)
  said : IsSaid new.left (before_after before ks)

walk : (so : List Event) (old new : CardState GivenState) (before : Option Tpdu)
    (held : Holding) (hs : List (Happening Giving)) → IsHeld old.app held
    → Fits held → IsSaid old.left before → AreLent Lends so old hs new
    → Walk before held (lent_of hs) new
walk so old new before held [] is fits said same = record {
  are_allowed = tt;
  given_is = same_held old.app new.app held (ap (λ (s : CardState GivenState). s.app) same) is;
  fits = fits;
  said = subst (λ l. IsSaid l before)
      (sym (ap (λ (s : CardState GivenState). s.left) same)) said;
}
walk so old new before held (On_line e ∷ hs) is fits said lent =
    walk (so ++ e ∷ []) old new before held hs is fits said lent
walk so old new before held (Lent k ∷ hs) is fits said (front, mid, begun, so_is, lends, lent) =
    let one = step before held k front old mid is fits said lends in
    let r = walk so mid new (before_by before k) (held_by held k) hs one.given_is one.fits one.said
    lent in record {
      are_allowed = (one.is_allowed, r.are_allowed);
      given_is = r.given_is;
      fits = r.fits;
      said = r.said;
    }

-- ---- the command that was shown

-- what is shown to the caller is the command of the whole TPDU
abbrev IsTold : Tpdu → Command → Kind → Type 0
IsTold t c Takes = c ≡ command_in true t
IsTold t c Asks = c ≡ command_in false t
IsTold t c other = ⊥

told : (k : Kind) (c : Command) (b : Body) (d : Dialogue) (more : List Event) → IsDialogue d
    → IsBegun b → d.body.header ≡ b.header → d.body.p3 ≡ b.p3
    → passed (characters d) ≡ passed (body_characters b) ++ more → Tells b c k
    → IsTold (tpdu_of d) c k
told Invalid c b d more dialogue begun header_is p3_is is tells = tells
told (Hands hand) c b d more dialogue begun header_is p3_is is tells = tells
told Unfetched c b d more dialogue begun header_is p3_is is tells = tells
told Asks c b d more dialogue begun header_is p3_is is tells =
    tells ∙ ap (λ h. asking h (count b.p3)) (sym header_is)
    ∙ ap (λ n. asking d.body.header (count n)) (sym p3_is)
told Takes c b d more dialogue begun header_is p3_is is (takes, long, to_card) =
    takes ∙ ap (λ h. taking h b.moved) (sym header_is)
    ∙ ap (λ xs. taking d.body.header xs)
    (sym (same_data b d more begun dialogue long to_card header_is p3_is is))

-- what a header is, by what the card knows and what is pending
abbrev kind_at : Directions → Left → Tpdu → Kind
kind_at directions left t = kind_of (ins_is_valid t.header.ins) (pending_for left t.header t.p3)
    (is_fetch t.header) (go_to_card directions t.header.ins)

-- what was shown for a response is the command of this TPDU
abbrev SuitsShown : Tpdu → Directions → Left → Option Command → Type 0
SuitsShown t directions left None = Unit {0}
SuitsShown t directions left (Some c) =
    (is_known directions ≡ true) × IsTold t c (kind_at directions left t)

abbrev Suits : Tpdu → CardState GivenState → Holding → Type 0
Suits t s (Empty settled) = Unit {0}
Suits t s (Holds h) = SuitsShown t s.app.directions s.left h.shown

suits_still : (t : Tpdu) (shown : Option Command) (ds es : Directions) (l m : Left) → es ≡ ds
    → m ≡ l → SuitsShown t ds l shown → SuitsShown t es m shown
suits_still t shown ds es l m directions left is =
    subst (λ x. SuitsShown t x m shown) (sym directions)
    (subst (λ x. SuitsShown t ds x shown) (sym left) is)

shows_suits : (shown : Option Command) (front : Front) (s : CardState GivenState) (d : Dialogue)
    (more : List Event) → IsDialogue d → IsFront front
    → passed (characters d) ≡ passed (front_characters front) ++ more → Shows shown front s
    → SuitsShown (tpdu_of d) s.app.directions s.left shown
shows_suits None front s d more dialogue begun is shows = tt
shows_suits (Some c) (In_header bytes) s d more dialogue begun is shows = absurd shows
shows_suits (Some c) (After_first b sw1) s d more dialogue begun is shows = absurd shows
shows_suits (Some c) (In_body b) s d more dialogue begun is (known, tells) =
    let same = same_header d.body.header b.header d.body.p3 b.p3 _ _ is in
    let Is : Header → ℕ → Type 0 = λ h p. Tells b c (kind_in takes_data s h p) in
    let at_p3 : Is b.header d.body.p3 = subst (Is b.header) (sym same.1) tells in
    let whole = subst (λ h. Is h d.body.p3) (sym same.0) at_p3 in (
      known,
      told (kind_at s.app.directions s.left (tpdu_of d)) c b d more dialogue begun same.0
          same.1 is whole,
    )

suits_decided : (t : Tpdu) (held : Holding) (old mid : CardState GivenState)
    → is_known old.app.directions ≡ false → Suits t old held → Suits t mid held
suits_decided t (Empty settled) old mid unknown suits = tt
suits_decided t (Holds h) old mid unknown suits = by h.shown suits where
  by : (shown : Option Command) → SuitsShown t old.app.directions old.left shown
      → SuitsShown t mid.app.directions mid.left shown
  by None is = tt
  by (Some c) (known, is) = absurd (true≢false (sym known ∙ unknown))

unshown_suits : (t : Tpdu) (s : CardState GivenState) (held : Holding) → IsUnshown held
    → Suits t s held
unshown_suits t s (Empty settled) is = tt
unshown_suits t s (Holds h) is =
    subst (λ x. SuitsShown t s.app.directions s.left x) (sym is) tt

suits_one : (held : Holding) (k : Giving) (front : Front) (old mid : CardState GivenState)
    (d : Dialogue) (more : List Event) → IsDialogue d → IsFront front
    → passed (characters d) ≡ passed (front_characters front) ++ more
    → Suits (tpdu_of d) old held → Lends k front old mid → Suits (tpdu_of d) mid (held_by held k)
suits_one held (Gave shown a) front old mid d more dialogue begun is suits
    (shows, none, own, few, mid_is) =
    suits_still (tpdu_of d) shown old.app.directions mid.app.directions old.left mid.left
    (ap (λ (s : CardState GivenState). s.app.directions) mid_is)
    (ap (λ (s : CardState GivenState). s.left) mid_is)
    (shows_suits shown front old d more dialogue begun is shows)
suits_one held (Decided to_card) front old mid d more dialogue begun is suits (unknown, mid_is) =
    suits_decided (tpdu_of d) held old mid unknown suits
suits_one (Empty settled) TookBack front old mid d more dialogue begun is suits mid_is = tt
suits_one (Holds h) TookBack front old mid d more dialogue begun is suits mid_is = tt
suits_one held (Responded c true response) front old mid d more dialogue begun is suits does = tt
suits_one (Empty settled) (Responded c false response) front old mid d more dialogue begun is
    suits does = tt
suits_one (Holds h) (Responded c false response) front old mid d more dialogue begun is suits
    does = tt

-- what is held at the end of a dialogue suits it
suits_on : (so : List Event) (old new : CardState GivenState) (held : Holding)
    (hs : List (Happening Giving)) (rest : List Event) (d : Dialogue) → IsDialogue d
    → passed (characters d) ≡ so ++ (line_of hs ++ rest) → Suits (tpdu_of d) old held
    → AreLent Lends so old hs new → Suits (tpdu_of d) new (held_after held (lent_of hs))
suits_on so old new held [] rest d dialogue is suits same =
    subst (λ (s : CardState GivenState). Suits (tpdu_of d) s held) (sym same) suits
suits_on so old new held (On_line e ∷ hs) rest d dialogue is suits lent =
    suits_on (so ++ e ∷ []) old new held hs rest d dialogue
    (is ∙ sym (append_assoc so (e ∷ []) (line_of hs ++ rest))) suits lent
suits_on so old new held (Lent k ∷ hs) rest d dialogue is suits
    (front, mid, begun, so_is, lends, lent) =
    suits_on so mid new (held_by held k) hs rest d dialogue is
    (suits_one held k front old mid d (line_of hs ++ rest) dialogue begun
    (is ∙ ap (λ es. es ++ (line_of hs ++ rest)) so_is) suits lends) lent

-- the header of a command that was shown
decode : (v : Bool) (p : Option Hand) (f k : Bool) (t : Tpdu) (c : Command)
    → IsTold t c (kind_of v p f k)
    → (v ≡ true) × (p ≡ None) × (f ≡ false) × (c ≡ command_in k t)
decode false p f k t c is = absurd is
decode true (Some hand) f k t c is = absurd is
decode true None true k t c is = absurd is
decode true None false true t c is = (refl, refl, refl, is)
decode true None false false t c is = (refl, refl, refl, is)

-- it is a command, in the direction that the card knows
shown_command : (t : Tpdu) (s : CardState GivenState) (before : Option Tpdu) (c : Command)
    → IsSaid s.left before → IsTold t c (kind_at s.app.directions s.left t)
    → (IsWithout before t → ⊥) × (c ≡ command_in (takes_data s.app t.header) t)
shown_command t s before c said is =
    let (valid, none, fetch, same) = decode (ins_is_valid t.header.ins)
    (pending_for s.left t.header t.p3) (is_fetch t.header)
    (takes_data s.app t.header) t c is in
    (is_command before t valid fetch (never_repeats s.left before t said none fetch), same)

-- a response for which a command was shown is not left by what is no command
unshown_left : (t : Tpdu) (s : CardState GivenState) (before : Option Tpdu) (held : Holding)
    → IsSaid s.left before → Suits t s held → IsWithout before t → IsUnshown held
unshown_left t s before (Empty settled) said suits without = tt
unshown_left t s before (Holds h) said suits without = by h.shown suits where
  by : (shown : Option Command) → SuitsShown t s.app.directions s.left shown → shown ≡ None
  by None is = refl
  by (Some c) (known, is) = absurd ((shown_command t s before c said is).0 without)

-- a command gets the response that was given for it
abbrev IsForIt : Bool → Tpdu → Holding → Type 0
IsForIt to_card t (Empty settled) = Unit {0}
IsForIt to_card t (Holds h) = IsFor to_card t h.shown

for_it : (t : Tpdu) (s : CardState GivenState) (before : Option Tpdu) (held : Holding)
    → IsSaid s.left before → Suits t s held → IsForIt (takes_data s.app t.header) t held
for_it t s before (Empty settled) said suits = tt
for_it t s before (Holds h) said suits = by h.shown suits where
  by : (shown : Option Command) → SuitsShown t s.app.directions s.left shown
      → IsFor (takes_data s.app t.header) t shown
  by None is = tt
  by (Some c) (known, is) = (shown_command t s before c said is).1

-- ---- one response after another

none_received : (to_card : Bool) (t : Tpdu) (sw : StatusWord) (cut : ℕ)
    → ((outcome_in to_card t [] sw cut).status ≡ sw)
    × ((outcome_in to_card t [] sw cut).received ≡ [])
none_received true t sw cut = (refl, refl)
none_received false t sw cut = (refl, refl)

-- what one command brings and leaves
abbrev Answered : Bool → Holding → Tpdu → GivenState → GivenState → Type 0
Answered strict held t old new = (IsAnswered held t × IsHeld new (settling held))
    ⊎ ((strict ≡ false) × IsUnanswered t × (new ≡ old))

-- what became of each
record Met (strict : Bool) (before : Option Tpdu) (held : Holding)
    (stretches : List (Stretch Giving)) (last : CardState GivenState) : Type 0 where
  done : List Settled
  left : Holding
  are : AreMet strict before held stretches done left
  given_is : IsHeld last.app left
  fits : Fits left
  before_left : Option Tpdu
  said : IsSaid last.left before_left

module _ (strict : Bool) (Act : GivenState → Did → GivenState → Type 0)
    (answers : (old new : GivenState) (did : Did) → Act old did new → AnswersBy strict old did new)
  where
    -- no response is too long
    short : (old : GivenState) (held : Holding) (c : Command) → old.given ≡ answer_in held
        → Fits held → IsTooLong Act old c → ⊥
    short old held c is fits l = by (answers old l.next l.did l.acts)
      where
        given : (h : Holding) → Fits h
            → IsGiven (answer_in h) l.did.response l.did.status → ⊥
        given (Empty settled) f is = is
        given (Holds h) f is = omega (arith, l.long, f, ap length is.0)

        by : AnswersBy strict old l.did l.next → ⊥
        by (inl gives) = given held fits
            (subst (λ g. IsGiven g l.did.response l.did.status) is gives.0)
        by (inr (none, did_is, same)) =
            let less : OWN_RESPONSE_LIMIT < length (out_of_memory l.did.command).response =
            subst (λ (d : Did). OWN_RESPONSE_LIMIT < length d.response) did_is l.long in
            omega (arith, less)

    carried : (to_card : Bool) (old : GivenState) (t : Tpdu) (new : GivenState)
        (held : Holding) → IsHeld old held → Fits held → IsForIt to_card t held
        → IsCarriedOut Act to_card old t new → Answered strict held t old new
    carried to_card old t new held is fits for c = by c.makes
      where
        brings : (h : Holding) → IsForIt to_card t h
            → IsGiven (answer_in h) c.response c.status → IsHeld new (Empty true)
            → Answered strict h t old new
        brings (Empty settled) it is gone = absurd is
        brings (Holds h) it (bytes_are, status_is) gone = inl (
          record {
            to_card = to_card;
            cut = c.cut;
            is_cut = c.is_cut;
            is_for = it;
            has_data = c.has_data;
            received_is = c.received_is
                ∙ ap (λ r. (outcome_in to_card t r c.status c.cut).received) bytes_are
                ∙ ap (λ s. (outcome_in to_card t h.answer.bytes s c.cut).received) status_is;
            status_is = c.status_is
                ∙ ap (λ r. (outcome_in to_card t r c.status c.cut).status) bytes_are
                ∙ ap (λ s. (outcome_in to_card t h.answer.bytes s c.cut).status) status_is;
          },
          gone,
        )

        unanswered : c.response ≡ [] → c.status ≡ (0x65, 0x81) → IsUnanswered t
        unanswered empty sw =
            let n = none_received to_card t c.status c.cut in (
              c.status_is ∙ ap (λ r. (outcome_in to_card t r c.status c.cut).status) empty
                  ∙ n.0 ∙ sw,
              c.received_is ∙ ap (λ r. (outcome_in to_card t r c.status c.cut).received) empty
                  ∙ n.1,
            )

        refused : (v : Bool) (h : Holding) → v ≡ strict → IsHeld old h
            → (strict ≡ true → old.given ≡ None) → IsUnanswered t → new ≡ old
            → Answered strict h t old new
        refused v (Empty settled) v_is given_is none without same =
            inl (without, same_held old new (Empty settled) same given_is)
        refused true (Holds h) v_is given_is none without same =
            let no : None ≡ Some h.answer = sym (none (sym v_is)) ∙ given_is.0 in absurd (cc)
        refused false (Holds h) v_is given_is none without same = inr (sym v_is, without, same)

        by : Makes Act old (command_in to_card t) c.response c.status new
            → Answered strict held t old new
        by (inr (same, empty, sw, long)) =
            absurd (short old held (command_in to_card t) is.0 fits long)
        by (inl (acts, own, few)) = of (answers old new (record {
          command = command_in to_card t;
          response = c.response;
          status = c.status;
        }) acts)
          where
            of : AnswersBy strict old (record {
              command = command_in to_card t;
              response = c.response;
              status = c.status;
            }) new → Answered strict held t old new
            of (inl gives) = brings held for
                (subst (λ g. IsGiven g c.response c.status) is.0 gives.0)
                (same_held (settled old) new (Empty true) gives.1 (refl, refl))
            of (inr (none, did_is, same)) = refused strict held refl is none
                (unanswered (ap (λ (d : Did). d.response) did_is)
                (ap (λ (d : Did). d.status) did_is)) same

    -- what becomes of the rest, after an item
    abbrev Rests : Option Tpdu → CardState GivenState → List (Stretch Giving)
        → CardState GivenState → Type 0
    Rests before mid ss last = (held : Holding) → IsHeld mid.app held → Fits held
        → IsUnshown held → IsSaid mid.left before → Met strict before held ss last

    -- what becomes of what is held at the end of an item, and of the rest
    record MetAt (before : Option Tpdu) (it : Item) (held : Holding)
        (ss : List (Stretch Giving)) (last : CardState GivenState) : Type 0 where
      done : List Settled
      left : Holding
      is : IsMet strict before held it done
          (λ now others. AreMet strict (tpdu_before it) now ss others left)
      given_is : IsHeld last.app left
      fits : Fits left
      before_left : Option Tpdu
      said : IsSaid last.left before_left

    whole : (d : Dialogue) (before : Option Tpdu) (held : Holding)
        (ready mid last : CardState GivenState) (ss : List (Stretch Giving))
        → IsHeld ready.app held → Fits held → Suits (tpdu_of d) ready held
        → IsSaid ready.left before → IsSaid mid.left (Some (tpdu_of d))
        → StepsBy takes_data Act before ready.app (tpdu_of d) mid.app
        → Rests (Some (tpdu_of d)) mid ss last → MetAt before (Whole d) held ss last
    whole d before held ready mid last ss is fits suits said on (inl (without, same)) rest =
        let unshown = unshown_left (tpdu_of d) ready before held said suits without in
        let r = rest held (same_held ready.app mid.app held same is) fits unshown on in record {
          done = r.done;
          left = r.left;
          is = inl (without, unshown, r.are);
          given_is = r.given_is;
          fits = r.fits;
          before_left = r.before_left;
          said = r.said;
        }
    whole d before held ready mid last ss is fits suits said on (inr (other, c)) rest =
        by (carried (takes_data ready.app d.body.header) ready.app (tpdu_of d) mid.app held is fits
        (for_it (tpdu_of d) ready before held said suits) c)
      where
        by : Answered strict held (tpdu_of d) ready.app mid.app
            → MetAt before (Whole d) held ss last
        by (inl (answered, now)) =
            let kept = settles_on mid.app held now in
            let r = rest (settling held) now kept.fits kept.unshown on in record {
              done = settles held (tpdu_of d) ++ r.done;
              left = r.left;
              is = inr (inl (other, answered, r.done, refl, r.are));
              given_is = r.given_is;
              fits = r.fits;
              before_left = r.before_left;
              said = r.said;
            }
        by (inr (lax, without, same)) =
            let kept = forgets mid.app held (same_held ready.app mid.app held same is) fits in
            let r = rest (forgetting held) kept.is kept.fits kept.unshown on in record {
              done = r.done;
              left = r.left;
              is = inr (inr (lax, other, without, r.are));
              given_is = r.given_is;
              fits = r.fits;
              before_left = r.before_left;
              said = r.said;
            }

    ended : (it : Item) (before : Option Tpdu) (held : Holding) (s : Stretch Giving)
        (old ready mid last : CardState GivenState) (ss : List (Stretch Giving))
        → events_of it ≡ line_of s.before ++ s.last ∷ []
        → IsHeld old.app held → Fits held → IsUnshown held → IsSaid old.left before
        → AreLent Lends [] old s.before ready
        → Passes (Does takes_data Act) (after_reset after_drop) ready it mid
        → Rests (tpdu_before it) mid ss last
        → MetAt (before_after before (lent_of s.before)) it (held_after held (lent_of s.before)) ss
        last
    ended (Cut_off part) before held s old ready mid last ss stretch is fits unshown said lent
        (is_part, mid_is) rest =
        let P : Left → Type 0 = λ l. IsSaid l None in
        let now = held_after held (lent_of s.before) in
        let w = walk [] old ready before held s.before is fits said lent in
        let kept = drops ready.app mid.app now w.given_is
        (ap (λ (x : CardState GivenState). x.app.given) mid_is)
        (ap (λ (x : CardState GivenState). x.app.settled) mid_is) in
        let r = rest (dropping now) kept.is kept.fits kept.unshown
        (subst P (sym (ap (λ (x : CardState GivenState). x.left) mid_is)) tt) in record {
          done = r.done;
          left = r.left;
          is = r.are;
          given_is = r.given_is;
          fits = r.fits;
          before_left = r.before_left;
          said = r.said;
        }
    ended (Whole d) before held s old ready mid last ss stretch is fits unshown said lent
        (plan, under, does) rest =
        let ks = lent_of s.before in
        let w = walk [] old ready before held s.before is fits said lent in
        let t = tells takes_data Act after_drop ready mid (before_after before ks) plan.cut
        (tpdu_of d) under.in_range w.said does in
        whole d (before_after before ks) (held_after held ks) ready mid last ss w.given_is w.fits
        (suits_on [] old ready held s.before (s.last ∷ []) d under.is_dialogue stretch
        (unshown_suits (tpdu_of d) old held unshown) lent) w.said t.said t.steps rest

    met : (stretches : List (Stretch Giving)) (before : Option Tpdu) (held : Holding)
        (old last : CardState GivenState) → IsHeld old.app held → Fits held
        → IsUnshown held → IsSaid old.left before
        → RunsLent (Does takes_data Act) (after_reset after_drop) Lends old stretches last
        → Met strict before held stretches last
    met [] before held old last is fits unshown said same = record {
      done = [];
      left = held;
      are = (refl, refl);
      given_is = same_held old.app last.app held
          (ap (λ (s : CardState GivenState). s.app) same) is;
      fits = fits;
      before_left = before;
      said = subst (λ l. IsSaid l before)
          (sym (ap (λ (s : CardState GivenState). s.left) same)) said;
    }
    met (s ∷ ss) before held old last is fits unshown said
        (ready, mid, stretch, lent, passes, runs) =
        let w = walk [] old ready before held s.before is fits said lent in
        let m = ended s.item before held s old ready mid last ss stretch is fits unshown said lent
        passes (λ now now_is now_fits none on. met ss (tpdu_before s.item) now mid last now_is
        now_fits none on runs) in record {
          done = settled_amid held (lent_of s.before) ++ m.done;
          left = m.left;
          before_left = m.before_left;
          said = m.said;
          are = (w.are_allowed, m.done, refl, m.is);
          given_is = m.given_is;
          fits = m.fits;
        }

    are_items : (stretches : List (Stretch Giving)) (first last : CardState GivenState)
        → RunsLent (Does takes_data Act) (after_reset after_drop) Lends first stretches last
        → AllByRecursion (λ s. IsItem s.item) stretches × AllByRecursion IsStretch stretches
    are_items [] first last runs = (tt, tt)
    are_items (s ∷ ss) first last (ready, mid, stretch, lent, passes, runs) =
        let others = are_items ss mid last runs in
        ((by s.item passes, others.0), (stretch, others.1))
      where
        by : (it : Item) → Passes (Does takes_data Act) (after_reset after_drop) ready it mid
            → IsItem it
        by (Whole d) (plan, under, does) = (plan, under)
        by (Cut_off part) (is_part, is) = is_part

    pub comes : (first last : CardState GivenState) (hs : List (Happening Giving))
        (prepared : Prepared (CardState GivenState)) (stage : Stage) → first.left ≡ Nothing_left
        → first.app.given ≡ None
        → LeadsLent (Does takes_data Act) (after_reset after_drop) Lends first hs last prepared
        stage → ComesOf strict first.app hs last.app
    comes first last hs prepared stage none unheld led =
        let m = met led.stretches None (Empty first.app.settled) first led.mid (unheld, refl) tt tt
        (subst (λ l. IsSaid l None) (sym none) tt) led.runs in
        let w = walk [] led.mid last m.before_left m.left led.current m.given_is m.fits m.said
        led.are_lent in
        let are = are_items led.stretches first led.mid led.runs in record {
          stretches = led.stretches;
          current = led.current;
          part = front_characters led.front;
          done = m.done;
          held = m.left;
          happenings_are = led.happenings_are;
          are_items = are.0;
          are_stretches = are.1;
          is_part = led.at_front.is_part;
          line_is = led.line_is;
          are_met = m.are;
          are_allowed = w.are_allowed;
          last_is = w.given_is;
        }

-- as the clauses of a card say today
pub today : (old new : GivenState) (did : Did) → Answers old did new → AnswersBy false old did new
today old new did (inl gives) = inl gives
today old new did (inr (is, same)) = inr (λ yes. absurd (cc), is, same)
